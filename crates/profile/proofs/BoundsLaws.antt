-- The fit of what some turns show has a lower bound with each trip, and is a table.
use Rattle.std.proofs.Common.{◌≡◌, refl, sym, ap, subst, ◌∙◌, ℕ, zero, suc, ◌+◌, ◌<◌, ◌≤◌, ◌^◌, inl, inr, ℤ, pos, negsuc, nat_le, true, List, [], ◌∷◌, ◌++◌, length, slice_get, Option, Some, None, arith}
use Rattle.std.specs.Prelude.{option_and_then}
use Rattle.std.specs.List.{All}
use Rattle.std.proofs.lemmas.Bool.{and_parts}
use Rattle.std.proofs.lemmas.Bool.Decides.{nat_tests}
use Rattle.std.proofs.lemmas.List.Elements.{All-contains}
use Rattle.std.proofs.lemmas.Option.{none-some}
use Rattle.plain_lemmas.proofs.ListLaws.{All-slice_get}
use Rattle.affine.specs.Forms.{Affine}
use Rattle.nest_lang.specs.declared.tree.Expr.{Expr}
use Rattle.nest_lang.specs.declared.tree.Head.{Head as LoopHead}
use Rattle.nest_lang.specs.declared.tree.Head.TheVariants as head
use Rattle.nest_lang.specs.declared.tree.Loop.{Loop}
use Rattle.nest_lang.specs.declared.tree.Part.TheVariants.{Head}
use Rattle.nest_lang.specs.declared.state.Outer.{Outer}
use Rattle.nest_lang.specs.Blocks.{block_ref}
use Rattle.nest_lang.specs.Lookups.{plain}
use Rattle.nest_lang.specs.Rules.{loop_keeps, loops_keep}
use Rattle.nest_lang.specs.Stores.{Store}
use Rattle.nest_lang.specs.Traces.{Observation}
use Rattle.nest_lang.proofs.RankLaws.{ranks-are-numbers, present_blocks-have-ranks}
use Rattle.line_fit.specs.Samples.{Sample}
use Rattle.domain.specs.declared.prediction.What.{What}
use Rattle.domain.specs.declared.prediction.What.TheVariants.{Lower, Trip}
use Rattle.domain.specs.declared.table.LoopKind.{LoopKind}
use Rattle.domain.specs.declared.table.LoopKind.TheVariants.{For, While}
use Rattle.domain.specs.Tables.{Table, Level, block_at, level_at, stride_size}
use Rattle.domain.specs.Shapes.{kind_of}
use Rattle.domain.proofs.ShapeLaws.{table_of_nest}
use Rattle.profile.specs.Data.{data_of, samples_at, tube_about, tube_in}
use Rattle.profile.specs.Fits.{HasFit, HasFitAt, IsFitOf}
use Rattle.profile.specs.Reach.{HasI64s, expression_numbers, head_numbers}
use Rattle.profile.specs.TurnLaws.{FitsAreTables, LowersComeWithTrips, observed_in}
use Rattle.profile.proofs.NumberLaws.{I64}
use Rattle.profile.proofs.ReachLaws.{all-each, each-right}
use Rattle.profile.proofs.TripLaws.{trips-stay-within-reach}
use Rattle.profile.proofs.FormReachLaws.{forms-stay-within-reach, in-or-past, kind-at, nth, past-none}
use Rattle.profile.proofs.OneFitLaws.{deep, has-lower, has-trip, inner-head, own}
use Rattle.profile.proofs.ShownBoundLaws.{lowers-come}

-- ---- lower bounds

-- a datum without samples has no form
no-form : (D : ℕ) (samples : List Sample) (form : Option Affine) → HasFit D 0 samples (tube_about form (pos 0) (pos 0)) → samples ≡ [] → form ≡ None
no-form D samples None h none = refl
no-form D samples (Some form) h none = let size : length samples ≡ 0 = ap (λ (xs : List Sample). length xs) none in let some = h.0 in absurd (omega (arith, size, some))

no-samples : (D : ℕ) (samples : List Sample) (form : Option Affine) → HasFit D 0 samples (tube_about form (pos 0) (pos 0)) → form ≡ None → samples ≡ []
no-samples D samples None h none = h
no-samples D samples (Some form) h none = absurd (none-some form (sym none))

-- a loop of that kind is a `for`
for-head : (h : LoopHead) (stride : ℤ) → kind_of h ≡ For stride → (lower : Expr) × (upper : Expr) × (h ≡ head.For lower upper stride)
for-head (head.For lower upper by) stride is = let same : by ≡ stride = for-stride by stride is in (lower, upper, ap (λ (z : ℤ). head.For lower upper z) same)
  where
    stride-of : LoopKind → ℤ
    stride-of (For z) = z
    stride-of While = pos 0

    for-stride : (a b : ℤ) → For a ≡ For b → a ≡ b
    for-stride a b e = ap stride-of e
for-head (head.While condition) stride is = absurd (cc)

module _ (D scalars k c left : ℕ) (loops : List Loop) (o : Outer) (s : Store) (t : Table) (fit : IsFitOf D scalars loops (observed_in k loops o c s left) t) where
  abbrev observations : List Observation
  observations = observed_in k loops o c s left

  inner-lower : (j : ℕ) → suc j < length loops → (l : Loop) → slice_get loops (suc j) ≡ Some l → (stride : ℤ) → (level_at t (suc j)).kind ≡ For stride → (level_at t (suc j)).lower ≡ None → (level_at t (suc j)).trip ≡ None
  inner-lower j within l found stride is none =
      let block = block_ref Head (suc (suc j)) in
      let r = (present_blocks-have-ranks loops block).0 (l, found, inner-head l.head (suc (suc j)) (omega arith)) in
      let at = (ranks-are-numbers loops block r.0).0 r.1 in
      let all = fit.fits r.0 block at in
      let mine = own D scalars loops observations t t fit fit j within r.0 at t fit in
      let lower = subst (λ (x : Option Level). HasFitAt D observations block Lower (tube_about (option_and_then (λ (l : Level). l.lower) x) (pos 0) (pos 0))) mine
      (All-contains (λ (w : What). HasFitAt D observations block w (tube_in t (block_at t r.0) w)) (data_of scalars loops block) Lower all (has-lower D scalars loops observations t t fit fit j within r.0 at)) in
      let trip = subst (λ (x : Option Level). HasFitAt D observations block Trip (tube_about (option_and_then (λ (l : Level). l.trip) x) (pos 0) (pos 0))) mine
      (All-contains (λ (w : What). HasFitAt D observations block w (tube_in t (block_at t r.0) w)) (data_of scalars loops block) Trip all (has-trip D scalars loops observations t t fit fit j within r.0 at)) in
      let of = for-head l.head stride (sym (kind-at t.levels loops (suc j) l fit.shape.levels found) ∙ is) in
      no-form D (samples_at D observations block Trip) (level_at t (suc j)).trip trip
      (lowers-come D (suc (suc j)) plain k loops o c s left of.0 of.1 stride (λ i m here e. subst (λ (x : Loop). x.head ≡ head.For of.0 of.1 stride) (one i m here e) of.2)
      (no-samples D (samples_at D observations block Lower) (level_at t (suc j)).lower lower none))
    where
      one : (i : ℕ) (m : Loop) → slice_get loops i ≡ Some m → 1 + i ≡ suc (suc j) → l ≡ m
      one i m here e = let same : i ≡ suc j = omega (arith, e) in let both : Some l ≡ Some m = sym found ∙ ap (slice_get loops) (sym same) ∙ here in cc

pub lowers-come-with-trips : LowersComeWithTrips
lowers-come-with-trips D scalars k c left loops o s t fit zero stride is none = fit.outermost.1
lowers-come-with-trips D scalars k c left loops o s t fit (suc j) stride is none = elim (in-or-past (suc j) (length loops)) [
  | inr past ↦
      let size = deep D scalars loops (observed_in k loops o c s left) t t fit fit t fit in
      let e : While ≡ For stride = ap (λ (x : Level). x.kind) (sym (past-none t.levels (suc j) (omega (arith, past, size)))) ∙ is in
      absurd (cc)
  | inl less ↦ let l = nth loops (suc j) less in inner-lower D scalars k c left loops o s t fit j less l.0 l.1 stride is none
]

-- ---- tables

stride-small : (h : LoopHead) → All I64 (head_numbers h) → stride_size (kind_of h) ≤ 2 ^ 63
stride-small (head.While condition) h = omega arith
stride-small (head.For lower upper stride) h = small stride (each-right I64 (expression_numbers lower ++ expression_numbers upper) (stride ∷ []) (all-each I64 (head_numbers (head.For lower upper stride)) h)).0
  where
    small : (z : ℤ) → I64 z → stride_size (For z) ≤ 2 ^ 63
    small (pos n) f = let a = f.sfits in omega arith
    small (negsuc n) f = let a = f.sfits in omega arith

few-loops : (loops : List Loop) → loops_keep loops ≡ true → length loops ≤ 6
unfolding loops_keep
few-loops [] h = omega arith
few-loops (l ∷ ls) h = let five : nat_le (length ls) 5 ≡ true = (and_parts (nat_le (length ls) 5) (loop_keeps l ls) h).0 in grind (arith, nat_tests, five)

abbrev IsSmall : Level → Type 0
IsSmall x = stride_size x.kind ≤ 2 ^ 63

pub fits-are-tables : FitsAreTables
fits-are-tables scalars k c left n loops o s t some few keeps numbers store position next near fit =
    table_of_nest scalars loops t few keeps fit.shape strides
    (forms-stay-within-reach (length loops) scalars loops (observed_in k loops o c s left) t (few-loops loops keeps.loops_keep)
    (trips-stay-within-reach (length loops) k left c n loops o s some keeps.loops_keep numbers store position next near) fit)
  where
    strides : (j : ℕ) → IsSmall (level_at t j)
    strides j = elim (in-or-past j (length loops)) [
      | inr past ↦ let size = deep (length loops) scalars loops (observed_in k loops o c s left) t t fit fit t fit in subst IsSmall (sym (past-none t.levels j (omega (arith, past, size)))) (omega arith)
      | inl less ↦
          let l = nth loops j less in
          subst (λ (z : LoopKind). stride_size z ≤ 2 ^ 63) (sym (kind-at t.levels loops j l.0 fit.shape.levels l.1)) (stride-small l.0.head (All-slice_get HasI64s loops j l.0 numbers l.1).head)
    ]
