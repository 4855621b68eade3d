-- What heads yield that show what is expected.
use Rattle.std.proofs.Common.{◌≡◌, refl, ap, ◌∙◌, sym, subst, ℕ, ℤ, pos, negsuc, suc, ◌-◌, Bool, true, false, not, List, [], ◌∷◌, ◌++◌, length, take, get_or, Result, Ok, Err, arith}
use Rattle.std.proofs.lemmas.Bool.Decides.{nat_tests}
use Rattle.std.specs.Prelude.{◌&&◌}
use Rattle.std.proofs.lemmas.Bool.{and_parts}
use Rattle.nest_lang.specs.declared.tree.Expr.{Expr}
use Rattle.nest_lang.specs.declared.tree.Head.TheVariants.{For, While}
use Rattle.nest_lang.specs.declared.observe.Seen.TheVariants.{Lower, Trip, Condition}
use Rattle.nest_lang.specs.Values.{same, trip_count}
use Rattle.nest_lang.specs.Stores.{Store}
use Rattle.nest_lang.specs.Traces.{Observation, Halt}
use Rattle.nest_lang.specs.Expressions.{Frame, shown, told}
use Rattle.nest_lang.specs.Heads.{Yield, Bounds, Tested, heading, then_head, as_number, head_of}
use Rattle.follow.specs.Forecasts.{around_last, last_of, expects_turn, agrees_by, all_agree, Forecast}

pub same-exact : (a b : ℤ) → same a b ≡ true → a ≡ b
same-exact (pos m) (pos n) h = grind (arith, nat_tests)
same-exact (pos m) (negsuc n) h = absurd (cc)
same-exact (negsuc m) (pos n) h = absurd (cc)
same-exact (negsuc m) (negsuc n) h = grind (arith, nat_tests)

same-condition : (a b : Bool) → same (as_number a) (as_number b) ≡ true → a ≡ b
same-condition true true h = refl
same-condition true false h = absurd (cc)
same-condition false true h = absurd (cc)
same-condition false false h = refl

ok-injective : {A : Type 0} (a b : A) → ◌≡◌ {A = Result A Halt} (Ok a) (Ok b) → a ≡ b
ok-injective a b e = cc

module _ (p : Forecast) where
  pub agree-append : (xs ys : List Observation) → all_agree p (xs ++ ys) ≡ all_agree p xs && all_agree p ys
  unfolding all_agree
  agree-append [] ys = refl
  agree-append (x ∷ xs) ys = ap (λ (b : Bool). agrees_by p x.at x.what x.value && b) (agree-append xs ys) ∙ regroup (agrees_by p x.at x.what x.value) (all_agree p xs) (all_agree p ys)
    where
      regroup : (a b c : Bool) → a && (b && c) ≡ (a && b) && c
      regroup true b c = refl
      regroup false b c = refl

  agree-back : (xs ys : List Observation) → all_agree p (xs ++ ys) ≡ true → all_agree p ys ≡ true
  agree-back xs ys h = (and_parts (all_agree p xs) (all_agree p ys) (sym (agree-append xs ys) ∙ h)).1

  -- the head of a `for` yields the expected bounds
  abbrev pub IsExpected : Frame → Yield → Type 0
  IsExpected f y = (n : ℕ) × (y ≡ Bounds (p.lower f.at) n) × (p.trip f.at.block f.at.counters ≡ pos n)

  bounds-agree : (f : Frame) (from : ℤ) (n : ℕ) → all_agree p (shown f Lower from ∷ shown f Trip (pos n) ∷ []) ≡ true → IsExpected f (Bounds from n)
  unfolding all_agree
  bounds-agree f from n h =
      let a = and_parts (same from (p.lower f.at)) (same (pos n) (p.trip f.at.block f.at.counters) && true) h in
      let b = and_parts (same (pos n) (p.trip f.at.block f.at.counters)) true a.1 in
      (n, ap (λ (z : ℤ). Bounds z n) (same-exact from (p.lower f.at) a.0), sym (same-exact (pos n) (p.trip f.at.block f.at.counters) b.0))

  for-told : (f : Frame) (stride : ℤ) (sa sb : List Observation) (va vb : Result ℤ Halt) (y : Yield)
      → (then_head sa va (λ from. then_head sb vb (λ to. heading (shown f Lower from ∷ shown f Trip (pos (trip_count from to stride)) ∷ []) (Ok (Bounds from (trip_count from to stride)))))).value ≡ Ok y
      → all_agree p (then_head sa va (λ from. then_head sb vb (λ to. heading (shown f Lower from ∷ shown f Trip (pos (trip_count from to stride)) ∷ []) (Ok (Bounds from (trip_count from to stride)))))).seen ≡ true
      → IsExpected f y
  for-told f stride sa sb (Err halt) vb y e h = absurd (cc)
  for-told f stride sa sb (Ok from) (Err halt) y e h = absurd (cc)
  for-told f stride sa sb (Ok from) (Ok to) y e h =
      let shows = shown f Lower from ∷ shown f Trip (pos (trip_count from to stride)) ∷ [] in
      subst (IsExpected f) (ok-injective _ y e) (bounds-agree f from (trip_count from to stride) (agree-back sb shows (agree-back sa (sb ++ shows) h)))

  pub for-yields : (f : Frame) (lower upper : Expr) (stride : ℤ) (s : Store) (y : Yield) → (head_of f (For lower upper stride) s).value ≡ Ok y → all_agree p (head_of f (For lower upper stride) s).seen ≡ true → IsExpected f y
  unfolding head_of
  for-yields f lower upper stride s y e h = for-told f stride (told f s lower).seen (told f s upper).seen (told f s lower).value (told f s upper).value y e h

  condition-agree : (f : Frame) (b : Bool) → all_agree p (shown f Condition (as_number b) ∷ []) ≡ true → b ≡ expects_turn p f.at
  unfolding all_agree
  condition-agree f b h = same-condition b (expects_turn p f.at) (and_parts (same (as_number b) (as_number (expects_turn p f.at))) true h).0

  while-told : (f : Frame) (sa : List Observation) (va : Result ℤ Halt) (y : Yield)
      → (then_head sa va (λ v. heading (shown f Condition (as_number (not (same v (pos 0)))) ∷ []) (Ok (Tested (not (same v (pos 0))))))).value ≡ Ok y
      → all_agree p (then_head sa va (λ v. heading (shown f Condition (as_number (not (same v (pos 0)))) ∷ []) (Ok (Tested (not (same v (pos 0))))))).seen ≡ true
      → y ≡ Tested (expects_turn p f.at)
  while-told f sa (Err halt) y e h = absurd (cc)
  while-told f sa (Ok v) y e h =
      sym (ok-injective _ y e) ∙ ap Tested (condition-agree f (not (same v (pos 0))) (agree-back sa (shown f Condition (as_number (not (same v (pos 0)))) ∷ []) h))

  -- the head of a `while` yields the expected condition
  pub while-yields : (f : Frame) (condition : Expr) (s : Store) (y : Yield) → (head_of f (While condition) s).value ≡ Ok y → all_agree p (head_of f (While condition) s).seen ≡ true → y ≡ Tested (expects_turn p f.at)
  unfolding head_of
  while-yields f condition s y e h = while-told f (told f s condition).seen (told f s condition).value y e h

-- the counters of the head of a `while`
front-one : (cs : List ℤ) (t : ℤ) → take (length cs) (cs ++ t ∷ []) ≡ cs
front-one [] t = refl
front-one (c ∷ cs) t = ap (λ (z : List ℤ). c ∷ z) (front-one cs t)

back-one : (cs : List ℤ) (t d : ℤ) → get_or (cs ++ t ∷ []) (length cs) d ≡ t
back-one [] t d = refl
back-one (c ∷ cs) t d = back-one cs t d

length-one : (cs : List ℤ) (t : ℤ) → length (cs ++ t ∷ []) - 1 ≡ length cs
length-one cs t = at cs
  where
    more : (cs : List ℤ) → length (cs ++ t ∷ []) ≡ suc (length cs)
    more [] = refl
    more (c ∷ cs) = ap suc (more cs)

    at : (cs : List ℤ) → length (cs ++ t ∷ []) - 1 ≡ length cs
    at cs = let e = more cs in rw e (omega arith)

pub around-inward : (cs : List ℤ) (t : ℤ) → around_last (cs ++ t ∷ []) ≡ cs
around-inward cs t = rw length-one (front-one cs t)

pub last-inward : (cs : List ℤ) (t : ℤ) → last_of (cs ++ t ∷ []) ≡ t
last-inward cs t = rw length-one (back-one cs t (pos 0))
