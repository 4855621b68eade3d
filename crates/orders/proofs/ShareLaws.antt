-- Tiles that several take, each in an order of its own, give what one after another by number gives.
use Rattle.std.proofs.Common.{◌≡◌, ◌⊎◌, ◌++◌, ℕ, zero, suc, ℤ, ◌+◌, ◌<◌, ◌≤◌, Bool, true, false, Option, Some, None, List, [], ◌∷◌, length, map, refl, sym, ap, ap₂, ◌∙◌, subst, arith, inl, inr, ⊎_elim, true≢false, get_or}
use Rattle.std.specs.List.{list_any}
use Rattle.std.proofs.lemmas.Bool.{cases_eq}
use Rattle.orders.specs.Runs.{Outcome, word, Machine, Lawful, Apart, Conflict, plus, and_then, follow}
use Rattle.orders.specs.Orders.{Ordered, Differ, Before, Across, PlacesLaw, range}
use Rattle.plain_lemmas.specs.Lists.{Has}
use Rattle.orders.specs.Tiles.{lists, flat, laid, beside, steps_of, steps_from, AllRun, named, Separate, SideBySideLaw, SharedLaw, SharedNoneLaw, ScheduleLaw}
use Rattle.orders.proofs.SwapLaws.{not-true, then-same, then-some, some-injective, same-words, untouched, long-follow, apart-back, apart-from-no-conflict}
use Rattle.orders.proofs.ListLaws.{ordered-weaker, ordered-across, before-is, ordered-before}
use Rattle.plain_lemmas.proofs.MembershipLaws.{all-has, all-from, has-left, has-right, has-cases}
use Rattle.orders.proofs.PermutationLaws.{reorder}
use Rattle.orders.proofs.LiftLaws.{follow-append, follow-flat, lists-lawful, lists-apart, any-has, has_any}
use Rattle.orders.proofs.SideBySideLaws.{length-laid, laid-own, laid-base, beside-is, follow-none, tiled-is}
use Rattle.orders.proofs.SortLaws.{flat-has, sorted_law}

module _ {X : Type 0} (s : Machine X) where
  -- where side by side gives None, one of them does
  pub some-none : (base : List ℤ) (xs : List X) (here : List ℤ) → beside s base xs here ≡ None → (x : X) × Has xs x × (s.run x base ≡ None)
  some-none base [] here e = cc
  some-none base (x ∷ xs) here e = at (s.run x base) refl e (λ w k. some-none base xs w k)
    where
      plus-none : (n : ℕ) (o : Option Outcome) → plus n o ≡ None → o ≡ None
      plus-none n None k = refl
      plus-none n (Some r) k = cc

      at : (o : Option Outcome) → s.run x base ≡ o → and_then o (λ own. beside s base xs (laid (s.writes x) own here)) ≡ None
          → ((w : List ℤ) → beside s base xs w ≡ None → (y : X) × Has xs y × (s.run y base ≡ None)) → (y : X) × Has (x ∷ xs) y × (s.run y base ≡ None)
      at None f k more = (x, inl refl, f)
      at (Some r) f k more = let (y, has, none) = more (laid (s.writes x) r.memory here) (plus-none r.steps _ k) in (y, inr has, none)

  module _ (lawful : Lawful s) where
    -- what a whole run leaves is the base with what each wrote by itself
    follow-steps : (base : List ℤ) (xs : List X) (here : List ℤ) → AllRun s base xs → (r : Outcome) → beside s base xs here ≡ Some r → r.steps ≡ steps_from s base xs
    follow-steps base [] here all r e = ap (λ (q : Outcome). q.steps) (sym (some-injective _ _ e))
    follow-steps base (x ∷ xs) here all r e =
        let (q, t, f, g, is) = then-some (s.run x base) _ r e in
        let more = follow-steps base xs _ (λ y h. all y (inr h)) t g in
        let total : r.steps ≡ q.steps + t.steps = ap (λ (v : Outcome). v.steps) is in
        total ∙ ap₂ (λ (n k : ℕ). n + k) (ap steps_of (sym f)) more

    laid-words : (base : List ℤ) (xs : List X) (here : List ℤ) (r : Outcome) → length base ≡ s.size → length here ≡ s.size → Separate s xs → beside s base xs here ≡ Some r
        → (length r.memory ≡ s.size) × ((a : ℕ) → ((x : X) → Has xs x → s.writes x a ≡ false) → word r.memory a ≡ word here a)
        × ((x : X) (o : Outcome) → Has xs x → s.run x base ≡ Some o → (a : ℕ) → s.writes x a ≡ true → word r.memory a ≡ word o.memory a)
    laid-words base [] here r lb lh apart e =
        let is : r.memory ≡ here = ap (λ (q : Outcome). q.memory) (sym (some-injective _ _ e)) in
        (rw is lh, (λ a none. rw is refl), λ x o h. absurd h)
    laid-words base (x ∷ xs) here r lb lh apart e =
        let (q, t, f, g, is) = then-some (s.run x base) _ r e in
        let lq = lawful.long x base q lb f in
        let same : r.memory ≡ t.memory = ap (λ (v : Outcome). v.memory) is in
        let size = length-laid (s.writes x) q.memory here in
        let more = laid-words base xs (laid (s.writes x) q.memory here) t lb (size ∙ lh) apart.1 g in (
          rw same more.0,
          (λ a none. rw same (more.1 a (λ y h. none y (inr h)) ∙ laid-base (s.writes x) q.memory here a (none x (inl refl)))),
          λ y o h run a w. rw same (at y o run a w h q t lq f more.1 more.2),
        )
      where
        at : (y : X) (o : Outcome) → s.run y base ≡ Some o → (a : ℕ) → s.writes y a ≡ true → Has (x ∷ xs) y → (q t : Outcome) → length q.memory ≡ s.size → s.run x base ≡ Some q
            → ((i : ℕ) → ((z : X) → Has xs z → s.writes z i ≡ false) → word t.memory i ≡ word (laid (s.writes x) q.memory here) i)
            → ((z : X) (v : Outcome) → Has xs z → s.run z base ≡ Some v → (i : ℕ) → s.writes z i ≡ true → word t.memory i ≡ word v.memory i) → word t.memory a ≡ word o.memory a
        at y o run a w (inr h) q t lq f rest own = own y o h run a w
        at y o run a w (inl e) q t lq f rest own =
            let wx : s.writes x a ≡ true = subst (λ z. s.writes z a ≡ true) e w in
            let one : o ≡ q = some-injective _ _ (sym run ∙ ap (λ z. s.run z base) e ∙ f) in
            rest a (λ z h. Rattle.orders.proofs.SwapLaws.or-second _ _ ((all-has (Apart s x) xs z apart.0 h).first a wx))
            ∙ laid-own (s.writes x) q.memory here a (lq ∙ sym lh) wx ∙ ap (λ (v : Outcome). word v.memory a) (sym one)

    pub side_by_side : SideBySideLaw s
    side_by_side xs base result size apart all over = at (beside s base xs base) refl
      where
        at : (o : Option Outcome) → beside s base xs base ≡ o → follow s xs base ≡ Some (record { memory = result; steps = steps_from s base xs })
        at None e = let (x, has, none) = some-none base xs base e in absurd (all x has none)
        at (Some r) e =
            let words = laid-words base xs base r size size apart e in
            let steps = follow-steps base xs base all r e in
            let same : r.memory ≡ result = same-words _ _ (words.0 ∙ sym (over.long ∙ size)) (λ a. at-word a (list_any (λ x. s.writes x a) xs) refl r words.1 words.2) in
            sym (beside-is s lawful base xs size apart) ∙ e ∙ ap₂ (λ (w : List ℤ) (n : ℕ). Some (record { memory = w; steps = n })) same steps
          where
            at-word : (a : ℕ) (b : Bool) → list_any (λ x. s.writes x a) xs ≡ b → (r : Outcome)
                → ((i : ℕ) → ((z : X) → Has xs z → s.writes z i ≡ false) → word r.memory i ≡ word base i)
                → ((z : X) (v : Outcome) → Has xs z → s.run z base ≡ Some v → (i : ℕ) → s.writes z i ≡ true → word r.memory i ≡ word v.memory i) → word r.memory a ≡ word result a
            at-word a true is r rest own =
                let (x, has, w) = any-has (λ x. s.writes x a) xs is in
                by-run x has w (s.run x base) refl
              where
                by-run : (x : X) → Has xs x → s.writes x a ≡ true → (o : Option Outcome) → s.run x base ≡ o → word r.memory a ≡ word result a
                by-run x has w None f = absurd (all x has f)
                by-run x has w (Some v) f = own x v has f a w ∙ sym (over.own x v has f a w)
            at-word a false is r rest own =
                let none : (z : X) → Has xs z → s.writes z a ≡ false = λ z h. not-true _ (λ w. true≢false (sym (has_any (λ x. s.writes x a) xs z h w) ∙ is)) in
                rest a none ∙ sym (over.rest a none)

-- other names for instances
module _ {X Y : Type 0} (f : Y → X) (s : Machine X) where
  pub named-lawful : Lawful s → Lawful (named f s)
  named-lawful lawful = record {
    long = λ y m r. lawful.long (f y) m r;
    kept = λ y m r. lawful.kept (f y) m r;
    near = λ y m w. lawful.near (f y) m w;
  }

  pub named-apart : (y z : Y) → Apart s (f y) (f z) → Apart (named f s) y z
  named-apart y z h = record { first = h.first; second = h.second }

  pub follow-named : (ys : List Y) (m : List ℤ) → follow (named f s) ys m ≡ follow s (map f ys) m
  follow-named [] m = refl
  follow-named (y ∷ ys) m = then-same (s.run (f y) m) _ _ (λ r e. follow-named ys r.memory)

pub ordered-weaker-on : {X : Type 0} (R S : X → X → Type 0) (xs : List X) → ((x y : X) → Has xs x → Has xs y → R x y → S x y) → Ordered R xs → Ordered S xs
ordered-weaker-on R S [] weaker ord = tt
ordered-weaker-on R S (x ∷ xs) weaker ord =
    (all-from (S x) xs (λ y h. weaker x y (inl refl) (inr h) (all-has (R x) xs y ord.0 h)), ordered-weaker-on R S xs (λ a b h k. weaker a b (inr h) (inr k)) ord.1)

pub range-has : (from n p : ℕ) → Has (range from n) p → (from ≤ p) × (p < from + n)
range-has from zero p h = absurd h
range-has from (suc n) p (inl e) = (omega arith, omega arith)
range-has from (suc n) p (inr h) = let k = range-has (suc from) n p h in (omega (arith, k.0), omega (arith, k.1))

pub has-range : (from n p : ℕ) → from ≤ p → p < from + n → Has (range from n) p
has-range from zero p l h = absurd (omega arith)
has-range from (suc n) p l h = ⊎_elim (λ e. inl e) (λ ne. inr (has-range (suc from) n p (omega arith) (omega arith))) (cases_eq p from)

pub range-rises : (from n : ℕ) → Ordered (λ p q. p < q) (range from n)
range-rises from zero = tt
range-rises from (suc n) = (all-from _ (range (suc from) n) (λ q h. let k = range-has (suc from) n q h in omega (arith, k.0)), range-rises (suc from) n)

pub map-range : {X : Type 0} (g : ℕ → X) (d : X) (xs : List X) (from : ℕ) → ((i : ℕ) → i < length xs → g (from + i) ≡ get_or xs i d) → map g (range from (length xs)) ≡ xs
map-range g d [] from same = refl
map-range {X} g d (x ∷ xs) from same =
    let at : from + 0 ≡ from = omega arith in
    ap₂ (λ (z : X) zs. z ∷ zs) (ap g (sym at) ∙ same 0 (omega arith))
    (map-range g d xs (suc from) (λ i l. let e : suc from + i ≡ from + suc i = omega arith in ap g e ∙ same (suc i) (omega arith)))

module _ {X : Type 0} (s : Machine X) (lawful : Lawful s) where
  -- the same elements in any order that leaves each two that conflict as they are, by places
  pub places_law : PlacesLaw s
  places_law xs d places m size once same keeps =
      let f : ℕ → X = λ p. get_or xs p d in
      ap (λ l. follow s l m) (sym (map-range f d xs 0 (λ i l. ap f (let e : 0 + i ≡ i = omega arith in e))))
      ∙ sym (follow-named f s (range 0 (length xs)) m)
      ∙ reorder (named f s) (named-lawful f s lawful) (λ p q. p < q) (Before places) (λ p l. omega arith) (λ p h. before-is Differ places p p once h refl)
      (range 0 (length xs)) places (range-rises 0 (length xs)) (ordered-before places) same
      (λ p q h k l b. named-apart f s p q (apart-from-no-conflict s (f p) (f q) (keeps q p b l))) m size
      ∙ follow-named f s places m

  pub schedule_law : ScheduleLaw s
  schedule_law first second xs ps m size rise is keeps tiles =
      tiled-is s lawful ps m size (all-from _ ps (λ p has. ordered-weaker (Across (λ x y. Conflict s x y → ⊥)) (Apart (lists s)) (λ t u across. lists-apart s t u (λ x y h k. apart-from-no-conflict s x y (across x y h k))) p (all-has _ ps p tiles has)))
      ∙ sym (sorted_law s lawful first second xs (flat (flat ps)) m size rise is keeps)

module _ (t : Machine ℕ) (lawful : Lawful t) where
  module _ (n : ℕ) (apart : (i j : ℕ) → i < n → j < n → (i ≡ j → ⊥) → Apart t i j) where
    separate-numbers : (part : List ℕ) → Ordered Differ part → ((i : ℕ) → Has part i → i < n) → Separate t part
    separate-numbers part once below = ordered-weaker-on Differ (Apart t) part (λ i j h k differ. apart i j (below i h) (below j k) differ) once

    separate-parts : (parts : List (List ℕ)) → Ordered Differ (flat parts) → ((i : ℕ) → Has (flat parts) i → i < n) → Separate (lists t) parts
    separate-parts [] once below = tt
    separate-parts (p ∷ ps) once below = (
      all-from _ ps (λ q has. lists-apart t p q (λ i j h k. apart i j (below i (has-left p (flat ps) i h)) (below j (has-right p (flat ps) j (flat-has ps q j has k))) (ordered-across Differ p (flat ps) i j once h (flat-has ps q j has k)))),
      separate-parts ps (Rattle.orders.proofs.ListLaws.ordered-right Differ p (flat ps) once) (λ i h. below i (has-right p (flat ps) i h)),
    )

    separate-range : Separate t (range 0 n)
    separate-range = separate-numbers (range 0 n) (ordered-weaker (λ p q. p < q) Differ (λ p q l e. omega arith) (range 0 n) (range-rises 0 n)) (λ i h. let k = range-has 0 n i h in omega (arith, k.1))

  pub shared_law : SharedLaw t
  shared_law n parts base result size apart once same all over =
      let below : (i : ℕ) → Has (flat parts) i → i < n = λ i h. let k = range-has 0 n i (same.back i h) in omega (arith, k.1) in
      reorder t lawful (λ p q. p < q) (Before (flat parts)) (λ p l. omega arith) (λ p h. before-is Differ (flat parts) p p once h refl)
      (range 0 n) (flat parts) (range-rises 0 n) (ordered-before (flat parts)) same
      (λ p q h k l b. let i = range-has 0 n p h in let j = range-has 0 n q k in apart p q (omega (arith, i.1)) (omega (arith, j.1)) (λ e. omega arith)) base size
      ∙ follow-flat t parts base
      ∙ side_by_side (lists t) (lists-lawful t lawful) parts base result size (separate-parts n apart parts once below) all over

  pub shared_none_law : SharedNoneLaw t
  shared_none_law n part base size apart once below none =
      let (k, has, fails) = some-none t base part base (beside-is t lawful base part size (separate-numbers n apart part once below) ∙ none) in
      follow-none t lawful base (range 0 n) k size (separate-range n apart) (has-range 0 n k (omega arith) (let l = below k has in omega arith)) fails

-- a list whose front fails
pub front-none : {X : Type 0} (s : Machine X) (us vs : List X) (m : List ℤ) → follow s us m ≡ None → follow s (us ++ vs) m ≡ None
front-none s us vs m h = follow-append s us vs m ∙ ap (λ (o : Option Outcome). and_then o (follow s vs)) h

-- one more element at the end, above the last one
pub ordered-push : {X : Type 0} (R : X → X → Type 0) → ((x y z : X) → R x y → R y z → R x z) → (xs : List X) (x y : X) → Ordered R (xs ++ x ∷ []) → R x y → Ordered R ((xs ++ x ∷ []) ++ y ∷ [])
ordered-push {X} R trans xs x y ord h = Rattle.orders.proofs.ListLaws.ordered-append R (xs ++ x ∷ []) (y ∷ []) ord (tt, tt) (λ u v hu hv. ⊎_elim (λ e. subst (R u) (sym e) (below u (has-cases xs (x ∷ []) u hu))) (λ k. absurd k) hv)
  where
    below : (u : X) → Has xs u ⊎ Has (x ∷ []) u → R u y
    below u (inl k) = trans u x y (ordered-across R xs (x ∷ []) u x ord k (inl refl)) h
    below u (inr (inl e)) = subst (λ z. R z y) (sym e) h
    below u (inr (inr k)) = absurd k
