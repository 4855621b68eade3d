-- What each step of main's seat owes the table: it is the step of the core.
use Rattle.std.proofs.Common.{◌≡◌, ℕ, zero, suc, ◌+◌, ◌-◌, ◌<◌, ◌≤◌, true, false, List, [], ◌∷◌, ◌++◌, length, get_or, set, inl, refl, sym, ap, subst, arith, replicate}
use Rattle.std.specs.Prelude.{ℤ, pos}
use Rattle.std.specs.Int.{w64, cast_signed, cast_unsigned}
use mathlib.Core.Option.{some, some-injective}
use lib.ListN.{get_elem?}
use Rattle.atomic_table.specs.Table.{Me, keeps, Allows, Splits, Joins}
use Rattle.core_steps.specs.declared.step.Step.TheVariants.{Post, Load, Store, Settle}
use Rattle.core_steps.specs.declared.plan.Plan.{Plan}
use Rattle.core_steps.specs.declared.view.View.{View}
use Rattle.core_steps.specs.Numbers.{has}
use Rattle.core_steps.specs.Plans.{IsSeparate, IsInside}
use Rattle.core_steps.specs.Views.{first_view, overlaid, based_view, posted_view, settled_view, lending_view, lent_view, joined_view, spent_view}
use Rattle.core_steps.specs.States.{State, memory_word, memory_of}
use Rattle.core_steps.specs.Steps.{Lawful}
use Rattle.core_steps.proofs.WordListLaws.{memory-shown}
use Rattle.core_steps.proofs.QuietViewLaws.{shows-base, shows-values}
use Rattle.core_steps.proofs.StoreKeeps.{main-store-keeps}
use Rattle.core_steps.proofs.StateStepLaws.{step-keeps}
use Rattle.core_steps.proofs.SplitKeeps.{split-keeps}
use Rattle.core_steps.proofs.JoinKeeps.{join-keeps}
use Rattle.core_steps.proofs.PhaseLaws.{known-held, main-failed}
use Rattle.shared_words.specs.Seats.{IsCoreState}
use Rattle.shared_words.specs.Calls.{IsStepOf, EndsPhase}
use Rattle.core_steps.proofs.StartLaws.{first-sound}
use Rattle.shared_words.proofs.WorkerStepLaws.{IsKept, unchanged, words-stay}

-- main's steps stand at the place 0: what holds of the first view holds of the seat's
at-main : (P : List ℕ → List View → View → Type 0) (ws : List ℕ) (views : List View) (v : View) → IsCoreState ws views → get_elem? views 0 ≡ some v
    → ((m : View) (ms : List View) → IsCoreState ws (m ∷ ms) → P ws (m ∷ ms) m) → P ws views v
at-main P ws [] v h at go = absurd h
at-main P ws (m ∷ ms) v h at go = subst (λ (u : View). P ws (m ∷ ms) u) (some-injective m v at) (go m ms h)

-- load

main-loads-in : (ws : List ℕ) (views : List View) (a : ℕ) (v : View) → IsCoreState ws views → get_elem? views 0 ≡ some v → v.posted ≡ false → a < length v.base
    → (get_or ws (memory_word a) 0 ≡ get_or v.base a 0) × IsStepOf 0 v (Load 0 a) (cast_signed w64 (get_or ws (memory_word a) 0)) v
main-loads-in ws views a v h at = at-main (λ l _ u. u.posted ≡ false → a < length u.base → (get_or l (memory_word a) 0 ≡ get_or u.base a 0) × IsStepOf 0 u (Load 0 a) (cast_signed w64 (get_or l (memory_word a) 0)) u) ws views v h at
    (λ m ms k off lt. let wide = k.phase.width in let shows = shows-base ws m ms k off in
    (shows.values a lt, record { state = record { words = ws; main = m; seats = ms }; sound = k; lawful = inl (refl, (off, omega arith)); before = refl; answered = refl; after = refl }))

pub main-loads : (slots id a : ℕ) (me : Me (Unit {0}) View) → id ≡ 0 → me.0.posted ≡ false → a < length me.0.base
    → Allows IsKept slots id me (memory_word a) (λ n. n)
    (λ n w. (w ≡ me) × (n ≡ get_or me.0.base (memory_word a - 65537) 0) × IsStepOf 0 me.0 (Load 0 (memory_word a - 65537)) (cast_signed w64 n) me.0)
main-loads slots id a me first off lt s h homes at small = let back : a ≡ memory_word a - 65537 = omega arith in let
    n : ℕ = get_or s.words (memory_word a) 0 in let
    both = main-loads-in s.words s.views a me.0 h (subst (λ (j : ℕ). get_elem? s.views j ≡ some me.0) first at) off lt in
    (me.0, keeps, tt, unchanged s.words s.views (memory_word a) id me.0 at h, subst (λ (b : ℕ). (let w : Me (Unit {0}) View = me in w ≡ me) × (n ≡ get_or me.0.base b 0) × IsStepOf 0 me.0 (Load 0 b) (cast_signed w64 n) me.0) back (refl, both.0, both.1))

-- store

main-stored-in : (ws : List ℕ) (views : List View) (a bits : ℕ) (v : View) → IsCoreState ws views → get_elem? views 0 ≡ some v → v.posted ≡ false → a < length v.base
    → IsCoreState (set ws (memory_word a) bits) (set views 0 (based_view v a bits)) × ((x : ℤ) → cast_unsigned w64 x ≡ bits → IsStepOf 0 v (Store 0 a x) (pos 0) (based_view v a bits))
main-stored-in ws views a bits v h at = at-main
    (λ l all u. u.posted ≡ false → a < length u.base
    → IsCoreState (set l (memory_word a) bits) (set all 0 (based_view u a bits)) × ((x : ℤ) → cast_unsigned w64 x ≡ bits → IsStepOf 0 u (Store 0 a x) (pos 0) (based_view u a bits))) ws views v h at
    (λ m ms k off lt. let wide = k.phase.width in (
      main-store-keeps ws m ms a bits k off lt,
      λ x is. record { state = record { words = ws; main = m; seats = ms }; sound = k; lawful = inl (refl, (off, omega arith)); before = refl; answered = refl; after = ap (λ (b : ℕ). based_view m a b) is },
    ))

pub main-stores : (slots id a bits : ℕ) (me : Me (Unit {0}) View) → id ≡ 0 → me.0.posted ≡ false → a < length me.0.base
    → Allows IsKept slots id me (memory_word a) (λ _. bits)
    (λ _ w. (w ≡ (based_view me.0 (memory_word a - 65537) bits, me.1)) × ((x : ℤ) → cast_unsigned w64 x ≡ bits → IsStepOf 0 me.0 (Store 0 (memory_word a - 65537) x) (pos 0) w.0))
main-stores slots id a bits me first off lt s h homes at small = let back : a ≡ memory_word a - 65537 = omega arith in let
    w : Me (Unit {0}) View = (based_view me.0 a bits, me.1) in let
    both = main-stored-in s.words s.views a bits me.0 h (subst (λ (j : ℕ). get_elem? s.views j ≡ some me.0) first at) off lt in (
      based_view me.0 a bits,
      keeps,
      tt,
      subst (λ (j : ℕ). IsCoreState (set s.words (memory_word a) bits) (set s.views j (based_view me.0 a bits))) (sym first) both.0,
      (ap (λ (b : ℕ). (based_view me.0 b bits, me.1)) back, λ x is. subst (λ (b : ℕ). IsStepOf 0 me.0 (Store 0 b x) (pos 0) w.0) back (both.1 x is)),
    )

-- post

pub record IsPostable (v : View) (plan : Plan) : Type 0 where
  pub off : v.posted ≡ false
  pub separate : IsSeparate plan
  pub few : length plan.tiles ≤ 65536
  pub inside : IsInside (length v.base) plan

posted-in : (ws : List ℕ) (views : List View) (plan : Plan) (v : View) → IsCoreState ws views → get_elem? views 0 ≡ some v → IsPostable v plan
    → IsCoreState ws (set views 0 (posted_view v v.base plan)) × IsStepOf 0 v (Post plan) (pos 0) (posted_view v v.base plan)
posted-in ws views plan v h at = at-main
    (λ l all u. IsPostable u plan → IsCoreState l (set all 0 (posted_view u u.base plan)) × IsStepOf 0 u (Post plan) (pos 0) (posted_view u u.base plan)) ws views v h at
    (λ m ms k p. let
    s : State = record { words = ws; main = m; seats = ms } in let
    same : memory_of ws ≡ m.base = memory-shown ws m.base (shows-base ws m ms k p.off) in let
    lawful : Lawful (Post plan) s = (p.off, k.phase.none_out p.off, (p.separate, p.few, subst (λ (b : List ℕ). IsInside (length b) plan) (sym same) p.inside)) in (
      subst (λ (b : List ℕ). IsCoreState ws (posted_view m b plan ∷ ms)) same (step-keeps (Post plan) s k lawful),
      record { state = s; sound = k; lawful = lawful; before = refl; answered = refl; after = ap (λ (b : List ℕ). posted_view m b plan) same },
    ))

pub posts : (slots id : ℕ) (me : Me (Unit {0}) View) (plan : Plan) → id ≡ 0 → IsPostable me.0 plan
    → Allows IsKept slots id me 0 (λ n. n) (λ _ w. (w ≡ (posted_view me.0 me.0.base plan, me.1)) × IsStepOf 0 me.0 (Post plan) (pos 0) w.0)
posts slots id me plan first p s h homes at small = let
    w : View = posted_view me.0 me.0.base plan in let
    both = posted-in s.words s.views plan me.0 h (subst (λ (j : ℕ). get_elem? s.views j ≡ some me.0) first at) p in
    (w, keeps, tt, words-stay s.words (set s.views id w) 0 (subst (λ (j : ℕ). IsCoreState s.words (set s.views j w)) (sym first) both.0), (refl, both.1))

-- settle

settled-in : (ws : List ℕ) (views : List View) (v : View) → IsCoreState ws views → get_elem? views 0 ≡ some v → v.posted ≡ true → v.out ≡ []
    → IsCoreState ws (set views 0 (settled_view v (overlaid v.own v.base))) × EndsPhase v (get_or ws 0 0) (settled_view v (overlaid v.own v.base))
settled-in ws views v h at = at-main
    (λ l all u. u.posted ≡ true → u.out ≡ [] → IsCoreState l (set all 0 (settled_view u (overlaid u.own u.base))) × EndsPhase u (get_or l 0 0) (settled_view u (overlaid u.own u.base))) ws views v h at
    (λ m ms k on none. let
    s : State = record { words = ws; main = m; seats = ms } in let
    base : List ℕ = overlaid m.own m.base in let
    same : memory_of ws ≡ base = memory-shown ws base (shows-values ws m ms k none) in let
    lawful : Lawful Settle s = (on, none) in (
      subst (λ (b : List ℕ). IsCoreState ws (settled_view m b ∷ ms)) same (step-keeps Settle s k lawful),
      record {
        step = record { state = s; sound = k; lawful = lawful; before = refl; answered = refl; after = ap (λ (b : List ℕ). settled_view m b) same };
        single = k.tiles.once 0 m refl;
        planned = λ n holds. (k.tiles.claimed n 0 m refl holds).0;
        known = λ n knows. known-held s k lawful n 0 m refl knows;
        failed = (k.phase.failed 0 m refl, λ is. main-failed s k lawful is);
        seen = k.phase.seen 0 m refl;
        separate = k.phase.separate;
      },
    ))

pub settles : (slots id : ℕ) (me : Me (Unit {0}) View) → id ≡ 0 → me.0.posted ≡ true → me.0.out ≡ []
    → Allows IsKept slots id me 0 (λ n. n) (λ n w. (w ≡ (settled_view me.0 (overlaid me.0.own me.0.base), me.1)) × EndsPhase me.0 n w.0)
settles slots id me first on none s h homes at small = let
    w : View = settled_view me.0 (overlaid me.0.own me.0.base) in let
    both = settled-in s.words s.views me.0 h (subst (λ (j : ℕ). get_elem? s.views j ≡ some me.0) first at) on none in
    (w, keeps, tt, words-stay s.words (set s.views id w) 0 (subst (λ (j : ℕ). IsCoreState s.words (set s.views j w)) (sym first) both.0), (refl, both.1))

-- split and join

split-in : (ws : List ℕ) (views : List View) (v : View) (w : ℕ) → IsCoreState ws views → get_elem? views 0 ≡ some v → v.posted ≡ true → 0 < w → has w v.out ≡ false
    → IsCoreState ws (set views 0 (lending_view v w) ++ lent_view v w ∷ [])
split-in ws views v w h at = at-main (λ l all u. u.posted ≡ true → 0 < w → has w u.out ≡ false → IsCoreState l (set all 0 (lending_view u w) ++ lent_view u w ∷ [])) ws views v h at
    (λ m ms k on number fresh. split-keeps ws m ms w k on number fresh)

pub splits : (id : ℕ) (v : View) (w : ℕ) → id ≡ 0 → v.posted ≡ true → 0 < w → has w v.out ≡ false → Splits IsKept id v (lending_view v w) (lent_view v w)
splits id v w first on number fresh = subst (λ (j : ℕ). Splits IsKept j v (lending_view v w) (lent_view v w)) (sym first) (λ s h at. split-in s.words s.views v w h at on number fresh)

joined-in : (ws : List ℕ) (views : List View) (v : View) (other : ℕ) (w : View) → IsCoreState ws views → get_elem? views 0 ≡ some v → ¬ (other ≡ 0) → get_elem? (set views 0 (joined_view v w)) other ≡ some w → 0 < w.number
    → IsCoreState ws (set (set views 0 (joined_view v w)) other spent_view)
joined-in ws [] v other w h at apart at' out = absurd h
joined-in ws (m ∷ ms) v zero w h at apart at' out = absurd (apart refl)
joined-in ws (m ∷ ms) v (suc j) w h at apart at' out = subst (λ (u : View). IsCoreState ws (joined_view u w ∷ set ms j spent_view)) (some-injective m v at) (join-keeps ws m ms j w h at' out)

pub joins : (id : ℕ) (v : View) (other : ℕ) (w : View) → id ≡ 0 → 0 < w.number → Joins IsKept id v other w (joined_view v w) spent_view
joins id v other w first out = subst (λ (j : ℕ). Joins IsKept j v other w (joined_view v w) spent_view) (sym first) (λ s h at apart at'. joined-in s.words s.views v other w h at apart at' out)

-- the start: the flag and the claims are 0, and then come the words

pub record IsStart (row : List ℕ) (memory : List ℕ) : Type 0 where
  pub kept : IsCoreState row (first_view (memory_of row) ∷ [])
  pub memory-is : memory_of row ≡ memory
  pub width : length row ≡ 65537 + length memory

pub start-in : (row memory : List ℕ) → row ≡ replicate 65537 0 ++ memory → IsStart row memory
start-in row memory laid = let
    h = first-sound memory in let
    all : List ℕ = replicate 65537 0 ++ memory in let
    shows = shows-base all (first_view memory) [] h refl in let
    same : memory_of all ≡ memory = memory-shown all memory shows in
    subst (λ (l : List ℕ). IsStart l memory) (sym laid) (record { kept = subst (λ (b : List ℕ). IsCoreState all (first_view b ∷ [])) (sym same) h; memory-is = same; width = shows.width })
