-- A word is written by at most one view between a post and its settle.
use Rattle.std.proofs.Common.{◌≡◌, ℕ, suc, ◌<◌, Bool, true, false, true≢false, ◌||◌, cond, List, [], ◌∷◌, ◌++◌, Some, None, ◌⊎◌, inl, inr, ⊎_elim, refl, sym, ap, ◌∙◌, subst, eq-eqb, ne_eqb, arith}
use Rattle.std.specs.Prelude.{ℤ}
use Rattle.std.specs.List.{list_any}
use Rattle.std.specs.Int.{w64, cast_unsigned}
use Rattle.std.proofs.lemmas.Bool.{eqb-true, or_parts}
use mathlib.Core.Option.{some-injective}
use lib.ListN.{get_elem?}
use mathlib.Core.Logic.{dite}
use native.Mathlib.Decide.{ℕ_discrete}
use Rattle.core_steps.specs.declared.plan.Plan.{Plan}
use Rattle.core_steps.specs.declared.step.Step.{Step}
use Rattle.core_steps.specs.declared.step.Step.TheVariants.{Post, Split, Load, Store, See, Raise, Claim, Join, Settle}
use Rattle.core_steps.specs.declared.view.View.{View}
use Rattle.core_steps.specs.Plans.{writes, touches}
use Rattle.core_steps.specs.Views.{Holds, stored_at, may_store}
use Rattle.core_steps.specs.States.{State, views_of, view_of, IsOut}
use Rattle.core_steps.specs.Steps.{Lawful, Runs, state_after, with_seat}
use Rattle.core_steps.specs.Invariant.{At, IsSound}
use Rattle.core_steps.specs.Laws.{is_settle, is_join, RunsWithin}
use Rattle.core_steps.proofs.NumberListLaws.{not_both}
use Rattle.core_steps.proofs.StoreListLaws.{no-option, stored-same, stored-other}
use Rattle.core_steps.proofs.StoreKeeps.{write-touches}
use Rattle.core_steps.proofs.StateStepLaws.{step-keeps, run-keeps, out-found, any-held, with-seat-worker}
use Rattle.core_steps.proofs.PhaseLaws.{step-in-phase, run-in-phase}
use Rattle.core_steps.proofs.OwnValueLaws.{step-stays, own_after}

-- something is stored at the address
abbrev pub Stored : ℕ → List (ℕ × ℕ) → Type 0
Stored a own = (x : ℕ) × (stored_at a own ≡ Some x)

stored-more : (a : ℕ) (s : ℕ × ℕ) (own : List (ℕ × ℕ)) → Stored a own → Stored a (s ∷ own)
stored-more a s own h = dite (ℕ_discrete s.0 a) (λ e. (s.1, stored-same a s own e)) (λ ne. (h.0, stored-other a s own ne ∙ h.1))

stored-left : (a : ℕ) (ss ts : List (ℕ × ℕ)) → Stored a ss → Stored a (ss ++ ts)
stored-left a [] ts h = absurd (no-option h.0 None refl h.1)
stored-left a (s ∷ ss) ts h = dite (ℕ_discrete s.0 a) (λ e. (s.1, stored-same a s (ss ++ ts) e))
    (λ ne. let rest = stored-left a ss ts (h.0, sym (stored-other a s ss ne) ∙ h.1) in (rest.0, stored-other a s (ss ++ ts) ne ∙ rest.1))

stored-right : (a : ℕ) (ss ts : List (ℕ × ℕ)) → Stored a ts → Stored a (ss ++ ts)
stored-right a [] ts h = h
stored-right a (s ∷ ss) ts h = stored-more a s (ss ++ ts) (stored-right a ss ts h)

-- what is stored stays so in the own values
own-keeps : (x : Step) (w a : ℕ) (own : List (ℕ × ℕ)) → Stored a own → Stored a (own_after x w own)
own-keeps (Store v b x) w a own h = dite (ℕ_discrete v w)
    (λ e. subst (λ (t : Bool). Stored a (cond t ((b, cast_unsigned w64 x) ∷ own) own)) (sym (eq-eqb v w e)) (stored-more a (b, cast_unsigned w64 x) own h))
    (λ ne. subst (λ (t : Bool). Stored a (cond t ((b, cast_unsigned w64 x) ∷ own) own)) (sym (ne_eqb v w ne)) h)
own-keeps (Post plan) w a own h = h
own-keeps (Split v) w a own h = h
own-keeps (Load i b) w a own h = h
own-keeps (See i) w a own h = h
own-keeps (Raise i) w a own h = h
own-keeps (Claim i k) w a own h = h
own-keeps (Join i) w a own h = h
own-keeps Settle w a own h = h

-- a worker's step leaves main's own values
main-own : (v a : ℕ) (u : View) (s t : State) → 0 < v → t.main ≡ s.main → Stored a s.main.own → Stored a (with_seat v u t).main.own
main-own v a u s t some_v same h = subst (λ (m : View). Stored a m.own) (sym (ap (λ (z : State). z.main) (with-seat-worker v u t some_v) ∙ same)) h

-- what main took over stays in a phase
main-keeps : (x : Step) (a : ℕ) (s : State) → IsSound s → s.main.posted ≡ true → Lawful x s → is_settle x ≡ false → Stored a s.main.own → Stored a (state_after x s).main.own
main-keeps (Post plan) a s h on p go st = absurd (not_both s.main.posted on p.0)
main-keeps (Split v) a s h on p go st = st
main-keeps (Load i b) a s h on p go st = st
main-keeps (Store v b x) a s h on p go st = ⊎_elim (λ q. absurd (not_both s.main.posted on q.1.0)) (λ q. main-own v a _ s _ (h.phase.numbers v q.0) refl st) p
main-keeps (See v) a s h on p go st = ⊎_elim (λ (q : v ≡ 0). subst (λ (n : ℕ). Stored a (state_after (See n) s).main.own) (sym q) st) (λ (q : IsOut v s). main-own v a _ s s (h.phase.numbers v q) refl st) p
main-keeps (Raise v) a s h on p go st = main-own v a _ s _ (h.phase.numbers v p) refl st
main-keeps (Claim v k) a s h on p go st = main-own v a _ s _ (h.phase.numbers v p.0) refl st
main-keeps (Join v) a s h on p go st = stored-left a s.main.own (view_of v s.seats).own st
main-keeps Settle a s h on p go st = absurd (true≢false go)

-- at its join main takes the worker's own values over
join-takes : (x : Step) (w a : ℕ) (s : State) → is_join w x ≡ true → Stored a (view_of w s.seats).own → Stored a (state_after x s).main.own
join-takes (Join v) w a s t st = stored-right a s.main.own (view_of v s.seats).own (subst (λ (n : ℕ). Stored a (view_of n s.seats).own) (sym (eqb-true v w t)) st)
join-takes (Post plan) w a s t st = absurd (true≢false (sym t))
join-takes (Split v) w a s t st = absurd (true≢false (sym t))
join-takes (Load i b) w a s t st = absurd (true≢false (sym t))
join-takes (Store v b x) w a s t st = absurd (true≢false (sym t))
join-takes (See i) w a s t st = absurd (true≢false (sym t))
join-takes (Raise i) w a s t st = absurd (true≢false (sym t))
join-takes (Claim i k) w a s t st = absurd (true≢false (sym t))
join-takes Settle w a s t st = absurd (true≢false (sym t))

main-run : (steps : List Step) (a : ℕ) (s t : State) → IsSound s → s.main.posted ≡ true → Runs steps s t → list_any is_settle steps ≡ false → Stored a s.main.own → Stored a t.main.own
main-run [] a s t h on run go st = subst (λ (z : State). Stored a z.main.own) run st
main-run (x ∷ xs) a s t h on run go st = let
    none = or_parts (is_settle x) (list_any is_settle xs) go in let
    step = step-in-phase x s h on run.0 none.0 in
    main-run xs a (state_after x s) t (step-keeps x s h run.0) (step.posted ∙ on) run.1 none.1 (main-keeps x a s h on run.0 none.0 st)

-- the worker that stored has its value still, or main took it over
abbrev pub KeptBy : ℕ → ℕ → List Step → State → Type 0
KeptBy w a steps t = ((list_any (is_join w) steps ≡ false) × IsOut w t × Stored a (view_of w t.seats).own) ⊎ (Stored a t.main.own)

by-join : (x : Step) (xs : List Step) (w a : ℕ) (s t : State) → IsSound s → s.main.posted ≡ true → Runs (x ∷ xs) s t → is_settle x ≡ false → list_any is_settle xs ≡ false → IsSound (state_after x s) → (state_after x s).main.posted ≡ true → IsOut w s → Stored a (view_of w s.seats).own
    → (IsOut w (state_after x s) → Stored a (view_of w (state_after x s).seats).own → KeptBy w a xs t) → (b : Bool) → is_join w x ≡ b → KeptBy w a (x ∷ xs) t
by-join x xs w a s t h on run go rest sound on' out st more true joined = inr (main-run xs a (state_after x s) t sound on' run.1 rest (join-takes x w a s joined st))
by-join x xs w a s t h on run go rest sound on' out st more false joined = let
    after = step-stays x w s h on run.0 go joined out in
    ⊎_elim (λ q. inl (ap (λ (b : Bool). b || list_any (is_join w) xs) joined ∙ q.0, q.1, q.2)) (λ q. inr q)
    (more after.out (subst (λ (l : List (ℕ × ℕ)). Stored a l) (sym after.own-is) (own-keeps x w a (view_of w s.seats).own st)))

writer-run : (steps : List Step) (w a : ℕ) (s t : State) → IsSound s → s.main.posted ≡ true → Runs steps s t → list_any is_settle steps ≡ false → IsOut w s → Stored a (view_of w s.seats).own → KeptBy w a steps t
writer-run [] w a s t h on run go out st = subst (λ (z : State). KeptBy w a [] z) run (inl (refl, out, st))
writer-run (x ∷ xs) w a s t h on run go out st = let
    none = or_parts (is_settle x) (list_any is_settle xs) go in let
    step = step-in-phase x s h on run.0 none.0 in let
    sound = step-keeps x s h run.0 in
    by-join x xs w a s t h on run none.0 none.1 sound (step.posted ∙ on) out st (λ o q. writer-run xs w a (state_after x s) t sound (step.posted ∙ on) run.1 none.1 o q) (is_join w x) refl

-- the view that stored at an address is the one that may store there
same-place : (t : State) (i p k a : ℕ) (u v : View) → IsSound t → At (views_of t) i u → Stored a u.own → At (views_of t) p v → v.plan ≡ t.main.plan → Holds v k → writes v.plan k a ≡ true → i ≡ p
same-place t i p k a u v h at st at-v plan holds may = let
    o = h.values.owned a st.0 i u at st.1 in let
    mine : writes t.main.plan k a ≡ true = subst (λ (q : Plan). writes q k a ≡ true) plan may in
    dite (ℕ_discrete o.0 k)
    (λ same. h.tiles.one_holder k i p u v at at-v (subst (λ (n : ℕ). Holds u n) same o.1) holds)
    (λ ne. absurd (not_both (touches t.main.plan k a) (write-touches t.main.plan k a mine) (h.phase.separate o.0 k ne a o.2)))

-- where a worker may store what is stored already, its own view has stored it
writer-is : (u : State) (i j a : ℕ) (later : List Step) → IsSound u → IsOut j u → may_store (view_of j u.seats) a ≡ true → KeptBy i a later u → (i ≡ j) × (list_any (is_join i) later ≡ false)
writer-is u i j a later h out may kept = let
    g = out-found j u h out in let
    v : View = view_of j u.seats in let
    some_j = h.phase.numbers j out in let
    number = g.number in let
    of = h.phase.lent (suc g.place) v g.at (omega arith) in let
    tile = any-held (λ k. writes v.plan k a) v.held may in
    ⊎_elim
    (λ (q : (list_any (is_join i) later ≡ false) × IsOut i u × Stored a (view_of i u.seats).own). let
    f = out-found i u h q.1 in let
    same : suc f.place ≡ suc g.place = same-place u (suc f.place) (suc g.place) tile.0 a (view_of i u.seats) v h f.at q.2 g.at of.plan tile.1 tile.2 in let
    place : f.place ≡ g.place = omega (arith, same) in let
    view : view_of i u.seats ≡ v = some-injective (view_of i u.seats) v (sym f.at ∙ ap (λ (n : ℕ). get_elem? u.seats n) place ∙ g.at) in
    (sym f.number ∙ ap (λ (z : View). z.number) view ∙ g.number, q.0))
    (λ (q : Stored a u.main.own). let same : 0 ≡ suc g.place = same-place u 0 (suc g.place) tile.0 a u.main v h refl q g.at of.plan tile.1 tile.2 in absurd (omega (arith, same)))
    kept

pub one-writer-of : (t : State) (later : List Step) (u : State) (i j a : ℕ) (x y : ℤ) → IsSound t → t.main.posted ≡ true → Lawful (Store i a x) t → RunsWithin later (state_after (Store i a x) t) u → Lawful (Store j a y) u → (i ≡ j) × (list_any (is_join i) later ≡ false)
one-writer-of t later u i j a x y h on first within second = let
    after : State = state_after (Store i a x) t in let
    sound : IsSound after = step-keeps (Store i a x) t h first in let
    same = step-in-phase (Store i a x) t h on first refl in let
    posted : after.main.posted ≡ true = same.posted ∙ on in let
    later_same = run-in-phase later after u sound posted within.run within.unsettled in let
    end : IsSound u = run-keeps later after u sound within.run in let
    still : u.main.posted ≡ true = later_same.posted ∙ posted in
    ⊎_elim (λ q. absurd (not_both t.main.posted on q.1.0)) (λ q. let
    out = step-stays (Store i a x) i t h on first refl refl q.0 in let
    bits : ℕ = cast_unsigned w64 x in let
    own : Stored a (own_after (Store i a x) i (view_of i t.seats).own) = subst (λ (b : Bool). Stored a (cond b ((a, bits) ∷ (view_of i t.seats).own) (view_of i t.seats).own)) (sym (eq-eqb i i refl)) (bits, stored-same a (a, bits) (view_of i t.seats).own refl) in let
    kept = writer-run later i a after u sound posted within.run within.unsettled out.out (subst (λ (l : List (ℕ × ℕ)). Stored a l) (sym out.own-is) own) in
    ⊎_elim (λ r. absurd (not_both u.main.posted still r.1.0)) (λ r. writer-is u i j a later end r.0 r.1 kept) second) first
