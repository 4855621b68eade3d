-- What each step of a worker's seat owes the table: it is the step of the core.
use Rattle.std.proofs.Common.{◌≡◌, ℕ, zero, suc, ◌-◌, ◌<◌, Bool, true, false, eqb, cond, List, [], ◌∷◌, length, get_or, set, inr, refl, sym, ap, ◌∙◌, subst, ne_eqb, arith}
use Rattle.std.specs.Prelude.{ℤ, pos}
use Rattle.std.specs.Int.{w64, cast_signed, cast_unsigned}
use Rattle.std.proofs.lemmas.List.{set-get_or}
use mathlib.Core.Option.{some, some-injective}
use lib.ListN.{get_elem?}
use Rattle.atomic_table.specs.Table.{State as TableState, Me, keeps, Allows}
use Rattle.atomic_table.proofs.Lists.{set_again}
use Rattle.core_steps.specs.declared.step.Step.{Step}
use Rattle.core_steps.specs.declared.step.Step.TheVariants.{Load, Store, See, Raise, Claim}
use Rattle.core_steps.specs.declared.plan.Plan.{Plan}
use Rattle.core_steps.specs.declared.view.View.{View}
use Rattle.core_steps.specs.Plans.{touches, writes}
use Rattle.core_steps.specs.Views.{value_at, may_load, may_store, storing_view, based_view, seeing_view, failed_view, holding_view, knowing_view, claiming_view}
use Rattle.core_steps.specs.States.{State, memory_word, claim_word, flag_of, claim_of, views_of, view_of, with_view, IsOut}
use Rattle.core_steps.specs.Steps.{Lawful, state_after, seat_of, with_seat, with_word}
use Rattle.core_steps.specs.Invariant.{At, IsSound}
use Rattle.core_steps.proofs.StateStepLaws.{step-keeps, out-found, any-held, seat-of-worker, with-seat-worker}
use Rattle.core_steps.proofs.ViewListLaws.{at-same, set-here}
use Rattle.core_steps.proofs.LoadKeeps.{load-value}
use Rattle.core_steps.proofs.StoreKeeps.{store-keeps}
use Rattle.shared_words.specs.Seats.{IsCoreState}
use Rattle.shared_words.specs.Calls.{IsStepOf, HoldsSoundly, FindsFlag, RaisesFlag}

abbrev pub Table : Type 0
Table = TableState (Unit {0}) View

abbrev pub IsKept : Table → Type 0
IsKept s = IsCoreState s.words s.views

-- a worker's view is that of its seat, and another view in its place is one with the seat's changed
pub record IsWorkerAt (s : State) (id : ℕ) (v : View) : Type 0 where
  pub out : IsOut v.number s
  pub seat : seat_of v.number s ≡ v
  pub changed : (u : View) → set (views_of s) id u ≡ s.main ∷ with_view v.number u s.seats

pub worker-at : (s : State) (id : ℕ) (v : View) → IsSound s → At (views_of s) id v → 0 < v.number → IsWorkerAt s id v
worker-at s id v h at out = let
    of = h.phase.lent id v at out in let
    f = out-found v.number s h of.out in let
    place : suc f.place ≡ id = h.phase.only_view v.number out (suc f.place) id (view_of v.number s.seats) v f.at at f.number refl in let
    same : view_of v.number s.seats ≡ v = at-same (views_of s) id (view_of v.number s.seats) v (subst (λ (n : ℕ). At (views_of s) n (view_of v.number s.seats)) place f.at) at in
    record {
      out = of.out;
      seat = seat-of-worker v.number s out ∙ same;
      changed = λ u. ap (λ (n : ℕ). set (views_of s) n u) (sym place) ∙ ap (λ (l : List View). s.main ∷ l) (sym (f.with_set u));
    }

-- a step that changes the view of a worker, and perhaps a word, keeps the rule, and the seat's view is then the new one
pub worker-step : (x : Step) (s : State) (id : ℕ) (v u : View) (words : List ℕ) → IsSound s → At (views_of s) id v → 0 < v.number → u.number ≡ v.number → Lawful x s
    → state_after x s ≡ with_seat v.number u (record s { words = words }) → IsCoreState words (set (views_of s) id u) × (seat_of v.number (state_after x s) ≡ u)
worker-step x s id v u words h at out number lawful leads = let
    w = worker-at s id v h at out in let
    t : State = record { words = words; main = s.main; seats = with_view v.number u s.seats } in let
    to : state_after x s ≡ t = leads ∙ with-seat-worker v.number u (record s { words = words }) out in let
    sound : IsSound t = subst IsSound to (step-keeps x s h lawful) in let
    there : At (views_of t) id u = subst (λ (l : List View). At l id u) (w.changed u) (set-here (views_of s) id v u at) in let
    seat : seat_of u.number t ≡ u = (worker-at t id u sound there (omega arith)).seat in
    (subst (λ (l : List View). IsCoreState words l) (sym (w.changed u)) sound, ap (λ (z : State). seat_of v.number z) to ∙ ap (λ (n : ℕ). seat_of n t) (sym number) ∙ seat)

-- what a worker learns of its view in a state
pub holds-soundly : (s : State) (id : ℕ) (v : View) → IsSound s → At (views_of s) id v → 0 < v.number → HoldsSoundly s v
holds-soundly s id v h at out = let of = h.phase.lent id v at out in record {
  single = h.tiles.once id v at;
  planned = λ k holds. subst (λ (p : Plan). k < length p.tiles) (sym of.plan) (h.tiles.claimed k id v at holds).0;
  claimed = λ k holds. (h.tiles.claimed k id v at holds).1 ∙ sym of.epoch;
  owned = λ a x is. let o = h.values.owned a x id v at is in (o.0, o.1, subst (λ (p : Plan). writes p o.0 a ≡ true) (sym of.plan) o.2);
}

-- a step that changes nothing leaves the words and the views
pub unchanged : (ws : List ℕ) (views : List View) (i id : ℕ) (v : View) → get_elem? views id ≡ some v → IsCoreState ws views → IsCoreState (set ws i (get_or ws i 0)) (set views id v)
unchanged ws views i id v at h = subst (λ (p : List ℕ × List View). IsCoreState p.0 p.1) (λ z. (sym (set-get_or ws i 0) z, sym (set_again views id v at) z)) h

-- one that only loads leaves the words
pub words-stay : (ws : List ℕ) (views : List View) (i : ℕ) → IsCoreState ws views → IsCoreState (set ws i (get_or ws i 0)) views
words-stay ws views i h = subst (λ (l : List ℕ). IsCoreState l views) (sym (set-get_or ws i 0)) h

-- load

loads-in : (ws : List ℕ) (views : List View) (id a : ℕ) (v : View) → IsCoreState ws views → get_elem? views id ≡ some v → 0 < v.number → may_load v a ≡ true
    → (get_or ws (memory_word a) 0 ≡ value_at v a) × IsStepOf v.number v (Load v.number a) (cast_signed w64 (get_or ws (memory_word a) 0)) v
loads-in ws [] id a v h at out may = absurd h
loads-in ws (m ∷ ms) id a v h at out may = let
    s : State = record { words = ws; main = m; seats = ms } in let
    w = worker-at s id v h at out in let
    tile = any-held (λ k. touches v.plan k a) v.held may in (
      load-value ws m (m ∷ ms) id tile.0 a v h at out tile.1 tile.2,
      record {
        state = s;
        sound = h;
        lawful = inr (w.out, subst (λ (u : View). may_load u a ≡ true) (sym (sym (seat-of-worker v.number s out) ∙ w.seat)) may);
        before = w.seat;
        answered = refl;
        after = w.seat;
      },
    )

pub loads : (slots id a : ℕ) (me : Me (Unit {0}) View) → 0 < me.0.number → may_load me.0 a ≡ true
    → Allows IsKept slots id me (memory_word a) (λ n. n)
    (λ n w. (w ≡ me) × (n ≡ value_at me.0 (memory_word a - 65537)) × IsStepOf me.0.number me.0 (Load me.0.number (memory_word a - 65537)) (cast_signed w64 n) me.0)
loads slots id a me out may s h homes at small = let back : a ≡ memory_word a - 65537 = omega arith in let
    n : ℕ = get_or s.words (memory_word a) 0 in let
    both = loads-in s.words s.views id a me.0 h at out may in
    (me.0, keeps, tt, unchanged s.words s.views (memory_word a) id me.0 at h, subst (λ (b : ℕ). (let w : Me (Unit {0}) View = me in w ≡ me) × (n ≡ value_at me.0 b) × IsStepOf me.0.number me.0 (Load me.0.number b) (cast_signed w64 n) me.0) back (refl, both.0, both.1))

-- store

stored-in : (ws : List ℕ) (views : List View) (id a x : ℕ) (v : View) → IsCoreState ws views → get_elem? views id ≡ some v → 0 < v.number → may_store v a ≡ true
    → IsCoreState (set ws (memory_word a) x) (set views id (storing_view v a x))
stored-in ws [] id a x v h at out may = absurd h
stored-in ws (m ∷ ms) zero a x v h at out may = let none = h.phase.main_number in let is = ap (λ (u : View). u.number) (some-injective m v at) in absurd (omega arith)
stored-in ws (m ∷ ms) (suc id) a x v h at out may = let tile = any-held (λ k. writes v.plan k a) v.held may in store-keeps ws m (m ∷ ms) (suc id) tile.0 a x v h at out tile.1 tile.2

store-step : (ws : List ℕ) (views : List View) (id a : ℕ) (x : ℤ) (v : View) → IsCoreState ws views → get_elem? views id ≡ some v → 0 < v.number → may_store v a ≡ true
    → IsStepOf v.number v (Store v.number a x) (pos 0) (storing_view v a (cast_unsigned w64 x))
store-step ws [] id a x v h at out may = absurd h
store-step ws (m ∷ ms) id a x v h at out may = let
    s : State = record { words = ws; main = m; seats = ms } in let
    w = worker-at s id v h at out in let
    bits : ℕ = cast_unsigned w64 x in let
    n : ℕ = v.number in let
    lawful : Lawful (Store n a x) s = inr (w.out, subst (λ (u : View). may_store u a ≡ true) (sym (sym (seat-of-worker n s out) ∙ w.seat)) may) in let
    leads : state_after (Store n a x) s ≡ with_seat n (storing_view v a bits) (with_word (memory_word a) bits s) =
    ap (λ (b : Bool). with_seat n (cond b (based_view (seat_of n s) a bits) (storing_view (seat_of n s) a bits)) (with_word (memory_word a) bits s)) (ne_eqb n 0 (λ e. omega arith))
    ∙ ap (λ (u : View). with_seat n (storing_view u a bits) (with_word (memory_word a) bits s)) w.seat in
    record { state = s; sound = h; lawful = lawful; before = w.seat; answered = refl; after = (worker-step (Store n a x) s id v (storing_view v a bits) (set ws (memory_word a) bits) h at out refl lawful leads).1 }

pub stores : (slots id a bits : ℕ) (me : Me (Unit {0}) View) → 0 < me.0.number → may_store me.0 a ≡ true
    → Allows IsKept slots id me (memory_word a) (λ _. bits)
    (λ _ w. (w ≡ (storing_view me.0 (memory_word a - 65537) bits, me.1)) × ((x : ℤ) → cast_unsigned w64 x ≡ bits → IsStepOf me.0.number me.0 (Store me.0.number (memory_word a - 65537) x) (pos 0) w.0))
stores slots id a bits me out may s h homes at small = let back : a ≡ memory_word a - 65537 = omega arith in let
    w : Me (Unit {0}) View = (storing_view me.0 a bits, me.1) in (
      storing_view me.0 a bits,
      keeps,
      tt,
      stored-in s.words s.views id a bits me.0 h at out may,
      (
        ap (λ (b : ℕ). (storing_view me.0 b bits, me.1)) back,
        λ x is. subst (λ (b : ℕ). IsStepOf me.0.number me.0 (Store me.0.number b x) (pos 0) w.0) back
            (subst (λ (y : ℕ). IsStepOf me.0.number me.0 (Store me.0.number a x) (pos 0) (storing_view me.0 a y)) is (store-step s.words s.views id a x me.0 h at out may)),
      ),
    )

-- see

seen_in : (ws : List ℕ) (views : List View) (id : ℕ) (v : View) → IsCoreState ws views → get_elem? views id ≡ some v → 0 < v.number
    → IsCoreState ws (set views id (seeing_view v (get_or ws 0 0))) × FindsFlag v (get_or ws 0 0) (seeing_view v (get_or ws 0 0))
seen_in ws [] id v h at out = absurd h
seen_in ws (m ∷ ms) id v h at out = let
    s : State = record { words = ws; main = m; seats = ms } in let
    w = worker-at s id v h at out in let
    n : ℕ = v.number in let
    lawful : Lawful (See n) s = inr w.out in let
    leads : state_after (See n) s ≡ with_seat n (seeing_view v (flag_of ws)) s = ap (λ (u : View). with_seat n (seeing_view u (flag_of ws)) s) w.seat in let
    step = worker-step (See n) s id v (seeing_view v (flag_of ws)) ws h at out refl lawful leads in
    (step.0, record { step = record { state = s; sound = h; lawful = lawful; before = w.seat; answered = refl; after = step.1 }; holds = holds-soundly s id v h at out })

pub sees : (slots id : ℕ) (me : Me (Unit {0}) View) → 0 < me.0.number → Allows IsKept slots id me 0 (λ n. n) (λ n w. (w ≡ (seeing_view me.0 n, me.1)) × FindsFlag me.0 n w.0)
sees slots id me out s h homes at small = let both = seen_in s.words s.views id me.0 h at out in let
    w : View = seeing_view me.0 (get_or s.words 0 0) in
    (w, keeps, tt, words-stay s.words (set s.views id w) 0 both.0, (refl, both.1))

-- raise

raised-in : (ws : List ℕ) (views : List View) (id : ℕ) (v : View) → IsCoreState ws views → get_elem? views id ≡ some v → 0 < v.number
    → IsCoreState (set ws 0 v.epoch) (set views id (failed_view v)) × RaisesFlag v (failed_view v)
raised-in ws [] id v h at out = absurd h
raised-in ws (m ∷ ms) id v h at out = let
    s : State = record { words = ws; main = m; seats = ms } in let
    w = worker-at s id v h at out in let
    n : ℕ = v.number in let
    lawful : Lawful (Raise n) s = w.out in let
    leads : state_after (Raise n) s ≡ with_seat n (failed_view v) (with_word 0 v.epoch s) = ap (λ (u : View). with_seat n (failed_view u) (with_word 0 u.epoch s)) w.seat in let
    step = worker-step (Raise n) s id v (failed_view v) (set ws 0 v.epoch) h at out refl lawful leads in
    (step.0, record { step = record { state = s; sound = h; lawful = lawful; before = w.seat; answered = refl; after = step.1 }; holds = holds-soundly s id v h at out })

pub raises : (slots id : ℕ) (me : Me (Unit {0}) View) → 0 < me.0.number → Allows IsKept slots id me 0 (λ _. me.0.epoch) (λ _ w. (w ≡ (failed_view me.0, me.1)) × RaisesFlag me.0 w.0)
raises slots id me out s h homes at small = let both = raised-in s.words s.views id me.0 h at out in (failed_view me.0, keeps, tt, both.0, (refl, both.1))

-- claim

claiming-number : (v : View) (k claim : ℕ) → (claiming_view v k claim).number ≡ v.number
claiming-number v k claim = elim (eqb claim v.epoch) as (λ b. (cond b (knowing_view v k) (holding_view v k)).number ≡ v.number) [ true ↦ refl | false ↦ refl ]

claimed-in : (ws : List ℕ) (views : List View) (id k : ℕ) (v : View) → IsCoreState ws views → get_elem? views id ≡ some v → 0 < v.number → k < length v.plan.tiles
    → (let u : View = claiming_view v k (get_or ws (claim_word k) 0) in IsCoreState (set ws (claim_word k) v.epoch) (set views id u) × IsStepOf v.number v (Claim v.number k) (pos (get_or ws (claim_word k) 0)) u)
claimed-in ws [] id k v h at out planned = absurd h
claimed-in ws (m ∷ ms) id k v h at out planned = let
    s : State = record { words = ws; main = m; seats = ms } in let
    w = worker-at s id v h at out in let
    n : ℕ = v.number in let
    u : View = claiming_view v k (claim_of ws k) in let
    of = h.phase.lent id v at out in let
    lawful : Lawful (Claim n k) s = (w.out, subst (λ (p : Plan). k < length p.tiles) of.plan planned) in let
    leads : state_after (Claim n k) s ≡ with_seat n u (with_word (claim_word k) v.epoch s) = ap (λ (z : View). with_seat n (claiming_view z k (claim_of ws k)) (with_word (claim_word k) z.epoch s)) w.seat in let
    step = worker-step (Claim n k) s id v u (set ws (claim_word k) v.epoch) h at out (claiming-number v k (claim_of ws k)) lawful leads in
    (step.0, record { state = s; sound = h; lawful = lawful; before = w.seat; answered = refl; after = step.1 })

pub claims : (slots id k : ℕ) (me : Me (Unit {0}) View) → 0 < me.0.number → k < length me.0.plan.tiles
    → Allows IsKept slots id me (claim_word k) (λ _. me.0.epoch)
    (λ n w. (w ≡ (claiming_view me.0 (claim_word k - 1) n, me.1)) × IsStepOf me.0.number me.0 (Claim me.0.number (claim_word k - 1)) (pos n) w.0)
claims slots id k me out planned s h homes at small = let back : k ≡ claim_word k - 1 = omega arith in let
    n : ℕ = get_or s.words (claim_word k) 0 in let
    u : View = claiming_view me.0 k n in let
    both = claimed-in s.words s.views id k me.0 h at out planned in
    (u, keeps, tt, both.0, (ap (λ (j : ℕ). (claiming_view me.0 j n, me.1)) back, subst (λ (j : ℕ). IsStepOf me.0.number me.0 (Claim me.0.number j) (pos n) u) back both.1))
