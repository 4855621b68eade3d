-- How a cut trace goes on, and what it shows.
use Rattle.std.proofs.Common.{◌≡◌, append_assoc, append-nil, refl, ap, ◌∙◌, sym, ℕ, zero, suc, ◌<◌, ◌+◌, ◌-◌, ◌≤◌, min, List, [], ◌∷◌, ◌++◌, Option, Some, None, arith}
use Rattle.nest_lang.specs.Stores.{Store, effect_on}
use Rattle.nest_lang.specs.Traces.{Observation, Entry, Halt, Trace, ends, joined, and_then, in_turn, Transition, traced, Finish, Done, Halted, Limited, finish_of, Cut, cut_of, cut, after_all, seen_in}

abbrev pub trace_of : List Entry → Option Halt → Trace
trace_of entries halt = record { entries = entries; halt = halt }

-- no step is left, and one is due
pub cut-stop : (e : Entry) (es : List Entry) (halt : Option Halt) (s : Store) (used : ℕ) → cut (trace_of (e ∷ es) halt) s 0 used ≡ cut_of s 0 used Limited
unfolding cut
cut-stop e es halt s used = grind arith

-- one step is taken
pub cut-cons : (e : Entry) (es : List Entry) (halt : Option Halt) (s : Store) (n used : ℕ) → cut (trace_of (e ∷ es) halt) s (suc n) used ≡ cut (trace_of es halt) (effect_on s e.effect) n (used + 1)
unfolding cut
cut-cons e es halt s n used = grind arith

-- no step is due
pub cut-end : (halt : Option Halt) (s : Store) (left used : ℕ) → cut (trace_of [] halt) s left used ≡ cut_of s left used (finish_of halt)
unfolding cut
cut-end halt s left used = grind arith

pub cut-ends : (s : Store) (left used : ℕ) → cut ends s left used ≡ cut_of s left used Done
cut-ends s left used = cut-end None s left used

-- where a step leads, with what is left of the budget
abbrev pub goes_on : Option Halt → Trace → Store → ℕ → ℕ → Cut
goes_on (Some halt) more s left used = cut_of s left used (Halted halt)
goes_on None more s left used = cut more s left used

abbrev pub stepped : Transition → Store → ℕ → ℕ → Cut
stepped st s zero used = cut_of s 0 used Limited
stepped st s (suc n) used = goes_on st.halt (in_turn st.rest (effect_on s st.entry.effect)) (effect_on s st.entry.effect) n (used + 1)

cut-joined-one : (halt : Option Halt) (e : Entry) (more : Trace) (s : Store) (n used : ℕ) → cut (joined halt (e ∷ []) more) s (suc n) used ≡ goes_on halt more (effect_on s e.effect) n (used + 1)
cut-joined-one (Some halt) e more s n used = cut-cons e [] (Some halt) s n used ∙ cut-end (Some halt) _ _ _
cut-joined-one None e more s n used = cut-cons e more.entries more.halt s n used

cut-joined-stop : (halt : Option Halt) (e : Entry) (more : Trace) (s : Store) (used : ℕ) → cut (joined halt (e ∷ []) more) s 0 used ≡ cut_of s 0 used Limited
cut-joined-stop (Some halt) e more s used = cut-stop e [] (Some halt) s used
cut-joined-stop None e more s used = cut-stop e more.entries more.halt s used

pub cut-traced : (st : Transition) (s : Store) (left used : ℕ) → cut (traced st s) s left used ≡ stepped st s left used
cut-traced st s zero used = cut-joined-stop st.halt st.entry _ s used
cut-traced st s (suc n) used = cut-joined-one st.halt st.entry _ s n used

-- a step that is due is taken where one is left
pub cut-step : (st : Transition) (s : Store) (left used left' used' : ℕ) → 0 < left → left' ≡ left - 1 → used' ≡ used + min 1 left → cut (traced st s) s left used ≡ goes_on st.halt (in_turn st.rest (effect_on s st.entry.effect)) (effect_on s st.entry.effect) left' used'
cut-step st s zero used left' used' h e f = absurd (omega arith)
cut-step st s (suc n) used left' used' h e f =
    let a : left' ≡ n = omega arith in
    let b : used' ≡ used + 1 = omega arith in
    rw (a, b) (cut-traced st s (suc n) used)

-- a step is due, and none is left
pub cut-due : (st : Transition) (s : Store) (left used : ℕ) → left ≡ 0 → cut (traced st s) s left used ≡ cut_of s left used Limited
cut-due st s left used e = rw e (cut-traced st s 0 used)

-- what a run of more gives where a part was done, and else what the part gave
abbrev pub resumed_at : Finish → Store → ℕ → ℕ → (Store → Trace) → Cut
resumed_at Done s left used go = cut (go s) s left used
resumed_at (Halted halt) s left used go = cut_of s left used (Halted halt)
resumed_at Limited s left used go = cut_of s left used Limited

abbrev pub resumed : Cut → (Store → Trace) → Cut
resumed c go = resumed_at c.ending c.store c.left c.used go

resumed-not-at : (e : Finish) (s : Store) (left used : ℕ) (go : Store → Trace) → (e ≡ Done → ⊥) → resumed_at e s left used go ≡ cut_of s left used e
resumed-not-at Done s left used go h = absurd (h refl)
resumed-not-at (Halted halt) s left used go h = refl
resumed-not-at Limited s left used go h = refl

-- a part that was not done is the end of the whole
pub resumed-not : (cu : Cut) (go : Store → Trace) → (cu.ending ≡ Done → ⊥) → resumed cu go ≡ cu
resumed-not cu go other = resumed-not-at cu.ending cu.store cu.left cu.used go other

-- a run of two parts is a run of the first, and then of the second with what is left
pub cut-join : (halt : Option Halt) (es : List Entry) (go : Store → Trace) (s : Store) (left used : ℕ) → cut (joined halt es (go (after_all s es))) s left used ≡ resumed (cut (trace_of es halt) s left used) go
cut-join (Some halt) [] go s left used = rw cut-end refl
cut-join None [] go s left used = rw cut-end refl
cut-join (Some halt) (e ∷ es) go s zero used = rw cut-stop refl
cut-join None (e ∷ es) go s zero used = rw (cut-stop, cut-stop) refl
cut-join (Some halt) (e ∷ es) go s (suc n) used = rw cut-cons (cut-join (Some halt) es go (effect_on s e.effect) n (used + 1))
cut-join None (e ∷ es) go s (suc n) used = rw (cut-cons, cut-cons) (cut-join None es go (effect_on s e.effect) n (used + 1))

pub cut-and_then : (t : Trace) (go : Store → Trace) (s : Store) (left used : ℕ) → cut (and_then s t go) s left used ≡ resumed (cut t s left used) go
cut-and_then t go s left used = cut-join t.halt t.entries go s left used

-- a cut leaves no more steps than there were
pub cut-left : (t : Trace) (s : Store) (left used : ℕ) → (cut t s left used).left ≤ left
unfolding cut
cut-left t s left used = omega arith

-- no step is lost
pub cut-kept : (t : Trace) (s : Store) (left used : ℕ) → (cut t s left used).left + (cut t s left used).used ≡ left + used
unfolding cut
cut-kept t s left used = omega arith

pub resumed-ends : (cu : Cut) → resumed cu (in_turn []) ≡ cu
resumed-ends cu = resumed-ends-at cu.ending cu.store cu.left cu.used
  where
    resumed-ends-at : (e : Finish) (s : Store) (left used : ℕ) → resumed (cut_of s left used e) (in_turn []) ≡ cut_of s left used e
    resumed-ends-at Done s left used = cut-end None s left used
    resumed-ends-at (Halted halt) s left used = refl
    resumed-ends-at Limited s left used = refl

-- traces one after another
pub cut-turn : (f : Store → Trace) (fs : List (Store → Trace)) (s : Store) (left used : ℕ) → cut (in_turn (f ∷ fs) s) s left used ≡ resumed (cut (f s) s left used) (in_turn fs)
cut-turn f fs s left used = cut-join (f s).halt (f s).entries (in_turn fs) s left used

pub cut-two : (f g : Store → Trace) (s : Store) (left used : ℕ) → cut (in_turn (f ∷ g ∷ []) s) s left used ≡ resumed (cut (f s) s left used) (in_turn (g ∷ []))
cut-two f g s left used = cut-turn f (g ∷ []) s left used

pub cut-only : (g : Store → Trace) (s : Store) (left used : ℕ) → cut (in_turn (g ∷ []) s) s left used ≡ cut (g s) s left used
cut-only g s left used = cut-turn g [] s left used ∙ resumed-ends (cut (g s) s left used)

-- two ways on that agree at few steps
pub resumed-any : (n : ℕ) (f g : Store → Trace) → ((s : Store) (left used : ℕ) → left ≤ n → cut (f s) s left used ≡ cut (g s) s left used) → (e : Finish) (s : Store) (left used : ℕ) → left ≤ n → resumed (cut_of s left used e) f ≡ resumed (cut_of s left used e) g
resumed-any n f g same_on Done s left used h = same_on s left used h
resumed-any n f g same_on (Halted halt) s left used h = refl
resumed-any n f g same_on Limited s left used h = refl

-- what a step shows, and what it then runs
abbrev pub goes_seen : Option Halt → Trace → ℕ → List Observation
goes_seen (Some halt) more left = []
goes_seen None more left = seen_in more left

seen-joined-one : (halt : Option Halt) (e : Entry) (more : Trace) (n : ℕ) → seen_in (joined halt (e ∷ []) more) (suc n) ≡ e.before ++ e.seen ++ goes_seen halt more n
unfolding seen_in
seen-joined-one (Some halt) e more n = refl
seen-joined-one None e more n = refl

seen-joined-none : (halt : Option Halt) (e : Entry) (more : Trace) → seen_in (joined halt (e ∷ []) more) 0 ≡ e.before
unfolding seen_in
seen-joined-none (Some halt) e more = refl
seen-joined-none None e more = refl

pub seen-step : (st : Transition) (s : Store) (left left' : ℕ) → 0 < left → left' ≡ left - 1 → seen_in (traced st s) left ≡ st.entry.before ++ st.entry.seen ++ goes_seen st.halt (in_turn st.rest (effect_on s st.entry.effect)) left'
seen-step st s zero left' h e = absurd (omega arith)
seen-step st s (suc n) left' h e =
    let a : left' ≡ n = omega arith in
    rw a (seen-joined-one st.halt st.entry (in_turn st.rest (effect_on s st.entry.effect)) n)

-- a step that is due shows what is shown before it
pub seen-due : (st : Transition) (s : Store) (left : ℕ) → left ≡ 0 → seen_in (traced st s) left ≡ st.entry.before
seen-due st s left e = rw e (seen-joined-none st.halt st.entry (in_turn st.rest (effect_on s st.entry.effect)))

pub seen-ends : (left : ℕ) → seen_in ends left ≡ []
unfolding seen_in
seen-ends left = refl

-- what follows a part shows
abbrev pub rest_seen_at : Finish → Store → ℕ → (Store → Trace) → List Observation
rest_seen_at Done s left go = seen_in (go s) left
rest_seen_at (Halted halt) s left go = []
rest_seen_at Limited s left go = []

abbrev pub rest_seen : Cut → (Store → Trace) → List Observation
rest_seen cu go = rest_seen_at cu.ending cu.store cu.left go

pub rest-seen-not : (e : Finish) (s : Store) (left : ℕ) (go : Store → Trace) → (e ≡ Done → ⊥) → rest_seen_at e s left go ≡ []
rest-seen-not Done s left go h = absurd (h refl)
rest-seen-not (Halted halt) s left go h = refl
rest-seen-not Limited s left go h = refl

-- a run of two parts shows what the first shows, and then the second with what is left
pub seen-join : (halt : Option Halt) (es : List Entry) (go : Store → Trace) (s : Store) (left used : ℕ) → seen_in (joined halt es (go (after_all s es))) left ≡ seen_in (trace_of es halt) left ++ rest_seen (cut (trace_of es halt) s left used) go
unfolding seen_in
seen-join (Some halt) [] go s left used = rw cut-end refl
seen-join None [] go s left used = rw cut-end refl
seen-join (Some halt) (e ∷ es) go s zero used = rw cut-stop (sym (append-nil e.before))
seen-join None (e ∷ es) go s zero used = rw cut-stop (sym (append-nil e.before))
seen-join (Some halt) (e ∷ es) go s (suc n) used =
    rw cut-cons (ap (λ z. e.before ++ e.seen ++ z) (seen-join (Some halt) es go (effect_on s e.effect) n (used + 1)) ∙ sym (append_assoc (e.before ++ e.seen) _ _))
seen-join None (e ∷ es) go s (suc n) used =
    rw cut-cons (ap (λ z. e.before ++ e.seen ++ z) (seen-join None es go (effect_on s e.effect) n (used + 1)) ∙ sym (append_assoc (e.before ++ e.seen) _ _))

pub seen-and_then : (t : Trace) (go : Store → Trace) (s : Store) (left used : ℕ) → seen_in (and_then s t go) left ≡ seen_in t left ++ rest_seen (cut t s left used) go
seen-and_then t go s left used = seen-join t.halt t.entries go s left used

pub seen-turn : (f : Store → Trace) (fs : List (Store → Trace)) (s : Store) (left used : ℕ) → seen_in (in_turn (f ∷ fs) s) left ≡ seen_in (f s) left ++ rest_seen (cut (f s) s left used) (in_turn fs)
seen-turn f fs s left used = seen-join (f s).halt (f s).entries (in_turn fs) s left used
