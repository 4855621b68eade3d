-- Traces of which one stops where the other goes on.
use Rattle.std.proofs.Common.{◌≡◌, refl, ap, ◌∙◌, sym, subst, ℕ, ℤ, zero, suc, ◌<◌, ◌+◌, ◌≤◌, ◌⊎◌, inl, inr, Bool, true, false, nat_le, List, [], ◌∷◌, ◌++◌, length, append_assoc, Option, Some, None, arith}
use Rattle.nest_lang.specs.Stores.{Store, effect_on}
use Rattle.nest_lang.specs.Traces.{Observation, Entry, Halt, Stopped, Trace, joined, and_then, in_turn, Transition, traced, after_all, Halted, Cut, cut, seen_of, seen_in}
use Rattle.nest_lang.proofs.CutLaws.{trace_of, cut-stop, cut-cons, cut-end}
use Rattle.nest_lang.specs.TurnLaws.{IsStopped}

-- the first trace stops in a step before which both show the same
pub record StopsShort (t u : Trace) : Type 0 where
  pub shared : List Entry
  pub last : Entry
  pub other : Entry
  pub more : List Entry
  pub access : ℕ
  pub seen : ℤ
  pub expected : Option ℤ
  pub stopped : t ≡ trace_of (shared ++ last ∷ []) (Some (Stopped access seen expected))
  pub goes : u.entries ≡ shared ++ other ∷ more
  pub due : last.before ≡ other.before

-- two traces are equal, or the first stops short
abbrev pub UpTo : Trace → Trace → Type 0
UpTo t u = (t ≡ u) ⊎ StopsShort t u

abbrev pub UpToOn : (Store → Trace) → (Store → Trace) → Type 0
UpToOn f g = (s : Store) → UpTo (f s) (g s)

pub up-joined : (halt : Option Halt) (es : List Entry) (t u : Trace) → UpTo t u → UpTo (joined halt es t) (joined halt es u)
up-joined (Some halt) es t u up = inl refl
up-joined None es t u (inl e) = inl (ap (λ (w : Trace). joined None es w) e)
up-joined None es t u (inr p) =
    inr (record {
      shared = es ++ p.shared;
      last = p.last;
      other = p.other;
      more = p.more;
      access = p.access;
      seen = p.seen;
      expected = p.expected;
      stopped = ap (λ (w : Trace). joined None es w) p.stopped ∙ ap (λ (entries : List Entry). trace_of entries (Some (Stopped p.access p.seen p.expected))) (sym (append_assoc es p.shared (p.last ∷ [])));
      goes = ap (λ (entries : List Entry). es ++ entries) p.goes ∙ sym (append_assoc es p.shared (p.other ∷ p.more));
      due = p.due;
    })

joined-front : (halt : Option Halt) (es shared : List Entry) (other : Entry) (more : List Entry) (w : Trace) → es ≡ shared ++ other ∷ more → (rest : List Entry) × ((joined halt es w).entries ≡ shared ++ other ∷ rest)
joined-front (Some halt) es shared other more w e = (more, e)
joined-front None es shared other more w e = (more ++ w.entries, ap (λ (entries : List Entry). entries ++ w.entries) e ∙ append_assoc shared (other ∷ more) w.entries)

pub up-and_then : (s : Store) (t u : Trace) (f g : Store → Trace) → UpTo t u → UpToOn f g → UpTo (and_then s t f) (and_then s u g)
up-and_then s t u f g (inl e) on =
    subst (λ (w : Trace). UpTo (and_then s t f) (and_then s w g)) e (up-joined t.halt t.entries (f (after_all s t.entries)) (g (after_all s t.entries)) (on (after_all s t.entries)))
up-and_then s t u f g (inr p) on =
    let front = joined-front u.halt u.entries p.shared p.other p.more (g (after_all s u.entries)) p.goes in
    inr (record {
      shared = p.shared;
      last = p.last;
      other = p.other;
      more = front.0;
      access = p.access;
      seen = p.seen;
      expected = p.expected;
      stopped = ap (λ (w : Trace). and_then s w f) p.stopped;
      goes = front.1;
      due = p.due;
    })

pub up-ends : UpToOn (in_turn []) (in_turn [])
up-ends s = inl refl

pub up-only : (f g : Store → Trace) → UpToOn f g → UpToOn (in_turn (f ∷ [])) (in_turn (g ∷ []))
up-only f g on s = up-and_then s (f s) (g s) (in_turn []) (in_turn []) (on s) up-ends

pub up-two : (f g f' g' : Store → Trace) → UpToOn f g → UpToOn f' g' → UpToOn (in_turn (f ∷ f' ∷ [])) (in_turn (g ∷ g' ∷ []))
up-two f g f' g' on on' s = up-and_then s (f s) (g s) (in_turn (f' ∷ [])) (in_turn (g' ∷ [])) (on s) (up-only f' g' on')

-- a step that stops
pub up-stops : (a b : Transition) (s : Store) (access : ℕ) (seen : ℤ) (expected : Option ℤ) → a.halt ≡ Some (Stopped access seen expected) → a.entry.before ≡ b.entry.before → UpTo (traced a s) (traced b s)
up-stops a b s access seen expected stops due =
    let front = joined-front b.halt (b.entry ∷ []) [] b.entry [] (in_turn b.rest (effect_on s b.entry.effect)) refl in
    inr (record {
      shared = [];
      last = a.entry;
      other = b.entry;
      more = front.0;
      access = access;
      seen = seen;
      expected = expected;
      stopped = ap (λ (halt : Option Halt). joined halt (a.entry ∷ []) (in_turn a.rest (effect_on s a.entry.effect))) stops;
      goes = front.1;
      due = due;
    })

-- as far as a run that doesn't stop comes, the two are the same
cut-front : (es : List Entry) (x y : Entry) (xs ys : List Entry) (h k : Option Halt) (s : Store) (left used : ℕ) → left ≤ length es → cut (trace_of (es ++ x ∷ xs) h) s left used ≡ cut (trace_of (es ++ y ∷ ys) k) s left used
cut-front [] x y xs ys h k s zero used few = cut-stop x xs h s used ∙ sym (cut-stop y ys k s used)
cut-front [] x y xs ys h k s (suc n) used few = absurd (omega (arith, few))
cut-front (e ∷ es) x y xs ys h k s zero used few = cut-stop e (es ++ x ∷ xs) h s used ∙ sym (cut-stop e (es ++ y ∷ ys) k s used)
cut-front (e ∷ es) x y xs ys h k s (suc n) used few =
    cut-cons e (es ++ x ∷ xs) h s n used ∙ cut-front es x y xs ys h k (effect_on s e.effect) n (used + 1) (omega (arith, few)) ∙ sym (cut-cons e (es ++ y ∷ ys) k s n used)

seen-front : (es : List Entry) (x y : Entry) (xs ys : List Entry) (left : ℕ) → left ≤ length es → x.before ≡ y.before → seen_of (es ++ x ∷ xs) left ≡ seen_of (es ++ y ∷ ys) left
seen-front [] x y xs ys zero few due = due
seen-front [] x y xs ys (suc n) few due = absurd (omega (arith, few))
seen-front (e ∷ es) x y xs ys zero few due = refl
seen-front (e ∷ es) x y xs ys (suc n) few due = ap (λ (os : List Observation). e.before ++ e.seen ++ os) (seen-front es x y xs ys n (omega (arith, few)) due)

cut-stopped : (es : List Entry) (x : Entry) (h : Halt) (s : Store) (left used : ℕ) → length es < left → (cut (trace_of (es ++ x ∷ []) (Some h)) s left used).ending ≡ Halted h
cut-stopped es x h s zero used more = absurd (omega (arith, more))
cut-stopped [] x h s (suc n) used more = ap (λ (c : Cut). c.ending) (cut-cons x [] (Some h) s n used ∙ cut-end (Some h) (effect_on s x.effect) n (used + 1))
cut-stopped (e ∷ es) x h s (suc n) used more = ap (λ (c : Cut). c.ending) (cut-cons e (es ++ x ∷ []) (Some h) s n used) ∙ cut-stopped es x h (effect_on s e.effect) n (used + 1) (omega (arith, more))

pub up-same : (t u : Trace) (s : Store) (left used : ℕ) → UpTo t u → (IsStopped (cut t s left used).ending → ⊥) → (cut t s left used ≡ cut u s left used) × (seen_in t left ≡ seen_in u left)
unfolding seen_in
up-same t u s left used (inl e) other = (ap (λ (w : Trace). cut w s left used) e, ap (λ (w : Trace). seen_of w.entries left) e)
up-same t u s left used (inr p) other = by (nat_le left (length p.shared)) refl
  where
    stops : Halt
    stops = Stopped p.access p.seen p.expected

    by : (b : Bool) → nat_le left (length p.shared) ≡ b → (cut t s left used ≡ cut u s left used) × (seen_of t.entries left ≡ seen_of u.entries left)
    by true h =
        let few : left ≤ length p.shared = grind (arith, h) in (
          ap (λ (w : Trace). cut w s left used) p.stopped
              ∙ cut-front p.shared p.last p.other [] p.more (Some stops) u.halt s left used few
              ∙ ap (λ (entries : List Entry). cut (trace_of entries u.halt) s left used) (sym p.goes),
          ap (λ (w : Trace). seen_of w.entries left) p.stopped
              ∙ seen-front p.shared p.last p.other [] p.more left few p.due
              ∙ ap (λ (entries : List Entry). seen_of entries left) (sym p.goes),
        )
    by false h =
        let more : length p.shared < left = grind (arith, h) in
        let ending : (cut t s left used).ending ≡ Halted stops = ap (λ (w : Trace). (cut w s left used).ending) p.stopped ∙ cut-stopped p.shared p.last stops s left used more in
        absurd (other (subst IsStopped (sym ending) tt))
