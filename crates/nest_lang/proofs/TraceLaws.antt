-- Traces one after another.
use Rattle.std.proofs.Common.{◌≡◌, refl, ap, ◌∙◌, List, [], ◌∷◌, ◌++◌, append_assoc, append-nil, Option, Some, None}
use Rattle.nest_lang.specs.Stores.{Store, effect_on}
use Rattle.nest_lang.specs.Traces.{Entry, Halt, Trace, ends, joined, and_then, in_turn, after_all}

-- traces one after another, grouped either way
pub after_all-append : (s : Store) (es fs : List Entry) → after_all s (es ++ fs) ≡ after_all (after_all s es) fs
after_all-append s [] fs = refl
after_all-append s (e ∷ es) fs = after_all-append (effect_on s e.effect) es fs

joined-joined : (halt : Option Halt) (es : List Entry) (w : Trace) (g : Store → Trace) (s : Store)
    → joined (joined halt es w).halt (joined halt es w).entries (g (after_all s (joined halt es w).entries)) ≡ joined halt es (joined w.halt w.entries (g (after_all (after_all s es) w.entries)))
joined-joined (Some halt) es w g s = refl
joined-joined None es w g s = at w.halt w.entries
  where
    at : (halt : Option Halt) (fs : List Entry) → joined halt (es ++ fs) (g (after_all s (es ++ fs))) ≡ joined None es (joined halt fs (g (after_all (after_all s es) fs)))
    at (Some halt) fs = refl
    at None fs =
        ap (λ (t : Store). joined None (es ++ fs) (g t)) (after_all-append s es fs)
        ∙ ap (λ (entries : List Entry). record { entries = entries; halt = (g (after_all (after_all s es) fs)).halt }) (append_assoc es fs (g (after_all (after_all s es) fs)).entries)

pub and_then-and_then : (s : Store) (t : Trace) (f g : Store → Trace) → and_then s (and_then s t f) g ≡ and_then s t (λ u. and_then u (f u) g)
and_then-and_then s t f g = joined-joined t.halt t.entries (f (after_all s t.entries)) g s

pub and_then-same : (s : Store) (t : Trace) (f g : Store → Trace) → ((u : Store) → f u ≡ g u) → and_then s t f ≡ and_then s t g
and_then-same s t f g same = ap (λ (w : Trace). joined t.halt t.entries w) (same (after_all s t.entries))

pub and_then-ends : (s : Store) (t : Trace) → and_then s t (in_turn []) ≡ t
and_then-ends s t = at t.halt t.entries
  where
    at : (halt : Option Halt) (es : List Entry) → joined halt es ends ≡ record { entries = es; halt = halt }
    at (Some halt) es = refl
    at None es = ap (λ (entries : List Entry). record { entries = entries; halt = None }) (append-nil es)
