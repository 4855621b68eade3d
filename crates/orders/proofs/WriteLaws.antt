-- A run that is a list of writes is lawful, where the list depends on what is touched alone and stays inside the writes.
use Rattle.std.proofs.Common.{◌≡◌, ℕ, ℤ, pos, Bool, true, false, Option, Some, None, List, [], ◌∷◌, length, set, refl, sym, ap, ◌∙◌, subst, arith, ⊎_elim, true≢false, length-set, get_or-set_same, get_or-set_other}
use Rattle.std.specs.List.{AllByRecursion}
use Rattle.std.proofs.lemmas.Bool.{cases_eq, cases_lt}
use Rattle.std.proofs.lemmas.List.{set_past}
use Rattle.orders.specs.Runs.{Outcome, word, Machine, SameOn, Alike, Lawful, LawfulWrites, written, by_writes}
use Rattle.orders.proofs.SwapLaws.{some-injective}
use Rattle.orders.proofs.LiftLaws.{or-from-second}

length-written : (es : List (ℕ × ℤ)) (m : List ℤ) → length (written es m) ≡ length m
length-written [] m = refl
length-written (e ∷ es) m = length-written es (set m e.0 e.1) ∙ length-set m e.0 e.1

same-set : (m w : List ℤ) (i a : ℕ) (v : ℤ) → length m ≡ length w → word m a ≡ word w a → word (set m i v) a ≡ word (set w i v) a
same-set m w i a v size h =
    ⊎_elim
    (λ e. ⊎_elim
    (λ l. subst (λ k. word (set m i v) k ≡ word (set w i v) k) (sym e) (get_or-set_same m i v (pos 0) l ∙ sym (get_or-set_same w i v (pos 0) (omega arith))))
    (λ past. rw (set_past m i v past, set_past w i v (omega arith)) h)
    (cases_lt i (length m)))
    (λ ne. get_or-set_other m i a v (pos 0) ne ∙ h ∙ sym (get_or-set_other w i a v (pos 0) ne))
    (cases_eq a i)

same-written : (p : ℕ → Bool) (es : List (ℕ × ℤ)) (m w : List ℤ) → length m ≡ length w → SameOn p m w → SameOn p (written es m) (written es w)
same-written p [] m w size same = same
same-written p (e ∷ es) m w size same =
    same-written p es (set m e.0 e.1) (set w e.0 e.1) (length-set m e.0 e.1 ∙ size ∙ sym (length-set w e.0 e.1)) (λ a k. same-set m w e.0 a e.1 size (same a k))

kept-written : (p : ℕ → Bool) (es : List (ℕ × ℤ)) (m : List ℤ) (a : ℕ) → AllByRecursion (λ e. p e.0 ≡ true) es → p a ≡ false → word (written es m) a ≡ word m a
kept-written p [] m a inside out = refl
kept-written p (e ∷ es) m a inside out =
    kept-written p es (set m e.0 e.1) a inside.1 out
    ∙ get_or-set_other m e.0 a e.1 (pos 0) (λ same. true≢false (sym inside.0 ∙ ap p (sym same) ∙ out))

module _ {X : Type 0} (s : Machine X) (effect : X → List ℤ → Option (List (ℕ × ℤ) × ℕ)) (given : LawfulWrites s effect) where
  long-by : (o : Option (List (ℕ × ℤ) × ℕ)) (m : List ℤ) (r : Outcome) → by_writes o m ≡ Some r → length r.memory ≡ length m
  long-by None m r e = cc
  long-by (Some d) m r e = ap (λ (q : Outcome). length q.memory) (sym (some-injective _ _ e)) ∙ length-written d.0 m

  kept_by : (x : X) (o : Option (List (ℕ × ℤ) × ℕ)) (m : List ℤ) (r : Outcome) → length m ≡ s.size → effect x m ≡ o → by_writes o m ≡ Some r → (a : ℕ) → s.writes x a ≡ false → word r.memory a ≡ word m a
  kept_by x None m r size f e a out = cc
  kept_by x (Some d) m r size f e a out = ap (λ (q : Outcome). word q.memory a) (sym (some-injective _ _ e)) ∙ kept-written (s.writes x) d.0 m a (given.inside x m d size f) out

  near-by : (p : ℕ → Bool) (o : Option (List (ℕ × ℤ) × ℕ)) (m w : List ℤ) → length m ≡ length w → SameOn p m w → Alike p (by_writes o m) (by_writes o w)
  near-by p None m w size same = tt
  near-by p (Some d) m w size same = (refl, same-written p d.0 m w size same)

  pub lawful-writes : Lawful s
  lawful-writes = record {
    long = λ x m r size e. long-by (effect x m) m r (sym (given.is x m size) ∙ e) ∙ size;
    kept = λ x m r size e a out. kept_by x (effect x m) m r size refl (sym (given.is x m size) ∙ e) a out;
    near = λ x m w lm lw same.
        let one = given.near x m w lm lw same in
        rw (given.is x m lm, given.is x w lw, one) (near-by (s.writes x) (effect x w) m w (lm ∙ sym lw) (λ a k. same a (or-from-second _ _ k)));
  }
