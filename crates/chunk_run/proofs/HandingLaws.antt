-- Handing: what a crew's list gains from phase to phase.
use Rattle.std.proofs.Common.{◌≡◌, refl, sym, ap, ◌∙◌, subst, ℕ, suc, ◌+◌, ℤ, Some, Option, List, [], ◌∷◌, ◌++◌, length, arith}
use Rattle.std.proofs.Common.{append_assoc}
use Rattle.crew.specs.declared.handed.Handed.{Handed}
use Rattle.chunk_run.specs.Groups.{IsEntry, AreEntries, steps_of, GainsPhase}

-- the entries of the first phases, with their steps
pub record Begun (first : ℤ) (workers : ℕ) (counts : List ℕ) (steps : ℕ) (old new : List Handed) : Type 0 where
  pub group : List Handed
  pub gained : new ≡ old ++ group
  pub entries : AreEntries first workers 0 counts group
  pub together : steps_of group ≡ steps

entries-more : (first : ℤ) (workers number tiles : ℕ) (counts : List ℕ) (group : List Handed) (h : Handed) → AreEntries first workers number counts group → IsEntry first workers (number + length counts) tiles h
    → AreEntries first workers number (counts ++ tiles ∷ []) (group ++ h ∷ [])
entries-more first workers number tiles [] [] h f is = (subst (λ (n : ℕ). IsEntry first workers n tiles h) (let e : number + 0 ≡ number = omega arith in e) is, tt)
entries-more first workers number tiles [] (g ∷ group) h f is = absurd f
entries-more first workers number tiles (n ∷ counts) [] h f is = absurd f
entries-more first workers number tiles (n ∷ counts) (g ∷ group) h f is =
    (f.0, entries-more first workers (suc number) tiles counts group h f.1 (subst (λ (m : ℕ). IsEntry first workers m tiles h) (let e : number + suc (length counts) ≡ suc number + length counts = omega arith in e) is))

steps-more : (group : List Handed) (h : Handed) → steps_of (group ++ h ∷ []) ≡ steps_of group + h.steps
steps-more [] h = omega arith
steps-more (g ∷ group) h = let e = steps-more group h in omega (arith, e)

pub entries-long : (first : ℤ) (workers number : ℕ) (counts : List ℕ) (group : List Handed) → AreEntries first workers number counts group → length group ≡ length counts
entries-long first workers number [] [] f = refl
entries-long first workers number [] (g ∷ group) f = absurd f
entries-long first workers number (n ∷ counts) [] f = absurd f
entries-long first workers number (n ∷ counts) (g ∷ group) f = ap suc (entries-long first workers (suc number) counts group f.1)

pub begun-none : (first : ℤ) (workers : ℕ) (old : List Handed) → Begun first workers [] 0 old old
begun-none first workers old = record { group = []; gained = sym (append-none old); entries = tt; together = refl }
  where
    append-none : (xs : List Handed) → xs ++ [] ≡ xs
    append-none [] = refl
    append-none (x ∷ xs) = ap (λ (l : List Handed). x ∷ l) (append-none xs)

module _ (first : ℤ) (workers tiles : ℕ) (counts : List ℕ) (steps number : ℕ) (old mid new : List Handed) (result : Option ℕ) (begun : Begun first workers counts steps old mid) (gains : GainsPhase first workers number tiles result mid new) (here : length counts ≡ number) where
  -- the list with one entry more, of which the steps may not be told
  pub begun-more : Begun first workers (counts ++ tiles ∷ []) (steps + gains.entry.steps) old new
  begun-more = record {
    group = begun.group ++ gains.entry ∷ [];
    gained = gains.gained ∙ ap (λ (l : List Handed). l ++ gains.entry ∷ []) begun.gained ∙ append_assoc old begun.group (gains.entry ∷ []);
    entries = entries-more first workers 0 tiles counts begun.group gains.entry begun.entries (subst (λ (n : ℕ). IsEntry first workers n tiles gains.entry) (let e : number ≡ 0 + length counts = omega (arith, here) in e) gains.is);
    together = steps-more begun.group gains.entry ∙ ap (λ (n : ℕ). n + gains.entry.steps) begun.together;
  }

  pub begun-told : (n : ℕ) → result ≡ Some n → Begun first workers (counts ++ tiles ∷ []) (steps + n) old new
  begun-told n told = subst (λ (m : ℕ). Begun first workers (counts ++ tiles ∷ []) (steps + m) old new) (gains.told n told) begun-more
