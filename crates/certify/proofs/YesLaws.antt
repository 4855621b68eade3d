-- A check finds no fault exactly where the blocks refute the trials.
use Rattle.std.proofs.Common.{◌≡◌, refl, sym, ap, ap₂, subst, ◌∙◌, ℕ, zero, suc, ◌+◌, ◌≤◌, Bool, true, false, Option, Some, None, List, [], ◌∷◌, length, drop, arith}
use Rattle.std.specs.Prelude.{◌↔◌, if◌then◌else◌, nat_eq, nat_lt, slice_get}
use Rattle.std.specs.List.{All}
use Rattle.std.proofs.lemmas.List.{drop_all}
use Rattle.std.proofs.lemmas.Option.{get_or_from_slice_get, slice_get_within}
use Rattle.std.proofs.lemmas.Bool.{and_parts}
use Rattle.std.proofs.lemmas.Bool.Decides.{nat_tests}
use Rattle.nest_lang.specs.declared.tree.AccessRef.{AccessRef}
use Rattle.domain.specs.Tables.{Table}
use Rattle.transform.specs.Schedules.{Schedule}
use Rattle.dependence.specs.Legality.{Trial, tried, trials}
use Rattle.dependence.specs.Sides.{is_above}
use Rattle.refutation.specs.Checks.{checked}
use Rattle.refutation.specs.declared.proofs_by_adding.Why.{Why}
use Rattle.refutation.specs.declared.proofs_by_adding.Why.TheVariants.{Order}
use Rattle.refutation.specs.declared.proofs_by_adding.Checked.{Checked}
use Rattle.refutation.specs.declared.proofs_by_adding.Checked.TheVariants as found
use Rattle.refutation.proofs.CheckLaws.{yes-exactly}
use Rattle.certify.specs.declared.certificates.Claimed.{Claimed}
use Rattle.certify.specs.declared.certificates.BlockFault.{BlockFault}
use Rattle.certify.specs.declared.certificates.ScheduleCheck.{ScheduleCheck}
use Rattle.certify.specs.declared.certificates.ScheduleCheck.TheVariants.{Yes}
use Rattle.certify.specs.Certificates.{AreRefuted, Certificate, HasProof, IsCertificateOf, IsOf, Refutes}
use Rattle.certify.specs.Checks.{checked_by, due_fault, fault_at, fault_or, first_fault, flaw, flaw_of, is_of, same_access, same_side, schedule_check, surplus_fault}
use Rattle.certify.proofs.FaultLaws.{none-at, none-first}

-- ---- what a block is about

same-number : (a b : ℕ) → nat_eq a b ≡ true → a ≡ b
same-number a b e = grind (arith, nat_tests)

number-same : (a : ℕ) → nat_eq a a ≡ true
number-same a = grind (arith, nat_tests)

abbrev ref_of : ℕ → ℕ → AccessRef
ref_of block access = record { block = block; access = access }

same-ref : (a b : AccessRef) → same_access a b ≡ true → a ≡ b
same-ref a b e =
    let (f, g) = and_parts (nat_eq a.block b.block) (nat_eq a.access b.access) e in
    let block = same-number a.block b.block f in
    let access = same-number a.access b.access g in
    ap₂ ref_of block access

ref-same : (a : AccessRef) → same_access a a ≡ true
ref-same a = rw (number-same a.block, number-same a.access) refl

side-same : (a : Bool) → same_side a a ≡ true
side-same true = refl
side-same false = refl

same-sides : (a b : Bool) → same_side a b ≡ true → a ≡ b
same-sides true true e = refl
same-sides true false e = cc
same-sides false true e = cc
same-sides false false e = refl

of-test : (v : Trial) (b : Claimed) → is_of v b ≡ true → IsOf v b
of-test v b e =
    let (first, e2) = and_parts (same_access b.first v.system.first) _ e in
    let (second, e3) = and_parts (same_access b.second v.system.second) _ e2 in
    let (case, e4) = and_parts (nat_eq b.case v.system.case) _ e3 in
    let (row, side) = and_parts (nat_eq b.row v.violated.row) _ e4 in
    record {
      first = same-ref b.first v.system.first first;
      second = same-ref b.second v.system.second second;
      case = same-number b.case v.system.case case;
      row = same-number b.row v.violated.row row;
      side = same-sides (is_above b.side) v.violated.above side;
    }

test-of : (v : Trial) (b : Claimed) → IsOf v b → is_of v b ≡ true
test-of v b is =
    rw (sym is.first, sym is.second, sym is.case, sym is.row, sym is.side)
    (rw (ref-same b.first, ref-same b.second, number-same b.case, number-same b.row, side-same (is_above b.side)) refl)

-- ---- one block

yes-by : (w : Bool) (o : Option Why) → (if w then o else Some Order) ≡ None → (w ≡ true) × (o ≡ None)
yes-by true o e = (refl, e)
yes-by false o e = cc

flawless : (k : Checked) → flaw_of k ≡ None → k ≡ found.Yes
flawless found.Yes e = refl
flawless (found.No why) e = cc

refutes : (t : Table) (s : Schedule) (v : Trial) (b : Claimed) → HasProof b → flaw t s v (Some b) ≡ None → Refutes t s v b
refutes t s v b has e =
    let (of, none) = yes-by (is_of v b) (flaw_of (checked (tried t s v) b.proof)) e in
    record {
      of = of-test v b of;
      proof = (yes-exactly (tried t s v) b.proof (checked (tried t s v) b.proof) has.factors refl).0 (flawless (checked (tried t s v) b.proof) none);
    }

refuted : (t : Table) (s : Schedule) (v : Trial) (b : Claimed) → Refutes t s v b → flaw t s v (Some b) ≡ None
refuted t s v b h =
    let yes : checked (tried t s v) b.proof ≡ found.Yes = (yes-exactly (tried t s v) b.proof (checked (tried t s v) b.proof) h.proof.factors refl).1 h.proof in
    ap (λ w. if w then flaw_of (checked (tried t s v) b.proof) else Some Order) (test-of v b h.of) ∙ ap flaw_of yes

-- ---- the blocks from a number on

drop-at : (bs : List Claimed) (k : ℕ) (b : Claimed) → slice_get bs k ≡ Some b → drop k bs ≡ b ∷ drop (suc k) bs
drop-at [] k b e = cc
drop-at (c ∷ bs) zero b e = cc
drop-at (c ∷ bs) (suc k) b e = drop-at bs k b e

drop-none : (bs : List Claimed) (k : ℕ) → slice_get bs k ≡ None → drop k bs ≡ []
drop-none [] zero e = refl
drop-none [] (suc k) e = refl
drop-none (c ∷ bs) zero e = cc
drop-none (c ∷ bs) (suc k) e = drop-none bs k e

has-at : (bs : List Claimed) (k : ℕ) (b : Claimed) → All HasProof bs → slice_get bs k ≡ Some b → HasProof b
has-at bs k b all e = subst HasProof (get_or_from_slice_get bs k b b e) (all k b (slice_get_within bs k b e))

abbrev extra : ℕ → Option BlockFault
extra k = Some (record { block = k; why = Order })

nothing-left : (bs : List Claimed) (k : ℕ) → surplus_fault bs k ≡ None → drop k bs ≡ []
nothing-left bs k e = by (nat_lt k (length bs)) refl e
  where
    by : (w : Bool) → nat_lt k (length bs) ≡ w → (if w then extra k else None) ≡ None → drop k bs ≡ []
    by true is e = cc
    by false is e = let l : length bs ≤ k = grind (arith, nat_tests) in drop_all k bs l

left-none : (bs : List Claimed) (k : ℕ) → drop k bs ≡ [] → surplus_fault bs k ≡ None
left-none [] k e = let w : nat_lt k 0 ≡ false = grind (arith, nat_tests) in rw w refl
left-none (b ∷ bs) zero e = cc
left-none (b ∷ bs) (suc k) e = by (nat_lt k (length bs)) refl (left-none bs k e)
  where
    by : (w : Bool) → nat_lt k (length bs) ≡ w → (if w then extra k else None) ≡ None → surplus_fault (b ∷ bs) (suc k) ≡ None
    by true is e = cc
    by false is e = let w : nat_lt (suc k) (suc (length bs)) ≡ false = grind (arith, nat_tests) in rw w refl

module _ (t : Table) (s : Schedule) (bs : List Claimed) (all : All HasProof bs) where
  refuted-from : (k : ℕ) (vs : List Trial) → due_fault t s bs k vs ≡ None → surplus_fault bs (k + length vs) ≡ None → AreRefuted t s vs (drop k bs)
  refuted-from k [] none last = let e : k + 0 ≡ k = omega arith in rw (nothing-left bs k (sym (ap (surplus_fault bs) e) ∙ last)) tt
  refuted-from k (v ∷ vs) none last =
      let (here, later) = none-first (fault_at k (flaw t s v (slice_get bs k))) (due_fault t s bs (suc k) vs) none in
      let e : k + suc (length vs) ≡ suc k + length vs = omega arith in
      by (slice_get bs k) refl (none-at k (flaw t s v (slice_get bs k)) here) (refuted-from (suc k) vs later (sym (ap (surplus_fault bs) e) ∙ last))
    where
      by : (o : Option Claimed) → slice_get bs k ≡ o → flaw t s v o ≡ None → AreRefuted t s vs (drop (suc k) bs) → AreRefuted t s (v ∷ vs) (drop k bs)
      by None is e rest = cc
      by (Some b) is e rest = rw (drop-at bs k b is) (refutes t s v b (has-at bs k b all is) e, rest)

  none-from : (k : ℕ) (vs : List Trial) → AreRefuted t s vs (drop k bs) → (due_fault t s bs k vs ≡ None) × (surplus_fault bs (k + length vs) ≡ None)
  none-from k [] h = (refl, let e : k + 0 ≡ k = omega arith in ap (surplus_fault bs) e ∙ left-none bs k (by (drop k bs) h))
    where
      by : (rest : List Claimed) → AreRefuted t s [] rest → rest ≡ []
      by [] h = refl
      by (b ∷ rest) h = absurd h
  none-from k (v ∷ vs) h = by (slice_get bs k) refl (λ later. none-from (suc k) vs later)
    where
      by : (o : Option Claimed) → slice_get bs k ≡ o → (AreRefuted t s vs (drop (suc k) bs) → (due_fault t s bs (suc k) vs ≡ None) × (surplus_fault bs (suc k + length vs) ≡ None)) → (due_fault t s bs k (v ∷ vs) ≡ None) × (surplus_fault bs (k + suc (length vs)) ≡ None)
      by None is next = absurd (rw (drop-none bs k is) at h)
      by (Some b) is next =
          let (here, later) = rw (drop-at bs k b is) at h in
          let (none, last) = next later in
          let e : k + suc (length vs) ≡ suc k + length vs = omega arith in
          (ap (λ (o : Option Claimed). fault_or (fault_at k (flaw t s v o)) (due_fault t s bs (suc k) vs)) is ∙ ap (λ (o : Option Why). fault_or (fault_at k o) (due_fault t s bs (suc k) vs)) (refuted t s v b here) ∙ none, ap (surplus_fault bs) e ∙ last)

-- ---- the answer

yes-none : (o : Option BlockFault) → checked_by o ≡ Yes → o ≡ None
yes-none None e = refl
yes-none (Some fault) e = cc

none-more : (n : ℕ) → 0 + n ≡ n
none-more n = omega arith

pub check-yes : (t : Table) (s : Schedule) (c : Certificate) (answer : ScheduleCheck) → All HasProof c.blocks → answer ≡ schedule_check t s c → (answer ≡ Yes) ↔ IsCertificateOf t s c
check-yes t s c answer all e = (
  λ y.
      let (none, last) = none-first (due_fault t s c.blocks 0 (trials t s c.length)) (surplus_fault c.blocks (length (trials t s c.length))) (yes-none (first_fault t s c) (sym e ∙ y)) in
      refuted-from t s c.blocks all 0 (trials t s c.length) none (ap (surplus_fault c.blocks) (none-more (length (trials t s c.length))) ∙ last),
  λ is.
      let (none, last) = none-from t s c.blocks all 0 (trials t s c.length) is in
      e ∙ ap (λ (o : Option BlockFault). checked_by (fault_or o (surplus_fault c.blocks (length (trials t s c.length))))) none ∙ ap checked_by (sym (ap (surplus_fault c.blocks) (none-more (length (trials t s c.length)))) ∙ last),
)
