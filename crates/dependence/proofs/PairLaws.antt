-- Systems that are listed one after another, and what they refer to.
use Rattle.std.proofs.Common.{◌≡◌, refl, sym, ap, ap₂, ◌∙◌, subst, ℕ, zero, suc, ◌+◌, ◌<◌, ◌≤◌, ◌-◌, ⊎_elim, ℤ, pos, Bool, true, false, nat_lt, ltb-true, List, [], ◌∷◌, ◌++◌, map, length, append_assoc, arith}
use Rattle.std.specs.Prelude.{if◌then◌else◌}
use Rattle.std.specs.List.{All, range_with_len, flat_map}
use Rattle.std.proofs.lemmas.List.{map-append}
use Rattle.std.proofs.lemmas.List.FromFn.{map-range_with_len_more}
use Rattle.affine.specs.declared.row.Row.{Row}
use Rattle.plain_lemmas.proofs.MembershipLaws.{All-from, flat_map-has, map-has, has-flat_map, has-from-contains, contains-from-has}
use Rattle.plain_lemmas.specs.Lists.{Has}
use Rattle.nest_lang.specs.declared.tree.AccessRef.{AccessRef}
use Rattle.domain.specs.Tables.{Table, Block, Access, block_at, counters, depth}
use Rattle.dependence.specs.Comparisons.{Number, Turn, AtX, AtY, at_most, row_for}
use Rattle.dependence.proofs.SystemLaws.{has-ref}
use Rattle.dependence.specs.Systems.{System, IsRef, IsSystemOf, comparisons, system, systems, systems_of, refs, refs_of, pairs, cases, referred, first_counter, inner_counters, meeting, equal_places, rising_place}

-- the access of that number
abbrev pub ref_at : ℕ → ℕ → AccessRef
ref_at rank number = record { block = rank; access = number }

pub in-range : (a n k : ℕ) → Has (range_with_len a n) k → (a ≤ k) × (k < a + n)
in-range a zero k h = absurd h
in-range a (suc n) k h = ⊎_elim (λ e. (omega arith, omega arith)) (λ m. let (l, r) = in-range (a + 1) n k m in (omega arith, omega arith)) h

refs-are : (t : Table) (r : AccessRef) → Has (refs t) r → IsRef t r
refs-are t r h =
    let (rank, in-rank, k) = flat_map-has (refs_of t) (range_with_len 0 (length t.blocks)) r h in
    let (number, in-number, e) = map-has (ref_at rank) (range_with_len 1 (length (block_at t rank).accesses)) r k in
    let (u, v) = in-range 0 (length t.blocks) rank in-rank in
    let (from, to) = in-range 1 (length (block_at t rank).accesses) number in-number in
    subst (IsRef t) (sym e) (record { block = omega arith; from = from; to = omega arith })

pub refs-all : (t : Table) → All (IsRef t) (refs t)
refs-all t = All-from (IsRef t) (refs t) (refs-are t)

-- what a system names: two accesses of the table, and one of their cases
pub record Names (t : Table) (sys : System) : Type 0 where
  pub first : IsRef t sys.first
  pub second : IsRef t sys.second
  pub from : 1 ≤ sys.case
  pub to : sys.case ≤ depth t + 1
  pub last : depth t < sys.case → sys.first.block < sys.second.block

pub names : (t : Table) (L : ℤ) (sys : System) → Has (systems t L) sys → Names t sys
unfolding systems
names t L sys h =
    let (a, in-a, k) = flat_map-has (λ a. flat_map (systems_of t L a) (refs t)) (refs t) sys h in
    let (b, in-b, m) = flat_map-has (systems_of t L a) (refs t) sys k in
    by a b (refs-are t a in-a) (refs-are t b in-b) (pairs (referred t a) (referred t b)) m
  where
    at-case : (a b : AccessRef) → IsRef t a → IsRef t b → (c : ℕ) → (w : Bool) → nat_lt a.block b.block ≡ w → Has (range_with_len 1 (depth t + (if w then 1 else 0))) c → Names t (system t L a b c)
    at-case a b p q c true e in-c =
        let (from, to) = in-range 1 (depth t + 1) c in-c in
        record { first = p; second = q; from = from; to = omega arith; last = λ l. ltb-true a.block b.block e }
    at-case a b p q c false e in-c =
        let (from, to) = in-range 1 (depth t + 0) c in-c in
        record { first = p; second = q; from = from; to = omega arith; last = λ l. absurd (omega arith) }

    by : (a b : AccessRef) → IsRef t a → IsRef t b → (w : Bool) → Has (if w then map (system t L a b) (cases t a b) else []) sys → Names t sys
    by a b p q true m = let (c, in-c, e) = map-has (system t L a b) (cases t a b) sys m in subst (Names t) (sym e) (at-case a b p q c (nat_lt a.block b.block) refl in-c)
    by a b p q false m = absurd m

pub first-block : (t : Table) (sys : System) → IsSystemOf t sys → sys.first.block < length t.blocks
first-block t sys of = (names t of.0 sys (has-from-contains (systems t of.0) sys of.1)).first.block

pub second-block : (t : Table) (sys : System) → IsSystemOf t sys → sys.second.block < length t.blocks
second-block t sys of = (names t of.0 sys (has-from-contains (systems t of.0) sys of.1)).second.block

-- each system of two accesses is one of the table
pub systems_of-all : (t : Table) (L : ℤ) (a b : AccessRef) → IsRef t a → IsRef t b → All (IsSystemOf t) (systems_of t L a b)
unfolding systems
systems_of-all t L a b p q = All-from (IsSystemOf t) (systems_of t L a b)
    (λ sys h. (
      L,
      contains-from-has (systems t L) sys
          (has-flat_map (λ first. flat_map (systems_of t L first) (refs t)) (refs t) a sys (has-ref t a.block a.access p.block p.from p.to)
          (has-flat_map (systems_of t L a) (refs t) b sys (has-ref t b.block b.access q.block q.from q.to) h)),
    ))

-- ---- lists that grow

pub more-of-map : {X : Type 0} (old before after : List X) (f : ℕ → X) (a n j : ℕ) (x : X) → a + n ≡ j → before ≡ old ++ map f (range_with_len a n) → after ≡ before ++ x ∷ [] → x ≡ f j
    → after ≡ old ++ map f (range_with_len a (n + 1))
more-of-map {X} old before after f a n j x at e g is =
    g
    ∙ ap₂ (λ (xs : List X) (y : X). xs ++ y ∷ []) e is
    ∙ append_assoc old (map f (range_with_len a n)) (f j ∷ [])
    ∙ ap (λ (xs : List X). old ++ xs) (sym (map-range_with_len_more f a n j at))

pub more-cases : {X : Type 0} (before after : List X) (f : ℕ → X) (k : ℕ) (x : X) → 1 ≤ k → before ≡ map f (range_with_len 1 (k - 1)) → after ≡ before ++ x ∷ [] → x ≡ f k → after ≡ map f (range_with_len 1 (k + 1 - 1))
more-cases before after f k x from e g is =
    let next : k + 1 - 1 ≡ k - 1 + 1 = omega arith in
    more-of-map [] before after f 1 (k - 1) k x (omega arith) e g is ∙ ap (λ n. map f (range_with_len 1 n)) (sym next)

-- ---- the systems of a pair

pub systems_of-none : (t : Table) (L : ℤ) (a b : AccessRef) → pairs (referred t a) (referred t b) ≡ false → systems_of t L a b ≡ []
systems_of-none t L a b e = rw e refl

pub systems_of-is : (t : Table) (L : ℤ) (a b : AccessRef) (n : ℕ) → pairs (referred t a) (referred t b) ≡ true → n ≡ depth t + (if nat_lt a.block b.block then 1 else 0) → map (system t L a b) (range_with_len 1 n) ≡ systems_of t L a b
systems_of-is t L a b n p e = rw (p, e) refl

-- ---- the rows of a system

joined : {X Z : Type 0} (h : X → Z) (c : X) (u₁ u₂ u₃ u₄ u₅ u₆ u₇ : List X)
    → ((((((([] ++ h c ∷ []) ++ map h u₁) ++ map h u₂) ++ map h u₃) ++ map h u₄) ++ map h u₅) ++ map h u₆) ++ map h u₇ ≡ map h (c ∷ (u₁ ++ (u₂ ++ (u₃ ++ (u₄ ++ (u₅ ++ (u₆ ++ u₇)))))))
joined h c u₁ u₂ u₃ u₄ u₅ u₆ u₇ = simp (map-append, append_assoc)

chained : {X Z : Type 0} (h : X → Z) (c : X) (u₁ u₂ u₃ u₄ u₅ u₆ u₇ : List X) (r₀ r₁ r₂ r₃ r₄ r₅ r₆ r₇ r₈ : List Z) → r₀ ≡ [] → r₁ ≡ r₀ ++ h c ∷ [] → r₂ ≡ r₁ ++ map h u₁ → r₃ ≡ r₂ ++ map h u₂ → r₄ ≡ r₃ ++ map h u₃ → r₅ ≡ r₄ ++ map h u₄
    → r₆ ≡ r₅ ++ map h u₅ → r₇ ≡ r₆ ++ map h u₆ → r₈ ≡ r₇ ++ map h u₇ → r₈ ≡ map h (c ∷ (u₁ ++ (u₂ ++ (u₃ ++ (u₄ ++ (u₅ ++ (u₆ ++ u₇)))))))
chained h c u₁ u₂ u₃ u₄ u₅ u₆ u₇ r₀ r₁ r₂ r₃ r₄ r₅ r₆ r₇ r₈ e₀ e₁ e₂ e₃ e₄ e₅ e₆ e₇ e₈ = rw (e₈, e₇, e₆, e₅, e₄, e₃, e₂, e₁, e₀) (joined h c u₁ u₂ u₃ u₄ u₅ u₆ u₇)

same-parts : {R : Type 0} (G : ℕ → ℕ → Block → Block → ℕ → Access → Access → R) (n n' m m' : ℕ) (x x' y y' : Block) (d d' : ℕ) (p p' q q' : Access) → n ≡ n' → m ≡ m' → x ≡ x' → y ≡ y' → d ≡ d' → p ≡ p' → q ≡ q' → G n m x y d p q ≡ G n' m' x' y' d' p' q'
same-parts G n n' m m' x x' y y' d d' p p' q q' e₁ e₂ e₃ e₄ e₅ e₆ e₇ = cc

pub system-is : (t : Table) (L : ℤ) (a b : AccessRef) (case nx ny D : ℕ) (x y : Block) (p q : Access) (r₀ r₁ r₂ r₃ r₄ r₅ r₆ r₇ r₈ : List Row) → x ≡ block_at t a.block → y ≡ block_at t b.block → nx ≡ counters t x → ny ≡ counters t y → D ≡ depth t → p ≡ referred t a → q ≡ referred t b
    → r₀ ≡ [] → r₁ ≡ r₀ ++ row_for nx ny (at_most (Number (pos 0)) (Turn (pos 0))) ∷ [] → r₂ ≡ r₁ ++ map (row_for nx ny) (first_counter t L AtX) → r₃ ≡ r₂ ++ map (row_for nx ny) (first_counter t L AtY)
    → r₄ ≡ r₃ ++ map (row_for nx ny) (inner_counters t x AtX) → r₅ ≡ r₄ ++ map (row_for nx ny) (inner_counters t y AtY) → r₆ ≡ r₅ ++ map (row_for nx ny) (meeting D p q)
    → r₇ ≡ r₆ ++ map (row_for nx ny) (equal_places t x y (case - 1)) → r₈ ≡ r₇ ++ map (row_for nx ny) (rising_place t x y (case - 1))
    → record { first = a; second = b; case = case; rows = r₈ } ≡ system t L a b case
unfolding comparisons
system-is t L a b case nx ny D x y p q r₀ r₁ r₂ r₃ r₄ r₅ r₆ r₇ r₈ ex ey enx eny deep ep eq e₀ e₁ e₂ e₃ e₄ e₅ e₆ e₇ e₈ =
    ap (λ (rows : List Row). record { first = a; second = b; case = case; rows = rows })
    (chained (row_for nx ny) (at_most (Number (pos 0)) (Turn (pos 0))) (first_counter t L AtX) (first_counter t L AtY) (inner_counters t x AtX) (inner_counters t y AtY) (meeting D p q) (equal_places t x y (case - 1)) (rising_place t x y (case - 1)) r₀ r₁ r₂ r₃ r₄ r₅ r₆ r₇ r₈ e₀ e₁ e₂ e₃ e₄ e₅ e₆ e₇ e₈
    ∙ same-parts
    (λ (n m : ℕ) (u v : Block) (d : ℕ) (i j : Access). map (row_for n m) (at_most (Number (pos 0)) (Turn (pos 0)) ∷ (first_counter t L AtX ++ (first_counter t L AtY ++ (inner_counters t u AtX ++ (inner_counters t v AtY ++ (meeting d i j ++ (equal_places t u v (case - 1) ++ rising_place t u v (case - 1)))))))))
    nx _ ny _ x (block_at t a.block) y (block_at t b.block) D (depth t) p (referred t a) q (referred t b) (enx ∙ ap (counters t) ex) (eny ∙ ap (counters t) ey) ex ey deep ep eq)
