-- Whole numbers and lists of them in order, lists by their first place that differs.
use Rattle.std.proofs.Common.{◌≡◌, refl, sym, ap, ap₂, ◌∙◌, ℤ, ◌≤ℤ◌, ◌<ℤ◌, List, [], ◌∷◌, ◌++◌, length, ◌⊎◌, inl, inr, Ordering, Less, Equal, Greater, int_cmp, arith}
use Rattle.std.specs.Cmp.{int_cmp_is, int_ranks}
use Rattle.std.specs.Cmp.Lexicographic.{slice_cmp}
use Rattle.std.specs.Ordering.{MatchOrdering, ordering_then}
use Rattle.std.proofs.lemmas.Cmp.{int_cmp_total, tied_itself}
use Rattle.std.proofs.lemmas.Int.{ints}

-- ---- two numbers

pub int_cmp-less : (a b : ℤ) → a <ℤ b → int_cmp a b ≡ Less
int_cmp-less a b h = sym (int_cmp_is a b Less h)

pub cases-int_cmp : {P : Type 0} (a b : ℤ) → (a <ℤ b → P) → (a ≡ b → P) → (b <ℤ a → P) → P
cases-int_cmp {P} a b less same greater = at (int_cmp a b) (int_ranks a b)
  where
    at : (o : Ordering) → MatchOrdering o (a <ℤ b) (a ≡ b) (b <ℤ a) → P
    at Less k = less k
    at Equal k = same k
    at Greater k = greater k

pub cases_≤ℤ : (a b : ℤ) → a ≤ℤ b → (a ≡ b) ⊎ (a <ℤ b)
cases_≤ℤ a b h = cases-int_cmp a b (λ less. inr less) (λ same. inl same) (λ greater. absurd (omega (arith, ints)))

-- ---- one place of two lists

pub ordering_then-same : (a b : ℤ) (o : Ordering) → a ≡ b → ordering_then (int_cmp a b) o ≡ o
ordering_then-same a b o e = ap (λ (z : ℤ). ordering_then (int_cmp a z) o) (sym e) ∙ ap (λ (r : Ordering). ordering_then r o) (tied_itself int_cmp_total a)

pub ordering_then-less : (a b : ℤ) (o : Ordering) → a <ℤ b → ordering_then (int_cmp a b) o ≡ Less
ordering_then-less a b o l = ap (λ (r : Ordering). ordering_then r o) (int_cmp-less a b l)

-- ---- whole lists

-- lists that compare as equal are equal
pub slice_cmp-exact : (xs ys : List ℤ) → slice_cmp int_cmp xs ys ≡ Equal → xs ≡ ys
slice_cmp-exact [] [] h = refl
slice_cmp-exact [] (y ∷ ys) h = cc
slice_cmp-exact (x ∷ xs) [] h = cc
slice_cmp-exact (x ∷ xs) (y ∷ ys) h = at (int_cmp x y) (int_ranks x y) h (slice_cmp-exact xs ys)
  where
    at : (o : Ordering) → MatchOrdering o (x <ℤ y) (x ≡ y) (y <ℤ x) → ordering_then o (slice_cmp int_cmp xs ys) ≡ Equal → (slice_cmp int_cmp xs ys ≡ Equal → xs ≡ ys) → x ∷ xs ≡ y ∷ ys
    at Less k e more = cc
    at Equal k e more = ap₂ (λ z zs. z ∷ zs) k (more e)
    at Greater k e more = cc

-- behind the same beginning the rest decides
pub slice_cmp-append-same : (front xs ys : List ℤ) → slice_cmp int_cmp (front ++ xs) (front ++ ys) ≡ slice_cmp int_cmp xs ys
slice_cmp-append-same [] xs ys = refl
slice_cmp-append-same (x ∷ front) xs ys = rw (tied_itself int_cmp_total x) (slice_cmp-append-same front xs ys)

-- where beginnings of one length differ, what is behind them doesn't matter
pub slice_cmp-append-less : (front other xs ys : List ℤ) → length front ≡ length other → slice_cmp int_cmp front other ≡ Less → slice_cmp int_cmp (front ++ xs) (other ++ ys) ≡ Less
slice_cmp-append-less [] [] xs ys size h = cc
slice_cmp-append-less [] (y ∷ other) xs ys size h = absurd (omega arith)
slice_cmp-append-less (x ∷ front) [] xs ys size h = absurd (omega arith)
slice_cmp-append-less (x ∷ front) (y ∷ other) xs ys size h = at (int_cmp x y) h (λ k. slice_cmp-append-less front other xs ys (omega arith) k)
  where
    at : (o : Ordering) → ordering_then o (slice_cmp int_cmp front other) ≡ Less → (slice_cmp int_cmp front other ≡ Less → slice_cmp int_cmp (front ++ xs) (other ++ ys) ≡ Less) → ordering_then o (slice_cmp int_cmp (front ++ xs) (other ++ ys)) ≡ Less
    at Less k more = refl
    at Equal k more = more k
    at Greater k more = cc

-- the same list, and behind it a smaller number
pub slice_cmp-push-less : (xs : List ℤ) (m n : ℤ) → m <ℤ n → slice_cmp int_cmp (xs ++ m ∷ []) (xs ++ n ∷ []) ≡ Less
slice_cmp-push-less xs m n l = slice_cmp-append-same xs (m ∷ []) (n ∷ []) ∙ ordering_then-less m n Equal l
