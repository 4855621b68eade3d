-- Walks: tokens that stand one behind another.
use Rattle.std.proofs.Common.{◌≡◌, ℕ, List, [], ◌∷◌, ◌++◌, refl}
use Rattle.nest_tokens.specs.declared.token.Name.{Name}
use Rattle.nest_tokens.specs.declared.token.Spot.{Spot}
use Rattle.nest_grammar.specs.declared.version.Version.{Version}
use Rattle.nest_tokens.specs.Ahead.{first, rest}
use Rattle.nest_grammar.specs.Sights.{Sight, skip, stands, here}
use Rattle.canonical.specs.Pieces.{Piece, Word, Space, Indent, Newline}

-- the words of these pieces stand in front, and then these spots are left
abbrev pub Walks : List Piece → ℕ → List Spot → List Spot → Type 0
Walks [] size l m = m ≡ l
Walks (Word t ∷ ps) size l m = ((first size l).token ≡ t) × Walks ps size (rest l) m
Walks (Space ∷ ps) size l m = Walks ps size l m
Walks (Indent n ∷ ps) size l m = Walks ps size l m
Walks (Newline ∷ ps) size l m = Walks ps size l m

pub walks-append : (xs ys : List Piece) (size : ℕ) (l n : List Spot) → Walks (xs ++ ys) size l n → (m : List Spot) × Walks xs size l m × Walks ys size m n
walks-append [] ys size l n h = (l, refl, h)
walks-append (Word t ∷ xs) ys size l n h = let r = walks-append xs ys size (rest l) n h.1 in (r.0, (h.0, r.1), r.2)
walks-append (Space ∷ xs) ys size l n h = walks-append xs ys size l n h
walks-append (Indent k ∷ xs) ys size l n h = walks-append xs ys size l n h
walks-append (Newline ∷ xs) ys size l n h = walks-append xs ys size l n h

-- what was counted of the block, and the version
pub record Counts : Type 0 where
  pub version : Version
  pub opened : ℕ
  pub accesses : ℕ
  pub lets : List Name

abbrev pub counts : Sight → Counts
counts s = record { version = s.version; opened = s.opened; accesses = s.accesses; lets = s.lets }

pub counts-skip : (s : Sight) → counts (skip s) ≡ counts s
unfolding skip
counts-skip s = refl

pub left-skip : (s : Sight) → (skip s).left ≡ rest s.left
unfolding skip
left-skip s = refl

pub size-skip : (s : Sight) → (skip s).size ≡ s.size
unfolding skip
size-skip s = refl

pub stands-at : (s : Sight) → stands s ≡ (first s.size s.left).token
unfolding here
stands-at s = refl
