-- Tables of small nests are tables.
use Rattle.std.proofs.Common.{◌≡◌, refl, subst, ℕ, zero, suc, ◌<◌, ◌≤◌, ◌*◌, ◌^◌, ℤ, unsigned_abs, max, true, List, [], ◌∷◌, length, lit<, lit≤, arith}
use Rattle.std.specs.Prelude.{is_some}
use Rattle.std.specs.List.{All}
use Rattle.std.proofs.Math.Nat.{mul-le-mul}
use Rattle.std.proofs.lemmas.List.Elements.{All-cons}
use Rattle.affine.specs.Forms.{Affine}
use Rattle.nest_lang.specs.declared.tree.Part.TheVariants.{Head}
use Rattle.domain.specs.Tables.{Access, Reaches, IsBlock, IsTable, block_at, level_at, rank_of, stride_size, text_place}
use Rattle.domain.specs.Instances.{counter}
use Rattle.domain.specs.Examples.{two_loops}

times-one : (s a : ℕ) → s ≤ 2 ^ 60 → a ≤ 1 → s * a ≤ 2 ^ 66
times-one s a h k = let m : s * a ≤ 2 ^ 60 * 1 = mul-le-mul h k in omega arith

few-all : (s : ℕ) (xs : List ℤ) → length xs ≡ 2 → s ≤ 2 ^ 60 → unsigned_abs (counter xs 0) ≤ 1 → unsigned_abs (counter xs 1) ≤ 1 → All (λ c. s * unsigned_abs c ≤ 2 ^ 66) xs
few-all s [] size h a b = absurd (omega arith)
few-all s (x ∷ []) size h a b = absurd (omega arith)
few-all s (x ∷ y ∷ []) size h a b = All-cons (λ c. s * unsigned_abs c ≤ 2 ^ 66) x (y ∷ []) (times-one s (unsigned_abs x) h a) (All-cons (λ c. s * unsigned_abs c ≤ 2 ^ 66) y [] (times-one s (unsigned_abs y) h b) (λ k d l. absurd (omega arith)))
few-all s (x ∷ y ∷ z ∷ zs) size h a b = absurd (omega arith)

times-few : (s a : ℕ) → s ≤ 2 ^ 60 → a ≤ 2 ^ 12 → s * a ≤ 2 ^ 104
times-few s a h k = let m : s * a ≤ 2 ^ 60 * 2 ^ 12 = mul-le-mul h k in omega arith

pub two_loops-is : (stride : ℤ) (lower trip : Affine) (accesses : List Access) → length accesses ≤ 64 → unsigned_abs stride ≤ 2 ^ 60 → length trip.coef ≡ 2
    → unsigned_abs (counter trip.coef 0) ≤ 1 → unsigned_abs (counter trip.coef 1) ≤ 1 → unsigned_abs trip.cst ≤ 2 ^ 12 → IsTable 2 (two_loops stride lower trip accesses)
two_loops-is stride lower trip accesses short small size a b c = record {
  deep = refl;
  some = lit≤ tt;
  few = lit≤ tt;
  short = lit≤ tt;
  blocks = blocks;
  rising = rising;
  heads = λ level l m. let e : 2 ≡ level = omega arith in subst (λ (n : ℕ). is_some (rank_of (two_loops stride lower trip accesses) Head n) ≡ true) e refl;
  outermost = refl;
  body = refl;
  strides = strides;
  reach = reach;
}
  where
    blocks : (rank : ℕ) → rank < 2 → IsBlock 2 (block_at (two_loops stride lower trip accesses) rank)
    blocks zero l = record { from = lit≤ tt; to = lit≤ tt; scalars = lit≤ tt; accesses = lit≤ tt; outer = λ e. absurd (cc) }
    blocks (suc zero) l = record { from = lit≤ tt; to = lit≤ tt; scalars = lit≤ tt; accesses = short; outer = λ e. absurd (cc) }
    blocks (suc (suc rank)) l = absurd (omega arith)

    rising : (i j : ℕ) → i < j → j < 2 → text_place 2 (block_at (two_loops stride lower trip accesses) i) < text_place 2 (block_at (two_loops stride lower trip accesses) j)
    rising i zero l m = absurd (omega arith)
    rising zero (suc zero) l m = lit< tt
    rising (suc i) (suc zero) l m = absurd (omega arith)
    rising i (suc (suc j)) l m = absurd (omega arith)

    strides : (k : ℕ) → stride_size (level_at (two_loops stride lower trip accesses) k).kind ≤ 2 ^ 63
    strides zero = lit≤ tt
    strides (suc zero) = let s = small in omega arith
    strides (suc (suc k)) = lit≤ tt

    size-small : max 1 (unsigned_abs stride) ≤ 2 ^ 60
    size-small = let s = small in omega arith

    reach : (k : ℕ) → Reaches (stride_size (level_at (two_loops stride lower trip accesses) k).kind) (level_at (two_loops stride lower trip accesses) k).trip
    reach zero = tt
    reach (suc zero) = (few-all (max 1 (unsigned_abs stride)) trip.coef size size-small a b, times-few (max 1 (unsigned_abs stride)) (unsigned_abs trip.cst) size-small c, omega (arith, size))
    reach (suc (suc k)) = tt
