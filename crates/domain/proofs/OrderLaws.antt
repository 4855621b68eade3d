-- Original order is strict and total, and there is one list in it.
use Rattle.std.proofs.Common.{◌≡◌, refl, sym, ap₂, subst, ◌∙◌, ℕ, zero, suc, ◌<◌, ◌≤◌, pos, List, [], ◌∷◌, inl, inr, arith, lit≤}
use Rattle.std.specs.Prelude.{◌^◌}
use Rattle.std.proofs.lemmas.Cmp.{lists_total, int_cmp_total}
use Rattle.plain_lemmas.proofs.MembershipLaws.{contains-from-has, has-from-contains, all-has}
use Rattle.plain_lemmas.specs.Lists.{Has}
use Rattle.domain.specs.Tables.{Table, IsBlock, block_at, level_at, Reaches, stride_size}
use Rattle.domain.specs.Instances.{Instance, Precedes, Ordered, original_key}
use Rattle.domain.specs.Examples.{PremisesCanHold, row}
use Rattle.domain.specs.Laws.{OrderIsStrict, OneList}
use Rattle.domain.proofs.OriginalLaws.{not-back, not-itself, precedes-three}

pub order_is_strict : OrderIsStrict
order_is_strict D t is = record {
  irreflexive = λ x h. not-itself (original_key t x) h;
  transitive = λ x y z h k. (lists_total int_cmp_total).trans (original_key t x) (original_key t y) (original_key t z) h k;
  total = λ x y i j. precedes-three D t is (record { first = pos 0; turns = pos 0 }) x y i j;
}

-- lists in one order with the same elements
module _ (t : Table) where
  same-lists : (xs ys : List Instance) → Ordered (Precedes t) xs → Ordered (Precedes t) ys → ((z : Instance) → Has xs z → Has ys z) → ((z : Instance) → Has ys z → Has xs z) → xs ≡ ys
  same-lists [] [] o p f g = refl
  same-lists [] (y ∷ ys) o p f g = absurd (g y (inl refl))
  same-lists (x ∷ xs) [] o p f g = absurd (f x (inl refl))
  same-lists (x ∷ xs) (y ∷ ys) o p f g = ap₂ (λ (z : Instance) (zs : List Instance). z ∷ zs) first (same-lists xs ys o.1 p.1 (λ z h. forth z h (f z (inr h))) (λ z h. back z h (g z (inr h))))
    where
      before : (a b : Instance) → Precedes t a b → Precedes t b a → ⊥
      before a b h k = not-back (original_key t a) (original_key t b) h k

      first : x ≡ y
      first = at (f x (inl refl)) (g y (inl refl))
        where
          at : Has (y ∷ ys) x → Has (x ∷ xs) y → x ≡ y
          at (inl e) k = e
          at (inr h) (inl e) = sym e
          at (inr h) (inr k) = absurd (before x y (all-has (Precedes t x) xs y o.0 k) (all-has (Precedes t y) ys x p.0 h))

      forth : (z : Instance) → Has xs z → Has (y ∷ ys) z → Has ys z
      forth z h (inl e) = absurd (not-itself (original_key t x) (subst (λ (v : Instance). Precedes t x v) (e ∙ sym first) (all-has (Precedes t x) xs z o.0 h)))
      forth z h (inr k) = k

      back : (z : Instance) → Has ys z → Has (x ∷ xs) z → Has xs z
      back z h (inl e) = absurd (not-itself (original_key t y) (subst (λ (v : Instance). Precedes t y v) (e ∙ first) (all-has (Precedes t y) ys z p.0 h)))
      back z h (inr k) = k

pub one_list : OneList
one_list D t chunk xs ys is a b =
    same-lists t xs ys a.ordered b.ordered
    (λ z h. has-from-contains ys z ((b.has z).1 ((a.has z).0 (contains-from-has xs z h))))
    (λ z h. has-from-contains xs z ((a.has z).1 ((b.has z).0 (contains-from-has ys z h))))

pub premises_can_hold : PremisesCanHold
premises_can_hold = record {
  deep = refl;
  some = lit≤ tt;
  few = lit≤ tt;
  short = lit≤ tt;
  blocks = blocks;
  rising = λ i j l m. absurd (omega arith);
  heads = λ level l m. absurd (omega arith);
  outermost = refl;
  body = refl;
  strides = strides;
  reach = reach;
}
  where
    blocks : (rank : ℕ) → rank < 1 → IsBlock 1 (block_at row rank)
    blocks zero l = record { from = lit≤ tt; to = lit≤ tt; scalars = lit≤ tt; accesses = lit≤ tt; outer = λ e. absurd (cc) }
    blocks (suc rank) l = absurd (omega arith)

    strides : (k : ℕ) → stride_size (level_at row k).kind ≤ 2 ^ 63
    strides zero = lit≤ tt
    strides (suc k) = lit≤ tt

    reach : (k : ℕ) → Reaches (stride_size (level_at row k).kind) (level_at row k).trip
    reach zero = tt
    reach (suc k) = tt
