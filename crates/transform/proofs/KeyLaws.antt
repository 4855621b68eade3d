-- Keys of phases as lists of numbers.
use Rattle.std.proofs.Common.{◌≡◌, refl, sym, ap, ap₂, ◌∙◌, ◌-◌, ℤ, pos, List, [], ◌∷◌, ◌++◌, length, take, replicate, arith}
use Rattle.std.specs.Cmp.Lexicographic.{slice_cmp}
use Rattle.std.specs.Cmp.{int_cmp_is}
use Rattle.std.specs.Ordering.{int_cmp, ordering_then}
use Rattle.std.specs.declared.cmp.Ordering.{Ordering}
use Rattle.std.specs.declared.cmp.Ordering.TheVariants.{Less, Equal, Greater}
use Rattle.std.proofs.lemmas.List.{length-map}
use Rattle.transform.specs.Laws.{KeysCompareAsLists}
use Rattle.transform.specs.Schedules.{along, lead}

then-Equal : (o : Ordering) → ordering_then o Equal ≡ o
then-Equal Less = refl
then-Equal Equal = refl
then-Equal Greater = refl

then-assoc : (a b c : Ordering) → ordering_then (ordering_then a b) c ≡ ordering_then a (ordering_then b c)
then-assoc Less b c = refl
then-assoc Equal b c = refl
then-assoc Greater b c = refl

slice_cmp-same : (xs : List ℤ) → slice_cmp int_cmp xs xs ≡ Equal
slice_cmp-same [] = refl
slice_cmp-same (x ∷ xs) = ap₂ ordering_then (sym (int_cmp_is x x Equal refl)) (slice_cmp-same xs)

-- lists of one length, each with the same list after it, and then a number
compared : (xs ys zs : List ℤ) (v w : ℤ) → length xs ≡ length ys
    → ordering_then (slice_cmp int_cmp (xs ++ zs) (ys ++ zs)) (int_cmp v w) ≡ slice_cmp int_cmp (xs ++ v ∷ []) (ys ++ w ∷ [])
compared [] [] zs v w h = ap (λ o. ordering_then o (int_cmp v w)) (slice_cmp-same zs) ∙ sym (then-Equal (int_cmp v w))
compared [] (y ∷ ys) zs v w h = absurd (omega arith)
compared (x ∷ xs) [] zs v w h = absurd (omega arith)
compared (x ∷ xs) (y ∷ ys) zs v w h =
    then-assoc (int_cmp x y) (slice_cmp int_cmp (xs ++ zs) (ys ++ zs)) (int_cmp v w)
    ∙ ap (ordering_then (int_cmp x y)) (compared xs ys zs v w (omega arith))

pub keys_compare_as_lists : KeysCompareAsLists
keys_compare_as_lists n s first second is =
    compared (lead s first) (lead s second) (replicate (length s.lines - s.seq) (pos 0)) _ _
    (length-map (take s.seq s.lines) (along first) ∙ sym (length-map (take s.seq s.lines) (along second)))
