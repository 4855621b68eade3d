-- The conflict law on lists, from the law on keys.
use Rattle.std.proofs.Common.{◌≡◌, sym, ap, ap₂, ◌∙◌, subst, ◌⊎◌, inl, inr, ⊎_elim, pos, List, [], ◌∷◌, int_cmp}
use Rattle.std.specs.Cmp.Lexicographic.{slice_cmp}
use Rattle.std.proofs.lemmas.Cmp.{lists_total, int_cmp_total}
use Rattle.orders.specs.Orders.{Ordered, Before, Precedes as ByKey}
use Rattle.plain_lemmas.specs.Lists.{Has}
use Rattle.orders.proofs.ListLaws.{before-is}
use Rattle.plain_lemmas.proofs.MembershipLaws.{all-has, contains-from-has}
use Rattle.orders.proofs.SortLaws.{never-itself, never-both}
use Rattle.domain.specs.Tables.{Table}
use Rattle.domain.specs.Instances.{Instance, Precedes, original_key, padded, Predicted, Ordered as InOrder}
use Rattle.domain.specs.Footprints.{Conflict}
use Rattle.transform.specs.Schedules.{Schedule}
use Rattle.dependence.specs.Legality.{Unmet}
use Rattle.dependence.specs.Laws.{schedule_key, key_at, ConflictLaw}
use Rattle.dependence.proofs.VerdictLaws.{legal_is_unmet}
use Rattle.dependence.proofs.LexLaws.{lex-three, tie-less, int-three}
use Rattle.dependence.proofs.SystemLaws.{length-padded}
use Rattle.dependence.proofs.ScheduleLaws.{order_kept, tiles_apart, turned}

module _ {X : Type 0} where
  before-first : (xs : List X) (x y : X) → Before xs x y → Has xs x
  before-first [] x y h = absurd h
  before-first (z ∷ zs) x y (inl (e, h)) = inl e
  before-first (z ∷ zs) x y (inr h) = inr (before-first zs x y h)

  before-second : (xs : List X) (x y : X) → Before xs x y → Has xs y
  before-second [] x y h = absurd h
  before-second (z ∷ zs) x y (inl (e, h)) = inr h
  before-second (z ∷ zs) x y (inr h) = inr (before-second zs x y h)

  -- in a list in the order R, what stands in R stands before
  before-from : (R : X → X → Type 0) → ((x : X) → R x x → ⊥) → ((x y : X) → R x y → R y x → ⊥) → (xs : List X) (x y : X) → Ordered R xs → Has xs x → Has xs y → R x y → Before xs x y
  before-from R once one [] x y all h k r = absurd h
  before-from R once one (z ∷ zs) x y all (inl e) (inl f) r = absurd (once x (subst (R x) (f ∙ sym e) r))
  before-from R once one (z ∷ zs) x y all (inl e) (inr k) r = inl (e, k)
  before-from R once one (z ∷ zs) x y all (inr h) (inl f) r = absurd (one x y r (subst (λ w. R w x) (sym f) (all-has (R z) zs x all.0 h)))
  before-from R once one (z ∷ zs) x y all (inr h) (inr k) r = inr (before-from R once one zs x y all.1 h k r)

-- one of two instances comes first, or they have one key
one-first : (t : Table) (s : Schedule) (x y : Instance) → Precedes t x y ⊎ ((key_at t s x ≡ key_at t s y) ⊎ Precedes t y x)
one-first t s x y =
    ⊎_elim (λ l. inl l)
    (λ rest. ⊎_elim
    (λ e. int-three (pos x.block) (pos y.block) (λ l. inl (tie-less (padded t x) (padded t y) (pos x.block) (pos y.block) e l)) (λ f. inr (inl (ap₂ (schedule_key s) e f))) (λ l. inr (inr (tie-less (padded t y) (padded t x) (pos y.block) (pos x.block) (sym e) l))))
    (λ l. inr (inr l))
    rest)
    (lex-three (padded t x) (padded t y) (pos x.block ∷ []) (pos y.block ∷ []) (length-padded t x ∙ sym (length-padded t y)))

-- the order of a list, as both crates say it
ordered-is : {X : Type 0} (R : X → X → Type 0) (xs : List X) → InOrder R xs → Ordered R xs
ordered-is R [] h = tt
ordered-is R (x ∷ xs) h = (h.0, ordered-is R xs h.1)

pub conflict_law : ConflictLaw
conflict_law D t L words s chunk xs ys is sched legal launch original scheduled = record {
  order = λ x y conflict. (there x y conflict, back x y conflict);
  tiles = λ x y h k other conflict. tiles_apart D t L words s chunk x y is sched unmet launch (predicted x h) (predicted y k) other conflict;
}
  where
    unmet : Unmet t s L
    unmet = legal_is_unmet t s L legal

    predicted : (x : Instance) → Has xs x → Predicted t chunk x
    predicted x h = (original.has x).0 (contains-from-has xs x h)

    sorted : Ordered (Precedes t) xs
    sorted = ordered-is (Precedes t) xs original.ordered

    kept : (x y : Instance) → Has xs x → Has xs y → Conflict t words x y → Precedes t x y → ByKey (slice_cmp int_cmp) (key_at t s) x y
    kept x y h k conflict order =
        order_kept D t L words s chunk x y is sched unmet (record { launch = launch; first = predicted x h; second = predicted y k; conflict = conflict; order = order })

    there : (x y : Instance) → Conflict t words x y → Before xs x y → Before ys x y
    there x y conflict h =
        let first = before-first xs x y h in
        let second = before-second xs x y h in
        before-from (ByKey (slice_cmp int_cmp) (key_at t s)) (never-itself (slice_cmp int_cmp) (lists_total int_cmp_total) (key_at t s)) (never-both (slice_cmp int_cmp) (lists_total int_cmp_total) (key_at t s)) ys x y scheduled.ordered (scheduled.same.there x first) (scheduled.same.there y second)
        (kept x y first second conflict (before-is (Precedes t) xs x y sorted h))

    back : (x y : Instance) → Conflict t words x y → Before ys x y → Before xs x y
    back x y conflict h =
        let first = scheduled.same.back x (before-first ys x y h) in
        let second = scheduled.same.back y (before-second ys x y h) in
        let later : ByKey (slice_cmp int_cmp) (key_at t s) x y = before-is (ByKey (slice_cmp int_cmp) (key_at t s)) ys x y scheduled.ordered h in
        before-from (Precedes t) (never-itself (slice_cmp int_cmp) (lists_total int_cmp_total) (original_key t)) (never-both (slice_cmp int_cmp) (lists_total int_cmp_total) (original_key t)) xs x y sorted first second
        (⊎_elim (λ l. l)
        (λ rest. ⊎_elim
        (λ e. absurd (never-itself (slice_cmp int_cmp) (lists_total int_cmp_total) (key_at t s) x (ap (slice_cmp int_cmp (key_at t s x)) e ∙ later)))
        (λ l. absurd (never-both (slice_cmp int_cmp) (lists_total int_cmp_total) (key_at t s) x y later (kept y x second first (turned t words x y conflict) l)))
        rest)
        (one-first t s x y))
