-- The violations of a schedule, row by row.
use Rattle.std.proofs.Common.{◌≡◌, refl, sym, ap, ◌∙◌, subst, ℕ, zero, suc, ◌+◌, ◌-◌, ◌≤◌, Bool, true, false, List, [], ◌∷◌, ◌++◌, append-nil, append_assoc, inl, inr, arith}
use Rattle.std.specs.Prelude.{if◌then◌else◌}
use Rattle.std.specs.List.{All, flat_map, range_with_len}
use Rattle.std.proofs.lemmas.Grind.{flat_map-append}
use Rattle.plain_lemmas.proofs.MembershipLaws.{All-from, flat_map-has}
use Rattle.plain_lemmas.specs.Lists.{Has}
use Rattle.transform.specs.Schedules.{Schedule}
use Rattle.dependence.specs.Legality.{Violated, above, below, violations_of}
use Rattle.dependence.proofs.PairLaws.{in-range}
use Rattle.legality.specs.Judgements.{climbs}
use Rattle.certify.specs.Certificates.{IsRowOf}

row-of : (s : Schedule) (row : ℕ) (u : Violated) → Has (violations_of s row) u → u.row ≡ row
row-of s row u (inl e) = ap (λ (v : Violated). v.row) e
row-of s row u (inr h) = by (climbs s row) h
  where
    by : (w : Bool) → Has (if w then above row ∷ [] else []) u → u.row ≡ row
    by true (inl e) = ap (λ (v : Violated). v.row) e
    by true (inr h) = absurd h
    by false h = absurd h

pub are-rows : (D : ℕ) (s : Schedule) (found : List Violated) → found ≡ flat_map (violations_of s) (range_with_len 1 D) → All (IsRowOf D) found
are-rows D s found e = All-from (IsRowOf D) found each
  where
    each : (u : Violated) → Has found u → IsRowOf D u
    each u h =
        let (row, in-row, k) = flat_map-has (violations_of s) (range_with_len 1 D) u (subst (λ (us : List Violated). Has us u) e h) in
        let (from, to) = in-range 1 D row in-row in
        let same = row-of s row u k in
        record { from = omega (arith, same, from); to = omega (arith, same, to) }

-- the rows from 1 to the one before
abbrev pub before : Schedule → ℕ → List Violated
before s row = flat_map (violations_of s) (range_with_len 1 (row - 1))

last : (a n j : ℕ) → a + n ≡ j → range_with_len a (suc n) ≡ range_with_len a n ++ j ∷ []
last a zero j e = let same : a ≡ j = omega arith in ap (λ k. k ∷ []) same
last a (suc n) j e = ap (λ l. a ∷ l) (last (a + 1) n j (omega arith))

range-more : (a n : ℕ) → range_with_len a (n + 1) ≡ range_with_len a n ++ (a + n) ∷ []
range-more a n = let on : n + 1 ≡ suc n = omega arith in ap (range_with_len a) on ∙ last a n (a + n) refl

next-rows : (s : Schedule) (row : ℕ) → 1 ≤ row → before s (row + 1) ≡ before s row ++ violations_of s row
next-rows s row l =
    let e : row + 1 - 1 ≡ row - 1 + 1 = omega (arith, l) in
    let here : 1 + (row - 1) ≡ row = omega (arith, l) in
    ap (λ n. flat_map (violations_of s) (range_with_len 1 n)) e ∙ ap (flat_map (violations_of s)) (range-more 1 (row - 1) ∙ ap (λ n. range_with_len 1 (row - 1) ++ n ∷ []) here)
    ∙ flat_map-append (violations_of s) (range_with_len 1 (row - 1)) (row ∷ []) ∙ ap (λ (us : List Violated). before s row ++ us) (append-nil (violations_of s row))

pub row-below : (s : Schedule) (row : ℕ) (found with : List Violated) → 1 ≤ row → found ≡ before s row → with ≡ found ++ below row ∷ [] → false ≡ climbs s row → with ≡ before s (row + 1)
row-below s row found with l e f test =
    f ∙ ap (λ (us : List Violated). us ++ below row ∷ []) e ∙ ap (λ (w : Bool). before s row ++ below row ∷ (if w then above row ∷ [] else [])) test ∙ sym (next-rows s row l)

pub row-both : (s : Schedule) (row : ℕ) (found with both : List Violated) → 1 ≤ row → found ≡ before s row → with ≡ found ++ below row ∷ [] → both ≡ with ++ above row ∷ [] → true ≡ climbs s row → both ≡ before s (row + 1)
row-both s row found with both l e f g test =
    g ∙ ap (λ (us : List Violated). us ++ above row ∷ []) (f ∙ ap (λ (us : List Violated). us ++ below row ∷ []) e) ∙ append_assoc (before s row) (below row ∷ []) (above row ∷ [])
    ∙ ap (λ (w : Bool). before s row ++ below row ∷ (if w then above row ∷ [] else [])) test ∙ sym (next-rows s row l)
