-- The run of the eliminations: what stands is sound, and the levels and the ruling come one by one.
use Rattle.std.proofs.Common.{◌≡◌, ℕ, zero, suc, ◌-◌, ◌<◌, ◌≤◌, ◌^◌, ℤ, unsigned_abs, Bool, true, false, ◌||◌, List, [], ◌∷◌, ◌++◌, length, reverse, refl, sym, ap, ap₂, ◌∙◌, subst, arith, append_assoc, append-nil}
use Rattle.std.specs.List.{All, list_any}
use Rattle.std.proofs.lemmas.Bool.Decides.{nat_tests}
use Rattle.std.proofs.lemmas.List.{length-append, reverse-append}
use Rattle.std.proofs.lemmas.List.Elements.{All-push, All-nil, All-weaker}
use Rattle.affine.specs.declared.row.Row.{Row}
use Rattle.affine.specs.Rows.{variables}
use Rattle.fourier_motzkin.specs.RowSets.{IsWithin, is_wide, is_wide_number, tidied}
use Rattle.fourier_motzkin.specs.Elimination.{AllOver, IsSound, eliminated, judged, projected}
use Rattle.fourier_motzkin.specs.declared.elimination.Eliminated.{Eliminated}
use Rattle.fourier_motzkin.specs.declared.elimination.Eliminated.TheVariants as set
use Rattle.fourier_motzkin.specs.Verdicts.{AreLevels, Bounds, bounds_of, levels, next, ruled, ruling, standing, verdict_of}
use Rattle.fourier_motzkin.specs.declared.verdicts.Ruling.{Ruling}
use Rattle.plain_lemmas.proofs.MembershipLaws.{All-from, list_any-none}
use Rattle.fourier_motzkin.proofs.PointLaws.{judged-cases, projected-over, tidied-over}

-- rows with no wide number

narrow-number : (z : ℤ) → is_wide_number z ≡ false → unsigned_abs z ≤ 2 ^ 62
narrow-number z h = grind (arith, nat_tests)

either-first : (a b : Bool) → (a || b) ≡ false → a ≡ false
either-first true b h = h
either-first false b h = refl

either-second : (a b : Bool) → (a || b) ≡ false → b ≡ false
either-second true b h = cc
either-second false b h = h

narrow-row : (row : Row) → is_wide row ≡ false → IsWithin (2 ^ 62) row
narrow-row row h = record {
  coef = All-from (λ number. unsigned_abs number ≤ 2 ^ 62) row.coef.items (λ number k. narrow-number number (list_any-none is_wide_number row.coef.items (either-first (list_any is_wide_number row.coef.items) (is_wide_number row.cst) h) number k));
  cst = narrow-number row.cst (either-second (list_any is_wide_number row.coef.items) (is_wide_number row.cst) h);
}

judged-sound : (n : ℕ) (rows : List Row) → AllOver n rows → IsSound n (judged rows)
judged-sound n rows over = judged-cases (IsSound n) rows (λ some. tt) tt
    (λ narrow few. (over, All-from (IsWithin (2 ^ 62)) rows (λ row h. narrow-row row (list_any-none is_wide rows narrow row h))))

pub tidied-sound : (n : ℕ) (rows : List Row) → AllOver n rows → IsSound n (judged (tidied rows))
tidied-sound n rows over = judged-sound n (tidied rows) (tidied-over n rows over)

eliminated-sound : (n variable : ℕ) (rows : List Row) → AllOver n rows → IsSound n (eliminated variable rows)
unfolding eliminated
eliminated-sound n variable rows over = tidied-sound n (projected variable rows) (projected-over n variable rows over)

pub next-sound : (n variable : ℕ) (said : Eliminated) → IsSound n said → IsSound n (next variable said)
next-sound n variable set.False sound = sound
next-sound n variable set.Wide sound = sound
next-sound n variable (set.Rows rows) sound = eliminated-sound n variable rows sound.0

-- the levels

IsLevel : ℕ → List Row → Type 0
IsLevel n rows = AllOver n rows × All (IsWithin (2 ^ 62)) rows

standing-sound : (n : ℕ) (said : Eliminated) → IsSound n said → IsLevel n (standing said)
unfolding IsLevel
standing-sound n set.False sound = (All-nil (λ row. variables row ≡ n), All-nil (IsWithin (2 ^ 62)))
standing-sound n set.Wide sound = (All-nil (λ row. variables row ≡ n), All-nil (IsWithin (2 ^ 62)))
standing-sound n (set.Rows rows) sound = sound

levels-sound : (n k : ℕ) (said : Eliminated) → IsSound n said → All (IsLevel n) (levels k said)
levels-sound n zero said sound = All-nil (IsLevel n)
levels-sound n (suc k) said sound = All-push (IsLevel n) (levels k (next k said)) (standing said) (levels-sound n k (next k said) (next-sound n k said sound)) (standing-sound n said sound)

pub length-levels : (k : ℕ) (said : Eliminated) → length (levels k said) ≡ k
length-levels zero said = refl
length-levels (suc k) said =
    let front = length-levels k (next k said) in
    let whole = length-append (levels k (next k said)) (standing said ∷ []) in
    omega (arith, front, whole)

pub are-levels : (n : ℕ) (said : Eliminated) (made : List (List Row)) → IsSound n said → made ≡ levels n said → AreLevels made
unfolding IsLevel
are-levels n said made sound e =
    let each = levels-sound n n said sound in
    subst AreLevels (sym e) (record {
      over = All-weaker (IsLevel n) (AllOver (length (levels n said))) (λ rows h. subst (λ m. AllOver m rows) (sym (length-levels n said)) h.0) (levels n said) each;
      within = All-weaker (IsLevel n) (All (IsWithin (2 ^ 62))) (λ rows h. h.1) (levels n said) each;
    })

-- one elimination more

pub levels-none : (n : ℕ) (said start : Eliminated) (items : List (List Row)) → said ≡ start → items ≡ [] → levels n said ++ reverse items ≡ levels n start
levels-none n said start items e f = rw (e, f) (append-nil (levels n start))

pub levels-more : (n : ℕ) (said after : Eliminated) (level : List Row) (items made whole : List (List Row)) → 0 < n → level ≡ standing said → after ≡ next (n - 1) said → made ≡ items ++ level ∷ [] → levels n said ++ reverse items ≡ whole → levels (n - 1) after ++ reverse made ≡ whole
levels-more zero said after level items made whole some e f g done = absurd (omega arith)
levels-more (suc n) said after level items made whole some e f g done =
    let one : suc n - 1 ≡ n = omega arith in
    let back : reverse made ≡ level ∷ reverse items = ap reverse g ∙ reverse-append items (level ∷ []) in
    rw (f, one, back, e) (sym (append_assoc (levels n (next n said)) (standing said ∷ []) (reverse items)) ∙ done)

pub ruling-more : (n : ℕ) (said after : Eliminated) (whole : Ruling) → 0 < n → after ≡ next (n - 1) said → ruling n said ≡ whole → ruling (n - 1) after ≡ whole
ruling-more zero said after whole some f done = absurd (omega arith)
ruling-more (suc n) said after whole some f done =
    let one : suc n - 1 ≡ n = omega arith in
    rw (f, one) done

pub levels-all : (n : ℕ) (said : Eliminated) (items whole : List (List Row)) → n ≤ 0 → levels n said ++ reverse items ≡ whole → reverse items ≡ whole
levels-all zero said items whole none done = done
levels-all (suc n) said items whole none done = absurd (omega arith)

pub ruling-all : (n : ℕ) (said : Eliminated) (whole : Ruling) → n ≤ 0 → ruling n said ≡ whole → ruled said ≡ whole
ruling-all zero said whole none done = done
ruling-all (suc n) said whole none done = absurd (omega arith)

pub bounds-is : (n : ℕ) (rows : List Row) (made : List (List Row)) (verdict : Ruling) → made ≡ levels n (judged (tidied rows)) → verdict ≡ ruling n (judged (tidied rows)) → (let b : Bounds = record { levels = made; verdict = verdict } in b) ≡ bounds_of n rows
unfolding bounds_of verdict_of
bounds-is n rows made verdict e f = ap₂ (λ l v. let b : Bounds = record { levels = l; verdict = v } in b) e f

pub verdict-bounds : (n : ℕ) (rows : List Row) (bounds : Bounds) (verdict : Ruling) → bounds ≡ bounds_of n rows → verdict ≡ bounds.verdict → verdict ≡ verdict_of n rows
unfolding bounds_of
verdict-bounds n rows bounds verdict e f = f ∙ ap (λ (b : Bounds). b.verdict) e
