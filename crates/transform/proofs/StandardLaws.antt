-- The standard candidates.
use Rattle.std.proofs.Common.{◌≡◌, refl, ap, ◌∙◌, ℕ, zero, suc, ◌<◌, ◌≤◌, ◌+◌, ◌-◌, ℤ, pos, true, cond, List, [], ◌∷◌, ◌++◌, map, Option, Some, None, length, arith}
use Rattle.std.specs.Prelude.{IsSome, is_some, option_map, slice_get}
use Rattle.std.specs.List.{list_all, range_with_len}
use Rattle.std.specs.Option.{option_and_then}
use Rattle.std.proofs.lemmas.Bool.{and_parts}
use Rattle.nest_lang.specs.declared.command.Command.{Command}
use Rattle.nest_lang.specs.declared.command.Command.TheVariants.{Seq, Skew, Tile}
use Rattle.transform.specs.Drafts.{Draft, drafted, drafted_all, new_draft}
use Rattle.transform.specs.Laws.{StandardsAreSchedules}
use Rattle.transform.specs.Scripts.{keeps_rules, meaning, schedule_from, schedule_of}
use Rattle.transform.specs.Standards.{parallel_row, skews, standard, standard_script, standard_scripts, tiles}
use Rattle.transform.proofs.ScriptLaws.{schedule_of-drafted}

-- ---- the table keeps the rules

all-keep : (n : ℕ) → 1 ≤ n → n ≤ 6 → list_all (keeps_rules n) (standard_scripts n) ≡ true
all-keep zero h k = absurd (omega arith)
all-keep (suc zero) h k = refl
all-keep (suc (suc zero)) h k = refl
all-keep (suc (suc (suc zero))) h k = refl
all-keep (suc (suc (suc (suc zero)))) h k = refl
all-keep (suc (suc (suc (suc (suc zero))))) h k = refl
all-keep (suc (suc (suc (suc (suc (suc zero)))))) h k = refl
all-keep (suc (suc (suc (suc (suc (suc (suc n))))))) h k = absurd (omega arith)

some-kept : (n : ℕ) (scripts : List (List Command)) (k : ℕ) → k < length scripts → list_all (keeps_rules n) scripts ≡ true → IsSome (option_and_then (schedule_of n) (slice_get scripts k))
some-kept n [] k h all = absurd (omega arith)
some-kept n (script ∷ scripts) zero h all = by (and_parts (keeps_rules n script) (list_all (keeps_rules n) scripts) all).0
  where
    by : keeps_rules n script ≡ true → IsSome (schedule_of n script)
    by keeps = ap (λ b. is_some (cond b (Some (schedule_from (meaning n script))) None)) keeps
some-kept n (script ∷ scripts) (suc k) h all = some-kept n scripts k (omega arith) (and_parts (keeps_rules n script) (list_all (keeps_rules n) scripts) all).1

pub standards_are_schedules : StandardsAreSchedules
standards_are_schedules n zero h k first last = absurd (omega arith)
standards_are_schedules n (suc number) h k first last = some-kept n (standard_scripts n) number (omega arith) (all-keep n h k)

-- ---- the rows of the table

pub script-first : (n : ℕ) → 1 ≤ n → standard_script n 1 ≡ Some (parallel_row 1 ∷ tiles 1 n (pos 8))
script-first zero h = absurd (omega arith)
script-first (suc zero) h = refl
script-first (suc (suc n)) h = refl

pub script-second : (n : ℕ) → 2 ≤ n → standard_script n 2 ≡ Some (Seq 1 ∷ parallel_row 2 ∷ tiles 2 n (pos 8))
script-second zero h = absurd (omega arith)
script-second (suc zero) h = absurd (omega arith)
script-second (suc (suc n)) h = refl

pub script-third : (n : ℕ) → 2 ≤ n → standard_script n 3 ≡ Some (tiles 1 n (pos 4))
script-third zero h = absurd (omega arith)
script-third (suc zero) h = absurd (omega arith)
script-third (suc (suc n)) h = refl

pub script-fourth : (n : ℕ) → 2 ≤ n → standard_script n 4 ≡ Some (skews n ++ tiles 1 n (pos 4))
script-fourth zero h = absurd (omega arith)
script-fourth (suc zero) h = absurd (omega arith)
script-fourth (suc (suc n)) h = refl

pub script-fifth : (n : ℕ) → 2 ≤ n → standard_script n 5 ≡ Some (Seq (n - 1) ∷ Tile n (pos 8) ∷ [])
script-fifth zero h = absurd (omega arith)
script-fifth (suc zero) h = absurd (omega arith)
script-fifth (suc (suc n)) h = refl

pub script-zero : (n : ℕ) → standard_script n 0 ≡ None
script-zero n = refl

pub script-past : (n number : ℕ) → 2 ≤ n → 5 < number → standard_script n number ≡ None
script-past zero number h k = absurd (omega arith)
script-past (suc zero) number h k = absurd (omega arith)
script-past (suc (suc n)) zero h k = absurd (omega arith)
script-past (suc (suc n)) (suc zero) h k = absurd (omega arith)
script-past (suc (suc n)) (suc (suc zero)) h k = absurd (omega arith)
script-past (suc (suc n)) (suc (suc (suc zero))) h k = absurd (omega arith)
script-past (suc (suc n)) (suc (suc (suc (suc zero)))) h k = absurd (omega arith)
script-past (suc (suc n)) (suc (suc (suc (suc (suc zero))))) h k = absurd (omega arith)
script-past (suc (suc n)) (suc (suc (suc (suc (suc (suc number)))))) h k = refl

-- ---- a script after another

pub drafted_all-append : (n : ℕ) (d : Draft) (first second : List Command) → drafted_all n d (first ++ second) ≡ option_and_then (λ next. drafted_all n next second) (drafted_all n d first)
drafted_all-append n d [] second = refl
drafted_all-append n d (c ∷ first) second = by (λ next. drafted_all-append n next first second) (drafted n d c)
  where
    by : ((next : Draft) → drafted_all n next (first ++ second) ≡ option_and_then (λ e. drafted_all n e second) (drafted_all n next first)) → (o : Option Draft)
        → option_and_then (λ next. drafted_all n next (first ++ second)) o ≡ option_and_then (λ e. drafted_all n e second) (option_and_then (λ next. drafted_all n next first) o)
    by rest None = refl
    by rest (Some next) = rest next

pub standard-drafted : (n number : ℕ) → standard n number ≡ option_map (λ (d : Draft). schedule_from d.parts) (option_and_then (drafted_all n (new_draft n)) (standard_script n number))
standard-drafted n number = by (standard_script n number)
  where
    by : (o : Option (List Command)) → option_and_then (schedule_of n) o ≡ option_map (λ (d : Draft). schedule_from d.parts) (option_and_then (drafted_all n (new_draft n)) o)
    by None = refl
    by (Some script) = schedule_of-drafted n script

-- the tiles from one row on
pub tiles-step : (row n : ℕ) (size : ℤ) → row < n → tiles (row + 1) n size ≡ Tile (row + 1) size ∷ tiles (row + 2) n size
tiles-step row n size h =
    let one-more : (n + 1) - (row + 1) ≡ suc ((n + 1) - (row + 2)) = omega (arith, h) in
    let next : (row + 1) + 1 ≡ row + 2 = omega arith in
    ap (λ k. map (λ a. Tile a size) (range_with_len (row + 1) k)) one-more
    ∙ ap (λ i. Tile (row + 1) size ∷ map (λ a. Tile a size) (range_with_len i ((n + 1) - (row + 2)))) next

pub tiles-none : (row n : ℕ) (size : ℤ) → n ≤ row → tiles (row + 1) n size ≡ []
tiles-none row n size h = let none : (n + 1) - (row + 1) ≡ 0 = omega (arith, h) in ap (λ k. map (λ a. Tile a size) (range_with_len (row + 1) k)) none

-- the skews from one row on
abbrev pub skews_from : ℕ → ℕ → List Command
skews_from row n = map (λ a. Skew a 1 (pos 1)) (range_with_len (row + 1) (n - row))

pub skews-from-step : (row n : ℕ) → row < n → skews_from row n ≡ Skew (row + 1) 1 (pos 1) ∷ skews_from (row + 1) n
skews-from-step row n h =
    let one-more : n - row ≡ suc (n - (row + 1)) = omega (arith, h) in
    ap (λ k. map (λ a. Skew a 1 (pos 1)) (range_with_len (row + 1) k)) one-more

pub skews-from-none : (row n : ℕ) → n ≤ row → skews_from row n ≡ []
skews-from-none row n h = let none : n - row ≡ 0 = omega (arith, h) in ap (λ k. map (λ a. Skew a 1 (pos 1)) (range_with_len (row + 1) k)) none
