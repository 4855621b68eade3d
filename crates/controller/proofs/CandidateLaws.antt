-- The candidates of a nest, one after another.
use Rattle.std.proofs.Common.{◌≡◌, refl, sym, ap, ap₂, ◌∙◌, ℕ, zero, suc, ◌+◌, ◌<◌, ◌≤◌, Option, Some, None, List, [], ◌∷◌, ◌++◌, length, take, get_or, append-nil, ⊎_elim, ℤ, pos, negsuc, ◌≤ℤ◌, true, FitsSigned, w64, to_z, of_z, arith}
use Rattle.std.specs.Prelude.{slice_get, unsigned_abs}
use Rattle.std.specs.Option.{option_and_then, option_to_list}
use Rattle.std.specs.List.{filter_map, cons_option}
use Rattle.std.proofs.lemmas.Bool.{cases_lt}
use Rattle.std.proofs.lemmas.Int.{ints, to_z-of_z}
use Rattle.std.proofs.lemmas.List.{take_all, take_more}
use Rattle.std.proofs.lemmas.List.Elements.{filter_map-append}
use Rattle.std.proofs.lemmas.Option.{get_or_from_slice_get, slice_get-get_or, slice_get_past, slice_get_read, slice_get_within}
use Rattle.nest_lang.specs.declared.command.Command.{Command}
use Rattle.transform.specs.Schedules.{Schedule}
use Rattle.transform.specs.Scripts.{schedule_of}
use Rattle.transform.specs.Standards.{standard, standard_scripts}
use Rattle.nest_lang.specs.declared.tree.Loop.{Loop}
use Rattle.nest_lang.specs.Rules.{loops_keep}
use Rattle.plain_interp.proofs.NestLaws.{loops_keep-some}
use Rattle.nest_grammar.specs.declared.file.NestUnit.{NestUnit}
use Rattle.report.specs.declared.journey.Options.{Options}
use Rattle.journeys.specs.Settings.{candidates, setting_of}

-- ---- filters

cons-one : {X : Type 0} (o : Option X) → cons_option o [] ≡ option_to_list o
cons-one None = refl
cons-one (Some x) = refl

-- what a filter makes of one more element, and of no more
filtered-more : {X Y : Type 0} (f : X → Option Y) (xs : List X) (k : ℕ) (x : X) → slice_get xs k ≡ Some x → filter_map f (take (k + 1) xs) ≡ filter_map f (take k xs) ++ option_to_list (f x)
filtered-more {X} {Y} f xs k x is =
    ap (filter_map f) (take_more xs k x (slice_get_within xs k x is) ∙ ap (λ (y : X). take k xs ++ y ∷ []) (get_or_from_slice_get xs k x x is))
    ∙ filter_map-append f (take k xs) (x ∷ [])
    ∙ ap (λ (ys : List Y). filter_map f (take k xs) ++ ys) (cons-one (f x))

filtered-past : {X Y : Type 0} (f : X → Option Y) (xs : List X) (k : ℕ) → length xs ≤ k → filter_map f (take (k + 1) xs) ≡ filter_map f (take k xs) ++ []
filtered-past f xs k past = ap (filter_map f) (take_all (k + 1) xs (omega (arith, past)) ∙ sym (take_all k xs past)) ∙ sym (append-nil (filter_map f (take k xs)))

cons-short : {X : Type 0} (o : Option X) (xs : List X) (n : ℕ) → length xs ≤ n → length (cons_option o xs) ≤ suc n
cons-short None xs n less = omega (arith, less)
cons-short (Some x) xs n less = omega (arith, less)

pub filtered-short : {X Y : Type 0} (f : X → Option Y) (xs : List X) → length (filter_map f xs) ≤ length xs
filtered-short f [] = omega arith
filtered-short f (x ∷ xs) = cons-short (f x) (filter_map f xs) (length xs) (filtered-short f xs)

-- ---- the schedules of scripts

-- that of one more script
pub schedules-more : (D : ℕ) (scripts : List (List Command)) (k : ℕ) (script : List Command) (schedule : Option Schedule) (before after : List Schedule) → k < length scripts → script ≡ get_or scripts k script → schedule ≡ schedule_of D script
    → before ≡ filter_map (schedule_of D) (take k scripts) → after ≡ before ++ option_to_list schedule → after ≡ filter_map (schedule_of D) (take (k + 1) scripts)
schedules-more D scripts k script schedule before after less at is b a =
    a
    ∙ ap₂ (λ (ss : List Schedule) (o : Option Schedule). ss ++ option_to_list o) b is
    ∙ sym (filtered-more (schedule_of D) scripts k script (slice_get_read scripts (length scripts) k script refl less at))

-- ---- the standard candidates

-- those of the first numbers
abbrev pub standards_to : ℕ → ℕ → List Schedule
standards_to D k = filter_map (schedule_of D) (take k (standard_scripts D))

standards-few : (D : ℕ) → length (standard_scripts D) ≤ 5
standards-few zero = omega arith
standards-few (suc zero) = omega arith
standards-few (suc (suc n)) = omega arith

pub standards-all : (D : ℕ) → standards_to D 5 ≡ filter_map (schedule_of D) (standard_scripts D)
standards-all D = ap (filter_map (schedule_of D)) (take_all 5 (standard_scripts D) (standards-few D))

standard-at : (D k : ℕ) → standard D (k + 1) ≡ option_and_then (schedule_of D) (slice_get (standard_scripts D) k)
standard-at D k = let next : k + 1 ≡ suc k = omega arith in ap (standard D) next

standard-told : (D k : ℕ) (o : Option (List Command)) → slice_get (standard_scripts D) k ≡ o → option_to_list (option_and_then (schedule_of D) o) ≡ option_to_list (standard D (k + 1))
standard-told D k o is = ap option_to_list (ap (option_and_then (schedule_of D)) (sym is) ∙ sym (standard-at D k))

pub standards-more : (D k : ℕ) → standards_to D (k + 1) ≡ standards_to D k ++ option_to_list (standard D (k + 1))
standards-more D k = ⊎_elim inside past (cases_lt k (length (standard_scripts D)))
  where
    inside : k < length (standard_scripts D) → standards_to D (k + 1) ≡ standards_to D k ++ option_to_list (standard D (k + 1))
    inside less =
        let is = slice_get-get_or (standard_scripts D) k [] less in
        filtered-more (schedule_of D) (standard_scripts D) k (get_or (standard_scripts D) k []) is
        ∙ ap (λ (ys : List Schedule). standards_to D k ++ ys) (standard-told D k (Some (get_or (standard_scripts D) k [])) is)

    past : length (standard_scripts D) ≤ k → standards_to D (k + 1) ≡ standards_to D k ++ option_to_list (standard D (k + 1))
    past more = filtered-past (schedule_of D) (standard_scripts D) k more ∙ ap (λ (ys : List Schedule). standards_to D k ++ ys) (standard-told D k None (slice_get_past (standard_scripts D) k more))

-- ---- the candidates of a nest

pub candidates-standard : (D : ℕ) (scripts : List (List Command)) → length scripts ≡ 0 → filter_map (schedule_of D) (standard_scripts D) ≡ candidates D scripts
candidates-standard D [] none = refl
candidates-standard D (script ∷ scripts) none = absurd (omega (arith, none))

pub candidates-own : (D : ℕ) (scripts : List (List Command)) → (length scripts ≡ 0 → ⊥) → filter_map (schedule_of D) scripts ≡ candidates D scripts
candidates-own D [] some = absurd (some refl)
candidates-own D (script ∷ scripts) some = refl

-- they are few
pub candidates-few : (D : ℕ) (scripts : List (List Command)) → length scripts ≤ 16 → length (candidates D scripts) ≤ 16
candidates-few D [] few = let short = filtered-short (schedule_of D) (standard_scripts D) in let least = standards-few D in omega (arith, short, least)
candidates-few D (script ∷ scripts) few = let short = filtered-short (schedule_of D) (script ∷ scripts) in omega (arith, short, few)

-- ---- the setting of a nest

pub some-loops : (loops : List Loop) → loops_keep loops ≡ true → 0 < length loops
some-loops [] keeps = absurd (loops_keep-some [] refl keeps)
some-loops (l ∷ ls) keeps = omega arith

-- an option in its range
pub abs-from : (z : ℤ) (a b : ℕ) → pos a ≤ℤ z → z ≤ℤ pos b → (a ≤ unsigned_abs z) × (unsigned_abs z ≤ b)
abs-from (pos n) a b low high = (omega (arith, ints, low), omega (arith, ints, high))
abs-from (negsuc n) a b low high = absurd (omega (arith, ints, low))

-- the cast of an option to an unsigned number
pub signed-again : {a b : ℕ} (z : ℤ) → pos a ≤ℤ z → z ≤ℤ pos b → b ≤ 1024 → unsigned_abs (to_z w64 (of_z w64 z)) ≡ unsigned_abs z
signed-again z low high few = let fits : FitsSigned w64 z = omega (arith, ints, low, high, few) in ap unsigned_abs (to_z-of_z w64 z fits)

pub setting-is : (options : Options) (scalars : ℕ) (u : NestUnit) (loops : List Loop) (n : ℕ) (cs : List Schedule) (sample chunk : ℕ) → loops ≡ u.nest.loops → n ≡ scalars → cs ≡ candidates (length u.nest.loops) u.scripts
    → sample ≡ unsigned_abs options.sample → chunk ≡ unsigned_abs options.chunk → record { loops = loops; scalars = n; candidates = cs; sample = sample; chunk = chunk } ≡ setting_of options scalars u
setting-is options scalars u loops n cs sample chunk a b c d e = rw (a, b, c, d, e) refl
