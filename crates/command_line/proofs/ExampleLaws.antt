-- How the invocations of arguments that are written out are computed.
use Rattle.std.proofs.Common.{◌≡◌, ◌∙◌, ap, refl, sym, subst, true, false, true≢false, ℕ, ℤ, pos, List, [], ◌∷◌, Option, Some, None, codes}
use Rattle.std.specs.Str.{bytes_eq}
use Rattle.std.proofs.lemmas.Slice.Eq.{bytes_eq-Decides}
use Rattle.std.specs.Str.Parse.{digits_value}
use Rattle.clap.specs.Words.{Row, Text, all_of, first_of, matches_of, takes}
use Rattle.command_line.specs.declared.invocation.Mode.{Mode}
use Rattle.command_line.specs.declared.invocation.Mode.TheVariants.{Gen}
use Rattle.command_line.specs.declared.recipe.Recipe.{Recipe}
use Rattle.command_line.specs.declared.recipe.Shape.{Shape}
use Rattle.command_line.specs.declared.recipe.Shape.TheVariants as shape
use Rattle.command_line.specs.Numbers.{IsNumberIn}
use Rattle.command_line.specs.Invocations.{HasNumber, IsFoundMode, IsInvocation, IsNoInvocation}
use Rattle.command_line.specs.Examples.{invocation}
use Rattle.command_line.specs.Modes.{HasArguments, IsRecipe, shape_word, word_of}
use Rattle.command_line.specs.Syntax.{syntax}
use Rattle.command_line.proofs.DigitLaws.{IsNumberIn-from-test, is_number_in, test-from-IsNumberIn}
use Rattle.command_line.proofs.FoundWordLaws.{has-recipe, mode_of, mode-of-word_of, number-there, same_text, texts-same}

number-given : (rows : List Row) (option : Text) (least most : ℕ) (text : Text) → first_of option rows ≡ Some text → is_number_in least most text ≡ true
    → HasNumber rows option least most (pos (digits_value 10 text))
number-given rows option least most text given test = record { text = text; value = given; is = IsNumberIn-from-test least most text test }

-- the recipe of three texts
abbrev pub recipe-of : Text → Shape → Text → Recipe
recipe-of seed kind size = record { seed = digits_value 10 seed; shape = kind; size = digits_value 10 size }

pub is-recipe : (seed size : Text) (kind : Shape) → is_number_in 0 4294967295 seed ≡ true → is_number_in 1 256 size ≡ true → IsRecipe (seed ∷ shape_word kind ∷ size ∷ []) (recipe-of seed kind size)
is-recipe seed size kind seed-in size-in =
    record { seed = seed; size = size; texts_are = refl; seed_is = IsNumberIn-from-test 0 4294967295 seed seed-in; size_is = IsNumberIn-from-test 1 256 size size-in }

-- what was found in the arguments, where it is these texts
pub is-invocation : (words : List Text) (mode : Mode) (workers chunk sample steps : Text) → takes syntax words ≡ true
    → first_of (codes "MODE") (matches_of syntax words) ≡ Some (word_of mode) → HasArguments mode (all_of (codes "ARGS") (matches_of syntax words))
    → first_of (codes "workers") (matches_of syntax words) ≡ Some workers → is_number_in 1 64 workers ≡ true
    → first_of (codes "chunk") (matches_of syntax words) ≡ Some chunk → is_number_in 1 1024 chunk ≡ true
    → first_of (codes "sample") (matches_of syntax words) ≡ Some sample → is_number_in 2 64 sample ≡ true
    → first_of (codes "steps") (matches_of syntax words) ≡ Some steps → is_number_in 0 4294967296 steps ≡ true
    → IsInvocation words (invocation mode (digits_value 10 workers) (digits_value 10 chunk) (digits_value 10 sample) (digits_value 10 steps))
is-invocation words mode workers chunk sample steps taken word arguments w w-in c c-in s s-in n n-in =
    let rows = matches_of syntax words in
    record {
      taken = taken;
      found = record {
        mode = record { word = word_of mode; value = word; is = record { word_is = refl; has = arguments } };
        options = record {
          workers = number-given rows (codes "workers") 1 64 workers w w-in;
          chunk = number-given rows (codes "chunk") 1 1024 chunk c c-in;
          sample = number-given rows (codes "sample") 2 64 sample s s-in;
          steps = number-given rows (codes "steps") 0 4294967296 steps n n-in;
        };
      };
    }

pub not-taken : (words : List Text) → takes syntax words ≡ false → IsNoInvocation words
not-taken words fails c is = true≢false (sym is.taken ∙ fails)

pub not-a-mode : (words : List Text) (word : Text) → first_of (codes "MODE") (matches_of syntax words) ≡ Some word → ((recipe : Recipe) → mode_of recipe word ≡ None) → IsNoInvocation words
not-a-mode words word given fails c is =
    let found = is.found.mode in
    let any : Recipe = record { seed = 0; shape = shape.Copy; size = 1 } in
    let same = same_text word found.word (sym given ∙ found.value) in
    let bad = sym (fails any) ∙ (ap (mode_of any) (same ∙ found.is.word_is) ∙ mode-of-word_of any c.mode) in
    cc

-- a mode with arguments is mode `gen`, and they are its recipe
recipe-found : (words given : List Text) → all_of (codes "ARGS") (matches_of syntax words) ≡ Some given → (mode : Mode) → IsFoundMode (matches_of syntax words) mode
    → (recipe : Recipe) × (mode ≡ Gen recipe) × IsRecipe given recipe
recipe-found words given some mode found =
    has-recipe given mode (subst (λ (a : Option (List Text)). HasArguments mode a) some found.is.has)

pub with-arguments : (words given : List Text) (word : Text) → all_of (codes "ARGS") (matches_of syntax words) ≡ Some given → first_of (codes "MODE") (matches_of syntax words) ≡ Some word
    → bytes_eq word (codes "gen") ≡ false → IsNoInvocation words
with-arguments words given word some named other c is =
    let found = is.found.mode in
    let (recipe, gen, read) = recipe-found words given some c.mode found in
    let same : word ≡ codes "gen" = same_text word found.word (sym named ∙ found.value) ∙ (found.is.word_is ∙ ap word_of gen) in
    true≢false (sym ((bytes_eq-Decides word (codes "gen")).1 same) ∙ other)

pub too-few-arguments : (words : List Text) (one two : Text) → all_of (codes "ARGS") (matches_of syntax words) ≡ Some (one ∷ two ∷ []) → IsNoInvocation words
too-few-arguments words one two some c is =
    let (recipe, gen, read) = recipe-found words (one ∷ two ∷ []) some c.mode is.found.mode in
    let bad : one ∷ two ∷ [] ≡ read.seed ∷ shape_word recipe.shape ∷ read.size ∷ [] = read.texts_are in
    cc

pub not-a-size : (words : List Text) (seed kind size : Text) → all_of (codes "ARGS") (matches_of syntax words) ≡ Some (seed ∷ kind ∷ size ∷ []) → is_number_in 1 256 size ≡ false → IsNoInvocation words
not-a-size words seed kind size some fails c is =
    let (recipe, gen, read) = recipe-found words (seed ∷ kind ∷ size ∷ []) some c.mode is.found.mode in
    let (seeds, kinds, sizes) = texts-same seed kind size read.seed (shape_word recipe.shape) read.size read.texts_are in
    let there = subst (λ (t : Text). IsNumberIn 1 256 t (pos recipe.size)) (sym sizes) read.size_is in
    true≢false (sym (test-from-IsNumberIn 1 256 size (pos recipe.size) there) ∙ fails)

not-a-number : (rows : List Row) (option : Text) (least most : ℕ) (text : Text) → first_of option rows ≡ Some text → is_number_in least most text ≡ false
    → (number : ℤ) → HasNumber rows option least most number → ⊥
not-a-number rows option least most text given fails number h =
    true≢false (sym (test-from-IsNumberIn least most text number (number-there rows option text least most given number h)) ∙ fails)

pub not-workers : (words : List Text) (text : Text) → first_of (codes "workers") (matches_of syntax words) ≡ Some text → is_number_in 1 64 text ≡ false → IsNoInvocation words
not-workers words text given fails c is =
    not-a-number (matches_of syntax words) (codes "workers") 1 64 text given fails (pos c.options.workers) is.found.options.workers

pub not-steps : (words : List Text) (text : Text) → first_of (codes "steps") (matches_of syntax words) ≡ Some text → is_number_in 0 4294967296 text ≡ false → IsNoInvocation words
not-steps words text given fails c is =
    not-a-number (matches_of syntax words) (codes "steps") 0 4294967296 text given fails (pos c.options.steps) is.found.options.steps
