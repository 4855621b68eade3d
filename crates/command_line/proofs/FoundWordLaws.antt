-- What was found in the arguments, and what of it is there only once.
use Rattle.std.proofs.Common.{◌≡◌, ◌∙◌, ℕ, ℤ, pos, sym, ap, subst, refl, List, [], ◌∷◌, Option, Some, None, option_map, is_some, true, false, codes}
use Rattle.std.specs.Prelude.{IsSomeAnd, if◌then◌else◌}
use Rattle.std.specs.Str.{bytes_eq}
use Rattle.std.specs.Borrow.{Bor}
use Rattle.clap.specs.Words.{Row, Text, first_of, first_value, rows_of}
use Rattle.clap.specs.declared.parser.matches.Found.{Found}
use Rattle.clap.proofs.WalkLemmas.{first_value-rows}
use Rattle.command_line.specs.Numbers.{IsNumberIn}
use Rattle.std.specs.Str.Parse.{digits_value}
use Rattle.clap.specs.Words.{matches_of}
use Rattle.command_line.specs.Invocations.{Finds, HasNumber, IsFoundMode, IsInvocation}
use Rattle.command_line.specs.Modes.{HasArguments, IsModeOf, IsRecipe, shape_word, word_of}
use Rattle.command_line.specs.Syntax.{syntax}
use Rattle.command_line.specs.declared.invocation.Invocation.{Invocation}
use Rattle.command_line.specs.declared.invocation.Mode.{Mode}
use Rattle.command_line.specs.declared.invocation.Mode.TheVariants.{Plain, Run, Check, Deps, Gen}
use Rattle.command_line.specs.declared.recipe.Recipe.{Recipe}
use Rattle.command_line.specs.declared.recipe.Shape.{Shape}
use Rattle.command_line.specs.declared.recipe.Shape.TheVariants as shape

pub nothing : {T : Type 0} (found : Option T) (P : T → Type 0) → found ≡ None → ((x : T) → P x → ⊥) → Finds found P
nothing found P none h = subst (λ o. Finds o P) (sym none) h

pub only-nothing : {T : Type 0} (found : Option T) (P : T → Type 0) → found ≡ None → Finds found P → (x : T) → P x → ⊥
only-nothing found P none h = subst (λ o. Finds o P) none h

-- the same is found by a property that says the same
pub finds-the-same : {T : Type 0} (found : Option T) (P Q : T → Type 0) → ((x : T) → P x → Q x) → ((x : T) → Q x → P x) → Finds found P → Finds found Q
finds-the-same (Some x) P Q to back h = to x h
finds-the-same None P Q to back h = λ x q. h x (back x q)

pub same_text : {T : Type 0} (one other : T) → Some one ≡ Some other → one ≡ other
same_text one other e = cc

-- the first value of an option, as `get_str` gives it
pub first_of-given : (found : Found) (id : Text) (given : Option (Bor Text)) → option_map (λ s. s.now) given ≡ first_value found id → first_of id (rows_of found) ≡ option_map (λ s. s.now) given
first_of-given found id given is = sym (is ∙ first_value-rows found id)

pub no-number : (rows : List Row) (option : Text) (least most : ℕ) → first_of option rows ≡ None → (number : ℤ) → HasNumber rows option least most number → ⊥
no-number rows option least most none number h =
    let bad : None ≡ Some h.text = sym none ∙ h.value in
    cc

pub number-there : (rows : List Row) (option text : Text) (least most : ℕ) → first_of option rows ≡ Some text → (number : ℤ)
    → HasNumber rows option least most number → IsNumberIn least most text number
number-there rows option text least most given number h =
    subst (λ (t : Text). IsNumberIn least most t number) (same_text h.text text (sym h.value ∙ given)) h.is

-- a number is no less than 0
pub no-number-below : (rows : List Row) (option : Text) (least most : ℕ) → ((n : ℕ) → HasNumber rows option least most (pos n) → ⊥) → (number : ℤ)
    → HasNumber rows option least most number → ⊥
no-number-below rows option least most none number h =
    none _ (subst (λ (z : ℤ). HasNumber rows option least most z) h.is.value h)

pub none-there : {T U : Type 0} (f : T → U) (o : Option T) → option_map f o ≡ None → is_some o ≡ true → ⊥
none-there f None e h = cc
none-there f (Some x) e h = cc

pub none-found : {T U : Type 0} (f : T → U) (o : Option T) (r : Option U) → option_map f o ≡ r → is_some o ≡ false → r ≡ None
none-found f None r e h = sym e
none-found f (Some x) r e h = cc

-- what was found is the one thing of which something holds
pub some-that : {T : Type 0} (found : Option T) (x : T) → IsSomeAnd found (λ y. y ≡ x) → found ≡ Some x
some-that None x h = absurd h
some-that (Some y) x h = ap (λ z. Some z) h

-- ---- arguments are at most one invocation

one-natural : (m n : ℕ) → pos m ≡ pos n → m ≡ n
one-natural m n e = cc

-- the mode of a word, with this recipe where it has one
unfoldable pub mode_of : Recipe → Text → Option Mode
mode_of recipe word = if bytes_eq word (codes "plain") then Some Plain
    else if bytes_eq word (codes "run") then Some Run
    else if bytes_eq word (codes "check") then Some Check
    else if bytes_eq word (codes "deps") then Some Deps
    else if bytes_eq word (codes "gen") then Some (Gen recipe)
    else None

-- a mode, with this recipe where it has one
abbrev with-recipe : Recipe → Mode → Mode
with-recipe recipe (Gen other) = Gen recipe
with-recipe recipe mode = mode

pub mode-of-word_of : (recipe : Recipe) (mode : Mode) → mode_of recipe (word_of mode) ≡ Some (with-recipe recipe mode)
unfolding mode_of
mode-of-word_of recipe Plain = refl
mode-of-word_of recipe Run = refl
mode-of-word_of recipe Check = refl
mode-of-word_of recipe Deps = refl
mode-of-word_of recipe (Gen other) = refl

-- a mode without arguments has no recipe
has-no-recipe : (recipe : Recipe) (mode : Mode) → HasArguments mode None → with-recipe recipe mode ≡ mode
has-no-recipe recipe Plain h = refl
has-no-recipe recipe Run h = refl
has-no-recipe recipe Check h = refl
has-no-recipe recipe Deps h = refl
has-no-recipe recipe (Gen other) (texts, bad, is) = absurd (cc)

-- a mode with arguments is that of their recipe
pub has-recipe : (texts : List Text) (mode : Mode) → HasArguments mode (Some texts) → (recipe : Recipe) × (mode ≡ Gen recipe) × IsRecipe texts recipe
has-recipe texts Plain bad = absurd (cc)
has-recipe texts Run bad = absurd (cc)
has-recipe texts Check bad = absurd (cc)
has-recipe texts Deps bad = absurd (cc)
has-recipe texts (Gen recipe) (given, same, is) = (recipe, refl, subst (λ (ts : List Text). IsRecipe ts recipe) (same_text given texts (sym same)) is)

-- the shape of a word
unfoldable pub shape_of : Text → Option Shape
shape_of word = if bytes_eq word (codes "copy") then Some shape.Copy
    else if bytes_eq word (codes "list") then Some shape.List
    else if bytes_eq word (codes "grid") then Some shape.Grid
    else None

pub shape_of-shape_word : (kind : Shape) → shape_of (shape_word kind) ≡ Some kind
unfolding shape_of
shape_of-shape_word shape.Copy = refl
shape_of-shape_word shape.List = refl
shape_of-shape_word shape.Grid = refl

-- the three texts of a recipe
pub texts-same : (a b c d e f : Text) → ◌≡◌ {A = List Text} (a ∷ b ∷ c ∷ []) (d ∷ e ∷ f ∷ []) → (a ≡ d) × (b ≡ e) × (c ≡ f)
texts-same a b c d e f h = (cc, cc, cc)

same-number : (least most : ℕ) (text other : Text) (m n : ℕ) → text ≡ other → IsNumberIn least most text (pos m) → IsNumberIn least most other (pos n) → m ≡ n
same-number least most text other m n same one two =
    one-natural _ _ (one.value ∙ (ap (λ t. pos (digits_value 10 t)) same ∙ sym two.value))

one-recipe : (texts : List Text) (one other : Recipe) → IsRecipe texts one → IsRecipe texts other → one ≡ other
one-recipe texts one other h k =
    let (seeds, shapes, sizes) = texts-same h.seed (shape_word one.shape) h.size k.seed (shape_word other.shape) k.size (sym h.texts_are ∙ k.texts_are) in
    let seed : one.seed ≡ other.seed = same-number 0 4294967295 h.seed k.seed one.seed other.seed seeds h.seed_is k.seed_is in
    let size : one.size ≡ other.size = same-number 1 256 h.size k.size one.size other.size sizes h.size_is k.size_is in
    let kind : one.shape ≡ other.shape = same_text one.shape other.shape (sym (shape_of-shape_word one.shape) ∙ (ap shape_of shapes ∙ shape_of-shape_word other.shape)) in
    λ i. record { seed = seed i; shape = kind i; size = size i }

-- a word and its values are those of one mode
one-mode : (word : Text) (arguments : Option (List Text)) (one other : Mode) → IsModeOf word arguments one → IsModeOf word arguments other → one ≡ other
one-mode word None one other h k =
    let any : Recipe = record { seed = 0; shape = shape.Copy; size = 1 } in
    let same : with-recipe any one ≡ with-recipe any other =
    same_text _ _ (sym (mode-of-word_of any one) ∙ (ap (mode_of any) (sym h.word_is ∙ k.word_is) ∙ mode-of-word_of any other)) in
    sym (has-no-recipe any one h.has) ∙ (same ∙ has-no-recipe any other k.has)
one-mode word (Some texts) one other h k =
    let (recipe, is, read) = has-recipe texts one h.has in
    let (another, is', read') = has-recipe texts other k.has in
    is ∙ (ap (λ (r : Recipe). Gen r) (one-recipe texts recipe another read read') ∙ sym is')

-- the mode that was found is one
one-found-mode : (rows : List Row) (one other : Mode) → IsFoundMode rows one → IsFoundMode rows other → one ≡ other
one-found-mode rows one other h k =
    let same = same_text k.word h.word (sym k.value ∙ h.value) in
    one-mode h.word _ one other h.is (subst (λ (word : Text). IsModeOf word _ other) same k.is)

one-number : (rows : List Row) (option : Text) (least most : ℕ) (one other : ℤ) → HasNumber rows option least most one → HasNumber rows option least most other → one ≡ other
one-number rows option least most one other h k =
    let same = same_text h.text k.text (sym h.value ∙ k.value) in
    h.is.value ∙ (ap (λ t. pos (digits_value 10 t)) same ∙ sym k.is.value)

pub one_invocation : (words : List Text) (one other : Invocation) → IsInvocation words one → IsInvocation words other → one ≡ other
one_invocation words one other h k =
    let rows = matches_of syntax words in
    let options = h.found.options in
    let others = k.found.options in
    let mode : one.mode ≡ other.mode = one-found-mode rows one.mode other.mode h.found.mode k.found.mode in
    let workers : one.options.workers ≡ other.options.workers = one-natural _ _ (one-number rows _ _ _ _ _ options.workers others.workers) in
    let chunk : one.options.chunk ≡ other.options.chunk = one-number rows _ _ _ _ _ options.chunk others.chunk in
    let sample : one.options.sample ≡ other.options.sample = one-number rows _ _ _ _ _ options.sample others.sample in
    let steps : one.options.steps ≡ other.options.steps = one-natural _ _ (one-number rows _ _ _ _ _ options.steps others.steps) in
    λ i. record { mode = mode i; options = record { workers = workers i; chunk = chunk i; sample = sample i; steps = steps i } }
