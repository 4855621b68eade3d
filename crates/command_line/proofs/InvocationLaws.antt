-- Arguments are an invocation or none.
use Rattle.std.proofs.Common.{◌≡◌, ◌∙◌, ℕ, ℤ, pos, ◌<◌, ◌≤◌, sym, ap, subst, refl, List, [], ◌∷◌, length, Option, Some, None, Bool, true, false, codes, ◌⊎◌, inl, inr, nat_lt, nat_le, arith}
use Rattle.std.specs.Str.{bytes_eq}
use Rattle.std.specs.Str.Parse.{AllDigits, IsNumeral, digits_value}
use Rattle.std.specs.Char.{digit_value}
use Rattle.std.proofs.lemmas.Bool.{ltb-true, ltb-false, leb-true, leb-false}
use Rattle.std.proofs.lemmas.Slice.Eq.{bytes_eq-Decides}
use Rattle.clap.specs.Words.{Row, Text, all_of, first_of, matches_of, takes}
use Rattle.command_line.specs.Numbers.{IsNumberIn}
use Rattle.command_line.specs.Invocations.{HasNumber, HasOptions, IsFoundInvocation, IsFoundMode, IsInvocation, IsNoInvocation}
use Rattle.command_line.specs.Laws.{InvocationOrNone}
use Rattle.command_line.specs.Modes.{HasArguments, IsModeOf, IsRecipe, shape_word, word_of}
use Rattle.command_line.specs.Syntax.{syntax}
use Rattle.command_line.specs.declared.invocation.Invocation.{Invocation}
use Rattle.command_line.specs.declared.invocation.Options.{Options}
use Rattle.command_line.specs.declared.invocation.Mode.{Mode}
use Rattle.command_line.specs.declared.invocation.Mode.TheVariants.{Plain, Run, Check, Deps, Gen}
use Rattle.command_line.specs.declared.recipe.Recipe.{Recipe}
use Rattle.command_line.specs.declared.recipe.Shape.{Shape}
use Rattle.command_line.specs.declared.recipe.Shape.TheVariants as shape
use Rattle.command_line.proofs.FoundWordLaws.{has-recipe, no-number, number-there, no-number-below, same_text, texts-same}

-- something is so, or nothing is
abbrev Decided : {X : Type 0} → (X → Type 0) → Type 0
Decided {X} P = ((x : X) × P x) ⊎ ((x : X) → P x → ⊥)

digits : (text : List ℕ) → AllDigits 10 text ⊎ (AllDigits 10 text → ⊥)
digits [] = inl tt
digits (c ∷ cs) = elim (nat_lt (digit_value c) 10) as (λ b. nat_lt (digit_value c) 10 ≡ b → AllDigits 10 (c ∷ cs) ⊎ (AllDigits 10 (c ∷ cs) → ⊥)) [
  | true ↦ λ e. elim (digits cs) [ inl d ↦ inl (ltb-true (digit_value c) 10 e, d) | inr d ↦ inr (λ h. d h.1) ]
  | false ↦ λ e. inr (λ h. (let k : 10 ≤ digit_value c = ltb-false (digit_value c) 10 e in let l : digit_value c < 10 = h.0 in omega arith))
] refl

below : (a b : ℕ) → (a ≤ b) ⊎ (a ≤ b → ⊥)
below a b = elim (nat_le a b) as (λ t. nat_le a b ≡ t → (a ≤ b) ⊎ (a ≤ b → ⊥)) [
  | true ↦ λ e. inl (leb-true a b e)
  | false ↦ λ e. inr (λ h. (let k : b < a = leb-false a b e in omega arith))
] refl

numeral : (text : List ℕ) → IsNumeral 10 text ⊎ (IsNumeral 10 text → ⊥)
numeral [] = inr (λ h. (let k : 0 < 0 = h.0 in omega arith))
numeral (c ∷ cs) = elim (digits (c ∷ cs)) [ inl d ↦ inl (omega arith, d) | inr d ↦ inr (λ h. d h.1) ]

number_in : (least most : ℕ) (text : Text) → Decided (λ n. IsNumberIn least most text (pos n))
number_in least most text = elim (numeral text) [
  | inr never ↦ inr (λ n h. never h.numeral)
  | inl is ↦ elim (below (length text) 10) [
    | inr never ↦ inr (λ n h. never h.short)
    | inl short ↦ elim (below least (digits_value 10 text)) [
      | inr never ↦ inr (λ n h. never h.from)
      | inl from ↦ elim (below (digits_value 10 text) most) [
        | inr never ↦ inr (λ n h. never h.upto)
        | inl upto ↦ inl (digits_value 10 text, record { numeral = is; short = short; value = refl; from = from; upto = upto })
      ]
    ]
  ]
]

has-number : (rows : List Row) (option : Text) (least most : ℕ) → Decided (λ n. HasNumber rows option least most (pos n))
has-number rows option least most = elim (first_of option rows) as (λ o. first_of option rows ≡ o → Decided (λ n. HasNumber rows option least most (pos n))) [
  | None ↦ λ e. inr (λ n. no-number rows option least most e (pos n))
  | Some text ↦ λ e. elim (number_in least most text) [
    | inl is ↦ inl (is.0, record { text = text; value = e; is = is.1 })
    | inr never ↦ inr (λ n h. never n (number-there rows option text least most e (pos n) h))
  ]
] refl

options : (rows : List Row) → Decided (HasOptions rows)
options rows = elim (has-number rows (codes "workers") 1 64) [
  | inr never ↦ inr (λ o h. never o.workers h.workers)
  | inl w ↦ elim (has-number rows (codes "chunk") 1 1024) [
    | inr never ↦ inr (λ o h. no-number-below rows (codes "chunk") 1 1024 never o.chunk h.chunk)
    | inl c ↦ elim (has-number rows (codes "sample") 2 64) [
      | inr never ↦ inr (λ o h. no-number-below rows (codes "sample") 2 64 never o.sample h.sample)
      | inl s ↦ elim (has-number rows (codes "steps") 0 4294967296) [
        | inr never ↦ inr (λ o h. never o.steps h.steps)
        | inl n ↦ inl (record { workers = w.0; chunk = pos c.0; sample = pos s.0; steps = n.0 }, record { workers = w.1; chunk = c.1; sample = s.1; steps = n.1 })
      ]
    ]
  ]
]

-- the shape of a word
shape-named : (word : Text) → Decided (λ kind. word ≡ shape_word kind)
shape-named word = at (bytes_eq word (codes "copy")) (bytes_eq word (codes "list")) (bytes_eq word (codes "grid")) refl refl refl
  where
    at : (copy linked grid : Bool) → bytes_eq word (codes "copy") ≡ copy → bytes_eq word (codes "list") ≡ linked → bytes_eq word (codes "grid") ≡ grid → Decided (λ kind. word ≡ shape_word kind)
    at true linked grid c l g = inl (shape.Copy, (bytes_eq-Decides word (codes "copy")).0 c)
    at false true grid c l g = inl (shape.List, (bytes_eq-Decides word (codes "list")).0 l)
    at false false true c l g = inl (shape.Grid, (bytes_eq-Decides word (codes "grid")).0 g)
    at false false false c l g = inr none
      where
        none : (kind : Shape) → word ≡ shape_word kind → ⊥
        none shape.Copy h = let t : bytes_eq word (codes "copy") ≡ true = (bytes_eq-Decides word (codes "copy")).1 h in let bad : true ≡ false = sym t ∙ c in cc
        none shape.List h = let t : bytes_eq word (codes "list") ≡ true = (bytes_eq-Decides word (codes "list")).1 h in let bad : true ≡ false = sym t ∙ l in cc
        none shape.Grid h = let t : bytes_eq word (codes "grid") ≡ true = (bytes_eq-Decides word (codes "grid")).1 h in let bad : true ≡ false = sym t ∙ g in cc

-- the recipe of three texts
recipe-of : (seed kind size : Text) → Decided (IsRecipe (seed ∷ kind ∷ size ∷ []))
recipe-of seed kind size = elim (number_in 0 4294967295 seed) [
  | inr never ↦ inr (λ r h. (let same = texts-same _ _ _ _ _ _ h.texts_are in never r.seed (subst (λ (t : Text). IsNumberIn 0 4294967295 t (pos r.seed)) (sym same.0) h.seed_is)))
  | inl s ↦ elim (shape-named kind) [
    | inr never ↦ inr (λ r h. (let same = texts-same _ _ _ _ _ _ h.texts_are in never r.shape same.1))
    | inl k ↦ elim (number_in 1 256 size) [
      | inr never ↦ inr (λ r h. (let same = texts-same _ _ _ _ _ _ h.texts_are in never r.size (subst (λ (t : Text). IsNumberIn 1 256 t (pos r.size)) (sym same.2) h.size_is)))
      | inl n ↦ inl (record { seed = s.0; shape = k.0; size = n.0 }, record { seed = seed; size = size; texts_are = ap (λ (t : Text). seed ∷ t ∷ size ∷ []) k.1; seed_is = s.1; size_is = n.1 })
    ]
  ]
]

recipe : (texts : List Text) → Decided (IsRecipe texts)
recipe [] = inr (λ r h. (let bad : [] ≡ h.seed ∷ shape_word r.shape ∷ h.size ∷ [] = h.texts_are in cc))
recipe (a ∷ []) = inr (λ r h. (let bad : a ∷ [] ≡ h.seed ∷ shape_word r.shape ∷ h.size ∷ [] = h.texts_are in cc))
recipe (a ∷ b ∷ []) = inr (λ r h. (let bad : a ∷ b ∷ [] ≡ h.seed ∷ shape_word r.shape ∷ h.size ∷ [] = h.texts_are in cc))
recipe (a ∷ b ∷ c ∷ []) = recipe-of a b c
recipe (a ∷ b ∷ c ∷ d ∷ more) = inr (λ r h. (let bad : a ∷ b ∷ c ∷ d ∷ more ≡ h.seed ∷ shape_word r.shape ∷ h.size ∷ [] = h.texts_are in cc))

-- the mode of a word without values
mode-alone : (word : Text) → Decided (IsModeOf word None)
mode-alone word = at (bytes_eq word (codes "plain")) (bytes_eq word (codes "run")) (bytes_eq word (codes "check")) (bytes_eq word (codes "deps")) refl refl refl refl
  where
    at : (plain run check deps : Bool) → bytes_eq word (codes "plain") ≡ plain → bytes_eq word (codes "run") ≡ run → bytes_eq word (codes "check") ≡ check → bytes_eq word (codes "deps") ≡ deps → Decided (IsModeOf word None)
    at true run check deps e r k l = inl (Plain, record { word_is = (bytes_eq-Decides word (codes "plain")).0 e; has = refl })
    at false true check deps e r k l = inl (Run, record { word_is = (bytes_eq-Decides word (codes "run")).0 r; has = refl })
    at false false true deps e r k l = inl (Check, record { word_is = (bytes_eq-Decides word (codes "check")).0 k; has = refl })
    at false false false true e r k l = inl (Deps, record { word_is = (bytes_eq-Decides word (codes "deps")).0 l; has = refl })
    at false false false false e r k l = inr (λ m h. none m h.word_is h.has)
      where
        none : (m : Mode) → word ≡ word_of m → HasArguments m None → ⊥
        none Plain h a = let t : bytes_eq word (codes "plain") ≡ true = (bytes_eq-Decides word (codes "plain")).1 h in let bad : true ≡ false = sym t ∙ e in cc
        none Run h a = let t : bytes_eq word (codes "run") ≡ true = (bytes_eq-Decides word (codes "run")).1 h in let bad : true ≡ false = sym t ∙ r in cc
        none Check h a = let t : bytes_eq word (codes "check") ≡ true = (bytes_eq-Decides word (codes "check")).1 h in let bad : true ≡ false = sym t ∙ k in cc
        none Deps h a = let t : bytes_eq word (codes "deps") ≡ true = (bytes_eq-Decides word (codes "deps")).1 h in let bad : true ≡ false = sym t ∙ l in cc
        none (Gen r) h (texts, bad, is) = cc

-- the mode of a word with values
mode-with : (word : Text) (texts : List Text) → Decided (IsModeOf word (Some texts))
mode-with word texts = elim (bytes_eq word (codes "gen")) as (λ b. bytes_eq word (codes "gen") ≡ b → Decided (IsModeOf word (Some texts))) [
  | true ↦ λ e. elim (recipe texts) [
    | inl is ↦ inl (Gen is.0, record { word_is = (bytes_eq-Decides word (codes "gen")).0 e; has = (texts, refl, is.1) })
    | inr never ↦ inr (λ m h. (let r = has-recipe texts m h.has in never r.0 r.2))
  ]
  | false ↦ λ e. inr (λ m h. (
      let r = has-recipe texts m h.has in
      let t : bytes_eq word (codes "gen") ≡ true = (bytes_eq-Decides word (codes "gen")).1 (h.word_is ∙ ap word_of r.1) in
      let bad : true ≡ false = sym t ∙ e in
      cc))
] refl

mode : (word : Text) (arguments : Option (List Text)) → Decided (IsModeOf word arguments)
mode word None = mode-alone word
mode word (Some texts) = mode-with word texts

found-mode : (rows : List Row) → Decided (IsFoundMode rows)
found-mode rows = elim (first_of (codes "MODE") rows) as (λ o. first_of (codes "MODE") rows ≡ o → Decided (IsFoundMode rows)) [
  | None ↦ λ e. inr (λ m h. (let bad : None ≡ Some h.word = sym e ∙ h.value in cc))
  | Some word ↦ λ e. elim (mode word (all_of (codes "ARGS") rows)) [
    | inl is ↦ inl (is.0, record { word = word; value = e; is = is.1 })
    | inr never ↦ inr (λ m h. never m (subst (λ (w : Text). IsModeOf w (all_of (codes "ARGS") rows) m) (same_text h.word word (sym h.value ∙ e)) h.is))
  ]
] refl

found : (rows : List Row) → Decided (IsFoundInvocation rows)
found rows = elim (found-mode rows) [
  | inr never ↦ inr (λ i h. never i.mode h.mode)
  | inl m ↦ elim (options rows) [
    | inr never ↦ inr (λ i h. never i.options h.options)
    | inl o ↦ inl (record { mode = m.0; options = o.0 }, record { mode = m.1; options = o.1 })
  ]
]

pub invocation_or_none : InvocationOrNone
invocation_or_none words = elim (takes syntax words) as (λ b. takes syntax words ≡ b → Decided (IsInvocation words)) [
  | true ↦ λ e. elim (found (matches_of syntax words)) [ inl f ↦ inl (f.0, record { taken = e; found = f.1 }) | inr never ↦ inr (λ i h. never i h.found) ]
  | false ↦ λ e. inr (λ i h. (let bad : false ≡ true = sym e ∙ h.taken in cc))
] refl
