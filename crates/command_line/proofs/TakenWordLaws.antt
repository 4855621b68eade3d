-- Where no step of a parse fails, `clap` takes the arguments.
use Rattle.std.proofs.Common.{◌≡◌, ◌∙◌, ◌≤◌, ◌+◌, ◌&&◌, ◌||◌, ◌==◌, ℕ, Bool, true, false, not, zero, suc, refl, sym, ap₂, arith, List, [], ◌∷◌, length, min, drop, Option, Some, None, is_some, nat_le, nat_lt, codes}
use Rattle.std.specs.Prelude.{if◌then◌else◌, encode_utf8, slice_get}
use Rattle.std.specs.List.{list_all, list_any}
use Rattle.std.specs.Option.{option_map_or}
use Rattle.std.specs.Str.{bytes_eq, chars}
use Rattle.clap.specs.Lexer.{long_of, short_of}
use Rattle.clap.specs.Matches.{count_text}
use Rattle.clap.specs.Facts.{parser_of_value, unwrap_or_range}
use Rattle.clap.specs.ValueTests.{accepts}
use Rattle.clap.specs.Values.{refused_kind}
use Rattle.clap.specs.Walk.{Held, Names, Row, Rule, Step, Text, Waiting, Walk, action_of, arg_by_id, arg_by_index, arg_by_long, arg_by_short, attached_value, count_of, finished, has_row, is_pending, most_values, next, nothing_held, reacted, settled, subcommand, subcommand_met, takes_several, takes_values, trailing, value, values_or_missing, walk, walk_from, walked, word_met}
use Rattle.clap.specs.Simple.{App, Shape, argument_words, built, is_simple}
use Rattle.clap.specs.Takes as passing
use Rattle.clap.specs.Takes.{flags_pass, is_given, takes, walk_passes}
use Rattle.clap.specs.Kinds.{Kinds, check_kinds, or_else, range_kinds}
use Rattle.clap.specs.Faults as failing
use Rattle.clap.specs.Faults.{fault_of, flags_fault, walk_fault}
use Rattle.clap.specs.declared.builder.action.ArgAction.{ArgAction}
use Rattle.clap.specs.declared.builder.action.ArgAction.TheVariants.{Set, Append, SetTrue, SetFalse, Count, Help, HelpShort, HelpLong, Version}
use Rattle.clap.specs.declared.error.kind.ErrorKind.{ErrorKind}
use Rattle.std.proofs.lemmas.Bool.{eqb-true, ltb-false, le-leb}
use Rattle.clap.proofs.TakesLemmas.{leaf_takes}
use Rattle.clap.proofs.FaultLemmas.{leaf_fault}

-- a step that doesn't fail passes its test
abbrev Passes : Kinds → Bool → Type 0
Passes kinds test = kinds ≡ [] → test ≡ true

-- ---- steps put together

first-empty : (a b : Kinds) → or_else a b ≡ [] → a ≡ []
first-empty [] b e = refl
first-empty (k ∷ ks) b e = e

next-empty : (a b : Kinds) → or_else a b ≡ [] → b ≡ []
next-empty [] b e = e
next-empty (k ∷ ks) b e = cc

in_turn : (a b : Kinds) (p q : Bool) → Passes a p → Passes b q → Passes (or_else a b) (p && q)
in_turn a b p q one two e = ap₂ (λ x y. x && y) (one (first-empty a b e)) (two (next-empty a b e))

unless : (c : Bool) (a : Kinds) (p : Bool) → Passes a p → Passes (if c then [] else a) (c || p)
unless true a p h e = refl
unless false a p h e = h e

only-if : (c : Bool) (k : ErrorKind) → Passes (if c then [] else k ∷ []) c
only-if true k e = refl
only-if false k e = cc

not-if : (c : Bool) (k : ErrorKind) (a : Kinds) (p : Bool) → Passes a p → Passes (if c then k ∷ [] else a) (not c && p)
not-if true k a p h e = cc
not-if false k a p h e = h e

choice : (c : Bool) (a b : Kinds) (p q : Bool) → Passes a p → Passes b q → Passes (if c then a else b) (if c then p else q)
choice true a b p q one two e = one e
choice false a b p q one two e = two e

if-some : {X : Type 0} (f : X → Kinds) (g : X → Bool) → ((x : X) → Passes (f x) (g x)) → (o : Option X) → Passes (option_map_or f o []) (option_map_or g o true)
if-some f g h None e = refl
if-some f g h (Some x) e = h x e

-- ---- values

value-taken : (a : Rule) (text : Text) → Passes (failing.values_fault a (text ∷ [])) (passing.value_passes a text)
value-taken a text e = only-if (accepts a.ignore_case (parser_of_value a.parser) text) (refused_kind (parser_of_value a.parser)) (first-empty _ _ e)

values-taken : (a : Rule) (values : List Text) → Passes (failing.values_fault a values) (passing.values_pass a values)
values-taken a [] e = refl
values-taken a (v ∷ vs) e =
    ap₂ (λ x y. x && y) (only-if (accepts a.ignore_case (parser_of_value a.parser) v) (refused_kind (parser_of_value a.parser)) (first-empty _ _ e)) (values-taken a vs (next-empty _ _ e))

count-taken : (a : Rule) (values : List Text) (rows : List Row) → Passes (failing.count_fault a values rows) (passing.count_passes a values rows)
count-taken a [] rows e =
    only-if (accepts a.ignore_case (parser_of_value a.parser) (count_text (min (count_of a.id rows + 1) 255))) (refused_kind (parser_of_value a.parser)) e
count-taken a (v ∷ vs) rows e = values-taken a (v ∷ vs) e

not-again : (there again : Bool) (k : ErrorKind) → Passes (if (there && not again) then k ∷ [] else []) (not there || again)
not-again true true k e = refl
not-again true false k e = cc
not-again false again k e = refl

set-taken : (again : Bool) (a : Rule) (values : List Text) (rows : List Row) → Passes (failing.set_fault again a values rows) (passing.set_passes again a values rows)
set-taken again a values rows =
    in_turn (failing.repeat_fault again a.id rows) (failing.values_fault a values) (not (has_row a.id rows) || again) (passing.values_pass a values)
    (not-again (has_row a.id rows) again _) (values-taken a values)

action-taken : (x : ArgAction) (again : Bool) (a : Rule) (values : List Text) (rows : List Row) → Passes (failing.action_fault x again a values rows) (passing.action_passes x again a values rows)
action-taken Set again a values rows e = set-taken again a values rows e
action-taken SetTrue again a values rows e = set-taken again a values rows e
action-taken SetFalse again a values rows e = set-taken again a values rows e
action-taken Append again a values rows e = values-taken a values e
action-taken Count again a values rows e = count-taken a values rows e
action-taken Help again a values rows e = cc
action-taken HelpShort again a values rows e = cc
action-taken HelpLong again a values rows e = cc
action-taken Version again a values rows e = cc

-- ---- one use of an argument

-- n values are from `least` to `most`, where their number is no fault
module _ (least most n : ℕ) where
  in-range : (some same is few many : Bool) (a b c d : ErrorKind)
      → (if some then a ∷ [] else (if same then (if is then [] else b ∷ []) else (if few then c ∷ [] else (if many then d ∷ [] else [])))) ≡ []
      → (same ≡ true → least ≡ most) → (is ≡ true → least ≡ n) → (few ≡ false → least ≤ n) → (many ≡ false → n ≤ most)
      → (least ≤ n) × (n ≤ most)
  in-range true same is few many a b c d e h i j k = cc
  in-range false true true few many a b c d e h i j k =
      let ends : least ≡ most = h refl in
      let here : least ≡ n = i refl in (omega arith, omega arith)
  in-range false true false few many a b c d e h i j k = cc
  in-range false false is true many a b c d e h i j k = cc
  in-range false false is false true a b c d e h i j k = cc
  in-range false false is false false a b c d e h i j k = (j refl, k refl)

  range-taken : range_kinds least most n ≡ [] → (nat_le least n ≡ true) × (nat_le n most ≡ true)
  range-taken e =
      let within = in-range (nat_lt 0 least && n == 0) (least == most) (least == n) (nat_lt n least) (nat_lt most n) _ _ _ _ e
      (eqb-true least most) (eqb-true least n) (ltb-false n least) (ltb-false most n) in
      (le-leb least n within.0, le-leb n most within.1)

use-taken : (again : Bool) (a : Rule) (values : List Text) (rows : List Row) → Passes (failing.use_fault again a values rows) (passing.use_passes again a values rows)
use-taken again a values rows e =
    let range = range-taken (unwrap_or_range a.range).start_inclusive (most_values a) (length values) (first-empty _ _ e) in
    let acted = action-taken (action_of a) again a (values_or_missing a values) rows (next-empty _ _ e) in
    ap₂ (λ x y. x && y) range.0 (ap₂ (λ x y. x && y) range.1 acted)

-- ---- the walk

module _ (c : List Rule) (again : Bool) where
  settle-taken : (h : Held) → Passes (failing.settle_fault c again h) (passing.settle_passes c again h)
  settle-taken h = if-some _ _ (λ p. if-some _ _ (λ a. use-taken again a p.1 h.rows) (arg_by_id c p.0)) h.pending

  react-taken : (a : Rule) (values : List Text) (h : Held) → Passes (failing.react_fault c again a values h) (passing.react_passes c again a values h)
  react-taken a values h = in_turn _ _ _ _ (settle-taken h) (use-taken again a values (settled c h).rows)

  option-taken : (a : Rule) (v : Option Text) (h : Held) → Passes (failing.option_fault c again a v h) (passing.option_passes c again a v h)
  option-taken a None h e = settle-taken h e
  option-taken a (Some v) h e = react-taken a (v ∷ []) h e

  long-taken : (found : Option Rule) (v : Option Text) (h : Held) → Passes (failing.long_fault c again found v h) (passing.long_passes c again found v h)
  long-taken None v h e = cc
  long-taken (Some a) v h e =
      choice (takes_values a) _ _ _ _ (option-taken a v h) (not-if (is_some v) _ _ _ (react-taken a [] h)) e

  short-taken : (found : Option Rule) (rest : Text) (h : Held) (failed : Held → Kinds) (passed : Held → Bool) → ((k : Held) → Passes (failed k) (passed k))
      → Passes (failing.short_fault c again found rest h failed) (passing.short_passes c again found rest h passed)
  short-taken None rest h failed passed more e = cc
  short-taken (Some a) rest h failed passed more e =
      choice (takes_values a) _ _ _ _ (option-taken a (attached_value rest) h) (in_turn _ _ _ _ (react-taken a [] h) (more (reacted c a [] h))) e

  step-taken : (x : Option ℕ) (flags : Text) (skip : ℕ) (h : Held) (failed : Text → ℕ → Held → Kinds) (passed : Text → ℕ → Held → Bool)
      → ((t : Text) (i : ℕ) (k : Held) → Passes (failed t i k) (passed t i k))
      → Passes (failing.bundle_step_fault c again x flags skip h failed) (passing.bundle_step_passes c again x flags skip h passed)
  step-taken None flags skip h failed passed more e = refl
  step-taken (Some x) flags zero h failed passed more e =
      let rest = drop (length (encode_utf8 x)) flags in
      short-taken (arg_by_short c x) rest h (failed rest 0) (passed rest 0) (more rest 0) e
  step-taken (Some x) flags (suc skip) h failed passed more e = more (drop (length (encode_utf8 x)) flags) skip h e

  flags-taken : (k : ℕ) (flags : Text) (skip : ℕ) (h : Held) → Passes (flags_fault c again k flags skip h) (flags_pass c again k flags skip h)
  unfolding flags_fault flags_pass
  flags-taken zero flags skip h e = refl
  flags-taken (suc k) flags skip h e = step-taken (slice_get (chars flags) 0) flags skip h (flags_fault c again k) (flags_pass c again k) (flags-taken k) e

  flag-word-taken : (long : Option (Text × Option Text)) (word : Text) (h : Held) → Passes (failing.flag_word_fault c again long word h) (passing.flag_word_passes c again long word h)
  flag-word-taken (Some p) word h e = long-taken (arg_by_long c p.0) p.1 h e
  flag-word-taken None word h e = if-some _ _ (λ flags. flags-taken (length flags) flags h.skip (record h { skip = 0 })) (short_of word) e

module _ (s : Shape) (names : Names) where
  help-taken : (is hidden : Bool) (k l : ErrorKind) → Passes (if (is && not hidden) then k ∷ l ∷ [] else []) (not is || hidden)
  help-taken true true k l e = refl
  help-taken true false k l e = cc
  help-taken false hidden k l e = refl

  other-taken : (met : Option Text) (word : Text) (h : Held) → Passes (failing.other_fault s met word h) (passing.other_passes s met word h)
  other-taken (Some name) word h e = help-taken (bytes_eq name (codes "help")) s.disable_help_subcommand _ _ e
  other-taken None word h e =
      unless (bytes_eq word (45 ∷ 45 ∷ [])) _ _ (flag-word-taken s.rules s.args_override_self (long_of word) word h) e

  word-taken : (is_trailing : Bool) (waiting : Waiting) (word : Text) (h : Held) → Passes (failing.word_fault s names is_trailing waiting word h) (passing.word_passes s names is_trailing waiting word h)
  word-taken is_trailing waiting word h = unless is_trailing _ _ (other-taken (subcommand_met names waiting word) word h)

  positional-taken : (a : Rule) (h : Held) → Passes (failing.positional_fault s.rules s.args_override_self a h) (passing.positional_passes s.rules s.args_override_self a h)
  positional-taken a h = unless (is_pending a h.pending && takes_several a) _ _ (settle-taken s.rules s.args_override_self h)

  at-position : (leaf : Bool) (k l m : ErrorKind) (f : Rule → Kinds) (g : Rule → Bool) → ((a : Rule) → Passes (f a) (g a)) → (o : Option Rule)
      → Passes (option_map_or f o (if leaf then k ∷ [] else l ∷ m ∷ [])) (option_map_or g o false)
  at-position true k l m f g h None e = cc
  at-position false k l m f g h None e = cc
  at-position leaf k l m f g h (Some a) e = h a e

  taken-up : (position : ℕ) (h : Held) (step : Step) → Passes (failing.step_fault s position h step) (passing.step_passes s position h step)
  taken-up position h value e = at-position s.is_leaf _ _ _ _ _ (λ a. positional-taken a h) (arg_by_index s.rules position) e
  taken-up position h (next waiting) e = refl
  taken-up position h (trailing p) e = refl
  taken-up position h (subcommand name) e = refl

  turn-taken : (w : Walk) (word : Text) → Passes (failing.turn_fault s names w word) (passing.turn_passes s names w word)
  turn-taken w word =
      let met = word_met s.rules names w.is_trailing w.waiting w.position word w.held in
      unless (is_some w.stopped) _ _ (in_turn _ _ _ _ (word-taken w.is_trailing w.waiting word w.held) (taken-up w.position met.0 met.1))

  walk-taken : (w : Walk) (words : List Text) → Passes (walk_fault s names w words) (walk_passes s names w words)
  unfolding walk_fault walk_passes
  walk-taken w [] e = refl
  walk-taken w (word ∷ rest) e =
      ap₂ (λ x y. x && y) (turn-taken w word (first-empty _ _ e)) (walk-taken (walked s.rules names w word) rest (next-empty _ _ e))

-- ---- after the walk

checked : (help sub arg : Bool) → check_kinds help sub arg ≡ [] → (help ≡ false) × (sub ≡ false) × (arg ≡ false)
checked true sub arg e = cc
checked false true arg e = cc
checked false false true e = cc
checked false false false e = (refl, refl, refl)

none-missing : (f g : Rule → Bool) (rules : List Rule) → list_any (λ a. f a && not (g a)) rules ≡ false → list_all (λ a. not (f a) || g a) rules ≡ true
none-missing f g [] e = refl
none-missing f g (a ∷ rest) e = one (f a) (g a) _ _ (none-missing f g rest) e
  where
    one : (x y missing there : Bool) → (missing ≡ false → there ≡ true) → ((x && not y) || missing) ≡ false → ((not x || y) && there) ≡ true
    one true true missing there h e = h e
    one true false missing there h e = cc
    one false y missing there h e = h e

module _ (s : Shape) (rows : List Row) (free : list_all (λ a. a.is_free) s.rules ≡ true) where
  helped : (wanted given : Bool) → (wanted && not given) ≡ false → (not wanted || (false || given)) ≡ true
  helped true true e = refl
  helped true false e = cc
  helped false given e = refl

  entered : (wanted : Bool) → wanted ≡ false → (not wanted || false) ≡ true
  entered true e = cc
  entered false e = refl

  spared : (negates missing there : Bool) → (missing ≡ false → there ≡ true) → (not (negates && false) && missing) ≡ false → ((negates && false) || there) ≡ true
  spared true missing there h e = h e
  spared false missing there h e = h e

  valid : failing.check_fault s rows false ≡ [] → passing.is_valid s rows false ≡ true
  valid e =
      let none = checked _ _ _ e in
      ap₂ (λ x y. x && y) (helped s.arg_required_else_help _ none.0)
      (ap₂ (λ x y. x && y) (entered s.subcommand_required none.1)
      (ap₂ (λ x y. x && y) free (spared s.subcommand_negates_reqs _ _ (none-missing (λ a. a.required) (λ a. is_given a.id rows) s.rules) none.2)))

-- a command without subcommands, whose arguments have no rule on one another and defaults that pass,
-- takes the arguments where no step of the parse fails
pub takes-no-fault : (a : App) (words : List Text) → is_simple a ≡ true → (built a).subs ≡ []
    → list_all (λ r. r.is_free) (built a).top.rules ≡ true → list_all passing.default_passes (built a).top.rules ≡ true
    → fault_of a words ≡ [] → takes a words ≡ true
takes-no-fault a words simple leaf free defaults e =
    let s = (built a).top in
    let given = argument_words a words in
    let end = (walk s.rules [] nothing_held given).held in
    let level : failing.level_fault s [] nothing_held given false [] ≡ [] = sym (leaf_fault (built a) nothing_held given leaf) ∙ e in
    let walking = first-empty _ _ level in
    let after = next-empty _ _ level in
    let settling = first-empty _ _ after in
    let checking = next-empty _ _ (next-empty _ _ after) in
    ap₂ (λ x y. x && y) simple
    (leaf_takes (built a) nothing_held given leaf
    (ap₂ (λ x y. x && y) (walk-taken s [] (walk_from nothing_held) given walking)
    (ap₂ (λ x y. x && y) (settle-taken s.rules s.args_override_self end settling)
    (ap₂ (λ x y. x && y) defaults (valid s (finished s.rules end) free checking)))))
