-- Parts one behind another, each behind a sign or a word.
use Rattle.std.proofs.Common.{◌≡◌, ℕ, ◌+◌, ◌<◌, arith, ℤ, List, [], ◌∷◌, ◌++◌, length, refl, sym, ◌∙◌, ap, Option, Some, None, Result, Ok, Err, true, false}
use Rattle.nest_lang.specs.declared.tree.Place.TheVariants as place
use Rattle.nest_tokens.specs.declared.token.Mark.{Mark}
use Rattle.nest_tokens.specs.declared.token.Mark.TheVariants as mark
use Rattle.nest_tokens.specs.declared.token.Token.{Token}
use Rattle.nest_tokens.specs.Tokens.{is_mark}
use Rattle.nest_grammar.specs.declared.fault.TextFault.{TextFault}
use Rattle.nest_grammar.specs.declared.file.Scalar.{Scalar}
use Rattle.nest_grammar.specs.declared.file.Item.{Item}
use Rattle.nest_grammar.specs.declared.file.NestUnit.{NestUnit}
use Rattle.nest_grammar.specs.declared.opening.LoopKeyword.{LoopKeyword}
use Rattle.nest_grammar.specs.declared.opening.LoopKeyword.TheVariants as word
use Rattle.nest_grammar.specs.declared.opening.ItemKeyword.{ItemKeyword}
use Rattle.nest_grammar.specs.Sights.{Sight, stands, skip}
use Rattle.nest_grammar.specs.Readings.{Reading, at_mark, many, always}
use Rattle.nest_grammar.specs.Names.{Names, declared, scalars_from, names_of}
use Rattle.nest_grammar.specs.Loops.{loop_keyword}
use Rattle.nest_grammar.specs.Scripts.{Script, command, next_command, candidate}
use Rattle.nest_grammar.specs.Contents.{scalar, item_keyword, item, item_of, data_value, next_value, next_unit}
use Rattle.nest_grammar.proofs.PartAfterPartLaws.{many-stop}
use Rattle.nest_grammar.proofs.ChainLaws.{scalar-goes, scalar-fails, scalar-shorter, item-goes, item-fails, item-shorter, value-goes, value-fails, value-shorter, row-goes, row-fails, row-shorter, command-goes, command-fails, command-shorter, candidate-goes, candidate-fails, candidate-shorter, unit-goes, unit-fails, unit-shorter}

at-yes : (m : Mark) (s : Sight) → is_mark m (stands s) ≡ true → at_mark m (stands s) ≡ Some tt
at-yes m s h = rw h refl

at-no : (m : Mark) (s : Sight) → is_mark m (stands s) ≡ false → at_mark m (stands s) ≡ None
at-no m s h = rw h refl

-- no part stands here
pub marked-ends : {A : Type 0} (m : Mark) (part : Unit {0} → A → Reading A) (a : A) (s : Sight) (whole : Result (A × Sight) TextFault) → is_mark m (stands s) ≡ false → many (at_mark m) part a s ≡ whole → whole ≡ Ok (a, s)
marked-ends m part a s whole h w = sym w ∙ many-stop (at_mark m) part a s (at-no m s h)

pub worded-ends : {A B : Type 0} (begins : Token → Option B) (part : B → A → Reading A) (a : A) (s : Sight) (whole : Result (A × Sight) TextFault) → begins (stands s) ≡ None → many begins part a s ≡ whole → whole ≡ Ok (a, s)
worded-ends begins part a s whole h w = sym w ∙ many-stop begins part a s h

-- Scalars

pub scalars-next : (cs ds : List Scalar) (s t : Sight) (whole : Result (List Scalar × Sight) TextFault) → is_mark mark.Scalar (stands s) ≡ true → scalar cs s ≡ Ok (ds, t) → many (at_mark mark.Scalar) (always scalar) cs s ≡ whole → many (at_mark mark.Scalar) (always scalar) ds t ≡ whole
scalars-next cs ds s t whole e h w = scalar-goes cs ds s t tt whole (at-yes mark.Scalar s e) h w

pub scalars-fail : (cs : List Scalar) (s : Sight) (f : TextFault) (whole : Result (List Scalar × Sight) TextFault) → is_mark mark.Scalar (stands s) ≡ true → scalar cs s ≡ Err f → many (at_mark mark.Scalar) (always scalar) cs s ≡ whole → whole ≡ Err f
scalars-fail cs s f whole e h w = scalar-fails cs s tt f whole (at-yes mark.Scalar s e) h w

pub scalars-shorter : (cs ds : List Scalar) (s t : Sight) → is_mark mark.Scalar (stands s) ≡ true → scalar cs s ≡ Ok (ds, t) → length t.left < length s.left
scalars-shorter cs ds s t e h = scalar-shorter cs ds s t tt (at-yes mark.Scalar s e) h

scalars_from-more : (k : ℕ) (cs : List Scalar) (c : Scalar) → scalars_from k (cs ++ c ∷ []) ≡ scalars_from k cs ++ declared c.name (place.Scalar (k + length cs)) ∷ []
scalars_from-more k [] c = ap (λ (n : ℕ). declared c.name (place.Scalar n) ∷ []) (omega arith)
scalars_from-more k (d ∷ ds) c = ap (λ (l : Names). declared d.name (place.Scalar k) ∷ l) (scalars_from-more (k + 1) ds c ∙ ap (λ (n : ℕ). scalars_from (k + 1) ds ++ declared c.name (place.Scalar n) ∷ []) (omega arith))

-- the names of one scalar more
pub names_of-more : (cs : List Scalar) (c : Scalar) → names_of (cs ++ c ∷ []) ≡ names_of cs ++ declared c.name (place.Scalar (length cs)) ∷ []
names_of-more cs c = scalars_from-more 0 cs c ∙ ap (λ (n : ℕ). scalars_from 0 cs ++ declared c.name (place.Scalar n) ∷ []) (omega arith)

pub ruleset scalar_loop = (scalars-next, scalars-fail, scalars-shorter, marked-ends, names_of-more)

-- Values of data

pub values-next : (words address : ℕ) (vs : List ℤ) (v : ℤ) (s t u : Sight) (whole : Result (List ℤ × Sight) TextFault) → is_mark mark.Comma (stands s) ≡ true → t ≡ skip s → data_value words (address + length vs) t ≡ Ok (v, u) → many (at_mark mark.Comma) (always (next_value words address)) vs s ≡ whole → many (at_mark mark.Comma) (always (next_value words address)) (vs ++ v ∷ []) u ≡ whole
values-next words address vs v s t u whole e q h w = value-goes words address vs (vs ++ v ∷ []) s u tt whole (at-yes mark.Comma s e) (rw (← q, h) refl) w

pub values-fail : (words address : ℕ) (vs : List ℤ) (s t : Sight) (f : TextFault) (whole : Result (List ℤ × Sight) TextFault) → is_mark mark.Comma (stands s) ≡ true → t ≡ skip s → data_value words (address + length vs) t ≡ Err f → many (at_mark mark.Comma) (always (next_value words address)) vs s ≡ whole → whole ≡ Err f
values-fail words address vs s t f whole e q h w = value-fails words address vs s tt f whole (at-yes mark.Comma s e) (rw (← q, h) refl) w

pub values-shorter : (words address : ℕ) (vs : List ℤ) (v : ℤ) (s t u : Sight) → is_mark mark.Comma (stands s) ≡ true → t ≡ skip s → data_value words (address + length vs) t ≡ Ok (v, u) → length u.left < length s.left
values-shorter words address vs v s t u e q h = value-shorter words address vs (vs ++ v ∷ []) s u tt (at-yes mark.Comma s e) (rw (← q, h) refl)

pub ruleset value_loop = (values-next, values-fail, values-shorter, marked-ends)

-- Items

pub items-next : (words : ℕ) (is : List Item) (i : Item) (s t : Sight) (w : ItemKeyword) (whole : Result (List Item × Sight) TextFault) → item_keyword (stands s) ≡ Some w → item_of words w (skip s) ≡ Ok (i, t) → many item_keyword (item words) is s ≡ whole → many item_keyword (item words) (is ++ i ∷ []) t ≡ whole
items-next words is i s t w whole e h k = item-goes words is (is ++ i ∷ []) s t w whole e (rw h refl) k

pub items-fail : (words : ℕ) (is : List Item) (s : Sight) (w : ItemKeyword) (f : TextFault) (whole : Result (List Item × Sight) TextFault) → item_keyword (stands s) ≡ Some w → item_of words w (skip s) ≡ Err f → many item_keyword (item words) is s ≡ whole → whole ≡ Err f
items-fail words is s w f whole e h k = item-fails words is s w f whole e (rw h refl) k

pub items-shorter : (words : ℕ) (i : Item) (s t : Sight) (w : ItemKeyword) → item_keyword (stands s) ≡ Some w → item_of words w (skip s) ≡ Ok (i, t) → length t.left < length s.left
items-shorter words i s t w e h = item-shorter words [] (i ∷ []) s t w e (rw h refl)

pub ruleset item_loop = (items-next, items-fail, items-shorter, worded-ends)

-- Rows

pub ruleset row_loop = (row-goes, row-fails, row-shorter, worded-ends)

-- Commands

pub commands-next : (depth : ℕ) (cs ds : Script) (s t u : Sight) (whole : Result (Script × Sight) TextFault) → is_mark mark.Semicolon (stands s) ≡ true → t ≡ skip s → command depth cs t ≡ Ok (ds, u) → many (at_mark mark.Semicolon) (always (next_command depth)) cs s ≡ whole → many (at_mark mark.Semicolon) (always (next_command depth)) ds u ≡ whole
commands-next depth cs ds s t u whole e q h w = command-goes depth cs ds s u tt whole (at-yes mark.Semicolon s e) (ap (command depth cs) (sym q) ∙ h) w

pub commands-fail : (depth : ℕ) (cs : Script) (s t : Sight) (f : TextFault) (whole : Result (Script × Sight) TextFault) → is_mark mark.Semicolon (stands s) ≡ true → t ≡ skip s → command depth cs t ≡ Err f → many (at_mark mark.Semicolon) (always (next_command depth)) cs s ≡ whole → whole ≡ Err f
commands-fail depth cs s t f whole e q h w = command-fails depth cs s tt f whole (at-yes mark.Semicolon s e) (ap (command depth cs) (sym q) ∙ h) w

pub commands-shorter : (depth : ℕ) (cs ds : Script) (s t u : Sight) → is_mark mark.Semicolon (stands s) ≡ true → t ≡ skip s → command depth cs t ≡ Ok (ds, u) → length u.left < length s.left
commands-shorter depth cs ds s t u e q h = command-shorter depth cs ds s u tt (at-yes mark.Semicolon s e) (ap (command depth cs) (sym q) ∙ h)

pub ruleset command_loop = (commands-next, commands-fail, commands-shorter, marked-ends)

-- Candidates

pub candidates-next : (depth : ℕ) (cs ds : List Script) (s t : Sight) (whole : Result (List Script × Sight) TextFault) → is_mark mark.Candidate (stands s) ≡ true → candidate depth cs s ≡ Ok (ds, t) → many (at_mark mark.Candidate) (always (candidate depth)) cs s ≡ whole → many (at_mark mark.Candidate) (always (candidate depth)) ds t ≡ whole
candidates-next depth cs ds s t whole e h w = candidate-goes depth cs ds s t tt whole (at-yes mark.Candidate s e) h w

pub candidates-fail : (depth : ℕ) (cs : List Script) (s : Sight) (f : TextFault) (whole : Result (List Script × Sight) TextFault) → is_mark mark.Candidate (stands s) ≡ true → candidate depth cs s ≡ Err f → many (at_mark mark.Candidate) (always (candidate depth)) cs s ≡ whole → whole ≡ Err f
candidates-fail depth cs s f whole e h w = candidate-fails depth cs s tt f whole (at-yes mark.Candidate s e) h w

pub candidates-shorter : (depth : ℕ) (cs ds : List Script) (s t : Sight) → is_mark mark.Candidate (stands s) ≡ true → candidate depth cs s ≡ Ok (ds, t) → length t.left < length s.left
candidates-shorter depth cs ds s t e h = candidate-shorter depth cs ds s t tt (at-yes mark.Candidate s e) h

pub ruleset candidate_loop = (candidates-next, candidates-fail, candidates-shorter, marked-ends)

-- Nests

pub units-next : (names : Names) (us vs : List NestUnit) (s t : Sight) (w : LoopKeyword) (whole : Result (List NestUnit × Sight) TextFault) → loop_keyword (stands s) ≡ Some w → next_unit names word.For us s ≡ Ok (vs, t) → many loop_keyword (next_unit names) us s ≡ whole → many loop_keyword (next_unit names) vs t ≡ whole
units-next names us vs s t w whole e h k = unit-goes names us vs s t w whole e h k

pub units-fail : (names : Names) (us : List NestUnit) (s : Sight) (w : LoopKeyword) (f : TextFault) (whole : Result (List NestUnit × Sight) TextFault) → loop_keyword (stands s) ≡ Some w → next_unit names word.For us s ≡ Err f → many loop_keyword (next_unit names) us s ≡ whole → whole ≡ Err f
units-fail names us s w f whole e h k = unit-fails names us s w f whole e h k

pub units-shorter : (names : Names) (us vs : List NestUnit) (s t : Sight) (w : LoopKeyword) → loop_keyword (stands s) ≡ Some w → next_unit names word.For us s ≡ Ok (vs, t) → length t.left < length s.left
units-shorter names us vs s t w e h = unit-shorter names us vs s t w e h

pub ruleset unit_loop = (units-next, units-fail, units-shorter, worded-ends)
