-- Scripts: the same of candidates, and of whole files.
use Rattle.std.proofs.Common.{◌≡◌, ℕ, ◌+◌, List, [], ◌∷◌, ◌++◌, length, refl, sym, ◌∙◌, Option, Some, None, Result, Ok, Err, Bool, true, false, subst, nat_lt, ℤ, pos, if◌then◌else◌, codes}
use Rattle.std.specs.Prelude.{nat_le, ◌==◌, not, ◌&&◌}
use Rattle.std.proofs.lemmas.Bool.{eqb-true}
use Rattle.nest_lang.specs.declared.command.Command.TheVariants.{Seq, Swap, Skew, Tile, Par, Wave}
use Rattle.nest_tokens.specs.declared.token.Mark.{Mark}
use Rattle.nest_tokens.specs.declared.token.Mark.TheVariants as mark
use Rattle.nest_tokens.specs.declared.token.Token.{Token}
use Rattle.nest_tokens.specs.declared.token.Token.TheVariants as token
use Rattle.nest_tokens.specs.Tokens.{is_mark}
use Rattle.nest_tokens.specs.Lexing.{name_of}
use Rattle.nest_tokens.proofs.MarkLaws.{is_mark-true}
use Rattle.nest_grammar.specs.declared.fault.TextFault.{TextFault}
use Rattle.nest_grammar.specs.declared.fault.TextKind.TheVariants as kind
use Rattle.nest_grammar.specs.declared.version.Version.{Version}
use Rattle.nest_grammar.specs.declared.version.Version.TheVariants.{One, Two as Several}
use Rattle.nest_grammar.specs.declared.file.Scalar.{Scalar as FileScalar}
use Rattle.nest_grammar.specs.declared.file.Item.{Item as FileItem}
use Rattle.nest_grammar.specs.declared.file.Item.TheVariants.{Data, Ramp}
use Rattle.nest_grammar.specs.declared.file.NestUnit.{NestUnit}
use Rattle.nest_grammar.specs.declared.file.File.{File as NestFile}
use Rattle.nest_grammar.specs.declared.opening.LoopKeyword.{LoopKeyword}
use Rattle.nest_grammar.specs.declared.opening.ItemKeyword.{ItemKeyword}
use Rattle.nest_grammar.specs.declared.opening.ItemKeyword.TheVariants as thing
use Rattle.nest_grammar.specs.declared.script.CommandWord.{CommandWord}
use Rattle.nest_grammar.specs.declared.script.CommandWord.TheVariants as order
use Rattle.nest_grammar.specs.Limits.{most_words, most_scalars, most_nests, most_depth, most_candidates, most_commands, most_rows}
use Rattle.nest_grammar.specs.Sights.{Sight, stands, Sees, skip, of_version}
use Rattle.nest_grammar.specs.Readings.{Reading, after, ◌>>=◌, gives, refused, wrong, need, obeys, signed, at_mark, many, end_at, end, always}
use Rattle.nest_grammar.specs.Names.{Names, names_of}
use Rattle.nest_grammar.specs.Loops.{loop_keyword}
use Rattle.nest_grammar.specs.Scripts.{Script, word_spelling, word_of_name, command_word, may_follow, ruled, is_row, is_factor, is_size, marked, row_begins, next_row, rows, operands, command_at, command, next_command, script_at, script, candidate, candidates}
use Rattle.nest_grammar.specs.Contents.{set_version, version_at, version, scalar, scalars, memory, item_keyword, value_begins, data_value, next_value, data_values, ramp_fits, item_of, item, items, outermost, unit, next_unit, units, contents}
use Rattle.nest_grammar.specs.Phrases.{File, Unit as AUnit, Scalar, Item, Loop, Signed, Candidate, Command, Form, Nothing, Sign, Numeral, Number, Verb, Many, The, ◌·◌, ◌∣◌, maybe, rule, Allows, nothing, sign, numeral, number, verb, both, one, other, the}
use Rattle.nest_grammar.specs.Kinds.{begins_number, is_counted, is_name, is_number, is_of_script}
use Rattle.nest_grammar.proofs.SentenceLaws.{Word, Starts, word-then, starts-then, word-many, word-maybe, word-sign, word-number, starts-sign, starts-number, regroup, At, Of, at-as, at-then, of-then, of-gives, at-last, Real, at-skipped, of-wrong, by-token, by-test, at-obeys, of-need, of-many, Judged, at-judged, passed-one}
use Rattle.nest_grammar.proofs.ViableLaws.{word-loop, word-name, word-signed, plain-real, of-number_where, of-signed_where, of-fresh}
use Rattle.nest_grammar.proofs.BodyLaws.{both-left, of-loops, starts-loop, loop-counted}

-- Commands

-- what stands behind a command's word
abbrev Operands : CommandWord → Form
Operands order.Seq = Number
Operands order.Swap = Number · Number
Operands order.Skew = Number · Number · The Signed
Operands order.Tile = Number · Number
Operands order.Par = Number · Many Number
Operands order.Wave = Number · Many Number

word-operands : (w : CommandWord) → Word (Operands w)
word-operands order.Seq = word-number
word-operands order.Swap = word-then word-number word-number
word-operands order.Skew = word-then word-number (word-then word-number word-signed)
word-operands order.Tile = word-then word-number word-number
word-operands order.Par = word-then word-number word-many
word-operands order.Wave = word-then word-number word-many

command-is : (w : CommandWord) (ts : List Token) → Allows (Verb w · Operands w) ts → Allows (The Command) ts
command-is order.Seq ts v = the (one v)
command-is order.Swap ts v = the (other (one v))
command-is order.Skew ts v = the (other (other (one v)))
command-is order.Tile ts v = the (other (other (other (one v))))
command-is order.Par ts v = the (other (other (other (other (one v)))))
command-is order.Wave ts v = the (other (other (other (other (other v)))))

word-command : Word (The Command)
unfolding command_word word_of_name word_spelling
word-command =
    let t : Token = token.Name (name_of (codes "seq")) in
    let q : command_word t ≡ Some order.Seq = refl in
    (t ∷ token.Number 0 ∷ [], the (one (both (verb q) number)))

of-ruled : (rule : ℕ → Bool) → Of Number (ruled rule)
of-ruled rule = of-number_where rule kind.Script (λ n. refl)

number-real : (n : ℕ) → Real (token.Number n)
number-real n k = cc

at-next_row : (depth : ℕ) (u : Unit {0}) (ns : List ℕ) (s : Sight) (t : Token) → stands s ≡ t → row_begins t ≡ Some u → At Number (next_row depth ns) s
unfolding row_begins
at-next_row depth u ns s (token.Number n) h k = at-obeys _ (nat_lt (length ns) most_rows) kind.Script (token.Number n) h (number-real n) starts-number refl (at-last (of-ruled (is_row depth) s) (λ m. of-gives (ns ++ m ∷ [])))
at-next_row depth u ns s _ h k = absurd (cc)

of-rows : (depth : ℕ) → Of (Number · Many Number) (rows depth)
unfolding rows
of-rows depth s = of-then (of-ruled (is_row depth) s) word-many (λ n. of-many row_begins (always (next_row depth)) (λ u ns t k. at-next_row depth u ns t (stands t) refl k) (n ∷ []))

of-operands : (depth : ℕ) (w : CommandWord) → Of (Operands w) (operands depth w)
unfolding operands
of-operands depth order.Seq s = at-last (of-ruled (λ n. nat_le n depth) s) (λ n. of-gives (Seq n))
of-operands depth order.Swap s = of-then (of-ruled (is_row depth) s) word-number (λ a t. at-last (of-ruled (λ n. is_row depth n && not (n == a)) t) (λ b. of-gives (Swap a b)))
of-operands depth order.Skew s = of-then (of-ruled (is_row depth) s) (word-then word-number word-signed) (λ a t. of-then (of-ruled (λ n. is_row depth n && not (n == a)) t) word-signed (λ b u. at-last (of-signed_where is_factor kind.Script (λ n. refl) u) (λ m. of-gives (Skew a b m))))
of-operands depth order.Tile s = of-then (of-ruled (is_row depth) s) word-number (λ a t. at-last (of-ruled is_size t) (λ n. of-gives (Tile a (pos n))))
of-operands depth order.Par s = at-last (of-rows depth s) (λ ns. of-gives (Par (marked ns)))
of-operands depth order.Wave s = at-last (of-rows depth s) (λ ns. of-gives (Wave (marked ns)))

verb-real : (t : Token) (w : CommandWord) → command_word t ≡ Some w → Real t
unfolding command_word
verb-real t w h k = cc

verb-name : (t : Token) (w : CommandWord) → command_word t ≡ Some w → is_name t ≡ true
unfolding command_word
verb-name (token.Name n) w k = refl
verb-name _ w k = absurd (cc)

verb-counted : (t : Token) (w : CommandWord) → command_word t ≡ Some w → is_counted t ≡ true
verb-counted (token.Name n) w k = rw k refl
verb-counted (token.Plain m) w k = absurd (let e : false ≡ true = verb-name (token.Plain m) w k in cc)
verb-counted (token.Number n) w k = absurd (let e : false ≡ true = verb-name (token.Number n) w k in cc)
verb-counted (token.Bad b) w k = absurd (let e : false ≡ true = verb-name (token.Bad b) w k in cc)
verb-counted token.End w k = absurd (let e : false ≡ true = verb-name token.End w k in cc)

verb-of-script : (t : Token) (w : CommandWord) → command_word t ≡ Some w → is_of_script t ≡ true
verb-of-script (token.Name n) w k = rw k refl
verb-of-script (token.Number n) w k = refl
verb-of-script (token.Plain m) w k = absurd (let e : false ≡ true = verb-name (token.Plain m) w k in cc)
verb-of-script (token.Bad b) w k = absurd (let e : false ≡ true = verb-name (token.Bad b) w k in cc)
verb-of-script token.End w k = absurd (let e : false ≡ true = verb-name token.End w k in cc)

at-command_at : (depth : ℕ) (cs : Script) (s : Sight) (t : Token) → stands s ≡ t → (o : Option CommandWord) → command_word t ≡ o → At (The Command) (command_at depth cs o) s
at-command_at depth cs s t h (Some w) k =
    let real : Real t = verb-real t w k in
    let starts : Starts (Verb w · Operands w) t = starts-then ([], verb k) (word-operands w) in
    at-as (command-is w) (at-obeys _ (nat_lt (length cs) most_commands) kind.Many t h real starts (verb-counted t w k) (at-obeys _ (may_follow w cs) kind.Script t h real starts (verb-of-script t w k) (of-then (at-skipped t h real (verb k)) (word-operands w) (λ _. of-operands depth w))))
at-command_at depth cs s t h None k = of-wrong word-command s

of-command : (depth : ℕ) (cs : Script) → Of (The Command) (command depth cs)
unfolding command
of-command depth cs s = at-last (by-token (λ t. command_at depth cs (command_word t)) (λ t h. at-command_at depth cs s t h (command_word t) refl)) (λ c. of-gives (cs ++ c ∷ []))

-- parts that begin with a sign

at_mark-is : (m : Mark) (t : Token) (u : Unit {0}) (b : Bool) → is_mark m t ≡ b → at_mark m t ≡ Some u → t ≡ token.Plain m
at_mark-is m t u true h k = is_mark-true m t h
at_mark-is m t u false h k = absurd (let q : at_mark m t ≡ None = rw h refl in cc)

of-at_mark : {A : Type 0} {e : Form} (m : Mark) (part : Unit {0} → A → Reading A) → ((u : Unit {0}) (a : A) (s : Sight) → Sees m s → At e (part u a) s) → (a : A) → Of (Many e) (many (at_mark m) part a)
of-at_mark m part h a = of-many (at_mark m) part (λ u b s k. h u b s (at_mark-is m (stands s) u (is_mark m (stands s)) refl k)) a

at-next_command : (depth : ℕ) (u : Unit {0}) (cs : Script) (s : Sight) → Sees mark.Semicolon s → At (Sign mark.Semicolon · The Command) (next_command depth cs) s
at-next_command depth u cs s h = of-then (at-skipped (token.Plain mark.Semicolon) h (plain-real mark.Semicolon) sign) word-command (λ _. of-command depth cs)

abbrev Commands : Form
Commands = The Command · Many (Sign mark.Semicolon · The Command)

at-script_at : (depth : ℕ) (s : Sight) (b : Bool) → (b ≡ true → Sees mark.CloseBrace s) → At (maybe Commands · Sign mark.CloseBrace) (script_at depth b) s
at-script_at depth s true h = at-as (λ ts v. both (other nothing) v) (at-last (at-skipped (token.Plain mark.CloseBrace) (h refl) (plain-real mark.CloseBrace) sign) (λ _. of-gives []))
at-script_at depth s false h = at-as (λ ts v. both-left (λ xs w. one w) ts v) (of-then (of-then (of-command depth [] s) word-many (λ cs. of-at_mark mark.Semicolon (always (next_command depth)) (at-next_command depth) cs)) word-sign (λ cs t. at-last (of-need mark.CloseBrace t) (λ _. of-gives cs)))

of-script : (depth : ℕ) → Of (Sign mark.OpenBrace · maybe Commands · Sign mark.CloseBrace) (script depth)
unfolding script
of-script depth s = of-then (of-need mark.OpenBrace s) (word-then word-maybe word-sign) (λ _ t. by-token (λ x. script_at depth (is_mark mark.CloseBrace x)) (λ x h. at-script_at depth t (is_mark mark.CloseBrace x) (λ q. h ∙ is_mark-true mark.CloseBrace x q)))

word-script : Word (Sign mark.OpenBrace · maybe Commands · Sign mark.CloseBrace)
word-script = word-then word-sign (word-then word-maybe word-sign)

at-candidate : (depth : ℕ) (u : Unit {0}) (scripts : List Script) (s : Sight) → Sees mark.Candidate s → At (The Candidate) (candidate depth scripts) s
at-candidate depth u scripts s h = at-as (λ ts v. the v) (at-obeys _ (nat_lt (length scripts) most_candidates) kind.Many (token.Plain mark.Candidate) h (plain-real mark.Candidate) (starts-then starts-sign word-script) refl
    (of-then (at-skipped (token.Plain mark.Candidate) h (plain-real mark.Candidate) sign) word-script (λ _ t. at-last (of-script depth t) (λ cs. of-gives (scripts ++ cs ∷ [])))))

of-candidates : (depth : ℕ) → Of (Many (The Candidate)) (candidates depth)
unfolding candidates
of-candidates depth = of-at_mark mark.Candidate (always (candidate depth)) (at-candidate depth) []

-- Scalars and items

at-scalar : (u : Unit {0}) (cs : List FileScalar) (s : Sight) → Sees mark.Scalar s → At (The Scalar) (scalar cs) s
at-scalar u cs s h = at-as (λ ts v. the v) (at-obeys _ (nat_lt (length cs) most_scalars) kind.Many (token.Plain mark.Scalar) h (plain-real mark.Scalar) (starts-then starts-sign (word-then word-name (word-then word-sign word-signed))) refl
    (of-then (at-skipped (token.Plain mark.Scalar) h (plain-real mark.Scalar) sign) (word-then word-name (word-then word-sign word-signed)) (λ _ t. of-then (of-fresh (names_of cs) t) (word-then word-sign word-signed) (λ n x. of-then (of-need mark.Assign x) word-signed (λ _ y. at-last (of-signed_where (λ v. true) kind.Range (λ n. refl) y) (λ v. of-gives (cs ++ record { name = n; value = v } ∷ [])))))))

of-scalars : Of (Many (The Scalar)) scalars
unfolding scalars
of-scalars = of-at_mark mark.Scalar (always scalar) at-scalar []

of-memory : Of (Sign mark.Memory · Number) memory
unfolding memory
of-memory s = of-then (of-need mark.Memory s) word-number (λ _. of-number_where (λ n. nat_le n most_words) kind.Range (λ n. refl))

starts-value : (t : Token) → value_begins t ≡ true → Real t × Starts (The Signed) t × (begins_number t ≡ true)
starts-value (token.Number n) h = (number-real n, ([], the (both (other nothing) number)), refl)
starts-value (token.Plain mark.Minus) h = (plain-real mark.Minus, (token.Number 0 ∷ [], the (both (one sign) number)), refl)
starts-value _ h = absurd (cc)

of-data_value : (words address : ℕ) → Of (The Signed) (data_value words address)
unfolding data_value
of-data_value words address s = by-token (λ t s. if value_begins t then (obeys (nat_lt address words) kind.Range >>= λ _. signed) s else wrong s) (λ t h. by-test (value_begins t) (obeys (nat_lt address words) kind.Range >>= λ _. signed) wrong
    (λ q. (let v = starts-value t q in at-obeys (λ _. signed) (nat_lt address words) kind.Range t h v.0 v.1 v.2 (of-signed_where (λ v. true) kind.Range (λ n. refl) s)))
    (λ q. of-wrong word-signed s))

at-next_value : (words address : ℕ) (u : Unit {0}) (vs : List ℤ) (s : Sight) → Sees mark.Comma s → At (Sign mark.Comma · The Signed) (next_value words address vs) s
at-next_value words address u vs s h = of-then (at-skipped (token.Plain mark.Comma) h (plain-real mark.Comma) sign) word-signed (λ _ t. at-last (of-data_value words (address + length vs) t) (λ v. of-gives (vs ++ v ∷ [])))

of-data_values : (words address : ℕ) → Of (The Signed · Many (Sign mark.Comma · The Signed)) (data_values words address)
unfolding data_values
of-data_values words address s = of-then (of-data_value words address s) word-many (λ v. of-at_mark mark.Comma (always (next_value words address)) (at-next_value words address) (v ∷ []))

abbrev Given : ItemKeyword → Form
Given thing.Data = Number · Sign mark.Colon · The Signed · Many (Sign mark.Comma · The Signed)
Given thing.Ramp = Number · Number · Number · The Signed · The Signed

word-given : (w : ItemKeyword) → Word (Given w)
word-given thing.Data = word-then word-number (word-then word-sign (word-then word-signed word-many))
word-given thing.Ramp = word-then word-number (word-then word-number (word-then word-number (word-then word-signed word-signed)))

of-item_of : (words : ℕ) (w : ItemKeyword) → Of (Given w) (item_of words w)
unfolding item_of
of-item_of words thing.Data s = of-then (of-number_where (λ n. true) kind.Range (λ n. refl) s) (word-then word-sign (word-then word-signed word-many)) (λ first t. of-then (of-need mark.Colon t) (word-then word-signed word-many) (λ _ x. at-last (of-data_values words first x) (λ vs. of-gives (Data first vs))))
of-item_of words thing.Ramp s = of-then (of-number_where (λ n. true) kind.Range (λ n. refl) s) (word-then word-number (word-then word-number (word-then word-signed word-signed))) (λ first t. of-then (of-number_where (λ n. true) kind.Range (λ n. refl) t) (word-then word-number (word-then word-signed word-signed)) (λ count x. of-then (of-number_where (λ n. not (n == 0)) kind.Range (λ n. refl) x) (word-then word-signed word-signed) (λ stride y. of-then (of-signed_where (λ v. true) kind.Range (λ n. refl) y) word-signed (λ start z. at-last (of-signed_where (ramp_fits words first count stride start) kind.Range (λ n. refl) z) (λ growth. of-gives (Ramp first count stride start growth))))))

at-item : (words : ℕ) (is : List FileItem) (s : Sight) (t : Token) → stands s ≡ t → (w : ItemKeyword) → item_keyword t ≡ Some w → At (The Item) (item words w is) s
unfolding item_keyword
at-item words is s (token.Plain mark.Data) h thing.Data k = at-as (λ ts v. the (one v)) (of-then (at-skipped (token.Plain mark.Data) h (plain-real mark.Data) sign) (word-given thing.Data) (λ _ t. at-last (of-item_of words thing.Data t) (λ i. of-gives (is ++ i ∷ []))))
at-item words is s (token.Plain mark.Ramp) h thing.Ramp k = at-as (λ ts v. the (other v)) (of-then (at-skipped (token.Plain mark.Ramp) h (plain-real mark.Ramp) sign) (word-given thing.Ramp) (λ _ t. at-last (of-item_of words thing.Ramp t) (λ i. of-gives (is ++ i ∷ []))))
at-item words is s _ h w k = absurd (cc)

of-items : (words : ℕ) → Of (Many (The Item)) (items words)
unfolding items
of-items words = of-many item_keyword (item words) (λ w is s k. at-item words is s (stands s) refl w k) []

-- Nests

of-outermost : (names : Names) → Of (The Loop) (outermost names)
of-outermost names s = record { is = (of-loops (most_depth s.version) 0 names s).is }

of-unit : (names : Names) → Of (The Loop · Many (The Candidate)) (unit names)
unfolding unit
of-unit names s = of-then (of-outermost names s) word-many (λ ls t. at-last (of-candidates (length ls.0) t) (λ scripts. of-gives (record { nest = record { loops = ls.0 }; names = ls.1; scripts = scripts })))

at-next_unit : (names : Names) (w : LoopKeyword) (us : List NestUnit) (s : Sight) → loop_keyword (stands s) ≡ Some w → At (The AUnit) (next_unit names w us) s
at-next_unit names w us s k = (let v = starts-loop (stands s) w k in at-as (λ ts x. the x) (at-obeys _ (nat_lt (length us) most_nests) kind.Many (stands s) refl v.0 (starts-then v.1 word-many) (loop-counted (stands s) w k)
    (at-last (of-unit names s) (λ n. of-gives (us ++ n ∷ [])))))

abbrev Nests : Version → Form
Nests One = The Loop · Many (The Candidate)
Nests Several = The AUnit · Many (The AUnit)

word-unit : Word (The AUnit)
word-unit = let w = word-then word-loop word-many in (w.0, the w.1)

word-rest : (v : Version) → Word (Nests v)
word-rest One = word-then word-loop word-many
word-rest Several = word-then word-unit word-many

of-units : (v : Version) (names : Names) → Of (Nests v) (units v names)
unfolding units
of-units One names s = at-last (of-unit names s) (λ n. of-gives (n ∷ []))
of-units Several names s = of-then (at-as (λ ts x. the x) (of-unit names s)) word-many (λ n. of-many loop_keyword (next_unit names) (λ w us t k. at-next_unit names w us t k) (n ∷ []))

-- Whole files

at-end_at : (s : Sight) (t : Token) → At Nothing (end_at t) s
at-end_at s token.End = of-gives tt s
at-end_at s _ = of-wrong ([], nothing) s

of-end : Of Nothing end
unfolding end
of-end s = by-token end_at (λ t h. at-end_at s t)

abbrev Behind : Version → Form
Behind v = Many (The Scalar) · Sign mark.Memory · Number · Many (The Item) · Nests v

behind : Version → Reading NestFile
behind v = scalars >>= λ cs. memory >>= λ words. items words >>= λ is. units v (names_of cs) >>= λ us. end >>= λ _. gives (record { version = v; scalars = cs; words = words; items = is; units = us })

word-behind : (v : Version) → Word (Behind v)
word-behind v = word-then word-many (word-then word-sign (word-then word-number (word-then word-many (word-rest v))))

of-behind : (v : Version) → Of (Behind v) (behind v)
unfolding behind
of-behind v s = of-then (of-scalars s) (word-then word-sign (word-then word-number (word-then word-many (word-rest v)))) (λ cs t. at-as (λ ts x. regroup ts x) (of-then (of-memory t) (word-then word-many (word-rest v)) (λ words x. of-then (of-items words x) (word-rest v) (λ is y. at-last (of-units v (names_of cs) y) (λ us z. at-last (of-end z) (λ _. of-gives (record { version = v; scalars = cs; words = words; items = is; units = us })))))))

abbrev Numbered : Form
Numbered = (Numeral 1 · Behind One) ∣ (Numeral 2 · Behind Several)

word-numbered : Word Numbered
word-numbered = let w = word-behind One in (token.Number 1 ∷ w.0, one (both numeral w.1))

numeral-is : (n m : ℕ) → (n == m) ≡ true → Allows (Numeral m) (token.Number n ∷ [])
numeral-is n m h = let e : n ≡ m = eqb-true n m h in subst (λ (k : ℕ). Allows (Numeral m) (token.Number k ∷ [])) (sym e) numeral

at-versioned : (v : Version) (m : ℕ) (n : ℕ) (s : Sight) → stands s ≡ token.Number n → (n == m) ≡ true → At (Numeral m · Behind v) (set_version v >>= behind) s
unfolding skip
at-versioned v m n s h q = at-then {r = set_version v} behind (record { is = passed-one v (Numeral m) s (of_version v (skip s)) (token.Number n) refl refl h (number-real n) (numeral-is n m q) }) (word-behind v) (λ x k. (
    let j : ◌≡◌ {A = Result (Version × Sight) TextFault} (set_version v s) (Ok x) = k in let e : x.0 ≡ v = cc in subst (λ (u : Version). At (Behind v) (behind u) x.1) (sym e) (of-behind v x.1)))

at-numbered : (n : ℕ) (s : Sight) → stands s ≡ token.Number n → (b c : Bool) → (n == 1) ≡ b → (n == 2) ≡ c → At Numbered ((if b then set_version One else (if c then set_version Several else refused kind.Version)) >>= behind) s
unfolding refused
at-numbered n s h true c p q = at-as (λ ts v. one v) (at-versioned One 1 n s h p)
at-numbered n s h false true p q = at-as (λ ts v. other v) (at-versioned Several 2 n s h q)
at-numbered n s h false false p q = record { is = (at-judged {A = Version} {s = s} kind.Version refl word-numbered (subst (λ (t : Token). is_number t ≡ true) (sym h) refl)).is }

at-version_at : (s : Sight) (t : Token) → stands s ≡ t → At Numbered (version_at t >>= behind) s
unfolding refused
at-version_at s (token.Number n) h = at-numbered n s h (n == 1) (n == 2) refl refl
at-version_at s _ h = record { is = (of-wrong {A = Version} word-numbered s).is }

after-after : {A B C : Type 0} (r : Result (A × Sight) TextFault) (f : A → Reading B) (g : B → Reading C) → after (after r f) g ≡ after r (λ a u. after (f a u) g)
after-after (Ok x) f g = refl
after-after (Err e) f g = refl

file-is : (ts : List Token) → Allows (Sign mark.Nest · Numbered) ts → Allows (The File) ts
file-is _ (both u (one v)) = the (one (both u v))
file-is _ (both u (other v)) = the (other (both u v))

-- a whole file
pub of-contents : Of (The File) contents
unfolding contents version behind
of-contents s = record {
  is = subst (λ (y : Result (NestFile × Sight) TextFault). Judged (The File) y s.size s.left) (sym (after-after (need mark.Nest s) (λ _ u. version_at (stands u) u) behind))
      (at-as file-is (of-then {f = λ _ u. after (version_at (stands u) u) behind} (of-need mark.Nest s) word-numbered (λ _ u. by-token (λ t. version_at t >>= behind) (at-version_at u)))).is;
}
