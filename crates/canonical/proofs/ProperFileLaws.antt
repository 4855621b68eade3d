-- The words of canonical pieces are written as tokens are: loops, scripts and files.
use Rattle.std.proofs.Common.{◌≡◌, ℕ, zero, suc, ◌+◌, ◌<◌, ℤ, pos, List, [], ◌∷◌, ◌++◌, length, add-one, refl, sym, ap, arith, Option, Some, true, false, cond, subst, codes}
use Rattle.std.specs.Prelude.{slice_get}
use Rattle.std.specs.List.{flat_map, AllByRecursion}
use Rattle.nest_lang.specs.declared.tree.Place.TheVariants as place
use Rattle.nest_lang.specs.declared.tree.Stmt.{Stmt}
use Rattle.nest_lang.specs.declared.tree.Head.{Head}
use Rattle.nest_lang.specs.declared.tree.Loop.{Loop}
use Rattle.nest_lang.specs.declared.command.Command.{Command}
use Rattle.nest_lang.specs.Values.{same}
use Rattle.nest_tokens.specs.declared.token.Name.{Name}
use Rattle.nest_tokens.specs.declared.token.Mark.TheVariants as mark
use Rattle.nest_tokens.specs.declared.token.Token.TheVariants as token
use Rattle.nest_tokens.specs.Tokens.{spelling, keyword_of}
use Rattle.nest_tokens.specs.Lexing.{name_of, tokens}
use Rattle.nest_grammar.specs.declared.version.Version.{Version}
use Rattle.nest_grammar.specs.declared.version.Version.TheVariants.{One, Two as Several}
use Rattle.nest_grammar.specs.declared.file.Scalar.{Scalar}
use Rattle.nest_grammar.specs.declared.file.Item.{Item}
use Rattle.nest_grammar.specs.declared.file.LoopNames.{LoopNames}
use Rattle.nest_grammar.specs.declared.file.NestUnit.{NestUnit}
use Rattle.nest_grammar.specs.declared.file.File.{File}
use Rattle.nest_grammar.specs.declared.script.CommandWord.{CommandWord}
use Rattle.nest_grammar.specs.declared.script.CommandWord.TheVariants as word
use Rattle.nest_grammar.specs.Sights.{Sight, skip, in_block, start}
use Rattle.nest_grammar.specs.Readings.{with_sign}
use Rattle.nest_grammar.specs.Names.{Names, names_of}
use Rattle.nest_grammar.specs.Loops.{inside}
use Rattle.nest_grammar.specs.Scripts.{Script, word_spelling}
use Rattle.nest_grammar.specs.Grammar.{IsBlock, IsSigned, unsigned, negative, IsStride, unwritten, written, IsHeading, counting, asking, IsLoops, innermost, outer, IsRows, one as row_one, more as row_more, IsCommand, seq, swap, skew, tile, par, wave, IsCommands, one as command_one, more as command_more, IsScript, empty, script, IsCandidates, none as candidates_none, more as candidates_more, IsUnit, unit, IsUnits, one as units_one, more as units_more, IsScalars, none as scalars_none, more as scalars_more, IsValues, one as values_one, more as values_more, IsItem, data_, ramp, IsItems, none as items_none, more as items_more, IsVersion, one as version_one, two as version_two, Reads, file}
use Rattle.canonical.specs.Pieces.{Piece, Space, plain, number, signed, spaced}
use Rattle.canonical.specs.Labels.{Labels, label, with_lets, in_head, in_pre, in_post, pre_names, post_names}
use Rattle.canonical.specs.Statements.{statement_lines, close_line}
use Rattle.canonical.specs.Loops.{step_of, bounds_of, heading_of, opening_line, loop_lines}
use Rattle.canonical.specs.Scripts.{command_name, operand, command_of, next_command, commands_of, candidate_line}
use Rattle.canonical.specs.Contents.{version_line, scalar_line, memory_line, next_value, value_list, item_line, labels_in, unit_lines, pieces, canonical}
use Rattle.canonical.specs.Layout.{IsWritten, AllWritten}
use Rattle.canonical.proofs.ExpressionAgainLaws.{Agrees}
use Rattle.canonical.proofs.LoopsAgainLaws.{AgreesAll, Named, Labelled, labelled, agrees-inside}
use Rattle.canonical.proofs.ContentsAgainLaws.{scalars-agree, named-from}
use Rattle.canonical.proofs.TokenWalkLaws.{Walks}
use Rattle.canonical.proofs.LayoutFileLaws.{file-walks}
use Rattle.canonical.proofs.LayoutWrittenLaws.{tokens-writable}
use Rattle.canonical.proofs.ProperWordLaws.{Proper, nothing-proper, proper-none, ◌then◌, ◌cons◌, space, marked, worded, apart, lined, Good, good-skip, good-block, name-written, number-written, expression-proper, close-proper, block-proper}

-- Lists

all-snoc : {X : Type 0} (P : X → Type 0) (xs : List X) (x : X) → AllByRecursion P xs → P x → AllByRecursion P (xs ++ x ∷ [])
all-snoc P [] x h k = (k, tt)
all-snoc P (y ∷ ys) x h k = (h.0, all-snoc P ys x h.1 k)

each-proper : {X : Type 0} (f : X → List Piece) (xs : List X) → AllByRecursion (λ x. Proper (f x)) xs → Proper (flat_map f xs)
each-proper f [] h = proper-none
each-proper f (x ∷ xs) h = h.0 then each-proper f xs h.1

-- Numbers

abbrev Fits : ℕ → Type 0
Fits n = IsWritten (token.Number n)

numbered : (n : ℕ) → Fits n → Proper (number n ∷ [])
numbered n h = worded (token.Number n) h

operand-proper : (n : ℕ) → Fits n → Proper (operand n)
operand-proper n h = space cons numbered n h

signed-by : (n : ℕ) → Fits n → Proper (signed (with_sign true n))
unfolding signed
signed-by zero h = numbered zero h
signed-by (suc n) h = marked mark.Minus cons numbered (suc n) h

signed-proper : {s : Sight} {v : ℤ} {t : Sight} → IsSigned s v t → Good s → Proper (signed v) × Good t
unfolding signed
signed-proper (unsigned {n} {s} h) g = (numbered n (number-written s n g h), good-skip s g)
signed-proper (negative {n} {s} h k) g = (signed-by n (number-written (skip s) n (good-skip s g) k), good-skip (skip s) (good-skip s g))

-- Loops

small : (n : ℕ) → n < 3 → Fits n
small n h = omega arith

stride-proper : {s : Sight} {k : ℤ} {t : Sight} → IsStride s k t → Good s → Proper (step_of k) × Good t
unfolding step_of signed
stride-proper unwritten g = (elim (same (pos 1) (pos 1)) as (λ b. Proper (cond b [] (spaced mark.Step ++ number 1 ∷ []))) [ true ↦ proper-none | false ↦ apart mark.Step then numbered 1 (small 1 (omega arith)) ], g)
stride-proper (written {k} {s} {t} h i n) g = let x = signed-proper i (good-skip s g) in (elim (same k (pos 1)) as (λ b. Proper (cond b [] (spaced mark.Step ++ signed k))) [ true ↦ proper-none | false ↦ apart mark.Step then x.0 ], x.1)

heading-proper : (l : Labels) (level : ℕ) (names : Names) {s : Sight} {h : Head} {n : Option Name} {t : Sight} → IsHeading names s h n t → Agrees names l → Labelled l level n → Good s → Proper (heading_of l level h) × Good t
unfolding heading_of bounds_of
heading-proper l level names (counting {n} {lower} {upper} {k} {s} {t} {u} {v} a b f c i d j st) agree lab g =
    let s1 : Good (skip s) = good-skip s g in
    let s3 : Good (skip (skip (skip s))) = good-skip (skip (skip s)) (good-skip (skip s) s1) in
    let x = expression-proper l names agree (in_block (skip (skip (skip s)))) lower t i (good-block (skip (skip (skip s))) s3) in
    let y = expression-proper l names agree (skip t) upper u j (good-skip t x.1) in
    let z = stride-proper st y.1 in
    let w : IsWritten (token.Name (label l (place.Counter level))) = subst (λ (m : Name). IsWritten (token.Name m)) (sym lab) (name-written (skip s) n s1 b) in
    (marked mark.For cons space cons worded (token.Name (label l (place.Counter level))) w cons ((((apart mark.Assign then x.0) then apart mark.Below) then y.0) then z.0), z.1)
heading-proper l level names (asking {e} {s} {t} a i) agree lab g =
    let x = expression-proper l names agree (in_block (skip s)) e t i (good-block (skip s) (good-skip s g)) in
    (marked mark.While cons space cons x.0, x.1)

-- the line that opens a loop and the statements behind it
begun-proper : (l : Labels) (level : ℕ) (names : Names) (x : LoopNames) (pre : List Stmt) {h : Head} {s t u : Sight} → AgreesAll names l → slice_get l.loops level ≡ Some x → IsHeading names s h x.counter t → IsBlock (inside names level x.counter) (skip t) pre x.pre u → Good s → Proper (opening_line l level h ++ statement_lines (in_pre l level) pre (level + 1)) × Good u
unfolding opening_line
begun-proper l level names x pre {h} {s} {t} {u} agree at i b g =
    let y = heading-proper (in_head l) level names i (agree []) (labelled l level [] x x.counter at refl) g in
    let k : in_pre l level ≡ with_lets l x.pre = ap (λ (o : Option LoopNames). with_lets l (pre_names o)) at in
    let inner : AgreesAll (inside names level x.counter) l = agrees-inside l level names x.counter agree (λ z. labelled l level z x x.counter at refl) in
    let z = block-proper l (inside names level x.counter) (skip t) pre x.pre u b (inner x.pre) (good-skip t y.1) in
    (lined level (heading_of (in_head l) level h ++ Space ∷ plain mark.OpenBrace ∷ []) (y.0 then (space cons marked mark.OpenBrace)) then subst (λ (q : Labels). Proper (statement_lines q pre (level + 1))) (sym k) (z.0 (level + 1)), z.1)

loops-proper : (l : Labels) {d level : ℕ} {names : Names} {s : Sight} {ls : List Loop} {ns : List LoopNames} {t : Sight} → IsLoops d level names s ls ns t → AgreesAll names l → Named l level ns → Good s → Proper (loop_lines l level ls) × Good t
unfolding loop_lines
loops-proper l (innermost {d} {level} {names} {h} {n} {pre} {lets} {s} {t} {u} i o b ne c) agree named g =
    let x = begun-proper l level names (record { counter = n; pre = lets; post = [] }) pre agree named.0 i b g in
    (((x.0 then proper-none) then nothing-proper (in_post l level) (level + 1)) then lined level close_line close-proper, good-skip u x.1)
loops-proper l (outer {d} {level} {names} {h} {n} {pre} {post} {lets} {post_lets} {ls} {ns} {s} {t} {u} {v} {w} i o b j c z) agree named g =
    let ln : LoopNames = record { counter = n; pre = lets; post = post_lets } in
    let x = begun-proper l level names ln pre agree named.0 i b g in
    let within : AgreesAll (inside names level n) l = agrees-inside l level names n agree (λ q. labelled l level q ln n named.0 refl) in
    let y = loops-proper l j within named.1 x.1 in
    let e = block-proper l (inside names level n) v post post_lets w c (within post_lets) y.1 in
    let k : in_post l level ≡ with_lets l post_lets = ap (λ (q : Option LoopNames). with_lets l (post_names q)) named.0 in
    let y0 : Proper (loop_lines l (level + 1) ls) = subst (λ (m : ℕ). Proper (loop_lines l m ls)) (sym (add-one level)) y.0 in
    (((x.0 then y0) then subst (λ (q : Labels). Proper (statement_lines q post (level + 1))) (sym k) (e.0 (level + 1))) then lined level close_line close-proper, good-skip w e.1)

-- Scripts

verb-written : (w : CommandWord) → IsWritten (token.Name (name_of (word_spelling w)))
unfolding word_spelling keyword_of spelling
verb-written word.Seq = (codes "seq", refl, omega arith, refl, (refl, (refl, (refl, tt))), refl)
verb-written word.Swap = (codes "swap", refl, omega arith, refl, (refl, (refl, (refl, (refl, tt)))), refl)
verb-written word.Skew = (codes "skew", refl, omega arith, refl, (refl, (refl, (refl, (refl, tt)))), refl)
verb-written word.Tile = (codes "tile", refl, omega arith, refl, (refl, (refl, (refl, (refl, tt)))), refl)
verb-written word.Par = (codes "par", refl, omega arith, refl, (refl, (refl, (refl, tt))), refl)
verb-written word.Wave = (codes "wave", refl, omega arith, refl, (refl, (refl, (refl, (refl, tt)))), refl)

verb : (w : CommandWord) → Proper (command_name w ∷ [])
verb w = worded (token.Name (name_of (word_spelling w))) (verb-written w)

rows-proper : {depth : ℕ} {s : Sight} {ns : List ℕ} {t : Sight} → IsRows depth s ns t → Good s → AllByRecursion (λ n. Proper (operand n)) ns × Good t
rows-proper (row_one {n} {s} h r) g = ((operand-proper n (number-written s n g h), tt), good-skip s g)
rows-proper (row_more {n} {ns} {s} {t} i len h r) g = let x = rows-proper i g in (all-snoc (λ n. Proper (operand n)) ns n x.0 (operand-proper n (number-written t n x.1 h)), good-skip t x.1)

command-proper : {depth : ℕ} {cs : Script} {s : Sight} {c : Command} {t : Sight} → IsCommand depth cs s c t → Good s → Proper (command_of c) × Good t
unfolding command_of signed
command-proper (seq {n} {s} a b h k) g = let g1 = good-skip s g in (verb word.Seq cons operand-proper n (number-written (skip s) n g1 h), good-skip (skip s) g1)
command-proper (swap {a} {b} {s} {t} k ha ra q hb rb ne) g =
    let g1 = good-skip s g in
    let gt : Good t = subst Good (sym q) (good-skip (skip s) g1) in
    (verb word.Swap cons (operand-proper a (number-written (skip s) a g1 ha) then operand-proper b (number-written t b gt hb)), good-skip t gt)
command-proper (skew {a} {b} {m} {s} {t} {u} k may ha ra q hb rb ne i r) g =
    let g1 = good-skip s g in
    let gt : Good t = subst Good (sym q) (good-skip (skip s) g1) in
    let x = signed-proper i (good-skip t gt) in
    (verb word.Skew cons ((operand-proper a (number-written (skip s) a g1 ha) then operand-proper b (number-written t b gt hb)) then (space cons x.0)), x.1)
command-proper (tile {a} {n} {s} {t} k ha ra q hn rn) g =
    let g1 = good-skip s g in
    let gt : Good t = subst Good (sym q) (good-skip (skip s) g1) in
    (verb word.Tile cons (operand-proper a (number-written (skip s) a g1 ha) then operand-proper n (number-written t n gt hn)), good-skip t gt)
command-proper (par {ns} {s} {t} k i) g = let x = rows-proper i (good-skip s g) in (verb word.Par cons each-proper operand ns x.0, x.1)
command-proper (wave {ns} {s} {t} k i) g = let x = rows-proper i (good-skip s g) in (verb word.Wave cons each-proper operand ns x.0, x.1)

commands-proper : {depth : ℕ} {s : Sight} {cs : Script} {t : Sight} → IsCommands depth s cs t → Good s → AllByRecursion (λ c. Proper (command_of c)) cs × Good t
commands-proper (command_one {c} i) g = let x = command-proper i g in ((x.0, tt), x.1)
commands-proper (command_more {cs} {c} {s} {t} {u} i k len j) g = let x = commands-proper i g in let y = command-proper j (good-skip t x.1) in (all-snoc (λ c. Proper (command_of c)) cs c x.0 y.0, y.1)

next-all : (cs : Script) → AllByRecursion (λ c. Proper (command_of c)) cs → AllByRecursion (λ c. Proper (next_command c)) cs
next-all [] h = tt
next-all (c ∷ cs) h = (marked mark.Semicolon cons space cons h.0, next-all cs h.1)

written-commands : (cs : Script) → AllByRecursion (λ c. Proper (command_of c)) cs → Proper (commands_of cs)
unfolding commands_of
written-commands [] h = proper-none
written-commands (c ∷ cs) h = (h.0 then each-proper next_command cs (next-all cs h.1)) then space

candidate-proper : (cs : Script) → Proper (commands_of cs) → Proper (candidate_line cs)
unfolding candidate_line
candidate-proper cs h = lined 0 _ (marked mark.Candidate cons space cons marked mark.OpenBrace cons space cons (h then marked mark.CloseBrace))

script-proper : {depth : ℕ} {s : Sight} {cs : Script} {t : Sight} → IsScript depth s cs t → Good s → Proper (candidate_line cs) × Good t
script-proper (empty {s} o c) g = (candidate-proper [] (written-commands [] tt), good-skip (skip s) (good-skip s g))
script-proper (script {cs} {s} {t} o i c) g = let x = commands-proper i (good-skip s g) in (candidate-proper cs (written-commands cs x.0), good-skip t x.1)

candidates-proper : {depth : ℕ} {s : Sight} {scripts : List Script} {t : Sight} → IsCandidates depth s scripts t → Good s → AllByRecursion (λ cs. Proper (candidate_line cs)) scripts × Good t
candidates-proper candidates_none g = (tt, g)
candidates-proper (candidates_more {scripts} {cs} {s} {t} {u} i k len j) g = let x = candidates-proper i g in let y = script-proper j (good-skip t x.1) in (all-snoc (λ cs. Proper (candidate_line cs)) scripts cs x.0 y.0, y.1)

-- Files

unit-proper : {version : Version} (cs : List Scalar) {s : Sight} {n : NestUnit} {t : Sight} → IsUnit version (names_of cs) s n t → Good s → Proper (unit_lines cs n) × Good t
unfolding unit_lines
unit-proper cs (unit {ls} {ns} {scripts} {s} {t} {u} i c) g =
    let l : Labels = labels_in cs ns in
    let x = loops-proper l i (scalars-agree cs ns) (named-from l [] ns refl) g in
    let y = candidates-proper c x.1 in
    (x.0 then each-proper candidate_line scripts y.0, y.1)

units-proper : (cs : List Scalar) {version : Version} {s : Sight} {us : List NestUnit} {t : Sight} → IsUnits (names_of cs) version s us t → Good s → AllByRecursion (λ u. Proper (unit_lines cs u)) us × Good t
units-proper cs (units_one i) g = let x = unit-proper cs i g in ((x.0, tt), x.1)
units-proper cs (units_more {ns} {n} i len j) g = let x = units-proper cs i g in let y = unit-proper cs j x.1 in (all-snoc (λ u. Proper (unit_lines cs u)) ns n x.0 y.0, y.1)

scalars-proper : {s : Sight} {cs : List Scalar} {t : Sight} → IsScalars s cs t → Good s → AllByRecursion (λ c. Proper (scalar_line c)) cs × Good t
unfolding scalar_line
scalars-proper scalars_none g = (tt, g)
scalars-proper (scalars_more {cs} {n} {v} {s} {t} {u} i k len h f a j) g =
    let x = scalars-proper i g in
    let g1 = good-skip t x.1 in
    let y = signed-proper j (good-skip (skip (skip t)) (good-skip (skip t) g1)) in
    (all-snoc (λ c. Proper (scalar_line c)) cs (record { name = n; value = v }) x.0 (lined 0 _ (marked mark.Scalar cons space cons worded (token.Name n) (name-written (skip t) n g1 h) cons (apart mark.Assign then y.0))), y.1)

values-proper : {words first : ℕ} {s : Sight} {vs : List ℤ} {t : Sight} → IsValues words first s vs t → Good s → AllByRecursion (λ v. Proper (signed v)) vs × Good t
values-proper (values_one r i) g = let x = signed-proper i g in ((x.0, tt), x.1)
values-proper (values_more {vs} {v} {s} {t} {u} i k r j) g = let x = values-proper i g in let y = signed-proper j (good-skip t x.1) in (all-snoc (λ v. Proper (signed v)) vs v x.0 y.0, y.1)

next-values : (vs : List ℤ) → AllByRecursion (λ v. Proper (signed v)) vs → AllByRecursion (λ v. Proper (next_value v)) vs
next-values [] h = tt
next-values (v ∷ vs) h = (marked mark.Comma cons space cons h.0, next-values vs h.1)

written-values : (vs : List ℤ) → AllByRecursion (λ v. Proper (signed v)) vs → Proper (value_list vs)
unfolding value_list
written-values [] h = proper-none
written-values (v ∷ vs) h = (space cons h.0) then each-proper next_value vs (next-values vs h.1)

item-proper : {words : ℕ} {s : Sight} {i : Item} {t : Sight} → IsItem words s i t → Good s → Proper (item_line i) × Good t
unfolding item_line
item-proper (data_ {first} {vs} {s} {t} {u} a h q c i) g =
    let g1 = good-skip s g in
    let gt : Good t = subst Good (sym q) (good-skip (skip s) g1) in
    let x = values-proper i (good-skip t gt) in
    (lined 0 _ (marked mark.Data cons (operand-proper first (number-written (skip s) first g1 h) then (marked mark.Colon cons written-values vs x.0))), x.1)
item-proper (ramp {first} {count} {stride} {start} {growth} {s} {t} {u} {v} {w} a h q h2 q2 h3 ne i j r) g =
    let g1 = good-skip s g in
    let gt : Good t = subst Good (sym q) (good-skip (skip s) g1) in
    let gu : Good u = subst Good (sym q2) (good-skip t gt) in
    let x = signed-proper i (good-skip u gu) in
    let y = signed-proper j x.1 in
    (lined 0 _ (marked mark.Ramp cons ((((operand-proper first (number-written (skip s) first g1 h) then operand-proper count (number-written t count gt h2)) then operand-proper stride (number-written u stride gu h3)) then (space cons x.0)) then (space cons y.0))), y.1)

items-proper : {words : ℕ} {s : Sight} {is : List Item} {t : Sight} → IsItems words s is t → Good s → AllByRecursion (λ i. Proper (item_line i)) is × Good t
items-proper items_none g = (tt, g)
items-proper (items_more {is} {i} i1 j) g = let x = items-proper i1 g in let y = item-proper j x.1 in (all-snoc (λ i. Proper (item_line i)) is i x.0 y.0, y.1)

version-proper : (v : Version) → Proper (version_line v)
unfolding version_line
version-proper One = lined 0 _ (marked mark.Nest cons operand-proper 1 (small 1 (omega arith)))
version-proper Several = lined 0 _ (marked mark.Nest cons operand-proper 2 (small 2 (omega arith)))

version-good : {s : Sight} {v : Version} {t : Sight} → IsVersion s v t → Good s → Good t
version-good (version_one {s} a h) g = let x = good-skip (skip s) (good-skip s g) in record { tokens = x.tokens }
version-good (version_two {s} a h) g = let x = good-skip (skip s) (good-skip s g) in record { tokens = x.tokens }

memory-proper : (n : ℕ) → Fits n → Proper (memory_line n)
unfolding memory_line
memory-proper n h = lined 0 _ (marked mark.Memory cons operand-proper n h)

file-proper : (text : List ℕ) (f : File) → Reads text f → Proper (pieces f)
unfolding pieces
file-proper text _ (file {version} {scalars} {words} {items} {units} {s} {t} {u} {v} len vers scs mem wd le its us e) =
    let g : Good (start text) = record { tokens = tokens-writable text } in
    let x = scalars-proper scs (version-good vers g) in
    let g1 = good-skip t x.1 in
    let y = items-proper its (good-skip (skip t) g1) in
    let z = units-proper scalars us y.1 in
    (((version-proper version then each-proper scalar_line scalars x.0) then memory-proper words (number-written (skip t) words g1 wd)) then each-proper item_line items y.0) then each-proper (unit_lines scalars) units z.0

-- The words of the canonical pieces of a file that was read are written as tokens are.
pub reads-written : (text : List ℕ) (f : File) → Reads text f → AllWritten (pieces f)
reads-written text f h = (file-proper text f h).written

-- so the tokens of its canonical text are these words
pub reads-walks : (text : List ℕ) (f : File) → Reads text f → Walks (pieces f) (length (canonical f)) (tokens (canonical f)) []
reads-walks text f h = file-walks f (reads-written text f h)
