-- The pieces of a file are laid out so that no token is lengthened by what stands behind it.
use Rattle.std.proofs.Common.{◌≡◌, ℕ, suc, ◌+◌, ℤ, pos, negsuc, List, [], ◌∷◌, ◌++◌, length, map, refl, sym, subst, true, false, cond, append_assoc, append-nil}
use Rattle.std.specs.List.{flat_map, AllByRecursion}
use Rattle.nest_lang.specs.declared.tree.Expr.{Expr, map-Expr, roll-Expr}
use Rattle.nest_lang.specs.declared.tree.Expr.TheOpen.{Expr-F}
use Rattle.nest_lang.specs.declared.tree.Expr.TheFolds.{fold-roll-Expr, ind-Expr}
use Rattle.nest_lang.specs.declared.tree.Stmt.{Stmt, map-Stmt, roll-Stmt}
use Rattle.nest_lang.specs.declared.tree.Stmt.TheOpen.{Stmt-F}
use Rattle.nest_lang.specs.declared.tree.Stmt.TheFolds.{fold-roll-Stmt, ind-Stmt}
use Rattle.nest_lang.specs.declared.tree.Head.{Head}
use Rattle.nest_lang.specs.declared.tree.Head.TheVariants.{For, While}
use Rattle.nest_lang.specs.declared.tree.Loop.{Loop}
use Rattle.nest_lang.specs.declared.command.Command.{Command}
use Rattle.nest_lang.specs.declared.command.Command.TheVariants.{Seq, Swap, Skew, Tile, Par, Wave}
use Rattle.nest_lang.specs.Values.{same}
use Rattle.nest_tokens.specs.declared.token.Name.{Name}
use Rattle.nest_tokens.specs.declared.token.Mark.{Mark}
use Rattle.nest_tokens.specs.declared.token.Mark.TheVariants as mark
use Rattle.nest_tokens.specs.declared.token.Token.TheVariants as token
use Rattle.nest_tokens.specs.Lexing.{tokens}
use Rattle.nest_grammar.specs.declared.version.Version.{Version}
use Rattle.nest_grammar.specs.declared.file.Scalar.{Scalar}
use Rattle.nest_grammar.specs.declared.file.Item.{Item}
use Rattle.nest_grammar.specs.declared.file.Item.TheVariants.{Data, Ramp}
use Rattle.nest_grammar.specs.declared.file.NestUnit.{NestUnit}
use Rattle.nest_grammar.specs.declared.file.File.{File}
use Rattle.nest_grammar.specs.declared.script.CommandWord.{CommandWord}
use Rattle.nest_grammar.specs.Scripts.{Script}
use Rattle.canonical.specs.declared.group.Group.{Group}
use Rattle.canonical.specs.declared.group.Group.TheVariants.{Unary, Whole}
use Rattle.canonical.specs.Groups.{fits, left_of, right_of, mark_of}
use Rattle.canonical.specs.Pieces.{Piece, Space, Indent, Newline, plain, name, number, signed, spaced, line, text_of}
use Rattle.canonical.specs.Labels.{Labels, label, in_head, in_pre, in_post}
use Rattle.canonical.specs.Expressions.{Printed, as_group, level, printed, expression_of}
use Rattle.canonical.specs.Statements.{let_line, set_line, store_line, if_line, else_line, close_line, Lines, each, else_branch, statement_level, statement_of, statement_lines}
use Rattle.canonical.specs.Loops.{step_of, bounds_of, heading_of, opening_line, loop_lines}
use Rattle.canonical.specs.Scripts.{command_name, operand, signed_operand, command_of, next_command, commands_of, candidate_line}
use Rattle.canonical.specs.Contents.{version_line, scalar_line, memory_line, next_value, value_list, item_line, labels_in, unit_lines, pieces, canonical}
use Rattle.canonical.specs.Layout.{words, AllWritten}
use Rattle.canonical.proofs.TokenWalkLaws.{Walks}
use Rattle.canonical.proofs.LayoutPieceLaws.{State, Free, Worded, Signed, is_sign, with_equals, Laid, pieces-read, words-walk}

-- anywhere; where anything may begin but `=`; behind a space or a line's end
abbrev Any : State → Type 0
Any s = Unit {0}

abbrev Open : State → Type 0
Open Free = Unit {0}
Open Worded = ⊥
Open Signed = Unit {0}

abbrev Clear : State → Type 0
Clear Free = Unit {0}
Clear Worded = ⊥
Clear Signed = ⊥

-- from such a state these pieces may stand, and such a state is behind them
record Runs (A : State → Type 0) (ps : List Piece) (B : State → Type 0) : Type 0 where
  lays : (s : State) → A s → (rest : List Piece) → ((t : State) → B t → Laid t rest) → Laid s (ps ++ rest)

nil : {A : State → Type 0} → Runs A [] A
nil = record { lays = λ s a rest k. k s a }

infixr 5 ◌then◌
◌then◌ : {A B C : State → Type 0} {ps qs : List Piece} → Runs A ps B → Runs B qs C → Runs A (ps ++ qs) C
◌then◌ {A} {B} {C} {ps} {qs} f g = record { lays = λ s a rest k. subst (λ (l : List Piece). Laid s l) (sym (append_assoc ps qs rest)) (f.lays s a (qs ++ rest) (λ t b. g.lays t b rest k)) }

infixr 5 ◌cons◌
◌cons◌ : {A B C : State → Type 0} {p : Piece} {qs : List Piece} → Runs A (p ∷ []) B → Runs B qs C → Runs A (p ∷ qs) C
◌cons◌ {A} {B} {C} {p} {qs} f g = record { lays = λ s a rest k. f.lays s a (qs ++ rest) (λ t b. g.lays t b rest k) }

open-clear : (s : State) → Clear s → Open s
open-clear Free h = tt
open-clear Worded h = absurd h
open-clear Signed h = absurd h

-- where a sign or a space stands before
clear : {ps : List Piece} {B : State → Type 0} → Runs Open ps B → Runs Clear ps B
clear f = record { lays = λ s a rest k. f.lays s (open-clear s a) rest k }

anywhere : {ps : List Piece} {B : State → Type 0} → Runs Any ps B → Runs Clear ps B
anywhere f = record { lays = λ s a rest k. f.lays s tt rest k }

opened : {ps : List Piece} {B : State → Type 0} → Runs Any ps B → Runs Open ps B
opened f = record { lays = λ s a rest k. f.lays s tt rest k }

ended : {ps : List Piece} {A B : State → Type 0} → Runs A ps B → Runs A ps Any
ended f = record { lays = λ s a rest k. f.lays s a rest (λ t b. k t tt) }

space : Runs Any (Space ∷ []) Clear
space = record { lays = λ s a rest k. k Free tt }

newline : Runs Any (Newline ∷ []) Clear
newline = record { lays = λ s a rest k. k Free tt }

indent : (n : ℕ) → Runs Clear (Indent n ∷ []) Clear
indent n = record { lays = λ s a rest k. by s a rest k }
  where
    by : (s : State) → Clear s → (rest : List Piece) → ((t : State) → Clear t → Laid t rest) → Laid s (Indent n ∷ rest)
    by Free a rest k = (refl, k Free tt)
    by Worded a rest k = absurd a
    by Signed a rest k = absurd a

named : (n : Name) → Runs Open (name n ∷ []) Any
unfolding is_sign with_equals
named n = record { lays = λ s a rest k. by s a rest k }
  where
    by : (s : State) → Open s → (rest : List Piece) → ((t : State) → Any t → Laid t rest) → Laid s (name n ∷ rest)
    by Free a rest k = (tt, k Worded tt)
    by Worded a rest k = absurd a
    by Signed a rest k = (refl, k Worded tt)

numbered : (n : ℕ) → Runs Open (number n ∷ []) Any
unfolding is_sign with_equals
numbered n = record { lays = λ s a rest k. by s a rest k }
  where
    by : (s : State) → Open s → (rest : List Piece) → ((t : State) → Any t → Laid t rest) → Laid s (number n ∷ rest)
    by Free a rest k = (tt, k Worded tt)
    by Worded a rest k = absurd a
    by Signed a rest k = (refl, k Worded tt)

-- a sign that does not begin with `=`
signs : (m : Mark) → is_sign (token.Plain m) ≡ true → with_equals (token.Plain m) ≡ false → Runs Any (plain m ∷ []) Open
signs m h e = record { lays = λ s a rest k. by s rest k }
  where
    by : (s : State) → (rest : List Piece) → ((t : State) → Open t → Laid t rest) → Laid s (plain m ∷ rest)
    by Free rest k = (tt, rw h (k Signed tt))
    by Worded rest k = (h, rw h (k Signed tt))
    by Signed rest k = (e, rw h (k Signed tt))

-- any sign or word behind a space
marked : (m : Mark) → Runs Clear (plain m ∷ []) Any
marked m = record { lays = λ s a rest k. by s a rest k }
  where
    by : (s : State) → Clear s → (rest : List Piece) → ((t : State) → Any t → Laid t rest) → Laid s (plain m ∷ rest)
    by Free a rest k = (tt, k _ tt)
    by Worded a rest k = absurd a
    by Signed a rest k = absurd a

apart : (m : Mark) → Runs Any (spaced m) Clear
apart m = space cons marked m cons space

all : {X : Type 0} {A : State → Type 0} (f : X → List Piece) → ((x : X) → Runs A (f x) A) → (xs : List X) → Runs A (flat_map f xs) A
all f h [] = nil
all f h (x ∷ xs) = h x then all f h xs

open-sign : Runs Any (plain mark.Open ∷ []) Open
unfolding is_sign with_equals
open-sign = signs mark.Open refl refl

close-sign : Runs Any (plain mark.Close ∷ []) Any
unfolding is_sign with_equals
close-sign = ended (signs mark.Close refl refl)

open-bracket : Runs Any (plain mark.OpenBracket ∷ []) Open
unfolding is_sign with_equals
open-bracket = signs mark.OpenBracket refl refl

close-bracket : Runs Any (plain mark.CloseBracket ∷ []) Any
unfolding is_sign with_equals
close-bracket = ended (signs mark.CloseBracket refl refl)

minus-sign : Runs Any (plain mark.Minus ∷ []) Open
unfolding is_sign with_equals
minus-sign = signs mark.Minus refl refl

comma : Runs Any (plain mark.Comma ∷ []) Any
unfolding is_sign with_equals
comma = ended (signs mark.Comma refl refl)

colon : Runs Any (plain mark.Colon ∷ []) Any
unfolding is_sign with_equals
colon = ended (signs mark.Colon refl refl)

semicolon : Runs Any (plain mark.Semicolon ∷ []) Any
unfolding is_sign with_equals
semicolon = ended (signs mark.Semicolon refl refl)

valued : (z : ℤ) → Runs Open (signed z) Any
unfolding signed
valued (pos n) = numbered n
valued (negsuc n) = opened (minus-sign cons numbered (suc n))

-- Expressions

grouped : (wanted : Group) (x : Printed) → Runs Open x.pieces Any → Runs Open (as_group wanted x) Any
unfolding as_group
grouped wanted x h = elim (fits x.group wanted) as (λ b. Runs Open (cond b x.pieces (plain mark.Open ∷ x.pieces ++ plain mark.Close ∷ [])) Any) [ true ↦ h | false ↦ opened (open-sign cons (h then close-sign)) ]

-- the parts of an expression are laid out
Laid-parts : Expr-F Printed → Type 0
Laid-parts (Expr-F.Number n) = Unit {0}
Laid-parts (Expr-F.Var p) = Unit {0}
Laid-parts (Expr-F.Load k x) = Runs Open x.pieces Any
Laid-parts (Expr-F.Neg x) = Runs Open x.pieces Any
Laid-parts (Expr-F.Two o x y) = Runs Open x.pieces Any × Runs Open y.pieces Any

leveled : (l : Labels) (z : Expr-F Printed) → Laid-parts z → Runs Open (level l z).pieces Any
unfolding Laid-parts
leveled l (Expr-F.Number n) h = valued n
leveled l (Expr-F.Var p) h = named (label l p)
leveled l (Expr-F.Load k x) h = opened (open-bracket cons (grouped Whole x h then close-bracket))
leveled l (Expr-F.Neg x) h = opened (minus-sign cons grouped Unary x h)
leveled l (Expr-F.Two o x y) h = (grouped (left_of o) x h.0 then apart (mark_of o)) then clear (grouped (right_of o) y h.1)

parts-laid : (l : Labels) (y : Expr-F ((e : Expr) × Runs Open (printed l e).pieces Any)) → Laid-parts (map-Expr _ _ (printed l) (map-Expr _ _ (λ e. e.0) y))
unfolding Laid-parts
parts-laid l (Expr-F.Number n) = tt
parts-laid l (Expr-F.Var p) = tt
parts-laid l (Expr-F.Load k x) = x.1
parts-laid l (Expr-F.Neg x) = x.1
parts-laid l (Expr-F.Two o x y) = (x.1, y.1)

printed-rolled : (l : Labels) (x : Expr-F Expr) → printed l (roll-Expr x) ≡ level l (map-Expr _ _ (printed l) x)
unfolding printed
printed-rolled l x = fold-roll-Expr Printed (level l) x

printing : (l : Labels) (e : Expr) → Runs Open (printed l e).pieces Any
printing l = ind-Expr (λ e. Runs Open (printed l e).pieces Any) (λ x y is. subst (λ (z : Expr-F Expr). Runs Open (printed l (roll-Expr z)).pieces Any) is (subst (λ (q : Printed). Runs Open q.pieces Any) (sym (printed-rolled l (map-Expr _ _ (λ e. e.0) y))) (leveled l _ (parts-laid l y))))

expressed : (l : Labels) (e : Expr) → Runs Open (expression_of l e) Any
unfolding expression_of
expressed l e = grouped Whole (printed l e) (printing l e)

-- Statements

lined : (depth : ℕ) (ps : List Piece) → Runs Clear ps Any → Runs Clear (line depth ps) Clear
unfolding line
lined depth ps h = indent depth cons (h then newline)

let-lined : (l : Labels) (k : ℕ) (e : Expr) → Runs Clear (let_line l k e) Any
unfolding let_line
let-lined l k e = marked mark.Let cons space cons clear (named _) cons (apart mark.Assign then clear (expressed l e))

set-lined : (l : Labels) (k : ℕ) (e : Expr) → Runs Clear (set_line l k e) Any
unfolding set_line
set-lined l k e = clear (named _) cons (apart mark.Assign then clear (expressed l e))

store-lined : (l : Labels) (a e : Expr) → Runs Clear (store_line l a e) Any
unfolding store_line
store-lined l a e = anywhere open-bracket cons ((expressed l a then (close-bracket cons apart mark.Assign)) then clear (expressed l e))

if-lined : (l : Labels) (e : Expr) → Runs Clear (if_line l e) Any
unfolding if_line
if-lined l e = marked mark.If cons space cons (clear (expressed l e) then (space cons marked mark.OpenBrace))

close-brace : Runs Any (plain mark.CloseBrace ∷ []) Any
unfolding is_sign with_equals
close-brace = ended (signs mark.CloseBrace refl refl)

else-lined : Runs Clear else_line Any
else-lined = anywhere close-brace cons (apart mark.Else then marked mark.OpenBrace)

close-lined : Runs Clear close_line Any
close-lined = anywhere close-brace

abbrev LaidLines : Lines → Type 0
LaidLines x = (depth : ℕ) → Runs Clear (x depth) Clear

-- the statements in a statement are laid out
Laid-within : Stmt-F Lines → Type 0
Laid-within (Stmt-F.If e xs ys) = AllByRecursion LaidLines xs × AllByRecursion LaidLines ys
Laid-within _ = Unit {0}

laid-each : (xs : List Lines) → AllByRecursion LaidLines xs → (depth : ℕ) → Runs Clear (each xs depth) Clear
laid-each [] h depth = nil
laid-each (x ∷ xs) h depth = h.0 depth then laid-each xs h.1 depth

laid-else : (xs : List Lines) → AllByRecursion LaidLines xs → (depth : ℕ) → Runs Clear (else_branch xs depth) Clear
laid-else [] h depth = nil
laid-else (x ∷ xs) h depth = lined depth else_line else-lined then laid-each (x ∷ xs) h (depth + 1)

laid-level : (l : Labels) (z : Stmt-F Lines) → Laid-within z → LaidLines (statement_level l z)
unfolding Laid-within
laid-level l (Stmt-F.Let k e) h depth = lined depth (let_line l k e) (let-lined l k e)
laid-level l (Stmt-F.Set k e) h depth = lined depth (set_line l k e) (set-lined l k e)
laid-level l (Stmt-F.Store access a e) h depth = lined depth (store_line l a e) (store-lined l a e)
laid-level l (Stmt-F.If e xs ys) h depth = ((lined depth (if_line l e) (if-lined l e) then laid-each xs h.0 (depth + 1)) then laid-else ys h.1 depth) then lined depth close_line close-lined

laid-mapped : (l : Labels) (xs : List ((st : Stmt) × LaidLines (statement_of l st))) → AllByRecursion LaidLines (map (statement_of l) (map (λ e. e.0) xs))
laid-mapped l [] = tt
laid-mapped l (x ∷ xs) = (x.1, laid-mapped l xs)

within-laid : (l : Labels) (y : Stmt-F ((st : Stmt) × LaidLines (statement_of l st))) → Laid-within (map-Stmt _ _ (statement_of l) (map-Stmt _ _ (λ e. e.0) y))
unfolding Laid-within
within-laid l (Stmt-F.Let k e) = tt
within-laid l (Stmt-F.Set k e) = tt
within-laid l (Stmt-F.Store access a e) = tt
within-laid l (Stmt-F.If e xs ys) = (laid-mapped l xs, laid-mapped l ys)

statement-rolled : (l : Labels) (x : Stmt-F Stmt) → statement_of l (roll-Stmt x) ≡ statement_level l (map-Stmt _ _ (statement_of l) x)
unfolding statement_of
statement-rolled l x = fold-roll-Stmt Lines (statement_level l) x

stated : (l : Labels) (st : Stmt) → LaidLines (statement_of l st)
stated l = ind-Stmt (λ st. LaidLines (statement_of l st)) (λ x y is. subst (λ (z : Stmt-F Stmt). LaidLines (statement_of l (roll-Stmt z))) is (subst LaidLines (sym (statement-rolled l (map-Stmt _ _ (λ e. e.0) y))) (laid-level l _ (within-laid l y))))

stated-all : (l : Labels) (sts : List Stmt) (depth : ℕ) → Runs Clear (statement_lines l sts depth) Clear
unfolding statement_lines
stated-all l [] depth = nil
stated-all l (st ∷ sts) depth = stated l st depth then stated-all l sts depth

-- Loops

stepped : (k : ℤ) → Runs Any (step_of k) Any
unfolding step_of
stepped k = elim (same k (pos 1)) as (λ b. Runs Any (cond b [] (spaced mark.Step ++ signed k)) Any) [ true ↦ nil | false ↦ apart mark.Step then clear (valued k) ]

bounded : (l : Labels) (lower upper : Expr) (k : ℤ) → Runs Any (bounds_of l lower upper k) Any
unfolding bounds_of
bounded l lower upper k = (((apart mark.Assign then clear (expressed l lower)) then apart mark.Below) then clear (expressed l upper)) then stepped k

headed : (l : Labels) (level : ℕ) (h : Head) → Runs Clear (heading_of l level h) Any
unfolding heading_of
headed l level (For lower upper k) = marked mark.For cons space cons clear (named _) cons bounded l lower upper k
headed l level (While e) = marked mark.While cons space cons clear (expressed l e)

opening : (l : Labels) (level : ℕ) (h : Head) → Runs Clear (opening_line l level h) Clear
unfolding opening_line
opening l level h = lined level (heading_of (in_head l) level h ++ Space ∷ plain mark.OpenBrace ∷ []) (headed (in_head l) level h then (space cons marked mark.OpenBrace))

looped : (l : Labels) (level : ℕ) (xs : List Loop) → Runs Clear (loop_lines l level xs) Clear
unfolding loop_lines
looped l level [] = nil
looped l level (x ∷ xs) = (((opening l level x.head then stated-all (in_pre l level) x.pre (level + 1)) then looped l (level + 1) xs) then stated-all (in_post l level) x.post (level + 1)) then lined level close_line close-lined

-- Scripts

operated : (n : ℕ) → Runs Any (operand n) Any
operated n = space cons clear (numbered n)

operated-signed : (z : ℤ) → Runs Any (signed_operand z) Any
operated-signed z = space cons clear (valued z)

worded : (w : CommandWord) → Runs Clear (command_name w ∷ []) Any
worded w = clear (named _)

commanded : (c : Command) → Runs Clear (command_of c) Any
unfolding command_of
commanded (Seq n) = worded _ cons operated n
commanded (Swap a b) = worded _ cons (operated a then operated b)
commanded (Skew a b m) = worded _ cons ((operated a then operated b) then operated-signed m)
commanded (Tile a n) = worded _ cons (operated a then operated-signed n)
commanded (Par rows) = worded _ cons all operand operated rows.items
commanded (Wave rows) = worded _ cons all operand operated rows.items

next-commanded : (c : Command) → Runs Any (next_command c) Any
next-commanded c = semicolon cons space cons commanded c

commands : (cs : Script) → Runs Clear (commands_of cs) Clear
unfolding commands_of
commands [] = nil
commands (c ∷ cs) = (commanded c then all next_command next-commanded cs) then space

candidate-lined : (cs : Script) → Runs Clear (candidate_line cs) Clear
unfolding candidate_line
candidate-lined cs = lined 0 _ (marked mark.Candidate cons space cons marked mark.OpenBrace cons space cons (commands cs then anywhere close-brace))

-- Contents

version-lined : (v : Version) → Runs Clear (version_line v) Clear
unfolding version_line
version-lined v = lined 0 _ (marked mark.Nest cons operated _)

scalar-lined : (c : Scalar) → Runs Clear (scalar_line c) Clear
unfolding scalar_line
scalar-lined c = lined 0 _ (marked mark.Scalar cons space cons clear (named c.name) cons (apart mark.Assign then clear (valued c.value)))

memory-lined : (n : ℕ) → Runs Clear (memory_line n) Clear
unfolding memory_line
memory-lined n = lined 0 _ (marked mark.Memory cons operated n)

next-valued : (v : ℤ) → Runs Any (next_value v) Any
next-valued v = comma cons operated-signed v

values : (vs : List ℤ) → Runs Any (value_list vs) Any
unfolding value_list
values [] = nil
values (v ∷ vs) = operated-signed v then all next_value next-valued vs

item-lined : (i : Item) → Runs Clear (item_line i) Clear
unfolding item_line
item-lined (Data first vs) = lined 0 _ (marked mark.Data cons (operated first then (colon cons values vs)))
item-lined (Ramp first count stride start growth) = lined 0 _ (marked mark.Ramp cons ((((operated first then operated count) then operated stride) then operated-signed start) then operated-signed growth))

united : (scalars : List Scalar) (u : NestUnit) → Runs Clear (unit_lines scalars u) Clear
unfolding unit_lines
united scalars u = looped (labels_in scalars u.names) 0 u.nest.loops then all candidate_line candidate-lined u.scripts

filed : (f : File) → Runs Clear (pieces f) Clear
unfolding pieces
filed f = (((version-lined f.version then all scalar_line scalar-lined f.scalars) then memory-lined f.words) then all item_line item-lined f.items) then all (unit_lines f.scalars) (united f.scalars) f.units

file-laid : (f : File) → Laid Free (pieces f)
file-laid f = subst (λ (l : List Piece). Laid Free l) (append-nil (pieces f)) ((filed f).lays Free tt [] (λ t b. tt))

-- The tokens of the canonical text of a file are the words of its pieces.
pub file-layout : (f : File) → AllWritten (pieces f) → map (λ x. x.token) (tokens (canonical f)) ≡ words (pieces f)
unfolding canonical
file-layout f h = pieces-read Free (pieces f) (length (text_of (pieces f))) (file-laid f) h

pub file-walks : (f : File) → AllWritten (pieces f) → Walks (pieces f) (length (canonical f)) (tokens (canonical f)) []
file-walks f h = words-walk (pieces f) (length (canonical f)) (tokens (canonical f)) (file-layout f h)
