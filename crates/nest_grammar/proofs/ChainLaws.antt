-- Chains: each loop of the grammar step by step, in the words of what reads it. `goes`: a part was read
-- and the others are still to be read; `fails`: a part has a fault; `shorter`: what is left is less.
use Rattle.std.proofs.Common.{◌≡◌, ℕ, ◌<◌, List, [], ◌∷◌, ◌++◌, length, refl, Some, Result, Ok, Err, ℤ}
use Rattle.nest_lang.specs.declared.tree.Op.{Op}
use Rattle.nest_lang.specs.declared.tree.Expr.{Expr}
use Rattle.nest_lang.specs.declared.tree.Expr.TheVariants.{Two}
use Rattle.nest_lang.specs.declared.tree.Stmt.{Stmt}
use Rattle.nest_tokens.specs.declared.token.Mark.TheVariants as mark
use Rattle.nest_grammar.specs.declared.fault.TextFault.{TextFault}
use Rattle.nest_grammar.specs.declared.file.Scalar.{Scalar}
use Rattle.nest_grammar.specs.declared.file.Item.{Item}
use Rattle.nest_grammar.specs.declared.file.NestUnit.{NestUnit}
use Rattle.nest_grammar.specs.declared.opening.Opening.{Opening}
use Rattle.nest_grammar.specs.declared.opening.LoopKeyword.{LoopKeyword}
use Rattle.nest_grammar.specs.declared.opening.ItemKeyword.{ItemKeyword}
use Rattle.nest_grammar.specs.Sights.{Sight, stands}
use Rattle.nest_grammar.specs.Readings.{Reading, at_mark, many, always}
use Rattle.nest_grammar.specs.Names.{Names}
use Rattle.nest_grammar.specs.Expressions.{product_of, addition_of, taken, operated, unary, term}
use Rattle.nest_grammar.specs.Statements.{opening_of, statement, another}
use Rattle.nest_grammar.specs.Loops.{loop_keyword}
use Rattle.nest_grammar.specs.Scripts.{Script, row_begins, next_row, next_command, candidate}
use Rattle.nest_grammar.specs.Contents.{scalar, item_keyword, item, next_value, next_unit}
use Rattle.nest_grammar.proofs.PartAfterPartLaws.{Parts, many-stop, many-goes, many-fails, many-shorter}
use Rattle.nest_grammar.proofs.ProductionLaws.{IsPart, parts-operated, local-unary, local-term, parts-another, parts-at_mark, part-scalar, parts-item, part-next_value, parts-next_row, part-next_command, part-candidate, parts-next_unit}

-- Terms and sums

pub parts-term : (names : Names) (d : ℕ) → Parts product_of (operated (unary names d))
unfolding product_of
parts-term names d = parts-operated product_of (unary names d) refl (local-unary names d)

pub parts-sum : (names : Names) (d : ℕ) → Parts addition_of (operated (term names d))
unfolding addition_of
parts-sum names d = parts-operated addition_of (term names d) refl (local-term names d)

pub operated-ok : (part : Reading Expr) (o : Op) (a b : Expr) (s t u : Sight) → taken s ≡ Ok (tt, t) → part t ≡ Ok (b, u) → operated part o a s ≡ Ok (Two o a b, u)
operated-ok part o a b s t u h k = rw (h, k) refl

pub operated-fails : (part : Reading Expr) (o : Op) (a : Expr) (s t : Sight) (f : TextFault) → taken s ≡ Ok (tt, t) → part t ≡ Err f → operated part o a s ≡ Err f
operated-fails part o a s t f h k = rw (h, k) refl

pub operated-full : (part : Reading Expr) (o : Op) (a : Expr) (s : Sight) (f : TextFault) → taken s ≡ Err f → operated part o a s ≡ Err f
operated-full part o a s f h = rw h refl

pub term-goes : (names : Names) (d : ℕ) (a b : Expr) (s t u : Sight) (o : Op) (whole : Result (Expr × Sight) TextFault) → product_of (stands s) ≡ Some o → taken s ≡ Ok (tt, t) → unary names d t ≡ Ok (b, u) → many product_of (operated (unary names d)) a s ≡ whole → many product_of (operated (unary names d)) (Two o a b) u ≡ whole
term-goes names d a b s t u o whole e h k w = many-goes product_of (operated (unary names d)) a (Two o a b) s u o whole (parts-term names d) e (operated-ok (unary names d) o a b s t u h k) w

pub term-fails : (names : Names) (d : ℕ) (a : Expr) (s t : Sight) (o : Op) (f : TextFault) (whole : Result (Expr × Sight) TextFault) → product_of (stands s) ≡ Some o → taken s ≡ Ok (tt, t) → unary names d t ≡ Err f → many product_of (operated (unary names d)) a s ≡ whole → whole ≡ Err f
term-fails names d a s t o f whole e h k w = many-fails product_of (operated (unary names d)) a s o f whole (parts-term names d) e (operated-fails (unary names d) o a s t f h k) w

pub term-full : (names : Names) (d : ℕ) (a : Expr) (s : Sight) (o : Op) (f : TextFault) (whole : Result (Expr × Sight) TextFault) → product_of (stands s) ≡ Some o → taken s ≡ Err f → many product_of (operated (unary names d)) a s ≡ whole → whole ≡ Err f
term-full names d a s o f whole e h w = many-fails product_of (operated (unary names d)) a s o f whole (parts-term names d) e (operated-full (unary names d) o a s f h) w

pub term-shorter : (names : Names) (d : ℕ) (b : Expr) (s t u : Sight) (o : Op) → product_of (stands s) ≡ Some o → taken s ≡ Ok (tt, t) → unary names d t ≡ Ok (b, u) → length u.left < length s.left
term-shorter names d b s t u o e h k = many-shorter product_of (operated (unary names d)) b (Two o b b) s u o (parts-term names d) e (operated-ok (unary names d) o b b s t u h k)

pub sum-goes : (names : Names) (d : ℕ) (a b : Expr) (s t u : Sight) (o : Op) (whole : Result (Expr × Sight) TextFault) → addition_of (stands s) ≡ Some o → taken s ≡ Ok (tt, t) → term names d t ≡ Ok (b, u) → many addition_of (operated (term names d)) a s ≡ whole → many addition_of (operated (term names d)) (Two o a b) u ≡ whole
sum-goes names d a b s t u o whole e h k w = many-goes addition_of (operated (term names d)) a (Two o a b) s u o whole (parts-sum names d) e (operated-ok (term names d) o a b s t u h k) w

pub sum-fails : (names : Names) (d : ℕ) (a : Expr) (s t : Sight) (o : Op) (f : TextFault) (whole : Result (Expr × Sight) TextFault) → addition_of (stands s) ≡ Some o → taken s ≡ Ok (tt, t) → term names d t ≡ Err f → many addition_of (operated (term names d)) a s ≡ whole → whole ≡ Err f
sum-fails names d a s t o f whole e h k w = many-fails addition_of (operated (term names d)) a s o f whole (parts-sum names d) e (operated-fails (term names d) o a s t f h k) w

pub sum-full : (names : Names) (d : ℕ) (a : Expr) (s : Sight) (o : Op) (f : TextFault) (whole : Result (Expr × Sight) TextFault) → addition_of (stands s) ≡ Some o → taken s ≡ Err f → many addition_of (operated (term names d)) a s ≡ whole → whole ≡ Err f
sum-full names d a s o f whole e h w = many-fails addition_of (operated (term names d)) a s o f whole (parts-sum names d) e (operated-full (term names d) o a s f h) w

pub sum-shorter : (names : Names) (d : ℕ) (b : Expr) (s t u : Sight) (o : Op) → addition_of (stands s) ≡ Some o → taken s ≡ Ok (tt, t) → term names d t ≡ Ok (b, u) → length u.left < length s.left
sum-shorter names d b s t u o e h k = many-shorter addition_of (operated (term names d)) b (Two o b b) s u o (parts-sum names d) e (operated-ok (term names d) o b b s t u h k)

-- Statements, whatever reads their conditions

pub another-ok : (branch : Names → Reading Stmt) (o : Opening) (xs : List Stmt) (names ns : Names) (st : Stmt) (s t : Sight) → statement (branch names) names o s ≡ Ok ((st, ns), t) → another branch o (xs, names) s ≡ Ok ((xs ++ st ∷ [], ns), t)
another-ok branch o xs names ns st s t h = rw h refl

pub another-fails : (branch : Names → Reading Stmt) (o : Opening) (xs : List Stmt) (names : Names) (s : Sight) (f : TextFault) → statement (branch names) names o s ≡ Err f → another branch o (xs, names) s ≡ Err f
another-fails branch o xs names s f h = rw h refl

pub statement-goes : (branch : Names → Reading Stmt) (xs : List Stmt) (names ns : Names) (st : Stmt) (s t : Sight) (o : Opening) (whole : Result ((List Stmt × Names) × Sight) TextFault) → ((ns : Names) → IsPart (branch ns)) → opening_of (stands s) ≡ Some o → statement (branch names) names o s ≡ Ok ((st, ns), t) → many opening_of (another branch) (xs, names) s ≡ whole → many opening_of (another branch) (xs ++ st ∷ [], ns) t ≡ whole
statement-goes branch xs names ns st s t o whole p e h w = many-goes opening_of (another branch) (xs, names) (xs ++ st ∷ [], ns) s t o whole (parts-another branch p) e (another-ok branch o xs names ns st s t h) w

pub statement-fails : (branch : Names → Reading Stmt) (xs : List Stmt) (names : Names) (s : Sight) (o : Opening) (f : TextFault) (whole : Result ((List Stmt × Names) × Sight) TextFault) → ((ns : Names) → IsPart (branch ns)) → opening_of (stands s) ≡ Some o → statement (branch names) names o s ≡ Err f → many opening_of (another branch) (xs, names) s ≡ whole → whole ≡ Err f
statement-fails branch xs names s o f whole p e h w = many-fails opening_of (another branch) (xs, names) s o f whole (parts-another branch p) e (another-fails branch o xs names s f h) w

pub statement-shorter : (branch : Names → Reading Stmt) (names ns : Names) (st : Stmt) (s t : Sight) (o : Opening) → ((ns : Names) → IsPart (branch ns)) → opening_of (stands s) ≡ Some o → statement (branch names) names o s ≡ Ok ((st, ns), t) → length t.left < length s.left
statement-shorter branch names ns st s t o p e h = many-shorter opening_of (another branch) ([], names) (st ∷ [], ns) s t o (parts-another branch p) e (another-ok branch o [] names ns st s t h)

-- Scalars

pub parts-scalar : Parts (at_mark mark.Scalar) (always scalar)
parts-scalar = parts-at_mark mark.Scalar (always scalar) part-scalar

pub scalar-goes : (cs ds : List Scalar) (s t : Sight) (u : Unit {0}) (whole : Result (List Scalar × Sight) TextFault) → at_mark mark.Scalar (stands s) ≡ Some u → scalar cs s ≡ Ok (ds, t) → many (at_mark mark.Scalar) (always scalar) cs s ≡ whole → many (at_mark mark.Scalar) (always scalar) ds t ≡ whole
scalar-goes cs ds s t u whole e h w = many-goes (at_mark mark.Scalar) (always scalar) cs ds s t u whole parts-scalar e h w

pub scalar-fails : (cs : List Scalar) (s : Sight) (u : Unit {0}) (f : TextFault) (whole : Result (List Scalar × Sight) TextFault) → at_mark mark.Scalar (stands s) ≡ Some u → scalar cs s ≡ Err f → many (at_mark mark.Scalar) (always scalar) cs s ≡ whole → whole ≡ Err f
scalar-fails cs s u f whole e h w = many-fails (at_mark mark.Scalar) (always scalar) cs s u f whole parts-scalar e h w

pub scalar-shorter : (cs ds : List Scalar) (s t : Sight) (u : Unit {0}) → at_mark mark.Scalar (stands s) ≡ Some u → scalar cs s ≡ Ok (ds, t) → length t.left < length s.left
scalar-shorter cs ds s t u e h = many-shorter (at_mark mark.Scalar) (always scalar) cs ds s t u parts-scalar e h

-- Items

pub item-goes : (words : ℕ) (is js : List Item) (s t : Sight) (w : ItemKeyword) (whole : Result (List Item × Sight) TextFault) → item_keyword (stands s) ≡ Some w → item words w is s ≡ Ok (js, t) → many item_keyword (item words) is s ≡ whole → many item_keyword (item words) js t ≡ whole
item-goes words is js s t w whole e h k = many-goes item_keyword (item words) is js s t w whole (parts-item words) e h k

pub item-fails : (words : ℕ) (is : List Item) (s : Sight) (w : ItemKeyword) (f : TextFault) (whole : Result (List Item × Sight) TextFault) → item_keyword (stands s) ≡ Some w → item words w is s ≡ Err f → many item_keyword (item words) is s ≡ whole → whole ≡ Err f
item-fails words is s w f whole e h k = many-fails item_keyword (item words) is s w f whole (parts-item words) e h k

pub item-shorter : (words : ℕ) (is js : List Item) (s t : Sight) (w : ItemKeyword) → item_keyword (stands s) ≡ Some w → item words w is s ≡ Ok (js, t) → length t.left < length s.left
item-shorter words is js s t w e h = many-shorter item_keyword (item words) is js s t w (parts-item words) e h

-- Values of data

pub parts-value : (words address : ℕ) → Parts (at_mark mark.Comma) (always (next_value words address))
parts-value words address = parts-at_mark mark.Comma (always (next_value words address)) (part-next_value words address)

pub value-goes : (words address : ℕ) (vs ws : List ℤ) (s t : Sight) (u : Unit {0}) (whole : Result (List ℤ × Sight) TextFault) → at_mark mark.Comma (stands s) ≡ Some u → next_value words address vs s ≡ Ok (ws, t) → many (at_mark mark.Comma) (always (next_value words address)) vs s ≡ whole → many (at_mark mark.Comma) (always (next_value words address)) ws t ≡ whole
value-goes words address vs ws s t u whole e h w = many-goes (at_mark mark.Comma) (always (next_value words address)) vs ws s t u whole (parts-value words address) e h w

pub value-fails : (words address : ℕ) (vs : List ℤ) (s : Sight) (u : Unit {0}) (f : TextFault) (whole : Result (List ℤ × Sight) TextFault) → at_mark mark.Comma (stands s) ≡ Some u → next_value words address vs s ≡ Err f → many (at_mark mark.Comma) (always (next_value words address)) vs s ≡ whole → whole ≡ Err f
value-fails words address vs s u f whole e h w = many-fails (at_mark mark.Comma) (always (next_value words address)) vs s u f whole (parts-value words address) e h w

pub value-shorter : (words address : ℕ) (vs ws : List ℤ) (s t : Sight) (u : Unit {0}) → at_mark mark.Comma (stands s) ≡ Some u → next_value words address vs s ≡ Ok (ws, t) → length t.left < length s.left
value-shorter words address vs ws s t u e h = many-shorter (at_mark mark.Comma) (always (next_value words address)) vs ws s t u (parts-value words address) e h

-- Rows

pub row-goes : (depth : ℕ) (ns ms : List ℕ) (s t : Sight) (u : Unit {0}) (whole : Result (List ℕ × Sight) TextFault) → row_begins (stands s) ≡ Some u → next_row depth ns s ≡ Ok (ms, t) → many row_begins (always (next_row depth)) ns s ≡ whole → many row_begins (always (next_row depth)) ms t ≡ whole
row-goes depth ns ms s t u whole e h w = many-goes row_begins (always (next_row depth)) ns ms s t u whole (parts-next_row depth) e h w

pub row-fails : (depth : ℕ) (ns : List ℕ) (s : Sight) (u : Unit {0}) (f : TextFault) (whole : Result (List ℕ × Sight) TextFault) → row_begins (stands s) ≡ Some u → next_row depth ns s ≡ Err f → many row_begins (always (next_row depth)) ns s ≡ whole → whole ≡ Err f
row-fails depth ns s u f whole e h w = many-fails row_begins (always (next_row depth)) ns s u f whole (parts-next_row depth) e h w

pub row-shorter : (depth : ℕ) (ns ms : List ℕ) (s t : Sight) (u : Unit {0}) → row_begins (stands s) ≡ Some u → next_row depth ns s ≡ Ok (ms, t) → length t.left < length s.left
row-shorter depth ns ms s t u e h = many-shorter row_begins (always (next_row depth)) ns ms s t u (parts-next_row depth) e h

-- Commands

pub parts-command : (depth : ℕ) → Parts (at_mark mark.Semicolon) (always (next_command depth))
parts-command depth = parts-at_mark mark.Semicolon (always (next_command depth)) (part-next_command depth)

pub command-goes : (depth : ℕ) (cs ds : Script) (s t : Sight) (u : Unit {0}) (whole : Result (Script × Sight) TextFault) → at_mark mark.Semicolon (stands s) ≡ Some u → next_command depth cs s ≡ Ok (ds, t) → many (at_mark mark.Semicolon) (always (next_command depth)) cs s ≡ whole → many (at_mark mark.Semicolon) (always (next_command depth)) ds t ≡ whole
command-goes depth cs ds s t u whole e h w = many-goes (at_mark mark.Semicolon) (always (next_command depth)) cs ds s t u whole (parts-command depth) e h w

pub command-fails : (depth : ℕ) (cs : Script) (s : Sight) (u : Unit {0}) (f : TextFault) (whole : Result (Script × Sight) TextFault) → at_mark mark.Semicolon (stands s) ≡ Some u → next_command depth cs s ≡ Err f → many (at_mark mark.Semicolon) (always (next_command depth)) cs s ≡ whole → whole ≡ Err f
command-fails depth cs s u f whole e h w = many-fails (at_mark mark.Semicolon) (always (next_command depth)) cs s u f whole (parts-command depth) e h w

pub command-shorter : (depth : ℕ) (cs ds : Script) (s t : Sight) (u : Unit {0}) → at_mark mark.Semicolon (stands s) ≡ Some u → next_command depth cs s ≡ Ok (ds, t) → length t.left < length s.left
command-shorter depth cs ds s t u e h = many-shorter (at_mark mark.Semicolon) (always (next_command depth)) cs ds s t u (parts-command depth) e h

-- Candidates

pub parts-candidate : (depth : ℕ) → Parts (at_mark mark.Candidate) (always (candidate depth))
parts-candidate depth = parts-at_mark mark.Candidate (always (candidate depth)) (part-candidate depth)

pub candidate-goes : (depth : ℕ) (cs ds : List Script) (s t : Sight) (u : Unit {0}) (whole : Result (List Script × Sight) TextFault) → at_mark mark.Candidate (stands s) ≡ Some u → candidate depth cs s ≡ Ok (ds, t) → many (at_mark mark.Candidate) (always (candidate depth)) cs s ≡ whole → many (at_mark mark.Candidate) (always (candidate depth)) ds t ≡ whole
candidate-goes depth cs ds s t u whole e h w = many-goes (at_mark mark.Candidate) (always (candidate depth)) cs ds s t u whole (parts-candidate depth) e h w

pub candidate-fails : (depth : ℕ) (cs : List Script) (s : Sight) (u : Unit {0}) (f : TextFault) (whole : Result (List Script × Sight) TextFault) → at_mark mark.Candidate (stands s) ≡ Some u → candidate depth cs s ≡ Err f → many (at_mark mark.Candidate) (always (candidate depth)) cs s ≡ whole → whole ≡ Err f
candidate-fails depth cs s u f whole e h w = many-fails (at_mark mark.Candidate) (always (candidate depth)) cs s u f whole (parts-candidate depth) e h w

pub candidate-shorter : (depth : ℕ) (cs ds : List Script) (s t : Sight) (u : Unit {0}) → at_mark mark.Candidate (stands s) ≡ Some u → candidate depth cs s ≡ Ok (ds, t) → length t.left < length s.left
candidate-shorter depth cs ds s t u e h = many-shorter (at_mark mark.Candidate) (always (candidate depth)) cs ds s t u (parts-candidate depth) e h

-- Nests

pub unit-goes : (names : Names) (us vs : List NestUnit) (s t : Sight) (w : LoopKeyword) (whole : Result (List NestUnit × Sight) TextFault) → loop_keyword (stands s) ≡ Some w → next_unit names w us s ≡ Ok (vs, t) → many loop_keyword (next_unit names) us s ≡ whole → many loop_keyword (next_unit names) vs t ≡ whole
unit-goes names us vs s t w whole e h k = many-goes loop_keyword (next_unit names) us vs s t w whole (parts-next_unit names) e h k

pub unit-fails : (names : Names) (us : List NestUnit) (s : Sight) (w : LoopKeyword) (f : TextFault) (whole : Result (List NestUnit × Sight) TextFault) → loop_keyword (stands s) ≡ Some w → next_unit names w us s ≡ Err f → many loop_keyword (next_unit names) us s ≡ whole → whole ≡ Err f
unit-fails names us s w f whole e h k = many-fails loop_keyword (next_unit names) us s w f whole (parts-next_unit names) e h k

pub unit-shorter : (names : Names) (us vs : List NestUnit) (s t : Sight) (w : LoopKeyword) → loop_keyword (stands s) ≡ Some w → next_unit names w us s ≡ Ok (vs, t) → length t.left < length s.left
unit-shorter names us vs s t w e h = many-shorter loop_keyword (next_unit names) us vs s t w (parts-next_unit names) e h

pub ruleset operator_chains = (many-stop, term-goes, term-fails, term-full, term-shorter, sum-goes, sum-fails, sum-full, sum-shorter)

pub ruleset statement_chains = (many-stop, statement-goes, statement-fails, statement-shorter)

pub ruleset script_chains = (many-stop, row-goes, row-fails, row-shorter, command-goes, command-fails, command-shorter, candidate-goes, candidate-fails, candidate-shorter)

pub ruleset content_chains = (many-stop, scalar-goes, scalar-fails, scalar-shorter, item-goes, item-fails, item-shorter, value-goes, value-fails, value-shorter, unit-goes, unit-fails, unit-shorter)
