-- Loops: each production as a reading.
use Rattle.std.specs.Prelude.{ℕ, zero, suc, ℤ, pos, List, [], ◌∷◌, ◌++◌, Option, Some, None, Bool, true, false, not, if◌then◌else◌}
use Rattle.nest_lang.specs.declared.tree.Place.TheVariants as place
use Rattle.nest_lang.specs.declared.tree.Stmt.{Stmt}
use Rattle.nest_lang.specs.declared.tree.Head.{Head}
use Rattle.nest_lang.specs.declared.tree.Head.TheVariants as head
use Rattle.nest_lang.specs.declared.tree.Loop.{Loop}
use Rattle.nest_lang.specs.Values.{same}
use Rattle.nest_tokens.specs.declared.token.Name.{Name}
use Rattle.nest_tokens.specs.declared.token.Mark.TheVariants as mark
use Rattle.nest_tokens.specs.declared.token.Token.{Token}
use Rattle.nest_tokens.specs.declared.token.Token.TheVariants as token
use Rattle.nest_tokens.specs.Tokens.{is_mark}
use Rattle.nest_grammar.specs.declared.file.LoopNames.{LoopNames}
use Rattle.nest_grammar.specs.declared.opening.LoopKeyword.{LoopKeyword}
use Rattle.nest_grammar.specs.declared.opening.LoopKeyword.TheVariants as word
use Rattle.nest_grammar.specs.declared.fault.TextKind.TheVariants as kind
use Rattle.nest_grammar.specs.Sights.{stands}
use Rattle.nest_grammar.specs.Readings.{Reading, ◌>>=◌, gives, refused, wrong, skipped, need, obeys, signed_where}
use Rattle.nest_grammar.specs.Names.{Names, declared, fresh}
use Rattle.nest_grammar.specs.Expressions.{expression}
use Rattle.nest_grammar.specs.Statements.{block, block_begins}

-- the word that a loop begins with
unfoldable pub loop_keyword : Token → Option LoopKeyword
loop_keyword (token.Plain mark.For) = Some word.For
loop_keyword (token.Plain mark.While) = Some word.While
loop_keyword _ = None

-- loops, the outermost first, and their names
abbrev pub Loops : Type 0
Loops = List Loop × List LoopNames

abbrev pub not_zero : ℤ → Bool
not_zero v = not (same v (pos 0))

abbrev pub stride_at : Bool → Reading ℤ
stride_at true = skipped >>= λ _. signed_where not_zero kind.Range
stride_at false = gives (pos 1)

-- [ "step" signed ]
abbrev pub stride : Reading ℤ
stride s = stride_at (is_mark mark.Step (stands s)) s

-- "for" name "=" expr "below" expr [ "step" signed ] | "while" expr: the head, a block of its own, and
-- the name of the turns
abbrev pub heading : Names → LoopKeyword → Reading (Head × Option Name)
heading names word.For = skipped >>= λ _. fresh names >>= λ n. need mark.Assign >>= λ _. block_begins >>= λ _. expression names >>= λ lower. need mark.Below >>= λ _. expression names >>= λ upper. stride >>= λ k. gives (head.For lower upper k, Some n)
heading names word.While = skipped >>= λ _. block_begins >>= λ _. expression names >>= λ e. gives (head.While e, None)

-- the names that are visible in a loop's body
abbrev pub inside : Names → ℕ → Option Name → Names
inside names level (Some n) = names ++ declared n (place.Counter level) ∷ []
inside names level None = names

-- the inner loops, and the statements behind them with the names of their locals
abbrev pub Rest : Type 0
Rest = Loops × (List Stmt × List Name)

abbrev pub rest_at : Reading Loops → Names → Option LoopKeyword → Reading Rest
rest_at loops names (Some w) = loops >>= λ ls. block names >>= λ post. gives (ls, post)
rest_at loops names None = gives (([], []), ([], []))

-- [ loop { stmt } ]
abbrev pub rest_of : Reading Loops → Names → Reading Rest
rest_of loops names s = rest_at loops names (loop_keyword (stands s)) s

-- a body has a statement or an inner loop
abbrev pub has_any : List Stmt → List Loop → Bool
has_any [] [] = false
has_any (st ∷ sts) ls = true
has_any [] (l ∷ ls) = true

-- the "}" of a body
unfoldable pub body_end : List Stmt → List Loop → Reading (Unit {0})
body_end pre ls s = if is_mark mark.CloseBrace (stands s) then (obeys (has_any pre ls) kind.Empty >>= λ _. skipped) s else wrong s

-- a loop around its inner loops
abbrev pub around : Head × Option Name → List Stmt × List Name → Rest → Loops
around h pre x = (record { head = h.0; pre = pre.0; post = x.1.0 } ∷ x.0.0, record { counter = h.1; pre = pre.1; post = x.1.1 } ∷ x.0.1)

-- head "{" { stmt } [ loop { stmt } ] "}", at a level from 0, with how its inner loops are read
abbrev pub loop_of : (Names → Reading Loops) → ℕ → Names → LoopKeyword → Reading Loops
loop_of inner level names w = heading names w >>= λ h. need mark.OpenBrace >>= λ _. block (inside names level h.1) >>= λ pre. rest_of (inner (inside names level h.1)) (inside names level h.1) >>= λ x. body_end pre.0 x.0.0 >>= λ _. gives (around h pre x)

abbrev pub loop_at : (LoopKeyword → Reading Loops) → Option LoopKeyword → Reading Loops
loop_at go (Some w) = go w
loop_at go None = wrong

-- a loop at a level, where so many levels more are allowed
unfoldable pub loops : ℕ → ℕ → Names → Reading Loops
loops zero level names s = loop_at (λ w. refused kind.Deep) (loop_keyword (stands s)) s
loops (suc d) level names s = loop_at (loop_of (loops d (suc level)) level names) (loop_keyword (stands s)) s
