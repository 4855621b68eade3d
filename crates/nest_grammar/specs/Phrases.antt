-- Phrases: the productions of the grammar by themselves, as they are written, with no rule on names,
-- numbers or how many; which lists of tokens they allow; and how the reading of a text stands to them.
use Rattle.std.specs.Prelude.{◌≡◌, ℕ, List, [], ◌∷◌, ◌++◌, Some, Ok, Err, Bool, true, false}
use Rattle.nest_tokens.specs.declared.token.Name.{Name as TokenName}
use Rattle.nest_tokens.specs.declared.token.Mark.{Mark}
use Rattle.nest_tokens.specs.declared.token.Mark.TheVariants as mark
use Rattle.nest_tokens.specs.declared.token.Token.{Token}
use Rattle.nest_tokens.specs.declared.token.Token.TheVariants as token
use Rattle.nest_tokens.specs.declared.token.Spot.{Spot}
use Rattle.nest_tokens.specs.Lexing.{tokens}
use Rattle.nest_grammar.specs.declared.fault.TextFault.{TextFault}
use Rattle.nest_grammar.specs.declared.fault.TextKind.{TextKind}
use Rattle.nest_grammar.specs.declared.fault.TextKind.TheVariants as kind
use Rattle.nest_grammar.specs.declared.file.File.{File as NestFile}
use Rattle.nest_grammar.specs.declared.script.CommandWord.{CommandWord}
use Rattle.nest_grammar.specs.declared.script.CommandWord.TheVariants as word
use Rattle.nest_grammar.specs.Scripts.{command_word}
use Rattle.nest_grammar.specs.Contents.{reading}
use Rattle.nest_grammar.specs.Beginnings.{with_end}
use Rattle.nest_grammar.specs.Kinds.{comes_at}

-- the productions
pub data Production : Type 0 where
  File Unit Scalar Item Loop Body Stmt Expr Sum Term Unary Signed Candidate Command : Production

-- How a production is written: a sign or a keyword, a certain number, any number, any name, a
-- command's word, one form behind another, one of two, any number of times, or a production.
pub data Form : Type 0 where
  Nothing : Form
  Sign : Mark → Form
  Numeral : ℕ → Form
  Number : Form
  Name : Form
  Verb : CommandWord → Form
  Then : Form → Form → Form
  Or : Form → Form → Form
  Many : Form → Form
  The : Production → Form

infixr 8 ◌·◌
abbrev pub ◌·◌ : Form → Form → Form
f · g = Then f g

infixr 6 ◌∣◌
abbrev pub ◌∣◌ : Form → Form → Form
f ∣ g = Or f g

abbrev pub maybe : Form → Form
maybe f = f ∣ Nothing

-- the grammar
abbrev pub rule : Production → Form
rule File =
    Sign mark.Nest · Numeral 1 · Many (The Scalar) · Sign mark.Memory · Number · Many (The Item) · The Loop · Many (The Candidate)
    ∣ Sign mark.Nest · Numeral 2 · Many (The Scalar) · Sign mark.Memory · Number · Many (The Item) · The Unit · Many (The Unit)
rule Unit = The Loop · Many (The Candidate)
rule Scalar = Sign mark.Scalar · Name · Sign mark.Assign · The Signed
rule Item =
    Sign mark.Data · Number · Sign mark.Colon · The Signed · Many (Sign mark.Comma · The Signed)
    ∣ Sign mark.Ramp · Number · Number · Number · The Signed · The Signed
rule Loop =
    Sign mark.For · Name · Sign mark.Assign · The Expr · Sign mark.Below · The Expr · maybe (Sign mark.Step · The Signed) · The Body
    ∣ Sign mark.While · The Expr · The Body
rule Body = Sign mark.OpenBrace · Many (The Stmt) · maybe (The Loop · Many (The Stmt)) · Sign mark.CloseBrace
rule Stmt =
    Sign mark.Let · Name · Sign mark.Assign · The Expr
    ∣ Name · Sign mark.Assign · The Expr
    ∣ Sign mark.OpenBracket · The Expr · Sign mark.CloseBracket · Sign mark.Assign · The Expr
    ∣ Sign mark.If · The Expr · Sign mark.OpenBrace · Many (The Stmt) · Sign mark.CloseBrace · maybe (Sign mark.Else · Sign mark.OpenBrace · Many (The Stmt) · Sign mark.CloseBrace)
rule Expr = The Sum · maybe ((Sign mark.Equal ∣ Sign mark.NotEqual ∣ Sign mark.Less ∣ Sign mark.AtMost ∣ Sign mark.Greater ∣ Sign mark.AtLeast) · The Sum)
rule Sum = The Term · Many ((Sign mark.Plus ∣ Sign mark.Minus) · The Term)
rule Term = The Unary · Many ((Sign mark.Times ∣ Sign mark.Divide ∣ Sign mark.Remainder) · The Unary)
rule Unary =
    Sign mark.Minus · The Unary
    ∣ Number
    ∣ Name
    ∣ Sign mark.OpenBracket · The Expr · Sign mark.CloseBracket
    ∣ Sign mark.Open · The Expr · Sign mark.Close
rule Signed = maybe (Sign mark.Minus) · Number
rule Candidate = Sign mark.Candidate · Sign mark.OpenBrace · maybe (The Command · Many (Sign mark.Semicolon · The Command)) · Sign mark.CloseBrace
rule Command =
    Verb word.Seq · Number
    ∣ Verb word.Swap · Number · Number
    ∣ Verb word.Skew · Number · Number · The Signed
    ∣ Verb word.Tile · Number · Number
    ∣ Verb word.Par · Number · Many Number
    ∣ Verb word.Wave · Number · Many Number

-- `Allows f ts`: the tokens ts are written as f
pub data Allows : Form → List Token → Type 0 where
  nothing : Allows Nothing []
  sign : {m : Mark} → Allows (Sign m) (token.Plain m ∷ [])
  numeral : {n : ℕ} → Allows (Numeral n) (token.Number n ∷ [])
  number : {n : ℕ} → Allows Number (token.Number n ∷ [])
  name : {n : TokenName} → Allows Name (token.Name n ∷ [])
  verb : {w : CommandWord} {t : Token} → command_word t ≡ Some w → Allows (Verb w) (t ∷ [])
  both : {f g : Form} {xs ys : List Token} → Allows f xs → Allows g ys → Allows (f · g) (xs ++ ys)
  one : {f g : Form} {xs : List Token} → Allows f xs → Allows (f ∣ g) xs
  other : {f g : Form} {xs : List Token} → Allows g xs → Allows (f ∣ g) xs
  none : {f : Form} → Allows (Many f) []
  more : {f : Form} {xs ys : List Token} → Allows f xs → Allows (Many f) ys → Allows (Many f) (xs ++ ys)
  the : {p : Production} {xs : List Token} → Allows (rule p) xs → Allows (The p) xs

-- the tokens without their places
abbrev pub shown : List Spot → List Token
shown [] = []
shown (x ∷ xs) = x.token ∷ shown xs

-- These tokens begin something that is written as f.
abbrev pub Begins : Form → List Token → Type 0
Begins f ts = (fill : List Token) × Allows f (ts ++ fill)

-- the kinds that come only at a token that the grammar allows
abbrev pub at_allowed : TextKind → Bool
at_allowed kind.Known = true
at_allowed kind.Unknown = true
at_allowed kind.Fixed = true
at_allowed kind.Many = true
at_allowed kind.Deep = true
at_allowed kind.Range = true
at_allowed kind.Empty = true
at_allowed kind.Script = true
at_allowed _ = false

-- The tokens before the fault begin something that the grammar allows. Where a rule other than the
-- grammar's is broken, so do the tokens up to and with the one at fault. The kind is one that comes at that
-- token.
pub record FaultInSentence (text : List ℕ) (f : TextFault) : Type 0 where
  pub before : List Spot
  pub spot : Spot
  pub behind : List Spot
  pub tokens : with_end text ≡ before ++ spot ∷ behind
  pub at : f.at ≡ spot.at
  pub begins : Begins (The File) (shown before)
  pub allowed : at_allowed f.what ≡ true → Begins (The File) (shown before ++ spot.token ∷ [])
  pub comes : comes_at f.what spot.token ≡ true

-- No fault is too late, Expected among them; and only a token that the grammar allows is judged by a rule
-- that comes behind Expected.
abbrev pub FaultNotTooLate : Type 0
FaultNotTooLate = (text : List ℕ) (f : TextFault) → reading text ≡ Err f → (f.what ≡ kind.Long → ⊥) → FaultInSentence text f

-- The tokens of a text that is read are what the grammar allows.
abbrev pub ReadTextIsSentence : Type 0
ReadTextIsSentence = (text : List ℕ) (file : NestFile) → reading text ≡ Ok file → Allows (The File) (shown (tokens text))
