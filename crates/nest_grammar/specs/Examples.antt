-- Examples of readings and of faults, each computed by hand.
use Rattle.std.specs.Prelude.{◌≡◌, ℕ, zero, suc, ◌<◌, pos, negsuc, List, [], ◌∷◌, ◌++◌, length, Result, Err, Some, None, codes}
use Rattle.nest_lang.specs.declared.tree.Place.TheVariants.{Scalar as OfScalar, Local, Counter}
use Rattle.nest_lang.specs.declared.tree.Op.TheVariants.{Add, Sub, Mul, Rem, Eq, Lt}
use Rattle.nest_lang.specs.declared.tree.Expr.{Expr}
use Rattle.nest_lang.specs.declared.tree.Expr.TheVariants.{Number, Var, Load, Neg, Two}
use Rattle.nest_lang.specs.declared.tree.Stmt.TheVariants.{Let, Set, Store, If}
use Rattle.nest_lang.specs.declared.tree.Head.TheVariants.{For, While}
use Rattle.nest_lang.specs.declared.command.Command.TheVariants.{Seq, Skew, Tile, Par}
use Rattle.nest_tokens.specs.Lexing.{name_of}
use Rattle.nest_grammar.specs.declared.version.Version.TheVariants.{One, Two as Several}
use Rattle.nest_grammar.specs.declared.file.Item.TheVariants.{Data, Ramp}
use Rattle.nest_grammar.specs.declared.file.File.{File}
use Rattle.nest_grammar.specs.declared.fault.TextFault.{TextFault}
use Rattle.nest_grammar.specs.declared.fault.TextKind.{TextKind}
use Rattle.nest_grammar.specs.declared.fault.TextKind.TheVariants as kind
use Rattle.nest_grammar.specs.Contents.{reading}
use Rattle.nest_grammar.specs.Grammar.{Reads}

abbrev pub number : ℕ → Expr
number n = Number (pos n)

-- a scalar, first values, a local, branches, an inner `while`, statements behind it, and two candidates
abbrev pub whole_text : List ℕ
whole_text = codes "nest 1 scalar s = -3 memory 40 data 2: 5, -6 ramp 10 3 2 7 -1 for i = 0 below 8 step 2 { let x = [i] + 1 * s if x < 3 { [i] = x } else { s = x } while s % 2 == 0 { s = s + 1 } [s] = 1 } candidate { skew 1 2 -1; tile 2 4; par 1 } candidate { }"

abbrev pub whole_file : File
whole_file = record {
  version = One;
  scalars = record { name = name_of (codes "s"); value = negsuc 2 } ∷ [];
  words = 40;
  items = Data 2 (pos 5 ∷ negsuc 5 ∷ []) ∷ Ramp 10 3 2 (pos 7) (negsuc 0) ∷ [];
  units = record {
    nest = record {
      loops =
          record {
            head = For (number 0) (number 8) (pos 2);
            pre = Let 0 (Two Add (Load 1 (Var (Counter 0))) (Two Mul (number 1) (Var (OfScalar 0))))
                ∷ If (Two Lt (Var (Local 0)) (number 3)) (Store 2 (Var (Counter 0)) (Var (Local 0)) ∷ []) (Set 0 (Var (Local 0)) ∷ [])
                ∷ [];
            post = Store 1 (Var (OfScalar 0)) (number 1) ∷ [];
          }
          ∷ record {
            head = While (Two Eq (Two Rem (Var (OfScalar 0)) (number 2)) (number 0));
            pre = Set 0 (Two Add (Var (OfScalar 0)) (number 1)) ∷ [];
            post = [];
          }
          ∷ [];
    };
    names = record { counter = Some (name_of (codes "i")); pre = name_of (codes "x") ∷ []; post = [] } ∷ record { counter = None; pre = []; post = [] } ∷ [];
    scripts = (Skew 1 2 (negsuc 0) ∷ Tile 2 (pos 4) ∷ Par (record { items = 1 ∷ [] }) ∷ []) ∷ [] ∷ [];
  } ∷ [];
}

-- two nests, the second with parentheses that make no part of the tree
abbrev pub nests_text : List ℕ
nests_text = codes "nest 2 memory 4 for i = 0 below 2 { [i] = 1 } candidate { seq 1 } while 0 { [0] = -(1 - 2) }"

abbrev pub nests_file : File
nests_file = record {
  version = Several;
  scalars = [];
  words = 4;
  items = [];
  units =
      record {
        nest = record { loops = record { head = For (number 0) (number 2) (pos 1); pre = Store 1 (Var (Counter 0)) (number 1) ∷ []; post = [] } ∷ [] };
        names = record { counter = Some (name_of (codes "i")); pre = []; post = [] } ∷ [];
        scripts = (Seq 1 ∷ []) ∷ [];
      }
      ∷ record {
        nest = record { loops = record { head = While (number 0); pre = Store 1 (number 0) (Neg (Two Sub (number 1) (number 2))) ∷ []; post = [] } ∷ [] };
        names = record { counter = None; pre = []; post = [] } ∷ [];
        scripts = [];
      }
      ∷ [];
}

abbrev pub fault : ℕ → TextKind → Result File TextFault
fault at what = Err (record { at = at; what = what })

pub record ReadingExamples : Type 0 where
  pub whole : Reads whole_text whole_file
  pub nests : Reads nests_text nests_file

-- a text so many times
abbrev pub times : ℕ → List ℕ → List ℕ
times zero text = []
times (suc n) text = text ++ times n text

-- one store of an expression
abbrev pub store_of : List ℕ → List ℕ
store_of expression = codes "nest 1 memory 4 for i = 0 below 4 { [i] = " ++ expression ++ codes " }"

-- a fault of each kind
pub record FaultExamples : Type 0 where
  pub long : (text : List ℕ) → 1048576 < length text → reading text ≡ fault 1048576 kind.Long
  -- `!` alone is no sign
  pub byte : reading (store_of (codes "1 ! 2")) ≡ fault 44 kind.Byte
  -- what is no token comes before all that the grammar says of it
  pub large : reading (codes "nest 9223372036854775808") ≡ fault 5 kind.Number
  pub name : reading (codes "nest abcdefghijklmnopqrstuvwxyz_012345") ≡ fault 5 kind.Name
  -- a number and a name side by side: the name is not allowed
  pub expected : reading (codes "nest 1 memory 4 for i = 0 below 3abc { [i] = 1 }") ≡ fault 33 kind.Expected
  -- the end of a text is where the text ends, also behind a comment
  pub end : reading (codes "nest 1 memory 4 # a comment") ≡ fault 27 kind.Expected
  pub version : reading (codes "nest 3") ≡ fault 5 kind.Version
  pub known : reading (codes "nest 1 scalar a = 1 scalar a = 2") ≡ fault 27 kind.Known
  -- the name of a `for` is not visible in its bounds
  pub unknown : reading (codes "nest 1 memory 40 for i = 0 below i { [0] = 1 }") ≡ fault 33 kind.Unknown
  pub fixed : reading (codes "nest 1 memory 4 for i = 0 below 4 { i = 1 }") ≡ fault 36 kind.Fixed
  -- the 33rd access of a block: the store's own is the first
  pub many : reading (store_of (codes "[1]" ++ times 31 (codes " + [1]"))) ≡ fault 228 kind.Many
  -- the 33rd sign that is open at once
  pub deep : reading (store_of (times 33 (codes "-") ++ codes "1")) ≡ fault 74 kind.Deep
  -- the 257th token of an expression, and that it is not visible comes first
  pub long_sum : reading (store_of (codes "1" ++ times 128 (codes " + 1"))) ≡ fault 554 kind.Deep
  pub long_unknown : reading (store_of (codes "1" ++ times 127 (codes " + 1") ++ codes " + k")) ≡ fault 554 kind.Unknown
  -- the second value has no word, which is judged at its sign
  pub outside : reading (codes "nest 1 memory 4 data 3: 1, -2 for i = 0 below 4 { [i] = 1 }") ≡ fault 27 kind.Range
  -- nothing is judged ahead
  pub ahead : reading (codes "nest 1 memory 2000000 $") ≡ fault 14 kind.Range
  pub hollow : reading (codes "nest 1 memory 4 for i = 0 below 3 { }") ≡ fault 36 kind.Empty
  -- a nest of depth 1 has no second row
  pub row : reading (codes "nest 2 memory 4 for i = 0 below 3 { [i] = 1 } candidate { seq 2 }") ≡ fault 62 kind.Script
