-- Refusals: each limit and each rule of a file, one step past it and at it, computed by hand.
use Rattle.std.specs.Prelude.{◌≡◌, ℕ, List, [], ◌∷◌, ◌++◌, Ok, Bool, true, None, is_ok, codes}
use Rattle.nest_lang.specs.declared.tree.Op.TheVariants.{Div, Ne, Lt, Le, Gt, Ge, Eq}
use Rattle.nest_lang.specs.declared.tree.Expr.{Expr}
use Rattle.nest_lang.specs.declared.tree.Expr.TheVariants.{Two}
use Rattle.nest_lang.specs.declared.tree.Stmt.TheVariants.{Store}
use Rattle.nest_lang.specs.declared.tree.Head.TheVariants.{While}
use Rattle.nest_grammar.specs.declared.version.Version.TheVariants.{One}
use Rattle.nest_grammar.specs.declared.file.File.{File}
use Rattle.nest_grammar.specs.declared.fault.TextKind.TheVariants as kind
use Rattle.nest_grammar.specs.Contents.{reading}
use Rattle.nest_grammar.specs.Examples.{times, store_of, fault, number}

-- a candidate of a nest of depth 2
abbrev pub candidate_of : List ℕ → List ℕ
candidate_of script = codes "nest 1 memory 4 for i = 0 below 4 { for j = 0 below 2 { [i] = 1 } } candidate { " ++ script ++ codes " }"

-- an item of a memory of 4 words
abbrev pub item_of : List ℕ → List ℕ
item_of item = codes "nest 1 memory 4 " ++ item ++ codes " for i = 0 below 4 { [i] = 1 }"

pub record LimitExamples : Type 0 where
  pub words : reading (codes "nest 1 memory 1048577") ≡ fault 14 kind.Range
  pub scalars : reading (codes "nest 1 scalar a = 1 scalar b = 1 scalar c = 1 scalar d = 1 scalar e = 1 scalar f = 1 scalar g = 1 scalar h = 1 scalar i = 1 scalar j = 1 scalar k = 1 scalar l = 1 scalar m = 1 scalar n = 1 scalar o = 1 scalar p = 1 scalar q = 1") ≡ fault 215 kind.Many
  pub locals : reading (codes "nest 1 memory 4 while 1 { let a = 1 let b = 1 let c = 1 let d = 1 let e = 1 let f = 1 let g = 1 let h = 1 let i = 1 let j = 1 let k = 1 let l = 1 let m = 1 let n = 1 let o = 1 let p = 1 let q = 1 }") ≡ fault 186 kind.Many
  -- version 2 allows 64 accesses
  pub accesses : reading (codes "nest 2 memory 4 for i = 0 below 4 { [i] = [1]" ++ times 63 (codes " + [1]") ++ codes " }") ≡ fault 420 kind.Many
  pub brackets : reading (store_of (times 33 (codes "("))) ≡ fault 74 kind.Deep
  pub conditions : reading (codes "nest 1 memory 4 while 0 { " ++ times 9 (codes "if 1 { ")) ≡ fault 82 kind.Deep
  pub levels : reading (codes "nest 1 memory 4 " ++ times 5 (codes "while 0 { ")) ≡ fault 56 kind.Deep
  pub levels_2 : reading (codes "nest 2 memory 4 " ++ times 7 (codes "while 0 { ")) ≡ fault 76 kind.Deep
  pub nests : reading (codes "nest 2 memory 4 " ++ times 9 (codes "while 0 { [0] = 1 } ")) ≡ fault 176 kind.Many
  -- version 1 has one nest
  pub second_nest : reading (codes "nest 1 memory 4 for i = 0 below 4 { [i] = 1 } for i = 0 below 4 { [i] = 1 }") ≡ fault 46 kind.Expected
  pub candidates : reading (codes "nest 1 memory 4 for i = 0 below 4 { [i] = 1 } " ++ times 17 (codes "candidate { } ")) ≡ fault 270 kind.Many
  -- the 33rd command is one too many before it is the seventh skew
  pub commands : reading (candidate_of (times 26 (codes "tile 1 2; ") ++ times 6 (codes "skew 1 2 1; ") ++ codes "skew 1 2 1")) ≡ fault 412 kind.Many

pub record RuleExamples : Type 0 where
  -- a local is visible up to the end of its list, and not in inner loops
  pub inner_head : reading (codes "nest 1 memory 40 for i = 0 below 4 { let x = i for j = x below 2 { [j] = 1 } }") ≡ fault 55 kind.Unknown
  pub behind_branch : reading (codes "nest 1 memory 40 for i = 0 below 4 { if i { let x = i } [x] = 1 }") ≡ fault 57 kind.Unknown
  -- one comparison
  pub chain : reading (codes "nest 1 memory 4 while 0 < 1 < 2 { [0] = 1 }") ≡ fault 28 kind.Expected
  -- a step 0 is judged at its number
  pub step : reading (codes "nest 1 memory 4 for i = 0 below 3 step -0 { [i] = 1 }") ≡ fault 40 kind.Range
  -- a ramp is judged at its last number, and its stride at once, whatever it reaches
  pub ramp_word : reading (item_of (codes "ramp 0 3 2 1 1")) ≡ fault 29 kind.Range
  pub ramp_value : reading (item_of (codes "ramp 0 3 1 1 -9223372036854775807")) ≡ fault 30 kind.Range
  pub stride : reading (item_of (codes "ramp 9 0 0 1 1")) ≡ fault 25 kind.Range
  pub word : reading (candidate_of (codes "fuse 1")) ≡ fault 80 kind.Expected
  pub seq_twice : reading (candidate_of (codes "seq 0; seq 1")) ≡ fault 87 kind.Script
  pub swap_itself : reading (candidate_of (codes "swap 2 2")) ≡ fault 87 kind.Script
  pub skew_itself : reading (candidate_of (codes "skew 1 1 2")) ≡ fault 87 kind.Script
  pub factor : reading (candidate_of (codes "skew 1 2 -9")) ≡ fault 90 kind.Script
  pub skews : reading (candidate_of (times 6 (codes "skew 1 2 1; ") ++ codes "skew 1 2 1")) ≡ fault 152 kind.Script
  pub size_0 : reading (candidate_of (codes "tile 1 0")) ≡ fault 87 kind.Script
  pub size_large : reading (candidate_of (codes "tile 1 65537")) ≡ fault 87 kind.Script
  pub row_0 : reading (candidate_of (codes "par 0")) ≡ fault 84 kind.Script
  pub row_3 : reading (candidate_of (codes "wave 1 3")) ≡ fault 87 kind.Script
  pub rows : reading (candidate_of (codes "par 1 1 1 1 1 1 1")) ≡ fault 96 kind.Script

-- whether a text reads as a file
abbrev pub is_read : List ℕ → Bool
is_read text = is_ok (reading text)

-- the last that each limit and each rule accepts
pub record AcceptedExamples : Type 0 where
  pub words : is_read (codes "nest 1 memory 1048576 while 0 { [0] = 1 }") ≡ true
  pub scalars : is_read (codes "nest 1 scalar a = 1 scalar b = 1 scalar c = 1 scalar d = 1 scalar e = 1 scalar f = 1 scalar g = 1 scalar h = 1 scalar i = 1 scalar j = 1 scalar k = 1 scalar l = 1 scalar m = 1 scalar n = 1 scalar o = 1 scalar p = 1 memory 4 while 0 { [0] = 1 }") ≡ true
  pub locals : is_read (codes "nest 1 memory 4 while 1 { let a = 1 let b = 1 let c = 1 let d = 1 let e = 1 let f = 1 let g = 1 let h = 1 let i = 1 let j = 1 let k = 1 let l = 1 let m = 1 let n = 1 let o = 1 let p = 1 }") ≡ true
  pub accesses : is_read (store_of (codes "[1]" ++ times 30 (codes " + [1]"))) ≡ true
  pub accesses_2 : is_read (codes "nest 2 memory 4 for i = 0 below 4 { [i] = [1]" ++ times 62 (codes " + [1]") ++ codes " }") ≡ true
  pub tokens : is_read (store_of (codes "-1" ++ times 127 (codes " + 1"))) ≡ true
  pub brackets : is_read (store_of (times 32 (codes "(") ++ codes "1" ++ times 32 (codes ")"))) ≡ true
  pub conditions : is_read (codes "nest 1 memory 4 while 0 { " ++ times 8 (codes "if 1 { ") ++ times 9 (codes " }")) ≡ true
  pub levels : is_read (codes "nest 1 memory 4 " ++ times 4 (codes "while 0 { ") ++ codes "[0] = 1" ++ times 4 (codes " }")) ≡ true
  pub levels_2 : is_read (codes "nest 2 memory 4 " ++ times 6 (codes "while 0 { ") ++ codes "[0] = 1" ++ times 6 (codes " }")) ≡ true
  pub nests : is_read (codes "nest 2 memory 4 " ++ times 8 (codes "while 0 { [0] = 1 } ")) ≡ true
  pub candidates : is_read (codes "nest 1 memory 4 for i = 0 below 4 { [i] = 1 } " ++ times 16 (codes "candidate { } ")) ≡ true
  pub commands : is_read (candidate_of (times 31 (codes "tile 1 2; ") ++ codes "seq 1")) ≡ true
  pub skews : is_read (candidate_of (times 5 (codes "skew 1 2 1; ") ++ codes "skew 1 2 1")) ≡ true
  pub factor : is_read (candidate_of (codes "skew 1 2 8")) ≡ true
  pub factor_below : is_read (candidate_of (codes "skew 1 2 -8")) ≡ true
  pub size_1 : is_read (candidate_of (codes "tile 1 1")) ≡ true
  pub size_large : is_read (candidate_of (codes "tile 1 65536")) ≡ true
  pub row_1 : is_read (candidate_of (codes "par 1")) ≡ true
  pub row_2 : is_read (candidate_of (codes "wave 1 2")) ≡ true
  pub rows : is_read (candidate_of (codes "par 1 1 1 1 1 1")) ≡ true
  pub seq_0 : is_read (candidate_of (codes "seq 0")) ≡ true
  pub seq_2 : is_read (candidate_of (codes "seq 2")) ≡ true
  pub ramp : is_read (item_of (codes "ramp 1 2 2 1 9223372036854775806")) ≡ true

-- what is refused beside these
pub record RefusedExamples : Type 0 where
  pub accesses_1 : reading (store_of (codes "[1]" ++ times 31 (codes " + [1]"))) ≡ fault 228 kind.Many
  pub factor_above : reading (candidate_of (codes "skew 1 2 9")) ≡ fault 89 kind.Script
  pub seq_3 : reading (candidate_of (codes "seq 3")) ≡ fault 84 kind.Script
  pub commands : reading (candidate_of (times 32 (codes "tile 1 2; ") ++ codes "seq 1")) ≡ fault 400 kind.Many

-- one `while` of a condition
abbrev pub while_text : List ℕ → List ℕ
while_text condition = codes "nest 1 memory 4 while " ++ condition ++ codes " { [0] = 1 }"

abbrev pub while_file : Expr → File
while_file condition = record {
  version = One;
  scalars = [];
  words = 4;
  items = [];
  units = record {
    nest = record { loops = record { head = While condition; pre = Store 1 (number 0) (number 1) ∷ []; post = [] } ∷ [] };
    names = record { counter = None; pre = []; post = [] } ∷ [];
    scripts = [];
  } ∷ [];
}

-- the operators that no other example has
pub record OperatorExamples : Type 0 where
  pub quotient : reading (while_text (codes "1 / 2")) ≡ Ok (while_file (Two Div (number 1) (number 2)))
  pub equal : reading (while_text (codes "1 == 2")) ≡ Ok (while_file (Two Eq (number 1) (number 2)))
  pub not_equal : reading (while_text (codes "1 != 2")) ≡ Ok (while_file (Two Ne (number 1) (number 2)))
  pub less : reading (while_text (codes "1 < 2")) ≡ Ok (while_file (Two Lt (number 1) (number 2)))
  pub at_most : reading (while_text (codes "1 <= 2")) ≡ Ok (while_file (Two Le (number 1) (number 2)))
  pub greater : reading (while_text (codes "1 > 2")) ≡ Ok (while_file (Two Gt (number 1) (number 2)))
  pub at_least : reading (while_text (codes "1 >= 2")) ≡ Ok (while_file (Two Ge (number 1) (number 2)))
  -- one `=` is no comparison
  pub assign : reading (while_text (codes "1 = 2")) ≡ fault 24 kind.Expected
