-- NestCodes: which code is that of a loop and of a nest.
use Rattle.std.specs.Prelude.{List, [], ◌∷◌, IfSome}
use Rattle.nest_lang.specs.declared.tree.Head.{Head}
use Rattle.nest_lang.specs.declared.tree.Head.TheVariants as head
use Rattle.nest_lang.specs.declared.tree.Loop.{Loop}
use Rattle.nest_lang.specs.declared.tree.Nest.{Nest}
use Rattle.block_exec.specs.declared.nest_code.HeadCode.{HeadCode}
use Rattle.block_exec.specs.declared.nest_code.HeadCode.TheVariants as code
use Rattle.block_exec.specs.declared.nest_code.LoopCode.{LoopCode}
use Rattle.block_exec.specs.declared.nest_code.NestCode.{NestCode}
use Rattle.block_exec.specs.Coded.{IsValueCode, IsBlockCode}

-- code of a head: of both bounds of a `for`, or of the condition of a `while`
abbrev pub IsHeadCode : Head → HeadCode → Type 0
IsHeadCode (head.For lower upper stride) (code.For c) = IsValueCode lower c.lower × IsValueCode upper c.upper
IsHeadCode (head.For lower upper stride) (code.While c) = ⊥
IsHeadCode (head.While condition) (code.For c) = ⊥
IsHeadCode (head.While condition) (code.While c) = IsValueCode condition c

-- code of a loop: what there is of it is code of its head and of its blocks
pub record IsLoopCode (l : Loop) (c : LoopCode) : Type 0 where
  pub head : IfSome c.head (IsHeadCode l.head)
  pub pre : IfSome c.pre (IsBlockCode l.pre)
  pub post : IfSome c.post (IsBlockCode l.post)

-- code of loops, of each its own, as far as there is code
abbrev pub AreLoopCodes : List Loop → List LoopCode → Type 0
AreLoopCodes [] codes = Unit {0}
AreLoopCodes (l ∷ ls) [] = Unit {0}
AreLoopCodes (l ∷ ls) (c ∷ cs) = IsLoopCode l c × AreLoopCodes ls cs

-- code of a nest
abbrev pub IsNestCode : Nest → NestCode → Type 0
IsNestCode nest code = AreLoopCodes nest.loops code.loops
