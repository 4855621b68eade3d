-- Shapes: the table of a nest, whatever the forms in it are, and which forms come together.
use Rattle.std.specs.Prelude.{◌≡◌, ℕ, ℤ, Bool, true, false, List, length, map, slice_get, Some, None}
use Rattle.nest_lang.specs.declared.tree.Access.{Access as NestAccess}
use Rattle.nest_lang.specs.declared.tree.AccessKind.{AccessKind}
use Rattle.nest_lang.specs.declared.tree.AccessKind.TheVariants as access
use Rattle.nest_lang.specs.declared.tree.BlockRef.{BlockRef}
use Rattle.nest_lang.specs.declared.tree.Head.{Head}
use Rattle.nest_lang.specs.declared.tree.Head.TheVariants as head
use Rattle.nest_lang.specs.declared.tree.Loop.{Loop}
use Rattle.nest_lang.specs.Accesses.{accesses_of}
use Rattle.nest_lang.specs.Blocks.{present_blocks}
use Rattle.domain.specs.declared.table.LoopKind.{LoopKind}
use Rattle.domain.specs.declared.table.LoopKind.TheVariants.{For, While}
use Rattle.domain.specs.Tables.{Table, Block, Access, Level, block_at, level_at}

-- the kind of the loop with this head
abbrev pub kind_of : Head → LoopKind
kind_of (head.For lower upper stride) = For stride
kind_of (head.While condition) = While

abbrev pub is_store : AccessKind → Bool
is_store access.Load = false
is_store access.Store = true

-- a block of a table is a block of a nest: it has its part and level, a form or none for each of so many scalars, and
-- each of its accesses in their order
pub record IsBlockOf (scalars : ℕ) (loops : List Loop) (block : BlockRef) (b : Block) : Type 0 where
  pub part : b.part ≡ block.part
  pub level : b.level ≡ block.level
  pub forms : length b.scalars ≡ scalars
  pub accesses : map (λ (a : Access). a.stores) b.accesses ≡ map (λ (a : NestAccess). is_store a.kind) (accesses_of loops block)

-- the table is that of a nest in a file with so many scalars: it has its loops, and its present blocks in their order
pub record IsTableOf (scalars : ℕ) (loops : List Loop) (t : Table) : Type 0 where
  pub levels : map (λ (l : Level). l.kind) t.levels ≡ map (λ (l : Loop). kind_of l.head) loops
  pub count : length t.blocks ≡ length (present_blocks loops)
  pub each : (rank : ℕ) (block : BlockRef) → slice_get (present_blocks loops) rank ≡ Some block → IsBlockOf scalars loops block (block_at t rank)

-- a `for` with a form of its trip has one of its lower bound too: its head shows both or neither
abbrev pub LowersWithTrips : Table → Type 0
LowersWithTrips t = (k : ℕ) (stride : ℤ) → (level_at t k).kind ≡ For stride → (level_at t k).lower ≡ None → (level_at t k).trip ≡ None
