-- Instances: what an instance is, from its block and its turn numbers.
use Rattle.std.specs.Prelude.{◌≡◌, ℕ, ◌+◌, nat_le, ℤ, pos, unsigned_abs, List, [], ◌∷◌, Option, Some, None, if◌then◌else◌}
use Rattle.std.specs.List.{AllByRecursion}
use Rattle.nest_lang.specs.declared.tree.Stmt.{Stmt}
use Rattle.nest_lang.specs.declared.tree.Head.{Head}
use Rattle.nest_lang.specs.declared.tree.Head.TheVariants.{For, While}
use Rattle.nest_lang.specs.declared.tree.Loop.{Loop}
use Rattle.nest_lang.specs.declared.tree.Part.{Part}
use Rattle.nest_lang.specs.declared.tree.Part.TheVariants as part
use Rattle.nest_lang.specs.declared.state.Outer.{Outer}
use Rattle.nest_lang.specs.Values.{turn_value}
use Rattle.nest_lang.specs.Traces.{Occurrence}
use Rattle.nest_lang.specs.Loops.{Around, inward, outside}
use Rattle.follow.specs.Forecasts.{Forecast}
use Rattle.follow.specs.Plans.{item, planned, Item, Runs, Evaluates}

-- the lower bound of a `for`: of the outermost one it is the position's, of an inner one the expected one
abbrev pub lower_at : Forecast → Outer → ℕ → List ℤ → ℤ
lower_at p o level cs = if nat_le level 1 then o.lower else p.lower (record { block = record { part = part.Head; level = level }; counters = cs })

abbrev pub value_in : Forecast → Outer → Head → ℕ → Around → ℕ → ℤ
value_in p o (For lower upper stride) level a t = turn_value (lower_at p o level a.counters) stride t
value_in p o (While condition) level a t = pos t

abbrev pub into : Forecast → Outer → Head → ℕ → Around → ℤ → Around
into p o head level a t = inward a (unsigned_abs t) (value_in p o head level a (unsigned_abs t))

abbrev pub block_item : Part → ℕ → Around → List Stmt → Option Item
block_item part level a [] = None
block_item part level a (x ∷ xs) = Some (item part level a (Runs x xs))

abbrev pub head_item : Forecast → Outer → Head → Head → ℕ → Around → List ℤ → Option Item
head_item p o (For lower upper stride) head level a rest = Some (item part.Head level a (Evaluates head))
head_item p o (While condition) head level a [] = None
head_item p o (While condition) head level a (t ∷ rest) = Some (item part.Head level (inward a (unsigned_abs t) (pos (unsigned_abs t))) (Evaluates head))

-- a block of this loop, in the turn that the first number says
abbrev pub item_here : Forecast → Outer → Loop → ℕ → Around → List ℤ → Part → Option Item
item_here p o l level a rest part.Head = head_item p o l.head l.head level a rest
item_here p o l level a [] part.Pre = None
item_here p o l level a [] part.Post = None
item_here p o l level a (t ∷ rest) part.Pre = block_item part.Pre level (into p o l.head level a t) l.pre
item_here p o l level a (t ∷ rest) part.Post = block_item part.Post level (into p o l.head level a t) l.post

-- the instance of a block at a level, from loops inside one another and the turn numbers that are left
abbrev pub item_from : Forecast → Outer → ℕ → List Loop → Around → List ℤ → Part → ℕ → Option Item
item_from p o level [] a rest part wanted = None
item_from p o level (l ∷ ls) a [] part wanted = item_here p o l level a [] part
item_from p o level (l ∷ ls) a (t ∷ rest) part wanted =
    if nat_le wanted level then item_here p o l level a (t ∷ rest) part else item_from p o (level + 1) ls (into p o l.head level a t) rest part wanted

abbrev pub item_of : Forecast → Outer → List Loop → Occurrence → Option Item
item_of p o loops i = item_from p o 1 loops outside i.counters i.block.part i.block.level

-- each planned instance is what its block and its turn numbers say
abbrev pub PlannedByInstance : Type 0
PlannedByInstance = (p : Forecast) (loops : List Loop) (o : Outer) (c : ℕ) → AllByRecursion (λ x. item_of p o loops x.at ≡ Some x) (planned p loops o c)
