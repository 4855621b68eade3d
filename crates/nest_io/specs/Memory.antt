-- A source and a sink in memory, as contracts see them: what they will do next is fixed by these numbers and lists.
use Rattle.std.specs.Prelude.{◌≡◌, ℕ, List, Contains, length, ◌⊎◌}
use Rattle.nest_io.specs.Faults.{next_count}

pub record MemorySource : Type 0 where
  -- the bytes that it has left
  pub left : List ℕ
  -- a read gives at most so many
  pub most : ℕ
  -- the numbers of the reads that fail, the first read being 1
  pub failing : List ℕ
  -- how often it was read
  pub reads : ℕ
  pub faults : ℕ

pub record MemorySink : Type 0 where
  -- the bytes that it holds
  pub held : List ℕ
  -- it holds at most so many
  pub room : ℕ
  -- a write takes at most so many
  pub most : ℕ
  -- the numbers of the writes that fail, the first write being 1
  pub failing : List ℕ
  -- how often it was written to
  pub writes : ℕ
  pub faults : ℕ

-- the next read fails
abbrev pub ReadFails : MemorySource → Type 0
ReadFails source = Contains source.failing (next_count source.reads)

-- the next write fails: its number says so, or there is no room left
abbrev pub WriteFails : MemorySink → Type 0
WriteFails sink = Contains sink.failing (next_count sink.writes) ⊎ (length sink.held ≡ sink.room)
