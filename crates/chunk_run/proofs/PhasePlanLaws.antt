-- Fitting: what the instances of a phase touch is what its plan says.
use Rattle.std.proofs.Common.{◌≡◌, refl, sym, ap, subst, ℕ, zero, suc, inl, inr, ⊎_elim, pos, Bool, true, false, true≢false, ◌||◌, List, [], ◌∷◌, length}
use Rattle.std.specs.Prelude.{Contains, slice_index_or}
use Rattle.core_steps.specs.declared.plan.Plan.{Plan}
use Rattle.core_steps.specs.declared.plan.Tile.{Tile}
use Rattle.core_steps.specs.Numbers.{has}
use Rattle.core_steps.specs.Plans.{no_tile, writes_of, touches_of}
use Rattle.core_steps.proofs.NumberListLaws.{has-cons}
use Rattle.plain_lemmas.specs.Lists.{Has}
use Rattle.plain_lemmas.proofs.MembershipLaws.{contains-from-has}
use Rattle.domain.specs.Tables.{Table}
use Rattle.domain.specs.Instances.{Instance, Predicted}
use Rattle.domain.specs.Footprints.{Reads, Writes}
use Rattle.skeletons.specs.Cells.{Cell, Extent, AreListsOf}
use Rattle.follow_chunk.specs.Tasks.{TaskState}
use Rattle.tiles.specs.Plans.{AreTilesOf}
use Rattle.verified_turns.specs.Workers.{StaysWithin}
use Rattle.chunk_run.proofs.RestoringLaws.{has-contained}

contained-has : (a : ℕ) (xs : List ℕ) → has a xs ≡ true → Contains xs a
contained-has a xs h = contains-from-has xs a (by xs h)
  where
    by : (xs : List ℕ) → has a xs ≡ true → Has xs a
    by [] h = absurd (true≢false (sym h))
    by (x ∷ xs) h = ⊎_elim (λ e. inl e) (λ k. inr (by xs k)) (has-cons a x xs h)

or-right : (b c : Bool) → c ≡ true → (b || c) ≡ true
or-right true c h = refl
or-right false c h = h

module _ (e : Extent) (words : ℕ) where
  pub tiles-long : (cells : List Cell) (lists : List (List Instance)) (tiles : List Tile) → AreListsOf e cells lists → AreTilesOf e words cells tiles → length lists ≡ length tiles
  tiles-long [] [] [] f g = refl
  tiles-long [] [] (t ∷ tiles) f g = absurd g
  tiles-long [] (xs ∷ lists) tiles f g = absurd f
  tiles-long (c ∷ cells) [] tiles f g = absurd f
  tiles-long (c ∷ cells) (xs ∷ lists) [] f g = absurd g
  tiles-long (c ∷ cells) (xs ∷ lists) (t ∷ tiles) f g = ap suc (tiles-long cells lists tiles f.1 g.1)

  pub cells-long : (cells : List Cell) (lists : List (List Instance)) → AreListsOf e cells lists → length lists ≡ length cells
  cells-long [] [] f = refl
  cells-long [] (xs ∷ lists) f = absurd f
  cells-long (c ∷ cells) [] f = absurd f
  cells-long (c ∷ cells) (xs ∷ lists) f = ap suc (cells-long cells lists f.1)

  tile-writes : (cells : List Cell) (lists : List (List Instance)) (tiles : List Tile) (tile a : ℕ) (x : Instance) → AreListsOf e cells lists → AreTilesOf e words cells tiles
      → Has (slice_index_or lists tile []) x → Writes e.table x (pos a) → writes_of (slice_index_or tiles tile no_tile) a ≡ true
  tile-writes [] [] tiles tile a x f g h w = absurd h
  tile-writes [] (xs ∷ lists) tiles tile a x f g h w = absurd f
  tile-writes (c ∷ cells) [] tiles tile a x f g h w = absurd f
  tile-writes (c ∷ cells) (xs ∷ lists) [] tile a x f g h w = absurd g
  tile-writes (c ∷ cells) (xs ∷ lists) (t ∷ tiles) zero a x f g h w = has-contained t.writes a ((g.0.writes.has a).1 (record { at = x; lies = (f.0.has x).0 h; writes = w }))
  tile-writes (c ∷ cells) (xs ∷ lists) (t ∷ tiles) (suc tile) a x f g h w = tile-writes cells lists tiles tile a x f.1 g.1 h w

  tile-reads : (cells : List Cell) (lists : List (List Instance)) (tiles : List Tile) (tile a : ℕ) (x : Instance) → AreListsOf e cells lists → AreTilesOf e words cells tiles
      → Has (slice_index_or lists tile []) x → Reads e.table (pos words) x (pos a) → touches_of (slice_index_or tiles tile no_tile) a ≡ true
  tile-reads [] [] tiles tile a x f g h r = absurd h
  tile-reads [] (xs ∷ lists) tiles tile a x f g h r = absurd f
  tile-reads (c ∷ cells) [] tiles tile a x f g h r = absurd f
  tile-reads (c ∷ cells) (xs ∷ lists) [] tile a x f g h r = absurd g
  tile-reads (c ∷ cells) (xs ∷ lists) (t ∷ tiles) zero a x f g h r = ap (λ (b : Bool). b || has a t.writes) (has-contained t.reads a ((g.0.reads.has a).1 (record { at = x; lies = (f.0.has x).0 h; reads = r })))
  tile-reads (c ∷ cells) (xs ∷ lists) (t ∷ tiles) (suc tile) a x f g h r = tile-reads cells lists tiles tile a x f.1 g.1 h r

  -- a write of a tile is one of a predicted instance
  pub tile-written : (cells : List Cell) (tiles : List Tile) (tile a : ℕ) → AreTilesOf e words cells tiles → writes_of (slice_index_or tiles tile no_tile) a ≡ true → (x : Instance) × Predicted e.table e.chunk x × Writes e.table x (pos a)
  tile-written [] [] tile a g h = absurd (true≢false (sym h))
  tile-written [] (t ∷ tiles) tile a g h = absurd g
  tile-written (c ∷ cells) [] tile a g h = absurd g
  tile-written (c ∷ cells) (t ∷ tiles) zero a g h = let w = (g.0.writes.has a).0 (contained-has a t.writes h) in (w.at, w.lies.predicted, w.writes)
  tile-written (c ∷ cells) (t ∷ tiles) (suc tile) a g h = tile-written cells tiles tile a g.1 h

  -- the instances of a phase stay within its plan
  pub stays-within : (k : TaskState) (plan : Plan) (cells : List Cell) (lists : List (List Instance)) → e.table ≡ k.pred → AreListsOf e cells lists → AreTilesOf e words cells plan.tiles → StaysWithin k words plan lists
  stays-within k plan cells lists table f g = record {
    writes_in = λ tile a x h w. tile-writes cells lists plan.tiles tile a x f g h (subst (λ (t : Table). Writes t x (pos a)) (sym table) w);
    touches_in = λ tile a x h touches. ⊎_elim
        (λ r. tile-reads cells lists plan.tiles tile a x f g h (subst (λ (t : Table). Reads t (pos words) x (pos a)) (sym table) r))
        (λ w. or-right (has a (slice_index_or plan.tiles tile no_tile).reads) (has a (slice_index_or plan.tiles tile no_tile).writes) (tile-writes cells lists plan.tiles tile a x f g h (subst (λ (t : Table). Writes t x (pos a)) (sym table) w)))
        touches;
  }
