-- A chunk leads one way.
use Rattle.std.proofs.Common.{◌≡◌, refl, ap, ap₂, ◌∙◌, sym, subst, ℕ, suc, ◌+◌, ◌-◌, ℤ, List, [], ◌∷◌, ◌++◌, length, length-append, slice_get, Option, Some, inl, inr, ⊎_elim, arith}
use Rattle.orders.specs.Orders.{Differ, Ordered, SameElements}
use Rattle.plain_lemmas.specs.Lists.{Has}
use Rattle.orders.proofs.ListLaws.{has-split, has-without, ordered-weaker, ordered-without}
use Rattle.plain_lemmas.proofs.MembershipLaws.{all-has, has-cases, has-left, has-right}
use Rattle.nest_lang.specs.Traces.{Done}
use Rattle.transform.specs.Schedules.{Schedule}
use Rattle.domain.specs.Tables.{Table}
use Rattle.domain.specs.Instances.{Instance}
use Rattle.domain.specs.declared.held.HeldWhy.{HeldWhy}
use Rattle.skeletons.specs.Cells.{AreCellsOf, Cell, CellComes, Extent}
use Rattle.tiles.proofs.CountLaws.{cell-itself}
use Rattle.follow.specs.declared.how.How.{How}
use Rattle.follow.specs.Deviations.{Deviation}
use Rattle.follow.specs.Hows.{how_of}
use Rattle.follow.proofs.DeviatingLaws.{deviation-is-one, not-both}
use Rattle.follow_chunk.specs.Predicted.{forecast_of}
use Rattle.compare.specs.Compared.{instance_in}
use Rattle.chunk_run.specs.ChunkEnds.{ArePhaseKeysOf, HasNumbers}
use Rattle.report.specs.declared.line.Line.{Line}
use Rattle.journeys.specs.Settings.{Setting, Moment, chunk_turns, next_chunk, words_at}
use Rattle.journeys.specs.Tellings.{commit_line, held_line, rollback_line}
use Rattle.journeys.specs.Stages.{Stage, ChunkLeads, DeviatesAt, FollowsIt, chunk_run_from}
use Rattle.journeys.specs.Stages.ChunkLeads.{committed, held, rolled_back}
use Rattle.chunk_run.specs.declared.run.ChunkEnd.TheVariants.{Committed, RolledBack}
use Rattle.journeys.specs.HandedRecords.{launched_at}
use Rattle.journeys.specs.Laws.{ChunkLeadsOneWay, LaunchHasOneSet, SameNumbers, SameWay}
use Rattle.journeys.proofs.OneLaunch.{held-one, held-or-launched, instances-one}
use Rattle.journeys.proofs.OneWay.{ran-one}

-- ---- numbers

-- lists with the same elements, none of them twice, have one length
same-count : {X : Type 0} (xs ys : List X) → Ordered Differ xs → Ordered Differ ys → SameElements xs ys → length xs ≡ length ys
same-count [] [] once only same = refl
same-count [] (y ∷ ys) once only same = absurd (same.back y (inl refl))
same-count {X} (x ∷ xs) ys once only same =
    let split = has-split ys x (same.there x (inl refl)) in
    let us = split.0 in
    let vs = split.1 in
    let rest = same-count xs (us ++ vs) once.1 (ordered-without Differ us vs x (subst (Ordered Differ) split.2 only)) (record {
      there = λ z h. without us vs z (subst (λ (l : List X). Has l z) split.2 (same.there z (inr h))) (all-has (Differ x) xs z once.0 h);
      back = λ z h. inner us vs z h (same.back z (subst (λ (l : List X). Has l z) (sym split.2) (has-without us vs x z h))) (subst (Ordered Differ) split.2 only);
    }) in
    let size : length ys ≡ length us + suc (length vs) = ap (λ (l : List X). length l) split.2 ∙ length-append us (x ∷ vs) in
    let less : length (us ++ vs) ≡ length us + length vs = length-append us vs in
    omega (arith, rest, size, less)
  where
    without : (us vs : List X) (z : X) → Has (us ++ x ∷ vs) z → (x ≡ z → ⊥) → Has (us ++ vs) z
    without us vs z h other = ⊎_elim (λ k. has-left us vs z k) (λ k. ⊎_elim (λ e. absurd (other (sym e))) (λ l. has-right us vs z l) k) (has-cases us (x ∷ vs) z h)

    -- the element that was taken out isn't left
    gone : (us vs : List X) → Ordered Differ (us ++ x ∷ vs) → Has (us ++ vs) x → ⊥
    gone [] vs ord h = all-has (Differ x) vs x ord.0 h refl
    gone (u ∷ us) vs ord (inl e) = all-has (Differ u) (us ++ x ∷ vs) x ord.0 (has-right us (x ∷ vs) x (inl refl)) (sym e)
    gone (u ∷ us) vs ord (inr h) = gone us vs ord.1 h

    inner : (us vs : List X) (z : X) → Has (us ++ vs) z → Has (x ∷ xs) z → Ordered Differ (us ++ x ∷ vs) → Has xs z
    inner us vs z h (inl e) ord = absurd (gone us vs ord (subst (Has (us ++ vs)) e h))
    inner us vs z h (inr k) ord = k

module _ (e : Extent) (words : ℤ) where
  keys-one : (keys keys' : List (List ℤ)) → ArePhaseKeysOf e keys → ArePhaseKeysOf e keys' → length keys ≡ length keys'
  keys-one keys keys' a b = same-count keys keys' a.once b.once (record {
    there = λ key h. (b.has key).1 ((a.has key).0 h);
    back = λ key h. (a.has key).1 ((b.has key).0 h);
  })

  cells-differ : (cells : List Cell) → Ordered CellComes cells → Ordered Differ cells
  cells-differ cells ord = ordered-weaker CellComes Differ (λ c d less same. cell-itself c (subst (CellComes c) (sym same) less)) cells ord

  cells-one : (cells cells' : List Cell) → AreCellsOf e cells → AreCellsOf e cells' → length cells ≡ length cells'
  cells-one cells cells' a b = same-count cells cells' (cells-differ cells a.ordered) (cells-differ cells' b.ordered) (record {
    there = λ cell h. (b.has cell).1 ((a.has cell).0 h);
    back = λ cell h. (a.has cell).1 ((b.has cell).0 h);
  })

  numbers-one : (i p n i' p' n' : ℕ) → HasNumbers e words i p n → HasNumbers e words i' p' n' → SameNumbers i p n i' p' n'
  numbers-one i p n i' p' n' a b = record {
    instances_same = instances-one e.table words e.chunk i i' a.launched b.launched;
    phases_same = sym a.count_keys ∙ keys-one a.keys b.keys a.are_keys b.are_keys ∙ b.count_keys;
    tiles_same = sym a.count_cells ∙ cells-one a.cells b.cells a.are_cells b.are_cells ∙ b.count_cells;
  }

pub launch-has-one-set : LaunchHasOneSet
launch-has-one-set e words i p n i' p' n' a b = numbers-one e words i p n i' p' n' a b

-- ---- a chunk

same-schedule : (o : Option Schedule) (a b : Schedule) → o ≡ Some a → o ≡ Some b → a ≡ b
same-schedule o a b e f = let both = sym e ∙ f in cc

module _ (t : Table) (number : ℕ) (g : Setting) (m : Moment) where
  deviates-one : (at at' : Instance) (how how' : How) → DeviatesAt t g m at how → DeviatesAt t g m at' how' → (at ≡ at') × (how ≡ how')
  deviates-one at at' how how' a b =
      let run = chunk_run_from t g m in
      let same = deviation-is-one (forecast_of t) run a.0 b.0 a.1 b.1 in
      (a.2 ∙ ap (instance_in t (next_chunk g m) run.observations) same ∙ sym b.2, a.3 ∙ ap (λ (d : Deviation). how_of (forecast_of t) d) same ∙ sym b.3)

  deviates-or-follows : (at : Instance) (how : How) → DeviatesAt t g m at how → FollowsIt t g m → ⊥
  deviates-or-follows at how a follows = not-both (forecast_of t) (chunk_run_from t g m) a.0 a.1 follows

  abbrev extent : Schedule → Extent
  extent s = record { table = t; schedule = s; chunk = next_chunk g m }

  chunk-one : (lines lines' : List Line) (stage stage' : Stage) (after after' : Moment) → ChunkLeads t number g m lines stage after → ChunkLeads t number g m lines' stage' after' → SameWay lines lines' stage stage' after after'
  chunk-one lines lines' stage stage' after after' (held at why a) (held at' why' b) =
      let same = held-one t (words_at m) (next_chunk g m) at at' why why' a b in
      record { told = ap₂ (λ (x : Instance) (w : HeldWhy). held_line g m x w ∷ []) same.0 same.1; next = refl; there = refl }
  chunk-one lines lines' stage stage' after after' (held at why a) (rolled_back s instances at' how which launched b) = absurd (held-or-launched t (words_at m) (next_chunk g m) at why instances a launched)
  chunk-one lines lines' stage stage' after after' (held at why a) (committed s instances phases tiles q which numbers follows b) = absurd (held-or-launched t (words_at m) (next_chunk g m) at why instances a numbers.launched)
  chunk-one lines lines' stage stage' after after' (rolled_back s instances at' how which launched b) (held at why a) = absurd (held-or-launched t (words_at m) (next_chunk g m) at why instances a launched)
  chunk-one lines lines' stage stage' after after' (committed s instances phases tiles q which numbers follows b) (held at why a) = absurd (held-or-launched t (words_at m) (next_chunk g m) at why instances a numbers.launched)
  chunk-one lines lines' stage stage' after after' (rolled_back s instances at how which launched a) (rolled_back s' instances' at' how' which' launched' b) =
      let same = deviates-one at at' how how' a b in
      record { told = ap₂ (λ (x : Instance) (h : How). rollback_line g m x h ∷ []) same.0 same.1; next = refl; there = refl }
  chunk-one lines lines' stage stage' after after' (rolled_back s instances at how which launched a) (committed s' instances' phases tiles q which' numbers follows b) = absurd (deviates-or-follows at how a follows)
  chunk-one lines lines' stage stage' after after' (committed s' instances' phases tiles q which' numbers follows b) (rolled_back s instances at how which launched a) = absurd (deviates-or-follows at how a follows)
  chunk-one lines lines' stage stage' after after' (committed s i p n q which numbers follows a) (committed s' i' p' n' q' which' numbers' follows' b) =
      let same = (ran-one g m (chunk_turns g m) (chunk_turns g m) (chunk_turns g m) Done Done q q' a b).there in
      let schedule = same-schedule (slice_get g.candidates (number - 1)) s s' which which' in
      let count = numbers-one (extent s) (words_at m) i p n i' p' n' numbers (subst (λ (x : Schedule). HasNumbers (extent x) (words_at m) i' p' n') (sym schedule) numbers') in
      record {
        told =
            ap (λ (x : Moment). commit_line g m x number i p n ∷ []) same
            ∙ ap (λ (x : ℕ). commit_line g m q' number x p n ∷ []) count.instances_same
            ∙ ap₂ (λ (x y : ℕ). commit_line g m q' number i' x y ∷ []) count.phases_same count.tiles_same;
        next = refl;
        there = same;
      }

  -- the same chunk is launched, with the same numbers
  pub launched-one : (lines lines' : List Line) (stage stage' : Stage) (after after' : Moment) (a : ChunkLeads t number g m lines stage after) (b : ChunkLeads t number g m lines' stage' after') → launched_at a ≡ launched_at b
  launched-one lines lines' stage stage' after after' (held at why a) (held at' why' b) = refl
  launched-one lines lines' stage stage' after after' (held at why a) (rolled_back s instances at' how which launched b) = absurd (held-or-launched t (words_at m) (next_chunk g m) at why instances a launched)
  launched-one lines lines' stage stage' after after' (held at why a) (committed s instances phases tiles q which numbers follows b) = absurd (held-or-launched t (words_at m) (next_chunk g m) at why instances a numbers.launched)
  launched-one lines lines' stage stage' after after' (rolled_back s instances at' how which launched b) (held at why a) = absurd (held-or-launched t (words_at m) (next_chunk g m) at why instances a launched)
  launched-one lines lines' stage stage' after after' (committed s instances phases tiles q which numbers follows b) (held at why a) = absurd (held-or-launched t (words_at m) (next_chunk g m) at why instances a numbers.launched)
  launched-one lines lines' stage stage' after after' (rolled_back s instances at how which launched a) (rolled_back s' instances' at' how' which' launched' b) =
      ap (λ (x : Schedule). record { extent = extent x; end = RolledBack } ∷ []) (same-schedule (slice_get g.candidates (number - 1)) s s' which which')
  launched-one lines lines' stage stage' after after' (rolled_back s instances at how which launched a) (committed s' instances' phases tiles q which' numbers follows b) = absurd (deviates-or-follows at how a follows)
  launched-one lines lines' stage stage' after after' (committed s' instances' phases tiles q which' numbers follows b) (rolled_back s instances at how which launched a) = absurd (deviates-or-follows at how a follows)
  launched-one lines lines' stage stage' after after' (committed s i p n q which numbers follows a) (committed s' i' p' n' q' which' numbers' follows' b) =
      let same = (ran-one g m (chunk_turns g m) (chunk_turns g m) (chunk_turns g m) Done Done q q' a b).there in
      let schedule = same-schedule (slice_get g.candidates (number - 1)) s s' which which' in
      let count = numbers-one (extent s) (words_at m) i p n i' p' n' numbers (subst (λ (x : Schedule). HasNumbers (extent x) (words_at m) i' p' n') (sym schedule) numbers') in
      ap (λ (x : Schedule). record { extent = extent x; end = Committed i p n (m.left - q.left) } ∷ []) schedule
      ∙ ap (λ (x : Moment). record { extent = extent s'; end = Committed i p n (m.left - x.left) } ∷ []) same
      ∙ ap (λ (x : ℕ). record { extent = extent s'; end = Committed x p n (m.left - q'.left) } ∷ []) count.instances_same
      ∙ ap₂ (λ (x y : ℕ). record { extent = extent s'; end = Committed i' x y (m.left - q'.left) } ∷ []) count.phases_same count.tiles_same

pub chunk-leads-one-way : ChunkLeadsOneWay
chunk-leads-one-way t number g m lines lines' stage stage' after after' a b = chunk-one t number g m lines lines' stage stage' after after' a b
