-- Attempting: a chunk that is run phase by phase, and each way in which that ends.
use Rattle.std.proofs.Common.{◌≡◌, refl, sym, ap, ◌∙◌, subst, ℕ, zero, suc, ◌<◌, ◌≤◌, ◌+◌, ◌-◌, false, ℤ, List, [], ◌∷◌, ◌++◌, map, length, length-append, append_assoc, take, drop, Option, Some, None, arith}
use Rattle.std.specs.Int.{w64, cast_signed}
use Rattle.std.proofs.lemmas.List.{length-map, map-append, take_all, take_more}
use Rattle.core_steps.specs.declared.view.View.{View}
use Rattle.core_steps.specs.Plans.{no_plan}
use Rattle.shared_words.specs.Memories.{signed}
use Rattle.domain.specs.declared.chunk.Chunk.{Chunk}
use Rattle.domain.specs.Instances.{opening_at}
use Rattle.skeletons.specs.Cells.{Extent}
use Rattle.follow_chunk.specs.Predicted.{scalars_at}
use Rattle.follow_chunk.proofs.ListingLaws.{split-at}
use Rattle.follow_chunk.specs.Tasks.{TaskState}
use Rattle.tiles.specs.Plans.{ChunkPlan, Phase, cells_of}
use Rattle.crew.specs.declared.handed.Handed.{Handed}
use Rattle.phase_run.specs.Phases.{next_view}
use Rattle.chunk_run.specs.Parts.{HasSteps, IsPartOf, ChangesChunk, IsAttempt, Fails, phase_at}
use Rattle.chunk_run.specs.Ready.{IsReady}
use Rattle.chunk_run.specs.Groups.{AreEntries, HasTileCounts, GainsPhase, GainsBegun, AttemptGains, RunsOn}
use Rattle.chunk_run.proofs.CommittingLaws.{attempted, fails, fails-at-once}
use Rattle.chunk_run.proofs.HandingLaws.{Begun, begun-none, begun-more, begun-told, entries-long}
use Rattle.chunk_run.proofs.ChunkPartLaws.{changes-none, changes-then}
use Rattle.chunk_run.proofs.NextPhaseLaws.{no-phase, next-phase, last-phase, all-phases}
use Rattle.chunk_run.proofs.PhasingLaws.{tiles_in, counts-exist}
use Rattle.chunk_run.proofs.ReadyPhaseLaws.{some-phase, all-one}
use Rattle.chunk_run.proofs.RunningLaws.{part-within, part-long, part-none}

-- the first phases of a chunk were run: they lead from the view v and the list `old` to the view w and the list `new`, and
-- of `from` steps so many are left
pub record Stands (k : TaskState) (e : Extent) (workers : ℕ) (plan : ChunkPlan) (begins : List ℤ) (number from left : ℕ) (v w : View) (old new : List Handed) : Type 0 where
  pub fewer : left ≤ from
  pub unposted : w.posted ≡ false
  pub stored : w.stored ≡ v.stored
  pub epoch : w.epoch ≡ v.epoch + number
  pub changes : ChangesChunk k.pred k.chunk (signed v.base) (signed w.base)
  pub part : IsPartOf e k.loops k.outer (cells_of (take number plan.phases)) (signed v.base) from (Some left) (signed w.base)
  pub first : 0 < number → begins ≡ scalars_at k.pred (opening_at k.pred k.chunk.first)
  pub early : 0 < number → v.stored ≤ v.epoch
  pub handed : Begun k.chunk.first workers (map tiles_in (take number plan.phases)) (from - left) old new
  pub count : length new ≡ length old + number

-- one phase was run: from the view w and the list `mid` to the view x and the list `new`
pub record PhaseIs (k : TaskState) (e : Extent) (workers : ℕ) (plan : ChunkPlan) (number : ℕ) (result : Option ℕ) (w x : View) (mid new : List Handed) : Type 0 where
  pub view : x ≡ next_view w x.base
  pub stored : w.stored ≤ w.epoch
  pub followed : HasSteps e k.loops k.outer (phase_at plan.phases number).cells (signed w.base) result (signed x.base)
  pub changes : ChangesChunk k.pred k.chunk (signed w.base) (signed x.base)
  pub handed : GainsPhase k.chunk.first workers number (length (phase_at plan.phases number).cells) result mid new

module _ (D workers : ℕ) (k : TaskState) (e : Extent) (plan : ChunkPlan) (begins : List ℤ) (from : ℕ) (v : View) (old : List Handed) (ready : IsReady D (length v.base) workers k e plan) where
  pub stands-none : v.posted ≡ false → Stands k e workers plan begins 0 from from v v old old
  stands-none unposted = record {
    fewer = omega arith;
    unposted = unposted;
    stored = refl;
    epoch = (let n : v.epoch ≡ v.epoch + 0 = omega arith in n);
    changes = changes-none k.pred k.chunk (signed v.base);
    part = no-phase e k.loops k.outer (signed v.base) from;
    first = λ l. absurd (omega arith);
    early = λ l. absurd (omega arith);
    handed = (let n : 0 ≡ from - from = omega arith in subst (λ (s : ℕ). Begun k.chunk.first workers [] s old old) n (begun-none k.chunk.first workers old));
    count = (let n : length old ≡ length old + 0 = omega arith in n);
  }

  counts : HasTileCounts e (map tiles_in plan.phases)
  counts = counts-exist e plan.phases ready.planned.cells (all-one D (length v.base) workers k e plan ready) ready.planned.rise

  words-long : length (signed v.base) ≡ length v.base
  words-long = length-map v.base (cast_signed w64)

  gains-whole : (number left : ℕ) (w : View) (new : List Handed) → length plan.phases ≤ number → Stands k e workers plan begins number from left v w old new → AttemptGains e workers from (Some left) old new
  gains-whole number left w new all stands =
      let h = stands.handed in
      let few = stands.fewer in (
        from - left,
        (let n : from ≡ (from - left) + left = omega (arith, few) in n),
        record {
          group = h.group;
          gained = h.gained;
          whole = record {
            counts = map tiles_in plan.phases;
            has = counts;
            entries = subst (λ (c : Chunk). AreEntries c.first workers 0 (map tiles_in plan.phases) h.group) (sym ready.same_chunk) (subst (λ (ps : List Phase). AreEntries k.chunk.first workers 0 (map tiles_in ps) h.group) (take_all number plan.phases all) h.entries);
            together = h.together;
          };
        },
      )

  pub attempt-whole : (number left : ℕ) (w : View) (new : List Handed) → length plan.phases ≤ number → Stands k e workers plan begins number from left v w old new
      → IsAttempt k.pred k.loops k.outer k.chunk (signed v.base) begins from (Some left) (signed w.base) × AttemptGains e workers from (Some left) old new × RunsOn v w old new
  attempt-whole number left w new all stands =
      let some : 0 < number = (let s = some-phase D (length v.base) workers k e plan ready in omega (arith, s, all)) in (
        attempted D k (length v.base) ready.task e ready.same_table ready.same_chunk ready.schedule ready.legal (cells_of plan.phases) ready.planned.cells (signed v.base) words-long from (Some left) (signed w.base)
            (all-phases e k.loops k.outer plan.phases number (signed v.base) (signed w.base) from (Some left) all stands.part) begins (stands.first some),
        gains-whole number left w new all stands,
        record {
          unposted = stands.unposted;
          stored = stands.stored;
          early = stands.early some;
          epoch = (let r = stands.epoch in let c = stands.count in omega (arith, r, c));
        },
      )

  module _ (number left : ℕ) (inside : number < length plan.phases) (w x : View) (mid new : List Handed) (stands : Stands k e workers plan begins number from left v w old mid) where
    abbrev tiles : ℕ
    tiles = length (phase_at plan.phases number).cells

    counts-here : length (map tiles_in (take number plan.phases)) ≡ number
    counts-here =
        let h = stands.handed in
        let size = entries-long k.chunk.first workers 0 (map tiles_in (take number plan.phases)) h.group h.entries in
        let l = ap length h.gained in
        let parts = length-append old h.group in
        let c = stands.count in
        omega (arith, size, l, parts, c)

    counts-more : map tiles_in (take (number + 1) plan.phases) ≡ map tiles_in (take number plan.phases) ++ tiles ∷ []
    counts-more = ap (map tiles_in) (take_more plan.phases number (record { cells = []; plan = no_plan }) inside) ∙ map-append tiles_in (take number plan.phases) (phase_at plan.phases number ∷ [])

    module _ (result : Option ℕ) (is : PhaseIs k e workers plan number result w x mid new) where
      changes-here : ChangesChunk k.pred k.chunk (signed v.base) (signed x.base)
      changes-here = changes-then k.pred k.chunk (signed v.base) (signed w.base) (signed x.base) stands.changes is.changes

      count-here : length new ≡ length old + (number + 1)
      count-here =
          let l = ap length (is.handed).gained in
          let parts = length-append mid ((is.handed).entry ∷ []) in
          let c = stands.count in
          omega (arith, l, parts, c)

      early-here : v.stored ≤ v.epoch
      early-here = by number refl
        where
          by : (n : ℕ) → number ≡ n → v.stored ≤ v.epoch
          by zero n = (let a = is.stored in let b = stands.stored in let c = stands.epoch in omega (arith, a, b, c, n))
          by (suc m) n = stands.early (omega (arith, n))

      runs-on : RunsOn v x old new
      runs-on = record {
        unposted = ap (λ (y : View). y.posted) is.view;
        stored = ap (λ (y : View). y.stored) is.view ∙ stands.stored;
        early = early-here;
        epoch = (let a = ap (λ (y : View). y.epoch) is.view in let b = stands.epoch in let c = count-here in omega (arith, a, b, c));
      }

      gains-begun : GainsBegun e workers old new
      gains-begun =
          let h = begun-more k.chunk.first workers tiles (map tiles_in (take number plan.phases)) (from - left) number old mid new result stands.handed is.handed counts-here in
          record {
            group = h.group;
            gained = h.gained;
            begun = record {
              front = map tiles_in (take number plan.phases) ++ tiles ∷ [];
              rest = map tiles_in (drop (suc number) plan.phases);
              has = subst (HasTileCounts e) all counts;
              entries = subst (λ (c : Chunk). AreEntries c.first workers 0 (map tiles_in (take number plan.phases) ++ tiles ∷ []) h.group) (sym ready.same_chunk) h.entries;
              some = (let l = ap length h.gained in let parts = length-append old h.group in let c = count-here in omega (arith, l, parts, c));
            };
          }
        where
          all : map tiles_in plan.phases ≡ (map tiles_in (take number plan.phases) ++ tiles ∷ []) ++ map tiles_in (drop (suc number) plan.phases)
          all =
              ap (map tiles_in) (split-at plan.phases number (record { cells = []; plan = no_plan }) inside)
              ∙ map-append tiles_in (take number plan.phases) (phase_at plan.phases number ∷ drop (suc number) plan.phases)
              ∙ sym (append_assoc (map tiles_in (take number plan.phases)) (tiles ∷ []) (map tiles_in (drop (suc number) plan.phases)))

      fails-within : IsPartOf e k.loops k.outer (phase_at plan.phases number).cells (signed w.base) left None (signed x.base) → Fails k.pred k.loops k.outer k.chunk (signed v.base) begins from
      fails-within part =
          fails D k (length v.base) ready.task e ready.same_table ready.same_chunk ready.schedule ready.legal (cells_of plan.phases) ready.planned.cells (signed v.base) words-long from None (signed x.base)
          (last-phase e k.loops k.outer plan.phases number inside (signed v.base) (signed w.base) from left stands.part (signed x.base) part) begins refl

      abbrev Ends : Type 0
      Ends = Fails k.pred k.loops k.outer k.chunk (signed v.base) begins from × ChangesChunk k.pred k.chunk (signed v.base) (signed x.base) × GainsBegun e workers old new × RunsOn v x old new

      -- an instance of the phase differs
      pub ends-failed : result ≡ None → Ends
      ends-failed none = (
        fails-within (part-none e k.loops k.outer (phase_at plan.phases number).cells (signed w.base) (signed x.base) left (subst (λ (r : Option ℕ). HasSteps e k.loops k.outer (phase_at plan.phases number).cells (signed w.base) r (signed x.base)) none is.followed)),
        changes-here,
        gains-begun,
        runs-on,
      )

      -- the chunk begins with other scalars
      pub ends-apart : (begins ≡ scalars_at k.pred (opening_at k.pred k.chunk.first) → ⊥) → Ends
      ends-apart apart = (fails-at-once D k (length v.base) ready.task (signed v.base) begins from apart, changes-here, gains-begun, runs-on)

      module _ (steps : ℕ) (some : result ≡ Some steps) where
        followed-here : HasSteps e k.loops k.outer (phase_at plan.phases number).cells (signed w.base) (Some steps) (signed x.base)
        followed-here = subst (λ (r : Option ℕ). HasSteps e k.loops k.outer (phase_at plan.phases number).cells (signed w.base) r (signed x.base)) some is.followed

        -- the steps don't suffice
        pub ends-long : left < steps → Ends
        ends-long more = (
          fails-within (part-long e k.loops k.outer (phase_at plan.phases number).cells (signed w.base) (signed x.base) left steps followed-here more),
          changes-here,
          gains-begun,
          runs-on,
        )

        pub stands-more : steps ≤ left → begins ≡ scalars_at k.pred (opening_at k.pred k.chunk.first) → Stands k e workers plan begins (number + 1) from (left - steps) v x old new
        stands-more few same = record {
          fewer = (let f = stands.fewer in omega (arith, f, few));
          unposted = ap (λ (y : View). y.posted) is.view;
          stored = ap (λ (y : View). y.stored) is.view ∙ stands.stored;
          epoch = (let a = ap (λ (y : View). y.epoch) is.view in let b = stands.epoch in let n : x.epoch ≡ v.epoch + (number + 1) = omega (arith, a, b) in n);
          changes = changes-here;
          part = next-phase e k.loops k.outer plan.phases number inside (signed v.base) (signed w.base) from left stands.part (signed x.base) (left - steps)
              (part-within e k.loops k.outer (phase_at plan.phases number).cells (signed w.base) (signed x.base) left steps followed-here few);
          first = λ l. same;
          early = λ l. early-here;
          handed = subst (λ (cs : List ℕ). Begun k.chunk.first workers cs (from - (left - steps)) old new) (sym counts-more)
              (subst (λ (s : ℕ). Begun k.chunk.first workers (map tiles_in (take number plan.phases) ++ tiles ∷ []) s old new) together
              (begun-told k.chunk.first workers tiles (map tiles_in (take number plan.phases)) (from - left) number old mid new result stands.handed is.handed counts-here steps some));
          count = count-here;
        }
          where
            together : (from - left) + steps ≡ from - (left - steps)
            together = let f = stands.fewer in omega (arith, f, few)
