-- A profile, as a way from stage to stage.
use Rattle.std.proofs.Common.{◌≡◌, refl, ap, ◌∙◌, sym, subst, ℕ, ◌≤◌, ℤ, ◌-ℤ◌, List, [], ◌∷◌, ◌++◌, append_assoc, append-nil, length, true, false, Option, Some, ap₂, w64, to_z, of_z, arith}
use Rattle.std.proofs.lemmas.Int.{to_z-of_z}
use Rattle.nest_lang.specs.declared.state.Outer.{Outer}
use Rattle.nest_lang.specs.declared.budget.Ending.TheVariants as ending
use Rattle.nest_lang.specs.declared.budget.Turned.{Turned}
use Rattle.nest_lang.specs.declared.budget.Turned.TheVariants as turned
use Rattle.nest_lang.specs.Traces.{Observation, Finish, Done, seen_in}
use Rattle.nest_lang.specs.Turns.{turns_later, finish_of_turned, IsPositionIn}
use Rattle.nest_lang.specs.Runs.{finish_of_ending}
use Rattle.nest_lang.specs.TurnLaws.{over_is_done}
use Rattle.block_exec.specs.Watches.{Chain}
use Rattle.profile.specs.Sampled.{MayKeep}
use Rattle.profile.specs.FirstProfiles.{has_turn}
use Rattle.profile.proofs.ProfileLaws.{kept-all}
use Rattle.report.specs.declared.line.Line.{Line}
use Rattle.report.specs.declared.line.Line.TheVariants as said
use Rattle.journeys.specs.Settings.{Setting, Moment, Ran, next_turns, observed, profile_turns}
use Rattle.journeys.specs.Stages as stages
use Rattle.journeys.specs.Stages.{Leads, Reaches}
use Rattle.journeys.specs.Stages.ProfileLeads.{stopped, used_up, profiled}
use Rattle.journeys.specs.Stages.Leads.{no_profile, profile}
use Rattle.journeys.specs.Tellings.{profile_line}
use Rattle.controller.specs.declared.stage.Stage.{Stage}
use Rattle.controller.specs.declared.stage.Stage.TheVariants.{Profiles, Chunks, Plainly, Over}
use Rattle.controller.specs.Machines.{IsPlaced}
use Rattle.journeys.specs.HandedRecords.{Launching}
use Rattle.controller.specs.Courses.{HasTurn, IsJudged, Led, ending_of, stage_of, weight}
use Rattle.controller.proofs.PlainTurnLaws.{difference-fits, done-few, next-fits, one-step, placed-on, ran-took, ran-whole, some-turns, turns-told}

-- ---- what was observed

-- a sampler that was handed to some turns keeps what they show
pub kept-observed : (g : Setting) (m : Moment) (c : ℕ) (begun ended : Option (List Observation)) (kept : List Observation) → begun ≡ Some [] → ended ≡ Some kept
    → Chain MayKeep begun (seen_in (next_turns g m c) m.left) ended → kept ≡ observed g m c
kept-observed g m c begun ended kept b e chain =
    kept-all (seen_in (next_turns g m c) m.left) kept
    (subst (λ (x : Option (List Observation)). Chain MayKeep (Some []) (seen_in (next_turns g m c) m.left) x) e
    (subst (λ (x : Option (List Observation)). Chain MayKeep x (seen_in (next_turns g m c) m.left) ended) b chain))

-- ---- stages

weight-most : {D : ℕ} (stage : Stage D) → weight stage ≤ 2
weight-most Profiles = omega arith
weight-most (Chunks chosen) = omega arith
weight-most (Plainly turns) = omega arith
weight-most (Over ending) = omega arith

turn-had : {D : ℕ} (stage : Stage D) (m : Moment) → has_turn m.outer.left ≡ true → HasTurn stage m
turn-had Profiles m on = tt
turn-had (Chunks chosen) m on = tt
turn-had (Plainly turns) m on = on
turn-had (Over ending) m on = tt

-- ---- the way

-- where a `for` has no turn left, the run has ended
pub profile-none : {D : ℕ} (g : Setting) (m : Moment) (before : List Line) → IsPlaced g m → has_turn m.outer.left ≡ false → Led {D = D} g Profiles m before (Over ending.Ended) m before []
profile-none g m before p off = record {
  told = [];
  are = sym (append-nil before);
  reaches = (one-step g stages.Profiles (stages.Over Done) m m [] (no_profile m off), refl);
  nearer = omega arith;
  due = tt;
  turn = tt;
  placed = p;
}

-- a number that was written as an i64 and read again
again : ℤ → ℤ
again z = to_z w64 (of_z w64 z)

-- the line of a profile, from the positions before it and after it
pub profile-told : (g : Setting) (m after : Moment) (c done : ℕ) (finish : Finish) (x y : Outer) (before lines : List Line) → IsPlaced g m → Ran g m c done finish after → IsPositionIn g.loops after.outer
    → length after.store.scalars ≡ length m.store.scalars → x ≡ m.outer → y ≡ after.outer
    → lines ≡ before ++ said.Profile (to_z w64 (of_z w64 x.next)) (to_z w64 (of_z w64 (to_z w64 (of_z w64 y.next) -ℤ to_z w64 (of_z w64 x.next)))) ∷ []
    → lines ≡ before ++ said.Profile m.outer.next (after.outer.next -ℤ m.outer.next) ∷ []
unfolding again
profile-told g m after c done finish x y before lines p r position count from to are =
    let first : again m.outer.next ≡ m.outer.next = to_z-of_z w64 m.outer.next (next-fits g m p) in
    let last : again after.outer.next ≡ after.outer.next = to_z-of_z w64 after.outer.next (next-fits g after (placed-on g m after c done finish p.keeps.loops_keep p r position count)) in
    let between : again (after.outer.next -ℤ m.outer.next) ≡ after.outer.next -ℤ m.outer.next =
    to_z-of_z w64 (after.outer.next -ℤ m.outer.next) (difference-fits m after done r.outer (done-few g m after c done finish p r)) in
    are
    ∙ ap₂ (λ (u v : Outer). before ++ said.Profile (again u.next) (again (again v.next -ℤ again u.next)) ∷ []) from to
    ∙ ap₂ (λ (i j : ℤ). before ++ said.Profile i (again (j -ℤ i)) ∷ []) first last
    ∙ ap (λ (i : ℤ). before ++ said.Profile m.outer.next i ∷ []) between

module _ (g : Setting) (m after : Moment) (done : ℕ) (before told : List Line) (p : IsPlaced g m) (on : has_turn m.outer.left ≡ true)
    (position : IsPositionIn g.loops after.outer) (count : length after.store.scalars ≡ length m.store.scalars)
    (are : told ≡ before ++ said.Profile m.outer.next (after.outer.next -ℤ m.outer.next) ∷ []) where
  line-told : after.outer ≡ turns_later m.outer done → told ≡ before ++ profile_line m done ∷ []
  line-told is = are ∙ ap (λ (z : ℤ). before ++ said.Profile m.outer.next z ∷ []) (turns-told m after done is)

  -- the line of a profile that went through
  line-whole : Ran g m (profile_turns g m) done Done after → told ≡ before ++ profile_line m (profile_turns g m) ∷ []
  line-whole r = line-told r.outer ∙ ap (λ (n : ℕ). before ++ profile_line m n ∷ []) (ran-whole g m after (profile_turns g m) done r)

  all-ran : Ran g m (profile_turns g m) done Done after → Ran g m (profile_turns g m) (profile_turns g m) Done after
  all-ran r = subst (λ (n : ℕ). Ran g m (profile_turns g m) n Done after) (ran-whole g m after (profile_turns g m) done r) r

  out : (D : ℕ) (e : Turned) → over_is_done (finish_of_turned e) ≡ finish_of_ending (ending_of e) → (finish_of_turned e ≡ Done → ⊥) → Ran g m (profile_turns g m) done (finish_of_turned e) after
      → Led {D = D} g Profiles m before (Over (ending_of e)) after told []
  out D e same other r =
      let took = (ran-took g m after p.turn (profile_turns g m) done (finish_of_turned e) p.keeps.loops_keep p.next r).steps in
      record {
        told = profile_line m done ∷ [];
        are = line-told r.outer;
        reaches = subst (λ (f : Finish). Launching g stages.Profiles m (profile_line m done ∷ []) (stages.Over f) after []) same (
          one-step g stages.Profiles (stages.Over (over_is_done (finish_of_turned e))) m after (profile_line m done ∷ [])
              (profile m after (profile_line m done ∷ []) (stages.Over (over_is_done (finish_of_turned e))) on (stopped done (finish_of_turned e) after r other)),
          refl,
        );
        nearer = omega (arith, took);
        due = tt;
        turn = tt;
        placed = placed-on g m after (profile_turns g m) done (finish_of_turned e) p.keeps.loops_keep p r position count;
      }

  -- where a profile ended, trapped or was limited, so did the run
  pub profile-stopped : (D : ℕ) (e : Turned) → (e ≡ turned.Went → ⊥) → Ran g m (profile_turns g m) done (finish_of_turned e) after → Led {D = D} g Profiles m before (Over (ending_of e)) after told []
  profile-stopped D turned.Went other r = absurd (other refl)
  profile-stopped D turned.Ended other r = out D turned.Ended refl (λ is. cc) r
  profile-stopped D (turned.Trapped trap) other r = out D (turned.Trapped trap) refl (λ is. cc) r
  profile-stopped D turned.Limited other r = out D turned.Limited refl (λ is. cc) r

  -- where a `for` has no turn left after it, the run has ended
  pub profile-used_up : (D : ℕ) → Ran g m (profile_turns g m) done Done after → has_turn after.outer.left ≡ false → Led {D = D} g Profiles m before (Over ending.Ended) after told []
  profile-used_up D r off =
      let took = (ran-took g m after p.turn (profile_turns g m) done Done p.keeps.loops_keep p.next r).steps in
      record {
        told = profile_line m (profile_turns g m) ∷ [];
        are = line-whole r;
        reaches = (
          one-step g stages.Profiles (stages.Over Done) m after (profile_line m (profile_turns g m) ∷ [])
              (profile m after (profile_line m (profile_turns g m) ∷ []) (stages.Over Done) on (used_up after (all-ran r) off)),
          refl,
        );
        nearer = omega (arith, took);
        due = tt;
        turn = tt;
        placed = placed-on g m after (profile_turns g m) done Done p.keeps.loops_keep p r position count;
      }

  -- else what was observed is judged
  pub profile-judged : (D : ℕ) (stage : Stage D) (lines : List Line) → 1 ≤ g.sample → Ran g m (profile_turns g m) done Done after → has_turn after.outer.left ≡ true
      → IsJudged g (observed g m (profile_turns g m)) told stage lines → Led {D = D} g Profiles m before stage after lines []
  profile-judged D stage lines some r more j =
      let took = (ran-took g m after p.turn (profile_turns g m) done Done p.keeps.loops_keep p.next r).steps in
      let same = ran-whole g m after (profile_turns g m) done r in
      let least : 1 ≤ profile_turns g m = some-turns m.outer.left g.sample on some in
      let light = weight-most stage in
      record {
        told = profile_line m (profile_turns g m) ∷ j.told;
        are = j.are ∙ ap (λ (ls : List Line). ls ++ j.told) (line-whole r) ∙ append_assoc before (profile_line m (profile_turns g m) ∷ []) j.told;
        reaches = (
          one-step g stages.Profiles (stage_of stage) m after (profile_line m (profile_turns g m) ∷ j.told)
              (profile m after (profile_line m (profile_turns g m) ∷ j.told) (stage_of stage) on (profiled after j.told (stage_of stage) (all-ran r) more j.judged)),
          refl,
        );
        nearer = omega (arith, took, least, same, light);
        due = j.due;
        turn = turn-had stage after more;
        placed = placed-on g m after (profile_turns g m) done Done p.keeps.loops_keep p r position count;
      }
