-- Each stage leads somewhere.
use Rattle.std.proofs.Common.{◌≡◌, refl, ap, ◌∙◌, sym, subst, ℕ, zero, suc, ◌+◌, ◌-◌, ◌<◌, ◌≤◌, pos, ◌≤ℤ◌, List, length, slice_get, Bool, true, false, Option, Some, None, ◌⊎◌, inl, inr, arith}
use Rattle.std.proofs.lemmas.Bool.{cases_lt}
use Rattle.std.proofs.lemmas.Int.{ints}
use Rattle.nest_lang.specs.Lookups.{plain}
use Rattle.nest_lang.specs.Traces.{Cut, Done, Finish, Halt, Halted, Limited, Observation, Trace, cut}
use Rattle.nest_lang.specs.Stores.{Store}
use Rattle.nest_lang.specs.Turns.{AreWhole, turns_later}
use Rattle.nest_lang.proofs.AgreementLaws.{cut-alike}
use Rattle.transform.specs.Schedules.{Schedule}
use Rattle.domain.specs.Tables.{IsTable, Table}
use Rattle.domain.specs.Launches.{IsLaunched}
use Rattle.follow.specs.Deviations.{Deviation, FollowsPrediction, IsDeviation}
use Rattle.follow.specs.Hows.{how_of}
use Rattle.follow.proofs.BoundLaws.{turns-alike}
use Rattle.follow.proofs.DeviatingLaws.{deviates-or-follows}
use Rattle.follow_chunk.specs.Predicted.{forecast_of}
use Rattle.compare.specs.Compared.{instance_in}
use Rattle.profile.specs.Fits.{IsFitOf}
use Rattle.profile.proofs.SomeFitLaws.{fit-or-first-unfit}
use Rattle.profile.specs.FirstProfiles.{has_turn}
use Rattle.legality.specs.Choices.{choice}
use Rattle.report.specs.declared.line.Line.{Line}
use Rattle.journeys.specs.Settings.{Setting, Moment, Ran, chunk_turns, next_chunk, observed, plain_turns, profile_turns, turns_within, words_at}
use Rattle.journeys.specs.Stages.{Stage, AreJudged, ChunkLeads, PlainLeads, ProfileLeads, chunk_run_from}
use Rattle.journeys.specs.Stages.AreJudged.{unfit, none_legal, chosen}
use Rattle.journeys.specs.Stages.ProfileLeads.{stopped as profile_stopped, used_up, profiled}
use Rattle.journeys.specs.Stages.ChunkLeads.{held, rolled_back, committed}
use Rattle.journeys.specs.Stages.PlainLeads.{stopped as plain_stopped, gone_on}
use Rattle.journeys.specs.Laws.{ChunkLeadsSomewhere, PlainLeadsSomewhere, ProfileLeadsSomewhere}
use Rattle.journeys.proofs.PlainRunLaws.{no-turns}
use Rattle.journeys.proofs.SomeLaunch.{launch-ends, some-numbers}

halted-done : (halt : Halt) → Halted halt ≡ Done → ⊥
halted-done halt e = cc

limited-done : Limited ≡ Done → ⊥
limited-done e = cc

-- the same run, but for the steps that were used before it
ending-same : (t : Trace) (s : Store) (left used other : ℕ) → (cut t s left used).ending ≡ (cut t s left other).ending
unfolding cut
ending-same t s left used other = refl

module _ (g : Setting) (m : Moment) where
  -- ---- turns

  abbrev turns : ℕ → Store → Trace
  turns = plain_turns g (m.left + 1) m

  same-cut : (k j c used : ℕ) → m.left < k → m.left < j → cut (plain_turns g k m c m.store) m.store m.left used ≡ cut (plain_turns g j m c m.store) m.store m.left used
  same-cut k j c used few less =
      cut-alike (plain_turns g k m c m.store) (plain_turns g j m c m.store) m.store m.left used (turns-alike (m.left + 1) k j plain g.loops m.outer c (omega (arith, few)) (omega (arith, less)) m.store)

  abbrev ended : ℕ → Finish
  ended n = (cut (turns n m.store) m.store m.left 0).ending

  abbrev SomeWhole : ℕ → Type 0
  SomeWhole c = (j : ℕ) × AreWhole turns m.store m.left c j

  -- the greatest number of turns that are done
  whole-from : (c n : ℕ) → n ≤ c → ((i : ℕ) → n < i → i ≤ c → ended i ≡ Done → ⊥) → SomeWhole c
  whole-from c zero few none = (0, record { within = few; done = ap (λ (x : Cut). x.ending) (sym (no-turns g.loops (m.left + 1) m.outer m.store m.left 0)); most = none })
  whole-from c (suc n) few none = by (ended (suc n)) refl (λ other. whole-from c n (omega (arith, few)) (λ i less most done. upto i less most other done))
    where
      upto : (i : ℕ) → n < i → i ≤ c → (ended (suc n) ≡ Done → ⊥) → ended i ≡ Done → ⊥
      upto i less most other done = elim (cases_lt (suc n) i) [
        | inl more ↦ none i more most done
        | inr not_more ↦ let same : i ≡ suc n = omega (arith, less, not_more) in other (ap ended (sym same) ∙ done)
      ]

      by : (f : Finish) → ended (suc n) ≡ f → ((ended (suc n) ≡ Done → ⊥) → SomeWhole c) → SomeWhole c
      by Done e more = (suc n, record { within = few; done = e; most = none })
      by (Halted halt) e more = more (λ d. halted-done halt (sym e ∙ d))
      by Limited e more = more (λ d. limited-done (sym e ∙ d))

  pub record SomeRun (c : ℕ) : Type 0 where
    pub done : ℕ
    pub finish : Finish
    pub after : Moment
    pub ran : Ran g m c done finish after

  -- some turns are run in original order
  pub some-run : (c : ℕ) → SomeRun c
  some-run c = by (whole-from c c (omega arith) (λ i less most done. omega (arith, less, most)))
    where
      run : Cut
      run = cut (turns c m.store) m.store m.left m.used

      by : SomeWhole c → SomeRun c
      by (j, are) = record {
        done = j;
        finish = run.ending;
        after = record { outer = turns_later m.outer j; store = run.store; left = run.left; used = run.used };
        ran = record {
          whole = λ k few. record {
            within = are.within;
            done = ap (λ (x : Cut). x.ending) (same-cut k (m.left + 1) j 0 few (omega arith)) ∙ are.done;
            most = λ i less most done. are.most i less most (ap (λ (x : Cut). x.ending) (same-cut (m.left + 1) k i 0 (omega arith) few) ∙ done);
          };
          cut = λ k few. same-cut (m.left + 1) k c m.used (omega arith) few;
          outer = refl;
        };
      }

  -- where they are done, all of them are
  all-done : (c done : ℕ) (after : Moment) → Ran g m c done Done after → done ≡ c
  all-done c done after r =
      let whole = r.whole (m.left + 1) (omega arith) in
      let ends : ended c ≡ Done = ending-same (turns c m.store) m.store m.left 0 m.used ∙ ap (λ (x : Cut). x.ending) (sym (r.cut (m.left + 1) (omega arith))) in
      elim (cases_lt done c) [
        | inl less ↦ absurd (whole.most c less (omega arith) ends)
        | inr not-less ↦ let within = whole.within in omega (arith, not-less, within)
      ]

  -- ---- turns in original order

  pub record SomePlain (count : ℕ) : Type 0 where
    pub lines : List Line
    pub stage : Stage
    pub after : Moment
    pub leads : PlainLeads count g m lines stage after

  pub some-plain : (count : ℕ) → SomePlain count
  some-plain count = by (some-run c)
    where
      c : ℕ
      c = turns_within m.outer.left count

      at : (f : Finish) (done : ℕ) (after : Moment) → Ran g m (turns_within m.outer.left count) done f after → SomePlain count
      at Done done after r = record { lines = _; stage = _; after = after; leads = gone_on after (subst (λ (n : ℕ). Ran g m (turns_within m.outer.left count) n Done after) (all-done (turns_within m.outer.left count) done after r) r) }
      at (Halted halt) done after r = record { lines = _; stage = _; after = after; leads = plain_stopped done (Halted halt) after r (halted-done halt) }
      at Limited done after r = record { lines = _; stage = _; after = after; leads = plain_stopped done Limited after r limited-done }

      by : SomeRun (turns_within m.outer.left count) → SomePlain count
      by x = at x.finish x.done x.after x.ran

-- ---- what observations lead to

module _ (g : Setting) (observations : List Observation) where
  pub record SomeJudgement : Type 0 where
    pub lines : List Line
    pub stage : Stage
    pub are : AreJudged g observations lines stage

  pub some-judgement : SomeJudgement
  some-judgement = elim (fit-or-first-unfit (length g.loops) g.scalars g.loops observations) [
    | inl fits ↦ by fits.0 fits.1 (choice fits.0 (pos g.chunk) g.candidates).legal refl
    | inr none ↦ record { lines = _; stage = _; are = unfit none.0 none.1 }
  ]
    where
      by : (t : Table) → IsFitOf (length g.loops) g.scalars g.loops observations t → (o : Option ℕ) → (choice t (pos g.chunk) g.candidates).legal ≡ o → SomeJudgement
      by t fits None e = record { lines = _; stage = _; are = none_legal t fits e }
      by t fits (Some number) e = record { lines = _; stage = _; are = chosen t number fits e }

-- ---- a profile

module _ (g : Setting) (m : Moment) where
  pub record SomeProfile : Type 0 where
    pub lines : List Line
    pub stage : Stage
    pub after : Moment
    pub leads : ProfileLeads g m lines stage after

  pub some-profile : SomeProfile
  some-profile = by (some-run g m (profile_turns g m))
    where
      judged : (after : Moment) → Ran g m (profile_turns g m) (profile_turns g m) Done after → (b : Bool) → has_turn after.outer.left ≡ b → SomeProfile
      judged after r false off = record { lines = _; stage = _; after = after; leads = used_up after r off }
      judged after r true on =
          let j = some-judgement g (observed g m (profile_turns g m)) in
          record { lines = _; stage = _; after = after; leads = profiled after j.lines j.stage r on j.are }

      at : (f : Finish) (done : ℕ) (after : Moment) → Ran g m (profile_turns g m) done f after → SomeProfile
      at Done done after r = judged after (subst (λ (n : ℕ). Ran g m (profile_turns g m) n Done after) (all-done g m (profile_turns g m) done after r) r) (has_turn after.outer.left) refl
      at (Halted halt) done after r = record { lines = _; stage = _; after = after; leads = profile_stopped done (Halted halt) after r (halted-done halt) }
      at Limited done after r = record { lines = _; stage = _; after = after; leads = profile_stopped done Limited after r limited-done }

      by : SomeRun g m (profile_turns g m) → SomeProfile
      by x = at x.finish x.done x.after x.ran

-- ---- a chunk

module _ (t : Table) (number : ℕ) (g : Setting) (m : Moment) where
  pub record SomeChunk : Type 0 where
    pub lines : List Line
    pub stage : Stage
    pub after : Moment
    pub leads : ChunkLeads t number g m lines stage after

  pub some-chunk : IsTable (length g.loops) t → (s : Schedule) → slice_get g.candidates (number - 1) ≡ Some s → pos 0 ≤ℤ m.outer.next → 1 ≤ chunk_turns g m → SomeChunk
  some-chunk is s which low some = elim (launch-ends (length g.loops) t is (next_chunk g m) (words_at m) low (omega (arith, ints, some))) [
    | inl launched ↦ run launched.0 launched.1 (deviates-or-follows (forecast_of t) (chunk_run_from t g m))
    | inr stays ↦ record { lines = _; stage = _; after = m; leads = held stays.0 stays.1 stays.2 }
  ]
    where
      at : (instances : ℕ) → IsLaunched t (words_at m) (next_chunk g m) instances → FollowsPrediction (forecast_of t) (chunk_run_from t g m) → SomeRun g m (chunk_turns g m) → SomeChunk
      at instances launched follows x =
          let n = some-numbers (record { table = t; schedule = s; chunk = next_chunk g m }) (words_at m) instances launched in
          let ends : x.finish ≡ Done = ap (λ (c : Cut). c.ending) (x.ran.cut (m.left + 1) (omega arith)) ∙ ending-same (plain_turns g (m.left + 1) m (chunk_turns g m) m.store) m.store m.left m.used 0 ∙ follows.1 in
          let r = subst (λ (f : Finish). Ran g m (chunk_turns g m) x.done f x.after) ends x.ran in
          let whole = subst (λ (c : ℕ). Ran g m (chunk_turns g m) c Done x.after) (all-done g m (chunk_turns g m) x.done x.after r) r in
          record { lines = _; stage = _; after = x.after; leads = committed s instances n.phases n.tiles x.after which n.numbers follows whole }

      run : (instances : ℕ) → IsLaunched t (words_at m) (next_chunk g m) instances → ((d : Deviation) × IsDeviation (forecast_of t) (chunk_run_from t g m) d) ⊎ FollowsPrediction (forecast_of t) (chunk_run_from t g m) → SomeChunk
      run instances launched (inl (d, deviates)) = record {
        lines = _;
        stage = _;
        after = m;
        leads = rolled_back s instances (instance_in t (next_chunk g m) (chunk_run_from t g m).observations d) (how_of (forecast_of t) d) which launched (d, deviates, refl, refl);
      }
      run instances launched (inr follows) = at instances launched follows (some-run g m (chunk_turns g m))

-- ---- the laws

pub profile-leads-somewhere : ProfileLeadsSomewhere
profile-leads-somewhere g m = let x = some-profile g m in (x.lines, x.stage, x.after, x.leads)

pub plain-leads-somewhere : PlainLeadsSomewhere
plain-leads-somewhere turns g m = let x = some-plain g m turns in (x.lines, x.stage, x.after, x.leads)

pub chunk-leads-somewhere : ChunkLeadsSomewhere
chunk-leads-somewhere t number g m s is which low some = let x = some-chunk t number g m is s which low some in (x.lines, x.stage, x.after, x.leads)
