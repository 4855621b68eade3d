-- A profile, and turns in original order, lead one way.
use Rattle.std.proofs.Common.{◌≡◌, refl, ap, ap₂, ◌∙◌, sym, ℕ, suc, ◌<◌, pos, List, [], ◌∷◌, Bool, true, false, Option, Some, arith, inl, inr, length}
use Rattle.std.proofs.lemmas.Bool.{cases_lt, false≢true}
use Rattle.std.proofs.lemmas.Option.{none-some}
use Rattle.nest_lang.specs.declared.state.Outer.{Outer}
use Rattle.nest_lang.specs.Stores.{Store}
use Rattle.nest_lang.specs.Traces.{Observation, Trace, Finish, Done, Cut}
use Rattle.nest_lang.specs.Turns.{turns_later, AreWhole}
use Rattle.nest_lang.specs.TurnLaws.{over_is_done}
use Rattle.domain.specs.Tables.{Table}
use Rattle.profile.specs.Fits.{IsFitOf}
use Rattle.profile.specs.declared.unfit.Unfit.{Unfit}
use Rattle.profile.proofs.FitLaws.{fit_or_unfit}
use Rattle.profile.proofs.OneFitLaws.{one-fit}
use Rattle.profile.proofs.OneUnfitLaws.{one-first-unfit}
use Rattle.profile.specs.FirstProfiles.{has_turn}
use Rattle.legality.specs.Choices.{choice}
use Rattle.report.specs.declared.line.Line.{Line}
use Rattle.journeys.specs.Settings.{Setting, Moment, Ran, plain_turns, profile_turns, turns_within, observed}
use Rattle.journeys.specs.Tellings.{profile_line, plain_line, unfit_line, illegal_lines}
use Rattle.journeys.specs.Stages.{Stage, Chunks, Over, AreJudged, ProfileLeads, PlainLeads}
use Rattle.journeys.specs.Stages.AreJudged.{unfit, none_legal, chosen}
use Rattle.journeys.specs.Stages.ProfileLeads.{stopped as profile_stopped, used_up, profiled}
use Rattle.journeys.specs.Stages.PlainLeads.{stopped as plain_stopped, gone_on}
use Rattle.journeys.specs.Laws.{ProfileLeadsOneWay, PlainLeadsOneWay, SameWay}

-- ---- turns that were run

one-whole : (turns : ℕ → Store → Trace) (s : Store) (left c i j : ℕ) → AreWhole turns s left c i → AreWhole turns s left c j → i ≡ j
one-whole turns s left c i j a b = elim (cases_lt i j) [
  | inl less ↦ absurd (a.most j less b.within b.done)
  | inr not-less ↦ elim (cases_lt j i) [
    | inl more ↦ absurd (b.most i more a.within a.done)
    | inr not_more ↦ omega arith
  ]
]

moment-same : (a b : Moment) → a.outer ≡ b.outer → a.store ≡ b.store → a.left ≡ b.left → a.used ≡ b.used → a ≡ b
moment-same a b outer store left used =
    ap (λ (o : Outer). record a { outer = o }) outer
    ∙ ap (λ (s : Store). record b { store = s; left = a.left; used = a.used }) store
    ∙ ap (λ (n : ℕ). record b { left = n; used = a.used }) left
    ∙ ap (λ (n : ℕ). record b { used = n }) used

pub record SameRun (i j : ℕ) (f h : Finish) (p q : Moment) : Type 0 where
  pub done : i ≡ j
  pub finish : f ≡ h
  pub there : p ≡ q

module _ (g : Setting) (m : Moment) where
  pub ran-one : (c i j : ℕ) (finish finish' : Finish) (after after' : Moment) → Ran g m c i finish after → Ran g m c j finish' after' → SameRun i j finish finish' after after'
  ran-one c i j finish finish' after after' a b =
      let k = suc m.left in
      let few : m.left < k = omega arith in
      let whole : i ≡ j = one-whole (plain_turns g k m) m.store m.left c i j (a.whole k few) (b.whole k few) in
      let run = a.cut k few ∙ sym (b.cut k few) in
      record {
        done = whole;
        finish = ap (λ (x : Cut). x.ending) run;
        there = moment-same after after' (a.outer ∙ ap (λ (n : ℕ). turns_later m.outer n) whole ∙ sym b.outer) (ap (λ (x : Cut). x.store) run) (ap (λ (x : Cut). x.left) run) (ap (λ (x : Cut). x.used) run);
      }

  -- ---- turns in original order

  plain-one : (turns : ℕ) (lines lines' : List Line) (stage stage' : Stage) (after after' : Moment) → PlainLeads turns g m lines stage after → PlainLeads turns g m lines' stage' after' → SameWay lines lines' stage stage' after after'
  plain-one turns lines lines' stage stage' after after' (plain_stopped i f p a other) (plain_stopped j h q b other') =
      let same = ran-one (turns_within m.outer.left turns) i j f h p q a b in
      record { told = ap (λ (n : ℕ). plain_line m n ∷ []) same.done; next = ap (λ (x : Finish). Over (over_is_done x)) same.finish; there = same.there }
  plain-one turns lines lines' stage stage' after after' (plain_stopped i f p a other) (gone_on q b) =
      let same = ran-one (turns_within m.outer.left turns) i (turns_within m.outer.left turns) f Done p q a b in absurd (other same.finish)
  plain-one turns lines lines' stage stage' after after' (gone_on p a) (plain_stopped j h q b other) =
      let same = ran-one (turns_within m.outer.left turns) (turns_within m.outer.left turns) j Done h p q a b in absurd (other (sym same.finish))
  plain-one turns lines lines' stage stage' after after' (gone_on p a) (gone_on q b) =
      let same = ran-one (turns_within m.outer.left turns) (turns_within m.outer.left turns) (turns_within m.outer.left turns) Done Done p q a b in
      record { told = refl; next = refl; there = same.there }

-- ---- what observations lead to

record SameStage (lines others : List Line) (stage another : Stage) : Type 0 where
  told : lines ≡ others
  next : stage ≡ another

some-one : (x : Option ℕ) (i j : ℕ) → x ≡ Some i → x ≡ Some j → i ≡ j
some-one x i j a b = let e = sym a ∙ b in cc

module _ (g : Setting) (observations : List Observation) where
  abbrev Fits : Table → Type 0
  Fits t = IsFitOf (length g.loops) g.scalars g.loops observations t

  same-table : (t u : Table) → Fits t → Fits u → t ≡ u
  same-table t u a b = one-fit (length g.loops) g.scalars g.loops observations t u a b

  told-one : (t u : Table) → t ≡ u → illegal_lines g.loops 1 (choice t (pos g.chunk) g.candidates).refusals ≡ illegal_lines g.loops 1 (choice u (pos g.chunk) g.candidates).refusals
  told-one t u same = ap (λ (x : Table). illegal_lines g.loops 1 (choice x (pos g.chunk) g.candidates).refusals) same

  judged-one : (lines lines' : List Line) (stage stage' : Stage) → AreJudged g observations lines stage → AreJudged g observations lines' stage' → SameStage lines lines' stage stage'
  judged-one lines lines' stage stage' (unfit u a) (unfit v b) =
      let same = one-first-unfit (length g.loops) g.scalars g.loops observations u v a b in
      record { told = ap (λ (x : Unfit (length g.loops)). unfit_line g.loops x ∷ []) same; next = refl }
  judged-one lines lines' stage stage' (unfit u a) (none_legal t b none) = absurd (fit_or_unfit (length g.loops) g.scalars g.loops observations t u b a)
  judged-one lines lines' stage stage' (unfit u a) (chosen t number b some) = absurd (fit_or_unfit (length g.loops) g.scalars g.loops observations t u b a)
  judged-one lines lines' stage stage' (none_legal t a none) (unfit u b) = absurd (fit_or_unfit (length g.loops) g.scalars g.loops observations t u a b)
  judged-one lines lines' stage stage' (chosen t number a some) (unfit u b) = absurd (fit_or_unfit (length g.loops) g.scalars g.loops observations t u a b)
  judged-one lines lines' stage stage' (none_legal t a none) (none_legal u b none') = record { told = told-one t u (same-table t u a b); next = refl }
  judged-one lines lines' stage stage' (none_legal t a none) (chosen u number b some) =
      let same = same-table t u a b in absurd (none-some number (sym none ∙ ap (λ (x : Table). (choice x (pos g.chunk) g.candidates).legal) same ∙ some))
  judged-one lines lines' stage stage' (chosen t number a some) (none_legal u b none) =
      let same = same-table t u a b in absurd (none-some number (sym none ∙ ap (λ (x : Table). (choice x (pos g.chunk) g.candidates).legal) (sym same) ∙ some))
  judged-one lines lines' stage stage' (chosen t number a some) (chosen u number' b some') =
      let same = same-table t u a b in
      let which : number ≡ number' = some-one (choice t (pos g.chunk) g.candidates).legal number number' some (ap (λ (x : Table). (choice x (pos g.chunk) g.candidates).legal) same ∙ some') in
      record { told = told-one t u same; next = ap₂ (λ (x : Table) (n : ℕ). Chunks x n) same which }

-- ---- a profile

pub has-both : (b : Bool) → b ≡ true → b ≡ false → ⊥
has-both b on off = false≢true (sym off ∙ on)

module _ (g : Setting) (m : Moment) where
  profile-one : (lines lines' : List Line) (stage stage' : Stage) (after after' : Moment) → ProfileLeads g m lines stage after → ProfileLeads g m lines' stage' after' → SameWay lines lines' stage stage' after after'
  profile-one lines lines' stage stage' after after' (profile_stopped i f p a other) (profile_stopped j h q b other') =
      let same = ran-one g m (profile_turns g m) i j f h p q a b in
      record { told = ap (λ (n : ℕ). profile_line m n ∷ []) same.done; next = ap (λ (x : Finish). Over (over_is_done x)) same.finish; there = same.there }
  profile-one lines lines' stage stage' after after' (profile_stopped i f p a other) (used_up q b off) =
      absurd (other (ran-one g m (profile_turns g m) i (profile_turns g m) f Done p q a b).finish)
  profile-one lines lines' stage stage' after after' (profile_stopped i f p a other) (profiled q more next b on are) =
      absurd (other (ran-one g m (profile_turns g m) i (profile_turns g m) f Done p q a b).finish)
  profile-one lines lines' stage stage' after after' (used_up p a off) (profile_stopped j h q b other) =
      absurd (other (sym (ran-one g m (profile_turns g m) (profile_turns g m) j Done h p q a b).finish))
  profile-one lines lines' stage stage' after after' (profiled p more next a on are) (profile_stopped j h q b other) =
      absurd (other (sym (ran-one g m (profile_turns g m) (profile_turns g m) j Done h p q a b).finish))
  profile-one lines lines' stage stage' after after' (used_up p a off) (used_up q b off') =
      record { told = refl; next = refl; there = (ran-one g m (profile_turns g m) (profile_turns g m) (profile_turns g m) Done Done p q a b).there }
  profile-one lines lines' stage stage' after after' (used_up p a off) (profiled q more next b on are) =
      let same = (ran-one g m (profile_turns g m) (profile_turns g m) (profile_turns g m) Done Done p q a b).there in
      absurd (has-both (has_turn q.outer.left) on (ap (λ (x : Moment). has_turn x.outer.left) (sym same) ∙ off))
  profile-one lines lines' stage stage' after after' (profiled p more next a on are) (used_up q b off) =
      let same = (ran-one g m (profile_turns g m) (profile_turns g m) (profile_turns g m) Done Done p q a b).there in
      absurd (has-both (has_turn p.outer.left) on (ap (λ (x : Moment). has_turn x.outer.left) same ∙ off))
  profile-one lines lines' stage stage' after after' (profiled p more next a on are) (profiled q more' next' b on' are') =
      let same = (ran-one g m (profile_turns g m) (profile_turns g m) (profile_turns g m) Done Done p q a b).there in
      let judged = judged-one g (observed g m (profile_turns g m)) more more' next next' are are' in
      record { told = ap (λ (ls : List Line). profile_line m (profile_turns g m) ∷ ls) judged.told; next = judged.next; there = same }

pub plain-leads-one-way : PlainLeadsOneWay
plain-leads-one-way turns g m lines lines' stage stage' after after' a b = plain-one g m turns lines lines' stage stage' after after' a b

pub profile-leads-one-way : ProfileLeadsOneWay
profile-leads-one-way g m lines lines' stage stage' after after' a b = profile-one g m lines lines' stage stage' after after' a b
