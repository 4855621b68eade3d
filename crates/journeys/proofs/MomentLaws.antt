-- Where a run stands: each stage leads from a moment of the plain run to another.
use Rattle.std.proofs.Common.{◌≡◌, refl, ap, ◌∙◌, sym, subst, ℕ, zero, suc, ◌+◌, ◌-◌, ◌<◌, ◌≤◌, pos, ◌+ℤ◌, List, false, Option, Some, None, IfSome, arith}
use Rattle.std.proofs.lemmas.Int.{ints}
use Rattle.std.proofs.lemmas.Bool.{false≢true}
use Rattle.nest_lang.specs.declared.state.Outer.{Outer}
use Rattle.nest_lang.specs.Lookups.{plain}
use Rattle.nest_lang.specs.Traces.{Observation, Trace, Finish, Done, Cut, cut, cut_of}
use Rattle.nest_lang.specs.Turns.{turns_trace, turns_later, left_after}
use Rattle.nest_lang.specs.TurnLaws.{over_is_done}
use Rattle.nest_lang.proofs.CutLaws.{cut-and_then, cut-left, resumed}
use Rattle.nest_lang.proofs.TurnLaws.{turns_trace-split}
use Rattle.domain.specs.Tables.{Table}
use Rattle.profile.specs.FirstProfiles.{has_turn}
use Rattle.report.specs.declared.line.Line.{Line}
use Rattle.journeys.specs.Settings.{Setting, Moment, Ran, plain_turns, profile_turns, turns_within, observed}
use Rattle.journeys.specs.Stages.{Stage, Profiles, Chunks, Plainly, Over, AreJudged, ProfileLeads, ChunkLeads, PlainLeads, Leads, Reaches}
use Rattle.journeys.specs.Stages.AreJudged.{unfit, none_legal, chosen}
use Rattle.journeys.specs.Stages.ProfileLeads.{stopped as profile_stopped, used_up, profiled}
use Rattle.journeys.specs.Stages.ChunkLeads.{held, rolled_back, committed}
use Rattle.journeys.specs.Stages.PlainLeads.{stopped as plain_stopped, gone_on}
use Rattle.journeys.specs.Stages.Leads.{no_profile, no_chunk, profile, chunk, plainly}
use Rattle.journeys.specs.Stages.Reaches.{begun, then}

-- ---- positions

left_after-more : (left : Option ℕ) (i j : ℕ) → left_after (left_after left i) j ≡ left_after left (i + j)
left_after-more None i j = refl
left_after-more (Some n) i j = let e : n - i - j ≡ n - (i + j) = omega arith in rw e refl

later-later : (o : Outer) (i j : ℕ) → turns_later (turns_later o i) j ≡ turns_later o (i + j)
later-later o i j =
    let n : o.next +ℤ pos i +ℤ pos j ≡ o.next +ℤ pos (i + j) = omega (arith, ints) in
    rw (n, left_after-more o.left i j) refl

-- so many turns are within what is left, where they follow others that are
within-more : (left : Option ℕ) (i c : ℕ) → IfSome left (λ n. i ≤ n) → IfSome left (λ n. i + turns_within (left_after left i) c ≤ n)
within-more None i c upto = tt
within-more (Some n) i c upto = omega (arith, upto)

no-turn-zero : (n : ℕ) → has_turn (Some n) ≡ false → n ≡ 0
no-turn-zero zero off = refl
no-turn-zero (suc n) off = absurd (false≢true (sym off))

-- where no turn is left, all of them were done
all-done : (left : Option ℕ) (i : ℕ) → IfSome left (λ n. i ≤ n) → has_turn (left_after left i) ≡ false → left ≡ Some i
all-done None i upto off = absurd (false≢true (sym off))
all-done (Some n) i upto off = let none = no-turn-zero (n - i) off in let same : n ≡ i = omega (arith, upto, none) in ap Some same

-- ---- moments

-- the plain run of so many turns from a start leads to a moment, and all of them are done
pub record Stands (g : Setting) (k : ℕ) (e m : Moment) : Type 0 where
  pub turns : ℕ
  pub outer : m.outer ≡ turns_later e.outer turns
  pub cut : cut_of m.store m.left m.used Done ≡ cut (plain_turns g k e turns e.store) e.store e.left e.used
  pub upto : IfSome e.outer.left (λ n. turns ≤ n)

-- the run has finished so: the plain run of so many turns leads to a moment and finishes so there, and where it is done there
-- is no further turn
pub record Ended (g : Setting) (k : ℕ) (e m : Moment) (finish : Finish) : Type 0 where
  pub turns : ℕ
  pub last : Finish
  pub cut : cut_of m.store m.left m.used last ≡ cut (plain_turns g k e turns e.store) e.store e.left e.used
  pub upto : IfSome e.outer.left (λ n. turns ≤ n)
  pub is : over_is_done last ≡ finish
  pub all : last ≡ Done → e.outer.left ≡ Some turns

abbrev pub Arrives : Setting → ℕ → Moment → Stage → Moment → Type 0
Arrives g k e Profiles m = Stands g k e m
Arrives g k e (Chunks t number) m = Stands g k e m
Arrives g k e (Plainly turns) m = Stands g k e m
Arrives g k e (Over finish) m = Ended g k e m finish

pub stands-start : (g : Setting) (k t : ℕ) (e : Moment) → e.outer.next ≡ pos t → cut_of e.store e.left e.used Done ≡ cut (plain_turns g k e 0 e.store) e.store e.left e.used → Stands g k e e
stands-start g k t e next none = record { turns = 0; outer = at-none; cut = none; upto = upto e.outer.left }
  where
    left-none : (left : Option ℕ) → left ≡ left_after left 0
    left-none None = refl
    left-none (Some n) = let same : n - 0 ≡ n = omega arith in rw same refl

    upto : (left : Option ℕ) → IfSome left (λ n. 0 ≤ n)
    upto None = tt
    upto (Some n) = omega arith

    at-none : e.outer ≡ turns_later e.outer 0
    at-none =
        let n : e.outer.next +ℤ pos 0 ≡ e.outer.next = omega (arith, ints) in
        rw n (ap (λ (left : Option ℕ). record e.outer { left = left }) (left-none e.outer.left))

module _ (g : Setting) (k t : ℕ) (e : Moment) (next : e.outer.next ≡ pos t) (few : e.left < k) where
  module _ (m : Moment) (s : Stands g k e m) where
    fewer : m.left ≤ e.left
    fewer = let same = ap (λ (run : Cut). run.left) s.cut in let most = cut-left (plain_turns g k e s.turns e.store) e.store e.left e.used in omega (arith, same, most)

    -- more turns from there are more turns from the start
    joined : (c : ℕ) → cut (plain_turns g k e (s.turns + c) e.store) e.store e.left e.used ≡ cut (plain_turns g k m c m.store) m.store m.left m.used
    joined c =
        ap (λ (u : Trace). cut u e.store e.left e.used) (turns_trace-split plain k g.loops e.outer t s.turns c e.store next)
        ∙ cut-and_then (plain_turns g k e s.turns e.store) (turns_trace plain k g.loops (turns_later e.outer s.turns) c) e.store e.left e.used
        ∙ ap (λ (run : Cut). resumed run (turns_trace plain k g.loops (turns_later e.outer s.turns) c)) (sym s.cut)
        ∙ ap (λ (o : Outer). cut (turns_trace plain k g.loops o c m.store) m.store m.left m.used) (sym s.outer)

    leads-to : (c done : ℕ) (finish : Finish) (after : Moment) → Ran g m c done finish after → cut_of after.store after.left after.used finish ≡ cut (plain_turns g k e (s.turns + c) e.store) e.store e.left e.used
    leads-to c done finish after r = r.cut k (omega (arith, few, fewer)) ∙ sym (joined c)

    upto-more : (c : ℕ) → IfSome e.outer.left (λ n. s.turns + turns_within m.outer.left c ≤ n)
    upto-more c =
        subst (λ (left : Option ℕ). IfSome e.outer.left (λ n. s.turns + turns_within left c ≤ n)) (sym (ap (λ (o : Outer). o.left) s.outer))
        (within-more e.outer.left s.turns c s.upto)

    stands-on : (c : ℕ) (after : Moment) → Ran g m (turns_within m.outer.left c) (turns_within m.outer.left c) Done after → Stands g k e after
    stands-on c after r = record {
      turns = s.turns + turns_within m.outer.left c;
      outer = r.outer ∙ ap (λ (o : Outer). turns_later o (turns_within m.outer.left c)) s.outer ∙ later-later e.outer s.turns (turns_within m.outer.left c);
      cut = leads-to (turns_within m.outer.left c) (turns_within m.outer.left c) Done after r;
      upto = upto-more c;
    }

    stopped-there : (c done : ℕ) (finish : Finish) (after : Moment) → Ran g m (turns_within m.outer.left c) done finish after → (finish ≡ Done → ⊥) → Ended g k e after (over_is_done finish)
    stopped-there c done finish after r other = record {
      turns = s.turns + turns_within m.outer.left c;
      last = finish;
      cut = leads-to (turns_within m.outer.left c) done finish after r;
      upto = upto-more c;
      is = refl;
      all = λ is. absurd (other is);
    }

    over-there : has_turn m.outer.left ≡ false → Ended g k e m Done
    over-there off = record {
      turns = s.turns;
      last = Done;
      cut = s.cut;
      upto = s.upto;
      is = refl;
      all = λ is. all-done e.outer.left s.turns s.upto (sym (ap (λ (o : Outer). has_turn o.left) s.outer) ∙ off);
    }

  judged : (observations : List Observation) (lines : List Line) (stage : Stage) (m : Moment) → AreJudged g observations lines stage → Stands g k e m → Arrives g k e stage m
  judged observations lines stage m (unfit u at) s = s
  judged observations lines stage m (none_legal table fit none) s = s
  judged observations lines stage m (chosen table number fit some) s = s

  profile-leads : (m after : Moment) (lines : List Line) (stage : Stage) → ProfileLeads g m lines stage after → Stands g k e m → Arrives g k e stage after
  profile-leads m after lines stage (profile_stopped done finish there r other) s = stopped-there m s g.sample done finish there r other
  profile-leads m after lines stage (used_up there r off) s = over-there there (stands-on m s g.sample there r) off
  profile-leads m after lines stage (profiled there more next' r on are) s = judged (observed g m (profile_turns g m)) more next' there are (stands-on m s g.sample there r)

  chunk-leads : (table : Table) (number : ℕ) (m after : Moment) (lines : List Line) (stage : Stage) → ChunkLeads table number g m lines stage after → Stands g k e m → Arrives g k e stage after
  chunk-leads table number m after lines stage (held at why is) s = s
  chunk-leads table number m after lines stage (rolled_back schedule instances at how which launched is) s = s
  chunk-leads table number m after lines stage (committed schedule instances phases tiles there which numbers follows r) s = stands-on m s g.chunk there r

  plain-leads : (turns : ℕ) (m after : Moment) (lines : List Line) (stage : Stage) → PlainLeads turns g m lines stage after → Stands g k e m → Arrives g k e stage after
  plain-leads turns m after lines stage (plain_stopped done finish there r other) s = stopped-there m s turns done finish there r other
  plain-leads turns m after lines stage (gone_on there r) s = stands-on m s turns there r

  leads-on : (from : Stage) (m after : Moment) (lines : List Line) (stage : Stage) → Leads g from m lines stage after → Arrives g k e from m → Arrives g k e stage after
  leads-on from m after lines stage (no_profile at off) s = over-there at s off
  leads-on from m after lines stage (no_chunk table number at off) s = over-there at s off
  leads-on from m after lines stage (profile at there more next' on leads) s = profile-leads at there more next' leads s
  leads-on from m after lines stage (chunk table number at there more next' on leads) s = chunk-leads table number at there more next' leads s
  leads-on from m after lines stage (plainly turns at there more next' leads) s = plain-leads turns at there more next' leads s

  -- each moment that is reached is one of the plain run
  pub arrives : (from : Stage) (start : Moment) (lines : List Line) (stage : Stage) (m : Moment) → Reaches g from start lines stage m → Arrives g k e from start → Arrives g k e stage m
  arrives from start lines stage m begun s = s
  arrives from start lines stage m (then before more mid next' at there r leads) s = leads-on mid at there more next' leads (arrives from start before mid at r s)
