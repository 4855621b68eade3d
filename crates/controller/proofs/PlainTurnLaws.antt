-- Turns in original order, as a way from stage to stage.
use Rattle.std.proofs.Common.{◌≡◌, refl, ap, ◌∙◌, sym, subst, ℕ, zero, suc, ◌+◌, ◌-◌, ◌<◌, ◌≤◌, ℤ, pos, ◌+ℤ◌, ◌-ℤ◌, List, [], ◌∷◌, ◌++◌, length, true, Option, Some, None, Result, Ok, Err, IfOk, OnErr, FitsSigned, w64, ◌^◌, inl, inr, arith}
use Rattle.std.proofs.lemmas.Int.{ints}
use Rattle.std.proofs.lemmas.Bool.{cases_lt, false≢true}
use Rattle.nest_lang.specs.declared.state.Outer.{Outer}
use Rattle.nest_lang.specs.declared.budget.Ending.{Ending}
use Rattle.nest_lang.specs.declared.budget.Ending.TheVariants as ending
use Rattle.nest_lang.specs.declared.budget.Turned.{Turned}
use Rattle.nest_lang.specs.declared.budget.Turned.TheVariants as turned
use Rattle.nest_lang.specs.Stores.{Store}
use Rattle.nest_lang.specs.Lookups.{plain}
use Rattle.nest_lang.specs.Traces.{Trace, Finish, Done, Cut, cut}
use Rattle.nest_lang.specs.Turns.{turns_trace, turns_later, finish_of_turned, AreWhole, IsPositionIn}
use Rattle.nest_lang.specs.Rules.{loops_keep}
use Rattle.nest_lang.specs.Runs.{finish_of_ending}
use Rattle.nest_lang.specs.TurnLaws.{over_is_done}
use Rattle.nest_lang.proofs.CutLaws.{cut-and_then, cut-left, cut-kept, resumed, resumed_at}
use Rattle.nest_lang.proofs.TurnLaws.{turns_trace-split}
use Rattle.profile.specs.Reach.{IsOfI64s}
use Rattle.profile.proofs.TripLaws.{turns-leave-i64s}
use Rattle.profile.specs.FirstProfiles.{has_turn}
use Rattle.compare.specs.KeptLaws.{IsRunOfI64s}
use Rattle.report.specs.declared.line.Line.{Line}
use Rattle.report.specs.declared.line.Line.TheVariants as said
use Rattle.journeys.specs.Settings.{Setting, Moment, Ran, plain_turns, turns_within}
use Rattle.journeys.specs.Stages as stages
use Rattle.journeys.specs.Stages.{Leads, Reaches}
use Rattle.journeys.specs.Stages.PlainLeads.{stopped, gone_on}
use Rattle.journeys.specs.Stages.Leads.{plainly}
use Rattle.journeys.specs.Stages.Reaches.{begun, then}
use Rattle.controller.specs.declared.stage.Stage.TheVariants.{Profiles, Plainly, Over}
use Rattle.controller.specs.Machines.{IsPlaced}
use Rattle.controller.specs.Courses.{Led, next_stage}
use Rattle.journeys.specs.HandedRecords.{Launching}
use Rattle.controller.proofs.StepLaws.{turns-take-steps}

-- ---- whole turns and steps

-- where all turns are done, all are whole
all-whole : (turns : ℕ → Store → Trace) (s : Store) (left c j : ℕ) → AreWhole turns s left c j → (cut (turns c s) s left 0).ending ≡ Done → j ≡ c
all-whole turns s left c j whole done = elim (cases_lt j c) [
  | inl less ↦ absurd (whole.most c less (omega arith) done)
  | inr not-less ↦ let within = whole.within in omega arith
]

pub ending-alone : (t : Trace) (s : Store) (left used : ℕ) → (cut t s left used).ending ≡ (cut t s left 0).ending
unfolding cut
ending-alone t s left used = refl

left-alone : (t : Trace) (s : Store) (left used : ℕ) → (cut t s left used).left ≡ (cut t s left 0).left
unfolding cut
left-alone t s left used = refl

pub some-turns : (left : Option ℕ) (c : ℕ) → has_turn left ≡ true → 1 ≤ c → 1 ≤ turns_within left c
some-turns None c on some = some
some-turns (Some zero) c on some = absurd (false≢true on)
some-turns (Some (suc n)) c on some = omega (arith, some)

-- turns that are done were done whole
pub ran-whole : (g : Setting) (m after : Moment) (c done : ℕ) → Ran g m c done Done after → done ≡ c
ran-whole g m after c done r =
    let k = suc m.left in
    let few : m.left < k = omega arith in
    let ended : (cut (plain_turns g k m c m.store) m.store m.left 0).ending ≡ Done =
    sym (ending-alone (plain_turns g k m c m.store) m.store m.left m.used) ∙ sym (ap (λ (x : Cut). x.ending) (r.cut k few)) in
    all-whole (plain_turns g k m) m.store m.left c done (r.whole k few) ended

-- what some turns took: no step is lost, and each whole turn took one
pub record Took (m after : Moment) (done : ℕ) : Type 0 where
  pub kept : after.left + after.used ≡ m.left + m.used
  pub steps : done + after.left ≤ m.left

pub ran-took : (g : Setting) (m after : Moment) (t c done : ℕ) (finish : Finish) → loops_keep g.loops ≡ true → m.outer.next ≡ pos t → Ran g m c done finish after → Took m after done
ran-took g m after t c done finish keeps next r =
    let k = suc m.left in
    let few : m.left < k = omega arith in
    let whole = r.whole k few in
    let run = r.cut k few in
    let fewer : done ≤ c = whole.within in
    let all : done + (c - done) ≡ c = omega (arith, fewer) in
    let first = cut (plain_turns g k m done m.store) m.store m.left 0 in
    let go : Store → Trace = turns_trace plain k g.loops (turns_later m.outer done) (c - done) in
    let split : cut (plain_turns g k m c m.store) m.store m.left 0 ≡ resumed first go =
    ap (λ (n : ℕ). cut (plain_turns g k m n m.store) m.store m.left 0) (sym all)
    ∙ ap (λ (u : Trace). cut u m.store m.left 0) (turns_trace-split plain k g.loops m.outer t done (c - done) m.store next)
    ∙ cut-and_then (plain_turns g k m done m.store) go m.store m.left 0 in
    let rest : resumed first go ≡ cut (go first.store) first.store first.left first.used = ap (λ (f : Finish). resumed_at f first.store first.left first.used go) whole.done in
    let most = cut-left (go first.store) first.store first.left first.used in
    let took : done + first.left ≤ m.left = turns-take-steps g.loops k done m.outer m.store m.left 0 keeps (omega arith) whole.done in
    let here : after.left ≡ (cut (plain_turns g k m c m.store) m.store m.left m.used).left = ap (λ (x : Cut). x.left) run in
    let alone = left-alone (plain_turns g k m c m.store) m.store m.left m.used in
    let there = ap (λ (x : Cut). x.left) (split ∙ rest) in
    record {
      kept = ap (λ (x : Cut). x.left + x.used) run ∙ cut-kept (plain_turns g k m c m.store) m.store m.left m.used;
      steps = omega (arith, most, took, here, alone, there);
    }

-- a moment of a run of i64s
pub placed-i64s : (g : Setting) (m : Moment) → IsPlaced g m → IsRunOfI64s g.loops m.outer m.store m.left
placed-i64s g m p =
    let most = p.most in
    let taken = p.taken in
    record { keeps = p.keeps.loops_keep; numbers = p.numbers; store = p.fits; position = p.position; turn = p.turn; next = p.next; few = omega (arith, most, taken) }

-- what some turns leave is a store of i64s
ran-fits : (g : Setting) (m after : Moment) (c done : ℕ) (finish : Finish) → IsPlaced g m → Ran g m c done finish after → IsOfI64s after.store
ran-fits g m after c done finish p r =
    let is = placed-i64s g m p in
    subst (λ (s : Store). IsOfI64s s) (sym (ap (λ (x : Cut). x.store) (r.cut (suc m.left) (omega arith))))
    (turns-leave-i64s (suc m.left) m.left m.used c is.turn g.loops m.outer m.store (omega arith) is.keeps is.numbers is.store is.position is.next is.few)

-- a run stands further on
pub placed-on : (g : Setting) (m after : Moment) (c done : ℕ) (finish : Finish) → loops_keep g.loops ≡ true → IsPlaced g m → Ran g m c done finish after → IsPositionIn g.loops after.outer
    → length after.store.scalars ≡ length m.store.scalars → IsPlaced g after
placed-on g m after c done finish keeps p r position count =
    let took = ran-took g m after p.turn c done finish keeps p.next r in
    let kept = took.kept in
    let steps = took.steps in
    let before = p.taken in
    let most = p.most in
    record {
      keeps = p.keeps;
      numbers = p.numbers;
      fits = ran-fits g m after c done finish p r;
      most = omega (arith, kept, most);
      position = position;
      count = count ∙ p.count;
      turn = p.turn + done;
      next = ap (λ (o : Outer). o.next) r.outer ∙ ap (λ (z : ℤ). z +ℤ pos done) p.next;
      taken = omega (arith, kept, steps, before);
    }

-- the turns that a line tells
pub turns-told : (m after : Moment) (done : ℕ) → after.outer ≡ turns_later m.outer done → after.outer.next -ℤ m.outer.next ≡ pos done
turns-told m after done is =
    let next : after.outer.next ≡ m.outer.next +ℤ pos done = ap (λ (o : Outer). o.next) is in
    omega (arith, ints, next)

-- and it is an i64
pub difference-fits : (m after : Moment) (done : ℕ) → after.outer ≡ turns_later m.outer done → done ≤ 2 ^ 32 → FitsSigned w64 (after.outer.next -ℤ m.outer.next)
difference-fits m after done is few = let fits : FitsSigned w64 (pos done) = omega (arith, ints, few) in subst (λ (z : ℤ). FitsSigned w64 z) (sym (turns-told m after done is)) fits

pub done-few : (g : Setting) (m after : Moment) (c done : ℕ) (finish : Finish) → IsPlaced g m → Ran g m c done finish after → done ≤ 2 ^ 32
done-few g m after c done finish p r =
    let steps = (ran-took g m after p.turn c done finish p.keeps.loops_keep p.next r).steps in
    let most = p.most in
    omega (arith, steps, most)

-- so is the number of the next turn
pub next-fits : (g : Setting) (m : Moment) → IsPlaced g m → FitsSigned w64 m.outer.next
next-fits g m p =
    let most = p.most in
    let taken = p.taken in
    let fits : FitsSigned w64 (pos p.turn) = omega (arith, ints, most, taken) in
    subst (λ (z : ℤ). FitsSigned w64 z) (sym p.next) fits

-- a result's value is also so
pub if-ok : {A E : Type 0} (P Q : A → Type 0) → ((a : A) → P a → Q a) → (r : Result A E) → IfOk r P → IfOk r Q
if-ok P Q go (Ok a) p = go a p
if-ok P Q go (Err e) p = tt

-- a fact is one of the case of a refusal
pub if-err : {A E P : Type 0} → P → (r : Result A E) → OnErr r P
if-err p (Ok a) = tt
if-err p (Err e) = p

-- ---- the way

abbrev pub one-step : (g : Setting) (from to : stages.Stage) (m after : Moment) (lines : List Line) → Leads g from m lines to after → Reaches g from m lines to after
one-step g from to m after lines way = then [] lines from to m after begun way

line-told : (m after : Moment) (done : ℕ) (before lines : List Line) → lines ≡ before ++ said.Plain m.outer.next (after.outer.next -ℤ m.outer.next) ∷ [] → after.outer ≡ turns_later m.outer done
    → lines ≡ before ++ said.Plain m.outer.next (pos done) ∷ []
line-told m after done before lines are is = are ∙ ap (λ (z : ℤ). before ++ said.Plain m.outer.next z ∷ []) (turns-told m after done is)

module _ {D : ℕ} (g : Setting) (turns : ℕ) (m after : Moment) (done : ℕ) (before lines : List Line) (keeps : loops_keep g.loops ≡ true) (p : IsPlaced g m) (on : has_turn m.outer.left ≡ true) (some : 1 ≤ turns)
    (position : IsPositionIn g.loops after.outer) (count : length after.store.scalars ≡ length m.store.scalars)
    (are : lines ≡ before ++ said.Plain m.outer.next (after.outer.next -ℤ m.outer.next) ∷ []) where
  went : Ran g m (turns_within m.outer.left turns) done Done after → Led {D = D} g (Plainly turns) m before Profiles after lines []
  went r =
      let c = turns_within m.outer.left turns in
      let same : done ≡ c = ran-whole g m after c done r in
      let all : Ran g m c c Done after = subst (λ (n : ℕ). Ran g m c n Done after) same r in
      let took = (ran-took g m after p.turn c done Done keeps p.next r).steps in
      let least : 1 ≤ c = some-turns m.outer.left turns on some in
      record {
        told = said.Plain m.outer.next (pos c) ∷ [];
        are = line-told m after done before lines are r.outer ∙ ap (λ (n : ℕ). before ++ said.Plain m.outer.next (pos n) ∷ []) same;
        reaches = (one-step g (stages.Plainly turns) stages.Profiles m after (said.Plain m.outer.next (pos c) ∷ []) (plainly turns m after (said.Plain m.outer.next (pos c) ∷ []) stages.Profiles (gone_on after all)), refl);
        nearer = omega (arith, took, least, same);
        due = tt;
        turn = tt;
        placed = placed-on g m after c done Done keeps p r position count;
      }

  out : (e : Turned) (x : Ending) → over_is_done (finish_of_turned e) ≡ finish_of_ending x → (finish_of_turned e ≡ Done → ⊥) → Ran g m (turns_within m.outer.left turns) done (finish_of_turned e) after
      → Led {D = D} g (Plainly turns) m before (Over x) after lines []
  out e x same other r =
      let took = (ran-took g m after p.turn (turns_within m.outer.left turns) done (finish_of_turned e) keeps p.next r).steps in
      record {
        told = said.Plain m.outer.next (pos done) ∷ [];
        are = line-told m after done before lines are r.outer;
        reaches = subst (λ (f : Finish). Launching g (stages.Plainly turns) m (said.Plain m.outer.next (pos done) ∷ []) (stages.Over f) after []) same (
          one-step g (stages.Plainly turns) (stages.Over (over_is_done (finish_of_turned e))) m after (said.Plain m.outer.next (pos done) ∷ [])
              (plainly turns m after (said.Plain m.outer.next (pos done) ∷ []) (stages.Over (over_is_done (finish_of_turned e))) (stopped done (finish_of_turned e) after r other)),
          refl,
        );
        nearer = omega (arith, took);
        due = tt;
        turn = tt;
        placed = placed-on g m after (turns_within m.outer.left turns) done (finish_of_turned e) keeps p r position count;
      }

  pub plain-led : (e : Turned) → Ran g m (turns_within m.outer.left turns) done (finish_of_turned e) after → Led {D = D} g (Plainly turns) m before (next_stage e) after lines []
  plain-led turned.Went r = went r
  plain-led turned.Ended r = out turned.Ended ending.Ended refl (λ is. cc) r
  plain-led (turned.Trapped trap) r = out (turned.Trapped trap) (ending.Trapped trap) refl (λ is. cc) r
  plain-led turned.Limited r = out turned.Limited ending.Limited refl (λ is. cc) r
