-- An instance of a block that was run with its addresses verified, followed.
use Rattle.std.proofs.Common.{◌≡◌, ap, ◌∙◌, sym, ℕ, ℤ, ◌+◌, true, List, [], length, Option, Some, None, Result, Ok, Err}
use Rattle.nest_lang.specs.declared.tree.Stmt.{Stmt}
use Rattle.nest_lang.specs.Stores.{Store, store_of}
use Rattle.nest_lang.specs.Lookups.{Expectation}
use Rattle.nest_lang.specs.Traces.{Occurrence, Trace, Done, Cut, cut_of, cut}
use Rattle.nest_lang.specs.Statements.{announced, instance_trace}
use Rattle.block_exec.specs.declared.halt.Halt as code
use Rattle.block_exec.specs.declared.halt.Cut as code_cut
use Rattle.block_exec.specs.declared.halt.Cut.TheVariants as short
use Rattle.block_exec.specs.Halts.{finish_of}
use Rattle.follow.specs.declared.how.How.{How}
use Rattle.follow.specs.Forecasts.{expectation_at, all_agree, same_all, Forecast}
use Rattle.follow.specs.Intervals.{Intervals, verified_by}
use Rattle.follow.specs.Plans.{frame_with}
use Rattle.follow.specs.Hows.{how_of_finish, scalars_differ}
use Rattle.follow.specs.Followed.{Foretold, IsFollowed}
use Rattle.follow.proofs.OtherScalarLaws.{announced-agree}
use Rattle.follow.proofs.ClosingLaws.{same_all-self}
use Rattle.follow.proofs.VerifiedTraceLaws.{f, FineTrace, instance-fine}
use Rattle.follow.proofs.ComparingLaws.{followed-cut, followed-scalar, followed-done}

not-done : (c : code_cut.Cut) (halt : code.Halt) → finish_of (Err c) halt ≡ Done → ⊥
not-done short.Halted halt e = cc
not-done short.Limited halt e = cc

-- what is expected of an instance is what its addresses are verified against
pub foretold-verified : (p : Forecast) (at next : Occurrence) (scalars : List ℤ) (intervals : Intervals) (after : List ℤ) → Foretold p at next scalars intervals after → verified_by intervals ≡ expectation_at p at
foretold-verified p at next scalars intervals after told =
    let is : intervals ≡ p.interval at = λ i access. sym (told.addresses access) i in
    ap (λ (g : ℕ → _). record { verifies = true; loads = g; stores = g }) is

pub foretold-announced : (p : Forecast) (at next : Occurrence) (values scalars words : List ℤ) (intervals : Intervals) (after : List ℤ) → Foretold p at next scalars intervals after
    → all_agree p (announced (f p at values) (store_of words scalars [])) ≡ true
foretold-announced p at next values scalars words intervals after told =
    announced-agree p (frame_with at values (expectation_at p at)) (store_of words scalars []) (ap length told.begins)
    ∙ ap (same_all scalars) told.begins ∙ same_all-self scalars

module _ (p : Forecast) (at next : Occurrence) (values scalars : List ℤ) (intervals : Intervals) (after : List ℤ) (told : Foretold p at next scalars intervals after) (words : List ℤ) (block : List Stmt) where
  abbrev from : Store
  from = store_of words scalars []

  abbrev trace-with : Expectation → Trace
  trace-with x = instance_trace (frame_with at values x) block from

  abbrev Was : ℕ → Cut → Type 0
  Was left c = c ≡ cut (trace-with (verified_by intervals)) from left 0

  abbrev trace : Trace
  trace = trace-with (expectation_at p at)

  fits : (left : ℕ) (c : Cut) → Was left c → c ≡ cut trace from left 0
  fits left c is = is ∙ ap (λ (x : Expectation). cut (trace-with x) from left 0) (foretold-verified p at next scalars intervals after told)

  fine : FineTrace p at values trace
  fine = instance-fine p at values block from (foretold-announced p at next values scalars words intervals after told)

  differs : (left : ℕ) (xs : List ℤ) (o : Option How) → o ≡ scalars_differ after 0 xs → scalars_differ (p.scalars next) 0 xs ≡ o
  differs left xs o is = ap (λ (ws : List ℤ). scalars_differ ws 0 xs) told.closes ∙ sym is

  done-is : (e : Result (Unit {0}) code_cut.Cut) (halt : code.Halt) (u : Unit {0}) → e ≡ Ok u → finish_of e halt ≡ Done
  done-is e halt u is = ap (λ (z : Result (Unit {0}) code_cut.Cut). finish_of z halt) is

  pub block-cut : (left l u : ℕ) (e : Result (Unit {0}) code_cut.Cut) (short : code_cut.Cut) (halt : code.Halt) (m s words' : List ℤ) (h : How)
      → Was left (cut_of (store_of m s []) l u (finish_of e halt)) → e ≡ Err short → h ≡ how_of_finish (finish_of (Err short) halt) → IsFollowed p next trace from left (Err h) words'
  block-cut left l u e short halt m s words' h was is how_is =
      let at_short : finish_of e halt ≡ finish_of (Err short) halt = ap (λ (z : Result (Unit {0}) code_cut.Cut). finish_of z halt) is in
      followed-cut p next at values trace from left (cut_of (store_of m s []) l u (finish_of e halt)) words' h fine (fits left _ was)
      (λ done. not-done short halt (sym at_short ∙ done)) (how_is ∙ ap how_of_finish (sym at_short))

  pub block-scalar : (left l u : ℕ) (e : Result (Unit {0}) code_cut.Cut) (ok : Unit {0}) (halt : code.Halt) (m s words' : List ℤ) (h : How)
      → Was left (cut_of (store_of m s []) l u (finish_of e halt)) → e ≡ Ok ok → Some h ≡ scalars_differ after 0 s → IsFollowed p next trace from left (Err h) words'
  block-scalar left l u e ok halt m s words' h was is differ =
      followed-scalar p next at values trace from left (cut_of (store_of m s []) l u (finish_of e halt)) words' h fine (fits left _ was) (done-is e halt ok is) (differs left s (Some h) differ)

  pub block-done : (left l u : ℕ) (e : Result (Unit {0}) code_cut.Cut) (ok : Unit {0}) (halt : code.Halt) (m s : List ℤ)
      → Was left (cut_of (store_of m s []) l u (finish_of e halt)) → e ≡ Ok ok → l + u ≡ left → length s ≡ length scalars → None ≡ scalars_differ after 0 s → IsFollowed p next trace from left (Ok u) m
  block-done left l u e ok halt m s was is sum count same =
      followed-done p next at values trace from left u (cut_of (store_of m s []) l u (finish_of e halt)) fine (fits left _ was) (done-is e halt ok is) sum
      (ap length told.closes ∙ told.sizes ∙ sym count) (differs left s None same)
