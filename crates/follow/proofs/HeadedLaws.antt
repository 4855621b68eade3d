-- An instance of a head that was evaluated with its addresses verified, followed.
use Rattle.std.proofs.Common.{◌≡◌, refl, ap, ap₂, ◌∙◌, sym, subst, ℕ, ℤ, zero, suc, pos, ◌+◌, ◌-◌, Bool, true, false, List, [], ◌∷◌, ◌++◌, append_assoc, length, Option, Some, None, Result, Ok, Err, arith}
use Rattle.std.specs.Prelude.{if◌then◌else◌, ◌&&◌, nat_le}
use Rattle.nest_lang.specs.declared.tree.Head.{Head}
use Rattle.nest_lang.specs.declared.tree.Head.TheVariants.{For, While}
use Rattle.nest_lang.specs.declared.observe.Seen.TheVariants as see
use Rattle.nest_lang.specs.Values.{same}
use Rattle.nest_lang.specs.Stores.{Store, Nothing, store_of}
use Rattle.nest_lang.specs.Lookups.{Expectation}
use Rattle.nest_lang.specs.Traces.{Occurrence, Observation, Entry, Halt, Trace, Finish, Done, Halted, Limited, Cut, cut_of, cut, seen_in, traced}
use Rattle.nest_lang.specs.Traces as traces
use Rattle.nest_lang.specs.Expressions.{Frame}
use Rattle.nest_lang.specs.Statements.{announced}
use Rattle.nest_lang.specs.Heads.{Yield, head_of, head_step, as_number}
use Rattle.nest_lang.proofs.CutLaws.{trace_of, cut-stop, cut-cons, cut-end}
use Rattle.block_exec.specs.declared.halt.Halt as code
use Rattle.block_exec.specs.declared.halt.Cut as code_cut
use Rattle.block_exec.specs.declared.halt.Cut.TheVariants as short
use Rattle.block_exec.specs.Halts.{halt_by, finish_of, yield_where_left}
use Rattle.block_exec.specs.Moments.{where_left}
use Rattle.follow.specs.declared.how.How.{How}
use Rattle.follow.specs.declared.how.How.TheVariants as how
use Rattle.follow.specs.declared.how.Turning.{Turning}
use Rattle.follow.specs.declared.how.Turning.TheVariants as turning
use Rattle.follow.specs.declared.how.Turns.{Turns}
use Rattle.follow.specs.declared.how.Turns.TheVariants as turns
use Rattle.follow.specs.Forecasts.{expectation_at, expects_turn, all_agree, Forecast}
use Rattle.follow.specs.Intervals.{Intervals, verified_by}
use Rattle.follow.specs.Plans.{frame_with, work_trace, Evaluates}
use Rattle.follow.specs.ChunkRuns.{closing_at}
use Rattle.follow.specs.Deviations.{Differs, Limit, IsFirst}
use Rattle.follow.specs.Hows.{how_of_finish, scalars_differ}
use Rattle.follow.specs.Turnings.{yield_by, IsTurning, condition_differs, turns_differ}
use Rattle.follow.specs.Followed.{Foretold, IsFollowed}
use Rattle.follow.proofs.VerifiedTraceLaws.{Fine, fine-one, HeadFine, head-fine}
use Rattle.follow.proofs.HeadYieldLaws.{agree-append}
use Rattle.follow.proofs.FollowedLaws.{foretold-verified, foretold-announced}
use Rattle.follow.proofs.ComparingLaws.{run-by, Differ, Deviates, first-front, all-nil, followed-cut, followed-scalar, followed-done}

module _ (p : Forecast) (next : Occurrence) (at : Occurrence) (values : List ℤ) where
  both-agree : (xs ys : List Observation) → all_agree p xs ≡ true → all_agree p ys ≡ true → all_agree p (xs ++ ys) ≡ true
  both-agree xs ys h k = agree-append p xs ys ∙ ap₂ (λ (a b : Bool). a && b) h k

  abbrev low : ℤ → Observation
  low v = record { at = at; what = see.Lower; value = v }

  abbrev many : ℕ → Observation
  many n = record { at = at; what = see.Trip; value = pos n }

  abbrev test : Bool → Observation
  test b = record { at = at; what = see.Condition; value = as_number b }

  some-how : (a b : How) → ◌≡◌ {A = Option How} (Some a) (Some b) → a ≡ b
  some-how a b e = cc

  -- the bounds of a `for`
  abbrev bounds-differ : ℤ → ℕ → Option How
  bounds-differ from count = turns_differ at.block.level (turning.Bounds (p.lower at) (p.trip at.block at.counters)) (turns.Bounds from count)

  bounds-some : (from : ℤ) (count : ℕ) (h : How) → bounds-differ from count ≡ Some h → Differ p next (low from ∷ many count ∷ []) h
  unfolding all_agree
  bounds-some from count h e = by (same from (p.lower at)) (same (pos count) (p.trip at.block at.counters)) refl refl e
    where
      by : (a b : Bool) → same from (p.lower at) ≡ a → same (pos count) (p.trip at.block at.counters) ≡ b
          → (if a then (if b then None else Some (how.Trip (p.trip at.block at.counters) count)) else Some (how.Lower (p.lower at) from)) ≡ Some h → Differ p next (low from ∷ many count ∷ []) h
      by false b f g k = (low from, record { before = []; after = many count ∷ []; are = refl; agree = refl; differs = f }, sym (some-how _ _ k))
      by true false f g k = (many count, record { before = low from ∷ []; after = []; are = refl; agree = ap (λ (z : Bool). z && true) f; differs = g }, sym (some-how _ _ k))
      by true true f g k = absurd (cc)

  bounds-none : (from : ℤ) (count : ℕ) → bounds-differ from count ≡ None → all_agree p (low from ∷ many count ∷ []) ≡ true
  unfolding all_agree
  bounds-none from count e = by (same from (p.lower at)) (same (pos count) (p.trip at.block at.counters)) e
    where
      by : (a b : Bool) → (if a then (if b then None else Some (how.Trip (p.trip at.block at.counters) count)) else Some (how.Lower (p.lower at) from)) ≡ None → a && (b && true) ≡ true
      by false b k = absurd (cc)
      by true false k = absurd (cc)
      by true true k = refl

  -- the condition of a `while`
  abbrev test-differs : Bool → Option How
  test-differs holds = turns_differ at.block.level (turning.Holds (expects_turn p at)) (turns.Holds holds)

  abbrev tested : Bool → Bool → How
  tested wanted holds = if nat_le at.block.level 1 then how.Ended else how.Condition wanted holds

  test-some : (holds : Bool) (h : How) → test-differs holds ≡ Some h → Differ p next (test holds ∷ []) h
  unfolding all_agree
  test-some holds h e = by (expects_turn p at) holds refl e
    where
      first : (b : Bool) → same (as_number b) (as_number (expects_turn p at)) ≡ false → IsFirst p (test b ∷ []) (test b)
      first b f = record { before = []; after = []; are = refl; agree = refl; differs = f }

      by : (a b : Bool) → expects_turn p at ≡ a → condition_differs at.block.level a b ≡ Some h → Differ p next (test b ∷ []) h
      by true true f k = absurd (cc)
      by false false f k = absurd (cc)
      by true false f k = (test false, first false (ap (λ (z : Bool). same (pos 0) (as_number z)) f), sym (some-how _ _ k) ∙ ap (λ (z : Bool). tested z false) (sym f))
      by false true f k = (test true, first true (ap (λ (z : Bool). same (pos 1) (as_number z)) f), sym (some-how _ _ k) ∙ ap (λ (z : Bool). tested z true) (sym f))

  test-none : (holds : Bool) → test-differs holds ≡ None → all_agree p (test holds ∷ []) ≡ true
  unfolding all_agree
  test-none holds e = by (expects_turn p at) holds refl e
    where
      by : (a b : Bool) → expects_turn p at ≡ a → condition_differs at.block.level a b ≡ None → same (as_number b) (as_number (expects_turn p at)) && true ≡ true
      by true true f k = ap (λ (z : Bool). same (pos 1) (as_number z) && true) f
      by false false f k = ap (λ (z : Bool). same (pos 0) (as_number z) && true) f
      by true false f k = absurd (cc)
      by false true f k = absurd (cc)

  -- what a head shows, where it yields something
  moved : (xs ys zs : List Observation) (h : How) → zs ≡ xs ++ ys → all_agree p xs ≡ true → Differ p next ys h → Differ p next zs h
  moved xs ys zs h is agree d = subst (λ (os : List Observation). Differ p next os h) (sym is) (d.0, first-front p next xs ys d.0 agree d.1, d.2)

  abbrev differs-at : Turning → Turns → Option How
  differs-at t y = turns_differ at.block.level t y

  turns-some : (head : Head) (t : Turning) (y : Turns) (os : List Observation) (h : How) → HeadFine p at values head os (Ok (yield_by y)) → IsTurning p at head t → differs-at t y ≡ Some h → Differ p next os h
  turns-some (For lower upper stride) t (turns.Bounds from count) os h fine is e =
      moved fine.0 (low from ∷ many count ∷ []) os h fine.1 fine.2 (bounds-some from count h (ap (λ (z : Turning). differs-at z (turns.Bounds from count)) (sym is) ∙ e))
  turns-some (For lower upper stride) t (turns.Holds holds) os h fine is e = absurd fine
  turns-some (While condition) t (turns.Bounds from count) os h fine is e = absurd fine
  turns-some (While condition) t (turns.Holds holds) os h fine is e =
      moved fine.0 (test holds ∷ []) os h fine.1 fine.2 (test-some holds h (ap (λ (z : Turning). differs-at z (turns.Holds holds)) (sym is) ∙ e))

  all-moved : (xs ys zs : List Observation) → zs ≡ xs ++ ys → all_agree p xs ≡ true → all_agree p ys ≡ true → all_agree p zs ≡ true
  all-moved xs ys zs is h k = ap (all_agree p) is ∙ both-agree xs ys h k

  turns-none : (head : Head) (t : Turning) (y : Turns) (os : List Observation) → HeadFine p at values head os (Ok (yield_by y)) → IsTurning p at head t → differs-at t y ≡ None → all_agree p os ≡ true
  turns-none (For lower upper stride) t (turns.Bounds from count) os fine is e =
      all-moved fine.0 (low from ∷ many count ∷ []) os fine.1 fine.2 (bounds-none from count (ap (λ (z : Turning). differs-at z (turns.Bounds from count)) (sym is) ∙ e))
  turns-none (For lower upper stride) t (turns.Holds holds) os fine is e = absurd fine
  turns-none (While condition) t (turns.Bounds from count) os fine is e = absurd fine
  turns-none (While condition) t (turns.Holds holds) os fine is e =
      all-moved fine.0 (test holds ∷ []) os fine.1 fine.2 (test-none holds (ap (λ (z : Turning). differs-at z (turns.Holds holds)) (sym is) ∙ e))

  -- the trace of a head: one entry that changes nothing
  module _ (head : Head) (announce : List Observation) (agree : all_agree p announce ≡ true) (s : Store) where
    abbrev entry : List Observation → Entry
    entry seen = record { before = announce; seen = seen; effect = Nothing }

    abbrev pub trace_by : List Observation → Result Yield Halt → Trace
    trace_by seen value = traced (head_step announce seen value (λ y. [])) s

    cut-one : (seen : List Observation) (halt : Option Halt) (n : ℕ) → cut_of s n 1 (traces.finish_of halt) ≡ cut (trace_of (entry seen ∷ []) halt) s (suc n) 0
    cut-one seen halt n = sym (cut-cons (entry seen) [] halt s n 0 ∙ cut-end halt s n 1)

    some-value : (v w : Result Yield Halt) → ◌≡◌ {A = Option (Result Yield Halt)} (Some v) (Some w) → v ≡ w
    some-value v w e = cc

    err-halt : (h k : Halt) → ◌≡◌ {A = Result Yield Halt} (Err h) (Err k) → h ≡ k
    err-halt h k e = cc

    limited : (seen : List Observation) (value : Result Yield Halt) (words' : List ℤ) → IsFollowed p next (trace_by seen value) s 0 (Err how.Limit) words'
    unfolding seen_in
    limited seen value words' = by value
      where
        shown : (halt : Option Halt) → Deviates p next at values (run-by p next announce Limited s.scalars) how.Limit
        shown halt = (Limit, (all-nil p next at values announce agree, refl), refl)

        by : (v : Result Yield Halt) → IsFollowed p next (trace_by seen v) s 0 (Err how.Limit) words'
        by (Ok y) = subst (λ (c : Cut). Deviates p next at values (run-by p next announce c.ending c.store.scalars) how.Limit) (sym (cut-stop (entry seen) [] None s 0)) (shown None)
        by (Err h) = subst (λ (c : Cut). Deviates p next at values (run-by p next announce c.ending c.store.scalars) how.Limit) (sym (cut-stop (entry seen) [] (Some h) s 0)) (shown (Some h))

    -- it is cut short
    pub head-cut : (left : ℕ) (seen : List Observation) (value : Result Yield Halt) (e : Result Turns code_cut.Cut) (c : code_cut.Cut) (halt : code.Halt) (words' : List ℤ) (h : How) → HeadFine p at values head seen value
        → yield_where_left yield_by e halt ≡ where_left left value → e ≡ Err c → h ≡ how_of_finish (finish_of (Err c) halt) → IsFollowed p next (trace_by seen value) s left (Err h) words'
    head-cut left seen value e c halt words' h fine yields is how_is =
        by left value c fine (ap (λ (z : Result Turns code_cut.Cut). yield_where_left yield_by z halt) (sym is) ∙ yields) how_is
      where
        halted : (n : ℕ) (k : Halt) → Fine p at values seen k → k ≡ halt_by halt → h ≡ how_of_finish (Halted (halt_by halt)) → IsFollowed p next (trace_by seen (Err k)) s (suc n) (Err h) words'
        halted n k fine same how_is =
            followed-cut p next at values (trace_by seen (Err k)) s (suc n) (cut_of s n 1 (Halted k)) words' h (fine-one p at values (entry seen) (Some k) agree fine) (cut-one seen (Some k) n)
            (λ done. cc) (how_is ∙ ap (λ (z : Halt). how_of_finish (Halted z)) (sym same))

        by : (left : ℕ) (value : Result Yield Halt) (c : code_cut.Cut) → HeadFine p at values head seen value → yield_where_left yield_by (Err c) halt ≡ where_left left value → h ≡ how_of_finish (finish_of (Err c) halt)
            → IsFollowed p next (trace_by seen value) s left (Err h) words'
        by zero value short.Limited fine e how_is = subst (λ (z : How). IsFollowed p next (trace_by seen value) s 0 (Err z) words') (sym how_is) (limited seen value words')
        by (suc n) value short.Limited fine e how_is = absurd (cc)
        by zero value short.Halted fine e how_is = absurd (cc)
        by (suc n) (Ok y) short.Halted fine e how_is = absurd (cc)
        by (suc n) (Err k) short.Halted fine e how_is = halted n k fine (err-halt k (halt_by halt) (sym (some-value _ _ e))) how_is

    yielded : (left : ℕ) (value : Result Yield Halt) (e : Result Turns code_cut.Cut) (y : Turns) (halt : code.Halt) → yield_where_left yield_by e halt ≡ where_left left value → e ≡ Ok y → (n : ℕ) × (left ≡ suc n) × (value ≡ Ok (yield_by y))
    yielded left value e y halt yields is = by left (ap (λ (z : Result Turns code_cut.Cut). yield_where_left yield_by z halt) (sym is) ∙ yields)
      where
        by : (left : ℕ) → ◌≡◌ {A = Option (Result Yield Halt)} (Some (Ok (yield_by y))) (where_left left value) → (n : ℕ) × (left ≡ suc n) × (value ≡ Ok (yield_by y))
        by zero e = absurd (cc)
        by (suc n) e = (n, refl, sym (some-value _ _ e))

    -- it yields something else than is expected
    pub head-differs : (left : ℕ) (seen : List Observation) (value : Result Yield Halt) (e : Result Turns code_cut.Cut) (y : Turns) (halt : code.Halt) (t : Turning) (words' : List ℤ) (h : How) → HeadFine p at values head seen value
        → IsTurning p at head t → yield_where_left yield_by e halt ≡ where_left left value → e ≡ Ok y → differs-at t y ≡ Some h → IsFollowed p next (trace_by seen value) s left (Err h) words'
    unfolding seen_in
    head-differs left seen value e y halt t words' h fine turning yields is differ =
        let got = yielded left value e y halt yields is in
        subst (λ (n : ℕ). IsFollowed p next (trace_by seen value) s n (Err h) words') (sym got.1)
        (subst (λ (v : Result Yield Halt). IsFollowed p next (trace_by seen v) s (suc got.0) (Err h) words') (sym got.2)
        (here got.0 (turns-some head t y seen h (subst (HeadFine p at values head seen) got.2 fine) turning differ)))
      where
        here : (n : ℕ) → Differ p next seen h → IsFollowed p next (trace_by seen (Ok (yield_by y))) s (suc n) (Err h) words'
        here n d =
            let os : List Observation = announce ++ seen ++ [] in
            let shown = moved announce seen (announce ++ seen) h refl agree d in
            let first = shown in
            let nil : os ≡ announce ++ seen = append-nil-of (announce ++ seen) in
            subst (λ (c : Cut). Deviates p next at values (run-by p next os c.ending c.store.scalars) h) (cut-one seen None n)
            (Differs first.0, behind os (announce ++ seen) nil first.0 first.1, first.2)
          where
            append-nil-of : (xs : List Observation) → xs ++ [] ≡ xs
            append-nil-of [] = refl
            append-nil-of (x ∷ xs) = ap (λ (ys : List Observation). x ∷ ys) (append-nil-of xs)

            behind : (os us : List Observation) → os ≡ us → (o : Observation) → IsFirst p us o → IsFirst p (os ++ closing_at next Done s.scalars) o
            behind os us is o f =
                record {
                  before = f.before;
                  after = f.after ++ closing_at next Done s.scalars;
                  are = ap (λ (xs : List Observation). xs ++ closing_at next Done s.scalars) (is ∙ f.are) ∙ append_assoc f.before (o ∷ f.after) (closing_at next Done s.scalars);
                  agree = f.agree;
                  differs = f.differs;
                }

    -- it yields what is expected
    pub head-scalar : (left : ℕ) (seen : List Observation) (value : Result Yield Halt) (e : Result Turns code_cut.Cut) (y : Turns) (halt : code.Halt) (t : Turning) (words' : List ℤ) (h : How) → HeadFine p at values head seen value
        → IsTurning p at head t → yield_where_left yield_by e halt ≡ where_left left value → e ≡ Ok y → differs-at t y ≡ None → scalars_differ (p.scalars next) 0 s.scalars ≡ Some h
        → IsFollowed p next (trace_by seen value) s left (Err h) words'
    head-scalar left seen value e y halt t words' h fine turning yields is none differ =
        let got = yielded left value e y halt yields is in
        let all = turns-none head t y seen (subst (HeadFine p at values head seen) got.2 fine) turning none in
        subst (λ (n : ℕ). IsFollowed p next (trace_by seen value) s n (Err h) words') (sym got.1)
        (subst (λ (v : Result Yield Halt). IsFollowed p next (trace_by seen v) s (suc got.0) (Err h) words') (sym got.2)
        (followed-scalar p next at values (trace_by seen (Ok (yield_by y))) s (suc got.0) (cut_of s got.0 1 Done) words' h (fine-one p at values (entry seen) None agree all) (cut-one seen None got.0) refl differ))

    pub head-done : (left l u : ℕ) (seen : List Observation) (value : Result Yield Halt) (e : Result Turns code_cut.Cut) (y : Turns) (halt : code.Halt) (t : Turning) → HeadFine p at values head seen value
        → IsTurning p at head t → yield_where_left yield_by e halt ≡ where_left left value → e ≡ Ok y → differs-at t y ≡ None → l ≡ left - 1 → l + u ≡ left → length (p.scalars next) ≡ length s.scalars
        → scalars_differ (p.scalars next) 0 s.scalars ≡ None → IsFollowed p next (trace_by seen value) s left (Ok u) s.memory
    head-done left l u seen value e y halt t fine turning yields is none rest sum sizes same =
        let got = yielded left value e y halt yields is in
        let all = turns-none head t y seen (subst (HeadFine p at values head seen) got.2 fine) turning none in
        let taken : got.0 + u ≡ suc got.0 = let is_left = got.1 in omega (arith, is_left, rest, sum) in
        subst (λ (n : ℕ). IsFollowed p next (trace_by seen value) s n (Ok u) s.memory) (sym got.1)
        (subst (λ (v : Result Yield Halt). IsFollowed p next (trace_by seen v) s (suc got.0) (Ok u) s.memory) (sym got.2)
        (followed-done p next at values (trace_by seen (Ok (yield_by y))) s (suc got.0) u (cut_of s got.0 1 Done) (fine-one p at values (entry seen) None agree all) (cut-one seen None got.0) refl taken sizes same))

-- the same of what a run says whose addresses are verified
module _ (p : Forecast) (at next : Occurrence) (values scalars : List ℤ) (intervals : Intervals) (after : List ℤ) (told : Foretold p at next scalars intervals after) (words : List ℤ) (head : Head) where
  abbrev from : Store
  from = store_of words scalars []

  abbrev frame : Frame
  frame = frame_with at values (expectation_at p at)

  abbrev trace : Trace
  trace = work_trace frame (Evaluates head) from

  abbrev Yields : ℕ → Result Turns code_cut.Cut → code.Halt → Type 0
  Yields left e halt = yield_where_left yield_by e halt ≡ where_left left (head_of (frame_with at values (verified_by intervals)) head from).value

  yields-as : (left : ℕ) (e : Result Turns code_cut.Cut) (halt : code.Halt) → Yields left e halt → yield_where_left yield_by e halt ≡ where_left left (head_of frame head from).value
  yields-as left e halt h = h ∙ ap (λ (x : Expectation). where_left left (head_of (frame_with at values x) head from).value) (foretold-verified p at next scalars intervals after told)

  agree : all_agree p (announced frame from) ≡ true
  agree = foretold-announced p at next values scalars words intervals after told

  differs : (xs : List ℤ) (o : Option How) → o ≡ scalars_differ after 0 xs → scalars_differ (p.scalars next) 0 xs ≡ o
  differs xs o is = ap (λ (ws : List ℤ). scalars_differ ws 0 xs) told.closes ∙ sym is

  pub headed-cut : (left : ℕ) (e : Result Turns code_cut.Cut) (c : code_cut.Cut) (halt : code.Halt) (h : How) → Yields left e halt → e ≡ Err c → h ≡ how_of_finish (finish_of (Err c) halt) → IsFollowed p next trace from left (Err h) words
  headed-cut left e c halt h yields is how_is =
      head-cut p next at values head (announced frame from) agree from left (head_of frame head from).seen (head_of frame head from).value e c halt words h (head-fine p at values head from) (yields-as left e halt yields) is how_is

  pub headed-differs : (left : ℕ) (e : Result Turns code_cut.Cut) (y : Turns) (halt : code.Halt) (t : Turning) (h : How) → IsTurning p at head t → Yields left e halt → e ≡ Ok y → Some h ≡ turns_differ at.block.level t y → IsFollowed p next trace from left (Err h) words
  headed-differs left e y halt t h turning yields is differ =
      head-differs p next at values head (announced frame from) agree from left (head_of frame head from).seen (head_of frame head from).value e y halt t words h (head-fine p at values head from) turning (yields-as left e halt yields) is (sym differ)

  pub headed-scalar : (left : ℕ) (e : Result Turns code_cut.Cut) (y : Turns) (halt : code.Halt) (t : Turning) (h : How) → IsTurning p at head t → Yields left e halt → e ≡ Ok y → None ≡ turns_differ at.block.level t y
      → Some h ≡ scalars_differ after 0 scalars → IsFollowed p next trace from left (Err h) words
  headed-scalar left e y halt t h turning yields is none differ =
      head-scalar p next at values head (announced frame from) agree from left (head_of frame head from).seen (head_of frame head from).value e y halt t words h (head-fine p at values head from) turning (yields-as left e halt yields) is (sym none)
      (differs scalars (Some h) differ)

  pub headed-done : (left l u : ℕ) (e : Result Turns code_cut.Cut) (y : Turns) (halt : code.Halt) (t : Turning) → IsTurning p at head t → Yields left e halt → e ≡ Ok y → None ≡ turns_differ at.block.level t y → l ≡ left - 1 → l + u ≡ left
      → None ≡ scalars_differ after 0 scalars → IsFollowed p next trace from left (Ok u) words
  headed-done left l u e y halt t turning yields is none rest sum same =
      head-done p next at values head (announced frame from) agree from left l u (head_of frame head from).seen (head_of frame head from).value e y halt t (head-fine p at values head from) turning (yields-as left e halt yields) is (sym none) rest sum
      (ap length told.closes ∙ told.sizes) (differs scalars None same)
