-- The lines of a journey can be written: the scalars that they name are the file's, and no verdict is Empty.
use Rattle.std.proofs.Common.{◌≡◌, refl, ap, ◌∙◌, sym, subst, ℕ, suc, ◌+◌, ◌<◌, ◌≤◌, ℤ, pos, ◌+ℤ◌, ◌-ℤ◌, ◌*ℤ◌, ◌-◌, Bool, true, false, nat_le, nat_lt, int_lt, not, List, [], ◌∷◌, ◌++◌, length, Option, Some, None, get_or, inl, inr, ⊎_elim, arith}
use Rattle.std.proofs.lemmas.Bool.{cases_lt}
use Rattle.std.proofs.lemmas.List.{get_or_past}
use Rattle.std.specs.Prelude.{IfSome, if◌then◌else◌}
use Rattle.std.specs.List.{All, cons_option, filter_map}
use Rattle.std.specs.Option.{option_map}
use Rattle.std.proofs.lemmas.Option.{get_or_from_slice_get, slice_get_within, slice_get-get_or}
use Rattle.plain_lemmas.proofs.MembershipLaws.{All-from, has-at, has-cases}
use Rattle.plain_lemmas.specs.Lists.{Has}
use Rattle.affine.specs.Forms.{Affine, value_at}
use Rattle.nest_lang.specs.declared.tree.Loop.{Loop}
use Rattle.nest_lang.specs.declared.tree.Part.{Part}
use Rattle.nest_lang.specs.declared.tree.Part.TheVariants.{Head, Pre, Post}
use Rattle.nest_lang.specs.declared.observe.Seen.{Seen}
use Rattle.nest_lang.specs.declared.observe.Seen.TheVariants as see
use Rattle.nest_lang.specs.Blocks.{block_ref, present_blocks}
use Rattle.nest_lang.specs.Stores.{Store}
use Rattle.nest_lang.specs.Values.{is_i64, same}
use Rattle.nest_lang.specs.Lookups.{line_of}
use Rattle.nest_lang.specs.Traces.{Occurrence, Observation, Halt, Trapped, Stopped, Over, Finish, Done, Halted, Limited, Cut}
use Rattle.nest_grammar.specs.declared.file.File.{File}
use Rattle.nest_grammar.specs.declared.file.NestUnit.{NestUnit}
use Rattle.nest_grammar.specs.declared.version.Version.{Version}
use Rattle.nest_grammar.specs.declared.version.Version.TheVariants.{One, Two}
use Rattle.nest_grammar.specs.Files.{first_store}
use Rattle.transform.specs.Schedules.{Schedule}
use Rattle.domain.specs.declared.held.HeldWhy.{HeldWhy}
use Rattle.domain.specs.declared.held.HeldWhy.TheVariants as why
use Rattle.domain.specs.declared.table.LoopKind.{LoopKind}
use Rattle.domain.specs.declared.table.LoopKind.TheVariants as kind
use Rattle.domain.specs.Tables.{Table, Access, Block, block_at, level_at, no_block, trip}
use Rattle.domain.specs.Shapes.{IsTableOf}
use Rattle.domain.specs.Instances.{Instance, block_of, counter}
use Rattle.domain.specs.Launches.{IsHeld, is_many, scalar_failure, scalars_failure, outside, line_failure, store_failure, stores_failure, trip_failure, lower_failure, last_failure, loop_failure, head_by, data_failure, failure, first_of}
use Rattle.follow.specs.declared.how.How.{How}
use Rattle.follow.specs.declared.how.How.TheVariants as how
use Rattle.follow.specs.Forecasts.{expects_turn, Forecast}
use Rattle.follow.specs.Deviations.{Deviation, Differs, Halts, Limit, IsDeviation}
use Rattle.follow.specs.Hows.{how_of, how_by, how_refused, how_halted}
use Rattle.legality.specs.declared.refusals.Refusal.{Refusal}
use Rattle.legality.specs.Judgements.{refused, judged_by}
use Rattle.legality.specs.Choices.{choice}
use Rattle.profile.specs.declared.unfit.Unfit.{Unfit}
use Rattle.profile.specs.Data.{data_of}
use Rattle.profile.specs.Fits.{IsUnfitAt}
use Rattle.report.specs.declared.journey.Options.{Options}
use Rattle.report.specs.declared.line.Line.{Line}
use Rattle.report.specs.declared.line.Line.TheVariants as said
use Rattle.report.specs.Lines.{CanStand, scalar_of_why, scalar_of_how}
use Rattle.listing.proofs.StandingLaws.{named-data}
use Rattle.listing.proofs.PresentLaws.{refusal-listed}
use Rattle.journeys.specs.Settings.{Setting, Moment, Ran, setting_of, plain_turns, chunk_turns, observed, profile_turns}
use Rattle.journeys.specs.Tellings.{heading, profile_line, plain_line, unfit_line, illegal_line, illegal_lines, held_line, rollback_line, commit_line}
use Rattle.journeys.specs.Stages.{Stage, Profiles, Chunks, Plainly, Over, AreJudged, ProfileLeads, ChunkLeads, PlainLeads, Leads, Reaches, DeviatesAt, chunk_run_from}
use Rattle.journeys.specs.Stages.AreJudged.{unfit, none_legal, chosen}
use Rattle.journeys.specs.Stages.ProfileLeads.{stopped as profile_stopped, used_up, profiled}
use Rattle.journeys.specs.Stages.ChunkLeads.{held, rolled_back, committed}
use Rattle.journeys.specs.Stages.PlainLeads.{stopped as plain_stopped, gone_on}
use Rattle.journeys.specs.Stages.Leads.{no_profile, no_chunk, profile, chunk, plainly}
use Rattle.journeys.specs.Stages.Reaches.{begun, then as further}
use Rattle.journeys.specs.Journeys.{IsNestJourney, IsJourneyOf, IsJourney, where_ended, entered_at}
use Rattle.journeys.specs.Journeys.IsNestJourney.{not_entered, entered}
use Rattle.controller.proofs.NamedLaws.{AreNamed, IsNamed, chunk-named, cut-count}

-- each of some lines can be written
abbrev Stand : ℕ → List Line → Type 0
Stand scalars lines = (line : Line) → Has lines line → CanStand scalars line

stand-none : (scalars : ℕ) → Stand scalars []
stand-none scalars = λ line h. absurd h

stand-one : (scalars : ℕ) (line : Line) → CanStand scalars line → Stand scalars (line ∷ [])
stand-one scalars line can = λ other h. ⊎_elim (λ e. subst (CanStand scalars) (sym e) can) (λ k. absurd k) h

stand-both : (scalars : ℕ) (xs ys : List Line) → Stand scalars xs → Stand scalars ys → Stand scalars (xs ++ ys)
stand-both scalars xs ys a b = λ line h. ⊎_elim (λ k. a line k) (λ k. b line k) (has-cases xs ys line h)

stand-first : (scalars : ℕ) (line : Line) (lines : List Line) → CanStand scalars line → Stand scalars lines → Stand scalars (line ∷ lines)
stand-first scalars line lines can a = stand-both scalars (line ∷ []) lines (stand-one scalars line can) a

-- a line that names nothing
plainly-stands : (scalars : ℕ) (m : Moment) (turns : ℕ) → CanStand scalars (plain_line m turns)
plainly-stands scalars m turns = record { named = tt; refuses = tt }

profile-stands : (scalars : ℕ) (m : Moment) (turns : ℕ) → CanStand scalars (profile_line m turns)
profile-stands scalars m turns = record { named = tt; refuses = tt }

-- ---- the lines of a profile

unfit-stands : (D scalars : ℕ) (loops : List Loop) (observations : List Observation) (u : Unfit D) → IsUnfitAt D scalars loops observations u → CanStand scalars (unfit_line loops u)
unfit-stands D scalars loops observations u h = record {
  named = named-data scalars loops h.block u.what
      (has-at (data_of scalars loops h.block) h.first.place u.what (slice_get_within (data_of scalars loops h.block) h.first.place u.what h.first.datum) (get_or_from_slice_get (data_of scalars loops h.block) h.first.place u.what u.what h.first.datum));
  refuses = tt;
}

module _ (t : Table) (L : ℤ) where
  -- a refusal of some candidates is of one of them
  refused-one : (ss : List Schedule) (r : Refusal) → Has (filter_map (refused t L) ss) r → (s : Schedule) × (refused t L s ≡ Some r)
  refused-one [] r h = absurd h
  refused-one (s ∷ ss) r h = by (refused t L s) refl (λ k. refused-one ss r k) h
    where
      by : (o : Option Refusal) → refused t L s ≡ o → (Has (filter_map (refused t L) ss) r → (c : Schedule) × (refused t L c ≡ Some r)) → Has (cons_option o (filter_map (refused t L) ss)) r → (c : Schedule) × (refused t L c ≡ Some r)
      by None is later k = later k
      by (Some q) is later (inl e) = (s, is ∙ ap (λ (x : Refusal). Some x) (sym e))
      by (Some q) is later (inr k) = later k

  illegal-stands : (scalars : ℕ) (loops : List Loop) (number : ℕ) (r : Refusal) (s : Schedule) → refused t L s ≡ Some r → CanStand scalars (illegal_line loops number r)
  illegal-stands scalars loops number r s is = record { named = tt; refuses = (refusal-listed t s L r (ap judged_by is)).refuses }

  illegals-stand : (scalars : ℕ) (loops : List Loop) (number : ℕ) (rs : List Refusal) → ((r : Refusal) → Has rs r → (s : Schedule) × (refused t L s ≡ Some r)) → Stand scalars (illegal_lines loops number rs)
  illegals-stand scalars loops number [] each = stand-none scalars
  illegals-stand scalars loops number (r ∷ rs) each =
      let of = each r (inl refl) in
      stand-first scalars (illegal_line loops number r) (illegal_lines loops (suc number) rs) (illegal-stands scalars loops number r of.0 of.1) (illegals-stand scalars loops (suc number) rs (λ q h. each q (inr h)))

  choice-stands : (scalars : ℕ) (loops : List Loop) (ss : List Schedule) → Stand scalars (illegal_lines loops 1 (choice t L ss).refusals)
  choice-stands scalars loops ss = illegals-stand scalars loops 1 (choice t L ss).refusals (refused-one _)

-- ---- a chunk that is held

-- the scalar that a reason names is one of so many
abbrev IsWhyNamed : ℕ → Option HeldWhy → Type 0
IsWhyNamed n found = IfSome found (λ why. IfSome (scalar_of_why why) (λ number. number < n))

first-named : (n : ℕ) (one other : Option HeldWhy) → IsWhyNamed n one → IsWhyNamed n other → IsWhyNamed n (first_of one other)
first-named n None other a b = b
first-named n (Some why) other a b = a

scalar-named : (n number : ℕ) (f : Option Affine) (at : List ℤ) → number < n → IsWhyNamed n (scalar_failure number f at)
scalar-named n number None at less = tt
scalar-named n number (Some form) at less = by (is_i64 (value_at form at))
  where
    by : (w : Bool) → IsWhyNamed n (if w then None else Some (why.Scalar number (value_at form at)))
    by true = tt
    by false = less

scalars-named : (n number : ℕ) (fs : List (Option Affine)) (at : List ℤ) → number + length fs ≤ n → IsWhyNamed n (scalars_failure number fs at)
scalars-named n number [] at few = tt
scalars-named n number (f ∷ fs) at few = first-named n (scalar_failure number f at) (scalars_failure (number + 1) fs at) (scalar-named n number f at (omega (arith, few))) (scalars-named n (number + 1) fs at (omega (arith, few)))

line-named : (n : ℕ) (words : ℤ) (number : ℕ) (line : Option Affine) (low high : ℤ) (at : List ℤ) → IsWhyNamed n (line_failure words number line low high at)
line-named n words number None low high at = tt
line-named n words number (Some form) low high at = by (outside words (value_at form at +ℤ low) (value_at form at +ℤ high))
  where
    by : (o : Option ℤ) → IsWhyNamed n (option_map (λ address. why.Outside number address) o)
    by None = tt
    by (Some address) = tt

store-named : (n : ℕ) (words : ℤ) (number : ℕ) (a : Access) (at : List ℤ) → IsWhyNamed n (store_failure words number a at)
store-named n words number a at = by a.stores
  where
    by : (w : Bool) → IsWhyNamed n (if w then line_failure words number a.line a.low a.high at else None)
    by true = line-named n words number a.line a.low a.high at
    by false = tt

stores-named : (n : ℕ) (words : ℤ) (number : ℕ) (accesses : List Access) (at : List ℤ) → IsWhyNamed n (stores_failure words number accesses at)
stores-named n words number [] at = tt
stores-named n words number (a ∷ more) at = first-named n (store_failure words number a at) (stores_failure words (number + 1) more at) (store-named n words number a at) (stores-named n words (number + 1) more at)

if-named : (n : ℕ) (w : Bool) (one other : Option HeldWhy) → IsWhyNamed n one → IsWhyNamed n other → IsWhyNamed n (if w then one else other)
if-named n true one other a b = a
if-named n false one other a b = b

trip-named : (n : ℕ) (turns : ℤ) → IsWhyNamed n (trip_failure turns)
trip-named n turns = if-named n (int_lt turns (pos 0)) (Some (why.Negative turns)) None tt tt

lower-named : (n : ℕ) (f : Option Affine) (at : List ℤ) → IsWhyNamed n (lower_failure f at)
lower-named n None at = tt
lower-named n (Some form) at = if-named n (is_i64 (value_at form at)) None (Some (why.Lower (value_at form at))) tt tt

last-named : (n : ℕ) (f : Option Affine) (stride turns : ℤ) (at : List ℤ) → IsWhyNamed n (last_failure f stride turns at)
last-named n None stride turns at = tt
last-named n (Some form) stride turns at =
    let last = value_at form at +ℤ stride *ℤ (turns -ℤ pos 1) in
    if-named n (same turns (pos 0)) None (if is_i64 last then None else Some (why.Last last)) tt (if-named n (is_i64 last) None (Some (why.Last last)) tt tt)

loop-named : (n : ℕ) (k : LoopKind) (lower : Option Affine) (turns turn : ℤ) (at : List ℤ) → IsWhyNamed n (loop_failure k lower turns turn at)
loop-named n (kind.For stride) lower turns turn at =
    first-named n (lower_failure lower at) (first_of (trip_failure turns) (last_failure lower stride turns at)) (lower-named n lower at)
    (first-named n (trip_failure turns) (last_failure lower stride turns at) (trip-named n turns) (last-named n lower stride turns at))
loop-named n kind.While lower turns turn at = if-named n (same turn (pos 0)) (trip_failure turns) None (trip-named n turns) tt

head-named : (n : ℕ) (p : Part) (level : ℕ) (t : Table) (at : List ℤ) → IsWhyNamed n (head_by p level t at)
head-named n Head level t at =
    let outer = level_at t (level - 1) in
    let turns = trip t (level - 1) at in
    let turn = counter at (level - 1) in
    if-named n (nat_lt 1 level) (loop_failure outer.kind outer.lower turns turn at) None (loop-named n outer.kind outer.lower turns turn at) tt
head-named n Pre level t at = tt
head-named n Post level t at = tt

failure-named : (n : ℕ) (t : Table) (words : ℤ) (before : List Instance) (x : Instance) → length (block_of t x).scalars ≤ n → IsWhyNamed n (failure t words before x)
unfolding failure
failure-named n t words before x few =
    if-named n (is_many t before x) (Some why.Many) (data_failure t words x) tt
    (first-named n (scalars_failure 0 (block_of t x).scalars x.at) (first_of (stores_failure words 1 (block_of t x).accesses x.at) (head_by (block_of t x).part (block_of t x).level t x.at)) (scalars-named n 0 (block_of t x).scalars x.at (omega (arith, few)))
    (first-named n (stores_failure words 1 (block_of t x).accesses x.at) (head_by (block_of t x).part (block_of t x).level t x.at) (stores-named n words 1 (block_of t x).accesses x.at) (head-named n (block_of t x).part (block_of t x).level t x.at)))

-- a block of the table of a nest has a form or none for each scalar, and one past the last has none
block-few : (scalars : ℕ) (loops : List Loop) (t : Table) (rank : ℕ) → IsTableOf scalars loops t → length (block_at t rank).scalars ≤ scalars
block-few scalars loops t rank of = elim (cases_lt rank (length (present_blocks loops))) [
  | inl less ↦ (let forms = (of.each rank (get_or (present_blocks loops) rank (block_ref Head 0)) (slice_get-get_or (present_blocks loops) rank (block_ref Head 0) less)).forms in omega (arith, forms))
  | inr past ↦ (let count = of.count in let none : length (block_at t rank).scalars ≡ 0 = ap (λ (b : Block). length b.scalars) (get_or_past t.blocks rank no_block (omega (arith, past, count))) in omega (arith, none))
]

held-stands : (g : Setting) (m : Moment) (t : Table) (at : Instance) (reason : HeldWhy) (words : ℤ) → IsTableOf g.scalars g.loops t → IsHeld t words (record { first = m.outer.next; turns = pos (chunk_turns g m) }) at reason
    → CanStand g.scalars (held_line g m at reason)
held-stands g m t at reason words of h = record {
  named = subst (IsWhyNamed g.scalars) h.fails (failure-named g.scalars t words h.before at (block-few g.scalars g.loops t at.block of));
  refuses = tt;
}

-- ---- a chunk that is rolled back

abbrev IsHowNamed : ℕ → How → Type 0
IsHowNamed n difference = IfSome (scalar_of_how difference) (λ number. number < n)

refused-named : (n access : ℕ) (seen : ℤ) (line : Option ℤ) → IsHowNamed n (how_refused access seen line)
refused-named n access seen None = tt
refused-named n access seen (Some line) = tt

turning-named : (n : ℕ) (p : Forecast) (i : Occurrence) (v : ℤ) (w : Bool) (x : How) → IsHowNamed n x → IsHowNamed n (if w then how.Ended else x)
turning-named n p i v true x a = tt
turning-named n p i v false x a = a

seen-named : (n : ℕ) (p : Forecast) (i : Occurrence) (what : Seen) (v : ℤ) → IsNamed n what → IsHowNamed n (how_by p i what v)
seen-named n p i see.Start v a = tt
seen-named n p i (see.Scalar number) v a = a
seen-named n p i (see.Address access) v a = refused-named n access v (line_of (p.interval i access))
seen-named n p i see.Lower v a = tt
seen-named n p i see.Trip v a = tt
seen-named n p i see.Condition v a = turning-named n p i v (nat_le i.block.level 1) (how.Condition (expects_turn p i) (not (same v (pos 0)))) tt

halted-named : (n : ℕ) (halt : Halt) → IsHowNamed n (how_halted halt)
halted-named n (Trapped trap) = tt
halted-named n (Stopped access seen line) = refused-named n access seen line
halted-named n Over = tt

-- the one between two others
between-named : (n : ℕ) (before after : List Observation) (o : Observation) → AreNamed n (before ++ o ∷ after) → IsNamed n o.what
between-named n [] after o a = a.0
between-named n (b ∷ bs) after o a = between-named n bs after o a.1

deviation-named : (n : ℕ) (p : Forecast) (observations : List Observation) (finish : Finish) (e : Deviation) → AreNamed n observations → IsDeviation p (record { observations = observations; finish = finish }) e → IsHowNamed n (how_of p e)
deviation-named n p observations finish (Differs seen) a first =
    seen-named n p seen.at seen.what _ (between-named n first.before first.after seen (subst (AreNamed n) first.are a))
deviation-named n p observations finish (Halts halt) a is = halted-named n halt
deviation-named n p observations finish Limit a is = tt

rollback-stands : (g : Setting) (m : Moment) (t : Table) (at : Instance) (difference : How) → length m.store.scalars ≡ g.scalars → DeviatesAt t g m at difference → CanStand g.scalars (rollback_line g m at difference)
rollback-stands g m t at difference count d = record {
  named = subst (IsHowNamed g.scalars) (sym d.3)
      (deviation-named g.scalars _ (chunk_run_from t g m).observations (chunk_run_from t g m).finish d.0 (chunk-named g.scalars _ _ g.loops m.outer _ m.store m.left count) d.1);
  refuses = tt;
}

-- ---- stages

-- the table of a stage of chunks is that of the nest
abbrev IsOf : Setting → Stage → Type 0
IsOf g Profiles = Unit {0}
IsOf g (Chunks t number) = IsTableOf g.scalars g.loops t
IsOf g (Plainly turns) = Unit {0}
IsOf g (Over finish) = Unit {0}

-- the lines of a way can be written, the store has the nest's scalars then, and the stage is one of the nest
record Stood (g : Setting) (lines : List Line) (stage : Stage) (after : Moment) : Type 0 where
  lines-stand : Stand g.scalars lines
  count : length after.store.scalars ≡ g.scalars
  of : IsOf g stage

ran-count : (g : Setting) (m after : Moment) (c done : ℕ) (finish : Finish) → length m.store.scalars ≡ g.scalars → Ran g m c done finish after → length after.store.scalars ≡ g.scalars
ran-count g m after c done finish count r =
    let few : m.left < suc m.left = omega arith in
    ap (λ (run : Cut). length run.store.scalars) (r.cut (suc m.left) few) ∙ cut-count (plain_turns g (suc m.left) m c m.store) m.store m.left m.used ∙ count

judged-stood : (g : Setting) (observations : List Observation) (lines : List Line) (stage : Stage) (m : Moment) → length m.store.scalars ≡ g.scalars → AreJudged g observations lines stage → Stood g lines stage m
judged-stood g observations lines stage m count (unfit u at) = record { lines-stand = stand-one g.scalars (unfit_line g.loops u) (unfit-stands (length g.loops) g.scalars g.loops observations u at); count = count; of = tt }
judged-stood g observations lines stage m count (none_legal t fit none) = record { lines-stand = choice-stands t (pos g.chunk) g.scalars g.loops g.candidates; count = count; of = tt }
judged-stood g observations lines stage m count (chosen t number fit some) = record { lines-stand = choice-stands t (pos g.chunk) g.scalars g.loops g.candidates; count = count; of = fit.shape }

profile-stood : (g : Setting) (m after : Moment) (lines : List Line) (stage : Stage) → length m.store.scalars ≡ g.scalars → ProfileLeads g m lines stage after → Stood g lines stage after
profile-stood g m after lines stage count (profile_stopped done finish there r other) =
    record { lines-stand = stand-one g.scalars (profile_line m done) (profile-stands g.scalars m done); count = ran-count g m there (profile_turns g m) done finish count r; of = tt }
profile-stood g m after lines stage count (used_up there r off) =
    record { lines-stand = stand-one g.scalars (profile_line m (profile_turns g m)) (profile-stands g.scalars m (profile_turns g m)); count = ran-count g m there (profile_turns g m) (profile_turns g m) Done count r; of = tt }
profile-stood g m after lines stage count (profiled there more next r on are) =
    let j = judged-stood g (observed g m (profile_turns g m)) more next there (ran-count g m there (profile_turns g m) (profile_turns g m) Done count r) are in
    record { lines-stand = stand-first g.scalars (profile_line m (profile_turns g m)) more (profile-stands g.scalars m (profile_turns g m)) j.lines-stand; count = j.count; of = j.of }

chunk-stood : (t : Table) (number : ℕ) (g : Setting) (m after : Moment) (lines : List Line) (stage : Stage) → length m.store.scalars ≡ g.scalars → IsTableOf g.scalars g.loops t → ChunkLeads t number g m lines stage after → Stood g lines stage after
chunk-stood t number g m after lines stage count of (held at reason is) =
    record { lines-stand = stand-one g.scalars (held_line g m at reason) (held-stands g m t at reason _ of is); count = count; of = tt }
chunk-stood t number g m after lines stage count of (rolled_back schedule instances at difference which launched is) =
    record { lines-stand = stand-one g.scalars (rollback_line g m at difference) (rollback-stands g m t at difference count is); count = count; of = tt }
chunk-stood t number g m after lines stage count of (committed s instances phases tiles there which numbers follows r) =
    record { lines-stand = stand-one g.scalars (commit_line g m there number instances phases tiles) (record { named = tt; refuses = tt }); count = ran-count g m there (chunk_turns g m) (chunk_turns g m) Done count r; of = of }

plain-stood : (turns : ℕ) (g : Setting) (m after : Moment) (lines : List Line) (stage : Stage) → length m.store.scalars ≡ g.scalars → PlainLeads turns g m lines stage after → Stood g lines stage after
plain-stood turns g m after lines stage count (plain_stopped done finish there r other) =
    record { lines-stand = stand-one g.scalars (plain_line m done) (plainly-stands g.scalars m done); count = ran-count g m there _ done finish count r; of = tt }
plain-stood turns g m after lines stage count (gone_on there r) =
    record { lines-stand = stand-one g.scalars (plain_line m _) (plainly-stands g.scalars m _); count = ran-count g m there _ _ Done count r; of = tt }

leads-stood : (g : Setting) (from : Stage) (m after : Moment) (lines : List Line) (stage : Stage) → length m.store.scalars ≡ g.scalars → IsOf g from → Leads g from m lines stage after → Stood g lines stage after
leads-stood g from m after lines stage count of (no_profile at off) = record { lines-stand = stand-none g.scalars; count = count; of = tt }
leads-stood g from m after lines stage count of (no_chunk t number at off) = record { lines-stand = stand-none g.scalars; count = count; of = tt }
leads-stood g from m after lines stage count of (profile at there more next on leads) = profile-stood g at there more next count leads
leads-stood g from m after lines stage count of (chunk t number at there more next on leads) = chunk-stood t number g at there more next count of leads
leads-stood g from m after lines stage count of (plainly turns at there more next leads) = plain-stood turns g at there more next count leads

reaches-stood : (g : Setting) (from : Stage) (start : Moment) (lines : List Line) (stage : Stage) (m : Moment) → length start.store.scalars ≡ g.scalars → IsOf g from → Reaches g from start lines stage m → Stood g lines stage m
reaches-stood g from start lines stage m count of begun = record { lines-stand = stand-none g.scalars; count = count; of = of }
reaches-stood g from start lines stage m count of (further before more mid next at there r leads) =
    let one = reaches-stood g from start before mid at count of r in
    let two = leads-stood g mid at there more next one.count one.of leads in
    record { lines-stand = stand-both g.scalars before more one.lines-stand two.lines-stand; count = two.count; of = two.of }

-- ---- nests

record NestStood (scalars : ℕ) (lines : List Line) (end : Cut) : Type 0 where
  lines-stand : Stand scalars lines
  count : length end.store.scalars ≡ scalars

nest-stood : (g : Setting) (s : Store) (left used : ℕ) (lines : List Line) (end : Cut) → length s.scalars ≡ g.scalars → IsNestJourney g s left used lines end → NestStood g.scalars lines end
nest-stood g s left used lines end count (not_entered finish stops) = record { lines-stand = stand-none g.scalars; count = count }
nest-stood g s left used lines end count (entered o told finish there enters r) =
    let stood = reaches-stood g Profiles (entered_at g o s left used) told (Over finish) there count tt r in
    record { lines-stand = stood.lines-stand; count = stood.count }

heading-stands : (scalars : ℕ) (version : Version) (number : ℕ) → Stand scalars (heading version number)
heading-stands scalars One number = stand-none scalars
heading-stands scalars Two number = stand-one scalars (said.Nest number) (record { named = tt; refuses = tt })

rest-stands : (scalars : ℕ) (finish : Finish) (F S : Type 0) (rest : List Line) → (F → Stand scalars rest) → where_ended finish F ((rest ≡ []) × S) → Stand scalars rest
rest-stands scalars Done F S rest more h = more h
rest-stands scalars (Halted halt) F S rest more h = subst (Stand scalars) (sym h.0) (stand-none scalars)
rest-stands scalars Limited F S rest more h = subst (Stand scalars) (sym h.0) (stand-none scalars)

nests-stand : (options : Options) (version : Version) (scalars : ℕ) (units : List NestUnit) (number : ℕ) (s : Store) (left used : ℕ) (lines : List Line) (end : Cut) → length s.scalars ≡ scalars
    → IsJourneyOf options version scalars units number s left used lines end → Stand scalars lines
nests-stand options version scalars [] number s left used lines end count h = subst (Stand scalars) (sym h.0) (stand-none scalars)
nests-stand options version scalars (unit ∷ units) number s left used lines end count h =
    let own = h.0 in
    let rest = h.1 in
    let here = h.2 in
    let stood = nest-stood (setting_of options scalars unit) s left used own here count h.3 in
    subst (Stand scalars) (sym h.5)
    (stand-both scalars (heading version number) (own ++ rest) (heading-stands scalars version number)
    (stand-both scalars own rest stood.lines-stand
    (rest-stands scalars here.ending (IsJourneyOf options version scalars units (suc number) here.store here.left here.used rest end) (end ≡ here) rest
    (λ k. nests-stand options version scalars units (suc number) here.store here.left here.used rest end stood.count k) h.4)))

pub journey-stands : (options : Options) (file : File) (lines : List Line) (end : Cut) → length (first_store file).scalars ≡ length file.scalars → IsJourney options file lines end → All (CanStand (length file.scalars)) lines
journey-stands options file lines end count h =
    All-from (CanStand (length file.scalars)) lines (nests-stand options file.version (length file.scalars) file.units 1 (first_store file) options.steps 0 lines end count h)
