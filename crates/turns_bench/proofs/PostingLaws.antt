-- Phases of copies of the first instance may be posted.
use Rattle.std.proofs.Common.{◌≡◌, ℕ, zero, suc, ◌*◌, ◌<◌, ◌≤◌, pos, ◌≤ℤ◌, Bool, true, false, ◌||◌, true≢false, List, [], ◌∷◌, length, Some, None, refl, sym, ap, ◌∙◌, subst, ⊎_elim, arith}
use Rattle.std.proofs.lemmas.Int.{ints}
use Rattle.atomic_table.specs.Seated.{TableId}
use Rattle.core_steps.specs.declared.plan.Plan.{Plan}
use Rattle.core_steps.proofs.NumberListLaws.{has-snoc}
use Rattle.core_steps.specs.Numbers.{has as has-number}
use Rattle.core_steps.specs.Plans.{IsSeparate, IsInside, tile_of, writes}
use Rattle.domain.specs.Examples.{row}
use Rattle.domain.specs.Footprints.{Expects, Touches, Reads, Writes}
use Rattle.domain.specs.Instances.{Instance, Predicted, block_of}
use Rattle.domain.specs.Tables.{Table, Access, access_at}
use Rattle.domain.specs.declared.chunk.Chunk.{Chunk}
use Rattle.nest_lang.specs.declared.state.Outer.{Outer}
use Rattle.nest_lang.specs.declared.tree.Loop.{Loop}
use Rattle.plain_lemmas.specs.Lists.{Has}
use Rattle.verified_turns.specs.Progress.{list_of}
use Rattle.follow_chunk.specs.Laws.{one_row, first_turn, one_turn}
use Rattle.follow_chunk.proofs.PremiseLaws.{here, premises-can-hold}
use Rattle.follow_chunk.specs.Tasks.{TaskState}
use Rattle.verified_turns.specs.Workers.{StaysWithin}
use Rattle.phase_run.specs.Postings.{IsPostable}
use Rattle.shared_words.proofs.EmptyTileLaws.{AreEmpty, empty-separate, empty-inside}
use Rattle.turns_bench.specs.Copies.{first, tiles_of, one_store, four_empty}
use Rattle.turns_bench.proofs.CopyingLaws.{is-first, some-copy, tiles-long, in-tile, in-all, all-long}

abbrev begins : Outer
begins = record { lower = pos 0; next = pos 0; left = Some 40 }

no-access : (access : Access) → None ≡ Some access → ⊥
no-access access e = cc

same-access : (one other : Access) → Some one ≡ Some other → one ≡ other
same-access one other e = cc

or-true : (b : Bool) → (b || true) ≡ true
or-true true = refl
or-true false = refl

abbrev store : Access
store = record { stores = true; line = Some (record { coef = pos 1 ∷ []; cst = pos 0 }); low = pos 0; high = pos 0 }

-- the one access of the first instance is a store to word 0
only-word : (a : ℕ) (stores : Bool) → Touches row first (pos a) stores → (stores ≡ true) × (a ≡ 0)
only-word a stores h = by h.number h.access h.is h.kind h.expected
  where
    by : (n : ℕ) (access : Access) → access_at (block_of row first) n ≡ Some access → access.stores ≡ stores → Expects access first.at (pos a) → (stores ≡ true) × (a ≡ 0)
    by zero access is kind expected = absurd (no-access access is)
    by (suc zero) access is kind expected =
        let same = same-access store access is in
        let le : pos a ≤ℤ pos 0 = (subst (λ (z : Access). Expects z first.at (pos a)) (sym same) expected).1 in
        (sym kind ∙ ap (λ (z : Access). z.stores) (sym same), omega (arith, ints, le))
    by (suc (suc n)) access is kind expected = absurd (no-access access is)

module _ (n each workers : ℕ) (plan : Plan) (separate : IsSeparate plan) (inside : IsInside 40 plan) (long : length plan.tiles ≡ n) (few_tiles : n ≤ 65536) (short : n * each ≤ 65536) (some : 0 < workers) (few : workers ≤ 64)
    (writes_word : (k : ℕ) → k < n → 0 < each → writes plan k 0 ≡ true) where
  writes_in : (tile a : ℕ) (x : Instance) → Has (list_of (tiles_of n each) tile) x → Writes row x (pos a) → writes plan tile a ≡ true
  writes_in tile a x has w =
      let (below, there) = in-tile n each tile x has in
      let at = (only-word a true (subst (λ (z : Instance). Writes row z (pos a)) (is-first each x there) w)).1 in
      subst (λ (b : ℕ). writes plan tile b ≡ true) (sym at) (writes_word tile below (some-copy each x there))

  reads-nothing : (tile a : ℕ) (x : Instance) → Has (list_of (tiles_of n each) tile) x → Reads row (pos 40) x (pos a) → ⊥
  reads-nothing tile a x has r =
      let (below, there) = in-tile n each tile x has in
      true≢false (sym (only-word a false (subst (λ (z : Instance). Touches row z (pos a) false) (is-first each x there) r.0)).0)

  within : StaysWithin first_turn 40 plan (tiles_of n each)
  within = record {
    writes_in = writes_in;
    touches_in = λ tile a x has. ⊎_elim (λ r. absurd (reads-nothing tile a x has r))
        (λ w. ap (λ (b : Bool). has-number a (tile_of plan tile).reads || b) (writes_in tile a x has w) ∙ or-true (has-number a (tile_of plan tile).reads));
  }

  pub postable : (k : TaskState) → k ≡ first_turn → (table : TableId) (number : ℕ) → IsPostable 1 40 k (record { table = table; lists = tiles_of n each; plan = plan; number = number; workers = workers })
  postable k is table number = subst (λ (z : TaskState). IsPostable 1 40 z (record { table = table; lists = tiles_of n each; plan = plan; number = number; workers = workers })) (sym is) (record {
    deep = omega arith;
    task = premises-can-hold;
    separate = separate;
    few_tiles = omega (arith, long, few_tiles);
    inside = inside;
    lists = tiles-long n each ∙ sym long;
    within = within;
    predicted = λ x h. subst (Predicted row one_turn) (sym (in-all n each x h)) here;
    short = (let all = all-long n each in omega (arith, all, short));
    some = some;
    few = few;
  })

pub task-is : (job : TaskState) → job.scalars ≡ 0 → job.loops ≡ one_row → job.pred ≡ row → job.outer ≡ begins → job.chunk ≡ one_turn → job ≡ first_turn
task-is job a b c d e = λ i. record { scalars = a i; loops = b i; pred = c i; outer = d i; chunk = e i }

-- a plan of one tile is separate, and what this one touches is word 0
pub one-store-separate : IsSeparate one_store
one-store-separate zero zero ne a w = absurd (ne refl)
one-store-separate zero (suc k) ne a w = refl
one-store-separate (suc j) k ne a w = absurd (true≢false (sym w))

pub one-store-inside : IsInside 40 one_store
one-store-inside zero a t = ⊎_elim (λ e. omega (arith, e)) (λ was. absurd (true≢false (sym was))) (has-snoc a 0 [] t)
one-store-inside (suc k) a t = absurd (true≢false (sym t))

pub one-store-writes : (tile : ℕ) → tile < 1 → writes one_store tile 0 ≡ true
one-store-writes zero below = refl
one-store-writes (suc tile) below = absurd (omega (arith, below))

four-are-empty : AreEmpty four_empty.tiles
four-are-empty zero = refl
four-are-empty (suc zero) = refl
four-are-empty (suc (suc zero)) = refl
four-are-empty (suc (suc (suc zero))) = refl
four-are-empty (suc (suc (suc (suc k)))) = refl

pub four-empty-separate : IsSeparate four_empty
four-empty-separate = empty-separate four_empty four-are-empty

pub four-empty-inside : IsInside 40 four_empty
four-empty-inside = empty-inside four_empty 40 four-are-empty
