-- Conflicts: the footprint of an instance, and of what it runs.
use Rattle.std.proofs.Common.{◌≡◌, refl, sym, ap, ap₂, ◌∙◌, subst, ℕ, zero, suc, ◌<◌, ◌≤◌, ◌+◌, ◌⊎◌, ℤ, pos, negsuc, ◌+ℤ◌, ◌≤ℤ◌, Bool, true, false, List, [], ◌∷◌, length, map, get_or, drop, nat_lt, Option, Some, None, inl, inr, ⊎_elim, arith}
use Rattle.std.specs.Prelude.{◌&&◌, ◌||◌, slice_get, option_map, int_le}
use Rattle.std.specs.List.{list_any, range_with_len}
use Rattle.std.proofs.lemmas.Int.{ints}
use Rattle.std.proofs.lemmas.Bool.{and_parts}
use Rattle.std.proofs.lemmas.Bool.Decides.{nat_tests}
use Rattle.std.proofs.lemmas.Option.{slice_get-map}
use Rattle.plain_lemmas.proofs.MembershipLaws.{list_any-has}
use Rattle.plain_lemmas.specs.Lists.{Has}
use Rattle.affine.specs.Forms.{Affine, value_at}
use Rattle.nest_lang.specs.declared.tree.Access.{Access as NestAccess}
use Rattle.nest_lang.specs.declared.tree.AccessKind.{AccessKind}
use Rattle.nest_lang.specs.declared.tree.AccessKind.TheVariants as kinds
use Rattle.nest_lang.specs.declared.tree.Loop.{Loop}
use Rattle.nest_lang.specs.declared.state.Outer.{Outer}
use Rattle.nest_lang.specs.Accesses.{accesses_of}
use Rattle.nest_lang.specs.Blocks.{block_ref}
use Rattle.nest_lang.specs.Lookups.{Interval, lies_in}
use Rattle.nest_lang.specs.Rules.{AreNumbered}
use Rattle.domain.specs.declared.chunk.Chunk.{Chunk}
use Rattle.domain.specs.Tables.{Table, Access, access_at, line_of, tube_by}
use Rattle.domain.specs.Instances.{Instance, block_of, Predicted, IsSuccessor}
use Rattle.domain.specs.Expected.{form_of, expected_of, tube_of}
use Rattle.domain.specs.Footprints.{LiesAbout, Touches}
use Rattle.domain.specs.Footprints as table
use Rattle.domain.specs.Shapes.{is_store}
use Rattle.domain.proofs.LaunchedLaws.{launched_words}
use Rattle.domain.proofs.OriginalLaws.{successor-law}
use Rattle.follow.specs.Plans.{Item}
use Rattle.follow.specs.Footprints.{same_kind, work_accesses, lies_in_one, item_reads, item_writes}
use Rattle.follow.specs.ReorderLaws.{item_touches}
use Rattle.follow.specs.ReorderLaws as list
use Rattle.follow_chunk.specs.Predicted.{instance_of, interval_about, interval_at, forecast_of}
use Rattle.follow_chunk.specs.Items.{item_at}
use Rattle.follow_chunk.specs.Tasks.{TaskState, IsTask}
use Rattle.follow_chunk.specs.Nests.{IsNest, IsInTurns}
use Rattle.follow_chunk.specs.Laws.{InstancesReturn, InstancesHaveItems, NextIsSuccessor, ConflictsAgree}
use Rattle.follow_chunk.proofs.PointLaws.{instance-occurrence, successor-is}
use Rattle.follow_chunk.proofs.NestInstanceLaws as nests
use Rattle.follow_chunk.proofs.PlacingLaws.{nest-of, in-turns}

pub instances-return : InstancesReturn
instances-return D t x is i = instance-occurrence D t is x i

pub next-is-successor : NextIsSuccessor
next-is-successor D t chunk x y is p = (λ s. successor-is D t is chunk x y p s, λ e. subst (IsSuccessor t chunk x) (sym e) (successor-law D t is chunk x p))

pub instances-have-items : InstancesHaveItems
instances-have-items D k words x task p =
    let nest = nest-of D k (pos words) task in
    let turns = in-turns D k (pos words) task x p in
    (nests.item-found D k.scalars k.loops k.pred k.outer nest x turns, nests.item-occurrence D k.scalars k.loops k.pred k.outer nest x turns)

-- ---- an access whose interval has an address

le-true : (u v : ℤ) → int_le u v ≡ true → u ≤ℤ v
le-true (pos m) (pos n) h = let l : m ≤ n = grind (arith, nat_tests) in omega (arith, ints)
le-true (pos m) (negsuc n) h = absurd (cc)
le-true (negsuc m) (pos n) h = omega (arith, ints)
le-true (negsuc m) (negsuc n) h = let l : n ≤ m = grind (arith, nat_tests) in omega (arith, ints)

true-le : (u v : ℤ) → u ≤ℤ v → int_le u v ≡ true
true-le (pos m) (pos n) h = let l : m ≤ n = omega (arith, ints) in grind (arith, nat_tests)
true-le (pos m) (negsuc n) h = absurd (omega (arith, ints))
true-le (negsuc m) (pos n) h = refl
true-le (negsuc m) (negsuc n) h = let l : n ≤ m = omega (arith, ints) in grind (arith, nat_tests)

-- the interval of an access of the table
abbrev pub about : Option Access → List ℤ → Option Interval
about found at = interval_about (option_map (λ (form : Affine). value_at form at) (line_of found)) (tube_by found (line_of found))

pub lies-expects : (f : Option Affine) (low high : ℤ) (stores : Bool) (at : List ℤ) (a : ℤ) → lies_in (about (Some (record { stores = stores; line = f; low = low; high = high })) at) a ≡ true → LiesAbout f low high at a
lies-expects None low high stores at a h = absurd (cc)
lies-expects (Some form) low high stores at a h = let parts = and_parts (int_le (value_at form at +ℤ low) a) (int_le a (value_at form at +ℤ high)) h in (le-true _ _ parts.0, le-true _ _ parts.1)

expects-lies : (f : Option Affine) (low high : ℤ) (stores : Bool) (at : List ℤ) (a : ℤ) → LiesAbout f low high at a → lies_in (about (Some (record { stores = stores; line = f; low = low; high = high })) at) a ≡ true
expects-lies None low high stores at a h = absurd h
expects-lies (Some form) low high stores at a h = ap₂ (λ (u v : Bool). u && v) (true-le _ _ h.0) (true-le _ _ h.1)

-- ---- places in lists

pub has-place : {X : Type 0} (xs : List X) (x : X) → Has xs x → (k : ℕ) × (slice_get xs k ≡ Some x)
has-place [] x h = absurd h
has-place (y ∷ ys) x (inl e) = (0, ap (λ (z : _). Some z) (sym e))
has-place (y ∷ ys) x (inr h) = let (k, e) = has-place ys x h in (suc k, e)

any-at : {X : Type 0} (p : X → Bool) (xs : List X) (k : ℕ) (x : X) → slice_get xs k ≡ Some x → p x ≡ true → list_any p xs ≡ true
any-at p [] k x e h = absurd (cc)
any-at p (y ∷ ys) zero x e h = let f : y ≡ x = cc in ap (λ (b : Bool). b || list_any p ys) (ap p f ∙ h)
any-at p (y ∷ ys) (suc k) x e h = or-right (p y) (list_any p ys) (any-at p ys k x e h)
  where
    or-right : (a b : Bool) → b ≡ true → a || b ≡ true
    or-right true b g = refl
    or-right false b g = g

-- numbers from a number on
pub number-at : (xs : List NestAccess) (n k : ℕ) (x : NestAccess) → map (λ (a : NestAccess). a.number) xs ≡ range_with_len n (length xs) → slice_get xs k ≡ Some x → x.number ≡ n + k
number-at [] n k x e f = absurd (cc)
number-at (y ∷ ys) n zero x e f = let g : y ≡ x = cc in sym (ap (λ (a : NestAccess). a.number) g) ∙ ap (λ (ns : List ℕ). get_or ns 0 0) e ∙ (let z : n ≡ n + 0 = omega arith in z)
number-at (y ∷ ys) n (suc k) x e f = number-at ys (n + 1) k x (ap (λ (ns : List ℕ). drop 1 ns) e) f ∙ (let z : n + 1 + k ≡ n + suc k = omega arith in z)

pub some-same : {X : Type 0} (a b : X) → Some a ≡ Some b → a ≡ b
some-same a b e = cc

-- an access of the nest and the one of the table at its place
pub stores-at : (xs : List Access) (ys : List NestAccess) (k : ℕ) → map (λ (a : Access). a.stores) xs ≡ map (λ (a : NestAccess). is_store a.kind) ys
    → option_map (λ (a : Access). a.stores) (slice_get xs k) ≡ option_map (λ (a : NestAccess). is_store a.kind) (slice_get ys k)
stores-at xs ys k e = sym (slice_get-map (λ (a : Access). a.stores) xs k) ∙ ap (λ (bs : List Bool). slice_get bs k) e ∙ slice_get-map (λ (a : NestAccess). is_store a.kind) ys k

kind-store : (k : AccessKind) (stores : Bool) → is_store k ≡ stores → (kind : AccessKind) → is_store kind ≡ stores → same_kind k kind ≡ true
kind-store kinds.Load false e kinds.Load f = refl
kind-store kinds.Store true e kinds.Store f = refl
kind-store kinds.Load true e kind f = absurd (cc)
kind-store kinds.Store false e kind f = absurd (cc)
kind-store kinds.Load false e kinds.Store f = absurd (cc)
kind-store kinds.Store true e kinds.Load f = absurd (cc)

same-store : (k kind : AccessKind) → same_kind k kind ≡ true → is_store k ≡ is_store kind
same-store kinds.Load kinds.Load h = refl
same-store kinds.Store kinds.Store h = refl
same-store kinds.Load kinds.Store h = absurd (cc)
same-store kinds.Store kinds.Load h = absurd (cc)

pub interval-by : (t : Table) (x : Instance) (n : ℕ) → interval_at t x n ≡ about (access_at (block_of t x) n) x.at
unfolding interval_at expected_of form_of tube_of
interval-by t x n = refl

module _ (D scalars : ℕ) (loops : List Loop) (t : Table) (o : Outer) (nest : IsNest D scalars loops t) (x : Instance) (turns : IsInTurns t x) where
  abbrev accesses : List NestAccess
  accesses = accesses_of loops (block_ref (block_of t x).part (block_of t x).level)

  abbrev i : Item
  i = item_at t loops o x

  at-is : instance_of t (item_at t loops o x).at ≡ x
  at-is = nests.instance-back D scalars loops t o nest x turns

  of : map (λ (a : Access). a.stores) (block_of t x).accesses ≡ map (λ (a : NestAccess). is_store a.kind) accesses
  of = (nests.block-is D scalars loops t o nest x turns).accesses

  numbered : AreNumbered accesses
  numbered = nests.numbered-here D scalars loops t o nest x turns

  work-is : work_accesses (item_at t loops o x).work ≡ accesses
  work-is = nests.item-accesses D scalars loops t o nest x turns

  -- an access with the address in its interval, in the nest and in the table
  to-table : (kind : AccessKind) (a : ℕ) → lies_in_one (forecast_of t) kind i.at accesses a ≡ true → Touches t x (pos a) (is_store kind)
  to-table kind a h =
      let (na, has, test) = list_any-has (λ (y : NestAccess). same_kind y.kind kind && lies_in ((forecast_of t).interval i.at y.number) (pos a)) accesses h in
      let (k, e) = has-place accesses na has in
      let parts = and_parts (same_kind na.kind kind) (lies_in ((forecast_of t).interval i.at na.number) (pos a)) test in
      let number : na.number ≡ suc k = number-at accesses 1 k na numbered.0 e ∙ (let z : 1 + k ≡ suc k = omega arith in z) in
      let lies : lies_in (about (access_at (block_of t x) (suc k)) x.at) (pos a) ≡ true =
      sym (ap (λ (j : Option Interval). lies_in j (pos a)) (ap (λ (y : Instance). interval_at t y na.number) at-is ∙ ap (interval_at t x) number ∙ interval-by t x (suc k))) ∙ parts.1 in
      by k na e (same-store na.kind kind parts.0) (slice_get (block_of t x).accesses k) refl lies
    where
      by : (k : ℕ) (na : NestAccess) → slice_get accesses k ≡ Some na → is_store na.kind ≡ is_store kind → (found : Option Access) → slice_get (block_of t x).accesses k ≡ found → lies_in (about (slice_get (block_of t x).accesses k) x.at) (pos a) ≡ true
          → Touches t x (pos a) (is_store kind)
      by k na e same None f lies = absurd (let g : lies_in (about None x.at) (pos a) ≡ true = sym (ap (λ (z : Option Access). lies_in (about z x.at) (pos a)) f) ∙ lies in cc)
      by k na e same (Some d) f lies =
          record {
            number = suc k;
            access = d;
            is = f;
            kind = some-same d.stores (is_store na.kind) (sym (ap (option_map (λ (y : Access). y.stores)) f) ∙ stores-at (block_of t x).accesses accesses k of ∙ ap (option_map (λ (y : NestAccess). is_store y.kind)) e) ∙ same;
            expected = lies-expects d.line d.low d.high d.stores x.at (pos a) (sym (ap (λ (z : Option Access). lies_in (about z x.at) (pos a)) f) ∙ lies);
          }

  to-list : (kind : AccessKind) (a : ℕ) → Touches t x (pos a) (is_store kind) → lies_in_one (forecast_of t) kind i.at accesses a ≡ true
  to-list kind a h = by h.number h.is
    where
      there : (k : ℕ) (na : NestAccess) → slice_get accesses k ≡ Some na → h.access.stores ≡ is_store na.kind → slice_get (block_of t x).accesses k ≡ Some h.access → lies_in_one (forecast_of t) kind i.at accesses a ≡ true
      there k na e stores f =
          let number : na.number ≡ suc k = number-at accesses 1 k na numbered.0 e ∙ (let z : 1 + k ≡ suc k = omega arith in z) in
          let lies = ap (λ (j : Option Interval). lies_in j (pos a)) (ap (λ (y : Instance). interval_at t y na.number) at-is ∙ ap (interval_at t x) number ∙ interval-by t x (suc k))
          ∙ ap (λ (z : Option Access). lies_in (about z x.at) (pos a)) f ∙ expects-lies h.access.line h.access.low h.access.high h.access.stores x.at (pos a) h.expected in
          any-at (λ (y : NestAccess). same_kind y.kind kind && lies_in ((forecast_of t).interval i.at y.number) (pos a)) accesses k na e
          (ap₂ (λ (u v : Bool). u && v) (kind-store na.kind (is_store na.kind) refl kind (sym (sym stores ∙ h.kind))) lies)

      found : (k : ℕ) → slice_get (block_of t x).accesses k ≡ Some h.access → (z : Option NestAccess) → slice_get accesses k ≡ z → lies_in_one (forecast_of t) kind i.at accesses a ≡ true
      found k f None e = absurd (let g : Some h.access.stores ≡ None = sym (ap (option_map (λ (y : Access). y.stores)) f) ∙ stores-at (block_of t x).accesses accesses k of ∙ ap (option_map (λ (y : NestAccess). is_store y.kind)) e in cc)
      found k f (Some na) e = there k na e (some-same h.access.stores (is_store na.kind) (sym (ap (option_map (λ (y : Access). y.stores)) f) ∙ stores-at (block_of t x).accesses accesses k of ∙ ap (option_map (λ (y : NestAccess). is_store y.kind)) e)) f

      by : (n : ℕ) → access_at (block_of t x) n ≡ Some h.access → lies_in_one (forecast_of t) kind i.at accesses a ≡ true
      by zero e = absurd (cc)
      by (suc k) e = found k e (slice_get accesses k) refl

  writes-table : (a : ℕ) → item_writes (forecast_of t) i a ≡ true → table.Writes t x (pos a)
  writes-table a h = to-table kinds.Store a (sym (ap (λ (as_are : List NestAccess). lies_in_one (forecast_of t) kinds.Store i.at as_are a) work-is) ∙ h)

  table-writes : (a : ℕ) → table.Writes t x (pos a) → item_writes (forecast_of t) i a ≡ true
  table-writes a h = ap (λ (as_are : List NestAccess). lies_in_one (forecast_of t) kinds.Store i.at as_are a) work-is ∙ to-list kinds.Store a h

  module _ (words : ℕ) where
    touches-table : (a : ℕ) → item_touches (forecast_of t) words (item_at t loops o x) a ≡ true → table.Reads t (pos words) x (pos a) ⊎ table.Writes t x (pos a)
    touches-table a h = by (nat_lt a words) refl (lies_in_one (forecast_of t) kinds.Load (item_at t loops o x).at (work_accesses (item_at t loops o x).work) a) refl h
      where
        by : (b : Bool) → nat_lt a words ≡ b → (c : Bool) → lies_in_one (forecast_of t) kinds.Load (item_at t loops o x).at (work_accesses (item_at t loops o x).work) a ≡ c → (b && c) || item_writes (forecast_of t) (item_at t loops o x) a ≡ true → table.Reads t (pos words) x (pos a) ⊎ table.Writes t x (pos a)
        by true e true f g =
            let l : a < words = grind (arith, nat_tests) in
            inl (to-table kinds.Load a (sym (ap (λ (as_are : List NestAccess). lies_in_one (forecast_of t) kinds.Load (item_at t loops o x).at as_are a) (work-is)) ∙ f), omega (arith, ints), omega (arith, ints))
        by true e false f g = inr (writes-table a g)
        by false e c f g = inr (writes-table a g)

    or-true : (b : Bool) → b || true ≡ true
    or-true true = refl
    or-true false = refl

    table-touches : (a : ℕ) → table.Reads t (pos words) x (pos a) ⊎ table.Writes t x (pos a) → item_touches (forecast_of t) words (item_at t loops o x) a ≡ true
    table-touches a (inr h) = ap (λ (b : Bool). item_reads (forecast_of t) words (item_at t loops o x) a || b) (table-writes a h) ∙ or-true (item_reads (forecast_of t) words (item_at t loops o x) a)
    table-touches a (inl h) =
        let below = h.2 in
        let l : nat_lt a words ≡ true = (let m : a < words = omega (arith, ints) in grind (arith, nat_tests)) in
        ap (λ (b : Bool). b || item_writes (forecast_of t) (item_at t loops o x) a) (ap₂ (λ (u v : Bool). u && v) l (ap (λ (as_are : List NestAccess). lies_in_one (forecast_of t) kinds.Load (item_at t loops o x).at as_are a) (work-is) ∙ to-list kinds.Load a h.0))

-- what conflicts in what two instances run conflicts in the table, whatever is launched
pub conflict-table : (D scalars words : ℕ) (loops : List Loop) (t : Table) (o : Outer) (x y : Instance) → IsNest D scalars loops t → IsInTurns t x → IsInTurns t y
    → list.Conflict (forecast_of t) words (item_at t loops o x) (item_at t loops o y) → table.Conflict t (pos words) x y
conflict-table D scalars words loops t o x y nest p q c = (
  pos c.0,
  ⊎_elim
      (λ h. inl (writes-table D scalars loops t o nest x p c.0 h.0, touches-table D scalars loops t o nest y q words c.0 h.1))
      (λ h. inr (writes-table D scalars loops t o nest y q c.0 h.0, touches-table D scalars loops t o nest x p words c.0 h.1)) c.1,
)

-- the same of predicted instances of a task
module _ (D : ℕ) (job : TaskState) (words : ℤ) (x : Instance) (task : IsTask D job words) (p : Predicted job.pred job.chunk x) where
  abbrev nest : IsNest D job.scalars job.loops job.pred
  nest = nest-of D job words task

  abbrev turns : IsInTurns job.pred x
  turns = in-turns D job words task x p

  pub interval-is : (n : ℕ) → interval_at job.pred x n ≡ about (access_at (block_of job.pred x) n) x.at
  interval-is n = interval-by job.pred x n

  pub writes-to : (a : ℕ) → item_writes (forecast_of job.pred) (item_at job.pred job.loops job.outer x) a ≡ true → table.Writes job.pred x (pos a)
  writes-to a h = writes-table D job.scalars job.loops job.pred job.outer nest x turns a h

  pub writes-from : (a : ℕ) → table.Writes job.pred x (pos a) → item_writes (forecast_of job.pred) (item_at job.pred job.loops job.outer x) a ≡ true
  writes-from a h = table-writes D job.scalars job.loops job.pred job.outer nest x turns a h

module _ (D : ℕ) (job : TaskState) (words : ℕ) (x : Instance) (task : IsTask D job (pos words)) (p : Predicted job.pred job.chunk x) where
  pub touches-to : (a : ℕ) → item_touches (forecast_of job.pred) words (item_at job.pred job.loops job.outer x) a ≡ true → table.Reads job.pred (pos words) x (pos a) ⊎ table.Writes job.pred x (pos a)
  touches-to a h = touches-table D job.scalars job.loops job.pred job.outer (nest D job (pos words) x task p) x (turns D job (pos words) x task p) words a h

  pub touches-from : (a : ℕ) → table.Reads job.pred (pos words) x (pos a) ⊎ table.Writes job.pred x (pos a) → item_touches (forecast_of job.pred) words (item_at job.pred job.loops job.outer x) a ≡ true
  touches-from a h = table-touches D job.scalars job.loops job.pred job.outer (nest D job (pos words) x task p) x (turns D job (pos words) x task p) words a h

pub conflicts-agree : ConflictsAgree
conflicts-agree D k words x y task p q = (
  conflict-table D k.scalars words k.loops k.pred k.outer x y (nest-of D k (pos words) task) (in-turns D k (pos words) task x p) (in-turns D k (pos words) task y q),
  λ c. back c.0 c.1,
)
  where
    word : (z : Instance) → Predicted k.pred k.chunk z → (a : ℤ) → table.Writes k.pred z a → pos 0 ≤ℤ a
    word z r a h = (launched_words k.pred (pos words) k.chunk (task.launched).0 (task.launched).1 z r a h).0

    back : (a : ℤ) → (table.Writes k.pred x a × (table.Reads k.pred (pos words) y a ⊎ table.Writes k.pred y a)) ⊎ (table.Writes k.pred y a × (table.Reads k.pred (pos words) x a ⊎ table.Writes k.pred x a))
        → list.Conflict (forecast_of k.pred) words (item_at k.pred k.loops k.outer x) (item_at k.pred k.loops k.outer y)
    back (pos a) (inl h) = (a, inl (writes-from D k (pos words) x task p a h.0, touches-from D k words y task q a h.1))
    back (pos a) (inr h) = (a, inr (writes-from D k (pos words) y task q a h.0, touches-from D k words x task p a h.1))
    back (negsuc n) (inl h) = absurd (let l = word x p (negsuc n) h.0 in omega (arith, ints))
    back (negsuc n) (inr h) = absurd (let l = word y q (negsuc n) h.0 in omega (arith, ints))
