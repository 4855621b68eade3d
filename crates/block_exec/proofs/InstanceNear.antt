-- Where instances of blocks and heads may read and write.
use Rattle.std.proofs.Common.{◌≡◌, ◌++◌, refl, ap, ap₂, ◌∙◌, ℤ, pos, Result, Ok, Err, List, [], ◌∷◌, not, true, Some, None}
use Rattle.nest_lang.specs.declared.tree.Head.{Head}
use Rattle.nest_lang.specs.declared.tree.Head.TheVariants.{For, While}
use Rattle.nest_lang.specs.declared.tree.Stmt.{Stmt}
use Rattle.nest_lang.specs.declared.observe.Seen.TheVariants.{Lower, Trip, Condition}
use Rattle.nest_lang.specs.Values.{same, trip_count}
use Rattle.nest_lang.specs.Stores.{Store, store_of}
use Rattle.nest_lang.specs.Traces.{Observation, Entry, Halt, Trace, traced, after_all}
use Rattle.nest_lang.specs.Expressions.{Frame, shown, Told}
use Rattle.nest_lang.specs.Statements.{block_trace, started, announced, shown_before, instance_trace}
use Rattle.nest_lang.specs.Heads.{Yield, Bounds, Tested, Headed, heading, then_head, as_number, head_of, head_step, headed}
use Rattle.block_exec.specs.Laws.{head_trace, InstancesDependWhereLoaded, InstancesChangeWhereStored}
use Rattle.block_exec.proofs.AlikeStores.{StoreAlike, told-alike, block-near}
use Rattle.block_exec.proofs.StoredWordLaws.{Stays, block-inside, after-leaves}

module _ (f : Frame) (verified : f.expects.verifies ≡ true) where
  head-near : (head : Head) (s t : Store) → StoreAlike f verified s t → head_of f head s ≡ head_of f head t
  unfolding head_of
  head-near (For lower upper stride) s t h =
      ap₂ (λ (a b : Told). then_head a.seen a.value (λ from. then_head b.seen b.value (λ to. heading (shown f Lower from ∷ shown f Trip (pos (trip_count from to stride)) ∷ []) (Ok (Bounds from (trip_count from to stride))))))
      (told-alike f verified s t lower h) (told-alike f verified s t upper h)
  head-near (While condition) s t h =
      ap (λ (a : Told). then_head a.seen a.value (λ v. heading (shown f Condition (as_number (not (same v (pos 0)))) ∷ []) (Ok (Tested (not (same v (pos 0)))))))
      (told-alike f verified s t condition h)

  stays-shown : (os : List Observation) (es : List Entry) → Stays f verified es → Stays f verified (shown_before os es)
  stays-shown os [] h = h
  stays-shown os (e ∷ es) h = h

-- the step of a head, from any store, shows what it tells and changes nothing
head-changes : (before seen : List Observation) (v : Result Yield Halt) (s t : Store) → after_all t (traced (head_step before seen v (λ y. [])) s).entries ≡ t
head-changes before seen (Ok yield) s t = refl
head-changes before seen (Err halt) s t = refl

pub head-from : (before seen : List Observation) (v : Result Yield Halt) (s t : Store) → traced (head_step before seen v (λ y. [])) s ≡ traced (head_step before seen v (λ y. [])) t
head-from before seen (Ok yield) s t = refl
head-from before seen (Err halt) s t = refl

pub instances-near : InstancesDependWhereLoaded
unfolding instance_trace announced
instances-near f m w scalars locals verified h = (
  λ block. ap (λ (t : Trace). record t { entries = shown_before (announced f (store_of m scalars locals)) t.entries }) (block-near f verified block (started (store_of m scalars locals)) (started (store_of w scalars locals)) (record { scalars = refl; locals = refl; memory = h })),
  λ head. ap (λ (p : Headed). traced (head_step (announced f (store_of m scalars locals)) p.seen p.value (λ y. [])) (store_of m scalars locals)) (head-near f verified head (store_of m scalars locals) (store_of w scalars locals) (record { scalars = refl; locals = refl; memory = h }))
      ∙ head-from (announced f (store_of m scalars locals)) (head_of f head (store_of w scalars locals)).seen (head_of f head (store_of w scalars locals)).value (store_of m scalars locals) (store_of w scalars locals),
)

pub instances-kept : InstancesChangeWhereStored
unfolding instance_trace
instances-kept f s = (
  λ block address verified none. after-leaves f verified s (shown_before (announced f s) (block_trace f block (started s)).entries) address none (stays-shown f verified (announced f s) (block_trace f block (started s)).entries (block-inside f verified block (started s))),
  λ head. head-changes (announced f s) (head_of f head s).seen (head_of f head s).value s s,
)
