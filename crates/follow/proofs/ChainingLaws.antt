-- The chain law, from where the instances of a chunk lead.
use Rattle.std.proofs.Common.{◌≡◌, refl, ap, ◌∙◌, sym, ℕ, ℤ, ◌+◌, ◌-◌, leb, Bool, true, false, List, [], ◌∷◌, length, Option, Some, None, arith}
use Rattle.std.specs.Prelude.{if◌then◌else◌}
use Rattle.std.specs.List.{AllByRecursion}
use Rattle.std.proofs.lemmas.Bool.{and_parts}
use Rattle.nest_lang.specs.Values.{same}
use Rattle.nest_lang.specs.Stores.{Store, store_of}
use Rattle.nest_lang.specs.Lookups.{plain}
use Rattle.nest_lang.specs.Turns.{turns_trace}
use Rattle.orders.specs.Runs.{Outcome, Machine, and_then, follow, plus as steps_more}
use Rattle.orders.specs.Chains.{State, on, ended, compared, closed, last, within}
use Rattle.orders.specs.Chains as chains
use Rattle.orders.proofs.ChainLaws.{chain_law}
use Rattle.follow.specs.Forecasts.{same_all, Forecast}
use Rattle.follow.specs.Reaches.{onward, reach, Reached}
use Rattle.follow.specs.Plans.{item_trace, chain, planned, Item}
use Rattle.follow.specs.FollowRuns.{state_of, item_step, ended_with, follow_one, follow_run, item_turns}
use Rattle.follow.proofs.Undeviated.{ChunkLaw}
use Rattle.follow.proofs.HeadYieldLaws.{same-exact}
use Rattle.follow.proofs.LoopingLaws.{turns-lead-planned}
use Rattle.follow.proofs.BudgetLaws.{enough, enough-plus, enough-here, undeviated-reach, Keeps, reach-keeps}
use Rattle.follow.proofs.OtherScalarLaws.{begins-none}
use Rattle.follow.proofs.BoundLaws.{undeviated-bound}

pub same_all-exact : (xs ys : List ℤ) → same_all xs ys ≡ true → xs ≡ ys
same_all-exact [] [] h = refl
same_all-exact (x ∷ xs) (y ∷ ys) h =
    let b = and_parts (same x y) (same_all xs ys) h in
    ap (λ (z : ℤ). z ∷ xs) (same-exact x y b.0) ∙ ap (λ (zs : List ℤ). y ∷ zs) (same_all-exact xs ys b.1)
same_all-exact [] (y ∷ ys) h = absurd (cc)
same_all-exact (x ∷ xs) [] h = absurd (cc)

module _ (p : Forecast) (after : Item → List ℤ) where
  abbrev Sizes : ℕ → List Item → Type 0
  Sizes n is = AllByRecursion (λ (i : Item). length (p.scalars i.at) ≡ n) is

  -- instances that hand their scalars on, within a number of steps
  pub plain-chain : (n : ℕ) (is : List Item) (s : Store) (left : ℕ) → Keeps p n s → Sizes n is → chains.plain (item_turns p after) is s.scalars s.memory left ≡ enough left (chain p is s)
  plain-chain n [] s left keeps sizes = enough-here s left
  plain-chain n (i ∷ is) s left keeps sizes = at (same_all s.scalars (p.scalars i.at)) refl (λ r e m. plain-chain n is r.store m (reach-keeps p n (item_trace p i s) s r keeps e) sizes.1)
    where
      rest : (o : Option Reached) → ((r : Reached) → o ≡ Some r → (m : ℕ) → chains.plain (item_turns p after) is r.store.scalars r.store.memory m ≡ enough m (chain p is r.store))
          → on (state_of o) left (chains.plain (item_turns p after) is) ≡ enough left (onward o (chain p is))
      rest None each = refl
      rest (Some r) each =
          ap (λ (q : Option State). if leb r.steps left then q else None) (each r refl (left - r.steps)) ∙ sym (enough-plus left r.steps (chain p is r.store))

      whole : store_of s.memory s.scalars [] ≡ s
      whole = ap (λ (ls : List ℤ). store_of s.memory s.scalars ls) (sym keeps.0)

      at : (b : Bool) → same_all s.scalars (p.scalars i.at) ≡ b
          → ((r : Reached) → reach p (item_trace p i s) s ≡ Some r → (m : ℕ) → chains.plain (item_turns p after) is r.store.scalars r.store.memory m ≡ enough m (chain p is r.store))
          → (if b then on (state_of (reach p (item_trace p i (store_of s.memory s.scalars [])) (store_of s.memory s.scalars []))) left (chains.plain (item_turns p after) is) else None)
          ≡ enough left (onward (reach p (item_trace p i s) s) (chain p is))
      at false e each = ap (λ (o : Option Reached). enough left (onward o (chain p is))) (sym (begins-none p i s (sizes.0 ∙ sym keeps.1) e))
      at true e each =
          ap (λ (u : Store). on (state_of (reach p (item_trace p i u) u)) left (chains.plain (item_turns p after) is)) whole
          ∙ rest (reach p (item_trace p i s) s) each

-- instances of no footprint
abbrev bare : Machine Item
bare = record { size = 0; reads = λ i a. false; writes = λ i a. false; run = λ i m. None }

module _ (p : Forecast) (after : Item → List ℤ) where
  one-compared : (i : Item) (o : Option State) → ended (item_turns p after) i o ≡ ended_with (after i) o
  one-compared i None = refl
  one-compared i (Some r) = refl

  then-all : (o : Option Outcome) (f g : List ℤ → Option Outcome) → ((m : List ℤ) → f m ≡ g m) → and_then o f ≡ and_then o g
  then-all None f g same = refl
  then-all (Some r) f g same = ap (steps_more r.steps) (same r.memory)

  follow-compared : (is : List Item) (m : List ℤ) → follow (compared (item_turns p after) bare) is m ≡ follow_run p after is m
  follow-compared [] m = refl
  follow-compared (i ∷ is) m =
      ap (λ (o : Option Outcome). and_then o (follow (compared (item_turns p after) bare) is)) (one-compared i (item_step p i (p.scalars i.at) m))
      ∙ then-all (follow_one p after i m) (follow (compared (item_turns p after) bare) is) (follow_run p after is) (follow-compared is)

pub chunk-law : ChunkLaw
chunk-law p after k loops o c s left x xs room is enough_turns chained bare_locals sizes =
    let j : ℕ = k + length (planned p loops o c) in
    undeviated-bound p (after (last x xs)) k j loops o c s left enough_turns (omega (arith, enough_turns))
    ∙ undeviated-reach p after (last x xs) (turns_trace plain j loops o c s) s left
    ∙ ap (λ (q : Option Reached). closed (item_turns p after) (last x xs) (enough left q))
    (turns-lead-planned p j loops o c room (omega arith) s ∙ ap (λ (is : List Item). chain p is s) is)
    ∙ ap (closed (item_turns p after) (last x xs)) (sym (plain-chain p after (length s.scalars) (x ∷ xs) s left (bare_locals, refl) sizes))
    ∙ chain_law (item_turns p after) bare same_all-exact x xs s.scalars s.memory left chained
    ∙ ap (λ (q : Option Outcome). if same_all s.scalars (p.scalars x.at) then within (item_turns p after) (last x xs) left q else None) (follow-compared p after (x ∷ xs) s.memory)
