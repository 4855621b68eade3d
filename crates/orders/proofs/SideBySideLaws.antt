-- What runs side by side from one base gives what one after another gives.
use Rattle.std.proofs.Common.{◌≡◌, ℕ, zero, suc, ℤ, Bool, true, false, Option, Some, None, List, [], ◌∷◌, length, refl, sym, ap, ◌∙◌, subst, arith, inl, inr}
use Rattle.std.specs.List.{AllByRecursion}
use Rattle.orders.specs.Runs.{Outcome, word, Machine, touches, SameOn, Alike, Lawful, Apart, plus, and_then, follow}
use Rattle.orders.specs.Orders.{Ordered}
use Rattle.plain_lemmas.specs.Lists.{Has}
use Rattle.orders.specs.Tiles.{lists, flat, laid, beside, phases}
use Rattle.orders.proofs.SwapLaws.{then-same, same-words, untouched, long-follow}
use Rattle.plain_lemmas.proofs.MembershipLaws.{all-has, all-from}
use Rattle.orders.proofs.LiftLaws.{follow-append, follow-flat, lists-lawful}

pub length-laid : (p : ℕ → Bool) (own base : List ℤ) → length (laid p own base) ≡ length base
length-laid p own [] = refl
length-laid p [] (b ∷ bs) = refl
length-laid p (o ∷ os) (b ∷ bs) = ap suc (length-laid (λ a. p (suc a)) os bs)

pub laid-own : (p : ℕ → Bool) (own base : List ℤ) (a : ℕ) → length own ≡ length base → p a ≡ true → word (laid p own base) a ≡ word own a
laid-own p [] [] a size h = refl
laid-own p (o ∷ os) [] a size h = absurd (omega arith)
laid-own p [] (b ∷ bs) a size h = absurd (omega arith)
laid-own p (o ∷ os) (b ∷ bs) zero size h = rw h refl
laid-own p (o ∷ os) (b ∷ bs) (suc a) size h = laid-own (λ i. p (suc i)) os bs a (omega arith) h

pub laid-base : (p : ℕ → Bool) (own base : List ℤ) (a : ℕ) → p a ≡ false → word (laid p own base) a ≡ word base a
laid-base p own [] a h = refl
laid-base p [] (b ∷ bs) a h = refl
laid-base p (o ∷ os) (b ∷ bs) zero h = rw h refl
laid-base p (o ∷ os) (b ∷ bs) (suc a) h = laid-base (λ i. p (suc i)) os bs a h

pub then-none : (o : Option Outcome) (go : List ℤ → Option Outcome) → ((r : Outcome) → go r.memory ≡ None) → and_then o go ≡ None
then-none None go h = refl
then-none (Some r) go h = rw (h r) refl

module _ {X : Type 0} (s : Machine X) where
  -- one that fails makes the whole fail
  pub beside-none : (base : List ℤ) (xs : List X) (here : List ℤ) (x : X) → Has xs x → s.run x base ≡ None → beside s base xs here ≡ None
  beside-none base [] here x h e = absurd h
  beside-none base (y ∷ ys) here x (inl is) e = let f : s.run y base ≡ None = subst (λ z. s.run z base ≡ None) is e in rw f refl
  beside-none base (y ∷ ys) here x (inr h) e = then-none (s.run y base) _ (λ r. beside-none base ys (laid (s.writes y) r.memory here) x h e)

  module _ (lawful : Lawful s) where
    pub beside-from : (base : List ℤ) (xs : List X) (here : List ℤ) → length base ≡ s.size → length here ≡ s.size → Ordered (Apart s) xs
        → AllByRecursion (λ x. SameOn (touches s x) base here) xs → beside s base xs here ≡ follow s xs here
    beside-from base [] here lb lh apart same = refl
    beside-from base (x ∷ xs) here lb lh apart same =
        both (s.run x base) (s.run x here) refl refl (lawful.near x base here lb lh same.0) (λ w l k. beside-from base xs w lb l apart.1 k)
      where
        both : (o o' : Option Outcome) → s.run x base ≡ o → s.run x here ≡ o' → Alike (s.writes x) o o'
            → ((w : List ℤ) → length w ≡ s.size → AllByRecursion (λ y. SameOn (touches s y) base w) xs → beside s base xs w ≡ follow s xs w)
            → and_then o (λ own. beside s base xs (laid (s.writes x) own here)) ≡ and_then o' (follow s xs)
        both None None e f h more = refl
        both None (Some r) e f h more = absurd h
        both (Some q) None e f h more = absurd h
        both (Some q) (Some r) e f h more =
            let lq = lawful.long x base q lb e in
            let lr = lawful.long x here r lh f in
            let now : laid (s.writes x) q.memory here ≡ r.memory = same-words _ _ (length-laid _ q.memory here ∙ lh ∙ sym lr) (λ a. at-word a (s.writes x a) refl (lq ∙ sym lh)) in
            let rest = all-from (λ y. SameOn (touches s y) base r.memory) xs (λ y has a t.
            all-has _ xs y same.1 has a t ∙ sym (lawful.kept x here r lh f a (untouched s x y a (all-has (Apart s x) xs y apart.0 has) t))) in
            let steps : q.steps ≡ r.steps = h.0 in
            rw (now, steps) (ap (plus r.steps) (more r.memory lr rest))
          where
            at-word : (a : ℕ) (b : Bool) → s.writes x a ≡ b → length q.memory ≡ length here → word (laid (s.writes x) q.memory here) a ≡ word r.memory a
            at-word a true is size = laid-own (s.writes x) q.memory here a size is ∙ h.1 a is
            at-word a false is size = laid-base (s.writes x) q.memory here a is ∙ sym (lawful.kept x here r lh f a is)

    pub beside-is : (base : List ℤ) (xs : List X) → length base ≡ s.size → Ordered (Apart s) xs → beside s base xs base ≡ follow s xs base
    beside-is base xs size apart = beside-from base xs base size size apart (all-from _ xs (λ x h a t. refl))

    pub follow-none : (base : List ℤ) (xs : List X) (x : X) → length base ≡ s.size → Ordered (Apart s) xs → Has xs x → s.run x base ≡ None → follow s xs base ≡ None
    follow-none base xs x size apart h e = sym (beside-is base xs size apart) ∙ beside-none base xs base x h e

    pub phases-is : (ps : List (List X)) (m : List ℤ) → length m ≡ s.size → AllByRecursion (Ordered (Apart s)) ps → phases s ps m ≡ follow s (flat ps) m
    phases-is [] m size apart = refl
    phases-is (p ∷ ps) m size apart =
        ap (λ o. and_then o (phases s ps)) (beside-is m p size apart.0)
        ∙ then-same (follow s p m) _ _ (λ r e. phases-is ps r.memory (long-follow s lawful p m r size e) apart.1)
        ∙ sym (follow-append s p (flat ps) m)

  -- phases of tiles of instances
  pub tiled-is : Lawful s → (ps : List (List (List X))) (m : List ℤ) → length m ≡ s.size → AllByRecursion (Ordered (Apart (lists s))) ps → phases (lists s) ps m ≡ follow s (flat (flat ps)) m
  tiled-is lawful ps m size apart = phases-is' ∙ sym (follow-flat s (flat ps) m)
    where
      phases-is' : phases (lists s) ps m ≡ follow (lists s) (flat ps) m
      phases-is' = Rattle.orders.proofs.SideBySideLaws.phases-is (lists s) (lists-lawful s lawful) ps m size apart
