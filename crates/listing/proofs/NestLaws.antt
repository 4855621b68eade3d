-- Lines of a nest, and of several.
use Rattle.std.proofs.Common.{◌≡◌, refl, sym, ap, subst, ◌∙◌, ℕ, suc, List, [], ◌∷◌, ◌++◌, length, append_assoc, append-nil, arith}
use Rattle.nest_lang.specs.declared.budget.Ending.{Ending}
use Rattle.nest_lang.specs.declared.budget.Ending.TheVariants as ending
use Rattle.nest_lang.specs.Stores.{Store}
use Rattle.nest_lang.specs.Runs.{finish_of_ending}
use Rattle.nest_lang.specs.Traces.{Trace, Finish, Done, Halted, Limited, Cut, cut, cut_of}
use Rattle.nest_grammar.specs.declared.file.NestUnit.{NestUnit}
use Rattle.nest_grammar.specs.declared.version.Version.{Version}
use Rattle.report.specs.declared.journey.Options.{Options}
use Rattle.report.specs.declared.line.ListingLine.{ListingLine}
use Rattle.listing.specs.Listings.{AreNestLines, AreNestsLines, heading, run_of_nest, where_done}
use Rattle.listing.specs.Parts.{Adds}

-- what the budget has used doesn't matter for a run
pub record RunIs (u : Store) (left' : ℕ) (e : Finish) (c : Cut) : Type 0 where
  pub store : u ≡ c.store
  pub left : left' ≡ c.left
  pub ending : e ≡ c.ending

pub run-is : (t : Trace) (s u : Store) (left used left' used' : ℕ) (e : Finish) → cut_of u left' used' e ≡ cut t s left used → RunIs u left' e (cut t s left 0)
unfolding cut
run-is t s u left used left' used' e h = record {
  store = ap (λ (c : Cut). c.store) h;
  left = ap (λ (c : Cut). c.left) h;
  ending = ap (λ (c : Cut). c.ending) h;
}

-- what follows a nest, where its run is done, or isn't
done-follows : (e : Finish) (A B : Type 0) → e ≡ Done → A → where_done e A B
done-follows Done A B is a = a
done-follows (Halted halt) A B is a = absurd (cc)
done-follows Limited A B is a = absurd (cc)

stopped-ends : (e : Finish) (A B : Type 0) → (e ≡ Done → ⊥) → B → where_done e A B
stopped-ends Done A B out b = absurd (out refl)
stopped-ends (Halted halt) A B out b = b
stopped-ends Limited A B out b = b

both-end : (e : Finish) (A B : Type 0) → A → B → where_done e A B
both-end Done A B a b = a
both-end (Halted halt) A B a b = b
both-end Limited A B a b = b

only-ended : (x : Ending) → finish_of_ending x ≡ Done → x ≡ ending.Ended
only-ended ending.Ended h = refl
only-ended (ending.Trapped trap) h = absurd (cc)
only-ended ending.Limited h = absurd (cc)

module _ (options : Options) (version : Version) (scalars : ℕ) (unit : NestUnit) (number : ℕ) (s : Store) (left : ℕ) (old one two : List ListingLine)
    (headed : one ≡ old ++ heading version number) (own : Adds (AreNestLines options scalars unit s left) one two) where
  abbrev Follow : List NestUnit → List ListingLine → Type 0
  Follow later rest = AreNestsLines options version scalars later (suc number) (run_of_nest unit s left).store (run_of_nest unit s left).left rest

  abbrev Nothing : List ListingLine → Type 0
  Nothing rest = rest ≡ []

  -- lines behind those of the nest
  behind : (rest new : List ListingLine) → new ≡ two ++ rest → new ≡ old ++ (heading version number ++ (own.0 ++ rest))
  behind rest new e =
      e
      ∙ ap (λ (ls : List ListingLine). ls ++ rest) (own.2 ∙ ap (λ (ls : List ListingLine). ls ++ own.0) headed)
      ∙ append_assoc (old ++ heading version number) own.0 rest
      ∙ append_assoc old (heading version number) (own.0 ++ rest)

  abbrev pub Listed : List NestUnit → List ListingLine → Type 0
  Listed units new = Adds (AreNestsLines options version scalars units number s left) old new

  alone : Listed (unit ∷ []) two
  alone = (
    heading version number ++ (own.0 ++ []),
    (own.0, [], own.1, both-end (run_of_nest unit s left).ending (Follow [] []) (Nothing []) refl refl, refl),
    behind [] two (sym (append-nil two)),
  )

  none-later : (xs : List NestUnit) → length xs ≡ 0 → unit ∷ xs ≡ unit ∷ []
  none-later [] e = refl
  none-later (x ∷ xs) e = absurd (omega (arith, e))

  -- the last nest
  pub last-added : (units later : List NestUnit) → units ≡ unit ∷ later → length later ≡ 0 → Listed units two
  last-added units later split none = subst (λ (us : List NestUnit). Listed us two) (sym (split ∙ none-later later none)) alone

  module _ (units later : List NestUnit) (split : units ≡ unit ∷ later) (u : Store) (left' : ℕ) (e : Ending) (ran : RunIs u left' (finish_of_ending e) (run_of_nest unit s left)) where
    -- a nest whose run isn't done
    stopped : (e ≡ ending.Ended → ⊥) → Listed (unit ∷ later) two
    stopped out = (
      heading version number ++ (own.0 ++ []),
      (own.0, [], own.1, stopped-ends (run_of_nest unit s left).ending (Follow later []) (Nothing []) (λ done. out (only-ended e (ran.ending ∙ done))) refl, refl),
      behind [] two (sym (append-nil two)),
    )

    -- a nest whose run is done, and those behind it
    followed : (next : ℕ) (new : List ListingLine) → e ≡ ending.Ended → next ≡ suc number → Adds (AreNestsLines options version scalars later next u left') two new → Listed (unit ∷ later) new
    followed next new ended is rest = (
      heading version number ++ (own.0 ++ rest.0),
      (
        own.0,
        rest.0,
        own.1,
        done-follows (run_of_nest unit s left).ending (Follow later rest.0) (Nothing rest.0) (sym ran.ending ∙ ap finish_of_ending ended) moved,
        refl,
      ),
      behind rest.0 new rest.2,
    )
      where
        moved : Follow later rest.0
        moved =
            subst (λ (n : ℕ). AreNestsLines options version scalars later n (run_of_nest unit s left).store (run_of_nest unit s left).left rest.0) is
            (subst (λ (n : ℕ). AreNestsLines options version scalars later next (run_of_nest unit s left).store n rest.0) ran.left
            (subst (λ (x : Store). AreNestsLines options version scalars later next x left' rest.0) ran.store rest.1))

    pub stopped-added : (e ≡ ending.Ended → ⊥) → Listed units two
    stopped-added out = subst (λ (us : List NestUnit). Listed us two) (sym split) (stopped out)

    pub next-added : (next : ℕ) (new : List ListingLine) → e ≡ ending.Ended → next ≡ suc number → Adds (AreNestsLines options version scalars later next u left') two new → Listed units new
    next-added next new ended is rest = subst (λ (us : List NestUnit). Listed us new) (sym split) (followed next new ended is rest)
