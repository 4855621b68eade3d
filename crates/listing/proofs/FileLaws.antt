-- What holds of the nests of a file that some text reads as.
use Rattle.std.proofs.Common.{◌≡◌, ℕ, ◌<◌, ◌≤◌, List, [], ◌∷◌, length, length-append, subst, true, nat_le, arith}
use Rattle.std.specs.List.{All}
use Rattle.std.proofs.lemmas.List.Elements.{All-head, All-nil, All-push, All-tail}
use Rattle.plain_lemmas.proofs.MembershipLaws.{All-from, All-has}
use Rattle.std.proofs.lemmas.Bool.{and_parts}
use Rattle.nest_lang.specs.declared.tree.Loop.{Loop}
use Rattle.nest_lang.specs.Rules.{NestKeeps, loop_keeps, loops_keep}
use Rattle.nest_grammar.specs.declared.version.Version.{Version}
use Rattle.nest_grammar.specs.declared.file.File.{File}
use Rattle.nest_grammar.specs.declared.file.NestUnit.{NestUnit}
use Rattle.nest_grammar.specs.Scripts.{Script}
use Rattle.nest_grammar.specs.Sights.{Sight}
use Rattle.nest_grammar.specs.Names.{Names}
use Rattle.nest_grammar.specs.Grammar.{IsCandidates, IsUnit, IsUnits, Reads}
use Rattle.nest_grammar.specs.Grammar as grammar
use Rattle.nest_grammar.proofs.ContentLaws.{reading-reads}
use Rattle.nest_grammar.proofs.RuleLaws.{reading-keeps}
use Rattle.nest_text.specs.Files.{IsOfText}
use Rattle.listing.specs.Parts.{IsUnitOf}

abbrev HasFew : NestUnit → Type 0
HasFew u = length u.scripts ≤ 16

candidates-few : {depth : ℕ} {s t : Sight} {scripts : List Script} → IsCandidates depth s scripts t → length scripts ≤ 16
candidates-few grammar.none = omega arith
candidates-few (grammar.more {scripts} {cs} i h l j) = let e = length-append scripts (cs ∷ []) in omega (arith, e, l)

unit-few : {v : Version} {names : Names} {s t : Sight} {u : NestUnit} → IsUnit v names s u t → HasFew u
unit-few (grammar.unit i j) = candidates-few j

units-few : {names : Names} {v : Version} {s t : Sight} {us : List NestUnit} → IsUnits names v s us t → All HasFew us
units-few (grammar.one {n = n} i) = All-push HasFew [] n (All-nil HasFew) (unit-few i)
units-few (grammar.more {ns} {n} i l j) = All-push HasFew ns n (units-few i) (unit-few j)

reads-few : (text : List ℕ) (file : File) → Reads text file → All HasFew file.units
reads-few text _ (grammar.file l iv ic m n b ii iu e) = units-few iu

-- the nests of such a file
pub record AreUnitsOf (file : File) : Type 0 where
  pub scalars : length file.scalars ≤ 16
  pub count : length file.units ≤ 8
  pub each : All (IsUnitOf (length file.scalars)) file.units

pub units-of_text : (file : File) → IsOfText file → AreUnitsOf file
units-of_text file of =
    let keeps = reading-keeps of.0 file of.1 in
    let few = reads-few of.0 file (reading-reads of.0 file of.1) in
    record {
      scalars = keeps.few_scalars;
      count = keeps.few_nests;
      each = All-from (IsUnitOf (length file.scalars)) file.units
          (λ u h. record {
            few = keeps.few_scalars;
            keeps = All-has (λ (v : NestUnit). NestKeeps (length file.scalars) v.nest.loops) file.units u keeps.nests_keep h;
            candidates = All-has HasFew file.units u few h;
          });
    }

-- the loops of a nest that keeps the rules are one to six
pub loops_keep-count : (loops : List Loop) → loops_keep loops ≡ true → (0 < length loops) × (length loops < 7)
unfolding loops_keep
loops_keep-count [] h = absurd (cc)
loops_keep-count (l ∷ ls) h = let few : nat_le (length ls) 5 ≡ true = (and_parts (nat_le (length ls) 5) (loop_keeps l ls) h).0 in (omega arith, grind (arith, few))

-- the first of some nests, and those behind it
pub first-unit : (scalars : ℕ) (units later : List NestUnit) (unit : NestUnit) → units ≡ unit ∷ later → All (IsUnitOf scalars) units → IsUnitOf scalars unit
first-unit scalars units later unit e all = All-head (IsUnitOf scalars) unit later (subst (All (IsUnitOf scalars)) e all)

pub later-units : (scalars : ℕ) (units later : List NestUnit) (unit : NestUnit) → units ≡ unit ∷ later → All (IsUnitOf scalars) units → All (IsUnitOf scalars) later
later-units scalars units later unit e all = All-tail (IsUnitOf scalars) unit later (subst (All (IsUnitOf scalars)) e all)
