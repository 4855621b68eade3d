-- What observations lead to.
use Rattle.std.proofs.Common.{◌≡◌, refl, sym, ap, subst, ◌∙◌, ℕ, suc, ◌+◌, ◌-◌, ◌<◌, ◌≤◌, pos, Option, Some, None, option_map, List, [], ◌∷◌, ◌++◌, length, take, get_or, append_assoc, w64, to_z, ◌^◌, arith}
use Rattle.std.specs.Prelude.{slice_get, IfSome}
use Rattle.std.specs.List.{All, filter_map}
use Rattle.std.proofs.lemmas.List.{length-take, length-take-le, take_more}
use Rattle.std.proofs.lemmas.Int.{to_z_pos}
use Rattle.std.proofs.lemmas.List.Quantifiers.{position-Some}
use Rattle.std.proofs.lemmas.Option.{none-some}
use Rattle.plain_lemmas.proofs.MembershipLaws.{All-from, All-has}
use Rattle.plain_lemmas.specs.Lists.{Has}
use Rattle.nest_lang.specs.declared.tree.Loop.{Loop}
use Rattle.nest_lang.specs.Traces.{Observation}
use Rattle.domain.specs.Tables.{Table, IsTable}
use Rattle.domain.specs.Shapes.{IsTableOf, LowersWithTrips}
use Rattle.transform.specs.Schedules.{Schedule}
use Rattle.dependence.specs.Legality.{Legal}
use Rattle.legality.specs.declared.refusals.Refusal.{Refusal}
use Rattle.legality.specs.Choices.{Choice, choice, first_legal, is_legal}
use Rattle.legality.specs.Judgements.{refused}
use Rattle.legality.specs.Laws.{IsRefusal}
use Rattle.legality.proofs.NameLaws.{choices_name}
use Rattle.profile.specs.declared.unfit.Unfit.{Unfit}
use Rattle.profile.specs.Fits.{IsFitOf, IsUnfitAt}
use Rattle.profile.proofs.BoundsLaws.{lowers-come-with-trips}
use Rattle.report.specs.declared.line.Line.{Line}
use Rattle.journeys.specs.Settings.{Setting, Moment, observed}
use Rattle.journeys.specs.Tellings.{illegal_line, illegal_lines, unfit_line}
use Rattle.journeys.specs.Stages.AreJudged.{unfit, none_legal, chosen}
use Rattle.controller.specs.declared.stage.Stage.TheVariants.{Chunks, Plainly}
use Rattle.controller.specs.Courses.{IsJudged, NamesPresent}
use Rattle.controller.proofs.CandidateLaws.{filtered-short}

-- ---- refused candidates

illegal-more : (loops : List Loop) (n : ℕ) (rs : List Refusal) (r : Refusal) → illegal_lines loops n (rs ++ r ∷ []) ≡ illegal_lines loops n rs ++ illegal_line loops (n + length rs) r ∷ []
illegal-more loops n [] r = let here : n ≡ n + 0 = omega arith in ap (λ (k : ℕ). illegal_line loops k r ∷ []) here
illegal-more loops n (x ∷ xs) r =
    let here : suc n + length xs ≡ n + suc (length xs) = omega arith in
    ap (λ (ls : List Line). illegal_line loops n x ∷ ls) (illegal-more loops (suc n) xs r ∙ ap (λ (k : ℕ). illegal_lines loops (suc n) xs ++ illegal_line loops k r ∷ []) here)

-- the line of one more refused candidate
pub refusals-told : (loops : List Loop) (rs : List Refusal) (k : ℕ) (d : Refusal) (old before after : List Line) → k < length rs → before ≡ old ++ illegal_lines loops 1 (take k rs)
    → after ≡ before ++ illegal_line loops (k + 1) (get_or rs k d) ∷ [] → after ≡ old ++ illegal_lines loops 1 (take (k + 1) rs)
refusals-told loops rs k d old before after less b a =
    let many : length (take k rs) ≡ k = length-take-le k rs (omega (arith, less)) in
    let here : 1 + length (take k rs) ≡ k + 1 = omega (arith, many) in
    let r = get_or rs k d in
    a
    ∙ ap (λ (ls : List Line). ls ++ illegal_line loops (k + 1) r ∷ []) b
    ∙ append_assoc old (illegal_lines loops 1 (take k rs)) (illegal_line loops (k + 1) r ∷ [])
    ∙ ap (λ (ls : List Line). old ++ ls)
    (sym (ap (illegal_lines loops 1) (take_more rs k d less) ∙ illegal-more loops 1 (take k rs) r ∙ ap (λ (n : ℕ). illegal_lines loops 1 (take k rs) ++ illegal_line loops n r ∷ []) here))

-- each names accesses of present blocks
pub refusals-present : (g : Setting) (t : Table) (L : ℕ) (ch : Choice) → IsTableOf g.scalars g.loops t → ch ≡ choice t (pos L) g.candidates → All (NamesPresent g.loops) ch.refusals
refusals-present g t L ch of is = subst (λ (x : Choice). All (NamesPresent g.loops) x.refusals) (sym is) (All-from (NamesPresent g.loops) (choice t (pos L) g.candidates).refusals named)
  where
    named : (r : Refusal) → Has (choice t (pos L) g.candidates).refusals r → NamesPresent g.loops r
    named r has =
        let names : IsRefusal t r = All-has (IsRefusal t) (choice t (pos L) g.candidates).refusals r (choices_name t (pos L) g.candidates) has in
        record {
          first = subst (λ (n : ℕ). r.first.block < n) of.count names.first.block;
          second = subst (λ (n : ℕ). r.second.block < n) of.count names.second.block;
        }

-- there are no more of them than candidates
filtered-fewer : (t : Table) (L : ℕ) (ss : List Schedule) (n : ℕ) → length (filter_map (refused t (pos L)) (take n ss)) ≤ length ss
filtered-fewer t L ss n = let short = filtered-short (refused t (pos L)) (take n ss) in let least = length-take n ss in omega (arith, short, least)

pub refusals-few : (t : Table) (L : ℕ) (ss : List Schedule) (ch : Choice) → ch ≡ choice t (pos L) ss → length ch.refusals ≤ length ss
refusals-few t L ss ch is = subst (λ (x : Choice). length x.refusals ≤ length ss) (sym is) (filtered-fewer t L ss _)

-- ---- what was chosen

-- the length of chunks is an i64
pub chunk-signed : (n : ℕ) → n ≤ 1024 → to_z w64 n ≡ pos n
chunk-signed n few = let small : n < 2 ^ 63 = omega (arith, few) in to_z_pos w64 n small

suc-of : (o : Option ℕ) (number : ℕ) → option_map suc o ≡ Some number → (k : ℕ) × (o ≡ Some k) × (number ≡ suc k)
suc-of None number e = absurd (none-some number e)
suc-of (Some k) number e = (k, refl, cc)

-- its number is that of a candidate
pub record IsNumberOf (ss : List Schedule) (number : ℕ) : Type 0 where
  pub from : 1 ≤ number
  pub to : number ≤ length ss

pub legal-number : (t : Table) (L : ℕ) (ss : List Schedule) (number : ℕ) → (choice t (pos L) ss).legal ≡ Some number → IsNumberOf ss number
legal-number t L ss number is =
    let (k, found, next) = suc-of (first_legal t (pos L) ss) number is in
    let less = (position-Some (is_legal t (pos L)) ss k (record { lines = []; seq = 0 }) found).0 in
    record { from = omega (arith, next); to = omega (arith, next, less) }

legal-at : (ss : List Schedule) (P : Schedule → Type 0) (k : ℕ) → IfSome (slice_get ss k) P → (s : Schedule) → slice_get ss k ≡ Some s → P s
legal-at ss P k h s is = subst (λ (o : Option Schedule). IfSome o P) is h

-- the fit of what some turns show has a lower bound where it has a trip
pub fit-lowers : (g : Setting) (m : Moment) (c : ℕ) (t : Table) → IsFitOf (length g.loops) g.scalars g.loops (observed g m c) t → LowersWithTrips t
fit-lowers g m c t fit = lowers-come-with-trips (length g.loops) g.scalars (m.left + 1) c m.left g.loops m.outer m.store t fit

module _ (g : Setting) (t : Table) (ch : Choice) (is : ch ≡ choice t (pos g.chunk) g.candidates) (before lines : List Line) (are : lines ≡ before ++ illegal_lines g.loops 1 ch.refusals)
    (m : Moment) (c : ℕ) (fit : IsFitOf (length g.loops) g.scalars g.loops (observed g m c) t) where
  told-all : lines ≡ before ++ illegal_lines g.loops 1 (choice t (pos g.chunk) g.candidates).refusals
  told-all = are ∙ ap (λ (x : Choice). before ++ illegal_lines g.loops 1 x.refusals) is

  legal-is : (o : Option ℕ) → ch.legal ≡ o → (choice t (pos g.chunk) g.candidates).legal ≡ o
  legal-is o e = ap (λ (x : Choice). x.legal) (sym is) ∙ e

  -- turns in original order follow where none is legal
  pub none-judged : (D : ℕ) → ch.legal ≡ None → 1 ≤ g.chunk → IsJudged {D = D} g (observed g m c) before (Plainly g.chunk) lines
  none-judged D none some = record {
    told = illegal_lines g.loops 1 (choice t (pos g.chunk) g.candidates).refusals;
    are = told-all;
    judged = none_legal t fit (legal-is None none);
    due = some;
  }

  -- chunks follow by the first legal one
  pub chosen-judged : (D number : ℕ) → IsTable (length g.loops) t → ch.legal ≡ Some number → IfSome ch.legal (λ n. IfSome (slice_get g.candidates (n - 1)) (λ s. Legal t s (pos g.chunk)))
      → IsJudged {D = D} g (observed g m c) before (Chunks (record { pred = t; number = number })) lines
  chosen-judged D number shape at legal =
      let which = legal-number t g.chunk g.candidates number (legal-is (Some number) at) in
      let kept : IfSome (slice_get g.candidates (number - 1)) (λ s. Legal t s (pos g.chunk)) = subst (λ (o : Option ℕ). IfSome o (λ n. IfSome (slice_get g.candidates (n - 1)) (λ s. Legal t s (pos g.chunk)))) at legal in
      record {
        told = illegal_lines g.loops 1 (choice t (pos g.chunk) g.candidates).refusals;
        are = told-all;
        judged = chosen t number fit (legal-is (Some number) at);
        due = record {
          shape = shape;
          table = fit.shape;
          lowers = fit-lowers g m c t fit;
          from = which.from;
          to = which.to;
          legal = legal-at g.candidates (λ s. Legal t s (pos g.chunk)) (number - 1) kept;
        };
      }

-- ---- a datum without a form

-- turns in original order follow the line of the first
pub unfit-judged : {D : ℕ} (g : Setting) (observations : List Observation) (u : Unfit D) (before lines : List Line) → length g.loops ≡ D → 1 ≤ g.chunk → IsUnfitAt D g.scalars g.loops observations u
    → lines ≡ before ++ unfit_line g.loops u ∷ [] → IsJudged {D = D} g observations before (Plainly g.chunk) lines
unfit-judged {D} g observations u before lines deep some h are =
    subst (λ (n : ℕ). (v : Unfit n) → IsUnfitAt n g.scalars g.loops observations v → lines ≡ before ++ unfit_line g.loops v ∷ [] → IsJudged {D = D} g observations before (Plainly g.chunk) lines) deep judged u h are
  where
    judged : (v : Unfit (length g.loops)) → IsUnfitAt (length g.loops) g.scalars g.loops observations v → lines ≡ before ++ unfit_line g.loops v ∷ [] → IsJudged {D = D} g observations before (Plainly g.chunk) lines
    judged v at told = record { told = unfit_line g.loops v ∷ []; are = told; judged = unfit v at; due = some }
