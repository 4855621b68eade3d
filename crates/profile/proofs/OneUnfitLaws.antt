-- Observations have at most one first datum that has no fit.
use Rattle.std.proofs.Common.{◌≡◌, sym, ap, subst, ◌∙◌, ℕ, ◌<◌, ◌⊎◌, inl, inr, ℤ, List, slice_get, Option, Some, arith}
use Rattle.nest_lang.specs.declared.tree.BlockRef.{BlockRef}
use Rattle.nest_lang.specs.declared.tree.Loop.{Loop}
use Rattle.nest_lang.specs.Blocks.{present_blocks}
use Rattle.nest_lang.specs.Traces.{Observation}
use Rattle.line_fit.specs.Samples.{Sample}
use Rattle.line_fit.specs.Lines.{Miss, Tube}
use Rattle.line_fit.proofs.SomeFit.{reason-one}
use Rattle.domain.specs.declared.prediction.What.{What}
use Rattle.profile.specs.declared.unfit.Unfit.{Unfit}
use Rattle.profile.specs.declared.unfit.UnfitWhy.{UnfitWhy}
use Rattle.profile.specs.declared.unfit.UnfitWhy.TheVariants as why
use Rattle.profile.specs.Data.{data_of, samples_at, widest}
use Rattle.profile.specs.Fits.{HasFitAt, IsUnfitAt, IsUnfitBy, IsUnfitIn}
use Rattle.profile.specs.Laws.{OneFirstUnfit}
use Rattle.profile.proofs.FitLaws.{not-both}

-- samples have one reason why they have no fit
reasons-same : (D rank most : ℕ) (samples : List Sample) (a b : UnfitWhy D) → IsUnfitBy D rank most samples a → IsUnfitBy D rank most samples b → a ≡ b
reasons-same D rank most samples (why.Large m) (why.Large n) one two = ap (λ (z : ℤ). why.Large z) ((reason-one D most samples).0 m n one.1 two.1)
reasons-same D rank most samples (why.Large m) (why.Line at line seen) one two = absurd ((reason-one D most samples).1 m (record { at = at.at; line = line; seen = seen }) one.1 two.2)
reasons-same D rank most samples (why.Line at line seen) (why.Large n) one two = absurd ((reason-one D most samples).1 n (record { at = at.at; line = line; seen = seen }) two.1 one.2)
reasons-same D rank most samples (why.Line at line seen) (why.Line at' line' seen') one two =
    let same = (reason-one D most samples).2 (record { at = at.at; line = line; seen = seen }) (record { at = at'.at; line = line'; seen = seen' }) one.2 two.2 in
    ap (λ (z : ℕ). why.Line (record { block = z; at = at.at }) line seen) (one.1 ∙ sym two.1)
    ∙ ap (λ (m : Miss). why.Line (record { block = at'.block; at = m.at }) m.line m.seen) same

compared : (a b : ℕ) → (a < b) ⊎ ((a ≡ b) ⊎ (b < a))
compared a b = grind arith

module _ (D scalars : ℕ) (loops : List Loop) (observations : List Observation) where
  -- the datum isn't among those with a fit
  unfit-not : (rank : ℕ) (block : BlockRef) (u : Unfit D) → IsUnfitIn D observations rank block (data_of scalars loops block) u → ((fit : Option Tube) × HasFitAt D observations block u.what fit) → ⊥
  unfit-not rank block u is (fit, has) = not-both D rank (widest u.what) (samples_at D observations block u.what) fit u.why has is.why

  abbrev unfit-of : ℕ → What → UnfitWhy D → Unfit D
  unfit-of block what reason = record { block = block; what = what; why = reason }

  in-block : (block : BlockRef) (u v : Unfit D) → u.block ≡ v.block → IsUnfitIn D observations u.block block (data_of scalars loops block) u → IsUnfitIn D observations v.block block (data_of scalars loops block) v → u ≡ v
  in-block block u v same one two = elim (compared one.place two.place) [
    | inl less ↦ absurd (unfit-not u.block block u one (two.before one.place u.what less one.datum))
    | inr rest ↦ elim rest [
      | inl here ↦
          let what : u.what ≡ v.what = (let e : Some u.what ≡ Some v.what = sym one.datum ∙ ap (λ (k : ℕ). slice_get (data_of scalars loops block) k) here ∙ two.datum in cc) in
          let other : IsUnfitBy D u.block (widest u.what) (samples_at D observations block u.what) v.why =
          subst (λ (r : ℕ). IsUnfitBy D r (widest u.what) (samples_at D observations block u.what) v.why) (sym same) (subst (λ (w : What). IsUnfitBy D v.block (widest w) (samples_at D observations block w) v.why) (sym what) two.why) in
          let reason = reasons-same D u.block (widest u.what) (samples_at D observations block u.what) u.why v.why one.why other in
          ap (λ (r : ℕ). unfit-of r u.what u.why) same ∙ ap (λ (w : What). unfit-of v.block w u.why) what ∙ ap (λ (z : UnfitWhy D). unfit-of v.block v.what z) reason
      | inr more ↦ absurd (unfit-not v.block block v two (one.before two.place v.what more two.datum))
    ]
  ]

  unfit-same : (u v : Unfit D) → IsUnfitAt D scalars loops observations u → IsUnfitAt D scalars loops observations v → u ≡ v
  unfit-same u v one two = elim (compared u.block v.block) [
    | inl less ↦ absurd (unfit-not u.block one.block u one.first (two.before u.block one.block less one.present one.first.place u.what one.first.datum))
    | inr rest ↦ elim rest [
      | inl same ↦
          let block : one.block ≡ two.block = (let e : Some one.block ≡ Some two.block = sym one.present ∙ ap (λ (k : ℕ). slice_get (present_blocks loops) k) same ∙ two.present in cc) in
          in-block one.block u v same one.first (subst (λ (b : BlockRef). IsUnfitIn D observations v.block b (data_of scalars loops b) v) (sym block) two.first)
      | inr more ↦ absurd (unfit-not v.block two.block v two.first (one.before v.block two.block more two.present two.first.place v.what two.first.datum))
    ]
  ]

pub one-first-unfit : OneFirstUnfit
one-first-unfit = unfit-same
