-- How an announcement goes on.
use Rattle.std.proofs.Common.{◌≡◌, refl, ap, sym, ◌∙◌, ℕ, suc, ◌<◌, ◌≤◌, ◌+◌, ℤ, pos, List, [], ◌∷◌, length, drop, get_or, arith, rules, add-one}
use Rattle.std.proofs.lemmas.List.{drop_all, drop_more}
use Rattle.nest_lang.specs.declared.observe.Seen.TheVariants.{Start}
use Rattle.nest_lang.specs.declared.observe.Seen.TheVariants as see
use Rattle.nest_lang.specs.Lookups.{Expectation, plain}
use Rattle.nest_lang.specs.Stores.{store_of}
use Rattle.nest_lang.specs.Traces.{Observation}
use Rattle.nest_lang.specs.Expressions.{Frame, shown}
use Rattle.nest_lang.specs.Statements.{announced, scalars_from}
use Rattle.block_exec.specs.declared.site.Site.{Site}
use Rattle.block_exec.specs.Watches.{Chain}
use Rattle.block_exec.specs.Sites.{frame_at}

pub announce-first : {W : Type 0} (may : W → Observation → W → Type 0) (f : Frame) (scalars : List ℤ) (a b w : W) → may a (shown f Start (pos 0)) b → Chain may b (scalars_from f 0 scalars) w → Chain may a (announced f (store_of [] scalars [])) w
unfolding announced
announce-first may f scalars a b w step rest = (b, step, rest)

pub announce-next : {W : Type 0} (may : W → Observation → W → Type 0) (f : Frame) (scalars : List ℤ) (i : ℕ) (x : ℤ) (a b w : W) → i < length scalars → x ≡ get_or scalars i x → may a (shown f (see.Scalar i) x) b → Chain may b (scalars_from f (i + 1) (drop (i + 1) scalars)) w → Chain may a (scalars_from f i (drop i scalars)) w
announce-next may f scalars i x a b w h e step rest =
    let d : drop i scalars ≡ x ∷ drop (i + 1) scalars = drop_more scalars i x h ∙ ap (λ y. y ∷ drop (i + 1) scalars) (sym e) in
    let n : suc i ≡ i + 1 = omega arith in
    rw (d, n) (b, step, rest)

pub announce-end : {W : Type 0} (may : W → Observation → W → Type 0) (f : Frame) (scalars : List ℤ) (i : ℕ) (w : W) → length scalars ≤ i → Chain may w (scalars_from f i (drop i scalars)) w
announce-end may f scalars i w h = rw (drop_all i scalars h) refl

-- what is announced are the scalars alone
pub announced-scalars : (site : Site) (x : Expectation) (memory scalars locals : List ℤ) → announced (frame_at site x) (store_of memory scalars locals) ≡ announced (frame_at site plain) (store_of [] scalars [])
unfolding announced
announced-scalars site x memory scalars locals = refl

pub ruleset announces = (announce-first, announce-next, announce-end)
