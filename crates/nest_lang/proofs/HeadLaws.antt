-- What each head yields and shows.
use Rattle.std.proofs.Common.{◌≡◌, refl, ℤ, pos, [], ◌∷◌, Ok, not}
use Rattle.nest_lang.specs.declared.tree.Expr.{Expr}
use Rattle.nest_lang.specs.declared.tree.Head.TheVariants.{For, While}
use Rattle.nest_lang.specs.declared.observe.Seen.TheVariants.{Lower, Trip, Condition}
use Rattle.nest_lang.specs.Values.{same, trip_count}
use Rattle.nest_lang.specs.Stores.{Store}
use Rattle.nest_lang.specs.Expressions.{Frame, shown, told}
use Rattle.nest_lang.specs.Heads.{Bounds, Tested, heading, then_head, as_number, head_of}

pub head-for : (f : Frame) (lower upper : Expr) (stride : ℤ) (s : Store) → head_of f (For lower upper stride) s ≡ then_head (told f s lower).seen (told f s lower).value (λ from. then_head (told f s upper).seen (told f s upper).value (λ to. heading (shown f Lower from ∷ shown f Trip (pos (trip_count from to stride)) ∷ []) (Ok (Bounds from (trip_count from to stride)))))
unfolding head_of
head-for f lower upper stride s = refl

pub head-while : (f : Frame) (condition : Expr) (s : Store) → head_of f (While condition) s ≡ then_head (told f s condition).seen (told f s condition).value (λ v. heading (shown f Condition (as_number (not (same v (pos 0)))) ∷ []) (Ok (Tested (not (same v (pos 0))))))
unfolding head_of
head-while f condition s = refl

pub ruleset heads = (head-for, head-while)
