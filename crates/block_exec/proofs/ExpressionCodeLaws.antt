-- What the code of expressions comes to.
use Rattle.std.proofs.Common.{◌≡◌, ◌≢◌, refl, ap, sym, ◌∙◌, ℕ, zero, suc, ◌<◌, ◌≤◌, ◌+◌, ◌⊎◌, inl, inr, ℤ, pos, List, [], ◌∷◌, ◌++◌, length, get_or, slice_get, append-nil, append_assoc, Option, Some, None, Result, Ok, Err, arith}
use Rattle.std.proofs.lemmas.List.{get_or-set_same, get_or-set_other, length-set}
use Rattle.nest_lang.specs.declared.tree.Expr.{Expr}
use Rattle.nest_lang.specs.declared.tree.Expr.TheVariants.{Number, Var, Load, Neg, Two}
use Rattle.nest_lang.specs.declared.tree.Op.{Op}
use Rattle.nest_lang.specs.declared.tree.Place.{Place}
use Rattle.nest_lang.specs.declared.tree.Place.TheVariants as place
use Rattle.nest_lang.specs.declared.observe.Stop.{Stop}
use Rattle.nest_lang.specs.declared.observe.Seen.TheVariants.{Address}
use Rattle.nest_lang.specs.Values.{apply_of, negate_of}
use Rattle.nest_lang.specs.Traces.{Observation, Halt}
use Rattle.nest_lang.specs.Expressions.{Frame, shown, Told, telling, then_tell, told_by, or_trapped, or_stopped, place_value}
use Rattle.nest_lang.proofs.ExpressionLaws.{told_by-number, told_by-var, told_by-load, told_by-neg, told_by-two}
use Rattle.block_exec.specs.declared.code.Input.{Input}
use Rattle.block_exec.specs.declared.code.Input.TheVariants as input
use Rattle.block_exec.specs.declared.code.Instruction.{Instruction}
use Rattle.block_exec.specs.declared.code.Instruction.TheVariants as instruction
use Rattle.block_exec.specs.Codes.{held, input_value, Gone, gone, set_to, then_go, instruction_gone, instructions_gone}
use Rattle.block_exec.specs.Coded.{HoldInputs, Begins, IsSpared, SparedSame, Leaves, RunsTo, IsCode, IsOperation}

then-then : (seen : List Observation) (r : Result (List ℤ) Halt) (g h : List ℤ → Gone) → then_go (then_go seen r g).seen (then_go seen r g).registers h ≡ then_go seen r (λ t. then_go (g t).seen (g t).registers h)
then-then seen (Err halt) g h = refl
then-then seen (Ok t) g h = at (g t).seen (g t).registers
  where
    at : (more : List Observation) (q : Result (List ℤ) Halt) → then_go (seen ++ more) q h ≡ gone (seen ++ (then_go more q h).seen) (then_go more q h).registers
    at more (Err halt) = refl
    at more (Ok u) = ap (λ z. gone z (h u).registers) (append_assoc seen more (h u).seen)

then-same : (seen : List Observation) (r : Result (List ℤ) Halt) (g h : List ℤ → Gone) → ((t : List ℤ) → g t ≡ h t) → then_go seen r g ≡ then_go seen r h
then-same seen (Err halt) g h same = refl
then-same seen (Ok t) g h same = ap (λ k. gone (seen ++ k.seen) k.registers) (same t)

-- inputs in front of others

get-front : (xs ys : List Input) (i : ℕ) (x : Input) → slice_get xs i ≡ Some x → slice_get (xs ++ ys) i ≡ Some x
get-front [] ys i x e = grind arith
get-front (y ∷ xs) ys zero x e = e
get-front (y ∷ xs) ys (suc i) x e = get-front xs ys i x e

pub begins-same : (xs : List Input) → Begins xs xs
begins-same xs = ([], sym (append-nil xs))

pub begins-trans : (xs ys zs : List Input) → Begins xs ys → Begins ys zs → Begins xs zs
begins-trans xs ys zs a b = (a.0 ++ b.0, b.1 ∙ ap (λ z. z ++ b.0) a.1 ∙ append_assoc xs a.0 b.0)

hold-front : (values rs : List ℤ) (inputs all : List Input) → Begins inputs all → HoldInputs values all rs → HoldInputs values inputs rs
hold-front values rs inputs all begins hold i x is = hold i x (ap (λ z. slice_get z i) begins.1 ∙ get-front inputs begins.0 i x is)

pub code-more : (inputs all : List Input) (e : Expr) (d : ℕ) (ps : List Instruction) (o : ℕ) → Begins inputs all → IsCode inputs e d ps o → IsCode all e d ps o
code-more inputs all e d ps o begins code = record {
  runs = λ f scalars locals find rs size hold. code.runs f scalars locals find rs size (hold-front f.values rs inputs all begins hold);
  stays = code.stays;
}

-- registers that are spared

spared-more : (d n i : ℕ) → d ≤ n → IsSpared d i → IsSpared n i
spared-more d n i low (inl h) = inl (omega (arith, h, low))
spared-more d n i low (inr h) = inr h

spared-other : (d i : ℕ) → d < 128 → IsSpared d i → i ≢ d
spared-other d i room (inl h) e = omega (arith, h, e)
spared-other d i room (inr h) e = omega (arith, h, room, e)

spared-own : (d : ℕ) → IsSpared (suc d) d
spared-own d = inl (omega arith)

pub hold-on : (values rs t : List ℤ) (inputs : List Input) (d : ℕ) → SparedSame d rs t → HoldInputs values inputs rs → HoldInputs values inputs t
hold-on values rs t inputs d same hold i x is =
    let past : 128 ≤ 128 + i = omega arith in
    sym (same (128 + i) (inr past)) ∙ hold i x is

module _ (f : Frame) (scalars locals : List ℤ) (find : ℕ → ℤ → Result ℤ Stop) where
  pub instructions-append : (ps qs : List Instruction) (t : List ℤ) → instructions_gone f scalars locals find (ps ++ qs) t ≡ then_go (instructions_gone f scalars locals find ps t).seen (instructions_gone f scalars locals find ps t).registers (instructions_gone f scalars locals find qs)
  unfolding instructions_gone
  instructions-append [] qs t = refl
  instructions-append (p ∷ ps) qs t =
      then-same (instruction_gone f scalars locals find p t).seen (instruction_gone f scalars locals find p t).registers _ _ (instructions-append ps qs)
      ∙ sym (then-then (instruction_gone f scalars locals find p t).seen (instruction_gone f scalars locals find p t).registers (instructions_gone f scalars locals find ps) (instructions_gone f scalars locals find qs))

  -- the last instruction sets register d
  one-leaves : (p : Instruction) (rs t : List ℤ) (d : ℕ) (os : List Observation) (x : Result ℤ Halt) → instruction_gone f scalars locals find p t ≡ gone os (set_to t d x) → length t ≡ 256 → d < 128 → SparedSame d rs t
      → ((instructions_gone f scalars locals find (p ∷ []) t).seen ≡ os) × Leaves rs d d (instructions_gone f scalars locals find (p ∷ []) t).registers x
  unfolding instructions_gone
  one-leaves p rs t d os (Err h) is size room agree = rw is (refl, refl)
  one-leaves p rs t d os (Ok w) is size room agree =
      let within : d < length t = rw size omega (arith, room) in
      rw is (
        append-nil os,
        (
          get_or-set_same t d w (pos 0) within,
          λ i h. agree i h ∙ sym (get_or-set_other t d i w (pos 0) (spared-other d i room h)),
          length-set t d w ∙ size,
        ),
      )

  unary-at : (rs : List ℤ) (d n o : ℕ) (p : Instruction) (os : ℤ → List Observation) (x : ℤ → Result ℤ Halt) → d ≤ n → d < 128
      → ((t : List ℤ) → SparedSame n rs t → instruction_gone f scalars locals find p t ≡ gone (os (held t o)) (set_to t d (x (held t o))))
      → (sg st : List Observation) (r : Result (List ℤ) Halt) (v : Result ℤ Halt) → sg ≡ st → Leaves rs n o r v
      → ((then_go sg r (instructions_gone f scalars locals find (p ∷ []))).seen ≡ (then_tell st v (λ y. telling (os y) (x y))).seen) × Leaves rs d d (then_go sg r (instructions_gone f scalars locals find (p ∷ []))).registers (then_tell st v (λ y. telling (os y) (x y))).value
  unary-at rs d n o p os x low room is sg st (Err k) (Err h) same leaves = (same, leaves)
  unary-at rs d n o p os x low room is sg st (Err k) (Ok v) same leaves = absurd leaves
  unary-at rs d n o p os x low room is sg st (Ok t) (Err h) same leaves = absurd leaves
  unary-at rs d n o p os x low room is sg st (Ok t) (Ok v) same leaves =
      let below : SparedSame d rs t = λ i h. leaves.1 i (spared-more d n i low h) in
      let here : instruction_gone f scalars locals find p t ≡ gone (os v) (set_to t d (x v)) = is t leaves.1 ∙ ap (λ y. gone (os y) (set_to t d (x y))) leaves.0 in
      let one = one-leaves p rs t d (os v) (x v) here leaves.2 room below in
      (ap (λ z. z ++ (instructions_gone f scalars locals find (p ∷ []) t).seen) same ∙ ap (λ z. st ++ z) one.0, one.1)

  unary : (rs : List ℤ) (d n : ℕ) (ps : List Instruction) (o : ℕ) (a : Told) (p : Instruction) (os : ℤ → List Observation) (x : ℤ → Result ℤ Halt) → d ≤ n → d < 128
      → ((t : List ℤ) → SparedSame n rs t → instruction_gone f scalars locals find p t ≡ gone (os (held t o)) (set_to t d (x (held t o))))
      → RunsTo f scalars locals find rs n ps o a → RunsTo f scalars locals find rs d (ps ++ p ∷ []) d (then_tell a.seen a.value (λ y. telling (os y) (x y)))
  unary rs d n ps o a p os x low room is runs =
      rw (instructions-append ps (p ∷ []) rs) (unary-at rs d n o p os x low room is (instructions_gone f scalars locals find ps rs).seen a.seen (instructions_gone f scalars locals find ps rs).registers a.value runs.0 runs.1)

  -- what is spared from one to another, and on
  leaves-on : (rs t : List ℤ) (d o : ℕ) (r : Result (List ℤ) Halt) (v : Result ℤ Halt) → SparedSame d rs t → Leaves t d o r v → Leaves rs d o r v
  leaves-on rs t d o (Err k) (Err h) agree leaves = leaves
  leaves-on rs t d o (Err k) (Ok v) agree leaves = leaves
  leaves-on rs t d o (Ok u) (Err h) agree leaves = leaves
  leaves-on rs t d o (Ok u) (Ok v) agree leaves = (leaves.0, λ i h. agree i h ∙ leaves.1 i h, leaves.2)

  binary-at : (rs : List ℤ) (d : ℕ) (qs : List Instruction) (oa ob : ℕ) (b : Told) (p : Instruction) (x : ℤ → ℤ → Result ℤ Halt) → d < 128
      → ((t : List ℤ) → instruction_gone f scalars locals find p t ≡ gone [] (set_to t d (x (held t oa) (held t ob))))
      → IsSpared (suc d) oa
      → ((t : List ℤ) → length t ≡ 256 → SparedSame d rs t → RunsTo f scalars locals find t (suc d) qs ob b)
      → (sg st : List Observation) (r : Result (List ℤ) Halt) (v : Result ℤ Halt) → sg ≡ st → Leaves rs d oa r v
      → ((then_go sg r (instructions_gone f scalars locals find (qs ++ p ∷ []))).seen ≡ (then_tell st v (λ y. then_tell b.seen b.value (λ z. telling [] (x y z)))).seen) × Leaves rs d d (then_go sg r (instructions_gone f scalars locals find (qs ++ p ∷ []))).registers (then_tell st v (λ y. then_tell b.seen b.value (λ z. telling [] (x y z)))).value
  binary-at rs d qs oa ob b p x room is stays second sg st (Err k) (Err h) same leaves = (same, leaves)
  binary-at rs d qs oa ob b p x room is stays second sg st (Err k) (Ok v) same leaves = absurd leaves
  binary-at rs d qs oa ob b p x room is stays second sg st (Ok t) (Err h) same leaves = absurd leaves
  binary-at rs d qs oa ob b p x room is stays second sg st (Ok t) (Ok v) same leaves =
      let low : d ≤ suc d = omega arith in
      let at_t : (u : List ℤ) → SparedSame (suc d) t u → instruction_gone f scalars locals find p u ≡ gone [] (set_to u d (x v (held u ob))) = λ u agree.
      is u ∙ ap (λ y. gone [] (set_to u d (x y (held u ob)))) (sym (agree oa stays) ∙ leaves.0) in
      let inner = unary t d (suc d) qs ob b p (λ z. []) (x v) low room at_t (second t leaves.2 leaves.1) in
      (ap (λ z. z ++ (instructions_gone f scalars locals find (qs ++ p ∷ []) t).seen) same ∙ ap (λ z. st ++ z) inner.0, leaves-on rs t d d _ _ leaves.1 inner.1)

  binary : (rs : List ℤ) (d : ℕ) (ps qs : List Instruction) (oa ob : ℕ) (a b : Told) (p : Instruction) (x : ℤ → ℤ → Result ℤ Halt) → d < 128
      → ((t : List ℤ) → instruction_gone f scalars locals find p t ≡ gone [] (set_to t d (x (held t oa) (held t ob))))
      → IsSpared (suc d) oa
      → ((t : List ℤ) → length t ≡ 256 → SparedSame d rs t → RunsTo f scalars locals find t (suc d) qs ob b)
      → RunsTo f scalars locals find rs d ps oa a → RunsTo f scalars locals find rs d (ps ++ qs ++ p ∷ []) d (then_tell a.seen a.value (λ y. then_tell b.seen b.value (λ z. telling [] (x y z))))
  binary rs d ps qs oa ob a b p x room is stays second runs =
      rw (append_assoc ps qs (p ∷ []), instructions-append ps (qs ++ p ∷ []) rs) (binary-at rs d qs oa ob b p x room is stays second (instructions_gone f scalars locals find ps rs).seen a.seen (instructions_gone f scalars locals find ps rs).registers a.value runs.0 runs.1)

  -- an input needs no instruction
  nothing-runs : (rs : List ℤ) (d o : ℕ) (v : ℤ) → held rs o ≡ v → length rs ≡ 256 → RunsTo f scalars locals find rs d [] o (telling [] (Ok v))
  unfolding instructions_gone
  nothing-runs rs d o v is size = (refl, (is, λ i h. refl, size))

input-spared : (d i : ℕ) → IsSpared (suc d) (128 + i)
input-spared d i = inr (omega arith)

pub code-number : (inputs : List Input) (n : ℤ) (d i : ℕ) → slice_get inputs i ≡ Some (input.Number n) → IsCode inputs (Number n) d [] (128 + i)
code-number inputs n d i is = record {
  runs = λ f scalars locals find rs size hold. rw told_by-number (nothing-runs f scalars locals find rs d (128 + i) n (hold i (input.Number n) is) size);
  stays = input-spared d i;
}

pub code-counter : (inputs : List Input) (n d i : ℕ) → slice_get inputs i ≡ Some (input.Counter n) → IsCode inputs (Var (place.Counter n)) d [] (128 + i)
code-counter inputs n d i is = record {
  runs = λ f scalars locals find rs size hold. rw told_by-var (nothing-runs f scalars locals find rs d (128 + i) (get_or f.values n (pos 0)) (hold i (input.Counter n) is) size);
  stays = input-spared d i;
}

pub code-name : (inputs : List Input) (p : Place) (d : ℕ) → d < 128 → IsCode inputs (Var p) d (instruction.Name d p ∷ []) d
unfolding instruction_gone
code-name inputs p d room = record {
  runs = λ f scalars locals find rs size hold. rw told_by-var (one-leaves f scalars locals find (instruction.Name d p) rs rs d [] (Ok (place_value f.values scalars locals p)) refl size room (λ i h. refl));
  stays = spared-own d;
}

pub code-load : (inputs : List Input) (access : ℕ) (a : Expr) (d : ℕ) (ps : List Instruction) (o : ℕ) → d < 128 → IsCode inputs a d ps o → IsCode inputs (Load access a) d (ps ++ instruction.Load access d o ∷ []) d
unfolding instruction_gone
code-load inputs access a d ps o room code = record {
  runs = λ f scalars locals find rs size hold. rw told_by-load (unary f scalars locals find rs d d ps o (told_by f scalars locals find a) (instruction.Load access d o) (λ y. shown f (Address access) y ∷ []) (λ y. or_stopped access (find access y)) (omega arith) room (λ t agree. refl) (code.runs f scalars locals find rs size hold));
  stays = spared-own d;
}

pub code-neg : (inputs : List Input) (a : Expr) (d : ℕ) (ps : List Instruction) (o : ℕ) → d < 128 → IsCode inputs a d ps o → IsCode inputs (Neg a) d (ps ++ instruction.Neg d o ∷ []) d
unfolding instruction_gone
code-neg inputs a d ps o room code = record {
  runs = λ f scalars locals find rs size hold. rw told_by-neg (unary f scalars locals find rs d d ps o (told_by f scalars locals find a) (instruction.Neg d o) (λ y. []) (λ y. or_trapped (negate_of y)) (omega arith) room (λ t agree. refl) (code.runs f scalars locals find rs size hold));
  stays = spared-own d;
}

pub code-two : (inputs : List Input) (op : Op) (a b : Expr) (d : ℕ) (ps qs : List Instruction) (oa ob : ℕ) (p : Instruction) → d < 128 → IsOperation op d oa ob p → IsCode inputs a d ps oa → IsCode inputs b (suc d) qs ob → IsCode inputs (Two op a b) d (ps ++ qs ++ p ∷ []) d
code-two inputs op a b d ps qs oa ob p room is first second = record {
  runs = λ f scalars locals find rs size hold. rw told_by-two (binary f scalars locals find rs d ps qs oa ob (told_by f scalars locals find a) (told_by f scalars locals find b) p (λ y z. or_trapped (apply_of op y z)) room (is f scalars locals find) first.stays (λ t long same. second.runs f scalars locals find t long (hold-on f.values rs t inputs d same hold)) (first.runs f scalars locals find rs size hold));
  stays = spared-own d;
}
