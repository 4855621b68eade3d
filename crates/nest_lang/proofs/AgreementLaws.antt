-- Traces that have the same first entries. A bound on the turns of each `while` that is no less than m is
-- not seen in the first m entries.
use Rattle.std.proofs.Common.{◌≡◌, refl, ap, ◌∙◌, sym, subst, ℕ, ℤ, zero, suc, ◌<◌, ◌+◌, ◌-◌, ◌≤◌, min, ◌⊎◌, inl, inr, true, false, List, [], ◌∷◌, ◌++◌, length, map, take, Option, Some, None, Result, Ok, Err, length-append, nat_le, arith}
use Rattle.std.proofs.lemmas.List.{take-append-le}
use Rattle.nest_lang.specs.declared.tree.Head.{Head}
use Rattle.nest_lang.specs.declared.tree.Head.TheVariants.{For, While}
use Rattle.nest_lang.specs.declared.tree.Loop.{Loop}
use Rattle.nest_lang.specs.declared.tree.Nest.{Nest}
use Rattle.nest_lang.specs.Stores.{Store}
use Rattle.nest_lang.specs.Lookups.{Expectation, plain}
use Rattle.nest_lang.specs.Traces.{Observation, Entry, Halt, Trace, joined, and_then, in_turn, traced, Limited, cut_of, cut, after_all, seen_of, seen_in}
use Rattle.nest_lang.specs.declared.tree.Part.TheVariants as part
use Rattle.nest_lang.specs.Expressions.{Frame}
use Rattle.nest_lang.specs.Statements.{instance_trace}
use Rattle.nest_lang.specs.Heads.{Yield, Bounds, Tested, head_of, head_step, headed}
use Rattle.nest_lang.specs.Loops.{Around, outside, frame_of, turn_trace, turns_from, turns_of, turn_if, whiles_from, loop_by, loops_trace}
use Rattle.nest_lang.specs.Runs.{nest_trace, nests_trace}
use Rattle.plain_lemmas.proofs.ListLaws.{take-same}

-- both have m entries, the same ones
pub record BothLong (m : ℕ) (t u : Trace) : Type 0 where
  pub same : take m t.entries ≡ take m u.entries
  pub first : m ≤ length t.entries
  pub second : m ≤ length u.entries

-- two traces are equal, or have the same first m entries
abbrev pub Alike : ℕ → Trace → Trace → Type 0
Alike m t u = (t ≡ u) ⊎ BothLong m t u

-- two ways on are alike from each store
abbrev pub AlikeOn : ℕ → (Store → Trace) → (Store → Trace) → Type 0
AlikeOn m f g = (s : Store) → Alike m (f s) (g s)

pub alike-same : (m : ℕ) (t : Trace) → Alike m t t
alike-same m t = inl refl

pub alike-zero : (t u : Trace) → Alike 0 t u
alike-zero t u = inr (record { same = refl; first = omega arith; second = omega arith })

pub alike-less : (k m : ℕ) (t u : Trace) → k ≤ m → Alike m t u → Alike k t u
alike-less k m t u h (inl e) = inl e
alike-less k m t u h (inr b) = inr (record { same = take-same k m t.entries u.entries h b.same; first = omega (arith, b.first); second = omega (arith, b.second) })

-- after a common beginning
long-behind : (m : ℕ) (es : List Entry) (xs ys : List Entry) → take m xs ≡ take m ys → take m (es ++ xs) ≡ take m (es ++ ys)
long-behind m [] xs ys e = e
long-behind zero (x ∷ es) xs ys e = refl
long-behind (suc m) (x ∷ es) xs ys e = ap (λ z. x ∷ z) (long-behind m es xs ys (take-same m (suc m) xs ys (omega arith) e))

alike-joined : (m : ℕ) (halt : Option Halt) (es : List Entry) (t u : Trace) → Alike m t u → Alike m (joined halt es t) (joined halt es u)
alike-joined m (Some halt) es t u a = inl refl
alike-joined m None es t u (inl e) = inl (ap (λ z. joined None es z) e)
alike-joined m None es t u (inr b) =
    inr (record {
      same = long-behind m es t.entries u.entries b.same;
      first = omega (arith, length-append es t.entries, b.first);
      second = omega (arith, length-append es u.entries, b.second);
    })

-- one more entry
alike-entry : (m : ℕ) (halt : Option Halt) (e : Entry) (t u : Trace) → Alike m t u → Alike (suc m) (joined halt (e ∷ []) t) (joined halt (e ∷ []) u)
alike-entry m (Some halt) e t u a = inl refl
alike-entry m None e t u (inl p) = inl (ap (λ z. joined None (e ∷ []) z) p)
alike-entry m None e t u (inr b) =
    inr (record { same = ap (λ z. e ∷ z) b.same; first = omega (arith, b.first); second = omega (arith, b.second) })

-- what is long stays so with more behind it
long-joined : (m : ℕ) (halt : Option Halt) (es : List Entry) (more : Trace) → m ≤ length es → (take m (joined halt es more).entries ≡ take m es) × (m ≤ length (joined halt es more).entries)
long-joined m (Some halt) es more h = (refl, h)
long-joined m None es more h = (take-append-le m es more.entries h, omega (arith, length-append es more.entries))

pub alike-and_then : (m : ℕ) (s : Store) (t u : Trace) (f g : Store → Trace) → Alike m t u → AlikeOn m f g → Alike m (and_then s t f) (and_then s u g)
alike-and_then m s t u f g (inl e) more =
    let P : Trace → Type 0 = λ z. Alike m (and_then s t f) (and_then s z g) in
    subst P e (alike-joined m t.halt t.entries (f (after_all s t.entries)) (g (after_all s t.entries)) (more (after_all s t.entries)))
alike-and_then m s t u f g (inr b) more =
    let p = long-joined m t.halt t.entries (f (after_all s t.entries)) b.first in
    let q = long-joined m u.halt u.entries (g (after_all s u.entries)) b.second in
    inr (record { same = p.0 ∙ b.same ∙ sym q.0; first = p.1; second = q.1 })

pub alike-two : (m : ℕ) (f g h k : Store → Trace) → AlikeOn m f g → AlikeOn m h k → AlikeOn m (in_turn (f ∷ h ∷ [])) (in_turn (g ∷ k ∷ []))
alike-two m f g h k a b s = alike-and_then m s (f s) (g s) (in_turn (h ∷ [])) (in_turn (k ∷ [])) (a s) (λ t. alike-and_then m t (h t) (k t) (in_turn []) (in_turn []) (b t) (λ r. inl refl))

-- the rest after a step
alike-traced : (m : ℕ) (before seen : List Observation) (r : Result Yield Halt) (p q : Yield → List (Store → Trace)) (s : Store) → ((y : Yield) → AlikeOn m (in_turn (p y)) (in_turn (q y))) → Alike (suc m) (traced (head_step before seen r p) s) (traced (head_step before seen r q) s)
alike-traced m before seen (Ok y) p q s a = alike-entry m None _ (in_turn (p y) s) (in_turn (q y) s) (a y s)
alike-traced m before seen (Err halt) p q s a = inl refl

pub alike-headed : (m : ℕ) (f : Frame) (head : Head) (p q : Yield → List (Store → Trace)) (s : Store) → ((y : Yield) → AlikeOn m (in_turn (p y)) (in_turn (q y))) → Alike (suc m) (traced (headed f head p s) s) (traced (headed f head q s) s)
alike-headed m f head p q s a = alike-traced m _ (head_of f head s).seen (head_of f head s).value p q s a

-- a turn, from what is inside of it
pub alike-around : (m : ℕ) (pre post f g : Store → Trace) → AlikeOn m f g → AlikeOn m (in_turn (pre ∷ f ∷ post ∷ [])) (in_turn (pre ∷ g ∷ post ∷ []))
alike-around m pre post f g inner s =
    alike-and_then m s (pre s) (pre s) (in_turn (f ∷ post ∷ [])) (in_turn (g ∷ post ∷ [])) (inl refl) (alike-two m f g post post inner (λ t. inl refl))

pub alike-turn : (m : ℕ) (x : Expectation) (level : ℕ) (l : Loop) (f g : Around → Store → Trace) (a : Around) → AlikeOn m (f a) (g a) → AlikeOn m (turn_trace x level l f a) (turn_trace x level l g a)
unfolding turn_trace
alike-turn m x level l f g a inner s =
    alike-around m (instance_trace (frame_of x part.Pre level a) l.pre) (instance_trace (frame_of x part.Post level a) l.post) (f a) (g a) inner s

alike-turns : (m n t : ℕ) (f g : ℕ → Store → Trace) → ((t : ℕ) → AlikeOn m (f t) (g t)) → AlikeOn m (turns_from n t f) (turns_from n t g)
alike-turns m zero t f g each s = inl refl
alike-turns m (suc n) t f g each s = alike-and_then m s (f t s) (g t s) (turns_from n (t + 1) f) (turns_from n (t + 1) g) (each t s) (alike-turns m n (t + 1) f g each)

alike-turns_of : (m : ℕ) (f g : ℤ → ℕ → Store → Trace) → ((from : ℤ) (t : ℕ) → AlikeOn m (f from t) (g from t)) → (y : Yield) → AlikeOn m (in_turn (turns_of f y)) (in_turn (turns_of g y))
alike-turns_of m f g each (Bounds lower trip) s =
    alike-and_then m s (turns_from trip 0 (f lower) s) (turns_from trip 0 (g lower) s) (in_turn []) (in_turn []) (alike-turns m trip 0 (f lower) (g lower) (each lower) s) (λ t. inl refl)
alike-turns_of m f g each (Tested holds) s = inl refl

alike-turn_if : (m : ℕ) (f g h k : Store → Trace) → AlikeOn m f g → AlikeOn m h k → (y : Yield) → AlikeOn m (in_turn (turn_if f h y)) (in_turn (turn_if g k y))
alike-turn_if m f g h k a b (Bounds lower trip) s = inl refl
alike-turn_if m f g h k a b (Tested true) s = alike-two m f g h k a b s
alike-turn_if m f g h k a b (Tested false) s = inl refl

alike-whiles : (m k j t : ℕ) (frame : ℕ → Frame) (head : Head) (f g : ℕ → Store → Trace) → m ≤ k → m ≤ j → ((t : ℕ) → AlikeOn m (f t) (g t)) → AlikeOn m (whiles_from k t frame head f) (whiles_from j t frame head g)
alike-whiles zero k j t frame head f g h i each s = alike-zero _ _
alike-whiles (suc m) zero j t frame head f g h i each s = absurd (omega arith)
alike-whiles (suc m) (suc k) zero t frame head f g h i each s = absurd (omega arith)
alike-whiles (suc m) (suc k) (suc j) t frame head f g h i each s =
    let less : (t : ℕ) → AlikeOn m (f t) (g t) = λ t s. alike-less m (suc m) (f t s) (g t s) (omega arith) (each t s) in
    let more : AlikeOn m (whiles_from k (t + 1) frame head f) (whiles_from j (t + 1) frame head g) = alike-whiles m k j (t + 1) frame head f g (omega arith) (omega arith) less in
    alike-headed m (frame t) head _ _ s (alike-turn_if m (f t) (g t) (whiles_from k (t + 1) frame head f) (whiles_from j (t + 1) frame head g) (less t) more)

alike-up : (m : ℕ) (t u : Trace) → Alike (suc m) t u → Alike m t u
alike-up m t u a = alike-less m (suc m) t u (omega arith) a

alike-loop : (by : Head) (m k j : ℕ) (x : Expectation) (level : ℕ) (head : Head) (f g : Around → Store → Trace) (a : Around) → m ≤ k → m ≤ j → ((a : Around) → AlikeOn m (f a) (g a)) → AlikeOn m (loop_by by x k level head f a) (loop_by by x j level head g a)
alike-loop (For lower upper stride) m k j x level head f g a h i each s =
    alike-up m _ _ (alike-headed m _ head _ _ s (alike-turns_of m _ _ (λ from t. each _)))
alike-loop (While condition) m k j x level head f g a h i each s =
    alike-whiles m k j 0 _ head _ _ h i (λ t. each _) s

-- loops inside one another, under two bounds
pub alike-loops : (m k j : ℕ) (x : Expectation) (level : ℕ) (ls : List Loop) (a : Around) → m ≤ k → m ≤ j → AlikeOn m (loops_trace x k level ls a) (loops_trace x j level ls a)
alike-loops m k j x level [] a h i s = inl refl
alike-loops m k j x level (l ∷ ls) a h i s =
    alike-loop l.head m k j x level l.head _ _ a h i (λ b. alike-turn m x level l _ _ b (alike-loops m k j x (level + 1) ls b h i)) s

pub alike-nest : (m k j : ℕ) (loops : List Loop) → m ≤ k → m ≤ j → AlikeOn m (nest_trace k loops) (nest_trace j loops)
unfolding nest_trace
alike-nest m k j loops h i s = alike-loops m k j plain 1 loops outside h i s

pub alike-nests : (m k j : ℕ) (nests : List Nest) → m ≤ k → m ≤ j → AlikeOn m (nests_trace k nests) (nests_trace j nests)
unfolding nests_trace
alike-nests m k j nests h i s = each nests s
  where
    each : (nests : List Nest) → AlikeOn m (in_turn (map (λ nest. nest_trace k nest.loops) nests)) (in_turn (map (λ nest. nest_trace j nest.loops) nests))
    each [] s = inl refl
    each (nest ∷ nests) s = alike-and_then m s _ _ _ _ (alike-nest m k j nest.loops h i s) (each nests)

-- a cut of a trace with more entries is limited
pub cut-long : (t : Trace) (s : Store) (left used : ℕ) → left < length t.entries → cut t s left used ≡ cut_of (after_all s (take left t.entries)) 0 (used + left) Limited
unfolding cut
cut-long t s left used h =
    let less : nat_le (length t.entries) left ≡ false = grind arith in
    let none : left - length t.entries ≡ 0 = omega arith in
    let all : min left (length t.entries) ≡ left = omega arith in
    rw (less, none, all) refl

-- a cut sees no more than one entry past the steps that are left
pub cut-alike : (t u : Trace) (s : Store) (left used : ℕ) → Alike (left + 1) t u → cut t s left used ≡ cut u s left used
cut-alike t u s left used (inl e) = ap (λ z. cut z s left used) e
cut-alike t u s left used (inr b) =
    cut-long t s left used (omega (arith, b.first))
    ∙ ap (λ es. cut_of (after_all s es) 0 (used + left) Limited) (take-same left (left + 1) t.entries u.entries (omega arith) b.same)
    ∙ sym (cut-long u s left used (omega (arith, b.second)))

seen_of-take : (es : List Entry) (n : ℕ) → seen_of (take (suc n) es) n ≡ seen_of es n
seen_of-take [] n = refl
seen_of-take (e ∷ es) zero = refl
seen_of-take (e ∷ es) (suc n) = ap (λ z. e.before ++ e.seen ++ z) (seen_of-take es n)

-- neither does what is seen
pub seen-alike : (t u : Trace) (left : ℕ) → Alike (left + 1) t u → seen_in t left ≡ seen_in u left
unfolding seen_in
seen-alike t u left (inl e) = ap (λ z. seen_of z.entries left) e
seen-alike t u left (inr b) =
    sym (seen_of-take t.entries left)
    ∙ ap (λ es. seen_of es left) (take-same (suc left) (left + 1) t.entries u.entries (omega arith) b.same)
    ∙ seen_of-take u.entries left
