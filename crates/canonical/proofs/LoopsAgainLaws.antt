-- What was read of loops is read again from their canonical lines.
use Rattle.std.proofs.Common.{◌≡◌, ◌≢◌, ℕ, zero, suc, ◌+◌, ℤ, pos, negsuc, List, [], ◌∷◌, ◌++◌, add-one, refl, sym, ◌∙◌, ap, arith, Option, Some, None, true, false, cond, subst}
use Rattle.std.specs.Prelude.{slice_get}
use Rattle.nest_lang.specs.declared.tree.Place.TheVariants as place
use Rattle.nest_lang.specs.declared.tree.Expr.{Expr}
use Rattle.nest_lang.specs.declared.tree.Stmt.{Stmt}
use Rattle.nest_lang.specs.declared.tree.Head.{Head}
use Rattle.nest_lang.specs.declared.tree.Head.TheVariants.{For}
use Rattle.nest_lang.specs.declared.tree.Loop.{Loop}
use Rattle.nest_lang.specs.Values.{same}
use Rattle.nest_tokens.specs.declared.token.Name.{Name}
use Rattle.nest_tokens.specs.declared.token.Mark.TheVariants as mark
use Rattle.nest_tokens.specs.declared.token.Token.TheVariants as token
use Rattle.nest_tokens.specs.declared.token.Spot.{Spot}
use Rattle.nest_grammar.specs.declared.version.Version.{Version}
use Rattle.nest_grammar.specs.declared.file.LoopNames.{LoopNames}
use Rattle.nest_tokens.specs.Ahead.{first, rest}
use Rattle.nest_grammar.specs.Sights.{Sight, here, skip, in_block, Sees}
use Rattle.nest_grammar.specs.Readings.{with_sign}
use Rattle.nest_grammar.specs.Names.{Names, declared, place_of}
use Rattle.nest_grammar.specs.Loops.{inside}
use Rattle.nest_grammar.specs.Grammar.{IsExpression, IsBlock, block, IsSigned, unsigned, negative, IsStride, unwritten, written, IsHeading, counting, asking, IsLoops, innermost, outer}
use Rattle.canonical.specs.Pieces.{Piece, Space, Newline, plain, signed, spaced, line}
use Rattle.canonical.specs.Labels.{Labels, label, with_lets, in_head, in_pre, in_post, pre_names, post_names}
use Rattle.canonical.specs.Expressions.{expression_of}
use Rattle.canonical.specs.Statements.{statement_lines, close_line}
use Rattle.canonical.specs.Loops.{step_of, bounds_of, heading_of, opening_line, loop_lines}
use Rattle.canonical.proofs.NestedLoopLaws.{loops-more}
use Rattle.canonical.proofs.TokenWalkLaws.{Walks, walks-append, Counts, counts}
use Rattle.canonical.proofs.ExpressionAgainLaws.{Agrees, expression-again}
use Rattle.canonical.proofs.StatementsAgainLaws.{extends-self, agrees-more, list-again}

-- the version of two sights is the same, so their blocks begin with the same counters
block-begins : (s s2 : Sight) → s2.version ≡ s.version → counts (in_block s2) ≡ counts (in_block s)
block-begins s s2 h = ap (λ (v : Version). record { version = v; opened = 0; accesses = 0; lets = [] }) h

abbrev pub BlockArrives : Names → Sight → List Stmt → List Name → List Spot → Version → Type 0
BlockArrives names s xs lets m v = (t : Sight) × IsBlock names s xs lets t × (t.size ≡ s.size) × (t.left ≡ m) × (t.version ≡ v)

pub block-again : (l : Labels) (names : Names) (s : Sight) (xs : List Stmt) (lets : List Name) (t : Sight) → IsBlock names s xs lets t → Agrees names (with_lets l lets) → (depth : ℕ) (s2 : Sight) (m : List Spot) → s2.version ≡ s.version → Walks (statement_lines (with_lets l lets) xs depth) s2.size s2.left m → BlockArrives names s2 xs lets m t.version
block-again l names s xs _ t (block {ns} i) agree depth s2 m v w =
    let y = (list-again (with_lets l t.lets) i agree (extends-self t.lets)).1 depth (in_block s2) m (block-begins s s2 v) w in
    let k : y.0.lets ≡ t.lets = ap (λ (c : Counts). c.lets) y.4 in
    (y.0, subst (λ (n : List Name). IsBlock names s2 xs n y.0) k (block y.1), y.2, y.3, ap (λ (c : Counts). c.version) y.4)

-- a number with its sign
abbrev pub SignedArrives : Sight → ℤ → List Spot → Type 0
SignedArrives s v m = (t : Sight) × IsSigned s v t × (t.size ≡ s.size) × (t.left ≡ m) × (counts t ≡ counts s)

minus-again : (n : ℕ) (s2 : Sight) (m : List Spot) → Walks (signed (with_sign true n)) s2.size s2.left m → SignedArrives s2 (with_sign true n) m
unfolding skip here signed
minus-again zero s2 m w = (skip s2, unsigned w.0, refl, sym w.1, refl)
minus-again (suc n) s2 m w = (skip (skip s2), negative {n = suc n} w.0 w.1.0, refl, sym w.1.1, refl)

pub signed-again : (s : Sight) (v : ℤ) (t : Sight) → IsSigned s v t → (s2 : Sight) (m : List Spot) → Walks (signed v) s2.size s2.left m → SignedArrives s2 v m
unfolding skip here signed
signed-again s _ t (unsigned {n} h) s2 m w = (skip s2, unsigned w.0, refl, sym w.1, refl)
signed-again s _ t (negative {n} h k) s2 m w = minus-again n s2 m w

pub signed-kept : (s : Sight) (v : ℤ) (t : Sight) → IsSigned s v t → counts t ≡ counts s
unfolding skip
signed-kept s _ t (unsigned {n} h) = refl
signed-kept s _ t (negative {n} h k) = refl

same-one : (k : ℤ) → same k (pos 1) ≡ true → k ≡ pos 1
same-one (pos zero) h = absurd (cc)
same-one (pos (suc zero)) h = refl
same-one (pos (suc (suc n))) h = absurd (grind arith)
same-one (negsuc n) h = absurd (grind arith)

abbrev pub StrideArrives : Sight → ℤ → List Spot → Type 0
StrideArrives s k m = (t : Sight) × IsStride s k t × (t.size ≡ s.size) × (t.left ≡ m) × (counts t ≡ counts s)

written-again : (k : ℤ) (u v : Sight) → IsSigned u k v → k ≢ pos 0 → (s2 : Sight) (m : List Spot) → Walks (step_of k) s2.size s2.left m → StrideArrives s2 k m
unfolding skip here step_of
written-again k u v i nz s2 m w =
    elim (same k (pos 1)) as (λ b. same k (pos 1) ≡ b → Walks (cond b [] (spaced mark.Step ++ signed k)) s2.size s2.left m → StrideArrives s2 k m) [
      | true ↦ λ e x. subst (λ (n : ℤ). StrideArrives s2 n m) (sym (same-one k e)) (s2, unwritten, refl, sym x, refl)
      | false ↦ λ e x. (let y = signed-again u k v i (skip s2) m x.1 in (y.0, written x.0 y.1 nz, y.2, y.3, y.4))
    ] refl w

stride-again : (s : Sight) (k : ℤ) (t : Sight) → IsStride s k t → (s2 : Sight) (m : List Spot) → Walks (step_of k) s2.size s2.left m → StrideArrives s2 k m
unfolding step_of
stride-again s _ t unwritten s2 m w = (s2, unwritten, refl, sym w, refl)
stride-again _ k _ (written {s = s} {t = t} h i nz) s2 m w = written-again k (skip s) t i nz s2 m w

stride-kept : (s : Sight) (k : ℤ) (t : Sight) → IsStride s k t → counts t ≡ counts s
unfolding skip
stride-kept s _ t unwritten = refl
stride-kept _ k _ (written {s = s} {t = t} h i nz) = signed-kept (skip s) k t i

abbrev pub HeadingArrives : Names → Sight → Head → Option Name → List Spot → Version → Type 0
HeadingArrives names s h n m v = (t : Sight) × IsHeading names s h n t × (t.size ≡ s.size) × (t.left ≡ m) × (t.version ≡ v)

counting-again : (l : Labels) (level : ℕ) (names : Names) (n : Name) (lower upper : Expr) (k : ℤ) (s t u v : Sight) → Agrees names l → label l (place.Counter level) ≡ n → place_of names n ≡ None → IsExpression names (in_block (skip (skip (skip s)))) lower t → IsExpression names (skip t) upper u → IsStride u k v → (s2 : Sight) (m : List Spot) → s2.version ≡ s.version → Walks (heading_of l level (For lower upper k)) s2.size s2.left m → HeadingArrives names s2 (For lower upper k) (Some n) m v.version
unfolding skip here heading_of bounds_of
counting-again l level names n lower upper k s t u v agree lab f i j st s2 m h w =
    let l3 : List Spot = rest (rest (rest s2.left)) in
    let q = walks-append (((expression_of l lower ++ spaced mark.Below) ++ expression_of l upper)) (step_of k) s2.size l3 m w.1.1.1 in
    let q1 = walks-append (expression_of l lower ++ spaced mark.Below) (expression_of l upper) s2.size l3 q.0 q.1 in
    let q2 = walks-append (expression_of l lower) (spaced mark.Below) s2.size l3 q1.0 q1.1 in
    let y = expression-again l names agree (in_block (skip (skip (skip s)))) lower t i (in_block (skip (skip (skip s2)))) q2.0 (block-begins (skip (skip (skip s))) (skip (skip (skip s2))) h) q2.1 in
    let t2 = y.0 in
    let z : (first t2.size t2.left).token ≡ token.Plain mark.Below = rw (y.2, y.3) q2.2.0 in
    let lft : rest t2.left ≡ q1.0 = ap rest y.3 ∙ sym q2.2.1 in
    let w2 : Walks (expression_of l upper) t2.size (rest t2.left) q.0 = rw (lft, y.2) q1.2 in
    let x = expression-again l names agree (skip t) upper u j (skip t2) q.0 y.4 w2 in
    let u2 = x.0 in
    let sz : u2.size ≡ s2.size = x.2 ∙ y.2 in
    let w3 : Walks (step_of k) u2.size u2.left m = rw (x.3, sz) q.2 in
    let g = stride-again u k v st u2 m w3 in
    (g.0, counting w.0 (w.1.0 ∙ ap token.Name lab) f w.1.1.0 y.1 z x.1 g.1, g.2 ∙ sz, g.3, ap (λ (c : Counts). c.version) (g.4 ∙ x.4 ∙ sym (stride-kept u k v st)))

-- the turns of a loop have the label of its level
abbrev pub Labelled : Labels → ℕ → Option Name → Type 0
Labelled l level None = Unit {0}
Labelled l level (Some n) = label l (place.Counter level) ≡ n

heading-again : (l : Labels) (level : ℕ) (names : Names) (s : Sight) (h : Head) (n : Option Name) (t : Sight) → IsHeading names s h n t → Agrees names l → Labelled l level n → (s2 : Sight) (m : List Spot) → s2.version ≡ s.version → Walks (heading_of l level h) s2.size s2.left m → HeadingArrives names s2 h n m t.version
unfolding skip here heading_of
heading-again l level names _ _ _ _ (counting {n} {lower} {upper} {k} {s} {t} {u} {v} a b f c i d j st) agree lab s2 m h w = counting-again l level names n lower upper k s t u v agree lab f i j st s2 m h w
heading-again l level names _ _ _ _ (asking {e} {s} {t} a i) agree lab s2 m h w =
    let y = expression-again l names agree (in_block (skip s)) e t i (in_block (skip s2)) m (block-begins (skip s) (skip s2) h) w.1 in
    (y.0, asking w.0 y.1, y.2, y.3, ap (λ (c : Counts). c.version) y.4)

abbrev pub OpeningArrives : Names → Sight → Head → Option Name → List Spot → Version → Type 0
OpeningArrives names s h n m v = (t : Sight) × IsHeading names s h n t × Sees mark.OpenBrace t × (t.size ≡ s.size) × (rest t.left ≡ m) × (t.version ≡ v)

opening-again : (l : Labels) (level : ℕ) (names : Names) (s : Sight) (h : Head) (n : Option Name) (t : Sight) → IsHeading names s h n t → Agrees names (in_head l) → Labelled (in_head l) level n → (s2 : Sight) (m : List Spot) → s2.version ≡ s.version → Walks (opening_line l level h) s2.size s2.left m → OpeningArrives names s2 h n m t.version
unfolding here opening_line line
opening-again l level names s h n t i agree lab s2 m v w =
    let q = walks-append (heading_of (in_head l) level h ++ Space ∷ plain mark.OpenBrace ∷ []) (Newline ∷ []) s2.size s2.left m w in
    let q1 = walks-append (heading_of (in_head l) level h) (Space ∷ plain mark.OpenBrace ∷ []) s2.size s2.left q.0 q.1 in
    let y = heading-again (in_head l) level names s h n t i agree lab s2 q1.0 v q1.1 in
    let t2 = y.0 in
    let z : (first t2.size t2.left).token ≡ token.Plain mark.OpenBrace = rw (y.2, y.3) q1.2.0 in
    (t2, y.1, z, y.2, ap rest y.3 ∙ (sym q1.2.1 ∙ sym q.2), y.4)

-- the names agree with the labels, whatever the locals
abbrev pub AgreesAll : Names → Labels → Type 0
AgreesAll names l = (lets : List Name) → Agrees names (with_lets l lets)

-- from a level on the loops have these names
abbrev pub Named : Labels → ℕ → List LoopNames → Type 0
Named l level [] = Unit {0}
Named l level (x ∷ xs) = (slice_get l.loops level ≡ Some x) × Named l (suc level) xs

pub labelled : (l : Labels) (level : ℕ) (lets : List Name) (x : LoopNames) (n : Option Name) → slice_get l.loops level ≡ Some x → x.counter ≡ n → Labelled (with_lets l lets) level n
unfolding label
labelled l level lets x None h k = tt
labelled l level lets x (Some n) h k = rw (h, k) refl

pub agrees-inside : (l : Labels) (level : ℕ) (names : Names) (n : Option Name) → AgreesAll names l → ((lets : List Name) → Labelled (with_lets l lets) level n) → AgreesAll (inside names level n) l
agrees-inside l level names None agree lab lets = agree lets
agrees-inside l level names (Some n) agree lab lets = agrees-more names (declared n (place.Counter level)) (with_lets l lets) (agree lets) (lab lets)

abbrev pub LoopsArrive : ℕ → ℕ → Names → Sight → List Loop → List LoopNames → List Spot → Version → Type 0
LoopsArrive d level names s ls ns m v = (t : Sight) × IsLoops d level names s ls ns t × (t.size ≡ s.size) × (t.left ≡ m) × (t.version ≡ v)

abbrev pub LoopsClaim : Labels → ℕ → ℕ → Names → List Loop → List LoopNames → Version → Version → Type 0
LoopsClaim l d level names ls ns a b = (s2 : Sight) (m : List Spot) → s2.version ≡ a → Walks (loop_lines l level ls) s2.size s2.left m → LoopsArrive d level names s2 ls ns m b

-- the lines of a loop up to the one inside it
record Begun (l : Labels) (level : ℕ) (names : Names) (h : Head) (n : Option Name) (pre : List Stmt) (lets : List Name) (s2 : Sight) (m : List Spot) (b : Version) : Type 0 where
  t : Sight
  u : Sight
  heading : IsHeading names s2 h n t
  opens-at : Sees mark.OpenBrace t
  block : IsBlock (inside names level n) (skip t) pre lets u
  size : u.size ≡ s2.size
  left : u.left ≡ m
  version : u.version ≡ b

begun-again : (l : Labels) (level : ℕ) (names : Names) (h : Head) (n : Option Name) (pre : List Stmt) (lets : List Name) (x : LoopNames) (s t u : Sight) → AgreesAll names l → slice_get l.loops level ≡ Some x → x.counter ≡ n → x.pre ≡ lets → IsHeading names s h n t → IsBlock (inside names level n) (skip t) pre lets u → (s2 : Sight) (m : List Spot) → s2.version ≡ s.version → Walks (opening_line l level h ++ statement_lines (in_pre l level) pre (level + 1)) s2.size s2.left m → Begun l level names h n pre lets s2 m u.version
unfolding skip
begun-again l level names h n pre lets x s t u agree at c p i b s2 m v w =
    let q = walks-append (opening_line l level h) (statement_lines (in_pre l level) pre (level + 1)) s2.size s2.left m w in
    let y = opening-again l level names s h n t i (agree []) (labelled l level [] x n at c) s2 q.0 v q.1 in
    let t2 = y.0 in
    let k : in_pre l level ≡ with_lets l lets = ap (λ (o : Option LoopNames). with_lets l (pre_names o)) at ∙ ap (with_lets l) p in
    let w0 : Walks (statement_lines (with_lets l lets) pre (level + 1)) s2.size q.0 m = subst (λ (z : Labels). Walks (statement_lines z pre (level + 1)) s2.size q.0 m) k q.2 in
    let w1 : Walks (statement_lines (with_lets l lets) pre (level + 1)) t2.size (rest t2.left) m = rw (y.4, y.3) w0 in
    let inner : AgreesAll (inside names level n) l = agrees-inside l level names n agree (λ z. labelled l level z x n at c) in
    let z = block-again l (inside names level n) (skip t) pre lets u b (inner lets) (level + 1) (skip t2) m y.5 w1 in
    record {
      t = t2;
      u = z.0;
      heading = y.1;
      opens-at = y.2;
      block = z.1;
      size = z.2 ∙ y.3;
      left = z.3;
      version = z.4;
    }

innermost-again : (l : Labels) (d level : ℕ) (names : Names) (h : Head) (n : Option Name) (pre : List Stmt) (lets : List Name) (s t u : Sight) → AgreesAll names l → slice_get l.loops level ≡ Some (record { counter = n; pre = lets; post = [] }) → IsHeading names s h n t → IsBlock (inside names level n) (skip t) pre lets u → pre ≢ [] → LoopsClaim l (suc d) level names (record { head = h; pre = pre; post = [] } ∷ []) (record { counter = n; pre = lets; post = [] } ∷ []) s.version u.version
unfolding skip here line loop_lines statement_lines
innermost-again l d level names h n pre lets s t u agree at i b ne s2 m v w =
    let ab : List Piece = opening_line l level h ++ statement_lines (in_pre l level) pre (level + 1) in
    let q = walks-append ((ab ++ loop_lines l (level + 1) []) ++ statement_lines (in_post l level) [] (level + 1)) (line level close_line) s2.size s2.left m w in
    let q1 = walks-append (ab ++ loop_lines l (level + 1) []) (statement_lines (in_post l level) [] (level + 1)) s2.size s2.left q.0 q.1 in
    let q2 = walks-append ab (loop_lines l (level + 1) []) s2.size s2.left q1.0 q1.1 in
    let g = begun-again l level names h n pre lets (record { counter = n; pre = lets; post = [] }) s t u agree at refl refl i b s2 q2.0 v q2.1 in
    let lft : g.u.left ≡ q.0 = g.left ∙ (sym q2.2 ∙ sym q1.2) in
    let z : (first g.u.size g.u.left).token ≡ token.Plain mark.CloseBrace = rw (lft, g.size) q.2.0 in
    (skip g.u, innermost g.heading g.opens-at g.block ne z, g.size, ap rest lft ∙ sym q.2.1, g.version)

outer-again : (l : Labels) (d level : ℕ) (names : Names) (h : Head) (n : Option Name) (pre post : List Stmt) (lets post_lets : List Name) (ls : List Loop) (ns : List LoopNames) (s t u v w : Sight) → AgreesAll names l → slice_get l.loops level ≡ Some (record { counter = n; pre = lets; post = post_lets }) → IsHeading names s h n t → IsBlock (inside names level n) (skip t) pre lets u → (AgreesAll (inside names level n) l → LoopsClaim l d (suc level) (inside names level n) ls ns u.version v.version) → IsBlock (inside names level n) v post post_lets w → LoopsClaim l (suc d) level names (record { head = h; pre = pre; post = post } ∷ ls) (record { counter = n; pre = lets; post = post_lets } ∷ ns) s.version w.version
unfolding skip here line
outer-again l d level names h n pre post lets post_lets ls ns s t u v w agree at i b inner c s2 m k walk =
    let x : LoopNames = record { counter = n; pre = lets; post = post_lets } in
    let w0 = subst (λ (ps : List Piece). Walks ps s2.size s2.left m) (loops-more l level (record { head = h; pre = pre; post = post }) ls) walk in
    let ab : List Piece = opening_line l level h ++ statement_lines (in_pre l level) pre (level + 1) in
    let q = walks-append ((ab ++ loop_lines l (level + 1) ls) ++ statement_lines (in_post l level) post (level + 1)) (line level close_line) s2.size s2.left m w0 in
    let q1 = walks-append (ab ++ loop_lines l (level + 1) ls) (statement_lines (in_post l level) post (level + 1)) s2.size s2.left q.0 q.1 in
    let q2 = walks-append ab (loop_lines l (level + 1) ls) s2.size s2.left q1.0 q1.1 in
    let g = begun-again l level names h n pre lets x s t u agree at refl refl i b s2 q2.0 k q2.1 in
    let within : AgreesAll (inside names level n) l = agrees-inside l level names n agree (λ z. labelled l level z x n at refl) in
    let w1 : Walks (loop_lines l (suc level) ls) s2.size q2.0 q1.0 = subst (λ (z : ℕ). Walks (loop_lines l z ls) s2.size q2.0 q1.0) (add-one level) q2.2 in
    let w2 : Walks (loop_lines l (suc level) ls) g.u.size g.u.left q1.0 = rw (g.left, g.size) w1 in
    let y = inner within g.u q1.0 g.version w2 in
    let sz : y.0.size ≡ s2.size = y.2 ∙ g.size in
    let o : in_post l level ≡ with_lets l post_lets = ap (λ (z : Option LoopNames). with_lets l (post_names z)) at in
    let w3 : Walks (statement_lines (with_lets l post_lets) post (level + 1)) s2.size q1.0 q.0 = subst (λ (z : Labels). Walks (statement_lines z post (level + 1)) s2.size q1.0 q.0) o q1.2 in
    let w4 : Walks (statement_lines (with_lets l post_lets) post (level + 1)) y.0.size y.0.left q.0 = rw (y.3, sz) w3 in
    let e = block-again l (inside names level n) v post post_lets w c (within post_lets) (level + 1) y.0 q.0 y.4 w4 in
    let sz2 : e.0.size ≡ s2.size = e.2 ∙ sz in
    let z : (first e.0.size e.0.left).token ≡ token.Plain mark.CloseBrace = rw (e.3, sz2) q.2.0 in
    (skip e.0, outer g.heading g.opens-at g.block y.1 e.1 z, sz2, ap rest e.3 ∙ sym q.2.1, e.4)

-- what was read of loops is read again
pub loops-again : (l : Labels) {d level : ℕ} {names : Names} {s : Sight} {ls : List Loop} {ns : List LoopNames} {t : Sight} → IsLoops d level names s ls ns t → AgreesAll names l → Named l level ns → LoopsClaim l d level names ls ns s.version t.version
unfolding skip
loops-again l (innermost {d} {level} {names} {h} {n} {pre} {lets} {s} {t} {u} i o b ne c) agree named = innermost-again l d level names h n pre lets s t u agree named.0 i b ne
loops-again l (outer {d} {level} {names} {h} {n} {pre} {post} {lets} {post_lets} {ls} {ns} {s} {t} {u} {v} {w} i o b j c z) agree named =
    outer-again l d level names h n pre post lets post_lets ls ns s t u v w agree named.0 i b (λ within. loops-again l j within named.1) c
