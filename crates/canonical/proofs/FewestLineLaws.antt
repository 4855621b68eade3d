-- No text has fewer tokens than the canonical lines of the statements, loops, scripts, scalars, items and
-- nests in it.
use Rattle.std.proofs.Common.{◌≡◌, ◌≢◌, ℕ, zero, suc, ◌+◌, ◌≤◌, ℤ, pos, List, [], ◌∷◌, ◌++◌, length, refl, sym, ◌∙◌, ap, arith, Option, Some, true, false, cond, subst, append-nil, add-one}
use Rattle.std.specs.List.{flat_map}
use Rattle.nest_lang.specs.declared.tree.Expr.{Expr}
use Rattle.nest_lang.specs.declared.tree.Stmt.{Stmt}
use Rattle.nest_lang.specs.declared.tree.Stmt.TheVariants.{Let, Set, Store, If}
use Rattle.nest_lang.specs.declared.tree.Head.{Head}
use Rattle.nest_lang.specs.declared.tree.Loop.{Loop}
use Rattle.nest_lang.specs.declared.command.Command.{Command}
use Rattle.nest_lang.specs.Values.{same}
use Rattle.nest_tokens.specs.declared.token.Name.{Name}
use Rattle.nest_tokens.specs.declared.token.Mark.TheVariants as mark
use Rattle.nest_tokens.specs.declared.token.Token.{Token}
use Rattle.nest_tokens.specs.declared.token.Token.TheVariants as token
use Rattle.nest_tokens.specs.Lexing.{tokens}
use Rattle.nest_grammar.specs.declared.script.CommandWord.{CommandWord}
use Rattle.nest_grammar.specs.declared.file.LoopNames.{LoopNames}
use Rattle.nest_grammar.specs.declared.version.Version.{Version}
use Rattle.nest_grammar.specs.declared.version.Version.TheVariants.{Two as Several}
use Rattle.nest_grammar.specs.declared.file.Scalar.{Scalar}
use Rattle.nest_grammar.specs.declared.file.Item.{Item}
use Rattle.nest_grammar.specs.declared.file.Item.TheVariants.{Data, Ramp}
use Rattle.nest_grammar.specs.declared.file.NestUnit.{NestUnit}
use Rattle.nest_grammar.specs.declared.file.File.{File}
use Rattle.nest_tokens.specs.Ahead.{rest}
use Rattle.nest_grammar.specs.Sights.{Sight, here, stands, skip, opens, in_block}
use Rattle.nest_grammar.specs.Readings.{with_sign}
use Rattle.nest_grammar.specs.Names.{Names, names_of}
use Rattle.nest_grammar.specs.Loops.{inside}
use Rattle.nest_grammar.specs.Scripts.{Script, command_word}
use Rattle.nest_grammar.specs.Grammar.{IsStmt, let_, set, store, when, either, IsBraced, braced, IsList, none, more, IsBlock, block, IsSigned, unsigned, negative, IsStride, unwritten, written, IsHeading, counting, asking, IsLoops, innermost, outer, IsRows, one as row_one, more as row_more, IsCommand, seq, swap, skew, tile, par, wave, IsCommands, one as command_one, more as command_more, IsScript, empty, script, IsCandidates, none as candidates_none, more as candidates_more, IsUnit, unit, IsUnits, one as units_one, more as units_more, IsScalars, none as scalars_none, more as scalars_more, IsValues, one as values_one, more as values_more, IsItem, data_, ramp, IsItems, none as items_none, more as items_more, IsVersion, one as version_one, two as version_two, Reads, file}
use Rattle.canonical.specs.Pieces.{Space, plain, name, signed, spaced, line}
use Rattle.canonical.specs.Labels.{Labels, in_head, in_pre, in_post}
use Rattle.canonical.specs.Expressions.{expression_of}
use Rattle.canonical.specs.Statements.{let_line, set_line, store_line, if_line, else_line, close_line, statement_of, statement_lines, otherwise}
use Rattle.canonical.specs.Loops.{step_of, bounds_of, heading_of, opening_line, loop_lines}
use Rattle.canonical.specs.Scripts.{operand, signed_operand, command_of, next_command, commands_of, candidate_line}
use Rattle.canonical.specs.Contents.{version_line, scalar_line, memory_line, next_value, value_list, item_line, labels_in, unit_lines, pieces}
use Rattle.canonical.proofs.StatementEquationLaws.{statement-let, statement-set, statement-store, statement-if, otherwise-some, lines-last}
use Rattle.canonical.proofs.NestedLoopLaws.{loops-more}
use Rattle.canonical.proofs.ScriptsAgainLaws.{body, body-last, commands-body, commands-some}
use Rattle.canonical.proofs.ContentsAgainLaws.{values-last, values-some}
use Rattle.canonical.proofs.FewestLaws.{count, count-append, count-line, used, used-mark, used-name, used-number, fewest-expression}
use Rattle.canonical.proofs.PieceLaws.{flat_map-last}

count-let : (l : Labels) (k : ℕ) (e : Expr) (depth : ℕ) → count (statement_of l (Let k e) depth) ≡ 3 + count (expression_of l e)
unfolding let_line
count-let l k e depth = ap count (statement-let l k e depth) ∙ count-line depth (let_line l k e) ∙ omega arith

count-set : (l : Labels) (k : ℕ) (e : Expr) (depth : ℕ) → count (statement_of l (Set k e) depth) ≡ 2 + count (expression_of l e)
unfolding set_line
count-set l k e depth = ap count (statement-set l k e depth) ∙ count-line depth (set_line l k e) ∙ omega arith

count-store : (l : Labels) (k : ℕ) (a e : Expr) (depth : ℕ) → count (statement_of l (Store k a e) depth) ≡ count (expression_of l a) + (3 + count (expression_of l e))
unfolding store_line
count-store l k a e depth =
    let c = count-append (expression_of l a ++ plain mark.CloseBracket ∷ spaced mark.Assign) (expression_of l e) in
    let d = count-append (expression_of l a) (plain mark.CloseBracket ∷ spaced mark.Assign) in
    ap count (statement-store l k a e depth) ∙ count-line depth (store_line l a e) ∙ omega (arith, c, d)

count-if_line : (l : Labels) (e : Expr) → count (if_line l e) ≡ 2 + count (expression_of l e)
unfolding if_line
count-if_line l e = let c = count-append (expression_of l e) (Space ∷ plain mark.OpenBrace ∷ []) in omega (arith, c)

count-if : (l : Labels) (e : Expr) (xs ys : List Stmt) (depth : ℕ) → count (statement_of l (If e xs ys) depth) ≡ 3 + count (expression_of l e) + count (statement_lines l xs (depth + 1)) + count (otherwise l ys depth)
count-if l e xs ys depth =
    let a = line depth (if_line l e) in
    let b = statement_lines l xs (depth + 1) in
    let c = otherwise l ys depth in
    let x = count-append ((a ++ b) ++ c) (line depth close_line) in
    let y = count-append (a ++ b) c in
    let z = count-append a b in
    let f = count-line depth (if_line l e) in
    let g = count-line depth close_line in
    let h = count-if_line l e in
    ap count (statement-if l e xs ys depth) ∙ omega (arith, x, y, z, f, g, h)

count-otherwise : (l : Labels) (ys : List Stmt) (depth : ℕ) → count (otherwise l ys depth) ≤ 3 + count (statement_lines l ys (depth + 1))
unfolding otherwise
count-otherwise l [] depth = omega arith
count-otherwise l (y ∷ ys) depth =
    let c = ap count (otherwise-some l y ys depth) in
    let d = count-append (line depth else_line) (statement_lines l (y ∷ ys) (depth + 1)) in
    let e = count-line depth else_line in
    omega (arith, c, d, e)

count-no-else : (l : Labels) (depth : ℕ) → count (otherwise l [] depth) ≡ 0
unfolding otherwise
count-no-else l depth = refl

count-nothing : (l : Labels) (depth : ℕ) → count (statement_lines l [] depth) ≡ 0
unfolding statement_lines
count-nothing l depth = refl

count-last : (l : Labels) (xs : List Stmt) (st : Stmt) (depth : ℕ) → count (statement_lines l (xs ++ st ∷ []) depth) ≡ count (statement_lines l xs depth) + count (statement_of l st depth)
count-last l xs st depth = ap count (lines-last l xs st depth) ∙ count-append (statement_lines l xs depth) (statement_of l st depth)

mutual
  unfolding skip

  fewest-statement : (l : Labels) {d : ℕ} {names : Names} {s : Sight} {st : Stmt} {ns : Names} {t : Sight} → IsStmt d names s st ns t → (depth : ℕ) → count (statement_of l st depth) + length t.left ≤ length s.left
  fewest-statement l (let_ {d} {names} {n} {e} {s} {t} {u} h r k f q g i) depth =
      let c = count-let l (length s.lets) e depth in
      let x = used-mark s mark.Let h in
      let y = used-name (skip s) k in
      let z = used-mark t mark.Assign g in
      let w : t.left ≡ rest (rest s.left) = ap (λ (v : Sight). v.left) q in
      let v : length t.left ≡ length (rest (rest s.left)) = ap (λ m. length m) w in
      let b = fewest-expression l names (skip t) e u i in
      omega (arith, c, x, y, z, v, b)
  fewest-statement l (set {d} {k} {names} {n} {e} {s} {t} h f g i) depth =
      let c = count-set l k e depth in let x = used-name s h in let y = used-mark (skip s) mark.Assign g in
      let b = fewest-expression l names (skip (skip s)) e t i in
      omega (arith, c, x, y, b)
  fewest-statement l (store {d} {names} {a} {e} {s} {t} {u} h r i g k j) depth =
      let c = count-store l (u.accesses + 1) a e depth in let x = used-mark s mark.OpenBracket h in let y = used-mark t mark.CloseBracket g in let z = used-mark (skip t) mark.Assign k in
      let f = fewest-expression l names (skip (opens s)) a t i in let b = fewest-expression l names (skip (skip t)) e u j in
      omega (arith, c, x, y, z, f, b)
  fewest-statement l (when {d} {names} {e} {xs} {s} {t} {u} h i b) depth =
      let c = count-if l e xs [] depth in let o = count-no-else l depth in let x = used-mark s mark.If h in
      let f = fewest-expression l names (skip s) e t i in let g = fewest-braced l b (depth + 1) in
      omega (arith, c, o, x, f, g)
  fewest-statement l (either {d} {names} {e} {xs} {ys} {s} {t} {u} {v} h i b k c) depth =
      let n = count-if l e xs ys depth in let o = count-otherwise l ys depth in let x = used-mark s mark.If h in let y = used-mark u mark.Else k in
      let f = fewest-expression l names (skip s) e t i in let g = fewest-braced l b (depth + 1) in let p = fewest-braced l c (depth + 1) in
      omega (arith, n, o, x, y, f, g, p)

  fewest-braced : (l : Labels) {d : ℕ} {names : Names} {s : Sight} {xs : List Stmt} {t : Sight} → IsBraced d names s xs t → (depth : ℕ) → count (statement_lines l xs depth) + length t.left + 2 ≤ length s.left
  fewest-braced l (braced {d} {names} {ns} {xs} {s} {t} h i k) depth =
      let x = used-mark s mark.OpenBrace h in let y = used-mark t mark.CloseBrace k in let z = fewest-list l i depth in
      omega (arith, x, y, z)

  fewest-list : (l : Labels) {d : ℕ} {names : Names} {s : Sight} {xs : List Stmt} {ns : Names} {t : Sight} → IsList d names s xs ns t → (depth : ℕ) → count (statement_lines l xs depth) + length t.left ≤ length s.left
  fewest-list l (none {d} {names} {s}) depth = let c = count-nothing l depth in omega (arith, c)
  fewest-list l (more {d} {names} {ms} {ns} {xs} {st} {s} {t} {u} i j) depth =
      let c = count-last l xs st depth in let x = fewest-list l i depth in let y = fewest-statement l j depth in
      omega (arith, c, x, y)

fewest-block : (l : Labels) (names : Names) (s : Sight) (xs : List Stmt) (lets : List Name) (t : Sight) → IsBlock names s xs lets t → (depth : ℕ) → count (statement_lines l xs depth) + length t.left ≤ length s.left
fewest-block l names s xs _ t (block {ns} i) depth = fewest-list l i depth

count-minus : (n : ℕ) → count (signed (with_sign true n)) ≤ 2
unfolding signed
count-minus zero = omega arith
count-minus (suc n) = omega arith

fewest-signed : (s : Sight) (v : ℤ) (t : Sight) → IsSigned s v t → count (signed v) + length t.left ≤ length s.left
unfolding skip signed
fewest-signed _ _ _ (unsigned {n} {s} h) = let x = used-number s n h in omega (arith, x)
fewest-signed _ _ _ (negative {n} {s} h k) = let x = used-mark s mark.Minus h in let y = used-number (skip s) n k in let c = count-minus n in omega (arith, x, y, c)

count-step : (k : ℤ) → count (step_of k) ≤ 1 + count (signed k)
unfolding step_of
count-step k = elim (same k (pos 1)) as (λ b. count (cond b [] (spaced mark.Step ++ signed k)) ≤ 1 + count (signed k)) [ true ↦ omega arith | false ↦ omega arith ]

fewest-stride : (s : Sight) (k : ℤ) (t : Sight) → IsStride s k t → count (step_of k) + length t.left ≤ length s.left
unfolding skip step_of
fewest-stride _ _ _ (unwritten {s}) = omega arith
fewest-stride _ _ _ (written {k} {s} {t} h i nz) = let x = used-mark s mark.Step h in let y = fewest-signed (skip s) k t i in let c = count-step k in omega (arith, x, y, c)

count-bounds : (l : Labels) (lower upper : Expr) (k : ℤ) → count (bounds_of l lower upper k) ≡ 2 + count (expression_of l lower) + count (expression_of l upper) + count (step_of k)
unfolding bounds_of
count-bounds l lower upper k =
    let x = count-append (((expression_of l lower) ++ spaced mark.Below) ++ expression_of l upper) (step_of k) in
    let y = count-append (expression_of l lower ++ spaced mark.Below) (expression_of l upper) in
    let z = count-append (expression_of l lower) (spaced mark.Below) in
    omega (arith, x, y, z)

fewest-heading : (l : Labels) (level : ℕ) (names : Names) (s : Sight) (h : Head) (n : Option Name) (t : Sight) → IsHeading names s h n t → count (heading_of l level h) + length t.left ≤ length s.left
unfolding skip heading_of
fewest-heading l level names _ _ _ _ (counting {n} {lower} {upper} {k} {s} {t} {u} {v} h c f g i d j st) =
    let b = count-bounds l lower upper k in
    let w = used-mark s mark.For h in let x = used-name (skip s) c in let y = used-mark (skip (skip s)) mark.Assign g in let z = used-mark t mark.Below d in
    let e = fewest-expression l names (in_block (skip (skip (skip s)))) lower t i in let a = fewest-expression l names (skip t) upper u j in let q = fewest-stride u k v st in
    omega (arith, b, w, x, y, z, e, a, q)
fewest-heading l level names _ _ _ _ (asking {e} {s} {t} h i) = let w = used-mark s mark.While h in let x = fewest-expression l names (in_block (skip s)) e t i in omega (arith, w, x)

count-opening : (l : Labels) (level : ℕ) (h : Head) → count (opening_line l level h) ≡ 1 + count (heading_of (in_head l) level h)
unfolding opening_line
count-opening l level h =
    let x = count-line level (heading_of (in_head l) level h ++ Space ∷ plain mark.OpenBrace ∷ []) in
    let y = count-append (heading_of (in_head l) level h) (Space ∷ plain mark.OpenBrace ∷ []) in
    omega (arith, x, y)

count-loops : (l : Labels) (level : ℕ) (h : Head) (pre post : List Stmt) (ls : List Loop) → count (loop_lines l level (record { head = h; pre = pre; post = post } ∷ ls)) ≡ 2 + count (heading_of (in_head l) level h) + count (statement_lines (in_pre l level) pre (level + 1)) + count (loop_lines l (level + 1) ls) + count (statement_lines (in_post l level) post (level + 1))
count-loops l level h pre post ls =
    let a = opening_line l level h in
    let b = statement_lines (in_pre l level) pre (level + 1) in
    let c = loop_lines l (level + 1) ls in
    let d = statement_lines (in_post l level) post (level + 1) in
    let w = count-append (((a ++ b) ++ c) ++ d) (line level close_line) in
    let x = count-append ((a ++ b) ++ c) d in
    let y = count-append (a ++ b) c in
    let z = count-append a b in
    let o = count-opening l level h in
    let e = count-line level close_line in
    ap count (loops-more l level (record { head = h; pre = pre; post = post }) ls) ∙ omega (arith, w, x, y, z, o, e)

count-no-loops : (l : Labels) (level : ℕ) → count (loop_lines l level []) ≡ 0
unfolding loop_lines
count-no-loops l level = refl

fewest-loops : (l : Labels) {d level : ℕ} {names : Names} {s : Sight} {ls : List Loop} {ns : List LoopNames} {t : Sight} → IsLoops d level names s ls ns t → count (loop_lines l level ls) + length t.left ≤ length s.left
unfolding skip
fewest-loops l (innermost {d} {level} {names} {h} {n} {pre} {lets} {s} {t} {u} i o b ne c) =
    let k = count-loops l level h pre [] [] in let e = count-no-loops l (level + 1) in let p = count-nothing (in_post l level) (level + 1) in
    let x = fewest-heading (in_head l) level names s h n t i in let y = used-mark t mark.OpenBrace o in let z = used-mark u mark.CloseBrace c in
    let f = fewest-block (in_pre l level) (inside names level n) (skip t) pre lets u b (level + 1) in
    omega (arith, k, e, p, x, y, z, f)
fewest-loops l (outer {d} {level} {names} {h} {n} {pre} {post} {lets} {post_lets} {ls} {ns} {s} {t} {u} {v} {w} i o b j c z) =
    let k = count-loops l level h pre post ls in
    let x = fewest-heading (in_head l) level names s h n t i in let y = used-mark t mark.OpenBrace o in let q = used-mark w mark.CloseBrace z in
    let f = fewest-block (in_pre l level) (inside names level n) (skip t) pre lets u b (level + 1) in
    let r : count (loop_lines l (level + 1) ls) + length v.left ≤ length u.left = subst (λ (m : ℕ). count (loop_lines l m ls) + length v.left ≤ length u.left) (sym (add-one level)) (fewest-loops l j) in
    let g = fewest-block (in_post l level) (inside names level n) v post post_lets w c (level + 1) in
    omega (arith, k, x, y, q, f, r, g)

count-rows : (ns : List ℕ) (n : ℕ) → count (flat_map operand (ns ++ n ∷ [])) ≡ count (flat_map operand ns) + 1
count-rows ns n = ap count (flat_map-last operand ns n) ∙ count-append (flat_map operand ns) (operand n)

fewest-rows : (depth : ℕ) {s : Sight} {ns : List ℕ} {t : Sight} → IsRows depth s ns t → count (flat_map operand ns) + length t.left ≤ length s.left
unfolding skip
fewest-rows depth (row_one {n} {s} h r) = let x = used-number s n h in omega (arith, x)
fewest-rows depth (row_more {n} {ns} {s} {t} i len h r) = let c = count-rows ns n in let x = fewest-rows depth i in let y = used-number t n h in omega (arith, c, x, y)

no-word : (x : Token) (w : CommandWord) → command_word x ≡ Some w → x ≢ token.End
unfolding command_word
no-word x w h e = let q : command_word token.End ≡ Some w = subst (λ (t : Token). command_word t ≡ Some w) e h in absurd (cc)

used-word : (s : Sight) (w : CommandWord) → command_word (stands s) ≡ Some w → length s.left ≡ suc (length (rest s.left))
unfolding here
used-word s w h = used s.size s.left (stands s) refl (no-word (stands s) w h)

left-of : (s t : Sight) → t ≡ s → length t.left ≡ length s.left
left-of s t q = ap (λ (v : Sight). length v.left) q

fewest-command : (depth : ℕ) (cs : Script) {s : Sight} {c : Command} {t : Sight} → IsCommand depth cs s c t → count (command_of c) + length t.left ≤ length s.left
unfolding skip command_of signed
fewest-command depth cs (seq {n} {s} k may h r) = let x = used-word s _ k in let y = used-number (skip s) n h in omega (arith, x, y)
fewest-command depth cs (swap {a} {b} {s} {t} k ha ra q hb rb ne) = let x = used-word s _ k in let y = used-number (skip s) a ha in let w = left-of (skip (skip s)) t q in let z = used-number t b hb in omega (arith, x, y, w, z)
fewest-command depth cs (skew {a} {b} {m} {s} {t} {u} k may ha ra q hb rb ne i r) =
    let x = used-word s _ k in let y = used-number (skip s) a ha in let w = left-of (skip (skip s)) t q in let z = used-number t b hb in let v = fewest-signed (skip t) m u i in
    omega (arith, x, y, w, z, v)
fewest-command depth cs (tile {a} {n} {s} {t} k ha ra q hb r) = let x = used-word s _ k in let y = used-number (skip s) a ha in let w = left-of (skip (skip s)) t q in let z = used-number t n hb in omega (arith, x, y, w, z)
fewest-command depth cs (par {ns} {s} {t} k i) = let x = used-word s _ k in let y = fewest-rows depth i in omega (arith, x, y)
fewest-command depth cs (wave {ns} {s} {t} k i) = let x = used-word s _ k in let y = fewest-rows depth i in omega (arith, x, y)

fewest-commands : (depth : ℕ) {s : Sight} {cs : Script} {t : Sight} → IsCommands depth s cs t → count (body cs) + length t.left ≤ length s.left
unfolding skip
fewest-commands depth (command_one {c} {s} {t} i) = let x = fewest-command depth [] i in let e = ap count (append-nil (command_of c)) in omega (arith, x, e)
fewest-commands depth (command_more {cs} {c} {s} {t} {u} i k len j) =
    let x = fewest-commands depth i in let y = used-mark t mark.Semicolon k in let z = fewest-command depth cs j in
    let e = ap count (body-last cs c (commands-some depth i)) in let f = count-append (body cs) (next_command c) in
    omega (arith, x, y, z, e, f)

fewest-script : (depth : ℕ) {s : Sight} {cs : Script} {t : Sight} → IsScript depth s cs t → 2 + count (commands_of cs) + length t.left ≤ length s.left
unfolding skip commands_of
fewest-script depth (empty {s} o c) = let x = used-mark s mark.OpenBrace o in let y = used-mark (skip s) mark.CloseBrace c in omega (arith, x, y)
fewest-script depth (script {cs} {s} {t} o i c) =
    let x = used-mark s mark.OpenBrace o in let y = used-mark t mark.CloseBrace c in let z = fewest-commands depth i in
    let e = ap count (commands-body cs (commands-some depth i)) in let f = count-append (body cs) (Space ∷ []) in
    omega (arith, x, y, z, e, f)

count-candidate : (cs : Script) → count (candidate_line cs) ≡ 3 + count (commands_of cs)
unfolding candidate_line
count-candidate cs =
    let x = count-line 0 (plain mark.Candidate ∷ Space ∷ plain mark.OpenBrace ∷ Space ∷ commands_of cs ++ plain mark.CloseBrace ∷ []) in
    let y = count-append (commands_of cs) (plain mark.CloseBrace ∷ []) in
    omega (arith, x, y)

fewest-candidates : (depth : ℕ) {s : Sight} {scripts : List Script} {t : Sight} → IsCandidates depth s scripts t → count (flat_map candidate_line scripts) + length t.left ≤ length s.left
unfolding skip
fewest-candidates depth (candidates_none {s}) = omega arith
fewest-candidates depth (candidates_more {scripts} {cs} {s} {t} {u} i k len j) =
    let x = fewest-candidates depth i in let y = used-mark t mark.Candidate k in let z = fewest-script depth j in
    let e = ap count (flat_map-last candidate_line scripts cs) in let f = count-append (flat_map candidate_line scripts) (candidate_line cs) in let g = count-candidate cs in
    omega (arith, x, y, z, e, f, g)

count-scalar : (c : Scalar) → count (scalar_line c) ≡ 3 + count (signed c.value)
unfolding scalar_line
count-scalar c = let x = count-line 0 (plain mark.Scalar ∷ Space ∷ name c.name ∷ spaced mark.Assign ++ signed c.value) in omega (arith, x)

fewest-scalars : {s : Sight} {cs : List Scalar} {t : Sight} → IsScalars s cs t → count (flat_map scalar_line cs) + length t.left ≤ length s.left
unfolding skip
fewest-scalars (scalars_none {s}) = omega arith
fewest-scalars (scalars_more {cs} {n} {v} {s} {t} {u} i k len h f g j) =
    let c : Scalar = record { name = n; value = v } in
    let w = fewest-scalars i in let x = used-mark t mark.Scalar k in let y = used-name (skip t) h in let z = used-mark (skip (skip t)) mark.Assign g in let q = fewest-signed (skip (skip (skip t))) v u j in
    let e = ap count (flat_map-last scalar_line cs c) in let a = count-append (flat_map scalar_line cs) (scalar_line c) in let b = count-scalar c in
    omega (arith, w, x, y, z, q, e, a, b)

fewest-values : (words fst : ℕ) {s : Sight} {vs : List ℤ} {t : Sight} → IsValues words fst s vs t → count (value_list vs) + length t.left ≤ length s.left
unfolding skip value_list
fewest-values words fst (values_one {v} {s} {t} h i) = let x = fewest-signed s v t i in let e = ap count (append-nil (signed v)) in omega (arith, x, e)
fewest-values words fst (values_more {vs} {v} {s} {t} {u} i k h j) =
    let x = fewest-values words fst i in let y = used-mark t mark.Comma k in let z = fewest-signed (skip t) v u j in
    let e = ap count (values-last vs v (values-some words fst i)) in let f = count-append (value_list vs) (next_value v) in
    omega (arith, x, y, z, e, f)

count-data : (fst : ℕ) (vs : List ℤ) → count (item_line (Data fst vs)) ≡ 3 + count (value_list vs)
unfolding item_line
count-data fst vs = let x = count-line 0 (plain mark.Data ∷ operand fst ++ plain mark.Colon ∷ value_list vs) in omega (arith, x)

count-ramp : (fst count_ stride : ℕ) (begin growth : ℤ) → count (item_line (Ramp fst count_ stride begin growth)) ≡ 4 + count (signed begin) + count (signed growth)
unfolding item_line
count-ramp fst count_ stride begin growth =
    let x = count-line 0 (plain mark.Ramp ∷ operand fst ++ operand count_ ++ operand stride ++ signed_operand begin ++ signed_operand growth) in
    let y = count-append (signed begin) (signed_operand growth) in
    omega (arith, x, y)

fewest-item : (words : ℕ) {s : Sight} {i : Item} {t : Sight} → IsItem words s i t → count (item_line i) + length t.left ≤ length s.left
unfolding skip
fewest-item words (data_ {first = fst} {vs} {s} {t} {u} h k q c i) =
    let e = count-data fst vs in let x = used-mark s mark.Data h in let y = used-number (skip s) fst k in let w = left-of (skip (skip s)) t q in let z = used-mark t mark.Colon c in let v = fewest-values words fst i in
    omega (arith, e, x, y, w, z, v)
fewest-item words (ramp {first = fst} {count = many} {stride} {start = begin} {growth} {s} {t} {u} {v} {w = x} h k q kc q2 ks nz i j r) =
    let e = count-ramp fst many stride begin growth in let a = used-mark s mark.Ramp h in let b = used-number (skip s) fst k in let c = left-of (skip (skip s)) t q in
    let d = used-number t many kc in let f = left-of (skip t) u q2 in let g = used-number u stride ks in
    let m = fewest-signed (skip u) begin v i in let n = fewest-signed v growth x j in
    omega (arith, e, a, b, c, d, f, g, m, n)

fewest-items : (words : ℕ) {s : Sight} {is : List Item} {t : Sight} → IsItems words s is t → count (flat_map item_line is) + length t.left ≤ length s.left
fewest-items words (items_none {s}) = omega arith
fewest-items words (items_more {is} {i} {s} {t} {u} j k) =
    let x = fewest-items words j in let y = fewest-item words k in
    let e = ap count (flat_map-last item_line is i) in let f = count-append (flat_map item_line is) (item_line i) in
    omega (arith, x, y, e, f)

fewest-unit : (version : Version) (cs : List Scalar) {s : Sight} {n : NestUnit} {t : Sight} → IsUnit version (names_of cs) s n t → count (unit_lines cs n) + length t.left ≤ length s.left
unfolding unit_lines
fewest-unit version cs (unit {ls} {ns} {scripts} {s} {t} {u} i c) =
    let x = fewest-loops (labels_in cs ns) i in let y = fewest-candidates (length ls) c in
    let e = count-append (loop_lines (labels_in cs ns) 0 ls) (flat_map candidate_line scripts) in
    omega (arith, x, y, e)

fewest-units : (cs : List Scalar) {version : Version} {s : Sight} {us : List NestUnit} {t : Sight} → IsUnits (names_of cs) version s us t → count (flat_map (unit_lines cs) us) + length t.left ≤ length s.left
fewest-units cs (units_one {version} {n} {s} {t} i) = let x = fewest-unit version cs i in let e = ap count (append-nil (unit_lines cs n)) in omega (arith, x, e)
fewest-units cs (units_more {ns} {n} {s} {t} {u} i len j) =
    let x = fewest-units cs i in let y = fewest-unit Several cs j in
    let e = ap count (flat_map-last (unit_lines cs) ns n) in let f = count-append (flat_map (unit_lines cs) ns) (unit_lines cs n) in
    omega (arith, x, y, e, f)

fewest-version : {s : Sight} {v : Version} {t : Sight} → IsVersion s v t → count (version_line v) + length t.left ≤ length s.left
unfolding skip version_line
fewest-version (version_one {s} h k) = let x = used-mark s mark.Nest h in let y = used-number (skip s) 1 k in let e = count-line 0 (plain mark.Nest ∷ operand 1) in omega (arith, x, y, e)
fewest-version (version_two {s} h k) = let x = used-mark s mark.Nest h in let y = used-number (skip s) 2 k in let e = count-line 0 (plain mark.Nest ∷ operand 2) in omega (arith, x, y, e)

count-memory : (words : ℕ) → count (memory_line words) ≡ 2
unfolding memory_line
count-memory words = count-line 0 (plain mark.Memory ∷ operand words)

-- a text that reads as a file has as many tokens as its canonical pieces have words, or more
pub fewest-words : (text : List ℕ) (f : File) → Reads text f → count (pieces f) ≤ length (tokens text)
unfolding skip pieces
fewest-words text _ (file {version} {scalars} {words} {items} {units} {s} {t} {u} {v} len vers scs mem wd le its us e) =
    let a = version_line version in
    let b = flat_map scalar_line scalars in
    let c = memory_line words in
    let d = flat_map item_line items in
    let x = flat_map (unit_lines scalars) units in
    let p = count-append (((a ++ b) ++ c) ++ d) x in let q = count-append ((a ++ b) ++ c) d in let r = count-append (a ++ b) c in let m = count-append a b in
    let n = count-memory words in let g = fewest-version vers in let h = fewest-scalars scs in let i = used-mark t mark.Memory mem in let j = used-number (skip t) words wd in
    let k = fewest-items words its in let o = fewest-units scalars us in
    omega (arith, p, q, r, m, n, g, h, i, j, k, o)
