-- What each statement does, one level at a time, and how blocks go on.
use Rattle.std.proofs.Common.{◌≡◌, refl, ap, ◌∙◌, sym, ℕ, map, ◌<◌, ◌+◌, ◌≤◌, List, [], ◌∷◌, ◌++◌, length, drop, get_or, None, rules}
use Rattle.std.proofs.lemmas.List.{drop_all, drop_more}
use Rattle.nest_lang.specs.declared.tree.Expr.{Expr}
use Rattle.nest_lang.specs.declared.tree.Stmt.{Stmt, the_lemmas}
use Rattle.nest_lang.specs.declared.tree.Stmt.TheOpen.{Stmt-F}
use Rattle.nest_lang.specs.declared.tree.Stmt.TheVariants.{Let, Set, If}
use Rattle.nest_lang.specs.declared.tree.Stmt.TheVariants as stmt
use Rattle.nest_lang.specs.declared.tree.Stmt.TheFolds.{fold_out-Stmt}
use Rattle.nest_lang.specs.Stores.{Store}
use Rattle.nest_lang.specs.Traces.{Trace, in_turn, traced, Finish, Done, Limited, Cut, cut_of, cut, seen_in}
use Rattle.nest_lang.specs.Expressions.{Frame, told}
use Rattle.nest_lang.specs.Statements.{statement_level, statement_trace, block_trace}
use Rattle.nest_lang.proofs.CutLaws.{cut-due, cut-end, cut-turn, resumed, resumed-not, seen-due, seen-turn, rest_seen}
use Rattle.nest_lang.proofs.StepLaws.{with_value-before, stored-before}

-- a statement shows nothing before its step is due
level-before : (f : Frame) (x : Stmt-F (Store → Trace)) (s : Store) → (statement_level f x s).entry.before ≡ []
level-before f (Stmt-F.Let number e) s = with_value-before _ (told f s e).value _ (λ v. refl)
level-before f (Stmt-F.Set number e) s = with_value-before _ (told f s e).value _ (λ v. refl)
level-before f (Stmt-F.Store access a e) s = with_value-before _ (told f s a).value _ (λ address. with_value-before _ (told f s e).value _ (λ v. stored-before _ address v _))
level-before f (Stmt-F.If e first second) s = with_value-before _ (told f s e).value _ (λ v. refl)

seen-level-due : (f : Frame) (x : Stmt-F (Store → Trace)) (s : Store) (left : ℕ) → left ≡ 0 → seen_in (traced (statement_level f x s) s) left ≡ []
seen-level-due f x s left e = seen-due (statement_level f x s) s left e ∙ level-before f x s

module _ (f : Frame) where
  pub statement-let : (number : ℕ) (e : Expr) (s : Store) → statement_trace f (Let number e) s ≡ traced (statement_level f (Stmt-F.Let number e) s) s
  unfolding statement_trace
  statement-let number e s = search (rules, the_lemmas)

  pub statement-set : (number : ℕ) (e : Expr) (s : Store) → statement_trace f (Set number e) s ≡ traced (statement_level f (Stmt-F.Set number e) s) s
  unfolding statement_trace
  statement-set number e s = search (rules, the_lemmas)

  pub statement-store : (access : ℕ) (a e : Expr) (s : Store) → statement_trace f (stmt.Store access a e) s ≡ traced (statement_level f (Stmt-F.Store access a e) s) s
  unfolding statement_trace
  statement-store access a e s = search (rules, the_lemmas)

  pub statement-if : (e : Expr) (first second : List Stmt) (s : Store) → statement_trace f (If e first second) s ≡ traced (statement_level f (Stmt-F.If e (map (statement_trace f) first) (map (statement_trace f) second)) s) s
  unfolding statement_trace
  statement-if e first second s = search (rules, the_lemmas)

  -- a statement is due, and no step is left
  pub statement-due : (x : Stmt) (s : Store) (left used : ℕ) → left ≡ 0 → cut (statement_trace f x s) s left used ≡ cut_of s left used Limited
  unfolding statement_trace
  statement-due x s left used e = rw fold_out-Stmt (search (rules, cut-due))

  -- the part of a step that runs a block
  pub block-is : (xs : List Stmt) (s : Store) → in_turn (map (statement_trace f) xs) s ≡ block_trace f xs s
  unfolding block_trace
  block-is xs s = refl

  pub block-nil : (s : Store) (left used : ℕ) → cut (block_trace f [] s) s left used ≡ cut_of s left used Done
  unfolding block_trace
  block-nil s left used = cut-end None s left used

  pub block-cons : (x : Stmt) (xs : List Stmt) (s : Store) (left used : ℕ) → cut (block_trace f (x ∷ xs) s) s left used ≡ resumed (cut (statement_trace f x s) s left used) (block_trace f xs)
  unfolding block_trace
  block-cons x xs s left used = cut-turn (statement_trace f x) (map (statement_trace f) xs) s left used

  pub seen-block-cons : (x : Stmt) (xs : List Stmt) (s : Store) (left used : ℕ) → seen_in (block_trace f (x ∷ xs) s) left ≡ seen_in (statement_trace f x s) left ++ rest_seen (cut (statement_trace f x s) s left used) (block_trace f xs)
  unfolding block_trace
  seen-block-cons x xs s left used = seen-turn (statement_trace f x) (map (statement_trace f) xs) s left used

  pub seen-block-nil : (s : Store) (left : ℕ) → seen_in (block_trace f [] s) left ≡ []
  unfolding block_trace seen_in
  seen-block-nil s left = refl

  -- at the end of a block
  pub block-end : (xs : List Stmt) (i : ℕ) (s : Store) (left used : ℕ) → length xs ≤ i → cut (block_trace f (drop i xs) s) s left used ≡ cut_of s left used Done
  block-end xs i s left used h = rw (drop_all i xs h) (block-nil s left used)

  pub seen-block-end : (xs : List Stmt) (i : ℕ) (s : Store) (left : ℕ) → length xs ≤ i → seen_in (block_trace f (drop i xs) s) left ≡ []
  seen-block-end xs i s left h = rw (drop_all i xs h) (seen-block-nil s left)

  from-item : (xs : List Stmt) (i : ℕ) (x : Stmt) → i < length xs → x ≡ get_or xs i x → drop i xs ≡ x ∷ drop (i + 1) xs
  from-item xs i x h e = drop_more xs i x h ∙ ap (λ y. y ∷ drop (i + 1) xs) (sym e)

  -- at a statement of a block
  pub block-at : (xs : List Stmt) (i : ℕ) (x : Stmt) (s : Store) (left used : ℕ) → i < length xs → x ≡ get_or xs i x → cut (block_trace f (drop i xs) s) s left used ≡ resumed (cut (statement_trace f x s) s left used) (block_trace f (drop (i + 1) xs))
  block-at xs i x s left used h e = rw (from-item xs i x h e) (block-cons x (drop (i + 1) xs) s left used)

  pub seen-block-at : (xs : List Stmt) (i : ℕ) (x : Stmt) (s : Store) (left used : ℕ) → i < length xs → x ≡ get_or xs i x → seen_in (block_trace f (drop i xs) s) left ≡ seen_in (statement_trace f x s) left ++ rest_seen (cut (statement_trace f x s) s left used) (block_trace f (drop (i + 1) xs))
  seen-block-at xs i x s left used h e = rw (from-item xs i x h e) (seen-block-cons x (drop (i + 1) xs) s left used)

  -- a statement was run and was done: what is left of the block gives what the block did
  pub run-next : (xs : List Stmt) (i : ℕ) (x : Stmt) (s s' : Store) (left used left' used' : ℕ) (e : Finish) (whole : Cut) → cut_of s' left' used' e ≡ cut (statement_trace f x s) s left used → e ≡ Done → i < length xs → x ≡ get_or xs i x → cut (block_trace f (drop i xs) s) s left used ≡ whole → cut (block_trace f (drop (i + 1) xs) s') s' left' used' ≡ whole
  run-next xs i x s s' left used left' used' e whole run is h item rest =
      let done : cut_of s' left' used' Done ≡ cut (statement_trace f x s) s left used = rw is at run in
      ap (λ k. resumed k (block_trace f (drop (i + 1) xs))) done ∙ sym (block-at xs i x s left used h item) ∙ rest

  -- a statement was run and was not done: so was the block
  pub run-out : (xs : List Stmt) (i : ℕ) (x : Stmt) (s s' : Store) (left used left' used' : ℕ) (e : Finish) (whole : Cut) → cut_of s' left' used' e ≡ cut (statement_trace f x s) s left used → (e ≡ Done → ⊥) → i < length xs → x ≡ get_or xs i x → cut (block_trace f (drop i xs) s) s left used ≡ whole → cut_of s' left' used' e ≡ whole
  run-out xs i x s s' left used left' used' e whole run other h item rest =
      sym (resumed-not (cut_of s' left' used' e) (block_trace f (drop (i + 1) xs)) other) ∙ ap (λ k. resumed k (block_trace f (drop (i + 1) xs))) run ∙ sym (block-at xs i x s left used h item) ∙ rest

  -- a statement shows nothing where no step is left
  pub seen-statement-due : (x : Stmt) (s : Store) (left : ℕ) → left ≡ 0 → seen_in (statement_trace f x s) left ≡ []
  unfolding statement_trace
  seen-statement-due x s left e = rw fold_out-Stmt (search (rules, seen-level-due))

pub ruleset statements = (statement-let, statement-set, statement-store, statement-if, statement-due, seen-statement-due, block-is)
