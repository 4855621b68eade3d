-- Versions: what stands between two sights leaves the version as it is.
use Rattle.std.proofs.Common.{◌≡◌, ℕ, List, refl, ◌∙◌, ap, Option, ℤ}
use Rattle.nest_lang.specs.declared.tree.Expr.{Expr}
use Rattle.nest_lang.specs.declared.tree.Stmt.{Stmt}
use Rattle.nest_lang.specs.declared.tree.Head.{Head}
use Rattle.nest_lang.specs.declared.tree.Loop.{Loop}
use Rattle.nest_lang.specs.declared.command.Command.{Command}
use Rattle.nest_tokens.specs.declared.token.Name.{Name}
use Rattle.nest_grammar.specs.declared.version.Version.{Version}
use Rattle.nest_grammar.specs.declared.file.Scalar.{Scalar}
use Rattle.nest_grammar.specs.declared.file.Item.{Item}
use Rattle.nest_grammar.specs.declared.file.LoopNames.{LoopNames}
use Rattle.nest_grammar.specs.declared.file.NestUnit.{NestUnit}
use Rattle.nest_grammar.specs.Sights.{Sight, skip}
use Rattle.nest_grammar.specs.Names.{Names}
use Rattle.nest_grammar.specs.Scripts.{Script}
use Rattle.nest_grammar.specs.Grammar.{Precedence, Is, number, variable, minus, parens, load, factor, product, summand, addition, side, comparison, IsStmt, IsBraced, IsList, IsBlock, IsSigned, unsigned, negative, IsStride, unwritten, written, IsHeading, counting, asking, IsLoops, innermost, outer, IsRows, IsCommand, seq, swap, skew, tile, par, wave, IsCommands, IsScript, IsCandidates, IsUnit, IsScalars, IsValues, IsItem, data_, ramp, IsItems}
use Rattle.nest_grammar.specs.Grammar as grammar

abbrev Kept : Sight → Sight → Type 0
Kept s t = t.version ≡ s.version

kept-expression : {names : Names} {p : Precedence} {d : ℕ} {s : Sight} {e : Expr} {t : Sight} → Is names p d s e t → Kept s t
unfolding skip
kept-expression (number h r) = refl
kept-expression (variable h k r) = refl
kept-expression (minus h r i) = kept-expression i
kept-expression (parens h r i k l) = kept-expression i
kept-expression (load h a r i k l) = kept-expression i
kept-expression (factor i) = kept-expression i
kept-expression (product i k r j) = kept-expression j ∙ kept-expression i
kept-expression (summand i) = kept-expression i
kept-expression (addition i k r j) = kept-expression j ∙ kept-expression i
kept-expression (side i) = kept-expression i
kept-expression (comparison i k r j) = kept-expression j ∙ kept-expression i

mutual
  unfolding skip

  kept-statement : {d : ℕ} {names ns : Names} {s t : Sight} {st : Stmt} → IsStmt d names s st ns t → Kept s t
  kept-statement (grammar.let_ h l k f q a i) = kept-expression i ∙ ap (λ (x : Sight). x.version) q
  kept-statement (grammar.set h f a i) = kept-expression i
  kept-statement (grammar.store h l i c k j) = kept-expression j ∙ kept-expression i
  kept-statement (grammar.when h i b) = kept-braced b ∙ kept-expression i
  kept-statement (grammar.either h i b k c) = kept-braced c ∙ kept-braced b ∙ kept-expression i

  kept-braced : {d : ℕ} {names : Names} {s t : Sight} {xs : List Stmt} → IsBraced d names s xs t → Kept s t
  kept-braced (grammar.braced h l c) = kept-list l

  kept-list : {d : ℕ} {names ns : Names} {s t : Sight} {xs : List Stmt} → IsList d names s xs ns t → Kept s t
  kept-list grammar.none = refl
  kept-list (grammar.more l i) = kept-statement i ∙ kept-list l

kept-block : {names : Names} {s : Sight} {xs : List Stmt} {lets : List Name} {t : Sight} → IsBlock names s xs lets t → Kept s t
kept-block (grammar.block l) = kept-list l

kept-signed : {s : Sight} {v : ℤ} {t : Sight} → IsSigned s v t → Kept s t
unfolding skip
kept-signed (unsigned h) = refl
kept-signed (negative h k) = refl

kept-stride : {s : Sight} {k : ℤ} {t : Sight} → IsStride s k t → Kept s t
unfolding skip
kept-stride unwritten = refl
kept-stride (written h i n) = kept-signed i

kept-heading : {names : Names} {s : Sight} {h : Head} {n : Option Name} {t : Sight} → IsHeading names s h n t → Kept s t
unfolding skip
kept-heading (counting a b f c i d j e) = kept-stride e ∙ kept-expression j ∙ kept-expression i
kept-heading (asking a i) = kept-expression i

kept-loops : {d level : ℕ} {names : Names} {s t : Sight} {ls : List Loop} {ns : List LoopNames} → IsLoops d level names s ls ns t → Kept s t
unfolding skip
kept-loops (innermost h o b p c) = kept-block b ∙ kept-heading h
kept-loops (outer h o b l q c) = kept-block q ∙ kept-loops l ∙ kept-block b ∙ kept-heading h

kept-rows : {depth : ℕ} {s : Sight} {ns : List ℕ} {t : Sight} → IsRows depth s ns t → Kept s t
unfolding skip
kept-rows (grammar.one h r) = refl
kept-rows (grammar.more i l h r) = kept-rows i

kept-command : {depth : ℕ} {cs : Script} {s : Sight} {c : Command} {t : Sight} → IsCommand depth cs s c t → Kept s t
unfolding skip
kept-command (seq h m a r) = refl
kept-command (swap h i r q j k n) = ap (λ (x : Sight). x.version) q
kept-command (skew h f i r q j k n v w) = kept-signed v ∙ ap (λ (x : Sight). x.version) q
kept-command (tile h i r q j k) = ap (λ (x : Sight). x.version) q
kept-command (par h i) = kept-rows i
kept-command (wave h i) = kept-rows i

kept-commands : {depth : ℕ} {s : Sight} {cs : Script} {t : Sight} → IsCommands depth s cs t → Kept s t
unfolding skip
kept-commands (grammar.one i) = kept-command i
kept-commands (grammar.more i h l j) = kept-command j ∙ kept-commands i

kept-script : {depth : ℕ} {s : Sight} {cs : Script} {t : Sight} → IsScript depth s cs t → Kept s t
unfolding skip
kept-script (grammar.empty h k) = refl
kept-script (grammar.script h i k) = kept-commands i

kept-candidates : {depth : ℕ} {s : Sight} {scripts : List Script} {t : Sight} → IsCandidates depth s scripts t → Kept s t
unfolding skip
kept-candidates grammar.none = refl
kept-candidates (grammar.more i h l j) = kept-script j ∙ kept-candidates i

pub kept-unit : {version : Version} {names : Names} {s : Sight} {u : NestUnit} {t : Sight} → IsUnit version names s u t → Kept s t
kept-unit (grammar.unit i j) = kept-candidates j ∙ kept-loops i

pub kept-scalars : {s : Sight} {cs : List Scalar} {t : Sight} → IsScalars s cs t → Kept s t
unfolding skip
kept-scalars grammar.none = refl
kept-scalars (grammar.more i h l k f a j) = kept-signed j ∙ kept-scalars i

kept-values : {words first : ℕ} {s : Sight} {vs : List ℤ} {t : Sight} → IsValues words first s vs t → Kept s t
unfolding skip
kept-values (grammar.one l i) = kept-signed i
kept-values (grammar.more i h l j) = kept-signed j ∙ kept-values i

kept-item : {words : ℕ} {s : Sight} {i : Item} {t : Sight} → IsItem words s i t → Kept s t
unfolding skip
kept-item (data_ h n q c v) = kept-values v ∙ ap (λ (x : Sight). x.version) q
kept-item (ramp h f q c r k n i j m) = kept-signed j ∙ kept-signed i ∙ ap (λ (x : Sight). x.version) r ∙ ap (λ (x : Sight). x.version) q

pub kept-items : {words : ℕ} {s : Sight} {is : List Item} {t : Sight} → IsItems words s is t → Kept s t
kept-items grammar.none = refl
kept-items (grammar.more i j) = kept-item j ∙ kept-items i
