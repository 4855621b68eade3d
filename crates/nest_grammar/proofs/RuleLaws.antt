-- Rules: what holds of every file that a text is.
use Rattle.std.proofs.Common.{◌≡◌, ℕ, ◌+◌, suc, ◌<◌, ◌≤◌, ℤ, pos, List, [], ◌∷◌, ◌++◌, length, length-append, refl, ◌∙◌, arith, Option, Ok, true, nat_le}
use Rattle.std.specs.Prelude.{◌≢◌, ◌&&◌}
use Rattle.std.specs.List.{All}
use Rattle.std.proofs.lemmas.Bool.{le-leb}
use Rattle.std.proofs.lemmas.List.Elements.{All-nil, All-push}
use Rattle.nest_lang.specs.declared.tree.Stmt.{Stmt}
use Rattle.nest_lang.specs.declared.tree.Head.{Head}
use Rattle.nest_lang.specs.declared.tree.Loop.{Loop}
use Rattle.nest_lang.specs.Rules.{strides, has_statements, loop_keeps, loops_keep}
use Rattle.nest_tokens.specs.declared.token.Name.{Name}
use Rattle.nest_grammar.specs.declared.version.Version.{Version}
use Rattle.nest_grammar.specs.declared.version.Version.TheVariants.{One, Two as Several}
use Rattle.nest_grammar.specs.declared.file.Scalar.{Scalar}
use Rattle.nest_grammar.specs.declared.file.Item.{Item}
use Rattle.nest_grammar.specs.declared.file.LoopNames.{LoopNames}
use Rattle.nest_grammar.specs.declared.file.NestUnit.{NestUnit}
use Rattle.nest_grammar.specs.declared.file.File.{File}
use Rattle.nest_grammar.specs.Limits.{most_scalars, most_nests, most_depth}
use Rattle.nest_grammar.specs.Sights.{Sight, skip}
use Rattle.nest_grammar.specs.Names.{Names}
use Rattle.nest_grammar.specs.Contents.{reading}
use Rattle.nest_grammar.specs.Grammar.{IsSigned, unsigned, negative, IsStride, unwritten, written, IsHeading, counting, asking, IsLoops, innermost, outer, IsUnit, IsUnits, IsScalars, IsValues, IsItem, data_, ramp, IsItems, IsVersion, Reads}
use Rattle.nest_grammar.specs.Grammar as grammar
use Rattle.nest_grammar.specs.Rules.{IsSpelled, item_fits, KeepsRules, FilesKeepRules}
use Rattle.nest_grammar.proofs.LoopLaws.{not_zero-is}
use Rattle.nest_grammar.proofs.ContentLaws.{reading-reads}
use Rattle.nest_grammar.proofs.RulePlaceLaws.{within-scalars}
use Rattle.nest_grammar.proofs.RuleSizeLaws.{beyond-left, scalars-left, items-left, version-left, tokens-few}
use Rattle.nest_grammar.proofs.RuleNestLaws.{Short, units-keep-blocks}
use Rattle.nest_grammar.proofs.SpelledLaws.{ProperSight, proper-start, proper-skip, proper-name}

length-push : {A : Type 0} (xs : List A) (x : A) → length (xs ++ x ∷ []) ≡ suc (length xs)
length-push xs x = length-append xs (x ∷ []) ∙ omega arith

-- Nests

stride-keeps : {s : Sight} {k : ℤ} {t : Sight} → IsStride s k t → (k ≢ pos 0)
stride-keeps unwritten = λ e. cc
stride-keeps (written h i n) = n

heading-keeps : {names : Names} {s : Sight} {h : Head} {n : Option Name} {t : Sight} → IsHeading names s h n t → strides h ≡ true
heading-keeps (counting {k = k} a b f c i d j e) = not_zero-is k (stride-keeps e)
heading-keeps (asking a i) = refl

-- the first of these loops keeps the rules with the others in it
abbrev Keep : List Loop → Type 0
Keep [] = ⊥
Keep (l ∷ ls) = loop_keeps l ls ≡ true

keep-innermost : (h : Head) (pre : List Stmt) → strides h ≡ true → pre ≢ [] → (strides h && has_statements pre) ≡ true
keep-innermost h [] s n = absurd (n refl)
keep-innermost h (x ∷ xs) s n = rw s

keep-outer : (l : Loop) (ls : List Loop) → strides l.head ≡ true → Keep ls → Keep (l ∷ ls)
keep-outer l [] s k = absurd k
keep-outer l (m ∷ ls) s k = rw (s, k)

loops-keep : {d level : ℕ} {names : Names} {s t : Sight} {ls : List Loop} {ns : List LoopNames} → IsLoops d level names s ls ns t → Keep ls × (length ls ≤ d)
loops-keep (innermost {d} {level} {names} {h} {n} {pre} i o b p c) = (keep-innermost h pre (heading-keeps i) p, omega arith)
loops-keep (outer {d} {level} {names} {h} {n} {pre} {post} {ls = ls} i o b l q c) =
    let f = loops-keep l in
    let w : length ls ≤ d = f.1 in
    (keep-outer (record { head = h; pre = pre; post = post }) ls (heading-keeps i) f.0, omega arith)

depth-least : (v : Version) → most_depth v ≤ 6
depth-least One = omega arith
depth-least Several = omega arith

nest-keeps : (ls : List Loop) → Keep ls → length ls ≤ 6 → loops_keep ls ≡ true
unfolding loops_keep
nest-keeps [] k l = absurd k
nest-keeps (m ∷ ls) k l = let e : nat_le (length ls) 5 ≡ true = le-leb (length ls) 5 (omega arith) in rw (e, k)

unit-keeps : {v : Version} {names : Names} {s : Sight} {u : NestUnit} {t : Sight} → IsUnit v names s u t → loops_keep u.nest.loops ≡ true
unit-keeps {v} (grammar.unit {ls} i j) = let f = loops-keep i in let w = depth-least v in nest-keeps ls f.0 (omega (arith, f.1, w))

units-few : {names : Names} {v : Version} {s : Sight} {us : List NestUnit} {t : Sight} → IsUnits names v s us t → (0 < length us) × (length us ≤ most_nests)
units-few (grammar.one i) = (omega arith, omega arith)
units-few (grammar.more {ns} {n} i l j) = let e = length-push ns n in (omega (arith, e), omega (arith, e))

-- Scalars

abbrev Spelled : Scalar → Type 0
Spelled c = IsSpelled c.name

proper-signed : {s : Sight} {v : ℤ} {t : Sight} → IsSigned s v t → ProperSight s → ProperSight t
proper-signed (unsigned {s = s} h) p = proper-skip s p
proper-signed (negative {s = s} h k) p = proper-skip (skip s) (proper-skip s p)

scalars-keep : {s : Sight} {cs : List Scalar} {t : Sight} → IsScalars s cs t → ProperSight s → (length cs ≤ most_scalars) × All Spelled cs × ProperSight t
scalars-keep grammar.none p = (omega arith, All-nil Spelled, p)
scalars-keep (grammar.more {cs} {n} {v} {s} {t} i h l k f a j) p =
    let g = scalars-keep i p in
    let e = length-push cs (record { name = n; value = v }) in
    let q = proper-skip t g.2 in
    (omega (arith, e), All-push Spelled cs (record { name = n; value = v }) g.1 (proper-name n (skip t) q k), proper-signed j (proper-skip (skip (skip t)) (proper-skip (skip t) q)))

-- Items

values-fit : {words first : ℕ} {s : Sight} {vs : List ℤ} {t : Sight} → IsValues words first s vs t → first + length vs ≤ words
values-fit (grammar.one l i) = omega (arith, l)
values-fit (grammar.more {vs} {v} i h l j) = let e = length-push vs v in omega (arith, e, l)

item-fits : {words : ℕ} {s : Sight} {i : Item} {t : Sight} → IsItem words s i t → item_fits words i ≡ true
item-fits {words} (data_ {first} {vs} h n q c v) = le-leb (first + length vs) words (values-fit v)
item-fits (ramp h f q c r k n i j m) = m

abbrev ItemFits : ℕ → Item → Type 0
ItemFits words i = item_fits words i ≡ true

items-fit : {words : ℕ} {s : Sight} {is : List Item} {t : Sight} → IsItems words s is t → All (ItemFits words) is
items-fit {words} grammar.none = All-nil (ItemFits words)
items-fit {words} (grammar.more {is} {i} j k) = All-push (ItemFits words) is i (items-fit j) (item-fits k)

proper-version : {s : Sight} {v : Version} {t : Sight} → IsVersion s v t → ProperSight s → ProperSight t
proper-version (grammar.one {s} h k) p = proper-skip (skip s) (proper-skip s p)
proper-version (grammar.two {s} h k) p = proper-skip (skip s) (proper-skip s p)

-- a file that the grammar says a text is keeps the rules
pub reads-keeps : FilesKeepRules
reads-keeps text _ (grammar.file {scalars = cs} {s = s} {t = t} {u = u} l iv ic m n b ii iu e) =
    let f = scalars-keep ic (proper-version iv (proper-start text)) in
    let g = units-few iu in
    let tokens = tokens-few text in
    let version = version-left iv in
    let scalars = scalars-left ic in
    let words = beyond-left 2 t in
    let items = items-left ii in
    let short : Short u = omega (arith, l, tokens, version, scalars, words, items) in
    record {
      few_scalars = f.0;
      spelled = f.1;
      few_words = b;
      items_fit = items-fit ii;
      some_nest = g.0;
      few_nests = g.1;
      nests_keep = units-keep-blocks (within-scalars cs) short (λ w p q n i. unit-keeps i) iu;
    }

-- and so does a file that is read
pub reading-keeps : (text : List ℕ) (file : File) → reading text ≡ Ok file → KeepsRules file
reading-keeps text file h = reads-keeps text file (reading-reads text file h)

pub ruleset rules_kept = (reads-keeps)
