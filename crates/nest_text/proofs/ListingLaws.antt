-- Statements one behind another, and the names that they let be seen.
use Rattle.std.proofs.Common.{◌≡◌, ℕ, zero, suc, ◌<◌, ◌≤◌, List, [], ◌∷◌, ◌++◌, length, length-take, take, refl, sym, ◌∙◌, ap, arith, Some, None, Result, Ok, Err}
use Rattle.nest_lang.specs.declared.tree.Stmt.{Stmt}
use Rattle.nest_grammar.specs.declared.fault.TextFault.{TextFault}
use Rattle.nest_grammar.specs.declared.fault.TextKind.TheVariants as kind
use Rattle.nest_grammar.specs.declared.opening.Opening.{Opening}
use Rattle.nest_grammar.specs.Sights.{Sight, stands}
use Rattle.nest_grammar.specs.Readings.{Reading, after, gives, many}
use Rattle.nest_grammar.specs.Names.{Names}
use Rattle.nest_grammar.specs.Statements.{opening_of, statement, another, statements}
use Rattle.nest_grammar.proofs.PartAfterPartLaws.{many-stop}
use Rattle.nest_grammar.proofs.ProductionLaws.{IsPart, starts, part-skipped, part-refused, local-branches, local-statements}
use Rattle.nest_grammar.proofs.ChainLaws.{statement-goes, statement-fails, statement-shorter}
use Rattle.nest_text.specs.Parts.{choice}
use Rattle.nest_text.proofs.ProductionLaws.{statements-are}
use Rattle.std.proofs.Math.Seq.{take-append_seam}

-- the statements behind these, where d choices may stand within one another
abbrev pub Going : Type 0
Going = Result ((List Stmt × Names) × Sight) TextFault

abbrev pub going : ℕ → List Stmt → Names → Sight → Going
going d xs names s = many opening_of (another (choice d)) (xs, names) s

part-choice : (d : ℕ) (names : Names) → IsPart (choice d names)
unfolding choice
part-choice zero names = part-refused kind.Deep
part-choice (suc d) names = starts part-skipped (λ _. local-branches names (statements d names) (local-statements d names))

pub listing-goes : (d : ℕ) (xs : List Stmt) (names ns : Names) (st : Stmt) (s t : Sight) (o : Opening) (whole : Going) → opening_of (stands s) ≡ Some o → statement (choice d names) names o s ≡ Ok ((st, ns), t) → going d xs names s ≡ whole → going d (xs ++ st ∷ []) ns t ≡ whole
listing-goes d xs names ns st s t o whole e h w = statement-goes (choice d) xs names ns st s t o whole (part-choice d) e h w

pub listing-fails : (d : ℕ) (xs : List Stmt) (names ns : Names) (s t : Sight) (o : Opening) (f : TextFault) → opening_of (stands s) ≡ Some o → statement (choice d names) names o s ≡ Err f → going d xs names s ≡ going d [] ns t → statements d ns t ≡ Err f
listing-fails d xs names ns s t o f e h w =
    let q : going d [] ns t ≡ Err f = statement-fails (choice d) xs names s o f (going d [] ns t) (part-choice d) e h w in
    ap (λ (r : Reading (List Stmt)). r t) (statements-are d ns) ∙ ap (λ (r : Going). after r (λ x. gives x.0)) q

pub listing-shorter : (d : ℕ) (names ns : Names) (st : Stmt) (s t : Sight) (o : Opening) → opening_of (stands s) ≡ Some o → statement (choice d names) names o s ≡ Ok ((st, ns), t) → length t.left < length s.left
listing-shorter d names ns st s t o e h = statement-shorter (choice d) names ns st s t o (part-choice d) e h

pub listing-ends : (d : ℕ) (xs : List Stmt) (names ns : Names) (s t : Sight) → opening_of (stands s) ≡ None → going d xs names s ≡ going d [] ns t → statements d ns t ≡ Ok (xs, s)
listing-ends d xs names ns s t e w =
    let q : going d [] ns t ≡ Ok ((xs, names), s) = sym w ∙ many-stop opening_of (another (choice d)) (xs, names) s e in
    ap (λ (r : Reading (List Stmt)). r t) (statements-are d ns) ∙ ap (λ (r : Going). after r (λ x. gives x.0)) q

take-take : (n m : ℕ) (xs : Names) → n ≤ m → take n (take m xs) ≡ take n xs
take-take zero m xs h = refl
take-take (suc n) zero xs h = absurd (omega arith)
take-take (suc n) (suc m) [] h = refl
take-take (suc n) (suc m) (x ∷ xs) h = ap (λ (l : Names). x ∷ l) (take-take n m xs (omega arith))

pub kept-long : (start names more : Names) → length start ≤ length names → take (length names) more ≡ names → length start ≤ length more
kept-long start names more h e = omega (arith, length-take (length names) more, ap (λ (l : Names). length l) e)

-- the first names stay, where more are added
pub kept-more : (start names more : Names) → length start ≤ length names → take (length start) names ≡ start → take (length names) more ≡ names → take (length start) more ≡ start
kept-more start names more h k e = sym (take-take (length start) (length names) more h) ∙ ap (take (length start)) e ∙ k

pub ruleset keeping = (take-append_seam)

pub ruleset listings = (listing-goes, listing-fails, listing-shorter, listing-ends, kept-more, kept-long)
