-- Every generated text reads as a file.
use Rattle.std.proofs.Common.{◌≡◌, subst, sym, List, Result, Err, ℕ, ◌+◌, ◌*◌, ◌≤◌, ◌/◌, ◌^◌, Ok, arith}
use Rattle.std.proofs.Math.Nat.{mod-lt}
use Rattle.nest_grammar.specs.declared.file.File.{File}
use Rattle.nest_grammar.specs.declared.fault.TextFault.{TextFault}
use Rattle.nest_text.specs.declared.refusal.ReadRefusal.{ReadRefusal}
use Rattle.nest_text.specs.declared.refusal.ReadRefusal.TheVariants.{Text}
use Rattle.nest_text.specs.Answers.{Answers}
use Rattle.nest_grammar.specs.Contents.{reading}
use Rattle.nest_gen.specs.declared.shapes.Shape.{Shape}
use Rattle.nest_gen.specs.declared.shapes.Shape.TheVariants.{Copy, List as Linked, Grid}
use Rattle.nest_gen.specs.Draws.{after, draw}
use Rattle.nest_gen.specs.Texts.{drawn_nodes}
use Rattle.nest_gen.specs.Generated.{text_of}
use Rattle.nest_gen.proofs.CopyReads.{copy-reads}
use Rattle.nest_gen.proofs.GridReads.{grid-reads}
use Rattle.nest_gen.proofs.ListReads.{list-reads}
use Rattle.nest_gen.proofs.DrawLaws.{nodes-below, nodes-few}

pub text-reads : (shape : Shape) (seed size : ℕ) → 1 ≤ size → size ≤ 256 → (file : File) × (reading (text_of shape seed size) ≡ Ok file)
text-reads Copy seed size from to = copy-reads (64 * size) (draw seed 0 100) (omega (arith, to)) (mod-lt (after seed 1 / 2 ^ 33) {m = 100} (omega arith))
text-reads Linked seed size from to =
    list-reads (64 * size) (omega (arith, from)) (omega (arith, to)) (drawn_nodes seed (64 * size)) (nodes-below seed (64 * size) (omega (arith, from))) (nodes-few seed (64 * size))
text-reads Grid seed size from to = grid-reads (size + 2) (draw seed 0 1000) (omega arith) (omega (arith, to)) (mod-lt (after seed 1 / 2 ^ 33) {m = 1000} (omega arith))

-- so no text of these is refused
pub never-refused : (shape : Shape) (seed size : ℕ) (text : List ℕ) (r : Result File ReadRefusal) (e : ReadRefusal) (f : TextFault) → 1 ≤ size → size ≤ 256
    → text ≡ text_of shape seed size → Answers r (reading text) → r ≡ Err e → e ≡ Text f → ⊥
never-refused shape seed size text r e f from to is answers refused faulty =
    let (file, reads) = text-reads shape seed size from to in
    let here : reading text ≡ Ok file = subst (λ (t : List ℕ). reading t ≡ Ok file) (sym is) reads in
    let fault : reading text ≡ Err f = subst (λ (x : ReadRefusal). Answers (Err x) (reading text)) faulty (subst (λ (x : Result File ReadRefusal). Answers x (reading text)) refused answers) in
    absurd (cc)
