use Rattle.std.proofs.Common.{rules, ◌≡◌, ℕ, List, Result, Ok, Err}
use Rattle.nest_grammar.specs.declared.file.File.{File}
use Rattle.nest_grammar.specs.Contents.{reading}
use Rattle.nest_grammar.proofs.ContentLaws.{reading-reads, reads-reading}
use Rattle.nest_text.specs.declared.refusal.ReadRefusal.{ReadRefusal}
use Rattle.nest_text.specs.declared.refusal.ReadRefusal.TheVariants.{Text, NoMemory}
use Rattle.nest_text.specs.Answers.{Answers}
use Rattle.nest_text.specs.Files.{ByGrammar}
use Rattle.nest_text.proofs.file.read_nest.Goals as goal

-- an answer of the reading is one by the grammar
answers-by-grammar : (text : List ℕ) (r : Result File ReadRefusal) → Answers r (reading text) → ByGrammar text r
answers-by-grammar text (Ok file) h = reading-reads text file h
answers-by-grammar text (Err NoMemory) h = tt
answers-by-grammar text (Err (Text fault)) h = λ file r. let e : reading text ≡ Ok file = reads-reading text file r in cc

pub returns-in_err-file-clause-grammar : goal.returns-in_err-file-clause-grammar
returns-in_err-file-clause-grammar c =
    let h : Answers c.from_residual.result (reading c.args.text.now) = search rules in
    answers-by-grammar c.args.text.now c.from_residual.result h

pub invariant_of-result : goal.invariant_of-result
invariant_of-result c =
    let h : reading c.args.text.now ≡ Ok c.in_ok-file.file = search rules in
    (c.args.text.now, h)

pub returns-clause-grammar : goal.returns-clause-grammar
returns-clause-grammar c =
    let h : reading c.args.text.now ≡ Ok c.in_ok-file.file = search rules in
    reading-reads c.args.text.now c.in_ok-file.file h
