-- How instructions go on.
use Rattle.std.proofs.Common.{◌≡◌, refl, ap, sym, ◌∙◌, ℕ, ◌<◌, ◌≤◌, ◌+◌, ℤ, List, [], ◌∷◌, ◌++◌, length, drop, get_or, append-nil, Result, Ok, Err, false}
use Rattle.std.proofs.lemmas.List.{drop_all, drop_more}
use Rattle.nest_lang.specs.declared.observe.Stop.{Stop}
use Rattle.nest_lang.specs.Lookups.{Expectation, look_load}
use Rattle.nest_lang.specs.Traces.{Observation, Halt}
use Rattle.nest_lang.specs.Expressions.{Frame}
use Rattle.block_exec.specs.Watches.{Chain}
use Rattle.block_exec.specs.Sites.{frame_at}
use Rattle.block_exec.specs.declared.site.Site.{Site}
use Rattle.block_exec.proofs.ChainLaws.{chain-append, chain-one}
use Rattle.block_exec.specs.declared.code.Instruction.{Instruction}
use Rattle.block_exec.specs.declared.context.Run.{Run}
use Rattle.block_exec.specs.Runs.{Looked}
use Rattle.block_exec.specs.Codes.{Gone, then_go, instruction_gone, instructions_gone}
use Rattle.block_exec.specs.Coded.{instruction_at}

module _ (f : Frame) (scalars locals : List ℤ) (find : ℕ → ℤ → Result ℤ Stop) where
  from-item : (ps : List Instruction) (i : ℕ) (p z : Instruction) → i < length ps → p ≡ get_or ps i z → drop i ps ≡ p ∷ drop (i + 1) ps
  from-item ps i p z h e = drop_more ps i z h ∙ ap (λ y. y ∷ drop (i + 1) ps) (sym e)

  instructions-cons : (p : Instruction) (ps : List Instruction) (t : List ℤ) → instructions_gone f scalars locals find (p ∷ ps) t ≡ then_go (instruction_gone f scalars locals find p t).seen (instruction_gone f scalars locals find p t).registers (instructions_gone f scalars locals find ps)
  unfolding instructions_gone
  instructions-cons p ps t = refl

  instructions-at : (ps : List Instruction) (i : ℕ) (p z : Instruction) (t : List ℤ) → i < length ps → p ≡ get_or ps i z → instructions_gone f scalars locals find (drop i ps) t ≡ then_go (instruction_gone f scalars locals find p t).seen (instruction_gone f scalars locals find p t).registers (instructions_gone f scalars locals find (drop (i + 1) ps))
  instructions-at ps i p z t h e = rw (from-item ps i p z h e) (instructions-cons p (drop (i + 1) ps) t)

  -- an instruction was run and was done
  pub gone-next : (ps : List Instruction) (i : ℕ) (p z : Instruction) (t t' : List ℤ) (whole : Result (List ℤ) Halt) → Ok t' ≡ (instruction_gone f scalars locals find p t).registers → i < length ps → p ≡ get_or ps i z → (instructions_gone f scalars locals find (drop i ps) t).registers ≡ whole → (instructions_gone f scalars locals find (drop (i + 1) ps) t').registers ≡ whole
  gone-next ps i p z t t' whole done h e rest =
      ap (λ r. (then_go (instruction_gone f scalars locals find p t).seen r (instructions_gone f scalars locals find (drop (i + 1) ps))).registers) done ∙ sym (ap (λ g. g.registers) (instructions-at ps i p z t h e)) ∙ rest

  pub gone-out : (ps : List Instruction) (i : ℕ) (p z : Instruction) (t : List ℤ) (halt : Halt) (whole : Result (List ℤ) Halt) → Err halt ≡ (instruction_gone f scalars locals find p t).registers → i < length ps → p ≡ get_or ps i z → (instructions_gone f scalars locals find (drop i ps) t).registers ≡ whole → Err halt ≡ whole
  gone-out ps i p z t halt whole out h e rest =
      ap (λ r. (then_go (instruction_gone f scalars locals find p t).seen r (instructions_gone f scalars locals find (drop (i + 1) ps))).registers) out ∙ sym (ap (λ g. g.registers) (instructions-at ps i p z t h e)) ∙ rest

  pub gone-end : (ps : List Instruction) (i : ℕ) (t : List ℤ) (whole : Result (List ℤ) Halt) → length ps ≤ i → (instructions_gone f scalars locals find (drop i ps) t).registers ≡ whole → Ok t ≡ whole
  unfolding instructions_gone
  gone-end ps i t whole h rest =
      let is : (instructions_gone f scalars locals find [] t).registers ≡ whole = rw (drop_all i ps h) at rest in is

  pub gone-seen-next : {W : Type 0} (may : W → Observation → W → Type 0) (ps : List Instruction) (i : ℕ) (p z : Instruction) (t t' : List ℤ) (w0 w w' : W) (whole : List Observation) → Ok t' ≡ (instruction_gone f scalars locals find p t).registers → i < length ps → p ≡ get_or ps i z → Chain may w (instruction_gone f scalars locals find p t).seen w' → ((v : W) → Chain may w (instructions_gone f scalars locals find (drop i ps) t).seen v → Chain may w0 whole v) → (v : W) → Chain may w' (instructions_gone f scalars locals find (drop (i + 1) ps) t').seen v → Chain may w0 whole v
  gone-seen-next may ps i p z t t' w0 w w' whole done h e step go v rest =
      let is : (instructions_gone f scalars locals find (drop i ps) t).seen ≡ (instruction_gone f scalars locals find p t).seen ++ (instructions_gone f scalars locals find (drop (i + 1) ps) t').seen =
      ap (λ g. g.seen) (instructions-at ps i p z t h e) ∙ sym (ap (λ r. (then_go (instruction_gone f scalars locals find p t).seen r (instructions_gone f scalars locals find (drop (i + 1) ps))).seen) done) in
      go v (rw is (chain-append may w w' v _ _ step rest))

  pub gone-seen-out : {W : Type 0} (may : W → Observation → W → Type 0) (ps : List Instruction) (i : ℕ) (p z : Instruction) (t : List ℤ) (halt : Halt) (w0 w w' : W) (whole : List Observation) → Err halt ≡ (instruction_gone f scalars locals find p t).registers → i < length ps → p ≡ get_or ps i z → Chain may w (instruction_gone f scalars locals find p t).seen w' → ((v : W) → Chain may w (instructions_gone f scalars locals find (drop i ps) t).seen v → Chain may w0 whole v) → Chain may w0 whole w'
  gone-seen-out may ps i p z t halt w0 w w' whole out h e step go =
      let is : (instructions_gone f scalars locals find (drop i ps) t).seen ≡ (instruction_gone f scalars locals find p t).seen =
      ap (λ g. g.seen) (instructions-at ps i p z t h e) ∙ sym (ap (λ r. (then_go (instruction_gone f scalars locals find p t).seen r (instructions_gone f scalars locals find (drop (i + 1) ps))).seen) out) in
      go w' (rw is step)

  pub gone-seen-end : {W : Type 0} (may : W → Observation → W → Type 0) (ps : List Instruction) (i : ℕ) (t : List ℤ) (w0 w : W) (whole : List Observation) → length ps ≤ i → ((v : W) → Chain may w (instructions_gone f scalars locals find (drop i ps) t).seen v → Chain may w0 whole v) → Chain may w0 whole w
  unfolding instructions_gone
  gone-seen-end may ps i t w0 w whole h go = go w (rw (drop_all i ps h) refl)

module _ {P W B : Type 0} (memory : P → List ℤ) (expects : P → Expectation) (basis : P → B) where
  -- an instruction comes to the same where the port was looked at alone
  pub instruction-again : (site : Site) (a b : Run P W) (p : Instruction) (rs : List ℤ) → Looked memory expects basis a b → instruction_at memory expects site b p rs ≡ instruction_gone (frame_at site (expects a.port.now)) a.scalars.now a.locals (look_load (expects a.port.now) (memory a.port.now)) p rs
  instruction-again site a b p rs looked =
      let scalars = ap (λ r. r.scalars.now) looked.rest in
      let locals = ap (λ r. r.locals) looked.rest in
      rw (scalars, locals, looked.memory_same, looked.expects_same) refl

  pub looked-trans : (a b c : Run P W) → Looked memory expects basis a b → Looked memory expects basis b c → Looked memory expects basis a c
  looked-trans a b c k l =
      let step : Run P W → Run P W = λ r. record r { port = record r.port { now = c.port.now }; watch = record r.watch { now = c.watch.now }; halt = c.halt } in
      record {
        rest = l.rest ∙ ap step k.rest;
        quiet = λ plain trap. l.quiet (ap (λ x. x.verifies) k.expects_same ∙ plain) (k.quiet plain trap);
        memory_same = l.memory_same ∙ k.memory_same;
        expects_same = l.expects_same ∙ k.expects_same;
        basis_same = l.basis_same ∙ k.basis_same;
      }

pub ruleset works = (chain-append, chain-one, append-nil)
