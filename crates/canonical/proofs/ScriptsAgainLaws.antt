-- What was read of candidates is read again from their canonical lines.
use Rattle.std.proofs.Common.{◌≡◌, ℕ, ◌<◌, List, [], ◌∷◌, ◌++◌, length, refl, sym, ◌∙◌, ap, arith, Some, subst, append_assoc, append-nil}
use Rattle.std.specs.List.{flat_map}
use Rattle.nest_lang.specs.declared.command.Command.{Command}
use Rattle.nest_tokens.specs.declared.token.Mark.TheVariants as mark
use Rattle.nest_tokens.specs.declared.token.Token.TheVariants as token
use Rattle.nest_tokens.specs.declared.token.Spot.{Spot}
use Rattle.nest_tokens.specs.Lexing.{name_of}
use Rattle.nest_grammar.specs.declared.script.CommandWord.{CommandWord}
use Rattle.nest_grammar.specs.declared.script.CommandWord.TheVariants as word
use Rattle.nest_tokens.specs.Ahead.{first, rest}
use Rattle.nest_grammar.specs.Sights.{Sight, here, skip}
use Rattle.nest_grammar.specs.Scripts.{Script, command_word, word_of_name, word_spelling}
use Rattle.nest_grammar.specs.Grammar.{IsRows, one as row_one, more as row_more, IsCommand, seq, swap, skew, tile, par, wave, IsCommands, one as command_one, more as command_more, IsScript, empty, script, IsCandidates, none, more}
use Rattle.canonical.specs.Pieces.{Piece, Space, Newline, plain, signed, line}
use Rattle.canonical.specs.Scripts.{operand, command_of, next_command, commands_of, candidate_line}
use Rattle.canonical.proofs.TokenWalkLaws.{Walks, walks-append, counts}
use Rattle.canonical.proofs.LoopsAgainLaws.{signed-again, signed-kept}
use Rattle.canonical.proofs.PieceLaws.{flat_map-last}

word-read : (w : CommandWord) → command_word (token.Name (name_of (word_spelling w))) ≡ Some w
unfolding command_word word_of_name word_spelling
word-read word.Seq = refl
word-read word.Swap = refl
word-read word.Skew = refl
word-read word.Tile = refl
word-read word.Par = refl
word-read word.Wave = refl

abbrev pub RowsArrive : ℕ → Sight → List ℕ → List Spot → Type 0
RowsArrive depth s ns m = (t : Sight) × IsRows depth s ns t × (t.size ≡ s.size) × (t.left ≡ m) × (counts t ≡ counts s)

rows-again : (depth : ℕ) {s : Sight} {ns : List ℕ} {t : Sight} → IsRows depth s ns t → (s2 : Sight) (m : List Spot) → Walks (flat_map operand ns) s2.size s2.left m → RowsArrive depth s2 ns m
unfolding skip here
rows-again depth (row_one {n} {s} h r) s2 m w = (skip s2, row_one w.0 r, refl, sym w.1, refl)
rows-again depth (row_more {n} {ns} {s} {t} i len h r) s2 m w =
    let q = walks-append (flat_map operand ns) (operand n) s2.size s2.left m (subst (λ (ps : List Piece). Walks ps s2.size s2.left m) (flat_map-last operand ns n) w) in
    let y = rows-again depth i s2 q.0 q.1 in
    let z : (first y.0.size y.0.left).token ≡ token.Number n = rw (y.3, y.2) q.2.0 in
    (skip y.0, row_more y.1 len z r, y.2, ap rest y.3 ∙ sym q.2.1, y.4)

rows-kept : (depth : ℕ) {s : Sight} {ns : List ℕ} {t : Sight} → IsRows depth s ns t → counts t ≡ counts s
unfolding skip
rows-kept depth (row_one h r) = refl
rows-kept depth (row_more i len h r) = rows-kept depth i

abbrev pub CommandArrives : ℕ → Script → Sight → Command → List Spot → Type 0
CommandArrives depth cs s c m = (t : Sight) × IsCommand depth cs s c t × (t.size ≡ s.size) × (t.left ≡ m) × (counts t ≡ counts s)

command-again : (depth : ℕ) (cs : Script) {s : Sight} {c : Command} {t : Sight} → IsCommand depth cs s c t → (s2 : Sight) (m : List Spot) → Walks (command_of c) s2.size s2.left m → CommandArrives depth cs s2 c m
unfolding skip here command_of signed
command-again depth cs (seq {n} {s} a b h k) s2 m w = (skip (skip s2), seq (ap command_word w.0 ∙ word-read word.Seq) b w.1.0 k, refl, sym w.1.1, refl)
command-again depth cs (swap {a} {b} {s} {t} k ha ra q hb rb ne) s2 m w = (skip (skip (skip s2)), swap (ap command_word w.0 ∙ word-read word.Swap) w.1.0 ra refl w.1.1.0 rb ne, refl, sym w.1.1.1, refl)
command-again depth cs (skew {a} {b} {m = f} {s} {t} {u} k may ha ra q hb rb ne i r) s2 m w =
    let y = signed-again (skip t) f u i (skip (skip (skip s2))) m w.1.1.1 in
    (y.0, skew (ap command_word w.0 ∙ word-read word.Skew) may w.1.0 ra refl w.1.1.0 rb ne y.1 r, y.2, y.3, y.4)
command-again depth cs (tile {a} {n} {s} {t} k ha ra q hb r) s2 m w = (skip (skip (skip s2)), tile (ap command_word w.0 ∙ word-read word.Tile) w.1.0 ra refl w.1.1.0 r, refl, sym w.1.1.1, refl)
command-again depth cs (par {ns} {s} {t} k i) s2 m w =
    let y = rows-again depth i (skip s2) m w.1 in
    (y.0, par (ap command_word w.0 ∙ word-read word.Par) y.1, y.2, y.3, y.4)
command-again depth cs (wave {ns} {s} {t} k i) s2 m w =
    let y = rows-again depth i (skip s2) m w.1 in
    (y.0, wave (ap command_word w.0 ∙ word-read word.Wave) y.1, y.2, y.3, y.4)

command-kept : (depth : ℕ) (cs : Script) {s : Sight} {c : Command} {t : Sight} → IsCommand depth cs s c t → counts t ≡ counts s
unfolding skip
command-kept depth cs (seq a b h k) = refl
command-kept depth cs (swap {a} {b} {s} {t} k ha ra q hb rb ne) = ap counts q
command-kept depth cs (skew {a} {b} {m = f} {s} {t} {u} k may ha ra q hb rb ne i r) = signed-kept (skip t) f u i ∙ ap counts q
command-kept depth cs (tile {a} {n} {s} {t} k ha ra q hb r) = ap counts q
command-kept depth cs (par k i) = rows-kept depth i
command-kept depth cs (wave k i) = rows-kept depth i

-- commands with semicolons between them
abbrev pub body : Script → List Piece
body [] = []
body (c ∷ cs) = command_of c ++ flat_map next_command cs

pub body-last : (cs : Script) (c : Command) → 0 < length cs → body (cs ++ c ∷ []) ≡ body cs ++ next_command c
body-last [] c h = absurd (omega arith)
body-last (x ∷ cs) c h = ap (λ (l : List Piece). command_of x ++ l) (flat_map-last next_command cs c) ∙ sym (append_assoc (command_of x) (flat_map next_command cs) (next_command c))

pub commands-body : (cs : Script) → 0 < length cs → commands_of cs ≡ body cs ++ Space ∷ []
unfolding commands_of
commands-body [] h = absurd (omega arith)
commands-body (c ∷ cs) h = refl

length-last : (cs : Script) (c : Command) → 0 < length (cs ++ c ∷ [])
length-last [] c = omega arith
length-last (x ∷ cs) c = omega arith

pub commands-some : (depth : ℕ) {s : Sight} {cs : Script} {t : Sight} → IsCommands depth s cs t → 0 < length cs
commands-some depth (command_one i) = omega arith
commands-some depth (command_more {cs} {c} i k len j) = length-last cs c

abbrev pub CommandsArrive : ℕ → Sight → Script → List Spot → Type 0
CommandsArrive depth s cs m = (t : Sight) × IsCommands depth s cs t × (t.size ≡ s.size) × (t.left ≡ m) × (counts t ≡ counts s)

commands-again : (depth : ℕ) {s : Sight} {cs : Script} {t : Sight} → IsCommands depth s cs t → (s2 : Sight) (m : List Spot) → Walks (body cs) s2.size s2.left m → CommandsArrive depth s2 cs m
unfolding skip here
commands-again depth (command_one {c} {s} {t} i) s2 m w =
    let y = command-again depth [] i s2 m (subst (λ (ps : List Piece). Walks ps s2.size s2.left m) (append-nil (command_of c)) w) in
    (y.0, command_one y.1, y.2, y.3, y.4)
commands-again depth (command_more {cs} {c} {s} {t} {u} i k len j) s2 m w =
    let q = walks-append (body cs) (next_command c) s2.size s2.left m (subst (λ (ps : List Piece). Walks ps s2.size s2.left m) (body-last cs c (commands-some depth i)) w) in
    let y = commands-again depth i s2 q.0 q.1 in
    let z : (first y.0.size y.0.left).token ≡ token.Plain mark.Semicolon = rw (y.3, y.2) q.2.0 in
    let w2 : Walks (command_of c) y.0.size (rest y.0.left) m = rw (y.3, y.2) q.2.1 in
    let x = command-again depth cs j (skip y.0) m w2 in
    (x.0, command_more y.1 z len x.1, x.2 ∙ y.2, x.3, x.4 ∙ y.4)

commands-kept : (depth : ℕ) {s : Sight} {cs : Script} {t : Sight} → IsCommands depth s cs t → counts t ≡ counts s
unfolding skip
commands-kept depth (command_one i) = command-kept depth [] i
commands-kept depth (command_more {cs} {c} i k len j) = command-kept depth cs j ∙ commands-kept depth i

abbrev pub ScriptArrives : ℕ → Sight → Script → List Spot → Type 0
ScriptArrives depth s cs m = (t : Sight) × IsScript depth s cs t × (t.size ≡ s.size) × (t.left ≡ m) × (counts t ≡ counts s)

script-again : (depth : ℕ) {s : Sight} {cs : Script} {t : Sight} → IsScript depth s cs t → (s2 : Sight) (m : List Spot) → Walks (plain mark.OpenBrace ∷ Space ∷ commands_of cs ++ plain mark.CloseBrace ∷ []) s2.size s2.left m → ScriptArrives depth s2 cs m
unfolding skip here commands_of
script-again depth (empty {s} o c) s2 m w = (skip (skip s2), empty w.0 w.1.0, refl, sym w.1.1, refl)
script-again depth (script {cs} {s} {t} o i c) s2 m w =
    let q = walks-append (commands_of cs) (plain mark.CloseBrace ∷ []) s2.size (rest s2.left) m w.1 in
    let q1 = walks-append (body cs) (Space ∷ []) s2.size (rest s2.left) q.0 (subst (λ (ps : List Piece). Walks ps s2.size (rest s2.left) q.0) (commands-body cs (commands-some depth i)) q.1) in
    let y = commands-again depth i (skip s2) q1.0 q1.1 in
    let lft : y.0.left ≡ q.0 = y.3 ∙ sym q1.2 in
    let z : (first y.0.size y.0.left).token ≡ token.Plain mark.CloseBrace = rw (lft, y.2) q.2.0 in
    (skip y.0, script w.0 y.1 z, y.2, ap rest lft ∙ sym q.2.1, y.4)

script-kept : (depth : ℕ) {s : Sight} {cs : Script} {t : Sight} → IsScript depth s cs t → counts t ≡ counts s
unfolding skip
script-kept depth (empty o c) = refl
script-kept depth (script o i c) = commands-kept depth i

abbrev pub CandidatesArrive : ℕ → Sight → List Script → List Spot → Type 0
CandidatesArrive depth s scripts m = (t : Sight) × IsCandidates depth s scripts t × (t.size ≡ s.size) × (t.left ≡ m) × (counts t ≡ counts s)

pub candidates-again : (depth : ℕ) {s : Sight} {scripts : List Script} {t : Sight} → IsCandidates depth s scripts t → (s2 : Sight) (m : List Spot) → Walks (flat_map candidate_line scripts) s2.size s2.left m → CandidatesArrive depth s2 scripts m
unfolding skip here candidate_line line
candidates-again depth (none {s}) s2 m w = (s2, none, refl, sym w, refl)
candidates-again depth (more {scripts} {cs} {s} {t} {u} i k len j) s2 m w =
    let q = walks-append (flat_map candidate_line scripts) (candidate_line cs) s2.size s2.left m (subst (λ (ps : List Piece). Walks ps s2.size s2.left m) (flat_map-last candidate_line scripts cs) w) in
    let y = candidates-again depth i s2 q.0 q.1 in
    let z : (first y.0.size y.0.left).token ≡ token.Plain mark.Candidate = rw (y.3, y.2) q.2.0 in
    let q1 = walks-append (plain mark.OpenBrace ∷ Space ∷ commands_of cs ++ plain mark.CloseBrace ∷ []) (Newline ∷ []) s2.size (rest q.0) m q.2.1 in
    let w2 : Walks (plain mark.OpenBrace ∷ Space ∷ commands_of cs ++ plain mark.CloseBrace ∷ []) y.0.size (rest y.0.left) q1.0 = rw (y.3, y.2) q1.1 in
    let x = script-again depth j (skip y.0) q1.0 w2 in
    (x.0, more y.1 z len x.1, x.2 ∙ y.2, x.3 ∙ sym q1.2, x.4 ∙ y.4)

pub candidates-kept : (depth : ℕ) {s : Sight} {scripts : List Script} {t : Sight} → IsCandidates depth s scripts t → counts t ≡ counts s
unfolding skip
candidates-kept depth none = refl
candidates-kept depth (more i k len j) = script-kept depth j ∙ candidates-kept depth i
