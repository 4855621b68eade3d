-- Scripts: their readings and the grammar say the same.
use Rattle.std.proofs.Common.{◌≡◌, ℕ, ◌<◌, pos, List, [], ◌∷◌, ◌++◌, length, refl, sym, ◌∙◌, ap, subst, arith, Option, Some, None, Ok, true, false, nat_le, nat_lt}
use Rattle.std.specs.Prelude.{◌≢◌, ◌==◌, ◌&&◌, not}
use Rattle.std.proofs.lemmas.Bool.{lt-ltb, ltb-true, le-leb, leb-true}
use Rattle.nest_lang.specs.declared.command.Command.{Command}
use Rattle.nest_lang.specs.declared.command.Command.TheVariants.{Seq, Swap, Skew, Tile, Par, Wave}
use Rattle.nest_tokens.specs.declared.token.Token.{Token}
use Rattle.nest_tokens.specs.declared.token.Token.TheVariants as token
use Rattle.nest_tokens.specs.declared.token.Mark.{Mark}
use Rattle.nest_tokens.specs.declared.token.Mark.TheVariants as mark
use Rattle.nest_tokens.specs.Tokens.{is_mark, spelling}
use Rattle.nest_tokens.proofs.MarkLaws.{is_mark-true}
use Rattle.nest_grammar.specs.declared.script.CommandWord.{CommandWord}
use Rattle.nest_grammar.specs.declared.script.CommandWord.TheVariants as word
use Rattle.nest_grammar.specs.declared.fault.TextKind.TheVariants as kind
use Rattle.nest_grammar.specs.Limits.{most_candidates, most_commands, most_rows}
use Rattle.nest_grammar.specs.Sights.{Sight, stands, Sees, skip}
use Rattle.nest_grammar.specs.Readings.{Reading, ◌>>=◌, gives, refused, at_mark, many, always}
use Rattle.nest_grammar.specs.Scripts.{Script, command_word, may_follow, is_row, is_factor, is_size, row_but, ruled, row_begins, next_row, rows, marked, operands, command_at, command, next_command, script_at, script, candidate, candidates}
use Rattle.nest_grammar.specs.Grammar.{SeesNumber, IsSigned, IsRows, IsCommand, seq, swap, skew, tile, par, wave, IsCommands, IsScript, IsCandidates}
use Rattle.nest_grammar.specs.Grammar as grammar
use Rattle.nest_grammar.proofs.PartAfterPartLaws.{many-stop}
use Rattle.nest_grammar.proofs.ProductionLaws.{parts-next_row}
use Rattle.nest_grammar.proofs.ChainLaws.{parts-command, parts-candidate}
use Rattle.nest_grammar.proofs.ReadingLaws.{sees-is, need-sees, obeys-true, fewer-room, number-sees, signed-is, given, need-then, obeys-then, fewer-then, number-then, signed-then}
use Rattle.nest_grammar.proofs.PartLaws.{many-sound, many-reads}
use Rattle.nest_grammar.proofs.TestLaws.{not-equal, equal-not, mark-begins, mark-sees}
use Rattle.std.proofs.lemmas.Bool.{and_parts}
use Rattle.nest_grammar.proofs.PartAfterPartLaws.{bind-ok}

-- Completeness.

number-begins : (n : ℕ) (s : Sight) → SeesNumber n s → row_begins (stands s) ≡ Some tt
unfolding row_begins
number-begins n s h = rw h

next_row-read : (depth n : ℕ) (ns : List ℕ) (s : Sight) → length ns < most_rows → SeesNumber n s → is_row depth n ≡ true → next_row depth ns s ≡ Ok (ns ++ n ∷ [], skip s)
next_row-read depth n ns s l h r =
    let x1 = obeys-true (nat_lt (length ns) most_rows) kind.Script s (lt-ltb (length ns) most_rows l) in
    let x2 = number-sees (is_row depth) kind.Script n s h r in
    rw (x1, x2)

rows-complete : {depth : ℕ} {s : Sight} {ns : List ℕ} {t : Sight} → IsRows depth s ns t → rows depth s ≡ many row_begins (always (next_row depth)) ns t
unfolding rows
rows-complete {depth} (grammar.one {n} {s} h r) = let x = number-sees (is_row depth) kind.Script n s h r in rw x
rows-complete {depth} (grammar.more {n} {ns} {s} {t} i l h r) = rows-complete i ∙ many-reads row_begins (always (next_row depth)) ns (ns ++ n ∷ []) t (skip t) tt (parts-next_row depth) (number-begins n t h) (next_row-read depth n ns t l h r)

rows-end : {depth : ℕ} {s : Sight} {ns : List ℕ} {t : Sight} → IsRows depth s ns t → row_begins (stands t) ≡ None → rows depth s ≡ Ok (ns, t)
rows-end {depth} {s} {ns} {t} i h = rows-complete i ∙ many-stop row_begins (always (next_row depth)) ns t h

row_but-read : (depth a b : ℕ) (s : Sight) → SeesNumber b s → is_row depth b ≡ true → b ≢ a → row_but depth a s ≡ Ok (b, skip s)
row_but-read depth a b s h r n = number-sees (λ n. is_row depth n && not (n == a)) kind.Script b s h (rw (r, not-equal b a n) refl)

command-read : (depth : ℕ) (cs : Script) (w : CommandWord) (c : Command) (s t : Sight) → length cs < most_commands → command_word (stands s) ≡ Some w → may_follow w cs ≡ true → operands depth w (skip s) ≡ Ok (c, t) → command depth cs s ≡ Ok (cs ++ c ∷ [], t)
unfolding command
command-read depth cs w c s t l h m o =
    let x1 = fewer-room (length cs) most_commands s l in
    let x2 = obeys-true (may_follow w cs) kind.Script s m in
    rw (h, x1, x2, o)

command-complete : (depth : ℕ) (cs : Script) (s : Sight) (c : Command) (t : Sight) → IsCommand depth cs s c t → length cs < most_commands → row_begins (stands t) ≡ None → command depth cs s ≡ Ok (cs ++ c ∷ [], t)
unfolding operands
command-complete depth cs s _ _ (seq {n} h m a r) l e =
    let x = number-sees (λ n. nat_le n depth) kind.Script n (skip s) a (le-leb n depth r) in
    command-read depth cs word.Seq (Seq n) s (skip (skip s)) l h m (rw x)
command-complete depth cs s _ _ (swap {a} {b} {t = t} h i r q j k n) l e =
    let x1 = number-sees (is_row depth) kind.Script a (skip s) i r in
    let x2 : row_but depth a (skip (skip s)) ≡ Ok (b, skip t) = ap (row_but depth a) (sym q) ∙ row_but-read depth a b t j k n in
    command-read depth cs word.Swap (Swap a b) s (skip t) l h refl (rw (x1, x2))
command-complete depth cs s _ _ (skew {a} {b} {m} {t = t} {u} h f i r q j k n v w) l e =
    let x1 = number-sees (is_row depth) kind.Script a (skip s) i r in
    let x2 : row_but depth a (skip (skip s)) ≡ Ok (b, skip t) = ap (row_but depth a) (sym q) ∙ row_but-read depth a b t j k n in
    let x3 = signed-is is_factor kind.Script (skip t) m u v w in
    command-read depth cs word.Skew (Skew a b m) s u l h f (rw (x1, x2, x3))
command-complete depth cs s _ _ (tile {a} {n} {t = t} h i r q j k) l e =
    let x1 = number-sees (is_row depth) kind.Script a (skip s) i r in
    let x2 : ruled is_size (skip (skip s)) ≡ Ok (n, skip t) = ap (ruled is_size) (sym q) ∙ number-sees is_size kind.Script n t j k in
    command-read depth cs word.Tile (Tile a (pos n)) s (skip t) l h refl (rw (x1, x2))
command-complete depth cs s _ t (par {ns} h i) l e = let x = rows-end i e in command-read depth cs word.Par (Par (marked ns)) s t l h refl (rw x)
command-complete depth cs s _ t (wave {ns} h i) l e = let x = rows-end i e in command-read depth cs word.Wave (Wave (marked ns)) s t l h refl (rw x)

command-front : {depth : ℕ} {cs : Script} {s : Sight} {c : Command} {t : Sight} → IsCommand depth cs s c t → (w : CommandWord) × (command_word (stands s) ≡ Some w)
command-front (seq h m a r) = (word.Seq, h)
command-front (swap h i r q j k n) = (word.Swap, h)
command-front (skew h f i r q j k n v w) = (word.Skew, h)
command-front (tile h i r q j k) = (word.Tile, h)
command-front (par h i) = (word.Par, h)
command-front (wave h i) = (word.Wave, h)

commands-front : {depth : ℕ} {s : Sight} {cs : Script} {t : Sight} → IsCommands depth s cs t → (w : CommandWord) × (command_word (stands s) ≡ Some w)
commands-front (grammar.one i) = command-front i
commands-front (grammar.more i h l j) = commands-front i

semicolon-no-row : (s : Sight) → Sees mark.Semicolon s → row_begins (stands s) ≡ None
unfolding row_begins
semicolon-no-row s h = rw h

close-no-row : (s : Sight) → Sees mark.CloseBrace s → row_begins (stands s) ≡ None
unfolding row_begins
close-no-row s h = rw h

-- the commands up to here, and those that may go on behind them
abbrev commands : ℕ → Reading Script
commands depth = command depth [] >>= many (at_mark mark.Semicolon) (always (next_command depth))

commands-complete : {depth : ℕ} {s : Sight} {cs : Script} {t : Sight} → IsCommands depth s cs t → row_begins (stands t) ≡ None → commands depth s ≡ many (at_mark mark.Semicolon) (always (next_command depth)) cs t
commands-complete {depth} (grammar.one {c} {s} {t} i) e = let x = command-complete depth [] s c t i (omega arith) e in rw x
commands-complete {depth} (grammar.more {cs} {c} {s} {t} {u} i h l j) e =
    commands-complete i (semicolon-no-row t h) ∙ many-reads (at_mark mark.Semicolon) (always (next_command depth)) cs (cs ++ c ∷ []) t u tt (parts-command depth) (mark-begins mark.Semicolon t h) (command-complete depth cs (skip t) c u j l e)

semicolon-stops : (s : Sight) → Sees mark.CloseBrace s → at_mark mark.Semicolon (stands s) ≡ None
unfolding is_mark spelling
semicolon-stops s h = rw h

word-no-mark : (m : Mark) (t : Token) (w : CommandWord) → command_word t ≡ Some w → is_mark m t ≡ false
unfolding command_word is_mark
word-no-mark m (token.Name n) w h = refl
word-no-mark m _ w h = absurd (cc)

script-complete : {depth : ℕ} {s : Sight} {cs : Script} {t : Sight} → IsScript depth s cs t → script depth s ≡ Ok (cs, t)
unfolding script
script-complete {depth} (grammar.empty {s} h k) =
    let x1 = need-sees mark.OpenBrace s h in
    let x2 = sees-is mark.CloseBrace (skip s) k in
    rw (x1, x2)
script-complete {depth} (grammar.script {cs} {s} {t} h i k) =
    let f = commands-front i in
    let x1 = need-sees mark.OpenBrace s h in
    let x2 = word-no-mark mark.CloseBrace (stands (skip s)) f.0 f.1 in
    let x3 : commands depth (skip s) ≡ Ok (cs, t) = commands-complete i (close-no-row t k) ∙ many-stop (at_mark mark.Semicolon) (always (next_command depth)) cs t (semicolon-stops t k) in
    let x4 = need-sees mark.CloseBrace t k in
    rw (x1, x2, x3, x4)

candidate-read : (depth : ℕ) (scripts : List Script) (cs : Script) (s t : Sight) → length scripts < most_candidates → script depth (skip s) ≡ Ok (cs, t) → candidate depth scripts s ≡ Ok (scripts ++ cs ∷ [], t)
candidate-read depth scripts cs s t l h = let x = fewer-room (length scripts) most_candidates s l in rw (x, h)

pub candidates-complete : {depth : ℕ} {s : Sight} {scripts : List Script} {t : Sight} → IsCandidates depth s scripts t → candidates depth s ≡ many (at_mark mark.Candidate) (always (candidate depth)) scripts t
unfolding candidates
candidates-complete grammar.none = refl
candidates-complete {depth} (grammar.more {scripts} {cs} {s} {t} {u} i h l j) =
    candidates-complete i ∙ many-reads (at_mark mark.Candidate) (always (candidate depth)) scripts (scripts ++ cs ∷ []) t u tt (parts-candidate depth) (mark-begins mark.Candidate t h) (candidate-read depth scripts cs t u l (script-complete j))

-- Soundness.

rows-sound : (depth : ℕ) (s : Sight) (x : List ℕ × Sight) → rows depth s ≡ Ok x → IsRows depth s x.0 x.1
unfolding rows
rows-sound depth s x h =
    let f = number-then (is_row depth) kind.Script _ s x h in
    many-sound (IsRows depth s) row_begins (always (next_row depth)) next (f.0 ∷ []) (skip s) x (grammar.one f.1 f.2) f.3
  where
    next : (ns : List ℕ) (t : Sight) (u : Unit {0}) (y : List ℕ × Sight) → IsRows depth s ns t → row_begins (stands t) ≡ Some u → next_row depth ns t ≡ Ok y → IsRows depth s y.0 y.1
    next ns t u y i e k =
        let g1 = obeys-then (nat_lt (length ns) most_rows) kind.Script _ t y k in
        let g2 = number-then (is_row depth) kind.Script _ t y g1.1 in
        let q = given (ns ++ g2.0 ∷ []) (skip t) y g2.3 in
        rw q (grammar.more i (ltb-true (length ns) most_rows g1.0) g2.1 g2.2)

operands-sound : (depth : ℕ) (cs : Script) (s : Sight) (x : Command × Sight) (w : CommandWord) → command_word (stands s) ≡ Some w → may_follow w cs ≡ true → operands depth w (skip s) ≡ Ok x → IsCommand depth cs s x.0 x.1
unfolding operands
operands-sound depth cs s x word.Seq h m k =
    let f = number-then (λ n. nat_le n depth) kind.Script _ (skip s) x k in
    let q = given (Seq f.0) (skip (skip s)) x f.3 in
    rw q (seq h m f.1 (leb-true f.0 depth f.2))
operands-sound depth cs s x word.Swap h m k =
    let f = number-then (is_row depth) kind.Script _ (skip s) x k in
    let g = number-then (λ n. is_row depth n && not (n == f.0)) kind.Script _ (skip (skip s)) x f.3 in
    let b = and_parts (is_row depth g.0) (not (g.0 == f.0)) g.2 in
    let q = given (Swap f.0 g.0) (skip (skip (skip s))) x g.3 in
    rw q (swap h f.1 f.2 refl g.1 b.0 (equal-not g.0 f.0 b.1))
operands-sound depth cs s x word.Skew h m k =
    let f = number-then (is_row depth) kind.Script _ (skip s) x k in
    let g = number-then (λ n. is_row depth n && not (n == f.0)) kind.Script _ (skip (skip s)) x f.3 in
    let b = and_parts (is_row depth g.0) (not (g.0 == f.0)) g.2 in
    let v = signed-then is_factor kind.Script _ (skip (skip (skip s))) x g.3 in
    let q = given (Skew f.0 g.0 v.0) v.1 x v.4 in
    rw q (skew h m f.1 f.2 refl g.1 b.0 (equal-not g.0 f.0 b.1) v.2 v.3)
operands-sound depth cs s x word.Tile h m k =
    let f = number-then (is_row depth) kind.Script _ (skip s) x k in
    let g = number-then is_size kind.Script _ (skip (skip s)) x f.3 in
    let q = given (Tile f.0 (pos g.0)) (skip (skip (skip s))) x g.3 in
    rw q (tile h f.1 f.2 refl g.1 g.2)
operands-sound depth cs s x word.Par h m k =
    let f = bind-ok (rows depth (skip s)) _ x k in
    let q = given (Par (marked f.0.0)) f.0.1 x f.2 in
    rw q (par h (rows-sound depth (skip s) f.0 f.1))
operands-sound depth cs s x word.Wave h m k =
    let f = bind-ok (rows depth (skip s)) _ x k in
    let q = given (Wave (marked f.0.0)) f.0.1 x f.2 in
    rw q (wave h (rows-sound depth (skip s) f.0 f.1))

-- a command behind others, which is not one too many
command-sound : (depth : ℕ) (cs : Script) (s : Sight) (x : Script × Sight) → command depth cs s ≡ Ok x → (length cs < most_commands) × ((c : Command) × (x.0 ≡ cs ++ c ∷ []) × IsCommand depth cs s c x.1)
unfolding command refused
command-sound depth cs s x h =
    let f = bind-ok (command_at depth cs (command_word (stands s)) s) (λ c. gives (cs ++ c ∷ [])) x h in
    let q = given (cs ++ f.0.0 ∷ []) f.0.1 x f.2 in
    let g = by f.0 (command_word (stands s)) refl f.1 in
    rw q (g.0, (f.0.0, refl, g.1))
  where
    by : (y : Command × Sight) (o : Option CommandWord) → command_word (stands s) ≡ o → command_at depth cs o s ≡ Ok y → (length cs < most_commands) × IsCommand depth cs s y.0 y.1
    by y (Some w) e k =
        let g1 = fewer-then (length cs) most_commands _ s y k in
        let g2 = obeys-then (may_follow w cs) kind.Script _ s y g1.1 in
        (g1.0, operands-sound depth cs s y w e g2.0 g2.1)
    by y None e k = absurd (cc)

commands-sound : (depth : ℕ) (s : Sight) (x : Script × Sight) → commands depth s ≡ Ok x → IsCommands depth s x.0 x.1
commands-sound depth s x h =
    let f = bind-ok (command depth [] s) _ x h in
    let g = command-sound depth [] s f.0 f.1 in
    many-sound (IsCommands depth s) (at_mark mark.Semicolon) (always (next_command depth)) next f.0.0 f.0.1 x (subst (λ (cs : Script). IsCommands depth s cs f.0.1) (sym g.1.1) (grammar.one g.1.2)) f.2
  where
    next : (cs : Script) (t : Sight) (u : Unit {0}) (y : Script × Sight) → IsCommands depth s cs t → at_mark mark.Semicolon (stands t) ≡ Some u → next_command depth cs t ≡ Ok y → IsCommands depth s y.0 y.1
    next cs t u y i e k =
        let g = command-sound depth cs (skip t) y k in
        subst (λ (ds : Script). IsCommands depth s ds y.1) (sym g.1.1) (grammar.more i (mark-sees mark.Semicolon t u e) g.0 g.1.2)

script-sound : (depth : ℕ) (s : Sight) (x : Script × Sight) → script depth s ≡ Ok x → IsScript depth s x.0 x.1
unfolding script
script-sound depth s x h =
    let f = need-then mark.OpenBrace _ s x h in
    elim (is_mark mark.CloseBrace (stands (skip s))) as (λ b. is_mark mark.CloseBrace (stands (skip s)) ≡ b → script_at depth b (skip s) ≡ Ok x → IsScript depth s x.0 x.1) [
      | true ↦ λ e k. (let q = given {A = Script} [] (skip (skip s)) x k in rw q (grammar.empty f.0 (is_mark-true mark.CloseBrace (stands (skip s)) e)))
      | false ↦ λ e k. (
          let g = bind-ok (commands depth (skip s)) _ x k in
          let n = need-then mark.CloseBrace _ g.0.1 x g.2 in
          let q = given g.0.0 (skip g.0.1) x n.1 in
          rw q (grammar.script f.0 (commands-sound depth (skip s) g.0 g.1) n.0))
    ] refl f.1

pub candidates-sound : (depth : ℕ) (s : Sight) (x : List Script × Sight) → candidates depth s ≡ Ok x → IsCandidates depth s x.0 x.1
unfolding candidates
candidates-sound depth s x h = many-sound (IsCandidates depth s) (at_mark mark.Candidate) (always (candidate depth)) next [] s x grammar.none h
  where
    next : (scripts : List Script) (t : Sight) (u : Unit {0}) (y : List Script × Sight) → IsCandidates depth s scripts t → at_mark mark.Candidate (stands t) ≡ Some u → candidate depth scripts t ≡ Ok y → IsCandidates depth s y.0 y.1
    next scripts t u y i e k =
        let f = fewer-then (length scripts) most_candidates _ t y k in
        let g = bind-ok (script depth (skip t)) _ y f.1 in
        let q = given (scripts ++ g.0.0 ∷ []) g.0.1 y g.2 in
        rw q (grammar.more i (mark-sees mark.Candidate t u e) f.0 (script-sound depth (skip t) g.0 g.1))
