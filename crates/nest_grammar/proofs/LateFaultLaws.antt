-- Late: what stands before the fault of a text begins a sentence of the grammar.
use Rattle.std.proofs.Common.{◌≡◌, ℕ, List, [], ◌∷◌, ◌++◌, length, refl, sym, ◌∙◌, ap, Result, Ok, Err, true, false, cond, subst, append_assoc, append-nil}
use Rattle.std.specs.Prelude.{nat_le}
use Rattle.nest_tokens.specs.declared.token.Token.{Token}
use Rattle.nest_tokens.specs.declared.token.Token.TheVariants as token
use Rattle.nest_tokens.specs.declared.token.Spot.{Spot}
use Rattle.nest_tokens.specs.Lexing.{tokens}
use Rattle.nest_grammar.specs.declared.fault.TextFault.{TextFault}
use Rattle.nest_grammar.specs.declared.fault.TextKind.TheVariants as kind
use Rattle.nest_grammar.specs.declared.file.File.{File as NestFile}
use Rattle.nest_grammar.specs.Limits.{most_bytes}
use Rattle.nest_tokens.specs.Ahead.{first}
use Rattle.nest_grammar.specs.Sights.{Sight, stands, here, start}
use Rattle.nest_grammar.specs.Names.{names_of}
use Rattle.nest_grammar.specs.Readings.{after, gives, refused, end_at, end}
use Rattle.nest_grammar.specs.Contents.{version, scalars, memory, items, units, contents, file_of, too_long, reading}
use Rattle.nest_grammar.proofs.PartAfterPartLaws.{bind-ok}
use Rattle.nest_grammar.specs.Kinds.{comes_at, FaultAtItsToken}
use Rattle.nest_grammar.specs.Phrases.{File, The, Allows, shown, Begins, FaultInSentence, FaultNotTooLate, ReadTextIsSentence}
use Rattle.nest_grammar.proofs.EarlyFaultLaws.{AllReal, real-tokens, real-at, end_of}
use Rattle.nest_grammar.proofs.SentenceLaws.{AllowedAt, Passed, Stopped, Judged}
use Rattle.nest_grammar.proofs.FileLaws.{of-contents}

begins-with : (before : List Token) (t : Token) (fill : List Token) → Allows (The File) (before ++ t ∷ fill) → Begins (The File) (before ++ t ∷ [])
begins-with before t fill h = (fill, subst (λ (l : List Token). Allows (The File) l) (sym (append_assoc before (t ∷ []) fill)) h)

in-sentence : (text : List ℕ) (f : TextFault) (h : Stopped (The File) f (length text) (tokens text)) (more : List Spot) → h.behind ≡ more → FaultInSentence text f
in-sentence text f h [] e =
    let l : tokens text ≡ h.before = h.left ∙ ap (λ (z : List Spot). h.before ++ z) e ∙ append-nil h.before in
    record {
      before = h.before;
      spot = end_of (length text);
      behind = [];
      tokens = ap (λ (z : List Spot). z ++ end_of (length text) ∷ []) l;
      at = h.at ∙ ap (λ (z : List Spot). (first (length text) z).at) e;
      begins = (h.fill, h.begins);
      allowed = λ q. absurd (let a = h.allowed q in let k : [] ≡ a.spot ∷ a.rest = sym e ∙ a.is in cc);
      comes = subst (λ (z : List Spot). comes_at f.what (first (length text) z).token ≡ true) e h.comes;
    }
in-sentence text f h (x ∷ xs) e =
    let l : tokens text ≡ h.before ++ x ∷ xs = h.left ∙ ap (λ (z : List Spot). h.before ++ z) e in
    record {
      before = h.before;
      spot = x;
      behind = xs ++ end_of (length text) ∷ [];
      tokens = ap (λ (z : List Spot). z ++ end_of (length text) ∷ []) l ∙ append_assoc h.before (x ∷ xs) (end_of (length text) ∷ []);
      at = h.at ∙ ap (λ (z : List Spot). (first (length text) z).at) e;
      begins = (h.fill, h.begins);
      allowed = λ q. (
          let a : AllowedAt (The File) h.before h.behind = h.allowed q in
          let k : x ∷ xs ≡ a.spot ∷ a.rest = sym e ∙ a.is in
          let j : a.spot ≡ x = cc in
          begins-with (shown h.before) x.token a.fill (subst (λ (y : Spot). Allows (The File) (shown h.before ++ y.token ∷ a.fill)) j a.allows));
      comes = subst (λ (z : List Spot). comes_at f.what (first (length text) z).token ≡ true) e h.comes;
    }

judged : (text : List ℕ) (y : Result (NestFile × Sight) TextFault) → contents (start text) ≡ y → Judged (The File) y (length text) (tokens text)
judged text y e = subst (λ (z : Result (NestFile × Sight) TextFault). Judged (The File) z (length text) (tokens text)) e (of-contents (start text)).is

-- a text that is not too long is read or has the fault of its contents
read-or-fault : (text : List ℕ) (f : TextFault) → reading text ≡ Err f → (f.what ≡ kind.Long → ⊥) → contents (start text) ≡ Err f
unfolding reading
read-or-fault text f h long = elim (nat_le (length text) most_bytes) as (λ b. cond b (file_of (contents (start text))) (Err too_long) ≡ Err f → contents (start text) ≡ Err f) [
  | true ↦ λ k. of-fault (contents (start text)) k
  | false ↦ λ k. absurd (let e : too_long ≡ f = cc in long (ap (λ (g : TextFault). g.what) (sym e)))
] h
  where
    of-fault : (y : Result (NestFile × Sight) TextFault) → file_of y ≡ Err f → y ≡ Err f
    of-fault (Ok x) k = absurd (cc)
    of-fault (Err g) k = cc

pub fault-late : FaultNotTooLate
fault-late text f h long =
    let s : Stopped (The File) f (length text) (tokens text) = judged text (Err f) (read-or-fault text f h long) in
    in-sentence text f s s.behind refl

pub fault-at-its-token : FaultAtItsToken
fault-at-its-token text f h long =
    let s : FaultInSentence text f = fault-late text f h long in
    record { before = s.before; spot = s.spot; behind = s.behind; tokens = s.tokens; at = s.at; comes = s.comes }

-- a file that was read is read to the end

ends-at : (a : NestFile) (s : Sight) (t : Token) (y : NestFile × Sight) → stands s ≡ t → after (end_at t s) (λ _. gives a) ≡ Ok y → stands y.1 ≡ token.End
unfolding refused
ends-at a s token.End y h e = let k : y ≡ (a, s) = cc in ap (λ (z : NestFile × Sight). stands z.1) k ∙ h
ends-at a s _ y h e = absurd (cc)

contents-ends : (s : Sight) (y : NestFile × Sight) → contents s ≡ Ok y → stands y.1 ≡ token.End
unfolding contents end
contents-ends s y h =
    let v = bind-ok (version s) _ y h in
    let c = bind-ok (scalars v.0.1) _ y v.2 in
    let w = bind-ok (memory c.0.1) _ y c.2 in
    let i = bind-ok (items w.0.0 w.0.1) _ y w.2 in
    let u = bind-ok (units v.0.0 (names_of c.0.0) i.0.1) _ y i.2 in
    ends-at (record { version = v.0.0; scalars = c.0.0; words = w.0.0; items = i.0.0; units = u.0.0 }) u.0.1 (stands u.0.1) y refl u.2

no-more : (size : ℕ) (before more : List Spot) → AllReal (before ++ more) → (first size more).token ≡ token.End → more ≡ []
no-more size before [] r h = refl
no-more size before (x ∷ xs) r h = absurd (real-at before x xs r h)

all-read : (text : List ℕ) (y : NestFile × Sight) → contents (start text) ≡ Ok y → Allows (The File) (shown (tokens text))
unfolding here
all-read text y e =
    let p : Passed (The File) y (length text) (tokens text) = judged text (Ok y) e in
    let q : y.1.left ≡ [] = no-more y.1.size p.before y.1.left (subst AllReal p.left (real-tokens text)) (contents-ends (start text) y e) in
    let l : tokens text ≡ p.before = p.left ∙ ap (λ (z : List Spot). p.before ++ z) q ∙ append-nil p.before in
    subst (λ (z : List Spot). Allows (The File) (shown z)) (sym l) p.allows

of-file : (text : List ℕ) (file : NestFile) (y : Result (NestFile × Sight) TextFault) → contents (start text) ≡ y → file_of y ≡ Ok file → Allows (The File) (shown (tokens text))
of-file text file (Ok x) e h = all-read text x e
of-file text file (Err f) e h = absurd (cc)

pub read-sentence : ReadTextIsSentence
unfolding reading
read-sentence text file h = elim (nat_le (length text) most_bytes) as (λ b. cond b (file_of (contents (start text))) (Err too_long) ≡ Ok file → Allows (The File) (shown (tokens text))) [
  | true ↦ λ k. of-file text file (contents (start text)) refl k
  | false ↦ λ k. absurd (cc)
] h

pub ruleset late = (fault-late, fault-at-its-token, read-sentence)
