-- Early: a fault depends on no token behind its own.
use Rattle.std.proofs.Common.{◌≡◌, ℕ, zero, suc, ◌≤◌, List, [], ◌∷◌, ◌++◌, length, refl, sym, ◌∙◌, ap, Option, Some, None, Result, Ok, Err, true, false, cond, subst, append_assoc, append-nil, drop, nat_lt}
use Rattle.std.proofs.lemmas.Bool.{le-leb}
use Rattle.std.specs.Prelude.{nat_le, ◌^◌}
use Rattle.std.specs.List.{prefix_len}
use Rattle.nest_tokens.specs.declared.token.Mark.{Mark}
use Rattle.nest_tokens.specs.declared.token.Token.{Token}
use Rattle.nest_tokens.specs.declared.token.Token.TheVariants as token
use Rattle.nest_tokens.specs.declared.token.BadToken.TheVariants as bad
use Rattle.nest_tokens.specs.declared.token.Spot.{Spot}
use Rattle.nest_tokens.specs.Tokens.{keyword_of, sign_at}
use Rattle.nest_tokens.specs.Lexing.{is_letter, is_digit, is_name_byte, gap, decimal, numbered, named, keyword_or_name, spelled_by, sign_or_byte, lexed, spots_at, spots, tokens_from, tokens}
use Rattle.nest_grammar.specs.declared.fault.TextFault.{TextFault}
use Rattle.nest_grammar.specs.declared.file.File.{File}
use Rattle.nest_grammar.specs.Limits.{most_bytes}
use Rattle.nest_tokens.specs.Ahead.{first}
use Rattle.nest_grammar.specs.Sights.{Sight, start}
use Rattle.nest_grammar.specs.Contents.{contents, file_of, reading}
use Rattle.nest_grammar.proofs.LocalLaws.{Same, Here, relocated}
use Rattle.nest_grammar.proofs.ProductionLaws.{local-contents}
use Rattle.nest_grammar.specs.Beginnings.{BeginAlike, FaultBehind, ContentsFaultNotTooEarly, FaultAt, FaultNotTooEarly}

alike-same : (m : ℕ) (l : List Spot) (n : ℕ) (k : List Spot) → BeginAlike m l n k → Same m l n k
alike-same m [] n k h = h
alike-same m (x ∷ xs) n k h = h

pub contents-fault : ContentsFaultNotTooEarly
contents-fault s f e =
    let h : Here contents s = local-contents s in
    record {
      before = h.prefix.0;
      behind = h.more;
      left = h.from ∙ h.prefix.1 h.more;
      at = rw e at h.ends;
      same = λ n k m. (rw (← h.prefix.1 k) (h.is n k (alike-same s.size h.more n k m) ∙ ap (λ (y : Result (File × Sight) TextFault). relocated y n k) e));
    }

-- No token of a text is its end

abbrev pub Real : Token → Type 0
Real t = t ≡ token.End → ⊥

real-numbered : (ds : List ℕ) → Real (numbered ds)
unfolding numbered
real-numbered ds h = elim (nat_lt (decimal ds) (2 ^ 63)) as (λ b. cond b (token.Number (decimal ds)) (token.Bad bad.Number) ≡ token.End → ⊥) [ true ↦ λ k. cc | false ↦ λ k. cc ] h

real-word : (o : Option Mark) (s : List ℕ) → Real (keyword_or_name o s)
real-word (Some w) s h = cc
real-word None s h = cc

real-named : (s : List ℕ) → Real (named s)
unfolding named
real-named s h = elim (nat_lt 32 (length s)) as (λ b. cond b (token.Bad bad.Name) (keyword_or_name (keyword_of s) s) ≡ token.End → ⊥) [ true ↦ λ k. cc | false ↦ λ k. real-word (keyword_of s) s k ] h

real-sign : (o : Option Mark) → Real (sign_or_byte o).token
real-sign (Some m) h = cc
real-sign None h = cc

real-lexed : (b : ℕ) (bs : List ℕ) → Real (lexed (b ∷ bs)).token
unfolding lexed
real-lexed b bs h = elim (is_letter b) as (λ x. (cond x (spelled_by (b ∷ bs) (prefix_len is_name_byte (b ∷ bs)) named) (cond (is_digit b) (spelled_by (b ∷ bs) (prefix_len is_digit (b ∷ bs)) numbered) (sign_or_byte (sign_at (b ∷ bs))))).token ≡ token.End → ⊥) [
  | true ↦ λ k. real-named _ k
  | false ↦ λ k. elim (is_digit b) as (λ y. (cond y (spelled_by (b ∷ bs) (prefix_len is_digit (b ∷ bs)) numbered) (sign_or_byte (sign_at (b ∷ bs)))).token ≡ token.End → ⊥) [
    | true ↦ λ j. real-numbered _ j
    | false ↦ λ j. real-sign (sign_at (b ∷ bs)) j
  ] k
] h

abbrev pub AllReal : List Spot → Type 0
AllReal [] = Unit {0}
AllReal (x ∷ xs) = Real x.token × AllReal xs

real-spots_at : (go : List ℕ → List Spot) → ((bs : List ℕ) → AllReal (go bs)) → (size : ℕ) (bs : List ℕ) → AllReal (spots_at go size bs)
real-spots_at go h size [] = tt
real-spots_at go h size (b ∷ bs) = (real-lexed b bs, h (drop (lexed (b ∷ bs)).len (b ∷ bs)))

real-spots : (n size : ℕ) (bs : List ℕ) → AllReal (spots n size bs)
unfolding spots
real-spots zero size bs = tt
real-spots (suc n) size bs = real-spots_at (spots n size) (real-spots n size) size (gap false bs)

pub real-tokens : (text : List ℕ) → AllReal (tokens text)
unfolding tokens_from
real-tokens text = real-spots (length text) (length text) text

pub real-at : (before : List Spot) (x : Spot) (rest : List Spot) → AllReal (before ++ x ∷ rest) → Real x.token
real-at [] x rest h = h.0
real-at (y ∷ ys) x rest h = real-at ys x rest h.1

-- before an end, another token than the end stands in the list
real-before : (l before : List Spot) (e x : Spot) (rest : List Spot) → l ++ e ∷ [] ≡ before ++ x ∷ rest → e.token ≡ token.End → Real x.token → (ys : List Spot) × (l ≡ before ++ x ∷ ys)
real-before [] [] e x rest h i r = absurd (let k : e ≡ x = cc in r (subst (λ (y : Spot). y.token ≡ token.End) k i))
real-before [] (y ∷ []) e x rest h i r = absurd (cc)
real-before [] (y ∷ z ∷ zs) e x rest h i r = absurd (cc)
real-before (a ∷ l) [] e x rest h i r = (l, (let k : a ≡ x = cc in rw k refl))
real-before (a ∷ l) (y ∷ ys) e x rest h i r =
    let k : l ++ e ∷ [] ≡ ys ++ x ∷ rest = cc in
    let q : a ≡ y = cc in
    let n = real-before l ys e x rest k i r in
    (n.0, (rw q (ap (λ (z : List Spot). y ∷ z) n.1)))

-- the end stands behind all tokens
end-behind : (l before : List Spot) (e x : Spot) (rest : List Spot) → AllReal l → l ++ e ∷ [] ≡ before ++ x ∷ rest → x.token ≡ token.End → (l ≡ before) × (e ≡ x)
end-behind [] [] e x rest r h i = (refl, cc)
end-behind [] (y ∷ []) e x rest r h i = absurd (cc)
end-behind [] (y ∷ z ∷ zs) e x rest r h i = absurd (cc)
end-behind (a ∷ l) [] e x rest r h i = absurd (let k : a ≡ x = cc in r.0 (subst (λ (y : Spot). y.token ≡ token.End) (sym k) i))
end-behind (a ∷ l) (y ∷ ys) e x rest r h i =
    let k : l ++ e ∷ [] ≡ ys ++ x ∷ rest = cc in
    let q : a ≡ y = cc in
    let n = end-behind l ys e x rest r.1 k i in
    ((rw q (ap (λ (z : List Spot). y ∷ z) n.0)), n.1)

abbrev pub end_of : ℕ → Spot
end_of size = record { at = size; token = token.End }

-- the reading of a text that is not too long
pub reading-short : (text : List ℕ) → length text ≤ most_bytes → reading text ≡ file_of (contents (start text))
unfolding reading
reading-short text h = (let k : nat_le (length text) most_bytes ≡ true = le-leb (length text) most_bytes h in rw k refl)

pub file_of-err : (r : Result (File × Sight) TextFault) (f : TextFault) → file_of r ≡ Err f → r ≡ Err f
file_of-err (Ok x) f h = absurd (cc)
file_of-err (Err g) f h = cc

fault-at : (text : List ℕ) (f : TextFault) (h : FaultBehind (start text) f) (more : List Spot) → h.behind ≡ more → FaultAt text f
fault-at text f h [] e =
    let l : tokens text ≡ h.before = h.left ∙ ap (λ (z : List Spot). h.before ++ z) e ∙ append-nil h.before in
    record {
      before = h.before;
      spot = end_of (length text);
      behind = [];
      tokens = ap (λ (z : List Spot). z ++ end_of (length text) ∷ []) l;
      at = h.at ∙ ap (λ (z : List Spot). (first (length text) z).at) e;
      same = λ other rest le w. (
          let k = end-behind (tokens other) h.before (end_of (length other)) (end_of (length text)) rest (real-tokens other) w refl in
          let n : length other ≡ length text = ap (λ (z : Spot). z.at) k.1 in
          let c : contents (record (start text) { left = h.before ++ []; size = length other }) ≡ Err f = h.same (length other) [] (subst (λ (z : List Spot). BeginAlike (length text) z (length other) []) (sym e) (refl, n)) in
          let o : tokens other ≡ h.before ++ [] = k.0 ∙ sym (append-nil h.before) in
          reading-short other le ∙ ap file_of (ap (λ (z : List Spot). contents (record (start text) { left = z; size = length other })) o ∙ c));
    }
fault-at text f h (x ∷ xs) e =
    let l : tokens text ≡ h.before ++ x ∷ xs = h.left ∙ ap (λ (z : List Spot). h.before ++ z) e in
    let r : Real x.token = real-at h.before x xs (subst AllReal l (real-tokens text)) in
    record {
      before = h.before;
      spot = x;
      behind = xs ++ end_of (length text) ∷ [];
      tokens = ap (λ (z : List Spot). z ++ end_of (length text) ∷ []) l ∙ append_assoc h.before (x ∷ xs) (end_of (length text) ∷ []);
      at = h.at ∙ ap (λ (z : List Spot). (first (length text) z).at) e;
      same = λ other rest le w. (
          let k = real-before (tokens other) h.before (end_of (length other)) x rest w refl r in
          let c : contents (record (start text) { left = h.before ++ (x ∷ k.0); size = length other }) ≡ Err f = h.same (length other) (x ∷ k.0) (subst (λ (z : List Spot). BeginAlike (length text) z (length other) (x ∷ k.0)) (sym e) (k.0, refl)) in
          reading-short other le ∙ ap file_of (ap (λ (z : List Spot). contents (record (start text) { left = z; size = length other })) k.1 ∙ c));
    }

pub text-fault : FaultNotTooEarly
text-fault text f le e =
    let c : contents (start text) ≡ Err f = file_of-err (contents (start text)) f (sym (reading-short text le) ∙ e) in
    let h : FaultBehind (start text) f = contents-fault (start text) f c in
    fault-at text f h h.behind refl

pub ruleset early = (contents-fault, text-fault)
