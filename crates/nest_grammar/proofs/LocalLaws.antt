-- Local: what is read, and each fault, depends on no token behind the one that is looked at.
use Rattle.std.proofs.Common.{◌≡◌, ℕ, zero, suc, ◌+◌, ◌<◌, ◌≤◌, List, [], ◌∷◌, ◌++◌, length, refl, sym, ◌∙◌, ap, arith, Option, Some, None, Result, Ok, Err, Bool, true, false, subst, append_assoc, length-append, if◌then◌else◌}
use Rattle.nest_tokens.specs.declared.token.Token.{Token}
use Rattle.nest_tokens.specs.declared.token.Spot.{Spot}
use Rattle.nest_grammar.specs.declared.fault.TextFault.{TextFault}
use Rattle.nest_grammar.specs.declared.fault.TextKind.{TextKind}
use Rattle.nest_tokens.specs.Ahead.{first, rest}
use Rattle.nest_grammar.specs.Sights.{Sight, stands, here, skip}
use Rattle.nest_grammar.specs.Readings.{Reading, ◌>>=◌, gives, refused, skipped, wrong, unexpected, many}
use Rattle.nest_grammar.proofs.PartAfterPartLaws.{NoLonger, Parts, end-here, many-stop, many-next, many-shorter}

-- the same counts before other tokens, in a text of another size
abbrev pub elsewhere : Sight → ℕ → List Spot → Sight
elsewhere s n k = record s { left = k; size = n }

-- These begin with the same token, or both are empty and the text ends at the same place.
abbrev pub Same : ℕ → List Spot → ℕ → List Spot → Type 0
Same m [] n k = (k ≡ []) × (n ≡ m)
Same m (x ∷ xs) n k = (ys : List Spot) × (k ≡ x ∷ ys)

-- tokens in front of others
abbrev pub Prefix : (List Spot → List Spot) → Type 0
Prefix go = (pre : List Spot) × ((k : List Spot) → go k ≡ pre ++ k)

pub prefix-one : (y : Spot) → Prefix (λ k. y ∷ k)
prefix-one y = (y ∷ [], λ k. refl)

pub prefix-then : (f g : List Spot → List Spot) → Prefix f → Prefix g → Prefix (λ k. f (g k))
prefix-then f g p q = (p.0 ++ q.0, λ k. p.1 (g k) ∙ ap (λ (l : List Spot). p.0 ++ l) (q.1 k) ∙ sym (append_assoc p.0 q.0 k))

pub same-first : (m : ℕ) (l : List Spot) (n : ℕ) (k : List Spot) → Same m l n k → first n k ≡ first m l
same-first m [] n k h = rw (h.0, h.1) refl
same-first m (x ∷ xs) n k h = rw (h.1)

pub same-go : (go : List Spot → List Spot) → Prefix go → (m : ℕ) (l : List Spot) (n : ℕ) (k : List Spot) → Same m l n k → Same m (go l) n (go k)
same-go go p m l n k h = elim p.0 as (λ (q : List Spot). ((j : List Spot) → go j ≡ q ++ j) → Same m (go l) n (go k)) [
  | [] ↦ λ e. subst (λ (x : List Spot). Same m x n (go k)) (sym (e l)) (subst (λ (x : List Spot). Same m l n x) (sym (e k)) h)
  | y ∷ ys ↦ λ e. subst (λ (x : List Spot). Same m x n (go k)) (sym (e l)) (ys ++ k, e k)
] p.1

-- the same answer before other tokens
abbrev pub relocated : {A : Type 0} → Result (A × Sight) TextFault → ℕ → List Spot → Result (A × Sight) TextFault
relocated (Ok x) n k = Ok (x.0, elsewhere x.1 n k)
relocated (Err f) n k = Err f

-- the answer stops before these tokens
abbrev pub EndsAt : {A : Type 0} → Result (A × Sight) TextFault → ℕ → List Spot → Type 0
EndsAt (Ok x) size l = (x.1.left ≡ l) × (x.1.size ≡ size)
EndsAt (Err f) size l = f.at ≡ (first size l).at

-- The answer here is the same whatever stands behind the token where it stops.
pub record Here {A : Type 0} (r : Reading A) (s : Sight) : Type 0 where
  pub go : List Spot → List Spot
  pub prefix : Prefix go
  pub more : List Spot
  pub from : s.left ≡ go more
  pub ends : EndsAt (r s) s.size more
  pub is : (n : ℕ) (k : List Spot) → Same s.size more n k → r (elsewhere s n (go k)) ≡ relocated (r s) n k

abbrev pub Local : {A : Type 0} → Reading A → Type 0
Local r = (s : Sight) → Here r s

pub no-longer-local : {A : Type 0} {r : Reading A} → Local r → NoLonger r
no-longer-local {A} {r} l s x e =
    let h : Here r s = l s in
    let v : (x.1.left ≡ h.more) × (x.1.size ≡ s.size) = rw e at h.ends in
    let q : s.left ≡ h.prefix.0 ++ h.more = h.from ∙ h.prefix.1 h.more in
    let n : length s.left ≡ length h.prefix.0 + length h.more = simp length-append at (ap (λ (z : List Spot). length z) q) in
    let m : length x.1.left ≡ length h.more = ap (λ (z : List Spot). length z) v.0 in
    omega arith

here-bind-at : {A B : Type 0} (r : Reading A) (f : A → Reading B) (s : Sight) → Here r s → ((x : A × Sight) → r s ≡ Ok x → Here (f x.0) x.1) → (y : Result (A × Sight) TextFault) → r s ≡ y → Here (r >>= f) s
here-bind-at r f s h hf (Err e) q =
    let w : EndsAt (r s) s.size h.more = h.ends in
    record { go = h.go; prefix = h.prefix; more = h.more; from = h.from; ends = rw q (rw q at w); is = λ n k m. rw (h.is n k m, q) refl }
here-bind-at r f s h hf (Ok x) q =
    let w : EndsAt (r s) s.size h.more = h.ends in
    let v : (x.1.left ≡ h.more) × (x.1.size ≡ s.size) = rw q at w in
    let c : Here (f x.0) x.1 = hf x q in
    let l : h.more ≡ c.go c.more = sym v.0 ∙ c.from in
    record {
      go = λ k. h.go (c.go k);
      prefix = prefix-then h.go c.go h.prefix c.prefix;
      more = c.more;
      from = h.from ∙ ap h.go l;
      ends = rw q (subst (λ (z : ℕ). EndsAt (f x.0 x.1) z c.more) v.1 c.ends);
      is = λ n k m. (
          let m1 : Same x.1.size c.more n k = subst (λ (z : ℕ). Same z c.more n k) (sym v.1) m in
          let i : Same s.size h.more n (c.go k) = subst (λ (z : List Spot). Same s.size z n (c.go k)) (sym l) (same-go c.go c.prefix s.size c.more n k m) in
          rw (h.is n (c.go k) i, q) (c.is n k m1));
    }

pub here-bind : {A B : Type 0} (r : Reading A) (f : A → Reading B) (s : Sight) → Here r s → ((x : A × Sight) → r s ≡ Ok x → Here (f x.0) x.1) → Here (r >>= f) s
here-bind r f s h hf = here-bind-at r f s h hf (r s) refl

-- one reading behind another
pub behind : {A B : Type 0} {r : Reading A} {f : A → Reading B} → Local r → ((a : A) → Local (f a)) → Local (r >>= f)
behind {A} {B} {r} {f} hr hf s = here-bind r f s (hr s) (λ x q. hf x.0 x.1)

pub local-gives : {A : Type 0} (a : A) → Local (gives a)
local-gives a s = record { go = λ k. k; prefix = ([], λ k. refl); more = s.left; from = refl; ends = (refl, refl); is = λ n k m. refl }

-- only the counts are changed
pub local-counts : {A : Type 0} (a : A) (g : Sight → Sight) → ((s : Sight) → (g s).left ≡ s.left) → ((s : Sight) → (g s).size ≡ s.size) → ((s : Sight) (n : ℕ) (k : List Spot) → g (elsewhere s n k) ≡ elsewhere (g s) n k) → Local (λ s. Ok (a, g s))
local-counts {A} a g left size same s = record { go = λ k. k; prefix = ([], λ k. refl); more = s.left; from = refl; ends = (left s, size s); is = λ n k m. ap (λ (t : Sight). Ok (a, t)) (same s n k) }

pub local-refused : {A : Type 0} (what : TextKind) → Local (refused {A = A} what)
unfolding refused here
local-refused what s = record {
  go = λ k. k;
  prefix = ([], λ k. refl);
  more = s.left;
  from = refl;
  ends = refl;
  is = λ n k m. ap (λ (x : Spot). Err (record { at = x.at; what = what })) (same-first s.size s.left n k m);
}

skipped-at : (s : Sight) (l : List Spot) → s.left ≡ l → Here skipped s
unfolding skip
skipped-at s [] e = record { go = λ k. k; prefix = ([], λ k. refl); more = []; from = e; ends = (ap rest e, refl); is = λ n k m. rw (m.0) refl }
skipped-at s (x ∷ xs) e = record { go = λ k. x ∷ k; prefix = prefix-one x; more = xs; from = e; ends = (ap rest e, refl); is = λ n k m. refl }

pub local-skipped : Local skipped
local-skipped s = skipped-at s s.left refl

pub same-here : (s : Sight) (go : List Spot → List Spot) → Prefix go → (l : List Spot) (n : ℕ) (k : List Spot) → s.left ≡ go l → Same s.size l n k → first n (go k) ≡ first s.size s.left
same-here s go p l n k e m = same-first s.size s.left n (go k) (subst (λ (z : List Spot). Same s.size z n (go k)) (sym e) (same-go go p s.size l n k m))

-- by the token that stands here
pub local-by : {A : Type 0} (f : Token → Reading A) → ((t : Token) → Local (f t)) → Local (λ s. f (stands s) s)
unfolding here
local-by f hf s = let h : Here (f (stands s)) s = hf (stands s) s in
    record {
      go = h.go;
      prefix = h.prefix;
      more = h.more;
      from = h.from;
      ends = h.ends;
      is = λ n k m. ap (λ (x : Spot). f x.token (elsewhere s n (h.go k))) (same-here s h.go h.prefix h.more n k h.from m) ∙ h.is n k m;
    }

-- by what was counted
pub local-of : {A S : Type 0} (f : Sight → S) (go : S → Reading A) → ((s : Sight) (n : ℕ) (k : List Spot) → f (elsewhere s n k) ≡ f s) → ((x : S) → Local (go x)) → Local (λ s. go (f s) s)
local-of {A} {S} f go same hf s = let h : Here (go (f s)) s = hf (f s) s in
    record {
      go = h.go;
      prefix = h.prefix;
      more = h.more;
      from = h.from;
      ends = h.ends;
      is = λ n k m. ap (λ (x : S). go x (elsewhere s n (h.go k))) (same s n (h.go k)) ∙ h.is n k m;
    }

-- by a test
pub local-if : {A : Type 0} (b : Bool) (p q : Reading A) → Local p → Local q → Local (λ s. if b then p s else q s)
local-if true p q hp hq = hp
local-if false p q hp hq = hq

pub local-wrong : {A : Type 0} → Local (wrong {A = A})
local-wrong {A} = local-by (λ t. refused (unexpected t)) (λ t. local-refused (unexpected t))

many-none : {A B : Type 0} (begins : Token → Option B) (part : B → A → Reading A) (a : A) (s : Sight) → begins (stands s) ≡ None → Here (many begins part a) s
unfolding here
many-none begins part a s e = record {
  go = λ k. k;
  prefix = ([], λ k. refl);
  more = s.left;
  from = refl;
  ends = rw (many-stop begins part a s e) (refl, refl);
  is = λ n k m. many-stop begins part a (elsewhere s n k) (ap (λ (x : Spot). begins x.token) (same-first s.size s.left n k m) ∙ e) ∙ (rw (many-stop begins part a s e) refl);
}

many-upto : {A B : Type 0} (u : ℕ) (begins : Token → Option B) (part : B → A → Reading A) → Parts begins part → ((b : B) (a : A) → Local (part b a)) → (a : A) (s : Sight) → length s.left ≤ u → Here (many begins part a) s
unfolding here
many-upto zero begins part p h a s le = many-none begins part a s (end-here begins s p.none le)
many-upto {A} {B} (suc u) begins part p h a s le = elim (begins (stands s)) as (λ o. begins (stands s) ≡ o → Here (many begins part a) s) [
  | None ↦ λ e. many-none begins part a s e
  | Some b ↦ λ e. (
      let q : Here (part b a >>= many begins part) s = here-bind (part b a) (many begins part) s (h b a s) (λ y v.
      let l : length y.1.left < length s.left = many-shorter begins part a y.0 s y.1 b p e v in
      many-upto u begins part p h y.0 y.1 (omega arith)) in
      let g : many begins part a s ≡ (part b a >>= many begins part) s = many-next begins part a s b p e in
      record {
        go = q.go;
        prefix = q.prefix;
        more = q.more;
        from = q.from;
        ends = subst (λ (y : Result (A × Sight) TextFault). EndsAt y s.size q.more) (sym g) q.ends;
        is = λ n k m. many-next begins part a (elsewhere s n (q.go k)) b p (ap (λ (x : Spot). begins x.token) (same-here s q.go q.prefix q.more n k q.from m) ∙ e) ∙ q.is n k m ∙ ap (λ (y : Result (A × Sight) TextFault). relocated y n k) (sym g);
      })
] refl

-- part after part
pub local-many : {A B : Type 0} (begins : Token → Option B) (part : B → A → Reading A) → Parts begins part → ((b : B) (a : A) → Local (part b a)) → (a : A) → Local (many begins part a)
local-many begins part p h a s = many-upto (length s.left) begins part p h a s (omega arith)
