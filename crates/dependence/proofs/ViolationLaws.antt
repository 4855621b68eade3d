-- The rows of a violation.
use Rattle.std.proofs.Common.{◌≡◌, sym, ap, ap₂, ◌∙◌, ℕ, ◌+◌, ◌<◌, ◌-◌, ℤ, Bool, min, List, [], ◌∷◌, ◌++◌, map, take, length, append_assoc, append-nil}
use Rattle.std.specs.List.{range_with_len, flat_map}
use Rattle.std.proofs.lemmas.List.{map-append, take_more}
use Rattle.affine.specs.declared.row.Row.{Row}
use Rattle.affine.specs.Forms.{Affine}
use Rattle.fourier_motzkin.specs.Elimination.{AllOver}
use Rattle.plain_lemmas.proofs.MembershipLaws.{All-from, has-from-contains}
use Rattle.domain.specs.Tables.{Table, Block, block_at, counters, depth}
use Rattle.transform.specs.Schedules.{Line, Schedule, line_at}
use Rattle.transform.proofs.LineLaws.{no-line}
use Rattle.dependence.specs.Comparisons.{AtX, AtY, AtMost, row_for}
use Rattle.dependence.specs.Systems.{System, IsSystemOf, equal, place_form, systems}
use Rattle.dependence.specs.Terms.{turned}
use Rattle.dependence.specs.Legality.{combined, row_form, unmoved, violated, violation, joint_variables, trial}
use Rattle.dependence.proofs.VerdictLaws.{system-is, over-tried}
use Rattle.std.proofs.lemmas.Grind.{flat_map-append}

-- a row of the matrix as a form
pub row_form-is : (t : Table) (b : Block) (l : Line) (row : List ℤ) (x : Affine) → row ≡ l.row → x ≡ combined (depth t) row (map (place_form t b) (range_with_len 0 (depth t))) → x ≡ row_form t b l
row_form-is t b l row x e f = f ∙ ap (λ (r : List ℤ). combined (depth t) r (map (place_form t b) (range_with_len 0 (depth t)))) e

-- one more row in which nothing moves
pub more-unmoved : (h : AtMost → Row) (t : Table) (a b : Block) (s : Schedule) (k : ℕ) (x y : Affine) (old before after : List Row) → k < length s.lines → x ≡ row_form t a (line_at s k) → y ≡ row_form t b (line_at s k)
    → before ≡ old ++ map h (flat_map (unmoved t a b) (take k s.lines)) → after ≡ before ++ map h (equal (AtX x) (AtY y)) → after ≡ old ++ map h (flat_map (unmoved t a b) (take (k + 1) s.lines))
more-unmoved h t a b s k x y old before after l ex ey e g =
    let front = flat_map (unmoved t a b) (take k s.lines) in
    let here : equal (AtX x) (AtY y) ≡ unmoved t a b (line_at s k) = ap₂ (λ (p q : Affine). equal (AtX p) (AtY q)) ex ey in
    let grown : flat_map (unmoved t a b) (take (k + 1) s.lines) ≡ front ++ unmoved t a b (line_at s k) =
    ap (flat_map (unmoved t a b)) (take_more s.lines k no-line l) ∙ flat_map-append (unmoved t a b) (take k s.lines) (line_at s k ∷ []) ∙ ap (λ (zs : List AtMost). front ++ zs) (append-nil (unmoved t a b (line_at s k))) in
    g
    ∙ ap₂ (λ (rows : List Row) (cs : List AtMost). rows ++ map h cs) e here
    ∙ append_assoc old (map h front) (map h (unmoved t a b (line_at s k)))
    ∙ ap (λ (rows : List Row). old ++ rows) (sym (map-append h front (unmoved t a b (line_at s k))) ∙ ap (map h) (sym grown))

violated-is : (h : AtMost → Row) (t : Table) (a b : Block) (s : Schedule) (row : ℕ) (above : Bool) (x y : Affine) (old before after : List Row) → x ≡ row_form t a (line_at s (row - 1)) → y ≡ row_form t b (line_at s (row - 1))
    → before ≡ old ++ map h (flat_map (unmoved t a b) (take (min (row - 1) s.seq) s.lines)) → after ≡ before ++ h (turned above x y) ∷ [] → after ≡ old ++ map h (violated t s a b row above)
violated-is h t a b s row above x y old before after ex ey e g =
    let front = flat_map (unmoved t a b) (take (min (row - 1) s.seq) s.lines) in
    g
    ∙ ap₂ (λ (rows : List Row) (c : AtMost). rows ++ h c ∷ []) e (ap₂ (λ (p q : Affine). turned above p q) ex ey)
    ∙ append_assoc old (map h front) (h (turned above (row_form t a (line_at s (row - 1))) (row_form t b (line_at s (row - 1)))) ∷ [])
    ∙ ap (λ (rows : List Row). old ++ rows) (sym (map-append h front (turned above (row_form t a (line_at s (row - 1))) (row_form t b (line_at s (row - 1))) ∷ [])))

pub violation-is : (t : Table) (s : Schedule) (sys : System) (row : ℕ) (above : Bool) (nx ny : ℕ) (a b : Block) (x y : Affine) (old before after : List Row) → a ≡ block_at t sys.first.block → b ≡ block_at t sys.second.block → nx ≡ counters t a → ny ≡ counters t b → old ≡ sys.rows
    → x ≡ row_form t a (line_at s (row - 1)) → y ≡ row_form t b (line_at s (row - 1)) → before ≡ old ++ map (row_for nx ny) (flat_map (unmoved t a b) (take (min (row - 1) s.seq) s.lines)) → after ≡ before ++ row_for nx ny (turned above x y) ∷ []
    → after ≡ violation t s sys row above
violation-is t s sys row above nx ny a b x y old before after ea eb enx eny eo ex ey e g =
    violated-is (row_for nx ny) t a b s row above x y old before after ex ey e g
    ∙ same-parts (λ (n m : ℕ) (u v : Block) (rows : List Row). rows ++ map (row_for n m) (violated t s u v row above)) nx _ ny _ a _ b _ old sys.rows (enx ∙ ap (counters t) ea) (eny ∙ ap (counters t) eb) ea eb eo
  where
    same-parts : {R : Type 0} (G : ℕ → ℕ → Block → Block → List Row → R) (n n' m m' : ℕ) (x x' y y' : Block) (r r' : List Row) → n ≡ n' → m ≡ m' → x ≡ x' → y ≡ y' → r ≡ r' → G n m x y r ≡ G n' m' x' y' r'
    same-parts G n n' m m' x x' y y' r r' e₁ e₂ e₃ e₄ e₅ = cc

pub violation-over : (t : Table) (s : Schedule) (sys : System) (row : ℕ) (above : Bool) → IsSystemOf t sys → AllOver (joint_variables t sys) (violation t s sys row above)
violation-over t s sys row above of =
    All-from _ (violation t s sys row above) (over-tried t s of.0 (trial sys (record { row = row; above = above })) (system-is t of.0 sys (has-from-contains (systems t of.0) sys of.1)))
