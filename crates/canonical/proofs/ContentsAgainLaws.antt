-- What was read of a file is read again from its canonical pieces.
use Rattle.std.proofs.Common.{◌≡◌, ℕ, suc, ◌+◌, ◌<◌, ◌≤◌, ℤ, List, [], ◌∷◌, ◌++◌, length, refl, sym, ◌∙◌, ap, arith, Some, true, false, cond, subst, append_assoc, append-nil}
use Rattle.std.specs.Prelude.{slice_get}
use Rattle.std.specs.List.{flat_map}
use Rattle.std.specs.Str.{bytes_eq}
use Rattle.std.proofs.lemmas.Slice.Eq.{bytes_eq-Decides}
use Rattle.nest_lang.specs.declared.tree.Place.{Place}
use Rattle.nest_lang.specs.declared.tree.Place.TheVariants as place
use Rattle.nest_tokens.specs.declared.token.Name.{Name}
use Rattle.nest_tokens.specs.declared.token.Mark.TheVariants as mark
use Rattle.nest_tokens.specs.declared.token.Token.TheVariants as token
use Rattle.nest_tokens.specs.declared.token.Spot.{Spot}
use Rattle.nest_tokens.specs.Lexing.{tokens}
use Rattle.nest_grammar.specs.declared.version.Version.{Version}
use Rattle.nest_grammar.specs.declared.version.Version.TheVariants.{One, Two as Several}
use Rattle.nest_grammar.specs.declared.file.Scalar.{Scalar}
use Rattle.nest_grammar.specs.declared.file.Item.{Item}
use Rattle.nest_grammar.specs.declared.file.LoopNames.{LoopNames}
use Rattle.nest_grammar.specs.declared.file.NestUnit.{NestUnit}
use Rattle.nest_grammar.specs.declared.file.File.{File}
use Rattle.nest_grammar.specs.Limits.{most_bytes}
use Rattle.nest_tokens.specs.Ahead.{first, rest}
use Rattle.nest_grammar.specs.Sights.{Sight, here, skip, of_version, start}
use Rattle.nest_grammar.specs.Names.{Names, place_of, scalars_from, names_of}
use Rattle.nest_grammar.specs.Grammar.{IsUnit, unit, IsUnits, one as units_one, more as units_more, IsScalars, none as scalars_none, more as scalars_more, IsValues, one as values_one, more as values_more, IsItem, data_, ramp, IsItems, none as items_none, more as items_more, IsVersion, one as version_one, two as version_two, Reads, file}
use Rattle.canonical.specs.Pieces.{Piece, Newline, signed, line}
use Rattle.canonical.specs.Labels.{Labels, label, with_lets, scalar_name}
use Rattle.canonical.specs.Loops.{loop_lines}
use Rattle.canonical.specs.Scripts.{signed_operand, candidate_line}
use Rattle.canonical.specs.Contents.{version_line, scalar_line, memory_line, next_value, value_list, item_line, labels_in, unit_lines, pieces}
use Rattle.canonical.proofs.TokenWalkLaws.{Walks, walks-append, Counts, counts}
use Rattle.canonical.proofs.LoopsAgainLaws.{AgreesAll, Named, loops-again, signed-again, signed-kept}
use Rattle.canonical.proofs.ScriptsAgainLaws.{candidates-again, candidates-kept}
use Rattle.canonical.proofs.PieceLaws.{flat_map-last}
use Rattle.nest_grammar.proofs.ContentLaws.{version-of}

abbrev pub VersionArrives : Sight → Version → List Spot → Type 0
VersionArrives s v m = (t : Sight) × IsVersion s v t × (t.size ≡ s.size) × (t.left ≡ m) × (t.version ≡ v)

version-again : (v : Version) (s2 : Sight) (m : List Spot) → Walks (version_line v) s2.size s2.left m → VersionArrives s2 v m
unfolding skip here version_line line
version-again One s2 m w = (of_version One (skip (skip s2)), version_one w.0 w.1.0, refl, sym w.1.1, refl)
version-again Several s2 m w = (of_version Several (skip (skip s2)), version_two w.0 w.1.0, refl, sym w.1.1, refl)

abbrev pub ScalarsArrive : Sight → List Scalar → List Spot → Type 0
ScalarsArrive s cs m = (t : Sight) × IsScalars s cs t × (t.size ≡ s.size) × (t.left ≡ m) × (counts t ≡ counts s)

scalars-again : {s : Sight} {cs : List Scalar} {t : Sight} → IsScalars s cs t → (s2 : Sight) (m : List Spot) → Walks (flat_map scalar_line cs) s2.size s2.left m → ScalarsArrive s2 cs m
unfolding skip here scalar_line line
scalars-again (scalars_none {s}) s2 m w = (s2, scalars_none, refl, sym w, refl)
scalars-again (scalars_more {cs} {n} {v} {s} {t} {u} i k len h f g j) s2 m w =
    let c : Scalar = record { name = n; value = v } in
    let q = walks-append (flat_map scalar_line cs) (scalar_line c) s2.size s2.left m (subst (λ (ps : List Piece). Walks ps s2.size s2.left m) (flat_map-last scalar_line cs c) w) in
    let y = scalars-again i s2 q.0 q.1 in
    let z1 : (first y.0.size y.0.left).token ≡ token.Plain mark.Scalar = rw (y.3, y.2) q.2.0 in
    let z2 : (first y.0.size (rest y.0.left)).token ≡ token.Name n = rw (y.3, y.2) q.2.1.0 in
    let z3 : (first y.0.size (rest (rest y.0.left))).token ≡ token.Plain mark.Assign = rw (y.3, y.2) q.2.1.1.0 in
    let q1 = walks-append (signed v) (Newline ∷ []) s2.size (rest (rest (rest q.0))) m q.2.1.1.1 in
    let w2 : Walks (signed v) y.0.size (rest (rest (rest y.0.left))) q1.0 = rw (y.3, y.2) q1.1 in
    let x = signed-again (skip (skip (skip t))) v u j (skip (skip (skip y.0))) q1.0 w2 in
    (x.0, scalars_more y.1 z1 len z2 f z3 x.1, x.2 ∙ y.2, x.3 ∙ sym q1.2, x.4 ∙ y.4)

scalars-kept : {s : Sight} {cs : List Scalar} {t : Sight} → IsScalars s cs t → counts t ≡ counts s
unfolding skip
scalars-kept scalars_none = refl
scalars-kept (scalars_more {cs} {n} {v} {s} {t} {u} i k len h f g j) = signed-kept (skip (skip (skip t))) v u j ∙ scalars-kept i

pub values-last : (vs : List ℤ) (v : ℤ) → 0 < length vs → value_list (vs ++ v ∷ []) ≡ value_list vs ++ next_value v
unfolding value_list
values-last [] v h = absurd (omega arith)
values-last (x ∷ vs) v h = ap (λ (l : List Piece). signed_operand x ++ l) (flat_map-last next_value vs v) ∙ sym (append_assoc (signed_operand x) (flat_map next_value vs) (next_value v))

length-last : (vs : List ℤ) (v : ℤ) → 0 < length (vs ++ v ∷ [])
length-last [] v = omega arith
length-last (x ∷ vs) v = omega arith

pub values-some : (words fst : ℕ) {s : Sight} {vs : List ℤ} {t : Sight} → IsValues words fst s vs t → 0 < length vs
values-some words fst (values_one h i) = omega arith
values-some words fst (values_more {vs} {v} i k h j) = length-last vs v

abbrev pub ValuesArrive : ℕ → ℕ → Sight → List ℤ → List Spot → Type 0
ValuesArrive words fst s vs m = (t : Sight) × IsValues words fst s vs t × (t.size ≡ s.size) × (t.left ≡ m) × (counts t ≡ counts s)

values-again : (words fst : ℕ) {s : Sight} {vs : List ℤ} {t : Sight} → IsValues words fst s vs t → (s2 : Sight) (m : List Spot) → Walks (value_list vs) s2.size s2.left m → ValuesArrive words fst s2 vs m
unfolding skip here value_list
values-again words fst (values_one {v} {s} {t} h i) s2 m w =
    let y = signed-again s v t i s2 m (subst (λ (ps : List Piece). Walks ps s2.size s2.left m) (append-nil (signed v)) w) in
    (y.0, values_one h y.1, y.2, y.3, y.4)
values-again words fst (values_more {vs} {v} {s} {t} {u} i k h j) s2 m w =
    let q = walks-append (value_list vs) (next_value v) s2.size s2.left m (subst (λ (ps : List Piece). Walks ps s2.size s2.left m) (values-last vs v (values-some words fst i)) w) in
    let y = values-again words fst i s2 q.0 q.1 in
    let z : (first y.0.size y.0.left).token ≡ token.Plain mark.Comma = rw (y.3, y.2) q.2.0 in
    let w2 : Walks (signed v) y.0.size (rest y.0.left) m = rw (y.3, y.2) q.2.1 in
    let x = signed-again (skip t) v u j (skip y.0) m w2 in
    (x.0, values_more y.1 z h x.1, x.2 ∙ y.2, x.3, x.4 ∙ y.4)

values-kept : (words fst : ℕ) {s : Sight} {vs : List ℤ} {t : Sight} → IsValues words fst s vs t → counts t ≡ counts s
unfolding skip
values-kept words fst (values_one {v} {s} {t} h i) = signed-kept s v t i
values-kept words fst (values_more {vs} {v} {s} {t} {u} i k h j) = signed-kept (skip t) v u j ∙ values-kept words fst i

abbrev pub ItemArrives : ℕ → Sight → Item → List Spot → Type 0
ItemArrives words s i m = (t : Sight) × IsItem words s i t × (t.size ≡ s.size) × (t.left ≡ m) × (counts t ≡ counts s)

item-again : (words : ℕ) {s : Sight} {i : Item} {t : Sight} → IsItem words s i t → (s2 : Sight) (m : List Spot) → Walks (item_line i) s2.size s2.left m → ItemArrives words s2 i m
unfolding skip here item_line line
item-again words (data_ {first = fst} {vs} {s} {t} {u} h k q c i) s2 m w =
    let l3 : List Spot = rest (rest (rest s2.left)) in
    let p = walks-append (value_list vs) (Newline ∷ []) s2.size l3 m w.1.1.1 in
    let y = values-again words fst i (skip (skip (skip s2))) p.0 p.1 in
    (y.0, data_ w.0 w.1.0 refl w.1.1.0 y.1, y.2, y.3 ∙ sym p.2, y.4)
item-again words (ramp {first = fst} {count} {stride} {start = begin} {growth} {s} {t} {u} {v} {w = x} h k q kc q2 ks nz i j r) s2 m w =
    let l4 : List Spot = rest (rest (rest (rest s2.left))) in
    let p = walks-append (signed begin ++ signed_operand growth) (Newline ∷ []) s2.size l4 m w.1.1.1.1 in
    let p1 = walks-append (signed begin) (signed_operand growth) s2.size l4 p.0 p.1 in
    let y = signed-again (skip u) begin v i (skip (skip (skip (skip s2)))) p1.0 p1.1 in
    let w2 : Walks (signed growth) y.0.size y.0.left p.0 = rw (y.3, y.2) p1.2 in
    let z = signed-again v growth x j y.0 p.0 w2 in
    (z.0, ramp w.0 w.1.0 refl w.1.1.0 refl w.1.1.1.0 nz y.1 z.1 r, z.2 ∙ y.2, z.3 ∙ sym p.2, z.4 ∙ y.4)

item-kept : (words : ℕ) {s : Sight} {i : Item} {t : Sight} → IsItem words s i t → counts t ≡ counts s
unfolding skip
item-kept words (data_ {first = fst} {vs} {s} {t} {u} h k q c i) = values-kept words fst i ∙ ap counts q
item-kept words (ramp {first = fst} {count} {stride} {start = begin} {growth} {s} {t} {u} {v} {w = x} h k q kc q2 ks nz i j r) = signed-kept v growth x j ∙ signed-kept (skip u) begin v i ∙ ap counts q2 ∙ ap counts q

abbrev pub ItemsArrive : ℕ → Sight → List Item → List Spot → Type 0
ItemsArrive words s is m = (t : Sight) × IsItems words s is t × (t.size ≡ s.size) × (t.left ≡ m) × (counts t ≡ counts s)

items-again : (words : ℕ) {s : Sight} {is : List Item} {t : Sight} → IsItems words s is t → (s2 : Sight) (m : List Spot) → Walks (flat_map item_line is) s2.size s2.left m → ItemsArrive words s2 is m
items-again words (items_none {s}) s2 m w = (s2, items_none, refl, sym w, refl)
items-again words (items_more {is} {i} {s} {t} {u} j k) s2 m w =
    let q = walks-append (flat_map item_line is) (item_line i) s2.size s2.left m (subst (λ (ps : List Piece). Walks ps s2.size s2.left m) (flat_map-last item_line is i) w) in
    let y = items-again words j s2 q.0 q.1 in
    let w2 : Walks (item_line i) y.0.size y.0.left m = rw (y.3, y.2) q.2 in
    let x = item-again words k y.0 m w2 in
    (x.0, items_more y.1 x.1, x.2 ∙ y.2, x.3, x.4 ∙ y.4)

items-kept : (words : ℕ) {s : Sight} {is : List Item} {t : Sight} → IsItems words s is t → counts t ≡ counts s
items-kept words items_none = refl
items-kept words (items_more j k) = item-kept words k ∙ items-kept words j

-- a scalar's name is the label of its place
scalars-found : (j : ℕ) (cs : List Scalar) (n : Name) (p : Place) → place_of (scalars_from j cs) n ≡ Some p → (k : ℕ) × (p ≡ place.Scalar (j + k)) × (scalar_name (slice_get cs k) ≡ n)
unfolding place_of
scalars-found j [] n p h = absurd (cc)
scalars-found j (c ∷ cs) n p h =
    elim (bytes_eq c.name.bytes n.bytes) as (λ b. bytes_eq c.name.bytes n.bytes ≡ b → cond b (Some (place.Scalar j)) (place_of (scalars_from (j + 1) cs) n) ≡ Some p → (k : ℕ) × (p ≡ place.Scalar (j + k)) × (scalar_name (slice_get (c ∷ cs) k) ≡ n)) [
      | true ↦ λ e k. (let q : place.Scalar j ≡ p = cc in let z : j ≡ j + 0 = omega arith in (0, sym q ∙ ap place.Scalar z, ap (λ (l : List ℕ). record { bytes = l }) ((bytes_eq-Decides c.name.bytes n.bytes).0 e)))
      | false ↦ λ e k. (let r = scalars-found (j + 1) cs n p k in let z : j + 1 + r.0 ≡ j + suc r.0 = omega arith in (suc r.0, r.1 ∙ ap place.Scalar z, r.2))
    ] refl h

pub scalars-agree : (cs : List Scalar) (ns : List LoopNames) → AgreesAll (names_of cs) (labels_in cs ns)
unfolding label
scalars-agree cs ns lets n p h =
    let r = scalars-found 0 cs n p h in
    let z : 0 + r.0 ≡ r.0 = omega arith in
    ap (λ (q : Place). label (with_lets (labels_in cs ns) lets) q) (r.1 ∙ ap place.Scalar z) ∙ r.2

slice-at : (pre : List LoopNames) (x : LoopNames) (xs : List LoopNames) → slice_get (pre ++ x ∷ xs) (length pre) ≡ Some x
slice-at [] x xs = refl
slice-at (y ∷ pre) x xs = slice-at pre x xs

length-more : (pre : List LoopNames) (x : LoopNames) → length (pre ++ x ∷ []) ≡ suc (length pre)
length-more [] x = refl
length-more (y ∷ pre) x = ap suc (length-more pre x)

pub named-from : (l : Labels) (pre xs : List LoopNames) → l.loops ≡ pre ++ xs → Named l (length pre) xs
named-from l pre [] h = tt
named-from l pre (x ∷ xs) h = (
  ap (λ (z : List LoopNames). slice_get z (length pre)) h ∙ slice-at pre x xs,
  subst (λ (n : ℕ). Named l n xs) (length-more pre x) (named-from l (pre ++ x ∷ []) xs (h ∙ sym (append_assoc pre (x ∷ []) xs))),
)

abbrev pub UnitArrives : Version → Names → Sight → NestUnit → List Spot → Version → Type 0
UnitArrives version names s n m v = (t : Sight) × IsUnit version names s n t × (t.size ≡ s.size) × (t.left ≡ m) × (t.version ≡ v)

unit-again : (version : Version) (cs : List Scalar) {s : Sight} {n : NestUnit} {t : Sight} → IsUnit version (names_of cs) s n t → (s2 : Sight) (m : List Spot) → s2.version ≡ s.version → Walks (unit_lines cs n) s2.size s2.left m → UnitArrives version (names_of cs) s2 n m t.version
unfolding unit_lines
unit-again version cs (unit {ls} {ns} {scripts} {s} {t} {u} i c) s2 m v w =
    let l : Labels = labels_in cs ns in
    let q = walks-append (loop_lines l 0 ls) (flat_map candidate_line scripts) s2.size s2.left m w in
    let y = loops-again l i (scalars-agree cs ns) (named-from l [] ns refl) s2 q.0 v q.1 in
    let w2 : Walks (flat_map candidate_line scripts) y.0.size y.0.left m = rw (y.3, y.2) q.2 in
    let x = candidates-again (length ls) c y.0 m w2 in
    (x.0, unit y.1 x.1, x.2 ∙ y.2, x.3, ap (λ (k : Counts). k.version) x.4 ∙ y.4 ∙ sym (ap (λ (k : Counts). k.version) (candidates-kept (length ls) c)))

abbrev pub UnitsArrive : Version → Names → Sight → List NestUnit → List Spot → Version → Type 0
UnitsArrive version names s us m v = (t : Sight) × IsUnits names version s us t × (t.size ≡ s.size) × (t.left ≡ m) × (t.version ≡ v)

units-again : (cs : List Scalar) {version : Version} {s : Sight} {us : List NestUnit} {t : Sight} → IsUnits (names_of cs) version s us t → (s2 : Sight) (m : List Spot) → s2.version ≡ s.version → Walks (flat_map (unit_lines cs) us) s2.size s2.left m → UnitsArrive version (names_of cs) s2 us m t.version
units-again cs (units_one {version} {n} {s} {t} i) s2 m v w =
    let y = unit-again version cs i s2 m v (subst (λ (ps : List Piece). Walks ps s2.size s2.left m) (append-nil (unit_lines cs n)) w) in
    (y.0, units_one y.1, y.2, y.3, y.4)
units-again cs (units_more {ns} {n} {s} {t} {u} i len j) s2 m v w =
    let q = walks-append (flat_map (unit_lines cs) ns) (unit_lines cs n) s2.size s2.left m (subst (λ (ps : List Piece). Walks ps s2.size s2.left m) (flat_map-last (unit_lines cs) ns n) w) in
    let y = units-again cs i s2 q.0 v q.1 in
    let w2 : Walks (unit_lines cs n) y.0.size y.0.left m = rw (y.3, y.2) q.2 in
    let x = unit-again Several cs j y.0 m y.4 w2 in
    (x.0, units_more y.1 len x.1, x.2 ∙ y.2, x.3, x.4)

-- what a text reads as is what another text reads as whose tokens are the words of its canonical pieces
pub reads-again : (text : List ℕ) (f : File) → Reads text f → (text2 : List ℕ) → length text2 ≤ most_bytes → Walks (pieces f) (length text2) (tokens text2) [] → Reads text2 f
unfolding skip here pieces memory_line line
reads-again text _ (file {version} {scalars} {words} {items} {units} {s} {t} {u} {v} len vers scs mem wd le its us e) text2 len2 w =
    let size : ℕ = length text2 in
    let abc : List Piece = (version_line version ++ flat_map scalar_line scalars) ++ memory_line words in
    let q = walks-append (abc ++ flat_map item_line items) (flat_map (unit_lines scalars) units) size (tokens text2) [] w in
    let q1 = walks-append abc (flat_map item_line items) size (tokens text2) q.0 q.1 in
    let q2 = walks-append (version_line version ++ flat_map scalar_line scalars) (memory_line words) size (tokens text2) q1.0 q1.1 in
    let q3 = walks-append (version_line version) (flat_map scalar_line scalars) size (tokens text2) q2.0 q2.1 in
    let y = version-again version (start text2) q3.0 q3.1 in
    let w1 : Walks (flat_map scalar_line scalars) y.0.size y.0.left q2.0 = rw (y.3, y.2) q3.2 in
    let x = scalars-again scs y.0 q2.0 w1 in
    let sz : x.0.size ≡ size = x.2 ∙ y.2 in
    let z1 : (first x.0.size x.0.left).token ≡ token.Plain mark.Memory = rw (x.3, sz) q2.2.0 in
    let z2 : (first x.0.size (rest x.0.left)).token ≡ token.Number words = rw (x.3, sz) q2.2.1.0 in
    let lft : rest (rest x.0.left) ≡ q1.0 = ap (λ (k : List Spot). rest (rest k)) x.3 ∙ sym q2.2.1.1 in
    let w2 : Walks (flat_map item_line items) x.0.size (rest (rest x.0.left)) q.0 = rw (lft, sz) q1.2 in
    let g = items-again words its (skip (skip x.0)) q.0 w2 in
    let sz2 : g.0.size ≡ size = g.2 ∙ sz in
    let w3 : Walks (flat_map (unit_lines scalars) units) g.0.size g.0.left [] = rw (g.3, sz2) q.2 in
    let old : u.version ≡ version = ap (λ (k : Counts). k.version) (items-kept words its ∙ scalars-kept scs) ∙ version-of vers in
    let new : g.0.version ≡ version = ap (λ (k : Counts). k.version) (g.4 ∙ x.4) ∙ y.4 in
    let h = units-again scalars us g.0 [] (new ∙ sym old) w3 in
    file len2 y.1 x.1 z1 z2 le g.1 h.1 (ap (λ (k : List Spot). (first h.0.size k).token) h.3)
