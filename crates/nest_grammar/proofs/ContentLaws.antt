-- Contents: the readings of scalars, items, nests and files and the grammar say the same.
use Rattle.std.proofs.Common.{◌≡◌, ℕ, ◌+◌, ◌<◌, ◌≤◌, ℤ, List, [], ◌∷◌, ◌++◌, length, refl, sym, ◌∙◌, ap, subst, Some, None, Result, Ok, Err, Bool, true, false, cond, nat_le, nat_lt}
use Rattle.std.specs.Prelude.{◌==◌, not}
use Rattle.std.proofs.lemmas.Bool.{lt-ltb, ltb-true, le-leb, leb-true, eqb-true}
use Rattle.nest_tokens.specs.declared.token.Name.{Name}
use Rattle.nest_tokens.specs.declared.token.Token.{Token}
use Rattle.nest_tokens.specs.declared.token.Token.TheVariants as token
use Rattle.nest_tokens.specs.declared.token.Mark.TheVariants as mark
use Rattle.nest_tokens.specs.Tokens.{is_mark, spelling}
use Rattle.nest_grammar.specs.declared.version.Version.{Version}
use Rattle.nest_grammar.specs.declared.version.Version.TheVariants.{One, Two as Several}
use Rattle.nest_grammar.specs.declared.file.Scalar.{Scalar}
use Rattle.nest_grammar.specs.declared.file.Item.{Item}
use Rattle.nest_grammar.specs.declared.file.Item.TheVariants.{Data, Ramp}
use Rattle.nest_grammar.specs.declared.file.NestUnit.{NestUnit}
use Rattle.nest_grammar.specs.declared.file.File.{File}
use Rattle.nest_grammar.specs.declared.opening.ItemKeyword.{ItemKeyword}
use Rattle.nest_grammar.specs.declared.opening.ItemKeyword.TheVariants as word
use Rattle.nest_grammar.specs.declared.opening.LoopKeyword.{LoopKeyword}
use Rattle.nest_grammar.specs.declared.fault.TextFault.{TextFault}
use Rattle.nest_grammar.specs.declared.fault.TextKind.TheVariants as kind
use Rattle.nest_grammar.specs.Limits.{most_bytes, most_words, most_scalars, most_nests, most_depth}
use Rattle.nest_grammar.specs.Sights.{Sight, stands, Sees, skip, of_version, start}
use Rattle.nest_grammar.specs.Readings.{Reading, after, ◌>>=◌, refused, wrong, need, obeys, number, number_where, signed, at_mark, many, always}
use Rattle.nest_grammar.specs.Names.{Names, place_of, names_of}
use Rattle.nest_grammar.specs.Loops.{loop_keyword, loops}
use Rattle.nest_grammar.specs.Scripts.{candidate, candidates}
use Rattle.nest_grammar.specs.Contents.{set_version, version_at, version, scalar, scalars, memory, item_keyword, value_begins, data_value, next_value, data_values, ramp_fits, item_of, item, items, unit, next_unit, other_units, units, contents, file_of, too_long, reading}
use Rattle.nest_grammar.specs.Grammar.{SeesNumber, SeesName, IsSigned, unsigned, negative, IsLoops, IsUnit, IsUnits, IsScalars, IsValues, IsItem, data_, ramp, IsItems, IsVersion, Reads}
use Rattle.nest_grammar.specs.Grammar as grammar
use Rattle.nest_grammar.proofs.PartAfterPartLaws.{many-stop}
use Rattle.nest_grammar.proofs.ProductionLaws.{parts-item, parts-next_unit}
use Rattle.nest_grammar.proofs.ChainLaws.{parts-scalar, parts-value}
use Rattle.nest_grammar.proofs.ReadingLaws.{need-sees, obeys-true, fewer-room, fresh-sees, number-sees, signed-is, end-is, given, need-then, obeys-then, fewer-then, fresh-then, number-then, number-ok, signed-then, signed-ok, end-then}
use Rattle.nest_grammar.proofs.PartLaws.{many-sound, many-reads}
use Rattle.nest_grammar.proofs.TestLaws.{not-equal, equal-not, mark-begins, mark-sees}
use Rattle.nest_grammar.proofs.LoopLaws.{loops-complete, loops-front, loops-sound}
use Rattle.nest_grammar.proofs.ScriptLaws.{candidates-complete, candidates-sound}
use Rattle.nest_grammar.proofs.VersionLaws.{kept-unit, kept-scalars, kept-items}
use Rattle.nest_grammar.proofs.PartAfterPartLaws.{bind-ok}

-- Completeness.

signed-read : (s : Sight) (v : ℤ) (t : Sight) → IsSigned s v t → signed s ≡ Ok (v, t)
signed-read s v t i = signed-is (λ v. true) kind.Range s v t i refl

scalar-read : (cs : List Scalar) (n : Name) (v : ℤ) (s t : Sight) → length cs < most_scalars → SeesName n (skip s) → place_of (names_of cs) n ≡ None → Sees mark.Assign (skip (skip s)) → IsSigned (skip (skip (skip s))) v t → scalar cs s ≡ Ok (cs ++ record { name = n; value = v } ∷ [], t)
scalar-read cs n v s t l h k a i =
    let x1 = fewer-room (length cs) most_scalars s l in
    let x2 = fresh-sees (names_of cs) n (skip s) h k in
    let x3 = need-sees mark.Assign (skip (skip s)) a in
    let x4 = signed-read (skip (skip (skip s))) v t i in
    rw (x1, x2, x3, x4)

scalars-complete : {s : Sight} {cs : List Scalar} {t : Sight} → IsScalars s cs t → scalars s ≡ many (at_mark mark.Scalar) (always scalar) cs t
unfolding scalars
scalars-complete grammar.none = refl
scalars-complete (grammar.more {cs} {n} {v} {s} {t} {u} i h l k f a j) =
    scalars-complete i ∙ many-reads (at_mark mark.Scalar) (always scalar) cs (cs ++ record { name = n; value = v } ∷ []) t u tt parts-scalar (mark-begins mark.Scalar t h) (scalar-read cs n v t u l k f a j)

memory-no-scalar : (s : Sight) → Sees mark.Memory s → at_mark mark.Scalar (stands s) ≡ None
unfolding is_mark spelling
memory-no-scalar s h = rw h

memory-complete : (s : Sight) (words : ℕ) → Sees mark.Memory s → SeesNumber words (skip s) → words ≤ most_words → memory s ≡ Ok (words, skip (skip s))
unfolding memory
memory-complete s words h k l =
    let x1 = need-sees mark.Memory s h in
    let x2 = number-sees (λ n. nat_le n most_words) kind.Range words (skip s) k (le-leb words most_words l) in
    rw (x1, x2)

signed-begins : {s : Sight} {v : ℤ} {t : Sight} → IsSigned s v t → value_begins (stands s) ≡ true
signed-begins (unsigned h) = ap value_begins h
signed-begins (negative h k) = ap value_begins h

data_value-read : (words address : ℕ) (v : ℤ) (s t : Sight) → address < words → IsSigned s v t → data_value words address s ≡ Ok (v, t)
unfolding data_value
data_value-read words address v s t l i =
    let x1 = signed-begins i in
    let x2 = obeys-true (nat_lt address words) kind.Range s (lt-ltb address words l) in
    let x3 = signed-read s v t i in
    rw (x1, x2, x3)

next_value-read : (words first : ℕ) (vs : List ℤ) (v : ℤ) (s t : Sight) → first + length vs < words → IsSigned (skip s) v t → next_value words first vs s ≡ Ok (vs ++ v ∷ [], t)
next_value-read words first vs v s t l i = let x = data_value-read words (first + length vs) v (skip s) t l i in rw x

values-complete : {words first : ℕ} {s : Sight} {vs : List ℤ} {t : Sight} → IsValues words first s vs t → data_values words first s ≡ many (at_mark mark.Comma) (always (next_value words first)) vs t
unfolding data_values
values-complete {words} {first} (grammar.one {v} {s} {t} l i) = let x = data_value-read words first v s t l i in rw x
values-complete {words} {first} (grammar.more {vs} {v} {s} {t} {u} i h l j) =
    values-complete i ∙ many-reads (at_mark mark.Comma) (always (next_value words first)) vs (vs ++ v ∷ []) t u tt (parts-value words first) (mark-begins mark.Comma t h) (next_value-read words first vs v t u l j)

item-read : (words : ℕ) (w : ItemKeyword) (is : List Item) (i : Item) (s t : Sight) → item_of words w (skip s) ≡ Ok (i, t) → item words w is s ≡ Ok (is ++ i ∷ [], t)
item-read words w is i s t h = rw h

-- the item that begins with this word
abbrev Begun : ℕ → Sight → Item → Sight → Type 0
Begun words s i t = (w : ItemKeyword) × (item_keyword (stands s) ≡ Some w) × (item_of words w (skip s) ≡ Ok (i, t))

item-complete : (words : ℕ) (s : Sight) (i : Item) (t : Sight) → IsItem words s i t → at_mark mark.Comma (stands t) ≡ None → Begun words s i t
unfolding item_keyword item_of
item-complete words s _ u (data_ {first} {vs} {t = t} h n q c v) e =
    let x1 = number-sees (λ n. true) kind.Range first (skip s) n refl in
    let x2 : need mark.Colon (skip (skip s)) ≡ Ok (tt, skip t) = ap (need mark.Colon) (sym q) ∙ need-sees mark.Colon t c in
    let x3 : data_values words first (skip t) ≡ Ok (vs, u) = values-complete v ∙ many-stop (at_mark mark.Comma) (always (next_value words first)) vs u e in
    (word.Data, ap item_keyword h, (rw (x1, x2, x3) refl))
item-complete words s _ w (ramp {first} {count} {stride} {start} {growth} {t = t} {u} {v} h f q c r k n i j m) e =
    let x1 = number-sees (λ n. true) kind.Range first (skip s) f refl in
    let x2 : number (skip (skip s)) ≡ Ok (count, u) = ap number (sym q) ∙ number-sees (λ n. true) kind.Range count t c refl ∙ ap (λ (z : Sight). Ok (count, z)) (sym r) in
    let x3 = number-sees (λ n. not (n == 0)) kind.Range stride u k (not-equal stride 0 n) in
    let x4 = signed-read (skip u) start v i in
    let x5 = signed-is (ramp_fits words first count stride start) kind.Range v growth w j m in
    (word.Ramp, ap item_keyword h, (rw (x1, x2, x3, x4, x5) refl))

item-no-comma : (t : Token) (w : ItemKeyword) → item_keyword t ≡ Some w → at_mark mark.Comma t ≡ None
unfolding item_keyword is_mark spelling
item-no-comma (token.Plain mark.Data) w h = refl
item-no-comma (token.Plain mark.Ramp) w h = refl
item-no-comma _ w h = absurd (cc)

items-complete : {words : ℕ} {s : Sight} {is : List Item} {t : Sight} → IsItems words s is t → at_mark mark.Comma (stands t) ≡ None → items words s ≡ many item_keyword (item words) is t
unfolding items
items-complete grammar.none e = refl
items-complete {words} (grammar.more {is} {i} {s} {t} {u} j k) e =
    let f = item-complete words t i u k e in
    items-complete j (item-no-comma (stands t) f.0 f.1) ∙ many-reads item_keyword (item words) is (is ++ i ∷ []) t u f.0 (parts-item words) f.1 (item-read words f.0 is i t u f.2)

word-no-item : (t : Token) (w : LoopKeyword) → loop_keyword t ≡ Some w → (item_keyword t ≡ None) × (at_mark mark.Comma t ≡ None) × (at_mark mark.Candidate t ≡ None)
unfolding loop_keyword item_keyword is_mark spelling
word-no-item (token.Plain mark.For) w h = (refl, refl, refl)
word-no-item (token.Plain mark.While) w h = (refl, refl, refl)
word-no-item _ w h = absurd (cc)

end-stops : (s : Sight) → stands s ≡ token.End → (loop_keyword (stands s) ≡ None) × (at_mark mark.Candidate (stands s) ≡ None)
unfolding loop_keyword is_mark
end-stops s h = rw h (refl, refl)

unit-front : {v : Version} {names : Names} {s : Sight} {u : NestUnit} {t : Sight} → IsUnit v names s u t → (w : LoopKeyword) × (loop_keyword (stands s) ≡ Some w)
unit-front (grammar.unit i j) = loops-front i

units-front : {names : Names} {v : Version} {s : Sight} {us : List NestUnit} {t : Sight} → IsUnits names v s us t → (w : LoopKeyword) × (loop_keyword (stands s) ≡ Some w)
units-front (grammar.one i) = unit-front i
units-front (grammar.more i l j) = units-front i

unit-complete : (v : Version) (names : Names) (s : Sight) (u : NestUnit) (t : Sight) → IsUnit v names s u t → s.version ≡ v → at_mark mark.Candidate (stands t) ≡ None → unit names s ≡ Ok (u, t)
unfolding unit
unit-complete v names s _ u (grammar.unit {ls} {ns} {scripts} {t = t} i j) q e =
    let x1 : loops (most_depth s.version) 0 names s ≡ Ok ((ls, ns), t) = ap (λ (v : Version). loops (most_depth v) 0 names s) q ∙ loops-complete i in
    let x2 : candidates (length ls) t ≡ Ok (scripts, u) = candidates-complete j ∙ many-stop (at_mark mark.Candidate) (always (candidate (length ls))) scripts u e in
    rw (x1, x2)

next_unit-read : (names : Names) (w : LoopKeyword) (us : List NestUnit) (u : NestUnit) (s t : Sight) → length us < most_nests → unit names s ≡ Ok (u, t) → next_unit names w us s ≡ Ok (us ++ u ∷ [], t)
next_unit-read names w us u s t l h = let x = fewer-room (length us) most_nests s l in rw (x, h)

kept-units : {names : Names} {v : Version} {s : Sight} {us : List NestUnit} {t : Sight} → IsUnits names v s us t → t.version ≡ s.version
kept-units (grammar.one i) = kept-unit i
kept-units (grammar.more i l j) = kept-unit j ∙ kept-units i

units-complete : {names : Names} {v : Version} {s : Sight} {us : List NestUnit} {t : Sight} → IsUnits names v s us t → s.version ≡ v → at_mark mark.Candidate (stands t) ≡ None → units v names s ≡ other_units v names us t
unfolding units
units-complete {names} (grammar.one {version = v} {n} {s} {t} i) q e = let x = unit-complete v names s n t i q e in rw x
units-complete {names} (grammar.more {ns} {n} {s} {t} {u} i l j) q e =
    let f = unit-front j in
    let g = word-no-item (stands t) f.0 f.1 in
    units-complete i q g.2 ∙ many-reads loop_keyword (next_unit names) ns (ns ++ n ∷ []) t u f.0 (parts-next_unit names) f.1 (next_unit-read names f.0 ns n t u l (unit-complete Several names t n u j (kept-units i ∙ q) e))

other_units-end : (v : Version) (names : Names) (us : List NestUnit) (s : Sight) → loop_keyword (stands s) ≡ None → other_units v names us s ≡ Ok (us, s)
other_units-end One names us s h = refl
other_units-end Several names us s h = many-stop loop_keyword (next_unit names) us s h

version-complete : (s : Sight) (v : Version) (t : Sight) → IsVersion s v t → (version s ≡ Ok (v, t)) × (t.version ≡ v)
unfolding version
version-complete s _ _ (grammar.one h k) = let x = need-sees mark.Nest s h in ((rw (x, k) refl), refl)
version-complete s _ _ (grammar.two h k) = let x = need-sees mark.Nest s h in ((rw (x, k) refl), refl)

pub reads-reading : (text : List ℕ) (f : File) → Reads text f → reading text ≡ Ok f
unfolding reading contents skip
reads-reading text _ (grammar.file {version = ver} {scalars = cs} {words} {items = is} {units = us} {s} {t} {u} {v} l iv ic m n b ii iu e) =
    let x0 = le-leb (length text) most_bytes l in
    let xv = version-complete (start text) ver s iv in
    let x1 = xv.0 in
    let x2 : scalars s ≡ Ok (cs, t) = scalars-complete ic ∙ many-stop (at_mark mark.Scalar) (always scalar) cs t (memory-no-scalar t m) in
    let x3 = memory-complete t words m n b in
    let f = units-front iu in
    let g = word-no-item (stands u) f.0 f.1 in
    let x4 : items words (skip (skip t)) ≡ Ok (is, u) = items-complete ii g.1 ∙ many-stop item_keyword (item words) is u g.0 in
    let w : u.version ≡ ver = kept-items ii ∙ kept-scalars ic ∙ xv.1 in
    let z = end-stops v e in
    let x5 : units ver (names_of cs) u ≡ Ok (us, v) = units-complete iu w z.1 ∙ other_units-end ver (names_of cs) us v z.0 in
    let x6 = end-is v e in
    rw (x0, x1, x2, x3, x4, x5, x6)

-- Soundness.

scalars-sound : (s : Sight) (x : List Scalar × Sight) → scalars s ≡ Ok x → IsScalars s x.0 x.1
unfolding scalars
scalars-sound s x h = many-sound (IsScalars s) (at_mark mark.Scalar) (always scalar) next [] s x grammar.none h
  where
    next : (cs : List Scalar) (t : Sight) (u : Unit {0}) (y : List Scalar × Sight) → IsScalars s cs t → at_mark mark.Scalar (stands t) ≡ Some u → scalar cs t ≡ Ok y → IsScalars s y.0 y.1
    next cs t u y i e k =
        let f1 = fewer-then (length cs) most_scalars _ t y k in
        let f2 = fresh-then (names_of cs) _ (skip t) y f1.1 in
        let f3 = need-then mark.Assign _ (skip (skip t)) y f2.3 in
        let f4 = signed-then (λ v. true) kind.Range _ (skip (skip (skip t))) y f3.1 in
        let q = given (cs ++ record { name = f2.0; value = f4.0 } ∷ []) f4.1 y f4.4 in
        rw q (grammar.more i (mark-sees mark.Scalar t u e) f1.0 f2.1 f2.2 f3.0 f4.2)

-- what stood there, and what was read behind it
memory-then : {B : Type 0} (go : ℕ → Reading B) (s : Sight) (y : B × Sight) → after (memory s) go ≡ Ok y → (words : ℕ) × Sees mark.Memory s × SeesNumber words (skip s) × (words ≤ most_words) × (go words (skip (skip s)) ≡ Ok y)
unfolding memory
memory-then {B} go s y h =
    let f1 = bind-ok (after (need mark.Memory s) (λ _. number_where (λ n. nat_le n most_words) kind.Range)) go y h in
    let f2 = need-then mark.Memory (λ _. number_where (λ n. nat_le n most_words) kind.Range) s f1.0 f1.1 in
    let f3 = number-ok (λ n. nat_le n most_words) kind.Range (skip s) f1.0 f2.1 in
    (f1.0.0, f2.0, f3.0, leb-true f1.0.0 most_words f3.1, subst (λ (t : Sight). go f1.0.0 t ≡ Ok y) f3.2 f1.2)

data_value-sound : (words address : ℕ) (s : Sight) (x : ℤ × Sight) → data_value words address s ≡ Ok x → (address < words) × IsSigned s x.0 x.1
unfolding data_value refused
data_value-sound words address s x h = elim (value_begins (stands s)) as (λ b. cond b ((obeys (nat_lt address words) kind.Range >>= λ _. signed) s) (wrong s) ≡ Ok x → (address < words) × IsSigned s x.0 x.1) [
  | true ↦ λ k. (
      let f = obeys-then (nat_lt address words) kind.Range (λ _. signed) s x k in
      let g = signed-ok (λ v. true) kind.Range s x f.1 in
      (ltb-true address words f.0, g.0))
  | false ↦ λ k. absurd (cc)
] h

values-sound : (words first : ℕ) (s : Sight) (x : List ℤ × Sight) → data_values words first s ≡ Ok x → IsValues words first s x.0 x.1
unfolding data_values
values-sound words first s x h =
    let f = bind-ok (data_value words first s) _ x h in
    let g = data_value-sound words first s f.0 f.1 in
    many-sound (IsValues words first s) (at_mark mark.Comma) (always (next_value words first)) next (f.0.0 ∷ []) f.0.1 x (grammar.one g.0 g.1) f.2
  where
    next : (vs : List ℤ) (t : Sight) (u : Unit {0}) (y : List ℤ × Sight) → IsValues words first s vs t → at_mark mark.Comma (stands t) ≡ Some u → next_value words first vs t ≡ Ok y → IsValues words first s y.0 y.1
    next vs t u y i e k =
        let f = bind-ok (data_value words (first + length vs) (skip t)) _ y k in
        let g = data_value-sound words (first + length vs) (skip t) f.0 f.1 in
        let q = given (vs ++ f.0.0 ∷ []) f.0.1 y f.2 in
        rw q (grammar.more i (mark-sees mark.Comma t u e) g.0 g.1)

data-token : (t : Token) → item_keyword t ≡ Some word.Data → t ≡ token.Plain mark.Data
unfolding item_keyword
data-token (token.Plain mark.Data) h = refl
data-token _ h = absurd (cc)

ramp-token : (t : Token) → item_keyword t ≡ Some word.Ramp → t ≡ token.Plain mark.Ramp
unfolding item_keyword
ramp-token (token.Plain mark.Ramp) h = refl
ramp-token _ h = absurd (cc)

item-sound : (words : ℕ) (w : ItemKeyword) (s : Sight) (x : Item × Sight) → item_keyword (stands s) ≡ Some w → item_of words w (skip s) ≡ Ok x → IsItem words s x.0 x.1
unfolding item_of
item-sound words word.Data s x k h =
    let f1 = number-then (λ n. true) kind.Range _ (skip s) x h in
    let f2 = need-then mark.Colon _ (skip (skip s)) x f1.3 in
    let f3 = bind-ok (data_values words f1.0 (skip (skip (skip s)))) _ x f2.1 in
    let q = given (Data f1.0 f3.0.0) f3.0.1 x f3.2 in
    rw q (data_ (data-token (stands s) k) f1.1 refl f2.0 (values-sound words f1.0 (skip (skip (skip s))) f3.0 f3.1))
item-sound words word.Ramp s x k h =
    let f1 = number-then (λ n. true) kind.Range _ (skip s) x h in
    let f2 = number-then (λ n. true) kind.Range _ (skip (skip s)) x f1.3 in
    let f3 = number-then (λ n. not (n == 0)) kind.Range _ (skip (skip (skip s))) x f2.3 in
    let f4 = signed-then (λ v. true) kind.Range _ (skip (skip (skip (skip s)))) x f3.3 in
    let f5 = signed-then (ramp_fits words f1.0 f2.0 f3.0 f4.0) kind.Range _ f4.1 x f4.4 in
    let q = given (Ramp f1.0 f2.0 f3.0 f4.0 f5.0) f5.1 x f5.4 in
    rw q (ramp (ramp-token (stands s) k) f1.1 refl f2.1 refl f3.1 (equal-not f3.0 0 f3.2) f4.2 f5.2 f5.3)

items-sound : (words : ℕ) (s : Sight) (x : List Item × Sight) → items words s ≡ Ok x → IsItems words s x.0 x.1
unfolding items
items-sound words s x h = many-sound (IsItems words s) item_keyword (item words) next [] s x grammar.none h
  where
    next : (is : List Item) (t : Sight) (w : ItemKeyword) (y : List Item × Sight) → IsItems words s is t → item_keyword (stands t) ≡ Some w → item words w is t ≡ Ok y → IsItems words s y.0 y.1
    next is t w y i e k =
        let f = bind-ok (item_of words w (skip t)) _ y k in
        let q = given (is ++ f.0.0 ∷ []) f.0.1 y f.2 in
        rw q (grammar.more i (item-sound words w t f.0 e f.1))

unit-sound : (v : Version) (names : Names) (s : Sight) (x : NestUnit × Sight) → s.version ≡ v → unit names s ≡ Ok x → IsUnit v names s x.0 x.1
unfolding unit
unit-sound v names s x q h =
    let f1 = bind-ok (loops (most_depth s.version) 0 names s) _ x h in
    let f2 = bind-ok (candidates (length f1.0.0.0) f1.0.1) _ x f1.2 in
    let e = given (record { nest = record { loops = f1.0.0.0 }; names = f1.0.0.1; scripts = f2.0.0 }) f2.0.1 x f2.2 in
    let i : IsLoops (most_depth v) 0 names s f1.0.0.0 f1.0.0.1 f1.0.1 = subst (λ (v : Version). IsLoops (most_depth v) 0 names s f1.0.0.0 f1.0.0.1 f1.0.1) q (loops-sound (most_depth s.version) 0 names s f1.0 f1.1) in
    rw e (grammar.unit i (candidates-sound (length f1.0.0.0) f1.0.1 f2.0 f2.1))

other_units-sound : (v : Version) (names : Names) (s : Sight) (us : List NestUnit) (t : Sight) (x : List NestUnit × Sight) → s.version ≡ v → IsUnits names v s us t → other_units v names us t ≡ Ok x → IsUnits names v s x.0 x.1
other_units-sound One names s us t x q i h = let e = given us t x h in rw e i
other_units-sound Several names s us t x q i h = many-sound (IsUnits names Several s) loop_keyword (next_unit names) next us t x i h
  where
    next : (us : List NestUnit) (t : Sight) (w : LoopKeyword) (y : List NestUnit × Sight) → IsUnits names Several s us t → loop_keyword (stands t) ≡ Some w → next_unit names w us t ≡ Ok y → IsUnits names Several s y.0 y.1
    next us t w y i e k =
        let f = fewer-then (length us) most_nests _ t y k in
        let g = bind-ok (unit names t) _ y f.1 in
        let z = given (us ++ g.0.0 ∷ []) g.0.1 y g.2 in
        rw z (grammar.more i f.0 (unit-sound Several names t g.0 (kept-units i ∙ q) g.1))

units-sound : (v : Version) (names : Names) (s : Sight) (x : List NestUnit × Sight) → s.version ≡ v → units v names s ≡ Ok x → IsUnits names v s x.0 x.1
unfolding units
units-sound v names s x q h =
    let f = bind-ok (unit names s) _ x h in
    other_units-sound v names s (f.0.0 ∷ []) f.0.1 x q (grammar.one (unit-sound v names s f.0 q f.1)) f.2

version-sound : (s : Sight) (x : Version × Sight) → version s ≡ Ok x → IsVersion s x.0 x.1
unfolding version refused
version-sound s x h = let f = need-then mark.Nest _ s x h in at f.0 (stands (skip s)) refl f.1
  where
    two : (n : ℕ) → Sees mark.Nest s → SeesNumber n (skip s) → (b : Bool) → (n == 2) ≡ b → cond b (set_version Several) (refused kind.Version) (skip s) ≡ Ok x → IsVersion s x.0 x.1
    two n h e true k r =
        let q : x ≡ (Several, of_version Several (skip (skip s))) = cc in
        let z : n ≡ 2 = eqb-true n 2 k in
        rw q (grammar.two h (e ∙ ap (λ (m : ℕ). token.Number m) z))
    two n h e false k r = absurd (cc)

    one : (n : ℕ) → Sees mark.Nest s → SeesNumber n (skip s) → (b : Bool) → (n == 1) ≡ b → cond b (set_version One) (cond (n == 2) (set_version Several) (refused kind.Version)) (skip s) ≡ Ok x → IsVersion s x.0 x.1
    one n h e true k r =
        let q : x ≡ (One, of_version One (skip (skip s))) = cc in
        let z : n ≡ 1 = eqb-true n 1 k in
        rw q (grammar.one h (e ∙ ap (λ (m : ℕ). token.Number m) z))
    one n h e false k r = two n h e (n == 2) refl r

    at : Sees mark.Nest s → (t : Token) → stands (skip s) ≡ t → version_at t (skip s) ≡ Ok x → IsVersion s x.0 x.1
    at h (token.Number n) e k = one n h e (n == 1) refl k
    at h _ e k = absurd (cc)

pub version-of : {s : Sight} {v : Version} {t : Sight} → IsVersion s v t → t.version ≡ v
version-of (grammar.one h k) = refl
version-of (grammar.two h k) = refl

kept-skips : (s : Sight) → (skip (skip s)).version ≡ s.version
unfolding skip
kept-skips s = refl

contents-sound : (text : List ℕ) (x : File × Sight) → length text ≤ most_bytes → contents (start text) ≡ Ok x → Reads text x.0
unfolding contents
contents-sound text x l h =
    let f1 = bind-ok (version (start text)) _ x h in
    let f2 = bind-ok (scalars f1.0.1) _ x f1.2 in
    let f3 = memory-then _ f2.0.1 x f2.2 in
    let f4 = bind-ok (items f3.0 (skip (skip f2.0.1))) _ x f3.4 in
    let f5 = bind-ok (units f1.0.0 (names_of f2.0.0) f4.0.1) _ x f4.2 in
    let f6 = end-then _ f5.0.1 x f5.2 in
    let q = given (record { version = f1.0.0; scalars = f2.0.0; words = f3.0; items = f4.0.0; units = f5.0.0 }) f5.0.1 x f6.1 in
    let iv = version-sound (start text) f1.0 f1.1 in
    let ic = scalars-sound f1.0.1 f2.0 f2.1 in
    let ii = items-sound f3.0 (skip (skip f2.0.1)) f4.0 f4.1 in
    let w : f4.0.1.version ≡ f1.0.0 = kept-items ii ∙ kept-skips f2.0.1 ∙ kept-scalars ic ∙ version-of iv in
    let iu = units-sound f1.0.0 (names_of f2.0.0) f4.0.1 f5.0 w f5.1 in
    rw q (grammar.file l iv ic f3.1 f3.2 f3.3 ii iu f6.0)

file-ok : (r : Result (File × Sight) TextFault) (f : File) → file_of r ≡ Ok f → (x : File × Sight) × (r ≡ Ok x) × (x.0 ≡ f)
file-ok (Ok x) f h = (x, refl, cc)
file-ok (Err e) f h = absurd (cc)

pub reading-reads : (text : List ℕ) (f : File) → reading text ≡ Ok f → Reads text f
unfolding reading
reading-reads text f h = elim (nat_le (length text) most_bytes) as (λ b. nat_le (length text) most_bytes ≡ b → cond b (file_of (contents (start text))) (Err too_long) ≡ Ok f → Reads text f) [
  | true ↦ λ e k. (let w = file-ok (contents (start text)) f k in subst (λ (z : File). Reads text z) w.2 (contents-sound text w.0 (leb-true (length text) most_bytes e) w.1))
  | false ↦ λ e k. absurd (cc)
] refl h
