-- Rules: the places that a block mentions are scalars of the file, names of loops around it, and locals.
use Rattle.std.proofs.Common.{◌≡◌, sym, subst, ℕ, suc, ◌+◌, ◌≤◌, pos, List, [], ◌∷◌, ◌++◌, length, arith, Option, Some, None, Bool, true, false}
use Rattle.std.specs.Prelude.{if◌then◌else◌}
use Rattle.std.specs.List.{All}
use Rattle.std.proofs.lemmas.List.Elements.{All-nil, All-cons, All-append}
use Rattle.nest_lang.specs.declared.tree.Place.{Place}
use Rattle.nest_lang.specs.declared.tree.Place.TheVariants as place
use Rattle.nest_lang.specs.declared.tree.Expr.{Expr}
use Rattle.nest_lang.specs.declared.tree.Stmt.{Stmt}
use Rattle.nest_lang.specs.declared.tree.Head.{Head}
use Rattle.nest_lang.specs.Places.{expression_places, statement_places, block_places, head_places}
use Rattle.nest_lang.specs.Rules.{IsWithin}
use Rattle.nest_lang.proofs.PlaceLaws.{expression_places-number, expression_places-var, expression_places-load, expression_places-neg, expression_places-two, statement_places-let, statement_places-set, statement_places-store, statement_places-if, block_places-nil, block_places-push}
use Rattle.std.specs.Str.{bytes_eq}
use Rattle.nest_tokens.specs.declared.token.Name.{Name}
use Rattle.nest_grammar.specs.declared.file.Scalar.{Scalar}
use Rattle.nest_grammar.specs.Sights.{Sight}
use Rattle.nest_grammar.specs.Names.{Names, declared, place_of, scalars_from, names_of}
use Rattle.nest_grammar.specs.Loops.{inside}
use Rattle.nest_grammar.specs.Grammar.{Precedence, Is, IsExpression, IsStmt, IsBraced, IsList, IsBlock, IsHeading, counting, asking}
use Rattle.nest_grammar.specs.Grammar as grammar

-- what the visible names stand for is within so many scalars and loops
abbrev pub AreWithin : ℕ → ℕ → Names → Type 0
AreWithin scalars level [] = Unit {0}
AreWithin scalars level (x ∷ xs) = IsWithin scalars level x.place × AreWithin scalars level xs

within-found : (scalars level : ℕ) (names : Names) (n : Name) (p : Place) → AreWithin scalars level names → place_of names n ≡ Some p → IsWithin scalars level p
unfolding place_of
within-found scalars level [] n p all e = absurd (cc)
within-found scalars level (x ∷ xs) n p all e = at (bytes_eq x.name.bytes n.bytes) (within-found scalars level xs n p all.1) e
  where
    at : (b : Bool) → (place_of xs n ≡ Some p → IsWithin scalars level p) → (if b then Some x.place else place_of xs n) ≡ Some p → IsWithin scalars level p
    at true more k = let is : x.place ≡ p = cc in subst (IsWithin scalars level) is all.0
    at false more k = more k

within-push : (scalars level : ℕ) (names : Names) (n : Name) (p : Place) → AreWithin scalars level names → IsWithin scalars level p → AreWithin scalars level (names ++ declared n p ∷ [])
within-push scalars level [] n p all h = (h, tt)
within-push scalars level (x ∷ xs) n p all h = (all.0, within-push scalars level xs n p all.1 h)

place-deeper : (scalars level : ℕ) (p : Place) → IsWithin scalars level p → IsWithin scalars (suc level) p
place-deeper scalars level (place.Scalar number) h = h
place-deeper scalars level (place.Counter number) h = omega (arith, h)
place-deeper scalars level (place.Local number) h = h

within-deeper : (scalars level : ℕ) (names : Names) → AreWithin scalars level names → AreWithin scalars (suc level) names
within-deeper scalars level [] all = tt
within-deeper scalars level (x ∷ xs) all = (place-deeper scalars level x.place all.0, within-deeper scalars level xs all.1)

-- the names in a loop's body
pub within-inside : (scalars level : ℕ) (names : Names) (n : Option Name) → AreWithin scalars level names → AreWithin scalars (suc level) (inside names level n)
within-inside scalars level names None all = within-deeper scalars level names all
within-inside scalars level names (Some n) all = within-push scalars (suc level) names n (place.Counter level) (within-deeper scalars level names all) (omega arith)

-- those of the scalars
within-from : (scalars k : ℕ) (cs : List Scalar) → k + length cs ≤ scalars → AreWithin scalars 0 (scalars_from k cs)
within-from scalars k [] h = tt
within-from scalars k (c ∷ cs) h = (omega (arith, h), within-from scalars (k + 1) cs (omega (arith, h)))

pub within-scalars : (cs : List Scalar) → AreWithin (length cs) 0 (names_of cs)
within-scalars cs = within-from (length cs) 0 cs (omega arith)

-- what is said of all places of a thing
all-same : (scalars level : ℕ) (xs ys : List Place) → xs ≡ ys → All (IsWithin scalars level) ys → All (IsWithin scalars level) xs
all-same scalars level xs ys e all = subst (All (IsWithin scalars level)) (sym e) all

module _ (scalars level : ℕ) where
  abbrev Each : List Place → Type 0
  Each = All (IsWithin scalars level)

  both : (xs ys : List Place) → Each xs → Each ys → Each (xs ++ ys)
  both xs ys a b = All-append (IsWithin scalars level) xs ys a b

  none : (xs : List Place) → xs ≡ [] → Each xs
  none xs e = all-same scalars level xs [] e (All-nil (IsWithin scalars level))

  expression-within : {names : Names} {p : Precedence} {d : ℕ} {s : Sight} {e : Expr} {t : Sight} → AreWithin scalars level names → Is names p d s e t → Each (expression_places e)
  expression-within all (grammar.number {n = n} h r) = none _ (expression_places-number (pos n))
  expression-within {names} all (grammar.variable {n = n} {p = p} h f r) =
      all-same scalars level _ (p ∷ []) (expression_places-var p) (All-cons (IsWithin scalars level) p [] (within-found scalars level names n p all f) (All-nil (IsWithin scalars level)))
  expression-within all (grammar.minus {e = e} h r i) = all-same scalars level _ (expression_places e) (expression_places-neg e) (expression-within all i)
  expression-within all (grammar.parens h r i k o) = expression-within all i
  expression-within all (grammar.load {e = e} {t = t} h a r i k o) = all-same scalars level _ (expression_places e) (expression_places-load (t.accesses + 1) e) (expression-within all i)
  expression-within all (grammar.factor i) = expression-within all i
  expression-within all (grammar.product {o = o} {a = a} {b = b} i k r j) =
      all-same scalars level _ (expression_places a ++ expression_places b) (expression_places-two o a b) (both (expression_places a) (expression_places b) (expression-within all i) (expression-within all j))
  expression-within all (grammar.summand i) = expression-within all i
  expression-within all (grammar.addition {o = o} {a = a} {b = b} i k r j) =
      all-same scalars level _ (expression_places a ++ expression_places b) (expression_places-two o a b) (both (expression_places a) (expression_places b) (expression-within all i) (expression-within all j))
  expression-within all (grammar.side i) = expression-within all i
  expression-within all (grammar.comparison {o = o} {a = a} {b = b} i k r j) =
      all-same scalars level _ (expression_places a ++ expression_places b) (expression_places-two o a b) (both (expression_places a) (expression_places b) (expression-within all i) (expression-within all j))

  -- behind a statement the visible names are within too
  mutual
    statement-within : {d : ℕ} {names ns : Names} {s t : Sight} {st : Stmt} → AreWithin scalars level names → IsStmt d names s st ns t → Each (statement_places st) × AreWithin scalars level ns
    statement-within {names = names} all (grammar.let_ {n = n} {e = e} {s = s} h l k f q a i) = (
      all-same scalars level _ (place.Local (length s.lets) ∷ expression_places e) (statement_places-let (length s.lets) e) (All-cons (IsWithin scalars level) (place.Local (length s.lets)) (expression_places e) l (expression-within all i)),
      within-push scalars level names n (place.Local (length s.lets)) all l,
    )
    statement-within {names = names} all (grammar.set {k = k} {n = n} {e = e} h f a i) = (
      all-same scalars level _ (place.Scalar k ∷ expression_places e) (statement_places-set k e) (All-cons (IsWithin scalars level) (place.Scalar k) (expression_places e) (within-found scalars level names n (place.Scalar k) all f) (expression-within all i)),
      all,
    )
    statement-within all (grammar.store {a = a} {e = e} {u = u} h l i c k j) = (
      all-same scalars level _ (expression_places a ++ expression_places e) (statement_places-store (u.accesses + 1) a e) (both (expression_places a) (expression_places e) (expression-within all i) (expression-within all j)),
      all,
    )
    statement-within all (grammar.when {e = e} {xs = xs} h i b) = (
      all-same scalars level _ (expression_places e ++ block_places xs ++ block_places []) (statement_places-if e xs [])
          (both (expression_places e ++ block_places xs) (block_places []) (both (expression_places e) (block_places xs) (expression-within all i) (braced-within all b)) (none (block_places []) block_places-nil)),
      all,
    )
    statement-within all (grammar.either {e = e} {xs = xs} {ys = ys} h i b k c) = (
      all-same scalars level _ (expression_places e ++ block_places xs ++ block_places ys) (statement_places-if e xs ys)
          (both (expression_places e ++ block_places xs) (block_places ys) (both (expression_places e) (block_places xs) (expression-within all i) (braced-within all b)) (braced-within all c)),
      all,
    )

    braced-within : {d : ℕ} {names : Names} {s t : Sight} {xs : List Stmt} → AreWithin scalars level names → IsBraced d names s xs t → Each (block_places xs)
    braced-within all (grammar.braced h l c) = (list-within all l).0

    list-within : {d : ℕ} {names ns : Names} {s t : Sight} {xs : List Stmt} → AreWithin scalars level names → IsList d names s xs ns t → Each (block_places xs) × AreWithin scalars level ns
    list-within all grammar.none = (none (block_places []) block_places-nil, all)
    list-within all (grammar.more {xs = xs} {st = st} l i) =
        let front = list-within all l in
        let last = statement-within front.1 i in
        (all-same scalars level _ (block_places xs ++ statement_places st) (block_places-push xs st) (both (block_places xs) (statement_places st) front.0 last.0), last.1)

  pub block-within : {names : Names} {s t : Sight} {xs : List Stmt} {lets : List Name} → AreWithin scalars level names → IsBlock names s xs lets t → Each (block_places xs)
  block-within all (grammar.block l) = (list-within all l).0

  pub heading-within : {names : Names} {s t : Sight} {h : Head} {n : Option Name} → AreWithin scalars level names → IsHeading names s h n t → Each (head_places h)
  heading-within all (counting {lower = lower} {upper = upper} a b f c i d j e) = both (expression_places lower) (expression_places upper) (expression-within all i) (expression-within all j)
  heading-within all (asking a i) = expression-within all i

  pub none-within : Each (block_places [])
  none-within = none (block_places []) block_places-nil
