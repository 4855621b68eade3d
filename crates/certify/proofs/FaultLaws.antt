-- The first block that fails, trial by trial.
use Rattle.std.proofs.Common.{◌≡◌, refl, sym, ap, subst, ◌∙◌, ℤ, ℕ, zero, suc, ◌+◌, ◌<◌, ◌≤◌, Bool, true, false, Option, Some, None, is_some, List, [], ◌∷◌, ◌++◌, length, map, get_or, take, drop, append-nil, arith}
use Rattle.std.specs.Prelude.{if◌then◌else◌, nat_le, slice_get}
use Rattle.std.specs.List.{flat_map, range_with_len}
use Rattle.plain_lemmas.specs.Lists.{Has}
use Rattle.plain_lemmas.proofs.MembershipLaws.{contains-from-has, has-get_or}
use Rattle.std.proofs.lemmas.List.{drop_more, length-append, length-map, length-take-le, map-append, map_more, take_more, take_all}
use Rattle.std.proofs.lemmas.Grind.{flat_map-append}
use Rattle.std.proofs.lemmas.Bool.Decides.{nat_tests}
use Rattle.domain.specs.Tables.{Table, depth}
use Rattle.transform.specs.Schedules.{Schedule}
use Rattle.dependence.specs.Legality.{Trial, Violated, trial, trials, trials_of, violations, violations_of}
use Rattle.dependence.specs.Systems.{IsSystemOf, System, systems}
use Rattle.refutation.specs.declared.proofs_by_adding.Why.{Why}
use Rattle.certify.specs.declared.certificates.Claimed.{Claimed}
use Rattle.certify.specs.declared.certificates.BlockFault.{BlockFault}
use Rattle.certify.specs.Certificates.{Certificate}
use Rattle.certify.specs.Checks.{due_fault, fault_at, fault_or, first_fault, flaw, surplus_fault}

pub none-first : (o later : Option BlockFault) → fault_or o later ≡ None → (o ≡ None) × (later ≡ None)
none-first None later e = (refl, e)
none-first (Some fault) later e = cc

pub none-at : (k : ℕ) (o : Option Why) → fault_at k o ≡ None → o ≡ None
none-at k None e = refl
none-at k (Some why) e = cc

or-or : (a b c : Option BlockFault) → fault_or (fault_or a b) c ≡ fault_or a (fault_or b c)
or-or None b c = refl
or-or (Some fault) b c = refl

or-none : (a : Option BlockFault) → fault_or a None ≡ a
or-none None = refl
or-none (Some fault) = refl

some-or : (a b : Option BlockFault) → is_some a ≡ true → fault_or a b ≡ a
some-or None b e = cc
some-or (Some fault) b e = refl

pub none-is : (o : Option BlockFault) → is_some o ≡ false → o ≡ None
none-is None e = refl
none-is (Some fault) e = cc

take-drop : {Z : Type 0} (n : ℕ) (ys : List Z) → take n ys ++ drop n ys ≡ ys
take-drop zero ys = refl
take-drop (suc n) [] = refl
take-drop {Z} (suc n) (y ∷ ys) = ap (λ (rest : List Z). y ∷ rest) (take-drop n ys)

module _ (t : Table) (s : Schedule) (blocks : List Claimed) where
  pub due-append : (k : ℕ) (us vs : List Trial) → due_fault t s blocks k (us ++ vs) ≡ fault_or (due_fault t s blocks k us) (due_fault t s blocks (k + length us) vs)
  due-append k [] vs = let e : k + 0 ≡ k = omega arith in ap (λ n. due_fault t s blocks n vs) (sym e)
  due-append k (u ∷ us) vs =
      let e : suc k + length us ≡ k + suc (length us) = omega arith in
      ap (fault_or (fault_at k (flaw t s u (slice_get blocks k)))) (due-append (suc k) us vs ∙ ap (λ n. fault_or (due_fault t s blocks (suc k) us) (due_fault t s blocks n vs)) e)
      ∙ sym (or-or (fault_at k (flaw t s u (slice_get blocks k))) (due_fault t s blocks (suc k) us) (due_fault t s blocks (k + suc (length us)) vs))

  there : (bs : List Claimed) (k : ℕ) (v : Trial) → flaw t s v (slice_get bs k) ≡ None → k < length bs
  there [] k v e = cc
  there (b ∷ bs) zero v e = omega arith
  there (b ∷ bs) (suc k) v e = let l = there bs k v e in omega (arith, l)

  -- where none fails all are there
  pub due-there : (k : ℕ) (vs : List Trial) → due_fault t s blocks k vs ≡ None → k ≤ length blocks → k + length vs ≤ length blocks
  due-there k [] e l = omega (arith, l)
  due-there k (v ∷ vs) e l =
      let (here, later) = none-first (fault_at k (flaw t s v (slice_get blocks k))) (due_fault t s blocks (suc k) vs) e in
      let m = there blocks k v (none-at k (flaw t s v (slice_get blocks k)) here) in
      let n = due-there (suc k) vs later (omega (arith, m)) in
      omega (arith, n)

  pub flawless-there : (k : ℕ) (v : Trial) → None ≡ flaw t s v (slice_get blocks k) → k < length blocks
  flawless-there k v e = there blocks k v (sym e)

  -- none fails in the front, and the next ones are looked at
  past : (k n : ℕ) (us vs : List Trial) → due_fault t s blocks k us ≡ None → n ≡ k + length us → due_fault t s blocks k (us ++ vs) ≡ due_fault t s blocks n vs
  past k n us vs none e =
      due-append k us vs ∙ ap (λ (o : Option BlockFault). fault_or o (due_fault t s blocks (k + length us) vs)) none ∙ ap (λ m. due_fault t s blocks m vs) (sym e)

  -- ---- the trials of a system

  -- of the blocks from a number on, none fails where the first violations are due
  pub record ArePast (sys : System) (violated : List Violated) (from place : ℕ) : Type 0 where
    pub none : due_fault t s blocks from (map (trial sys) (take place violated)) ≡ None
    pub most : from + place ≤ length blocks

  module _ (sys : System) (violated : List Violated) (from place : ℕ) where
    pub none-past : from ≤ length blocks → ArePast sys violated from 0
    none-past l = record { none = refl; most = omega (arith, l) }

    here : place ≤ length violated → from + place ≡ from + length (map (trial sys) (take place violated))
    here l = ap (λ n. from + n) (sym (length-map (take place violated) (trial sys) ∙ length-take-le place violated l))

    pub one-past : (v d : Violated) → ArePast sys violated from place → place < length violated → get_or violated place d ≡ v → None ≡ flaw t s (trial sys v) (slice_get blocks (from + place)) → ArePast sys violated from (place + 1)
    one-past v d h l e fine =
        let inside = flawless-there (from + place) (trial sys v) fine in
        record {
          none = ap (due_fault t s blocks from) (map_more (trial sys) violated place d l ∙ ap (λ (w : Violated). map (trial sys) (take place violated) ++ trial sys w ∷ []) e)
              ∙ past from (from + place) (map (trial sys) (take place violated)) (trial sys v ∷ []) h.none (here (omega (arith, l)))
              ∙ ap (λ (o : Option Why). fault_or (fault_at (from + place) o) None) (sym fine);
          most = omega (arith, inside);
        }

    pub fault-found : (v d : Violated) (why : Why) → ArePast sys violated from place → place < length violated → get_or violated place d ≡ v → Some why ≡ flaw t s (trial sys v) (slice_get blocks (from + place))
        → Some (record { block = from + place; why = why }) ≡ due_fault t s blocks from (map (trial sys) violated)
    fault-found v d why h l e tells =
        let split : map (trial sys) violated ≡ map (trial sys) (take place violated) ++ map (trial sys) (drop place violated) = ap (map (trial sys)) (sym (take-drop place violated)) ∙ map-append (trial sys) (take place violated) (drop place violated) in
        let next : map (trial sys) (drop place violated) ≡ trial sys v ∷ map (trial sys) (drop (place + 1) violated) =
        ap (map (trial sys)) (drop_more violated place d l) ∙ ap (λ (w : Violated). trial sys w ∷ map (trial sys) (drop (place + 1) violated)) e in
        sym
        (ap (due_fault t s blocks from) split
        ∙ past from (from + place) (map (trial sys) (take place violated)) (map (trial sys) (drop place violated)) h.none (here (omega (arith, l)))
        ∙ ap (due_fault t s blocks (from + place)) next
        ∙ ap (λ (o : Option Why). fault_or (fault_at (from + place) o) (due_fault t s blocks (suc (from + place)) (map (trial sys) (drop (place + 1) violated)))) (sym tells))

    pub all-past : ArePast sys violated from place → length violated ≤ place → None ≡ due_fault t s blocks from (map (trial sys) violated)
    all-past h l = sym (ap (λ (vs : List Violated). due_fault t s blocks from (map (trial sys) vs)) (sym (take_all place violated l)) ∙ h.none)

  pub trials_of-is : (D : ℕ) (sys : System) (violated : List Violated) → depth t ≡ D → sys.case ≤ D → violated ≡ violations t s → map (trial sys) violated ≡ trials_of t s sys
  trials_of-is D sys violated deep l e =
      let test : nat_le sys.case (depth t) ≡ true = grind (arith, nat_tests) in
      ap (map (trial sys)) e ∙ rw test refl

  pub trials_of-none : (D : ℕ) (sys : System) → depth t ≡ D → D < sys.case → trials_of t s sys ≡ []
  trials_of-none D sys deep l = let test : nat_le sys.case (depth t) ≡ false = grind (arith, nat_tests) in rw test refl

  count-by : (w : Bool) (sys : System) → length (if w then map (trial sys) (violations t s) else []) ≡ (if w then length (violations t s) else 0)
  count-by true sys = length-map (violations t s) (trial sys)
  count-by false sys = refl

  pub count-is : (D : ℕ) (sys : System) (violated : List Violated) → depth t ≡ D → violated ≡ violations t s → (if nat_le sys.case D then length violated else 0) ≡ length (trials_of t s sys)
  count-is D sys violated deep e =
      ap (λ (vs : List Violated). if nat_le sys.case D then length vs else 0) e ∙ ap (λ n. if nat_le sys.case n then length (violations t s) else 0) (sym deep)
      ∙ sym (count-by (nat_le sys.case (depth t)) sys)

  -- ---- all trials

  -- of the blocks that are due for the first systems none fails, and so many are due
  pub record AreChecked (systems : List System) (i due : ℕ) : Type 0 where
    pub none : due_fault t s blocks 0 (flat_map (trials_of t s) (take i systems)) ≡ None
    pub count : due ≡ 0 + length (flat_map (trials_of t s) (take i systems))
    pub most : due ≤ length blocks

  pub none-checked : (systems : List System) → AreChecked systems 0 0
  none-checked systems = record { none = refl; count = refl; most = omega arith }

  module _ (systems : List System) (i due : ℕ) (sys d : System) where
    taken : i < length systems → get_or systems i d ≡ sys → flat_map (trials_of t s) (take (i + 1) systems) ≡ flat_map (trials_of t s) (take i systems) ++ trials_of t s sys
    taken l e =
        ap (flat_map (trials_of t s)) (take_more systems i d l ∙ ap (λ (y : System). take i systems ++ y ∷ []) e) ∙ flat_map-append (trials_of t s) (take i systems) (sys ∷ [])
        ∙ ap (λ (vs : List Trial). flat_map (trials_of t s) (take i systems) ++ vs) (append-nil (trials_of t s sys))

    pub one-checked : (count : ℕ) (fault : Option BlockFault) → AreChecked systems i due → i < length systems → get_or systems i d ≡ sys → fault ≡ due_fault t s blocks due (trials_of t s sys) → is_some fault ≡ false
        → count ≡ length (trials_of t s sys) → AreChecked systems (i + 1) (due + count)
    one-checked count fault h l e tells fine long =
        let none : due_fault t s blocks due (trials_of t s sys) ≡ None = sym tells ∙ none-is fault fine in
        let most = due-there due (trials_of t s sys) none h.most in
        let more = ap (λ (vs : List Trial). length vs) (taken l e) ∙ length-append (flat_map (trials_of t s) (take i systems)) (trials_of t s sys) in
        record {
          none = ap (due_fault t s blocks 0) (taken l e) ∙ past 0 due (flat_map (trials_of t s) (take i systems)) (trials_of t s sys) h.none h.count ∙ none;
          count = omega (arith, h.count, long, more);
          most = omega (arith, most, long);
        }

    pub system-fails : (fault : Option BlockFault) → AreChecked systems i due → i < length systems → get_or systems i d ≡ sys → fault ≡ due_fault t s blocks due (trials_of t s sys) → is_some fault ≡ true
        → fault ≡ due_fault t s blocks 0 (flat_map (trials_of t s) systems)
    system-fails fault h l e tells some =
        let rest = flat_map (trials_of t s) (drop (i + 1) systems) in
        let split : flat_map (trials_of t s) systems ≡ (flat_map (trials_of t s) (take i systems) ++ trials_of t s sys) ++ rest =
        ap (flat_map (trials_of t s)) (sym (take-drop (i + 1) systems)) ∙ flat_map-append (trials_of t s) (take (i + 1) systems) (drop (i + 1) systems) ∙ ap (λ (vs : List Trial). vs ++ rest) (taken l e) in
        let front : due_fault t s blocks 0 (flat_map (trials_of t s) (take i systems) ++ trials_of t s sys) ≡ fault =
        past 0 due (flat_map (trials_of t s) (take i systems)) (trials_of t s sys) h.none h.count ∙ sym tells in
        sym
        (ap (due_fault t s blocks 0) split ∙ due-append 0 (flat_map (trials_of t s) (take i systems) ++ trials_of t s sys) rest
        ∙ ap (λ (o : Option BlockFault). fault_or o (due_fault t s blocks (0 + length (flat_map (trials_of t s) (take i systems) ++ trials_of t s sys)) rest)) front ∙ some-or fault _ some)

  pub all-checked : (systems : List System) (i due : ℕ) → AreChecked systems i due → length systems ≤ i
      → (None ≡ due_fault t s blocks 0 (flat_map (trials_of t s) systems)) × (due ≡ length (flat_map (trials_of t s) systems))
  all-checked systems i due h l =
      let all = take_all i systems l in
      (sym (ap (λ (xs : List System). due_fault t s blocks 0 (flat_map (trials_of t s) xs)) (sym all) ∙ h.none), let e = ap (λ (xs : List System). length (flat_map (trials_of t s) xs)) all in omega (arith, h.count, e))

pub not-some : (o : Option Why) → ((why : Why) → o ≡ Some why → ⊥) → None ≡ o
not-some None h = refl
not-some (Some why) h = absurd (h why refl)

pub system-at : (t : Table) (L : ℤ) (items : List System) (i : ℕ) (sys : System) → items ≡ systems t L → i < length items → sys ≡ get_or items i sys → IsSystemOf t sys
system-at t L items i sys e l is = (L, contains-from-has (systems t L) sys (subst (λ (xs : List System). Has xs sys) e (subst (Has items) (sym is) (has-get_or items i sys l))))

pub violations-are : (D : ℕ) (t : Table) (s : Schedule) (found : List Violated) → depth t ≡ D → found ≡ flat_map (violations_of s) (range_with_len 1 D) → found ≡ violations t s
violations-are D t s found deep e = e ∙ ap (λ n. flat_map (violations_of s) (range_with_len 1 n)) (sym deep)

-- ---- the whole certificate

pub some-fault : (t : Table) (s : Schedule) (c : Certificate) (found : List System) (fault : Option BlockFault) → found ≡ systems t c.length → fault ≡ due_fault t s c.blocks 0 (flat_map (trials_of t s) found) → is_some fault ≡ true
    → fault ≡ first_fault t s c
unfolding trials
some-fault t s c found fault e tells some =
    let same : fault ≡ due_fault t s c.blocks 0 (flat_map (trials_of t s) (systems t c.length)) = tells ∙ ap (λ (xs : List System). due_fault t s c.blocks 0 (flat_map (trials_of t s) xs)) e in
    sym (ap (λ (o : Option BlockFault). fault_or o (surplus_fault c.blocks (length (flat_map (trials_of t s) (systems t c.length))))) (sym same) ∙ some-or fault _ some)

pub no-fault : (t : Table) (s : Schedule) (c : Certificate) (found : List System) (due : ℕ) (fault : Option BlockFault) → found ≡ systems t c.length → None ≡ due_fault t s c.blocks 0 (flat_map (trials_of t s) found)
    → due ≡ length (flat_map (trials_of t s) found) → fault ≡ surplus_fault c.blocks due → fault ≡ first_fault t s c
unfolding trials
no-fault t s c found due fault e none long tells =
    let same : None ≡ due_fault t s c.blocks 0 (flat_map (trials_of t s) (systems t c.length)) = none ∙ ap (λ (xs : List System). due_fault t s c.blocks 0 (flat_map (trials_of t s) xs)) e in
    let last : due ≡ length (flat_map (trials_of t s) (systems t c.length)) = long ∙ ap (λ (xs : List System). length (flat_map (trials_of t s) xs)) e in
    tells ∙ ap (surplus_fault c.blocks) last ∙ ap (λ (o : Option BlockFault). fault_or o (surplus_fault c.blocks (length (flat_map (trials_of t s) (systems t c.length))))) same
