-- What comes of a script: command by command, and as a whole.
use Rattle.std.proofs.Common.{◌≡◌, refl, sym, ap, ap₂, ◌∙◌, subst, ℕ, ◌<◌, ◌≤◌, ◌+◌, Bool, true, false, not, ◌&&◌, ◌||◌, cond, List, [], ◌∷◌, Option, Some, None, ◌⊎◌, inl, inr, add_assoc, zero-add, lit≤, arith}
use Rattle.std.specs.Prelude.{nat_le, nat_lt, option_map}
use Rattle.std.specs.List.{count_by, fold, list_all}
use Rattle.std.specs.Option.{option_and_then}
use Rattle.std.proofs.lemmas.Bool.{and_parts, le-leb, lt-leb, le-ltb, lt-ltb, ltb-true, cases_lt}
use Rattle.std.proofs.lemmas.List.Sums.{sum_by-cons}
use Rattle.nest_lang.specs.declared.command.Command.{Command}
use Rattle.transform.specs.Drafts.{Draft, drafted, drafted_all, extended, has_room, new_draft}
use Rattle.transform.specs.Scripts.{applied, is_seq, is_skew, keeps_rule, keeps_rules, meaning, schedule_from, schedule_of}

abbrev number : Bool → ℕ
number b = cond b 1 0

-- whether what follows a draft keeps the rules
abbrev passes : ℕ → Draft → List Command → Bool
passes n d script = list_all (keeps_rule n) script && (nat_le (number d.led + count_by is_seq script) 1 && nat_le (d.skews + count_by is_skew script) 6)

-- a command that has said how many rows lead is the only one
leading-limit : (led seq : Bool) (seqs : ℕ) → nat_le (number led + (number seq + seqs)) 1 ≡ (not (led && seq) && nat_le (number (led || seq) + seqs) 1)
leading-limit true true seqs = lt-leb (1 + (1 + seqs)) 1 (omega arith)
leading-limit true false seqs = ap (λ k. nat_le (1 + k) 1) (zero-add seqs)
leading-limit false true seqs = ap (λ k. nat_le k 1) (zero-add (1 + seqs))
leading-limit false false seqs = ap (λ k. nat_le k 1) (zero-add (0 + seqs))

-- one skew more
skew-limit : (skew : Bool) (skews more : ℕ) → skews ≤ 6 → nat_le (skews + (number skew + more)) 6 ≡ ((not skew || nat_lt skews 6) && nat_le ((skews + number skew) + more) 6)
skew-limit false skews more few = ap (λ k. nat_le k 6) (sym (add_assoc skews 0 more))
skew-limit true skews more few = by (cases_lt skews 6)
  where
    same : nat_le (skews + (1 + more)) 6 ≡ nat_le ((skews + 1) + more) 6
    same = ap (λ k. nat_le k 6) (sym (add_assoc skews 1 more))

    by : (skews < 6) ⊎ (6 ≤ skews) → nat_le (skews + (1 + more)) 6 ≡ (nat_lt skews 6 && nat_le ((skews + 1) + more) 6)
    by (inl less) = rw (lt-ltb skews 6 less) same
    by (inr full) = rw (le-ltb skews 6 full) (lt-leb (skews + (1 + more)) 6 (omega arith))

-- a command passes with what follows it where it keeps its rule, has room, and what follows passes after it
passes-cons : (n : ℕ) (d : Draft) (c : Command) (script : List Command) → d.skews ≤ 6 → passes n d (c ∷ script) ≡ ((keeps_rule n c && has_room d c) && passes n (extended d c) script)
passes-cons n d c script few =
    ap₂ (λ u v. (keeps_rule n c && list_all (keeps_rule n) script) && (nat_le (number d.led + u) 1 && nat_le (d.skews + v) 6))
    (sum_by-cons (λ x. cond (is_seq x) 1 0) c script) (sum_by-cons (λ x. cond (is_skew x) 1 0) c script)
    ∙ ap₂ (λ u v. (keeps_rule n c && list_all (keeps_rule n) script) && (u && v)) (leading-limit d.led (is_seq c) (count_by is_seq script)) (skew-limit (is_skew c) d.skews (count_by is_skew script) few)
    ∙ (ordered (keeps_rule n c) (list_all (keeps_rule n) script) (not (d.led && is_seq c)) (nat_le (number (d.led || is_seq c) + count_by is_seq script) 1) (not (is_skew c) || nat_lt d.skews 6) (nat_le ((d.skews + number (is_skew c)) + count_by is_skew script) 6))
  where
    ordered : (k l a b e f : Bool) → ((k && l) && ((a && b) && (e && f))) ≡ ((k && (a && e)) && (l && (b && f)))
    ordered false l a b e f = refl
    ordered true false false b e f = refl
    ordered true false true b false f = refl
    ordered true false true b true f = refl
    ordered true true false b e f = refl
    ordered true true true false false f = refl
    ordered true true true false true f = refl
    ordered true true true true false f = refl
    ordered true true true true true f = refl

few-extended : (d : Draft) (c : Command) → d.skews ≤ 6 → has_room d c ≡ true → (extended d c).skews ≤ 6
few-extended d c few room = by (is_skew c) (and_parts (not (d.led && is_seq c)) (not (is_skew c) || nat_lt d.skews 6) room).1
  where
    by : (skew : Bool) → (not skew || nat_lt d.skews 6) ≡ true → (d.skews + cond skew 1 0) ≤ 6
    by false h = omega arith
    by true h = let less = ltb-true d.skews 6 h in omega (arith, less)

-- a draft goes on to the end exactly where what follows passes
pub drafted_all-is : (n : ℕ) (d : Draft) (script : List Command) → d.skews ≤ 6 → drafted_all n d script ≡ cond (passes n d script) (Some (fold extended d script)) None
drafted_all-is n d [] few = sym (ap (λ b. cond b (Some d) None) (fits d.led))
  where
    fits : (led : Bool) → (nat_le (number led + 0) 1 && nat_le (d.skews + 0) 6) ≡ true
    fits true = le-leb (d.skews + 0) 6 (omega arith)
    fits false = le-leb (d.skews + 0) 6 (omega arith)
drafted_all-is n d (c ∷ script) few =
    by (λ room. drafted_all-is n (extended d c) script room) (keeps_rule n c && has_room d c) refl ∙ sym (ap (λ b. cond b (Some (fold extended (extended d c) script)) None) (passes-cons n d c script few))
  where
    room : keeps_rule n c && has_room d c ≡ true → has_room d c ≡ true
    room h = (and_parts (keeps_rule n c) (has_room d c) h).1

    at : Bool → Option Draft
    at o = option_and_then (λ next. drafted_all n next script) (cond o (Some (extended d c)) None)

    wanted : Bool → Option Draft
    wanted o = cond (o && passes n (extended d c) script) (Some (fold extended (extended d c) script)) None

    by : ((extended d c).skews ≤ 6 → at true ≡ wanted true) → (o : Bool) → (keeps_rule n c && has_room d c) ≡ o → at (keeps_rule n c && has_room d c) ≡ wanted (keeps_rule n c && has_room d c)
    by rest true e = subst (λ o. at o ≡ wanted o) (sym e) (rest (few-extended d c few (room e)))
    by rest false e = subst (λ o. at o ≡ wanted o) (sym e) refl

-- the parts of a draft are what its commands mean
fold-extended : (d : Draft) (script : List Command) → (fold extended d script).parts ≡ fold (λ parts c. applied c parts) d.parts script
fold-extended d [] = refl
fold-extended d (c ∷ script) = fold-extended (extended d c) script

-- the schedule of a script is that of its draft
pub schedule_of-drafted : (n : ℕ) (script : List Command) → schedule_of n script ≡ option_map (λ (d : Draft). schedule_from d.parts) (drafted_all n (new_draft n) script)
schedule_of-drafted n script =
    sym
    (ap (option_map (λ (d : Draft). schedule_from d.parts)) (drafted_all-is n (new_draft n) script (lit≤ tt) ∙ ap (λ o. cond o (Some (fold extended (new_draft n) script)) None) whole)
    ∙ by (keeps_rules n script))
  where
    whole : passes n (new_draft n) script ≡ keeps_rules n script
    whole = ap₂ (λ a b. list_all (keeps_rule n) script && (nat_le a 1 && nat_le b 6)) (zero-add (count_by is_seq script)) (zero-add (count_by is_skew script))

    by : (o : Bool) → option_map (λ (d : Draft). schedule_from d.parts) (cond o (Some (fold extended (new_draft n) script)) None) ≡ cond o (Some (schedule_from (meaning n script))) None
    by true = ap (λ parts. Some (schedule_from parts)) (fold-extended (new_draft n) script)
    by false = refl

-- ---- one command, and then the rest

pub drafted_all-gone : (n : ℕ) (d : Draft) (c : Command) (script : List Command) → drafted n d c ≡ None → drafted_all n d (c ∷ script) ≡ None
drafted_all-gone n d c script h = ap (option_and_then (λ next. drafted_all n next script)) h

pub drafted_all-goes : (n : ℕ) (d e : Draft) (c : Command) (script : List Command) → drafted n d c ≡ Some e → drafted_all n d (c ∷ script) ≡ drafted_all n e script
drafted_all-goes n d e c script h = ap (option_and_then (λ next. drafted_all n next script)) h
