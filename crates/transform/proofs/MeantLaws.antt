-- What the commands of a script keep: from the unit matrix on, every draft is a schedule.
use Rattle.std.proofs.Common.{◌≡◌, ◌≢◌, refl, sym, ◌∙◌, subst, ℕ, ◌<◌, ◌≤◌, ◌+◌, ◌-◌, ◌^◌, ℤ, pos, negsuc, Bool, true, false, not, ◌&&◌, cond, List, [], ◌∷◌, Option, Some, None, length, set, unsigned_abs, add-zero, lit<, lit≤, arith}
use Rattle.std.specs.Prelude.{int_lt, nat_eq, nat_le, nat_lt, option_map}
use Rattle.std.specs.List.{All}
use Rattle.std.specs.Option.{option_and_then}
use Rattle.std.proofs.Math.ListN.{length-set}
use Rattle.std.proofs.lemmas.Bool.{and_parts, eqb-false, leb-true, ltb-false, ltb-true, not-true, true≢false}
use Rattle.std.proofs.lemmas.List.{length-replicate}
use Rattle.std.proofs.lemmas.List.Elements.{All-replicate, All-set}
use Rattle.nest_lang.specs.declared.command.Command.{Command}
use Rattle.nest_lang.specs.declared.command.Command.TheVariants.{Seq, Swap, Skew, Tile, Par, Wave}
use Rattle.affine.specs.Inverses.{IsInverse}
use Rattle.affine.proofs.InverseLaws.{IsInverse-identity, IsInverse-skew, IsInverse-swap}
use Rattle.transform.specs.Drafts.{Draft, drafted_all, extended, has_room, new_draft}
use Rattle.transform.specs.Laws.{ScriptsMakeSchedules}
use Rattle.transform.specs.Schedules.{IsSchedule, Schedule}
use Rattle.transform.specs.Scripts.{is_row, is_size, keeps_rule, marked, schedule_from}
use Rattle.transform.proofs.EntryLaws.{EntriesWithin, EntriesWithin-identity, EntriesWithin-next, EntriesWithin-swap, HasSmallEntries-within}
use Rattle.transform.proofs.LineLaws.{IsSchedule-made}
use Rattle.transform.proofs.ScriptLaws.{schedule_of-drafted}

-- what a draft after some commands keeps
record IsMeant (n : ℕ) (d : Draft) : Type 0 where
  columns : List (List ℤ)
  inverse : IsInverse n d.parts.rows columns
  small : EntriesWithin (9 ^ d.skews) d.parts.rows
  few : d.skews ≤ 6
  leads : d.parts.seq ≤ n
  sized : length d.parts.sizes ≡ n
  some : All (λ (size : ℕ). 0 < size) d.parts.sizes
  limit : All (λ (size : ℕ). size ≤ 65536) d.parts.sizes
  told : length d.parts.parallel ≡ n

-- the place of a row
row-below : (n a : ℕ) → is_row n a ≡ true → (1 ≤ a) × (a - 1 < n)
row-below n a h =
    let parts = and_parts (nat_le 1 a) (nat_le a n) h in
    let least = leb-true 1 a parts.0 in
    let most = leb-true a n parts.1 in
    (least, omega (arith, least, most))

record AreApart (n a b : ℕ) : Type 0 where
  first : a - 1 < n
  second : b - 1 < n
  apart : (a - 1) ≢ (b - 1)

rows-apart : (n a b : ℕ) → ((is_row n a && is_row n b) && not (nat_eq a b)) ≡ true → AreApart n a b
rows-apart n a b h =
    let parts = and_parts (is_row n a && is_row n b) (not (nat_eq a b)) h in
    let rows = and_parts (is_row n a) (is_row n b) parts.0 in
    let first = row-below n a rows.0 in
    let second = row-below n b rows.1 in
    let other = eqb-false a b (not-true (nat_eq a b) parts.1) in
    record { first = first.1; second = second.1; apart = λ e. other (omega (arith, first.0, second.0, e)) }

size-within : (size : ℤ) → is_size size ≡ true → (0 < unsigned_abs size) × (unsigned_abs size ≤ 65536)
size-within (pos n) h =
    let parts = and_parts (not (int_lt (pos n) (pos 1))) (not (int_lt (pos 65536) (pos n))) h in
    (ltb-false n 1 (not-true (int_lt (pos n) (pos 1)) parts.0), ltb-false 65536 n (not-true (int_lt (pos 65536) (pos n)) parts.1))
size-within (negsuc n) h = absurd (true≢false (sym h))

length-marked : (mark : Bool) (rows : List ℕ) (marks : List Bool) → length (marked mark rows marks) ≡ length marks
length-marked mark [] marks = refl
length-marked mark (row ∷ rows) marks = length-marked mark rows (set marks (row - 1) mark) ∙ length-set marks (row - 1) mark

still : (k : ℕ) (rows : List (List ℤ)) → EntriesWithin (9 ^ k) rows → EntriesWithin (9 ^ (k + 0)) rows
still k rows small = subst (λ j. EntriesWithin (9 ^ j) rows) (sym (add-zero k)) small

IsMeant-extended : (n : ℕ) (d : Draft) (c : Command) → keeps_rule n c ≡ true → has_room d c ≡ true → IsMeant n d → IsMeant n (extended d c)
IsMeant-extended n d (Seq count) keeps room m = record {
  columns = m.columns;
  inverse = m.inverse;
  small = still d.skews d.parts.rows m.small;
  few = omega (arith, m.few);
  leads = leb-true count n keeps;
  sized = m.sized;
  some = m.some;
  limit = m.limit;
  told = m.told;
}
IsMeant-extended n d (Swap a b) keeps room m =
    let two = rows-apart n a b keeps in
    let many = m.inverse.rows_square.many in
    record {
      columns = _;
      inverse = IsInverse-swap n d.parts.rows m.columns (a - 1) (b - 1) two.first two.second m.inverse;
      small = still d.skews _ (EntriesWithin-swap (9 ^ d.skews) d.parts.rows (a - 1) (b - 1) (omega (arith, many, two.first)) (omega (arith, many, two.second)) m.small);
      few = omega (arith, m.few);
      leads = m.leads;
      sized = m.sized;
      some = m.some;
      limit = m.limit;
      told = m.told;
    }
IsMeant-extended n d (Skew a b k) keeps room m =
    let parts = and_parts ((is_row n a && is_row n b) && not (nat_eq a b)) (nat_le (unsigned_abs k) 8) keeps in
    let two = rows-apart n a b parts.0 in
    let factor = leb-true (unsigned_abs k) 8 parts.1 in
    let more = ltb-true d.skews 6 (and_parts (not (d.led && false)) (nat_lt d.skews 6) room).1 in
    let many = m.inverse.rows_square.many in
    record {
      columns = _;
      inverse = IsInverse-skew n d.parts.rows m.columns (a - 1) (b - 1) k two.first two.second two.apart m.inverse;
      small = EntriesWithin-next d.skews d.parts.rows (a - 1) (b - 1) k (omega (arith, many, two.first)) (omega (arith, many, two.second)) factor m.small;
      few = omega (arith, more);
      leads = m.leads;
      sized = m.sized;
      some = m.some;
      limit = m.limit;
      told = m.told;
    }
IsMeant-extended n d (Tile a size) keeps room m =
    let parts = and_parts (is_row n a) (is_size size) keeps in
    let within = size-within size parts.1 in
    record {
      columns = m.columns;
      inverse = m.inverse;
      small = still d.skews d.parts.rows m.small;
      few = omega (arith, m.few);
      leads = m.leads;
      sized = length-set d.parts.sizes (a - 1) (unsigned_abs size) ∙ m.sized;
      some = All-set (λ (x : ℕ). 0 < x) d.parts.sizes (a - 1) (unsigned_abs size) within.0 m.some;
      limit = All-set (λ (x : ℕ). x ≤ 65536) d.parts.sizes (a - 1) (unsigned_abs size) within.1 m.limit;
      told = m.told;
    }
IsMeant-extended n d (Par rows) keeps room m = record {
  columns = m.columns;
  inverse = m.inverse;
  small = still d.skews d.parts.rows m.small;
  few = omega (arith, m.few);
  leads = m.leads;
  sized = m.sized;
  some = m.some;
  limit = m.limit;
  told = length-marked true rows.items d.parts.parallel ∙ m.told;
}
IsMeant-extended n d (Wave rows) keeps room m = record {
  columns = m.columns;
  inverse = m.inverse;
  small = still d.skews d.parts.rows m.small;
  few = omega (arith, m.few);
  leads = m.leads;
  sized = m.sized;
  some = m.some;
  limit = m.limit;
  told = length-marked false rows.items d.parts.parallel ∙ m.told;
}

IsMeant-new : (n : ℕ) → IsMeant n (new_draft n)
IsMeant-new n = record {
  columns = _;
  inverse = IsInverse-identity n;
  small = EntriesWithin-identity n;
  few = lit≤ tt;
  leads = omega arith;
  sized = length-replicate n 1;
  some = All-replicate (λ (size : ℕ). 0 < size) n 1 (lit< tt);
  limit = All-replicate (λ (size : ℕ). size ≤ 65536) n 1 (lit≤ tt);
  told = length-replicate n false;
}

meant-all : (n : ℕ) (d e : Draft) (script : List Command) → drafted_all n d script ≡ Some e → IsMeant n d → IsMeant n e
meant-all n d e [] is m = subst (IsMeant n) (option-same is) m
  where
    option-same : Some d ≡ Some e → d ≡ e
    option-same h = cc
meant-all n d e (c ∷ script) is m = by (λ next. meant-all n next e script) (keeps_rule n c && has_room d c) refl is
  where
    by : ((next : Draft) → drafted_all n next script ≡ Some e → IsMeant n next → IsMeant n e) → (o : Bool) → (keeps_rule n c && has_room d c) ≡ o
        → option_and_then (λ next. drafted_all n next script) (cond o (Some (extended d c)) None) ≡ Some e → IsMeant n e
    by rest true both h = let parts = and_parts (keeps_rule n c) (has_room d c) both in rest (extended d c) h (IsMeant-extended n d c parts.0 parts.1 m)
    by rest false both h = absurd (let never : ◌≡◌ {A = Option Draft} None (Some e) = h in cc)

pub scripts_make_schedules : ScriptsMakeSchedules
scripts_make_schedules n script s is = by (drafted_all n (new_draft n) script) refl (sym (schedule_of-drafted n script) ∙ is)
  where
    by : (o : Option Draft) → drafted_all n (new_draft n) script ≡ o → option_map (λ (d : Draft). schedule_from d.parts) o ≡ Some s → IsSchedule n s
    by None e h = absurd (let never : ◌≡◌ {A = Option Schedule} None (Some s) = h in cc)
    by (Some d) e h =
        let m = meant-all n (new_draft n) d script e (IsMeant-new n) in
        let same : schedule_from d.parts ≡ s = cc in
        subst (IsSchedule n) same
        (IsSchedule-made n d.parts.rows m.columns d.parts.seq d.parts.sizes d.parts.parallel m.inverse (HasSmallEntries-within d.skews d.parts.rows m.few m.small) m.leads m.some m.limit m.sized m.told)
