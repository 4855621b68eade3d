-- The scripts of a schedule list, and the rules that they keep.
use Rattle.std.proofs.Common.{◌≡◌, refl, sym, ap, ◌∙◌, ℕ, zero, suc, ◌+◌, ◌-◌, ◌^◌, ◌<◌, ◌≤◌, pos, Bool, true, false, cond, Some, None, List, [], ◌∷◌, ◌++◌, map, arith, append_assoc, append-nil}
use Rattle.std.specs.Prelude.{◌&&◌, nat_eq, nat_le, nat_lt, not, if◌then◌else◌}
use Rattle.std.specs.List.{count_by, flat_map, fold, list_all, range_with_len}
use Rattle.std.proofs.lemmas.Bool.{and_parts}
use Rattle.std.proofs.Math.Nat.{mod-lt}
use Rattle.std.proofs.lemmas.Grind.{flat_map-append}
use Rattle.std.proofs.lemmas.List.FromFn.{map-range_with_len_more}
use Rattle.std.proofs.lemmas.Bool.Decides.{nat_tests}
use Rattle.nest_lang.specs.declared.command.Command.{Command}
use Rattle.nest_lang.specs.declared.command.Command.TheVariants.{Swap, Tile}
use Rattle.transform.specs.Scripts.{is_row, is_seq, is_skew, keeps_rule, keeps_rules, schedule_of}
use Rattle.transform.specs.Standards.{tiles}
use Rattle.seek.specs.ScheduleLists.{choices, count, factor, schedule_at, script_at, skew_by, skewed, skews}
use Rattle.seek.specs.Laws.{ListedAreSchedules}

-- ---- powers of 4

pub power-most : (k : ℕ) → k ≤ 5 → 4 ^ k ≤ 1024
power-most zero h = omega arith
power-most (suc zero) h = omega arith
power-most (suc (suc zero)) h = omega arith
power-most (suc (suc (suc zero))) h = omega arith
power-most (suc (suc (suc (suc zero)))) h = omega arith
power-most (suc (suc (suc (suc (suc zero))))) h = omega arith
power-most (suc (suc (suc (suc (suc (suc k)))))) h = absurd (omega arith)

pub power-some : (k : ℕ) → k ≤ 5 → 0 < 4 ^ k
power-some zero h = omega arith
power-some (suc zero) h = omega arith
power-some (suc (suc zero)) h = omega arith
power-some (suc (suc (suc zero))) h = omega arith
power-some (suc (suc (suc (suc zero)))) h = omega arith
power-some (suc (suc (suc (suc (suc zero))))) h = omega arith
power-some (suc (suc (suc (suc (suc (suc k)))))) h = absurd (omega arith)

pub place-most : (n : ℕ) → 1 ≤ n → n ≤ 6 → 4 ^ (n - 1) ≤ 1024
place-most n some few = power-most (n - 1) (omega arith)

-- ---- the rules

-- commands that keep their rules, none of which leads, and at most so many of which skew
pub record Keeps (n : ℕ) (script : List Command) (most : ℕ) : Type 0 where
  pub each : list_all (keeps_rule n) script ≡ true
  pub leads : count_by is_seq script ≡ 0
  pub skewing : count_by is_skew script ≤ most

no-command : (n : ℕ) → Keeps n [] 0
no-command n = record { each = refl; leads = refl; skewing = omega arith }

and-both : (a b : Bool) → a ≡ true → b ≡ true → (a && b) ≡ true
and-both a b e f = rw (e, f) refl

tile-keeps : (n row : ℕ) (script : List Command) (most : ℕ) → 1 ≤ row → row ≤ n → Keeps n script most → Keeps n (Tile row (pos 4) ∷ script) most
tile-keeps n row script most from to k =
    let here : is_row n row ≡ true = grind (arith, nat_tests) in
    record {
      each = and-both _ _ (rw here refl) k.each;
      leads = k.leads;
      skewing = k.skewing;
    }

swap-keeps : (n : ℕ) (script : List Command) (most : ℕ) → 2 ≤ n → Keeps n script most → Keeps n (Swap 1 2 ∷ script) most
swap-keeps n script most two k =
    let first : is_row n 1 ≡ true = grind (arith, nat_tests) in
    let second : is_row n 2 ≡ true = grind (arith, nat_tests) in
    record {
      each = and-both _ _ (rw (first, second) refl) k.each;
      leads = k.leads;
      skewing = k.skewing;
    }

counted-from : (start : ℕ) (script : List Command) → fold (λ (a : ℕ) (x : Command). a + cond (is_skew x) 1 0) start script ≡ start + count_by is_skew script
counted-from start [] = omega arith
counted-from start (x ∷ script) = omega (arith, counted-from (start + cond (is_skew x) 1 0) script, counted-from (0 + cond (is_skew x) 1 0) script)

more-skews : (script : List Command) → fold (λ (a : ℕ) (x : Command). a + cond (is_skew x) 1 0) 1 script ≡ 1 + count_by is_skew script
more-skews script = counted-from 1 script

skew-keeps : (n row m : ℕ) (script : List Command) (most : ℕ) → 2 ≤ row → row ≤ n → m ≤ 3 → Keeps n script most → Keeps n (skew_by row m ++ script) (suc most)
skew-keeps n row zero script most from to few k = record { each = k.each; leads = k.leads; skewing = omega (arith, k.skewing) }
skew-keeps n row (suc m) script most from to few k =
    let more : count_by is_skew (skew_by row (suc m) ++ script) ≡ 1 + count_by is_skew script = more-skews script in
    let first : is_row n 1 ≡ true = grind (arith, nat_tests) in
    let here : is_row n row ≡ true = grind (arith, nat_tests) in
    let other : not (nat_eq row 1) ≡ true = grind (arith, nat_tests) in
    let small : nat_le (suc m) 8 ≡ true = grind (arith, nat_tests) in
    record {
      each = and-both _ _ (and-both _ _ (and-both _ _ (and-both _ _ here first) other) small) k.each;
      leads = k.leads;
      skewing = omega (arith, more, k.skewing);
    }

tiles-keep : (n a m : ℕ) → 1 ≤ a → a + m ≤ n + 1 → Keeps n (map (λ row. Tile row (pos 4)) (range_with_len a m)) 0
tiles-keep n a zero from to = no-command n
tiles-keep n a (suc m) from to = tile-keeps n a _ 0 from (omega arith) (tiles-keep n (a + 1) m (omega arith) (omega arith))

factor-few : (n k row : ℕ) → factor n k row ≤ 3
factor-few n k row = let l : factor n k row < 4 = mod-lt _ (omega arith) in omega (arith, l)

skews-keep : (n k a m : ℕ) (script : List Command) → 2 ≤ a → a + m ≤ n + 1 → Keeps n script 0 → Keeps n (flat_map (λ row. skew_by row (factor n k row)) (range_with_len a m) ++ script) m
skews-keep n k a zero script from to h = h
skews-keep n k a (suc m) script from to h =
    let rest = flat_map (λ row. skew_by row (factor n k row)) (range_with_len (a + 1) m) in
    rw (append_assoc (skew_by a (factor n k a)) rest script) (skew-keeps n a (factor n k a) (rest ++ script) m from (omega arith) (factor-few n k a) (skews-keep n k (a + 1) m script (omega arith) (omega arith) h))

skewed-keeps : (n k : ℕ) → 1 ≤ n → n ≤ 6 → Keeps n (skewed n k) (n - 1)
skewed-keeps n k some few = skews-keep n k 2 (n - 1) (tiles 1 n (pos 4)) (omega arith) (omega arith) (tiles-keep n 1 ((n + 1) - 1) (omega arith) (omega arith))

two-rows : (n k : ℕ) → 1 ≤ n → k < count n → nat_lt k (choices n) ≡ false → 2 ≤ n
two-rows zero k some inside e = absurd (omega arith)
two-rows (suc zero) k some inside e = grind (arith, nat_tests)
two-rows (suc (suc n)) k some inside e = omega arith

script-keeps : (n k : ℕ) → 1 ≤ n → n ≤ 6 → k < count n → Keeps n (script_at n k) (n - 1)
script-keeps n k some few inside = by (nat_lt k (choices n)) refl
  where
    by : (w : Bool) → nat_lt k (choices n) ≡ w → Keeps n (if w then skewed n k else Swap 1 2 ∷ skewed n (k - choices n)) (n - 1)
    by true e = skewed-keeps n k some few
    by false e = swap-keeps n _ _ (two-rows n k some inside e) (skewed-keeps n (k - choices n) some few)

rules-kept : (n : ℕ) (script : List Command) → n ≤ 6 → Keeps n script (n - 1) → keeps_rules n script ≡ true
rules-kept n script few k =
    let led : nat_le (count_by is_seq script) 1 ≡ true = rw (k.leads) refl in
    let many : nat_le (count_by is_skew script) 6 ≡ true = grind (arith, nat_tests, k.skewing) in
    and-both _ _ k.each (and-both _ _ led many)

pub has-schedule : (n k : ℕ) → 1 ≤ n → n ≤ 6 → k < count n → schedule_of n (script_at n k) ≡ Some (schedule_at n k)
has-schedule n k some few inside = ap (λ b. cond b (Some (schedule_at n k)) None) (rules-kept n (script_at n k) few (script-keeps n k some few inside))

at-most : {a b : ℕ} → nat_le a b ≡ true → a ≤ b
at-most e = grind (arith, nat_tests)

less-one : (number count : ℕ) → 1 ≤ number → number ≤ count → number - 1 < count
less-one number count from to = omega arith

inside-list : (n number : ℕ) (script : List Command) → 1 ≤ n → n ≤ 6 → 1 ≤ number → number ≤ count n → Some (script_at n (number - 1)) ≡ Some script → schedule_of n script ≡ Some (schedule_at n (number - 1))
inside-list n number script some few from to same =
    let is : script_at n (number - 1) ≡ script = cc in
    ap (schedule_of n) (sym is) ∙ has-schedule n (number - 1) some few (less-one number (count n) from to)

pub listed_are_schedules : ListedAreSchedules
listed_are_schedules n number script e = by ((nat_le 1 n && nat_le n 6) && (nat_le 1 number && nat_le number (count n))) refl e
  where
    by : (w : Bool) → ((nat_le 1 n && nat_le n 6) && (nat_le 1 number && nat_le number (count n))) ≡ w → (if w then Some (script_at n (number - 1)) else None) ≡ Some script → schedule_of n script ≡ Some (schedule_at n (number - 1))
    by true is same =
        let both = and_parts (nat_le 1 n && nat_le n 6) (nat_le 1 number && nat_le number (count n)) is in
        let loops = and_parts (nat_le 1 n) (nat_le n 6) both.0 in
        let numbers = and_parts (nat_le 1 number) (nat_le number (count n)) both.1 in
        inside-list n number script (at-most loops.0) (at-most loops.1) (at-most numbers.0) (at-most numbers.1) same
    by false is same = cc

-- ---- scripts built row by row

map-same : (ks : List ℕ) → map (λ k. k) ks ≡ ks
map-same [] = refl
map-same (k ∷ ks) = ap (λ (js : List ℕ). k ∷ js) (map-same ks)

flat_map-last : {Y : Type 0} (f : ℕ → List Y) (a m : ℕ) → flat_map f (range_with_len a (m + 1)) ≡ flat_map f (range_with_len a m) ++ f (a + m)
flat_map-last f a m =
    ap (flat_map f) (sym (map-same (range_with_len a (m + 1))) ∙ map-range_with_len_more (λ k. k) a m (a + m) refl ∙ ap (λ (ks : List ℕ). ks ++ (a + m) ∷ []) (map-same (range_with_len a m)))
    ∙ flat_map-append f (range_with_len a m) ((a + m) ∷ [])
    ∙ ap (λ ys. flat_map f (range_with_len a m) ++ ys) (append-nil (f (a + m)))

-- the skews before a row
abbrev pub skews_before : ℕ → ℕ → ℕ → List Command
skews_before n k row = flat_map (λ r. skew_by r (factor n k r)) (range_with_len 2 (row - 2))

pub skews-next : (n k row : ℕ) (first before after : List Command) → 2 ≤ row → before ≡ first ++ skews_before n k row → after ≡ before ++ skew_by row (factor n k row) → after ≡ first ++ skews_before n k (row + 1)
skews-next n k row first before after from e f =
    let here : 2 + (row - 2) ≡ row = omega arith in
    let next : (row - 2) + 1 ≡ (row + 1) - 2 = omega arith in
    let last : skews_before n k row ++ skew_by row (factor n k row) ≡ skews_before n k (row + 1) =
    ap (λ r. skews_before n k row ++ skew_by r (factor n k r)) (sym here)
    ∙ sym (flat_map-last (λ r. skew_by r (factor n k r)) 2 (row - 2))
    ∙ ap (λ m. flat_map (λ r. skew_by r (factor n k r)) (range_with_len 2 m)) next in
    f ∙ ap (λ (xs : List Command). xs ++ skew_by row (factor n k row)) e ∙ append_assoc first (skews_before n k row) (skew_by row (factor n k row)) ∙ ap (λ (xs : List Command). first ++ xs) last

pub skews_to-end : (n k row : ℕ) → row - 2 ≡ n - 1 → skews_before n k row ≡ skews n k
skews_to-end n k row e = ap (λ m. flat_map (λ r. skew_by r (factor n k r)) (range_with_len 2 m)) e

-- the tiles before a row
abbrev pub tiles_before : ℕ → List Command
tiles_before row = map (λ r. Tile r (pos 4)) (range_with_len 1 (row - 1))

pub tiles-next : (row : ℕ) (first before after : List Command) → 1 ≤ row → before ≡ first ++ tiles_before row → after ≡ before ++ Tile row (pos 4) ∷ [] → after ≡ first ++ tiles_before (row + 1)
tiles-next row first before after from e f =
    let here : 1 + (row - 1) ≡ row = omega arith in
    let next : (row - 1) + 1 ≡ (row + 1) - 1 = omega arith in
    let last : tiles_before row ++ Tile row (pos 4) ∷ [] ≡ tiles_before (row + 1) =
    sym (map-range_with_len_more (λ r. Tile r (pos 4)) 1 (row - 1) row here)
    ∙ ap (λ m. map (λ r. Tile r (pos 4)) (range_with_len 1 m)) next in
    f ∙ ap (λ (xs : List Command). xs ++ Tile row (pos 4) ∷ []) e ∙ append_assoc first (tiles_before row) (Tile row (pos 4) ∷ []) ∙ ap (λ (xs : List Command). first ++ xs) last
