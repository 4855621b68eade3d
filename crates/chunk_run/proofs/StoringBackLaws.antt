-- What storing the words of a backup back leaves, one word after another.
use Rattle.std.proofs.Common.{◌≡◌, ◌≢◌, ℕ, ◌==◌, eq-eqb, ◌+◌, ◌<◌, ℤ, pos, Bool, true, false, List, length, get_or, set, refl, sym, ap, ◌∙◌, subst, arith, FitsSigned, length-set, get_or-set_same, get_or-set_other, eqb-true}
use Rattle.std.specs.Int.{w64, cast_signed, cast_unsigned}
use Rattle.std.specs.List.{All, Contains}
use Rattle.std.proofs.lemmas.Int.{to_z-of_z}
use Rattle.std.proofs.lemmas.List.{length-map, map-set, get_or_default, ext_get_or, get_or-map}
use Rattle.std.proofs.lemmas.List.Elements.{Contains-get_or}
use Rattle.std.proofs.lemmas.List.Folds.{list_any_at, Any-from_list_any}
use mathlib.Core.Logic.{dite}
use native.Mathlib.Decide.{ℕ_discrete}
use Rattle.core_steps.specs.declared.view.View.{View}
use Rattle.core_steps.specs.Numbers.{has}
use Rattle.shared_words.specs.Memories.{signed}
use Rattle.chunk_run.specs.declared.keep.Kept.{Kept}
use Rattle.chunk_run.specs.Backups.{word_of, words_at, addresses_kept, HasOneValueEach, IsRestored, IsRestoredView, DiffersOnlyAt}
use Rattle.chunk_run.proofs.KeptWordLaws.{kept_value}

abbrev nothing : Kept
nothing = record { address = 0; value = pos 0 }

-- the word number j of the backup
abbrev pub at : List Kept → ℕ → Kept
at backup j = get_or backup j nothing

-- the first i words of the backup are stored: v was main's view, w is it now
pub record Restoring (backup : List Kept) (i : ℕ) (v w : View) : Type 0 where
  pub rest : w ≡ record v { base = w.base; stored = w.stored }
  pub nothing : i ≡ 0 → w ≡ v
  pub stored : 0 < i → w.stored ≡ v.epoch
  pub width : length w.base ≡ length v.base
  pub done : (j : ℕ) → j < i → word_of (signed w.base) (at backup j).address ≡ (at backup j).value
  pub others : (a : ℕ) → ((j : ℕ) → j < i → (at backup j).address ≢ a) → word_of (signed w.base) a ≡ word_of (signed v.base) a

pub restoring-none : (backup : List Kept) (v : View) → Restoring backup 0 v v
restoring-none backup v = record { rest = refl; nothing = λ e. refl; stored = λ lt. absurd (omega (arith, lt)); width = refl; done = λ j lt. absurd (omega (arith, lt)); others = λ a away. refl }

pub signed-set : (base : List ℕ) (a : ℕ) (x : ℤ) → FitsSigned w64 x → signed (set base a (cast_unsigned w64 x)) ≡ set (signed base) a x
signed-set base a x fits = map-set (cast_signed w64) base a (cast_unsigned w64 x) ∙ ap (λ (z : ℤ). set (signed base) a z) (to_z-of_z w64 x fits)

length-signed : (base : List ℕ) → length (signed base) ≡ length base
length-signed base = length-map base (cast_signed w64)

-- main stored this word: the view w became u
pub record StoresWord (word : Kept) (w u : View) : Type 0 where
  pub memory : signed u.base ≡ set (signed w.base) word.address word.value
  pub rest : u ≡ record w { base = u.base; stored = w.epoch }

module _ (backup : List Kept) (i : ℕ) (v w u : View) (one : HasOneValueEach backup) (lt : i < length backup) (within : (at backup i).address < length v.base)
    (r : Restoring backup i v w) (s : StoresWord (at backup i) w u) where
  abbrev set-at : List ℤ
  set-at = set (signed w.base) (at backup i).address (at backup i).value

  there : (at backup i).address < length (signed w.base)
  there = let l = length-signed w.base in let width = r.width in omega (arith, l, width, within)

  other : (a : ℕ) → (at backup i).address ≢ a → word_of set-at a ≡ word_of (signed w.base) a
  other a ne = get_or-set_other (signed w.base) (at backup i).address a (at backup i).value (pos 0) (λ e. ne (sym e))

  same : (a : ℕ) → (at backup i).address ≡ a → word_of set-at a ≡ (at backup i).value
  same a e = subst (λ b. word_of set-at b ≡ (at backup i).value) e (get_or-set_same (signed w.base) (at backup i).address (at backup i).value (pos 0) there)

  done-more : (j : ℕ) → j < i + 1 → word_of set-at (at backup j).address ≡ (at backup j).value
  done-more j below = dite (ℕ_discrete (at backup i).address (at backup j).address)
      (λ e. same (at backup j).address e ∙ one (at backup i) (at backup j) (Contains-get_or backup i nothing lt) (Contains-get_or backup j nothing (omega (arith, lt, below))) e)
      (λ ne. let apart : j ≢ i = λ e. ne (ap (λ k. (at backup k).address) (sym e)) in
      other (at backup j).address ne ∙ r.done j (omega (arith, below, apart)))

  pub restoring-more : Restoring backup (i + 1) v u
  restoring-more = record {
    rest = s.rest ∙ ap (λ (t : View). record t { base = u.base; stored = w.epoch }) r.rest ∙ ap (λ n. record v { base = u.base; stored = n }) (sym (ap (λ (t : View). t.stored) s.rest));
    nothing = λ e. absurd (omega (arith, e));
    stored = λ more. ap (λ (t : View). t.stored) s.rest ∙ ap (λ (t : View). t.epoch) r.rest;
    width = sym (length-signed u.base) ∙ ap length s.memory ∙ length-set (signed w.base) (at backup i).address (at backup i).value ∙ length-signed w.base ∙ r.width;
    done = λ j below. ap (λ m. word_of m (at backup j).address) s.memory ∙ done-more j below;
    others = λ a away. ap (λ m. word_of m a) s.memory ∙ other a (away i (omega arith)) ∙ r.others a (λ j below. away j (omega (arith, below)));
  }

-- the loop's turn, in its own words
pub restoring-next : (backup items : List Kept) (i : ℕ) (v w u : View) (d : Kept) → backup ≡ items → HasOneValueEach items → i < length items
    → All (λ word. word.address < length v.base) backup → Restoring backup i v w → StoresWord (get_or items i d) w u → Restoring backup (i + 1) v u
restoring-next backup items i v w u d same one lt within r s =
    let here = get_or_default items i d nothing lt in
    subst (λ ks. Restoring ks (i + 1) v u) (sym same)
    (restoring-more items i v w u one lt (subst (λ ks. All (λ word. word.address < length v.base) ks) same within i nothing lt) (subst (λ ks. Restoring ks i v w) same r)
    (subst (λ word. StoresWord word w u) here s))

-- the loop's end: all words are stored
pub ended : (backup items : List Kept) (i : ℕ) (v w : View) → backup ≡ items → i ≡ length items → Restoring backup i v w → Restoring backup (length backup) v w
ended backup items i v w same end r = subst (λ n. Restoring backup n v w) (end ∙ sym (ap length same)) r

module _ (backup : List Kept) (v w : View) (r : Restoring backup (length backup) v w) where
  pub restored-view : IsRestoredView backup v w
  restored-view = record { rest = r.rest; nothing = λ e. r.nothing (ap length e); stored = r.stored }

  -- an address that is not among the backup's is that of none of its words
  away : (a : ℕ) → has a (addresses_kept backup) ≡ false → (j : ℕ) → j < length backup → (at backup j).address ≢ a
  away a none j below e =
      let long = length-map backup (λ u. u.address) in
      let here : get_or (addresses_kept backup) j 0 ≡ a = get_or-map (λ u. u.address) backup j nothing 0 below ∙ e in
      let found : has a (addresses_kept backup) ≡ true = list_any_at (λ y. y == a) (addresses_kept backup) j 0 (omega (arith, long, below)) (subst (λ b. (b == a) ≡ true) (sym here) (eq-eqb a a refl)) in
      absurd (cc)

  pub restored : IsRestored backup (signed v.base) (signed w.base)
  restored = record {
    length = length-signed w.base ∙ r.width ∙ sym (length-signed v.base);
    kept = λ k d below. subst (λ u. word_of (signed w.base) u.address ≡ u.value) (get_or_default backup k nothing d below) (r.done k below);
    others = λ a none. r.others a (away a none);
  }

  by-address : (memory : List ℤ) → backup ≡ words_at memory (addresses_kept backup) → DiffersOnlyAt (addresses_kept backup) memory (signed v.base)
      → (a : ℕ) (b : Bool) → has a (addresses_kept backup) ≡ b → word_of (signed w.base) a ≡ word_of memory a
  by-address memory taken differs a false none = r.others a (away a none) ∙ sym (differs.others a none)
  by-address memory taken differs a true some =
      let (k, x, below, is, test) = Any-from_list_any (λ y. y == a) (addresses_kept backup) some in
      let long = length-map backup (λ u. u.address) in
      let lt : k < length backup = omega (arith, long, below) in
      let address : (at backup k).address ≡ a = sym (get_or-map (λ u. u.address) backup k nothing x lt) ∙ is ∙ eqb-true x a test in
      let value : (at backup k).value ≡ word_of memory (at backup k).address =
      kept_value memory (addresses_kept backup) (at backup k) (subst (λ ks. Contains ks (at backup k)) taken (Contains-get_or backup k nothing lt)) in
      subst (λ b. word_of (signed w.base) b ≡ word_of memory b) address (r.done k lt ∙ value)

  pub restored-start : (memory : List ℤ) → backup ≡ words_at memory (addresses_kept backup) → DiffersOnlyAt (addresses_kept backup) memory (signed v.base) → signed w.base ≡ memory
  restored-start memory taken differs =
      let long = length-signed w.base ∙ r.width ∙ sym (length-signed v.base) ∙ sym differs.length in
      ext_get_or (pos 0) (signed w.base) memory long (λ a below. by-address memory taken differs a (has a (addresses_kept backup)) refl)
