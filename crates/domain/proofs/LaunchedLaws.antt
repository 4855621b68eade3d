-- What a launch makes sure of.
use Rattle.std.proofs.Common.{◌≡◌, refl, sym, ap, ◌∙◌, ℕ, ◌≤◌, ◌-◌, ℤ, pos, ◌≤ℤ◌, Bool, true, false, Option, Some, None, List, [], ◌∷◌, ◌++◌, inl, inr, nat_lt, arith, zero, suc, ◌+◌, ◌+ℤ◌, ◌<ℤ◌, subst}
use Rattle.std.specs.Prelude.{option_map, slice_get, int_lt, if◌then◌else◌}
use Rattle.std.proofs.lemmas.Int.{ints}
use Rattle.std.proofs.lemmas.Option.{slice_get_within}
use Rattle.std.proofs.lemmas.Bool.Decides.{nat_tests}
use Rattle.plain_lemmas.proofs.IntegerLaws.{int_lt-true, int_lt-false}
use Rattle.plain_lemmas.proofs.MembershipLaws.{has-from-contains}
use Rattle.plain_lemmas.specs.Lists.{Has}
use Rattle.affine.specs.Forms.{Affine, value_at}
use Rattle.nest_lang.specs.declared.tree.Part.{Part}
use Rattle.nest_lang.specs.declared.tree.Part.TheVariants.{Head, Pre, Post}
use Rattle.nest_lang.specs.Values.{same}
use Rattle.domain.specs.declared.chunk.Chunk.{Chunk}
use Rattle.domain.specs.declared.held.HeldWhy.{HeldWhy}
use Rattle.domain.specs.declared.held.HeldWhy.TheVariants.{Many, Negative, Outside}
use Rattle.domain.specs.declared.table.LoopKind.{LoopKind}
use Rattle.domain.specs.declared.table.LoopKind.TheVariants.{For, While}
use Rattle.domain.specs.Tables.{Table, Access, access_at, level_at, trip}
use Rattle.domain.specs.Instances.{Instance, block_of, counter, Predicted}
use Rattle.domain.specs.Launches.{first_of, outside, line_failure, store_failure, trip_failure, lower_failure, last_failure, loop_failure, head_by, scalars_failure, stores_failure, data_failure, is_many, failure, IsLaunched}
use Rattle.domain.specs.Footprints.{LiesAbout, Expects}
use Rattle.domain.specs.Laws.{LaunchedTrips, LaunchedWords}

-- where an element stands
split : (xs : List Instance) (x : Instance) → Has xs x → (us : List Instance) × ((vs : List Instance) × (xs ≡ us ++ x ∷ vs))
split [] x h = absurd h
split (y ∷ ys) x (inl e) = ([], (ys, ap (λ (z : Instance). z ∷ ys) (sym e)))
split (y ∷ ys) x (inr h) = let (us, more) = split ys x h in let (vs, e) = more in (y ∷ us, (vs, ap (λ (zs : List Instance). y ∷ zs) e))

second-none : (a b : Option HeldWhy) → first_of a b ≡ None → b ≡ None
second-none None b e = e
second-none (Some w) b e = absurd (cc)

first-is-none : (a b : Option HeldWhy) → first_of a b ≡ None → a ≡ None
first-is-none None b e = refl
first-is-none (Some w) b e = absurd (cc)

passes-data : (t : Table) (words : ℤ) (us : List Instance) (x : Instance) → failure t words us x ≡ None → data_failure t words x ≡ None
unfolding failure
passes-data t words us x e = at (is_many t us x) refl
  where
    at : (b : Bool) → is_many t us x ≡ b → data_failure t words x ≡ None
    at true f = absurd (let g : Some Many ≡ None = sym (ap (λ (b : Bool). if b then Some Many else data_failure t words x) f) ∙ e in cc)
    at false f = sym (ap (λ (b : Bool). if b then Some Many else data_failure t words x) f) ∙ e

trip-up : (z : ℤ) → trip_failure z ≡ None → pos 0 ≤ℤ z
trip-up z e = at (int_lt z (pos 0)) refl
  where
    at : (b : Bool) → int_lt z (pos 0) ≡ b → pos 0 ≤ℤ z
    at true f = absurd (let g : Some (Negative z) ≡ None = sym (ap (λ (b : Bool). if b then Some (Negative z) else None) f) ∙ e in cc)
    at false f = int_lt-false z (pos 0) f

loop-up : (kind : LoopKind) (lower : Option Affine) (z turn : ℤ) (at : List ℤ) → turn ≡ pos 0 → loop_failure kind lower z turn at ≡ None → pos 0 ≤ℤ z
loop-up (For stride) lower z turn at none e = trip-up z (first-is-none (trip_failure z) (last_failure lower stride z at) (second-none (lower_failure lower at) (first_of (trip_failure z) (last_failure lower stride z at)) e))
loop-up While lower z turn at none e =
    let test : same turn (pos 0) ≡ true = ap (λ (v : ℤ). same v (pos 0)) none in
    trip-up z (sym (ap (λ (b : Bool). if b then trip_failure z else None) test) ∙ e)

head-up : (part : Part) (level : ℕ) (t : Table) (at : List ℤ) → part ≡ Head → 2 ≤ level → counter at (level - 1) ≡ pos 0 → head_by part level t at ≡ None → pos 0 ≤ℤ trip t (level - 1) at
head-up Pre level t at is inner none e = absurd (cc)
head-up Post level t at is inner none e = absurd (cc)
head-up Head level t at is inner none e =
    let test : nat_lt 1 level ≡ true = grind (arith, nat_tests) in
    loop-up (level_at t (level - 1)).kind (level_at t (level - 1)).lower (trip t (level - 1) at) (counter at (level - 1)) at none
    (sym (ap (λ (b : Bool). if b then loop_failure (level_at t (level - 1)).kind (level_at t (level - 1)).lower (trip t (level - 1) at) (counter at (level - 1)) at else None) test) ∙ e)

pub launched-data : (t : Table) (words : ℤ) (chunk : Chunk) (instances : ℕ) (x : Instance) → IsLaunched t words chunk instances → Predicted t chunk x → data_failure t words x ≡ None
launched-data t words chunk n x l p =
    let (us, more) = split l.list x (has-from-contains l.list x ((l.original.has x).1 p)) in
    let (vs, e) = more in
    passes-data t words us x (l.passes us x vs e)

pub launched_trips : LaunchedTrips
launched_trips D t words chunk n is l x p head inner none =
    let heads = second-none (stores_failure words 1 (block_of t x).accesses x.at) (head_by (block_of t x).part (block_of t x).level t x.at)
    (second-none (scalars_failure 0 (block_of t x).scalars x.at) (first_of (stores_failure words 1 (block_of t x).accesses x.at) (head_by (block_of t x).part (block_of t x).level t x.at)) (launched-data t words chunk n x l p)) in
    head-up (block_of t x).part (block_of t x).level t x.at head inner none heads

-- ---- stores

outside-none : (words first last : ℤ) → outside words first last ≡ None → (pos 0 ≤ℤ first) × (last <ℤ words)
outside-none words first last e = by (int_lt first (pos 0)) refl
  where
    rest : (b : Bool) → int_lt last words ≡ b → (if b then None else Some (if int_lt first words then words else first)) ≡ None → last <ℤ words
    rest true f g = int_lt-true last words f
    rest false f g = absurd (cc)

    by : (b : Bool) → int_lt first (pos 0) ≡ b → (pos 0 ≤ℤ first) × (last <ℤ words)
    by true f =
        absurd (let g : Some first ≡ None = sym (ap (λ (b : Bool). if b then Some first else (if int_lt last words then None else Some (if int_lt first words then words else first))) f) ∙ e in cc)
    by false f =
        let g : (if int_lt last words then None else Some (if int_lt first words then words else first)) ≡ None =
        sym (ap (λ (b : Bool). if b then Some first else (if int_lt last words then None else Some (if int_lt first words then words else first))) f) ∙ e in
        (int_lt-false first (pos 0) f, rest (int_lt last words) refl g)

no-address : (n : ℕ) (o : Option ℤ) → option_map (λ (a : ℤ). Outside n a) o ≡ None → o ≡ None
no-address n None e = refl
no-address n (Some a) e = absurd (cc)

line-words : (words : ℤ) (n : ℕ) (line : Option Affine) (low high : ℤ) (at : List ℤ) → line_failure words n line low high at ≡ None → (a : ℤ) → LiesAbout line low high at a → (pos 0 ≤ℤ a) × (a <ℤ words)
line-words words n None low high at e a h = absurd h
line-words words n (Some form) low high at e a h =
    let b = outside-none words (value_at form at +ℤ low) (value_at form at +ℤ high) (no-address n (outside words (value_at form at +ℤ low) (value_at form at +ℤ high)) e) in
    let from = b.0 in let to = b.1 in let least = h.0 in let most = h.1 in
    (omega (arith, ints), omega (arith, ints))

store-words : (words : ℤ) (n : ℕ) (access : Access) (at : List ℤ) → store_failure words n access at ≡ None → access.stores ≡ true → (a : ℤ) → Expects access at a → (pos 0 ≤ℤ a) × (a <ℤ words)
store-words words n access at e f =
    line-words words n access.line access.low access.high at (sym (ap (λ (b : Bool). if b then line_failure words n access.line access.low access.high at else None) f) ∙ e)

stores-words : (words : ℤ) (n : ℕ) (accesses : List Access) (at : List ℤ) → stores_failure words n accesses at ≡ None → (k : ℕ) (access : Access) → slice_get accesses k ≡ Some access → access.stores ≡ true → (a : ℤ) → Expects access at a → (pos 0 ≤ℤ a) × (a <ℤ words)
stores-words words n [] at e k access is f a h = absurd (let g = slice_get_within [] k access is in omega arith)
stores-words words n (b ∷ bs) at e zero access is f a h =
    let g : b ≡ access = cc in
    store-words words n access at (subst (λ (c : Access). store_failure words n c at ≡ None) g (first-is-none (store_failure words n b at) (stores_failure words (n + 1) bs at) e)) f a h
stores-words words n (b ∷ bs) at e (suc k) access is f a h = stores-words words (n + 1) bs at (second-none (store_failure words n b at) (stores_failure words (n + 1) bs at) e) k access is f a h

pub launched_words : LaunchedWords
launched_words t words chunk n l x p a h = by h.number refl
  where
    stores : stores_failure words 1 (block_of t x).accesses x.at ≡ None
    stores =
        first-is-none (stores_failure words 1 (block_of t x).accesses x.at) (head_by (block_of t x).part (block_of t x).level t x.at)
        (second-none (scalars_failure 0 (block_of t x).scalars x.at) (first_of (stores_failure words 1 (block_of t x).accesses x.at) (head_by (block_of t x).part (block_of t x).level t x.at)) (launched-data t words chunk n x l p))

    by : (m : ℕ) → h.number ≡ m → (pos 0 ≤ℤ a) × (a <ℤ words)
    by zero e = absurd (let f : None ≡ Some h.access = sym (ap (access_at (block_of t x)) e) ∙ h.is in cc)
    by (suc m) e = stores-words words 1 (block_of t x).accesses x.at stores m h.access (sym (ap (access_at (block_of t x)) e) ∙ h.is) h.kind a h.expected
