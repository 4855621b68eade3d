-- The lines of a listing can be written: the scalars that they name are the file's, and no verdict is Empty.
use Rattle.std.proofs.Common.{◌≡◌, refl, sym, subst, ℕ, suc, zero, ◌+◌, ◌<◌, ℤ, Bool, true, false, nat_le, Option, Some, None, inl, inr, ⊎_elim, List, [], ◌∷◌, ◌++◌, map, length, slice_get, arith}
use Rattle.std.specs.Prelude.{IfSome, if◌then◌else◌, slice_index_or}
use Rattle.std.proofs.lemmas.Option.{get_or_from_slice_get, slice_get_within}
use Rattle.std.specs.List.{All, flat_map, range_with_len}
use Rattle.plain_lemmas.proofs.MembershipLaws.{All-from, flat_map-has, has-at, has-cases, map-has}
use Rattle.plain_lemmas.specs.Lists.{Has}
use Rattle.nest_lang.specs.declared.command.Command.{Command}
use Rattle.nest_lang.specs.declared.tree.BlockRef.{BlockRef}
use Rattle.nest_lang.specs.declared.tree.Loop.{Loop}
use Rattle.nest_lang.specs.declared.tree.Part.{Part}
use Rattle.nest_lang.specs.declared.tree.Part.TheVariants.{Head, Pre, Post}
use Rattle.nest_lang.specs.Accesses.{accesses_of}
use Rattle.nest_lang.specs.Blocks.{present_blocks}
use Rattle.nest_lang.specs.Stores.{Store}
use Rattle.nest_lang.specs.Traces.{Finish, Done, Halted, Limited, Observation}
use Rattle.nest_grammar.specs.declared.file.File.{File}
use Rattle.nest_grammar.specs.declared.file.NestUnit.{NestUnit}
use Rattle.nest_grammar.specs.declared.version.Version.{Version}
use Rattle.nest_grammar.specs.declared.version.Version.TheVariants.{One, Two}
use Rattle.nest_grammar.specs.Files.{first_store}
use Rattle.line_fit.specs.Lines.{Tube}
use Rattle.domain.specs.declared.prediction.What.{What}
use Rattle.domain.specs.declared.prediction.What.TheVariants.{Scalar, Address, Lower, Trip}
use Rattle.domain.specs.Tables.{Table, block_at}
use Rattle.transform.specs.Schedules.{Schedule}
use Rattle.transform.specs.Scripts.{schedule_of}
use Rattle.legality.specs.declared.refusals.Judged.{Judged}
use Rattle.legality.specs.declared.refusals.Judged.TheVariants.{Legal, Refused}
use Rattle.legality.specs.Dependences.{dependences}
use Rattle.legality.specs.Judgements.{judged}
use Rattle.profile.specs.declared.unfit.Unfit.{Unfit}
use Rattle.profile.specs.Data.{bounds_of, data_of, tube_in}
use Rattle.profile.specs.Fits.{IsUnfitAt}
use Rattle.profile.specs.declared.first_turns.FirstProfile.{FirstProfile}
use Rattle.profile.specs.declared.first_turns.FirstProfile.TheVariants.{Missing, Short, Whole}
use Rattle.report.specs.declared.journey.Options.{Options}
use Rattle.report.specs.declared.line.Line.TheVariants as said
use Rattle.report.specs.declared.line.ListingLine.{ListingLine}
use Rattle.report.specs.declared.line.ListingLine.TheVariants as listing
use Rattle.report.specs.Lines.{CanBeListed, scalar_of_what}
use Rattle.report.specs.Places.{block_of}
use Rattle.listing.specs.Lists.{block_forms, candidates, depends_line, form_if_any, form_line, forms, judged_if_any, judged_line, judgement_at, judgements, judgements_of, table_lines}
use Rattle.listing.specs.Listings.{AreFittedLines, AreNestsLines, AreProfileLines, IsListing, heading, profile_line, run_of_nest, unfit_line, where_done}
use Rattle.listing.specs.Listings.AreFittedLines.{unfit, fitted}
use Rattle.listing.proofs.PresentLaws.{dependence-listed, refusal-listed}

-- each of some lines can be listed
abbrev Stand : ℕ → List ListingLine → Type 0
Stand scalars lines = (line : ListingLine) → Has lines line → CanBeListed scalars line

stand-none : (scalars : ℕ) → Stand scalars []
stand-none scalars = λ line h. absurd h

stand-one : (scalars : ℕ) (line : ListingLine) → CanBeListed scalars line → Stand scalars (line ∷ [])
stand-one scalars line can = λ other h. ⊎_elim (λ e. subst (CanBeListed scalars) (sym e) can) (λ k. absurd k) h

stand-both : (scalars : ℕ) (xs ys : List ListingLine) → Stand scalars xs → Stand scalars ys → Stand scalars (xs ++ ys)
stand-both scalars xs ys a b = λ line h. ⊎_elim (λ k. a line k) (λ k. b line k) (has-cases xs ys line h)

stand-flat : {X : Type 0} (scalars : ℕ) (f : X → List ListingLine) (xs : List X) → ((x : X) → Has xs x → Stand scalars (f x)) → Stand scalars (flat_map f xs)
stand-flat scalars f xs each = λ line h. let k = flat_map-has f xs line h in each k.0 k.1 line k.2

-- ---- data

-- the scalar that a datum names is one of so many
abbrev IsNamed : ℕ → What → Type 0
IsNamed scalars what = IfSome (scalar_of_what what) (λ number. number < scalars)

in-range : (a n k : ℕ) → Has (range_with_len a n) k → k < a + n
in-range a zero k h = absurd h
in-range a (suc n) k h = ⊎_elim (λ e. omega arith) (λ m. let r = in-range (a + 1) n k m in omega arith) h

named-bounds : (scalars : ℕ) (part : Part) (level : ℕ) (what : What) → Has (bounds_of part level) what → IsNamed scalars what
named-bounds scalars Pre level what h = absurd h
named-bounds scalars Post level what h = absurd h
named-bounds scalars Head level what h = by (nat_le 2 level) h
  where
    by : (w : Bool) → Has (if w then Lower ∷ Trip ∷ [] else []) what → IsNamed scalars what
    by true (inl e) = subst (IsNamed scalars) (sym e) tt
    by true (inr (inl e)) = subst (IsNamed scalars) (sym e) tt
    by true (inr (inr k)) = absurd k
    by false k = absurd k

pub named-data : (scalars : ℕ) (loops : List Loop) (block : BlockRef) (what : What) → Has (data_of scalars loops block) what → IsNamed scalars what
named-data scalars loops block what h = ⊎_elim numbered (named-bounds scalars block.part block.level what) (has-cases (map (λ n. Scalar n) (range_with_len 0 scalars) ++ map (λ n. Address n) (range_with_len 1 (length (accesses_of loops block)))) (bounds_of block.part block.level) what h)
  where
    scalar : Has (map (λ (n : ℕ). Scalar n) (range_with_len 0 scalars)) what → IsNamed scalars what
    scalar k = let m = map-has (λ (n : ℕ). Scalar n) (range_with_len 0 scalars) what k in let r = in-range 0 scalars m.0 m.1 in subst (IsNamed scalars) (sym m.2) (omega arith)

    address : Has (map (λ (n : ℕ). Address n) (range_with_len 1 (length (accesses_of loops block)))) what → IsNamed scalars what
    address k = let m = map-has (λ (n : ℕ). Address n) (range_with_len 1 (length (accesses_of loops block))) what k in subst (IsNamed scalars) (sym m.2) tt

    numbered : Has (map (λ (n : ℕ). Scalar n) (range_with_len 0 scalars) ++ map (λ (n : ℕ). Address n) (range_with_len 1 (length (accesses_of loops block)))) what → IsNamed scalars what
    numbered k = ⊎_elim scalar address (has-cases (map (λ (n : ℕ). Scalar n) (range_with_len 0 scalars)) (map (λ (n : ℕ). Address n) (range_with_len 1 (length (accesses_of loops block)))) what k)

-- ---- the lines of a table

stand-form : (scalars : ℕ) (block : BlockRef) (what : What) (o : Option Tube) → IsNamed scalars what → Stand scalars (form_if_any block what o)
stand-form scalars block what None named = stand-none scalars
stand-form scalars block what (Some tube) named = stand-one scalars (form_line block what tube) named

stand-forms : (scalars : ℕ) (loops : List Loop) (t : Table) → Stand scalars (forms scalars loops t)
stand-forms scalars loops t =
    stand-flat scalars (block_forms scalars loops t) (range_with_len 0 (length (present_blocks loops)))
    (λ rank _. stand-flat scalars (λ what. form_if_any (block_of loops rank) what (tube_in t (block_at t rank) what)) (data_of scalars loops (block_of loops rank))
    (λ what h. stand-form scalars (block_of loops rank) what (tube_in t (block_at t rank) what) (named-data scalars loops (block_of loops rank) what h)))

stand-dependences : (scalars : ℕ) (loops : List Loop) (t : Table) (L : ℤ) → Stand scalars (map (depends_line loops) (dependences t L))
stand-dependences scalars loops t L = λ line h.
    let m = map-has (depends_line loops) (dependences t L) line h in
    subst (CanBeListed scalars) (sym m.2) (dependence-listed t L m.0 m.1).refuses

module _ (scalars : ℕ) (loops : List Loop) (t : Table) (L : ℤ) where
  stand-judged_line : (number : ℕ) (s : Schedule) (j : Judged) → judged t s L ≡ j → CanBeListed scalars (judged_line loops number j)
  stand-judged_line number s Legal e = tt
  stand-judged_line number s (Refused r) e = record { named = tt; refuses = (refusal-listed t s L r e).refuses }

  stand-judged : (number : ℕ) (o : Option Schedule) → Stand scalars (judged_if_any loops t L number o)
  stand-judged number None = stand-none scalars
  stand-judged number (Some s) = stand-one scalars (judged_line loops number (judged t s L)) (stand-judged_line number s (judged t s L) refl)

  stand-judgements : (scripts : List (List Command)) → Stand scalars (judgements_of loops t L scripts)
  stand-judgements scripts =
      stand-flat scalars (judgement_at loops t L scripts) (range_with_len 0 (length scripts)) (λ place _. stand-judged (place + 1) (schedule_of (length loops) (slice_index_or scripts place [])))

stand-table : (scalars : ℕ) (loops : List Loop) (L : ℤ) (scripts : List (List Command)) (t : Table) → Stand scalars (table_lines scalars loops L scripts t)
stand-table scalars loops L scripts t =
    stand-both scalars (forms scalars loops t) (map (depends_line loops) (dependences t L) ++ judgements loops t L scripts) (stand-forms scalars loops t)
    (stand-both scalars (map (depends_line loops) (dependences t L)) (judgements loops t L scripts) (stand-dependences scalars loops t L) (stand-judgements scalars loops t L (candidates (length loops) scripts)))

-- ---- the lines of nests

slice_get-has : {X : Type 0} (xs : List X) (k : ℕ) (x : X) → slice_get xs k ≡ Some x → Has xs x
slice_get-has xs k x e = has-at xs k x (slice_get_within xs k x e) (get_or_from_slice_get xs k x x e)

stand-unfit : (D scalars : ℕ) (loops : List Loop) (observations : List Observation) (u : Unfit D) → IsUnfitAt D scalars loops observations u → CanBeListed scalars (unfit_line loops u)
stand-unfit D scalars loops observations u h = record {
  named = named-data scalars loops h.block u.what (slice_get-has (data_of scalars loops h.block) h.first.place u.what h.first.datum);
  refuses = tt;
}

module _ (options : Options) (scalars : ℕ) (unit : NestUnit) where
  stand-fitted : (D : ℕ) (observations : List Observation) (lines : List ListingLine) → AreFittedLines D options scalars unit observations lines → Stand scalars lines
  stand-fitted D observations lines (unfit u h) = stand-one scalars (unfit_line unit.nest.loops u) (stand-unfit D scalars unit.nest.loops observations u h)
  stand-fitted D observations lines (fitted t h) = stand-table scalars unit.nest.loops options.chunk unit.scripts t

  stand-profile_line : (turns : ℤ) → CanBeListed scalars (profile_line turns)
  stand-profile_line turns = record { named = tt; refuses = tt }

  stand-profile : (profile : FirstProfile) (lines : List ListingLine) → AreProfileLines options scalars unit profile lines → Stand scalars lines
  stand-profile Missing lines e = subst (Stand scalars) (sym e) (stand-one scalars listing.NothingToFit tt)
  stand-profile (Short turns) lines e =
      subst (Stand scalars) (sym e) (stand-both scalars (profile_line turns ∷ []) (listing.NothingToFit ∷ []) (stand-one scalars (profile_line turns) (stand-profile_line turns)) (stand-one scalars listing.NothingToFit tt))
  stand-profile (Whole observations) lines h =
      subst (Stand scalars) (sym h.2) (stand-both scalars (profile_line options.sample ∷ []) h.0 (stand-one scalars (profile_line options.sample) (stand-profile_line options.sample)) (stand-fitted (length unit.nest.loops) observations h.0 h.1))

stand-heading : (scalars : ℕ) (version : Version) (number : ℕ) → Stand scalars (heading version number)
stand-heading scalars One number = stand-none scalars
stand-heading scalars Two number = stand-one scalars (listing.Report (said.Nest number)) (record { named = tt; refuses = tt })

stand-rest : (scalars : ℕ) (e : Finish) (F : Type 0) (rest : List ListingLine) → (F → Stand scalars rest) → where_done e F (rest ≡ []) → Stand scalars rest
stand-rest scalars Done F rest more h = more h
stand-rest scalars (Halted halt) F rest more h = subst (Stand scalars) (sym h) (stand-none scalars)
stand-rest scalars Limited F rest more h = subst (Stand scalars) (sym h) (stand-none scalars)

stand-nests : (options : Options) (version : Version) (scalars : ℕ) (units : List NestUnit) (number : ℕ) (s : Store) (left : ℕ) (lines : List ListingLine) → AreNestsLines options version scalars units number s left lines → Stand scalars lines
stand-nests options version scalars [] number s left lines e = subst (Stand scalars) (sym e) (stand-none scalars)
stand-nests options version scalars (unit ∷ units) number s left lines h =
    let run = run_of_nest unit s left in
    subst (Stand scalars) (sym h.4)
    (stand-both scalars (heading version number) (h.0 ++ h.1) (stand-heading scalars version number)
    (stand-both scalars h.0 h.1 (stand-profile options scalars unit h.2.0 h.0 h.2.2)
    (stand-rest scalars run.ending (AreNestsLines options version scalars units (suc number) run.store run.left h.1) h.1 (λ k. stand-nests options version scalars units (suc number) run.store run.left h.1 k) h.3)))

pub listing-stands : (options : Options) (file : File) (lines : List ListingLine) → IsListing options file lines → All (CanBeListed (length file.scalars)) lines
listing-stands options file lines h = All-from (CanBeListed (length file.scalars)) lines (stand-nests options file.version (length file.scalars) file.units 1 (first_store file) options.steps lines h)
