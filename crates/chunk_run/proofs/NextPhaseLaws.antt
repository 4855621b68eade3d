-- Passing: from phase to phase.
use Rattle.std.proofs.Common.{◌≡◌, sym, ap, ◌∙◌, subst, ℕ, suc, ◌<◌, ◌≤◌, ◌+◌, ℤ, List, [], ◌∷◌, ◌++◌, append-nil, length, take, drop, Option, Some, None}
use Rattle.std.proofs.lemmas.Grind.{flat_map-append}
use Rattle.std.proofs.lemmas.List.{take_all, take_more}
use Rattle.nest_lang.specs.declared.tree.Loop.{Loop}
use Rattle.nest_lang.specs.declared.state.Outer.{Outer}
use Rattle.core_steps.specs.Plans.{no_plan}
use Rattle.orders.specs.Tiles.{flat}
use Rattle.domain.specs.Instances.{Instance}
use Rattle.skeletons.specs.Cells.{Cell, Extent}
use Rattle.follow_chunk.proofs.ListingLaws.{split-at}
use Rattle.tiles.specs.Plans.{Phase, cells_of}
use Rattle.chunk_run.specs.Parts.{FollowsWithin, FailsWithin, IsPartOf, phase_at}
use Rattle.chunk_run.proofs.ChunkPartLaws.{within-none, within-append, fails-first, fails-second}
use Rattle.chunk_run.proofs.CellListLaws.{lists-none, lists-split, flat-++}

pub no-phase : (e : Extent) (loops : List Loop) (o : Outer) (m : List ℤ) (left : ℕ) → IsPartOf e loops o [] m left (Some left) m
no-phase e loops o m left lists are = subst (λ (ls : List (List Instance)). FollowsWithin e.table loops o (flat ls) m left m left) (sym (lists-none e lists are)) (within-none e.table loops o m left)

cells-append : (us vs : List Phase) → cells_of (us ++ vs) ≡ cells_of us ++ cells_of vs
cells-append us vs = flat_map-append (λ (phase : Phase). phase.cells) us vs

module _ (e : Extent) (loops : List Loop) (o : Outer) (phases : List Phase) (k : ℕ) (inside : k < length phases) (m w : List ℤ) (left mid : ℕ)
    (part : IsPartOf e loops o (cells_of (take k phases)) m left (Some mid) w) where
  abbrev phase : Phase
  phase = phase_at phases k

  pub next-phase : (v : List ℤ) (rest : ℕ) → IsPartOf e loops o phase.cells w mid (Some rest) v → IsPartOf e loops o (cells_of (take (k + 1) phases)) m left (Some rest) v
  next-phase v rest f = subst (λ (cells : List Cell). IsPartOf e loops o cells m left (Some rest) v) (sym cells) both
    where
      cells : cells_of (take (k + 1) phases) ≡ cells_of (take k phases) ++ phase.cells
      cells =
          ap cells_of (take_more phases k (record { cells = []; plan = no_plan }) inside)
          ∙ cells-append (take k phases) (phase ∷ []) ∙ ap (λ (cs : List Cell). cells_of (take k phases) ++ cs) (append-nil phase.cells)

      both : IsPartOf e loops o (cells_of (take k phases) ++ phase.cells) m left (Some rest) v
      both lists are =
          let (us, vs, split, first, second) = lists-split e (cells_of (take k phases)) phase.cells lists are in
          subst (λ (xs : List Instance). FollowsWithin e.table loops o xs m left v rest) (sym (ap flat split ∙ flat-++ us vs))
          (within-append e.table loops o (flat us) (flat vs) m w v left mid rest (part us first) (f vs second))

  abbrev behind : List Phase
  behind = drop (suc k) phases

  pub last-phase : (v : List ℤ) → IsPartOf e loops o phase.cells w mid None v → IsPartOf e loops o (cells_of phases) m left None v
  last-phase v f = subst (λ (cells : List Cell). IsPartOf e loops o cells m left None v) (sym cells) all
    where
      cells : cells_of phases ≡ cells_of (take k phases) ++ (phase.cells ++ cells_of behind)
      cells = ap cells_of (split-at phases k (record { cells = []; plan = no_plan }) inside) ∙ cells-append (take k phases) (phase ∷ behind)

      all : IsPartOf e loops o (cells_of (take k phases) ++ (phase.cells ++ cells_of behind)) m left None v
      all lists are =
          let (us, vs, split, first, second) = lists-split e (cells_of (take k phases)) (phase.cells ++ cells_of behind) lists are in
          let (ws, zs, again, third, fourth) = lists-split e phase.cells (cells_of behind) vs second in
          subst (λ (xs : List Instance). FailsWithin e.table loops o xs m left) (sym (ap flat split ∙ flat-++ us vs))
          (fails-second e.table loops o (flat us) (flat vs) m w left mid (part us first)
          (subst (λ (xs : List Instance). FailsWithin e.table loops o xs w mid) (sym (ap flat again ∙ flat-++ ws zs)) (fails-first e.table loops o (flat ws) (flat zs) w mid (f ws third))))

pub all-phases : (e : Extent) (loops : List Loop) (o : Outer) (phases : List Phase) (k : ℕ) (m w : List ℤ) (left : ℕ) (result : Option ℕ) → length phases ≤ k
    → IsPartOf e loops o (cells_of (take k phases)) m left result w → IsPartOf e loops o (cells_of phases) m left result w
all-phases e loops o phases k m w left result all part = subst (λ (ps : List Phase). IsPartOf e loops o (cells_of ps) m left result w) (take_all k phases all) part
