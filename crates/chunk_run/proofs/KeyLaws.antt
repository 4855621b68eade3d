-- Keys: the key of a schedule against the parts of a cell.
use Rattle.std.proofs.Common.{◌≡◌, refl, sym, ap, ap₂, ◌∙◌, subst, ℕ, ◌+◌, ◌-◌, ℤ, pos, List, [], ◌∷◌, ◌++◌, length, length-append, get_or, arith, Ordering, Less, Equal, Greater, int_cmp}
use Rattle.std.specs.Prelude.{replicate}
use Rattle.std.specs.Ordering.{ordering_then}
use Rattle.std.specs.Cmp.Lexicographic.{slice_cmp}
use Rattle.std.proofs.lemmas.Cmp.{tied_itself, lists_total, int_cmp_total}
use Rattle.std.proofs.lemmas.List.{length-map}
use Rattle.plain_lemmas.proofs.OrderLaws.{slice_cmp-append-same, slice_cmp-exact}
use Rattle.transform.specs.Schedules.{Schedule, leading, band, lead, tile, wave, phase, place, wide_lead, wide_tile, along, tile_along}
use Rattle.dependence.specs.Laws.{schedule_key}

then-assoc : (a b c : Ordering) → ordering_then a (ordering_then b c) ≡ ordering_then (ordering_then a b) c
then-assoc Less b c = refl
then-assoc Equal b c = refl
then-assoc Greater b c = refl

then-equal : (a : Ordering) → ordering_then a Equal ≡ a
then-equal Less = refl
then-equal Equal = refl
then-equal Greater = refl

-- beginnings of one length are compared first
pub cmp-append : (us vs xs ys : List ℤ) → length us ≡ length vs → slice_cmp int_cmp (us ++ xs) (vs ++ ys) ≡ ordering_then (slice_cmp int_cmp us vs) (slice_cmp int_cmp xs ys)
cmp-append [] [] xs ys e = refl
cmp-append [] (v ∷ vs) xs ys e = absurd (omega arith)
cmp-append (u ∷ us) [] xs ys e = absurd (omega arith)
cmp-append (u ∷ us) (v ∷ vs) xs ys e = ap (ordering_then (int_cmp u v)) (cmp-append us vs xs ys (omega arith)) ∙ then-assoc (int_cmp u v) (slice_cmp int_cmp us vs) (slice_cmp int_cmp xs ys)

pub same-itself : (xs ys : List ℤ) → xs ≡ ys → slice_cmp int_cmp xs ys ≡ Equal
same-itself xs ys e = subst (λ (zs : List ℤ). slice_cmp int_cmp xs zs ≡ Equal) e (tied_itself (lists_total int_cmp_total) xs)

long-append : (us vs xs ys : List ℤ) → length us ≡ length vs → length xs ≡ length ys → length (us ++ xs) ≡ length (vs ++ ys)
long-append us vs xs ys e f = length-append us xs ∙ ap₂ (λ (m n : ℕ). m + n) e f ∙ sym (length-append vs ys)

module _ (s : Schedule) (p q : List ℤ) where
  abbrev zeros : List ℤ
  zeros = replicate (length s.lines - s.seq) (pos 0)

  leads-long : length (lead s p) ≡ length (lead s q)
  leads-long = length-map (leading s) (along p) ∙ sym (length-map (leading s) (along q))

  tiles-long : length (tile s p) ≡ length (tile s q)
  tiles-long = length-map (band s) (tile_along p) ∙ sym (length-map (band s) (tile_along q))

  pub cmp-wide_lead : slice_cmp int_cmp (wide_lead s p) (wide_lead s q) ≡ slice_cmp int_cmp (lead s p) (lead s q)
  cmp-wide_lead =
      cmp-append (lead s p) (lead s q) zeros zeros leads-long
      ∙ ap (ordering_then (slice_cmp int_cmp (lead s p) (lead s q))) (same-itself zeros zeros refl)
      ∙ then-equal (slice_cmp int_cmp (lead s p) (lead s q))

  cmp-wide_tile : slice_cmp int_cmp (wide_tile s p) (wide_tile s q) ≡ slice_cmp int_cmp (tile s p) (tile s q)
  cmp-wide_tile = slice_cmp-append-same (replicate s.seq (pos 0)) (tile s p) (tile s q)

  pub cmp-phase : slice_cmp int_cmp (phase s p) (phase s q) ≡ ordering_then (slice_cmp int_cmp (wide_lead s p) (wide_lead s q)) (int_cmp (wave s p) (wave s q))
  cmp-phase =
      cmp-append (lead s p) (lead s q) (wave s p ∷ []) (wave s q ∷ []) leads-long
      ∙ ap₂ ordering_then (sym cmp-wide_lead) (then-equal (int_cmp (wave s p) (wave s q)))

  phases-long : length (phase s p) ≡ length (phase s q)
  phases-long = long-append (lead s p) (lead s q) (wave s p ∷ []) (wave s q ∷ []) leads-long refl

  pub wide-leads-long : length (wide_lead s p) ≡ length (wide_lead s q)
  wide-leads-long = long-append (lead s p) (lead s q) zeros zeros leads-long refl

  -- what a cell has of the key is compared as the phase key is
  pub cmp-cells : slice_cmp int_cmp (wide_lead s p ++ wave s p ∷ []) (wide_lead s q ++ wave s q ∷ []) ≡ slice_cmp int_cmp (phase s p) (phase s q)
  cmp-cells =
      cmp-append (wide_lead s p) (wide_lead s q) (wave s p ∷ []) (wave s q ∷ []) wide-leads-long
      ∙ ap (ordering_then (slice_cmp int_cmp (wide_lead s p) (wide_lead s q))) (then-equal (int_cmp (wave s p) (wave s q)))
      ∙ sym cmp-phase

  -- the key is compared by what a cell has, and then by the place and the rank
  pub cmp-key : (m n : ℤ) → slice_cmp int_cmp (schedule_key s p m) (schedule_key s q n)
      ≡ ordering_then (ordering_then (slice_cmp int_cmp (wide_lead s p) (wide_lead s q)) (int_cmp (wave s p) (wave s q)))
      (ordering_then (slice_cmp int_cmp (wide_tile s p) (wide_tile s q)) (slice_cmp int_cmp (place s p ++ m ∷ []) (place s q ++ n ∷ [])))
  cmp-key m n =
      cmp-append (phase s p) (phase s q) (tile s p ++ (place s p ++ m ∷ [])) (tile s q ++ (place s q ++ n ∷ [])) phases-long
      ∙ ap₂ ordering_then cmp-phase
      (cmp-append (tile s p) (tile s q) (place s p ++ m ∷ []) (place s q ++ n ∷ []) tiles-long
      ∙ ap (λ (r : Ordering). ordering_then r (slice_cmp int_cmp (place s p ++ m ∷ []) (place s q ++ n ∷ []))) (sym cmp-wide_tile))

  -- two points have one phase where their cells have one lead and one wave
  pub phase-same : wide_lead s p ≡ wide_lead s q → wave s p ≡ wave s q → phase s p ≡ phase s q
  phase-same e f = slice_cmp-exact (phase s p) (phase s q) (cmp-phase ∙ ap₂ ordering_then (same-itself (wide_lead s p) (wide_lead s q) e) (same-number (wave s p) (wave s q) f))
    where
      same-number : (m n : ℤ) → m ≡ n → int_cmp m n ≡ Equal
      same-number m n e = subst (λ (z : ℤ). int_cmp m z ≡ Equal) e (tied_itself int_cmp_total m)

  -- and only there
  pub same-phase : phase s p ≡ phase s q → (wide_lead s p ≡ wide_lead s q) × (wave s p ≡ wave s q)
  same-phase e = by (slice_cmp int_cmp (wide_lead s p) (wide_lead s q)) refl (sym cmp-phase ∙ same-itself (phase s p) (phase s q) e)
    where
      by : (r : Ordering) → slice_cmp int_cmp (wide_lead s p) (wide_lead s q) ≡ r → ordering_then r (int_cmp (wave s p) (wave s q)) ≡ Equal → (wide_lead s p ≡ wide_lead s q) × (wave s p ≡ wave s q)
      by Less f g = absurd (cc)
      by Greater f g = absurd (cc)
      by Equal f g = (slice_cmp-exact (wide_lead s p) (wide_lead s q) f, ap (λ (zs : List ℤ). get_or zs 0 (pos 0)) (slice_cmp-exact (wave s p ∷ []) (wave s q ∷ []) (then-equal (int_cmp (wave s p) (wave s q)) ∙ g)))
