-- The walks of several blocks side by side.
use Rattle.std.proofs.Common.{◌≡◌, ◌<◌, ◌≤◌, ◌+◌, ℕ, zero, suc, ℤ, pos, false, List, [], ◌∷◌, ◌++◌, map, length, take, drop, get_or, refl, sym, ap, ap₂, ◌∙◌, subst, arith}
use Rattle.std.specs.Prelude.{Option, None, MatchOption}
use Rattle.std.specs.List.{AllByRecursion}
use Rattle.std.proofs.Math.ListN.{set}
use Rattle.std.proofs.lemmas.List.{drop_more, length-set, take_all, take_more, take_more_set, length-take-le}
use Rattle.affine.specs.declared.row.Row.{Row}
use Rattle.orders.specs.Orders.{Ordered}
use Rattle.level_walk.specs.Orders.{Precedes}
use Rattle.level_walk.specs.Lattices.{FitsCell, in_cell}
use Rattle.level_walk.specs.Merges.{AllOrdered, first, pick, stepped}
use Rattle.level_walk.specs.declared.merges.Best.{Best}
use Rattle.level_walk.proofs.PointLaws.{points-ordered}
use Rattle.level_walk.specs.Walks.{AllStand, IsBlock, IsBox, IsScanning, StandsIn, all_left, all_points, left_in, points_in, space_of}
use Rattle.level_walk.specs.declared.scans.Scanning.{Scanning}
use Rattle.level_walk.specs.declared.scans.BlockScan.{BlockScan}
use Rattle.level_walk.specs.declared.scans.BlockScan.TheVariants.{Scanned, Listed}
use Rattle.level_walk.specs.Listings.{listed_in}
use Rattle.level_walk.proofs.ListLaws.{differ-from, differ-in, head-listed}
use Rattle.level_walk.proofs.StateLaws.{head-scanned}
use Rattle.level_walk.proofs.LeastOfListLaws.{left-ordered}
use Rattle.level_walk.specs.States.{head_of}
use Rattle.level_walk.specs.declared.states.State.{State}

pub fits-box : (n : ℕ) (block : Scanning) (lows highs : List ℤ) → IsScanning n block → IsBox n lows highs → FitsCell block.scan block.rows.items lows highs
fits-box n block lows highs is box =
    let levels = is.levels in
    let some = is.some in
    let few = is.few in
    record {
      few = omega (arith, levels, few);
      some = omega (arith, levels, some);
      over = is.over;
      is = is.is;
      closed = is.closed;
      long_lows = box.long_lows ∙ sym levels;
      long_highs = box.long_highs ∙ sym levels;
      lows_within = box.within_lows;
      highs_within = box.within_highs;
    }

-- what an array gives past its end
abbrev pub blank : State
blank = record { at = []; last = []; depth = 0; done = false; front = []; width = 0; low = pos 0; high = pos 0; begun = false }

pub rows-space : (lows highs : List ℤ) (b : Scanning) (rows : List Row) → rows ≡ b.rows.items → in_cell (length b.scan.levels) rows lows highs ≡ space_of lows highs b
rows-space lows highs b rows e = ap (λ (r : List Row). in_cell (length b.scan.levels) r lows highs) e

pub rows-fit : (n : ℕ) (block : Scanning) (rows : List Row) (lows highs : List ℤ) → rows ≡ block.rows.items → IsScanning n block → IsBox n lows highs → FitsCell block.scan rows lows highs
rows-fit n block rows lows highs e is box = subst (λ (r : List Row). FitsCell block.scan r lows highs) (sym e) (fits-box n block lows highs is box)

pub few-levels : (n : ℕ) (block : Scanning) → IsScanning n block → length block.scan.levels ≤ 6
few-levels n block is = let levels = is.levels in let few = is.few in omega (arith, levels, few)

pub width-in : (lows highs : List ℤ) (b : BlockScan) (s : State) → StandsIn lows highs b s → s.width ≤ 6
width-in lows highs (Scanned b) s stands = stands.width
width-in lows highs (Listed b) s stands = stands

pub head-in : (lows highs : List ℤ) (b : BlockScan) (s : State) → StandsIn lows highs b s → MatchOption (head_of s) (left_in lows highs b s ≡ []) (λ point. left_in lows highs b s ≡ point.items ∷ drop 1 (left_in lows highs b s))
head-in lows highs (Scanned b) s stands = head-scanned (space_of lows highs b) s stands
head-in lows highs (Listed b) s stands = head-listed (head_of s) (listed_in lows highs b.points.items)

pub ordered-in : (n : ℕ) (lows highs : List ℤ) (b : BlockScan) → IsBlock n b → Ordered Precedes (points_in lows highs b)
ordered-in n lows highs (Scanned b) is = points-ordered (space_of lows highs b) (length b.scan.levels) []
ordered-in n lows highs (Listed b) is = left-ordered None (listed_in lows highs b.points.items) (differ-in lows highs b.points.items (differ-from (map (λ p. p.items) b.points.items) is.ordered))

module _ (lows highs : List ℤ) where
  abbrev both : List BlockScan → List State → List (List (List ℤ))
  both blocks states = all_left lows highs blocks states

  pub left-at : (bs : List BlockScan) (ss : List State) (i : ℕ) (b : BlockScan) (x d : State) → i < length bs → i < length ss → b ≡ get_or bs i b → x ≡ get_or ss i d → get_or (both bs ss) i [] ≡ left_in lows highs b x
  left-at [] ss i b x d inside room e f = absurd (omega arith)
  left-at (c ∷ bs) [] i b x d inside room e f = absurd (omega arith)
  left-at (c ∷ bs) (y ∷ ss) zero b x d inside room e f = ap₂ (λ (k : BlockScan) (s : State). left_in lows highs k s) (sym e) (sym f)
  left-at (c ∷ bs) (y ∷ ss) (suc i) b x d inside room e f = left-at bs ss i b x d (omega arith) (omega arith) e f

  pub left-length : (bs : List BlockScan) (ss : List State) → length bs ≤ length ss → length (both bs ss) ≡ length bs
  left-length [] ss h = refl
  left-length (c ∷ bs) [] h = absurd (omega arith)
  left-length (c ∷ bs) (y ∷ ss) h = ap suc (left-length bs ss (omega arith))

  pub stands-at : (bs : List BlockScan) (ss : List State) (i : ℕ) (b : BlockScan) (x d : State) → AllStand lows highs bs ss → i < length bs → i < length ss → b ≡ get_or bs i b → x ≡ get_or ss i d → StandsIn lows highs b x
  stands-at [] ss i b x d all inside room e f = absurd (omega arith)
  stands-at (c ∷ bs) [] i b x d all inside room e f = absurd (omega arith)
  stands-at (c ∷ bs) (y ∷ ss) zero b x d all inside room e f = subst (λ (k : BlockScan). StandsIn lows highs k x) (sym e) (subst (StandsIn lows highs c) (sym f) all.0)
  stands-at (c ∷ bs) (y ∷ ss) (suc i) b x d all inside room e f = stands-at bs ss i b x d all.1 (omega arith) (omega arith) e f

  pub stands-set : (bs : List BlockScan) (ss : List State) (i : ℕ) (b : BlockScan) (new : State) → AllStand lows highs bs ss → i < length bs → b ≡ get_or bs i b → StandsIn lows highs b new → AllStand lows highs bs (set ss i new)
  stands-set [] ss i b new all inside e stands = tt
  stands-set (c ∷ bs) [] i b new all inside e stands = tt
  stands-set (c ∷ bs) (y ∷ ss) zero b new all inside e stands = (subst (λ (k : BlockScan). StandsIn lows highs k new) e stands, all.1)
  stands-set (c ∷ bs) (y ∷ ss) (suc i) b new all inside e stands = (all.0, stands-set bs ss i b new all.1 (omega arith) e stands)

  pub left-set : (bs : List BlockScan) (ss : List State) (i : ℕ) (b : BlockScan) (x d new : State) → i < length bs → i < length ss → b ≡ get_or bs i b → x ≡ get_or ss i d
      → left_in lows highs b new ≡ drop 1 (left_in lows highs b x) → both bs (set ss i new) ≡ stepped i (both bs ss)
  left-set [] ss i b x d new inside room e f left = absurd (omega arith)
  left-set (c ∷ bs) [] i b x d new inside room e f left = absurd (omega arith)
  left-set (c ∷ bs) (y ∷ ss) zero b x d new inside room e f left =
      ap (λ l. l ∷ both bs ss)
      (ap (λ (k : BlockScan). left_in lows highs k new) (sym e) ∙ left ∙ ap₂ (λ (k : BlockScan) (s : State). drop 1 (left_in lows highs k s)) e f)
  left-set (c ∷ bs) (y ∷ ss) (suc i) b x d new inside room e f left = ap (λ l. left_in lows highs c y ∷ l) (left-set bs ss i b x d new (omega arith) (omega arith) e f left)

  -- the search for the least
  pub least-more : (bs : List BlockScan) (ss : List State) (i : ℕ) (b : BlockScan) (x d : State) (best new whole : Option Best) → length bs ≤ length ss → i < length bs → b ≡ get_or bs i b → x ≡ get_or ss i d
      → new ≡ pick best i (left_in lows highs b x) → first best i (drop i (both bs ss)) ≡ whole → first new (i + 1) (drop (i + 1) (both bs ss)) ≡ whole
  unfolding first
  least-more bs ss i b x d best new whole room inside e f picked old =
      let long = left-length bs ss room in
      let here = left-at bs ss i b x d inside (omega arith) e f in
      let more : drop i (both bs ss) ≡ get_or (both bs ss) i [] ∷ drop (i + 1) (both bs ss) = drop_more (both bs ss) i [] (omega (arith, long)) in
      let next : i + 1 ≡ suc i = omega arith in
      ap₂ (λ (o : Option Best) (k : ℕ). first o k (drop (i + 1) (both bs ss))) (picked ∙ ap (pick best i) (sym here)) next
      ∙ sym (ap (first best i) more) ∙ old

  pub least-end : (bs : List BlockScan) (ss : List State) (i : ℕ) (best whole : Option Best) → length bs ≤ length ss → length bs ≤ i → first best i (drop i (both bs ss)) ≡ whole → best ≡ whole
  unfolding first
  least-end bs ss i best whole room past old = sym (ap (first best i) (nothing (both bs ss) i (let long = left-length bs ss room in omega (arith, long)))) ∙ old
    where
      nothing : (ys : List (List (List ℤ))) (k : ℕ) → length ys ≤ k → drop k ys ≡ []
      nothing [] zero h = refl
      nothing [] (suc k) h = refl
      nothing (y ∷ ys) zero h = absurd (omega arith)
      nothing (y ∷ ys) (suc k) h = nothing ys k (omega arith)

  -- the start
  pub left-joined : (bs : List BlockScan) (ss : List State) (b : BlockScan) (x : State) → length bs ≡ length ss → both (bs ++ b ∷ []) (ss ++ x ∷ []) ≡ both bs ss ++ left_in lows highs b x ∷ []
  left-joined [] [] b x h = refl
  left-joined [] (y ∷ ss) b x h = absurd (omega arith)
  left-joined (c ∷ bs) [] b x h = absurd (omega arith)
  left-joined (c ∷ bs) (y ∷ ss) b x h = ap (λ l. left_in lows highs c y ∷ l) (left-joined bs ss b x (omega arith))

  pub stands-joined : (bs : List BlockScan) (ss : List State) (b : BlockScan) (x : State) → length bs ≡ length ss → AllStand lows highs bs ss → StandsIn lows highs b x → AllStand lows highs (bs ++ b ∷ []) (ss ++ x ∷ [])
  stands-joined [] [] b x h all stands = (stands, tt)
  stands-joined [] (y ∷ ss) b x h all stands = absurd (omega arith)
  stands-joined (c ∷ bs) [] b x h all stands = absurd (omega arith)
  stands-joined (c ∷ bs) (y ∷ ss) b x h all stands = (all.0, stands-joined bs ss b x (omega arith) all.1 stands)

  pub points-joined : (bs : List BlockScan) (b : BlockScan) → all_points lows highs (bs ++ b ∷ []) ≡ all_points lows highs bs ++ points_in lows highs b ∷ []
  points-joined [] b = refl
  points-joined (c ∷ bs) b = ap (λ l. points_in lows highs c ∷ l) (points-joined bs b)

  pub record IsStarted (i : ℕ) (bs : List BlockScan) (ss : List State) : Type 0 where
    pub room : length ss ≡ 18
    pub stand : AllStand lows highs (take i bs) (take i ss)
    pub left : both (take i bs) (take i ss) ≡ all_points lows highs (take i bs)

  pub started-more : (bs : List BlockScan) (ss : List State) (i : ℕ) (b : BlockScan) (x : State) → length bs ≤ 18 → i < length bs → b ≡ get_or bs i b → IsStarted i bs ss → StandsIn lows highs b x
      → left_in lows highs b x ≡ points_in lows highs b → IsStarted (i + 1) bs (set ss i x)
  started-more bs ss i b x few inside e old stands left =
      let room = old.room in
      let below : i < length ss = omega (arith, room) in
      let blocks : take (i + 1) bs ≡ take i bs ++ b ∷ [] = take_more bs i b inside ∙ ap (λ (k : BlockScan). take i bs ++ k ∷ []) (sym e) in
      let states : take (i + 1) (set ss i x) ≡ take i ss ++ x ∷ [] = take_more_set ss i x below in
      let long : length (take i bs) ≡ length (take i ss) = length-take-le i bs (omega arith) ∙ sym (length-take-le i ss (omega arith)) in
      record {
        room = length-set ss i x ∙ room;
        stand = subst (λ (l : List BlockScan). AllStand lows highs l (take (i + 1) (set ss i x))) (sym blocks) (subst (AllStand lows highs (take i bs ++ b ∷ [])) (sym states) (stands-joined (take i bs) (take i ss) b x long old.stand stands));
        left = ap₂ both blocks states ∙ left-joined (take i bs) (take i ss) b x long ∙ ap₂ (λ l p. l ++ p ∷ []) old.left left ∙ sym (points-joined (take i bs) b) ∙ ap (all_points lows highs) (sym blocks);
      }

  pub left-cut : (bs : List BlockScan) (ss : List State) → both bs (take (length bs) ss) ≡ both bs ss
  left-cut [] ss = refl
  left-cut (c ∷ bs) [] = refl
  left-cut (c ∷ bs) (y ∷ ss) = ap (λ l. left_in lows highs c y ∷ l) (left-cut bs ss)

  pub stands-cut : (bs : List BlockScan) (ss : List State) → AllStand lows highs bs (take (length bs) ss) → AllStand lows highs bs ss
  stands-cut [] ss all = tt
  stands-cut (c ∷ bs) [] all = tt
  stands-cut (c ∷ bs) (y ∷ ss) all = (all.0, stands-cut bs ss all.1)

  pub points-all-ordered : (n : ℕ) (bs : List BlockScan) → AllByRecursion (IsBlock n) bs → AllOrdered (all_points lows highs bs)
  points-all-ordered n [] all = tt
  points-all-ordered n (b ∷ bs) all = (ordered-in n lows highs b all.0, points-all-ordered n bs all.1)

  pub started-end : (bs : List BlockScan) (ss : List State) (i : ℕ) → i ≡ length bs → IsStarted i bs ss → AllStand lows highs bs ss × (both bs ss ≡ all_points lows highs bs)
  started-end bs ss i e old =
      let whole : take (length bs) bs ≡ bs = take_all (length bs) bs (omega arith) in
      let here : IsStarted (length bs) bs ss = subst (λ (k : ℕ). IsStarted k bs ss) e old in (
        stands-cut bs ss (subst (λ (l : List BlockScan). AllStand lows highs l (take (length bs) ss)) whole here.stand),
        sym (left-cut bs ss) ∙ ap (λ (l : List BlockScan). both l (take (length bs) ss)) (sym whole) ∙ here.left ∙ ap (all_points lows highs) whole,
      )
