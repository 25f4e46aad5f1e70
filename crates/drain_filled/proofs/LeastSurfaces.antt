-- Least surfaces: there is one at the data cells of a grid, and grids with one set of cells have the same.
--
-- Grids with the same elevations and sinks at their cells have the same open cells, since a step stays in the grid. So they
-- have the same paths, and what covers the ground and drains in the one does so in the other.
use Rattle.drain_filled.proofs.Names.{◌≡◌, ◌≢◌, ◌≤ℤ◌, ◌<ℤ◌, ◌∙◌, ℤ, Bool, Option, Some, None, IsSome, List, [], ◌∷◌, option_map, unwrap_or, pos, refl, sym, ap, subst, arith, AllByRecursion, ints, Cell, BelowGround, Direction, IsCellOf, step, Extent, Grid, HasData, IsOpenCell, height_at, IsOpenAmong, IsPath, Surface, NeverRises, Drains, CoversGround, HasData-path, con_below, con_below_crest, levels, step_lies, IsOpenAmong-alike, AreOneSurface, HasCellsOf}
use Rattle.drain_filled.specs.Laws.{AreBetween, OneLeastSurface, RulesKeepConBetween, RulesKeepConLow, SameCellsSameSurface, SameNumbersSameCell, UnfilledIsTooLow}

-- two numbers, each at most the other
both_ways : (a b : ℤ) → a ≤ℤ b → b ≤ℤ a → a ≡ b
both_ways a b up down = omega (arith, ints, up, down)

below : (a b : ℤ) → a ≤ℤ b → a ≢ b → a <ℤ b
below a b most differ = omega (arith, ints, most, differ)

pub one_least_surface : OneLeastSurface
one_least_surface g s t least other c here =
    both_ways (s c) (t c) (least.least t other.covers other.drains c here) (other.least s least.covers least.drains c here)

pub rules_keep_con_low : RulesKeepConLow
rules_keep_con_low g ps t rules least c here =
    let way = least.drains c here in
    con_below g ps (levels g ps rules) t least.covers c way.0 way.1 way.2

pub unfilled_is_too_low : UnfilledIsTooLow
unfilled_is_too_low g ps t rules least c first =
    below (ps.con c) (t c) (rules_keep_con_low g ps t rules least c first.here) (first.differs t least)

pub same_numbers_same_cell : SameNumbersSameCell
same_numbers_same_cell g s t one c first = record {
  here = first.here;
  filled = first.filled;
  differs = λ u least equal. first.differs u least (sym (one c first.here) ∙ equal);
  before = λ u least b at earlier. one b at ∙ first.before u least b at earlier;
}

-- a bound of the ground bounds it along a path
bounded : (g : Grid) (low high : ℤ) → AreBetween g low high (height_at g) → (c : Cell) (rest : List Cell) → IsPath g c rest →
    AllByRecursion (λ x. height_at g x ≤ℤ high) (c ∷ rest)
bounded g low high ground c [] path = ((ground c (HasData-path g c [] path)).1, tt)
bounded g low high ground c (n ∷ rest) path = ((ground c path.0).1, bounded g low high ground n rest path.2)

over : (low z con : ℤ) → low ≤ℤ z → z ≤ℤ con → low ≤ℤ con
over low z con ground covered = omega (arith, ints, ground, covered)

pub rules_keep_con_between : RulesKeepConBetween
rules_keep_con_between g ps t low high rules drains ground c here =
    let way = drains c here in
    let covered : height_at g c ≤ℤ ps.con c = rules c BelowGround here.inside (omega arith, omega arith) here.is_data in (
      over low (height_at g c) (ps.con c) (ground c here).0 covered,
      con_below_crest g ps (levels g ps rules) high c way.0 way.1 (bounded g low high ground c way.0 way.1),
    )

-- along a path two surfaces with the same numbers at data cells rise at the same steps
never_rises : (g : Grid) (s t : Surface) → AreOneSurface g s t → (c : Cell) (rest : List Cell) → IsPath g c rest →
    NeverRises t c rest → NeverRises s c rest
never_rises g s t same c [] path never = tt
never_rises g s t same c (n ∷ rest) path never =
    let here = same c path.0 in
    let there = same n (HasData-path g n rest path.2) in
    (carried (s n) (s c) (t n) (t c) there here never.0, never_rises g s t same n rest path.2 never.1)
  where
    carried : (sn sc tn tc : ℤ) → sn ≡ tn → sc ≡ tc → tn ≤ℤ tc → sn ≤ℤ sc
    carried sn sc tn tc there here down = omega (arith, ints, there, here, down)

-- two functions that are equal at the cell of a step make the same of it
map_same : (f k : Cell → Option ℤ) (o : Option Cell) → ((n : Cell) → o ≡ Some n → f n ≡ k n) → option_map f o ≡ option_map k o
map_same f k None same = refl
map_same f k (Some n) same = ap (λ x. Some x) (same n refl)

pub turned : (g h : Grid) → HasCellsOf g h → HasCellsOf h g
turned g h same = record {
  extent = sym same.extent;
  elevation = λ c inside. sym (same.elevation c (subst (λ (e : Extent). IsCellOf e c) (sym same.extent) inside));
  sink = λ c inside. sym (same.sink c (subst (λ (e : Extent). IsCellOf e c) (sym same.extent) inside));
}

module _ (g h : Grid) (same : HasCellsOf g h) where
  pub data_there : (c : Cell) → HasData g c → HasData h c
  data_there c here = record {
    inside = subst (λ (e : Extent). IsCellOf e c) same.extent here.inside;
    is_data = subst IsSome (same.elevation c here.inside) here.is_data;
  }

  beside_same : (c : Cell) (d : Direction) → option_map g.elevation (step g.extent c d) ≡ option_map h.elevation (step h.extent c d)
  beside_same c d =
      map_same g.elevation h.elevation (step g.extent c d) (λ n is. same.elevation n (step_lies g.extent c n d is).0)
      ∙ ap (λ (e : Extent). option_map h.elevation (step e c d)) same.extent

  pub open_there : (c : Cell) → IsOpenCell g c → IsOpenCell h c
  open_there c is_open = (
    subst (λ (e : Extent). IsCellOf e c) same.extent is_open.0,
    subst (λ (z : Option ℤ). IsOpenAmong z (h.sink c) (λ d. option_map h.elevation (step h.extent c d))) (same.elevation c is_open.0)
        (subst (λ (b : Bool). IsOpenAmong (g.elevation c) b (λ d. option_map h.elevation (step h.extent c d))) (same.sink c is_open.0)
        (IsOpenAmong-alike (g.elevation c) (g.sink c) _ _ (beside_same c) is_open.1)),
  )

  path_there : (c : Cell) (rest : List Cell) → IsPath g c rest → IsPath h c rest
  path_there c [] path = open_there c path
  path_there c (n ∷ rest) path = (data_there c path.0, path.1, path_there n rest path.2)

  pub height_there : (c : Cell) → HasData g c → height_at g c ≡ height_at h c
  height_there c here = ap (λ (z : Option ℤ). unwrap_or z (pos 0)) (same.elevation c here.inside)

-- a surface that covers the ground and drains in h does so in g, and so does each with its numbers
module _ (g h : Grid) (same : HasCellsOf g h) (s t : Surface) (one : AreOneSurface g s t) where
  pub covers_back : CoversGround h t → CoversGround g s
  covers_back covers c here =
      let ground = height_there g h same c here in
      let at = one c here in
      let most = covers c (data_there g h same c here) in
      carried (height_at g c) (height_at h c) (s c) (t c) ground at most
    where
      carried : (ground there mine other : ℤ) → ground ≡ there → mine ≡ other → there ≤ℤ other → ground ≤ℤ mine
      carried ground there mine other e f most = omega (arith, ints, e, f, most)

  pub drains_back : Drains h t → Drains g s
  drains_back drains c here =
      let way = drains c (data_there g h same c here) in
      let path = path_there h g (turned g h same) c way.0 way.1 in
      (way.0, path, never_rises g s t one c way.0 path way.2)

pub same_cells_same_surface : SameCellsSameSurface
same_cells_same_surface g h s t same one least = record {
  covers = covers_back g h same s t one least.covers;
  drains = drains_back g h same s t one least.drains;
  least = λ u covers drains c here.
      (let there = data_there g h same c here in
      let back = turned g h same in
      let most = least.least u (covers_back h g back u u (λ x at. refl) covers) (drains_back h g back u u (λ x at. refl) drains) c there in
      let at = one c here in
      subst (λ z. z ≤ℤ u c) (sym at) most);
}
