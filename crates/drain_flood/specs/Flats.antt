-- Ways along flats: the way of a closed cell without a lower neighbour leads to a neighbour of equal height and smaller
-- rank.
--
-- The low edges of a flat are settled first: outlets, and cells with a lower neighbour. From there a walk goes inwards,
-- neighbour by neighbour. It reaches every cell of a filled surface, since from each a path leads out that never rises.
-- Source: ways along flats from their low edges (Garbrecht and Martz 1997; Barnes, Lehman and Mulla 2014b); these facts
-- are this project's own.
use Rattle.std.specs.Prelude.{◌≡◌, ◌≢◌, ◌+◌, ◌*◌, ◌<◌, ◌≤◌, ◌⊎◌, ◌==◌, ◌∷◌, ◌++◌, if◌then◌else◌}
use Rattle.drain_flood.specs.Names.{ℕ, pos, List, [], Contains, length, slice_index_or, Some, None, IsNone, count_by, Cell, Direction, code_of, opposite, IsCellOf, index_of, step, Extent, Grid, Products, HasData, IsInside, IsOpenCell}
use Rattle.std.specs.List.{All}
use Rattle.drain_flood.specs.declared.layers.TheConstants.{OPEN, REACHED, VOID, NO_RANK}
use Rattle.drain_flood.specs.Floods.{Flooding, con_at}
use Rattle.drain_flood.specs.Ways.{IsSteepestNeighbor, IsWayDown}

-- the code and the rank of each cell in row order; the places of the cells on the trail
pub record Laying : Type 0 where
  pub extent : Extent
  pub way : List ℕ
  pub rnk : List ℕ
  pub ahead : List ℕ

abbrev pub way_at : Extent → Laying → Cell → ℕ
way_at e w c = slice_index_or w.way (index_of e c) 0

abbrev pub rank_at : Extent → Laying → Cell → ℕ
rank_at e w c = slice_index_or w.rnk (index_of e c) 0

-- how many cells have no way yet
abbrev pub wayless : Laying → ℕ
wayless w = count_by (λ way. way == REACHED) w.way

-- a data cell that has its code, and one that doesn't yet
pub record IsSettled (g : Grid) (w : Laying) (c : Cell) : Type 0 where
  pub here : HasData g c
  pub code : way_at g.extent w c ≢ REACHED

pub record IsFlat (g : Grid) (w : Laying) (c : Cell) : Type 0 where
  pub here : HasData g c
  pub code : way_at g.extent w c ≡ REACHED

-- a void has the no-data numbers
pub record IsBlankWay (g : Grid) (w : Laying) (c : Cell) : Type 0 where
  pub way : way_at g.extent w c ≡ VOID
  pub rank : rank_at g.extent w c ≡ NO_RANK

-- the first rank of a cell
abbrev pub first_rank : ℕ → ℕ
first_rank way = if way == VOID then NO_RANK else 0

abbrev pub AreFirstRanks : List ℕ → List ℕ → Type 0
AreFirstRanks ways ranks = (i : ℕ) → i < length ways → slice_index_or ranks i 0 ≡ first_rank (slice_index_or ways i 0)

-- the steepest way down
pub record IsDown (g : Grid) (f : Flooding) (w : Laying) (c : Cell) (d : Direction) (n : Cell) : Type 0 where
  pub steepest : IsSteepestNeighbor g f c d n
  pub code : way_at g.extent w c ≡ code_of d

-- an open cell with no lower neighbour
pub record IsFlatOutlet (g : Grid) (f : Flooding) (w : Laying) (c : Cell) : Type 0 where
  pub opens : IsOpenCell g c
  pub lowest : IsWayDown g f c None
  pub code : way_at g.extent w c ≡ OPEN

-- a closed cell with no lower neighbour: n is as high, nearer to a low edge, and has its own way
pub record IsAlong (g : Grid) (f : Flooding) (w : Laying) (c : Cell) (d : Direction) (n : Cell) : Type 0 where
  pub shut : ¬ IsOpenCell g c
  pub lowest : IsWayDown g f c None
  pub code : way_at g.extent w c ≡ code_of d
  pub there : step g.extent c d ≡ Some n
  pub settled : IsSettled g w n
  pub level : con_at g.extent f n ≡ con_at g.extent f c
  pub nearer : rank_at g.extent w c ≡ rank_at g.extent w n + 1

abbrev pub HasWay : Grid → Flooding → Laying → Cell → Type 0
HasWay g f w c =
    ((d : Direction) × (n : Cell) × IsDown g f w c d n) ⊎ (IsFlatOutlet g f w c ⊎ ((d : Direction) × (n : Cell) × IsAlong g f w c d n))

-- a number of each kind for each cell
pub record AreCounted (g : Grid) (w : Laying) : Type 0 where
  pub way : length w.way ≡ g.extent.rows * g.extent.cols
  pub rnk : length w.rnk ≡ g.extent.rows * g.extent.cols

-- a cell that has no way yet is closed, and no neighbour is lower
pub record IsOnFlat (g : Grid) (f : Flooding) (c : Cell) : Type 0 where
  pub shut : ¬ IsOpenCell g c
  pub lowest : IsWayDown g f c None

-- a settled cell next to one of its height without a way: it is on the trail, or it is a low edge and the other wasn't
-- looked at yet
abbrev pub IsLookedFor : Grid → Laying → ℕ → List ℕ → Cell → Cell → Type 0
IsLookedFor g w k busy c n =
    Contains (busy ++ w.ahead) (index_of g.extent c) ⊎ ((rank_at g.extent w c ≡ 0) × (k ≤ index_of g.extent n))

-- a place on the trail is that of a settled cell
pub record IsToLook (g : Grid) (w : Laying) (place : ℕ) : Type 0 where
  pub cell : Cell
  pub settled : IsSettled g w cell
  pub place_is : place ≡ index_of g.extent cell

-- what holds while the flats of a surface get their ways: the first k cells were looked at, and the neighbours of the
-- cells at the busy places are looked at now
pub record AreLaid (g : Grid) (f : Flooding) (w : Laying) (k : ℕ) (busy : List ℕ) : Type 0 where
  pub counted : AreCounted g w
  pub voids : (c : Cell) → IsInside g c → IsNone (g.elevation c) → IsBlankWay g w c
  pub flat : (c : Cell) → IsFlat g w c → IsOnFlat g f c
  pub ways : (c : Cell) → IsSettled g w c → HasWay g f w c
  pub frontier : (c n : Cell) (d : Direction) → IsSettled g w c → IsFlat g w n → step g.extent c d ≡ Some n →
      con_at g.extent f n ≡ con_at g.extent f c → IsLookedFor g w k busy c n
  pub ahead : All (IsToLook g w) (busy ++ w.ahead)
  -- ranks are fewer than the settled cells
  pub ranked : (c : Cell) → IsSettled g w c → rank_at g.extent w c + wayless w < g.extent.rows * g.extent.cols

-- one more cell was settled, with this code and rank, and put at the end of the trail
pub record Settles (e : Extent) (old new : Laying) (n : Cell) (code rank : ℕ) : Type 0 where
  pub inside : IsCellOf e n
  pub way_there : way_at e new n ≡ code
  pub rank_there : rank_at e new n ≡ rank
  pub way_same : (c : Cell) → IsCellOf e c → c ≢ n → way_at e new c ≡ way_at e old c
  pub rank_same : (c : Cell) → IsCellOf e c → c ≢ n → rank_at e new c ≡ rank_at e old c
  pub way_long : length new.way ≡ length old.way
  pub rank_long : length new.rnk ≡ length old.rnk
  pub fewer : wayless new + 1 ≡ wayless old
  pub ahead : new.ahead ≡ old.ahead ++ index_of e n ∷ []

-- c is settled; its neighbour n, of the same height, has no way yet, and is settled from c
pub record IsSettledFrom (g : Grid) (f : Flooding) (w : Laying) (c : Cell) (d : Direction) (n : Cell) (code rank : ℕ) : Type 0 where
  pub from : IsSettled g w c
  pub there : step g.extent c d ≡ Some n
  pub new : way_at g.extent w n ≡ REACHED
  pub level : con_at g.extent f n ≡ con_at g.extent f c
  pub code_is : code ≡ code_of (opposite d)
  pub rank_is : rank ≡ rank_at g.extent w c + 1

-- every data cell has its way
pub record AreWaysOnFlats (g : Grid) (f : Flooding) (w : Laying) : Type 0 where
  pub counted : AreCounted g w
  pub voids : (c : Cell) → IsInside g c → IsNone (g.elevation c) → IsBlankWay g w c
  pub ways : (c : Cell) → HasData g c → HasWay g f w c
  pub ranked : (c : Cell) → HasData g c → rank_at g.extent w c < g.extent.rows * g.extent.cols

-- products that show the heights of a surface, and these ways and ranks
pub record ShowsWays (g : Grid) (f : Flooding) (w : Laying) (ps : Products) : Type 0 where
  pub con : (c : Cell) → ps.con c ≡ con_at g.extent f c
  pub dir : (c : Cell) → ps.dir c ≡ pos (way_at g.extent w c)
  pub rnk : (c : Cell) → ps.rnk c ≡ pos (rank_at g.extent w c)
