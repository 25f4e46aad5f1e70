-- Two lists of heights in row order, compared at the data cells of a grid.
use Rattle.std.specs.Prelude.{◌≡◌, ◌≢◌, ◌<◌}
use Rattle.drain_filled.specs.Names.{ℕ, ℤ, pos, List, slice_index_or, Cell, IsCellOf, index_of, IsEarlier, Grid, HasData, IsInside, IsLeastSurface, Surface, UNREACHED, listed_at}
use Rattle.drain_filled.specs.Grounds.{DataCells, data_mark}

-- the cell has data
pub record HasMark (w : DataCells) (c : Cell) : Type 0 where
  pub inside : IsCellOf w.extent c
  pub is_data : data_mark w c ≡ UNREACHED

-- the two lists have one number at each data cell before this place
abbrev pub AreOneBefore : DataCells → List ℤ → List ℤ → ℕ → Type 0
AreOneBefore w con least place =
    (c : Cell) → HasMark w c → index_of w.extent c < place → listed_at w.extent con c ≡ listed_at w.extent least c

-- the first data cell where they have two
pub record IsFirstOther (w : DataCells) (con least : List ℤ) (c : Cell) : Type 0 where
  pub here : HasMark w c
  pub differs : listed_at w.extent con c ≢ listed_at w.extent least c
  pub before : AreOneBefore w con least (index_of w.extent c)

-- Where a surface isn't the filled one.

-- a grid with the cells of another: as many rows and columns, and at each cell the same elevation and mark of a sink
pub record HasCellsOf (g h : Grid) : Type 0 where
  pub extent : g.extent ≡ h.extent
  pub elevation : (c : Cell) → IsInside g c → g.elevation c ≡ h.elevation c
  pub sink : (c : Cell) → IsInside g c → g.sink c ≡ h.sink c

-- two surfaces have the same number at each data cell of a grid
abbrev pub AreOneSurface : Grid → Surface → Surface → Type 0
AreOneSurface g s t = (c : Cell) → HasData g c → s c ≡ t c

-- at each data cell the surface has its number of a list in row order
abbrev pub HasHeights : Grid → Surface → List ℤ → Type 0
HasHeights g s heights = AreOneSurface g s (λ c. slice_index_or heights (index_of g.extent c) (pos 0))

-- the first data cell, in row order, where a surface isn't the least one; such a one exists
pub record IsFirstUnfilled (g : Grid) (s : Surface) (c : Cell) : Type 0 where
  pub here : HasData g c
  pub filled : (t : Surface) × IsLeastSurface g t
  pub differs : (t : Surface) → IsLeastSurface g t → s c ≢ t c
  pub before : (t : Surface) → IsLeastSurface g t → (b : Cell) → HasData g b → IsEarlier b c → s b ≡ t b
