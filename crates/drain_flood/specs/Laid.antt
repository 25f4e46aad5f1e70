-- Lanes of heights for the first ways down, and the beginning of a flood: the ground and the first mark of each cell.
use Rattle.std.specs.Prelude.{◌≡◌, ◌+◌, ◌<◌, ◌-◌, ◌*◌, ◌/◌, ◌+ℤ◌, ◌<ℤ◌, ◌==◌, ◌∷◌, if◌then◌else◌, ◌≢◌, ◌↔◌, ◌⊎◌}
use Rattle.drain_flood.specs.Names.{ℕ, ℤ, pos, Bool, nat_lt, min, List, [], slice_index, slice_index_or, length, IsNone, IsTrue, Cell, IsCellOf, index_of, Extent, Grid, Heights, IsInside, IsSample, elevation_at}
use Rattle.drain_flood.specs.Floods.{Flooding, IsFirstMark, con_at}
use Rattle.drain_flood.specs.declared.layers.TheConstants.{NO_HEIGHT, OPEN, UNREACHED, VOID}
use Rattle.drain_flood.specs.declared.falls.TheConstants.{GAP}

-- Lanes of heights, and the first steepest way down among eight of them.

-- a height's lane: 32,767 more; that of a void is above any other
pub record IsLane (height : ℤ) (lane : ℕ) : Type 0 where
  pub none : height ≡ NO_HEIGHT → lane ≡ GAP
  pub some : NO_HEIGHT <ℤ height → pos lane ≡ height +ℤ pos 32767
  pub below : NO_HEIGHT <ℤ height → lane < GAP

-- the lanes of a row of cells, counted from 1, between two gaps; rows outside the grid are gaps
pub record AreRowLanes (e : Extent) (f : Flooding) (down : ℕ) (lanes : List ℕ) : Type 0 where
  pub heights : (n : Cell) → IsCellOf e n → n.row + 1 ≡ down → IsLane (con_at e f n) (slice_index lanes (n.col + 1))
  pub gaps : (right : ℕ) → right < e.cols + 2 →
      ((n : Cell) → IsCellOf e n → n.row + 1 ≡ down → n.col + 1 ≡ right → ⊥) → slice_index lanes right ≡ GAP

-- the lanes around one, whose own place is one further
abbrev pub around_in : List ℕ → List ℕ → List ℕ → ℕ → List ℕ
around_in above here below k =
    slice_index here (k + 2) ∷ slice_index below (k + 2) ∷ slice_index below (k + 1) ∷ slice_index below k ∷
    slice_index here k ∷ slice_index above k ∷ slice_index above (k + 1) ∷ slice_index above (k + 2) ∷ []

-- the least along rows and columns, and across corners
abbrev pub least_along : List ℕ → ℕ
least_along xs = min (min (slice_index xs 0) (slice_index xs 2)) (min (slice_index xs 4) (slice_index xs 6))

abbrev pub least_across : List ℕ → ℕ
least_across xs = min (min (slice_index xs 1) (slice_index xs 3)) (min (slice_index xs 5) (slice_index xs 7))

-- the code of the first with this number, else that of the last
abbrev pub first_along : List ℕ → ℕ → ℕ
first_along xs least =
    if slice_index xs 0 == least then 1 else if slice_index xs 2 == least then 4 else if slice_index xs 4 == least then 16 else 64

abbrev pub first_across : List ℕ → ℕ → ℕ
first_across xs least =
    if slice_index xs 1 == least then 2 else if slice_index xs 3 == least then 8 else if slice_index xs 5 == least then 32 else 128

-- the lane from which drops are counted: from a void there is none
abbrev pub level_of_lane : ℕ → ℕ
level_of_lane lane = if lane == GAP then 0 else lane

-- half the square of the drop across is less than the square of the drop along
abbrev pub is_steeper : ℕ → ℕ → ℕ → Bool
is_steeper level along across = nat_lt ((level - across) * (level - across) / 2) ((level - along) * (level - along))

-- the code of the first steepest way down, 0 if none is lower
unfoldable pub fall_in : ℕ → List ℕ → ℕ
fall_in lane xs =
    if nat_lt (min (least_along xs) (least_across xs)) (level_of_lane lane)
    then (if is_steeper (level_of_lane lane) (least_along xs) (least_across xs) then first_along xs (least_along xs) else first_across xs (least_across xs))
    else 0

-- the same in three rows of lanes
abbrev pub fall_at : List ℕ → List ℕ → List ℕ → ℕ → ℕ
fall_at above here below k = fall_in (slice_index here (k + 1)) (around_in above here below k)

-- the sample of the cell at a place
pub record IsGround (h : Heights) (place : ℕ) (ground : ℤ) : Type 0 where
  pub value : ground ≡ slice_index_or h.samples place NO_HEIGHT
  pub in_range : IsSample ground

-- the sample of each cell, in row order
pub record AreGrounds (h : Heights) (con : List ℤ) : Type 0 where
  pub counted : length con ≡ h.extent.rows * h.extent.cols
  pub each : (place : ℕ) → place < h.extent.rows * h.extent.cols → IsGround h place (slice_index_or con place (pos 0))

-- bytes of a row's cells, counted from 1, between two gaps: 0 at a gap; rows outside the grid are gaps
pub record AreDataMarks (h : Heights) (down : ℕ) (marks : List ℕ) : Type 0 where
  pub counted : length marks ≡ h.extent.cols + 2
  pub cells : (n : Cell) → IsCellOf h.extent n → n.row + 1 ≡ down → (slice_index marks (n.col + 1) ≡ 0 ↔ IsNone (elevation_at h n))
  pub gaps : (right : ℕ) → right < h.extent.cols + 2 →
      ((n : Cell) → IsCellOf h.extent n → n.row + 1 ≡ down → n.col + 1 ≡ right → ⊥) → slice_index marks right ≡ 0

-- the least of the eight around one
abbrev pub least_around : List ℕ → List ℕ → List ℕ → ℕ → ℕ
least_around above here below k = min (least_along (around_in above here below k)) (least_across (around_in above here below k))

-- the first mark by a cell's byte, whether it is listed, and the least byte around it
pub record IsMarkOf (own : ℕ) (listed : Bool) (least mark : ℕ) : Type 0 where
  pub void : own ≡ 0 → mark ≡ VOID
  pub opened : own ≢ 0 → IsTrue listed ⊎ (least ≡ 0) → mark ≡ OPEN
  pub closed : own ≢ 0 → ¬ (IsTrue listed ⊎ (least ≡ 0)) → mark ≡ UNREACHED

-- those of the cells of the first rows
abbrev pub AreFirstMarks : Grid → ℕ → List ℕ → Type 0
AreFirstMarks g rows marks = (c : Cell) → IsInside g c → c.row < rows → IsFirstMark g c (slice_index marks (index_of g.extent c))

-- the mark at a place is that of an open cell
pub record IsOpenPlace (marks : List ℕ) (place : ℕ) : Type 0 where
  pub within : place < length marks
  pub code : slice_index marks place ≡ OPEN
