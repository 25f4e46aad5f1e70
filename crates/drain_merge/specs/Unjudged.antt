-- The first cell of a box that no window judges. These definitions are this project's own.
use Rattle.std.specs.Prelude.{◌≡◌, ◌≢◌, ◌+◌, ◌-◌, ◌<◌, ◌≤◌, ◌^◌, ◌⊎◌}
use Rattle.drain_merge.specs.Names.{ℕ, Option, Some, None, List, slice_index, Contains, Cell, IsEarlier, Place, IsJudgedAt, IsJudgedAtSome, judged_top, judged_left, judged_bottom, judged_right}

-- each row and column of the box is a number of 32 bits
pub record HasCells (box : Place) : Type 0 where
  pub rows : box.top + box.extent.rows ≤ 2 ^ 32
  pub cols : box.left + box.extent.cols ≤ 2 ^ 32

-- the first cell in row order that the box judges and that is judged at no place, none where each one is judged
abbrev pub IsFirstUnjudged : Place → List Place → Option Cell → Type 0
IsFirstUnjudged box places None = (c : Cell) → IsJudgedAt box c → IsJudgedAtSome places c
IsFirstUnjudged box places (Some c) =
    IsJudgedAt box c × (¬ IsJudgedAtSome places c) × ((b : Cell) → IsJudgedAt box b → IsEarlier b c → IsJudgedAtSome places b)

-- the first row that the box judges, or one on which the judged rows of some place end; and the same of columns
abbrev pub IsCornerRow : Place → List Place → ℕ → Type 0
IsCornerRow box places row = (row ≡ judged_top box) ⊎ ((p : Place) × Contains places p × (row ≡ judged_bottom p))

abbrev pub IsCornerCol : Place → List Place → ℕ → Type 0
IsCornerCol box places col = (col ≡ judged_left box) ⊎ ((p : Place) × Contains places p × (col ≡ judged_right p))

-- whether places judge each cell that a box judges is shown by the cells at crossings of corner rows and corner columns
abbrev pub CornersTellBox : Type 0
CornersTellBox =
    (box : Place) (places : List Place) →
    ((c : Cell) → IsJudgedAt box c → IsCornerRow box places c.row → IsCornerCol box places c.col → IsJudgedAtSome places c) →
    (c : Cell) → IsJudgedAt box c → IsJudgedAtSome places c

-- this column of the row is judged at some place
abbrev pub IsJudgedCrossing : List Place → ℕ → ℕ → Type 0
IsJudgedCrossing places row col = IsJudgedAtSome places (record { row = row; col = col })

-- the first of these columns, from one up to another, that isn't judged in this row, none where all are
abbrev pub IsFirstInRow : ℕ → ℕ → ℕ → List ℕ → List Place → Option ℕ → Type 0
IsFirstInRow from end row cols places None = (col : ℕ) → Contains cols col → from ≤ col → col < end → IsJudgedCrossing places row col
IsFirstInRow from end row cols places (Some col) =
    Contains cols col × (from ≤ col) × (col < end) × (¬ IsJudgedCrossing places row col)
    × ((b : ℕ) → Contains cols b → from ≤ b → b < col → IsJudgedCrossing places row b)

-- the first crossing of these rows and columns that the box judges and that isn't judged, none where all are
abbrev pub IsFirstCrossing : Place → List ℕ → List ℕ → List Place → Option Cell → Type 0
IsFirstCrossing box rows cols places None = (c : Cell) → Contains rows c.row → Contains cols c.col → IsJudgedAt box c → IsJudgedAtSome places c
IsFirstCrossing box rows cols places (Some c) =
    Contains rows c.row × Contains cols c.col × IsJudgedAt box c × (¬ IsJudgedAtSome places c)
    × ((b : Cell) → Contains rows b.row → Contains cols b.col → IsJudgedAt box b → IsEarlier b c → IsJudgedAtSome places b)

-- the number at this place is one from here up to the end, and it isn't the one before it
abbrev pub IsNewBetween : List ℕ → ℕ → ℕ → ℕ → Type 0
IsNewBetween numbers k from end =
    (from ≤ slice_index numbers k) × (slice_index numbers k < end) × (0 < k → slice_index numbers (k - 1) ≢ slice_index numbers k)
