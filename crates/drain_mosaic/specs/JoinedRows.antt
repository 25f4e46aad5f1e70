-- One row of a mosaic, after some tiles were laid over it.
use Rattle.std.specs.Prelude.{◌≡◌, ◌≢◌, ◌⊎◌, ◌+◌, ◌-◌, ◌*◌, ◌≤◌, ◌<◌, if◌then◌else◌}
use Rattle.drain_mosaic.specs.Names.{ℕ, ℤ, min, List, length, slice_index_or, Option, Some, None, MatchOption, int_eq, VOID, height_from}
use Rattle.drain_mosaic.specs.Tiling.{Tiling, extent_of}
use Rattle.drain_mosaic.specs.Mosaic.{Tile, HasTwoValues, first_value}

-- the least place below n that P holds at, none where it holds at none
abbrev pub IsLeastOf : (ℕ → Type 0) → ℕ → Option ℕ → Type 0
IsLeastOf P n found = MatchOption found ((k : ℕ) → k < n → ¬ P k) (λ s. (s < n) × P s × ((k : ℕ) → k < s → ¬ P k))

-- the lesser of two places, each of which may be missing
abbrev pub first_of : Option ℕ → Option ℕ → Option ℕ
first_of None b = b
first_of (Some a) None = Some a
first_of (Some a) (Some b) = Some (min a b)

-- the sample, or the other one where it is a void
abbrev pub filled : ℤ → ℤ → ℤ
filled z s = if int_eq z VOID then s else z

-- the samples are of data, and differ
abbrev pub Conflict : ℤ → ℤ → Type 0
Conflict z s = (z ≢ VOID) × (s ≢ VOID) × (z ≢ s)

-- the same of samples in two lists
abbrev pub ConflictAt : List ℤ → List ℤ → ℕ → Type 0
ConflictAt zs ss k = Conflict (slice_index_or zs k VOID) (slice_index_or ss k VOID)

-- the number laid over this place has data, and isn't the one that is there
abbrev pub IsRefusedAt : List ℤ → List ℤ → ℕ → Type 0
IsRefusedAt zs ss k = (slice_index_or ss k VOID ≢ VOID) × (slice_index_or zs k VOID ≢ slice_index_or ss k VOID)

-- both are values, and differ
abbrev pub AreTwo : Option ℤ → Option ℤ → Type 0
AreTwo one other = (one ≢ None) × (other ≢ None) × (one ≢ other)

-- the part lies over the column from `left` on, and its sample there is in conflict with the row's
pub record ConflictOver (left : ℕ) (part row : List ℤ) (col : ℕ) : Type 0 where
  pub from_left : left ≤ col
  pub to_right : col < left + length part
  pub conflict : Conflict (slice_index_or row col VOID) (slice_index_or part (col - left) VOID)

-- a part was laid over a row from `left` on: it filled the voids there; its first conflict was found
pub record IsLaidOver (left : ℕ) (part old new : List ℤ) (found : Option ℕ) : Type 0 where
  pub inside : (k : ℕ) → k < length part → slice_index_or new (left + k) VOID ≡ filled (slice_index_or old (left + k) VOID) (slice_index_or part k VOID)
  pub outside : (col : ℕ) → (col < left) ⊎ (left + length part ≤ col) → slice_index_or new col VOID ≡ slice_index_or old col VOID
  pub first : IsLeastOf (ConflictOver left part old) (length old) found

-- the column of the row's first cell with two values, none where no cell of it has two
abbrev pub IsSeamAlong : Tiling → List Tile → ℕ → Option ℕ → Type 0
IsSeamAlong t tiles row found = IsLeastOf (λ col. HasTwoValues t tiles (record { row = row; col = col })) (extent_of t).cols found

-- the row has the first value of each of its cells, and its first cell with two values was found
pub record IsJoinedRow (t : Tiling) (tiles : List Tile) (row : ℕ) (samples : List ℤ) (found : Option ℕ) : Type 0 where
  pub values : (col : ℕ) → col < (extent_of t).cols → height_from (slice_index_or samples col VOID) ≡ first_value t tiles (record { row = row; col = col })
  pub first : IsSeamAlong t tiles row found

-- no cell of the first rows has two values
abbrev pub AgreeAbove : Tiling → List Tile → ℕ → Type 0
AgreeAbove t tiles rows = (row col : ℕ) → row < rows → col < (extent_of t).cols → ¬ HasTwoValues t tiles (record { row = row; col = col })

-- the samples of the first rows are the first values of their cells, none of which has two values
pub record AreJoinedRows (t : Tiling) (tiles : List Tile) (rows : ℕ) (samples : List ℤ) : Type 0 where
  pub values : (row col : ℕ) → row < rows → col < (extent_of t).cols → height_from (slice_index_or samples (row * (extent_of t).cols + col) VOID) ≡ first_value t tiles (record { row = row; col = col })
  pub agree : AgreeAbove t tiles rows
