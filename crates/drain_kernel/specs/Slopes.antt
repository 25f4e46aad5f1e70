-- How steepness is compared along a row of lanes: of whole heights by squares where cells are square, else by fractions below
-- the ratios of distances; of floats exactly.
use Rattle.std.specs.Prelude.{◌*◌, ◌-◌, ◌-ℤ◌, ◌||◌, ◌&&◌, ◌==◌, if◌then◌else◌}
use Rattle.drain_kernel.specs.Names.{ℕ, ℤ, int_lt, Bool, true, false, not, nat_lt, nat_le, min, List, slice_index, Direction, East, South, SouthEast, single_height, Distances, IsSpacing, row_square, col_square, corner_square, weight_of, IsBelow}
use Rattle.drain_grid.specs.declared.height_kind.HeightKind.{HeightKind}
use Rattle.drain_grid.specs.declared.height_kind.HeightKind.TheVariants.{Whole, Single}
use Rattle.drain_grid.specs.Slope.{slope_key}
use Rattle.drain_slope.specs.declared.fraction.Fraction.{Fraction}
use Rattle.drain_kernel.specs.declared.slopes.Slopes.{Slopes}
use Rattle.drain_kernel.specs.Around.{named_in, is_direction_code, is_straight_code, least_across_in}
use Rattle.drain_kernel.specs.Shown.{lowered}
use Rattle.drain_kernel.specs.Tests.{falls_steepest, steps_along}

-- heights are whole numbers
abbrev pub is_whole : HeightKind → Bool
is_whole Whole = true
is_whole Single = false

-- they are, and width and height are 1
abbrev pub is_unit : Distances → Bool
is_unit s = is_whole s.kind && ((s.width == 1) && (s.height == 1))

-- the distances are valid, and each fraction is no greater than the ratio that it stands for
pub record AreSound (s : Slopes) : Type 0 where
  pub valid : IsSpacing s.spacing
  pub row_col : IsBelow (row_square s.spacing) (col_square s.spacing) s.row_col
  pub row_corner : IsBelow (row_square s.spacing) (corner_square s.spacing) s.row_corner
  pub col_row : IsBelow (col_square s.spacing) (row_square s.spacing) s.col_row
  pub col_corner : IsBelow (col_square s.spacing) (corner_square s.spacing) s.col_corner
  pub corner_row : IsBelow (corner_square s.spacing) (row_square s.spacing) s.corner_row
  pub corner_col : IsBelow (corner_square s.spacing) (col_square s.spacing) s.corner_col

-- the code names a direction along the row, or along the column
abbrev pub is_row_code : ℕ → Bool
is_row_code code = (code == 1) || (code == 16)

abbrev pub is_col_code : ℕ → Bool
is_col_code code = (code == 4) || (code == 64)

-- the least number along the row, and along the column
abbrev pub least_row_in : List ℕ → ℕ
least_row_in xs = min (slice_index xs 0) (slice_index xs 4)

abbrev pub least_col_in : List ℕ → ℕ
least_col_in xs = min (slice_index xs 2) (slice_index xs 6)

-- the code leads to a lower number, the least along the row, along the column or across corners, and by a test the ways to the
-- two other least numbers are no steeper than that to this one
unfoldable pub falls_by : (Direction → ℕ → Direction → ℕ → Bool) → ℕ → ℕ → List ℕ → Bool
falls_by is_no_steeper con code cons =
    let next = named_in code cons in
    let row = least_row_in cons in
    let col = least_col_in cons in
    let corner = least_across_in cons in
    nat_lt next con &&
    ((((is_row_code code && next == row) && (is_no_steeper South col East row && is_no_steeper SouthEast corner East row)) ||
    ((is_col_code code && next == col) && (is_no_steeper East row South col && is_no_steeper SouthEast corner South col))) ||
    ((not (is_straight_code code) && next == corner) && (is_no_steeper East row SouthEast corner && is_no_steeper South col SouthEast corner)))

-- the fraction below the ratio of the squares of two distances
abbrev pub fraction_of : Slopes → Direction → Direction → Fraction
fraction_of s East South = s.row_col
fraction_of s East d = s.row_corner
fraction_of s South East = s.col_row
fraction_of s South d = s.col_corner
fraction_of s e South = s.corner_col
fraction_of s e d = s.corner_row

-- the way in a direction to a number is no steeper than that in another, by this fraction
abbrev pub is_no_steeper_by_fraction : Slopes → ℕ → Direction → ℕ → Direction → ℕ → Bool
is_no_steeper_by_fraction s con e other d low = nat_le ((con - other) * (fraction_of s e d).p) ((con - low) * (fraction_of s e d).q)

-- so of whole heights
abbrev pub falls_by_fractions : Slopes → ℕ → ℕ → List ℕ → Bool
falls_by_fractions s con = falls_by (is_no_steeper_by_fraction s con) con

-- the code leads down such a way, or along the flat
abbrev pub goes_by_fractions : Slopes → ℕ → ℕ → List ℕ → Bool
goes_by_fractions s con code cons = is_direction_code code && (falls_by_fractions s con code cons || steps_along con code cons)

-- the key of the way in a direction from one number to another, of floats
abbrev pub float_key : ℕ → Distances → ℕ → Direction → ℕ → ℤ
float_key bias s con d low = slope_key (weight_of s d) (single_height (lowered bias con) -ℤ single_height (lowered bias low))

-- the way in the first direction, to its number, is no steeper than that in the second: it isn't down, or both are and its key
-- is no greater
abbrev pub is_no_steeper_by_key : ℕ → Distances → ℕ → Direction → ℕ → Direction → ℕ → Bool
is_no_steeper_by_key bias s con e other d low = nat_le con other || (nat_lt low con && not (int_lt (float_key bias s con d low) (float_key bias s con e other)))

-- so of floats
abbrev pub falls_by_heights : ℕ → Distances → ℕ → ℕ → List ℕ → Bool
falls_by_heights bias s con = falls_by (is_no_steeper_by_key bias s con) con

-- the code leads down the steepest way, between numbers that are greater than the heights' by the bias
abbrev pub falls_down : ℕ → Slopes → ℕ → ℕ → List ℕ → Bool
falls_down bias s con code cons =
    if is_unit s.spacing then falls_steepest con code cons else
    if is_whole s.spacing.kind then falls_by_fractions s con code cons else falls_by_heights bias s.spacing con code cons

-- the rules of the direction, without ranks
abbrev pub keeps_way_down : ℕ → Slopes → ℕ → ℕ → List ℕ → Bool
keeps_way_down bias s con code cons = is_direction_code code && (falls_down bias s con code cons || steps_along con code cons)
