-- How a user says how far apart cells are: by one spacing, or by a text with a line for each row, its width and its
-- height. The form is this project's own.
use Rattle.std.specs.Prelude.{◌&&◌, if◌then◌else◌, ◌≡◌}
use Rattle.drain_grid.specs.Names.{ℕ, Bool, nat_lt, nat_le, List, [], Option, Some, None, Result, Ok, Err, lines_of}
use Rattle.drain_grid.specs.declared.spacing.TheConstants.{GREATEST_SPACING}
use Rattle.drain_grid.specs.declared.spacing_text.SpacingFault.{SpacingFault}
use Rattle.drain_grid.specs.declared.spacing_text.SpacingFault.TheVariants.{BadSpacingLine, OutOfMemory}
use Rattle.drain_grid.specs.declared.spacing_text.SpacingInput.{SpacingInput}
use Rattle.drain_grid.specs.declared.spacing_text.SpacingInput.TheVariants.{Same, ByRow}
use Rattle.drain_grid.specs.Listings.{listing}
use Rattle.drain_grid.specs.declared.height_kind.HeightKind.TheVariants.{Whole}
use Rattle.drain_grid.specs.Spacing.{Distances, RowSpacings, spacing_of, unit_spacing}

-- a width or a height
abbrev pub is_distance : ℕ → Bool
is_distance n = nat_lt 0 n && nat_le n GREATEST_SPACING

-- two whole numbers are a width and a height
abbrev pub spacing_item : ℕ → ℕ → ℕ → Option Distances
spacing_item number width height =
    if is_distance width && is_distance height then Some (record { width = width; height = height; kind = Whole }) else None

-- the rows that a text lists, or the number of its first bad line; lines are numbered from 1
abbrev pub spacings_of : List ℕ → Result (List Distances) ℕ
spacings_of text = listing spacing_item 1 (lines_of text)

-- rows that a text doesn't list have square cells
abbrev pub rows_listed : Result (List Distances) ℕ → Result RowSpacings ℕ
rows_listed (Ok rows) = Ok (record { listed = rows; otherwise = unit_spacing })
rows_listed (Err bad) = Err bad

-- the spacing that is said, or the number of the first bad line
abbrev pub spacings_said : SpacingInput → Result RowSpacings ℕ
spacings_said (Same s) = Ok (record { listed = []; otherwise = s })
spacings_said (ByRow text) = rows_listed (spacings_of text.now)

-- square cells in place of a text with a bad line
abbrev pub spacing_in : Result RowSpacings ℕ → ℕ → Distances
spacing_in (Ok spacings) = spacing_of spacings
spacing_in (Err bad) = λ row. unit_spacing

-- how far apart the cells of a row are
abbrev pub spacing_said : SpacingInput → ℕ → Distances
spacing_said input = spacing_in (spacings_said input)

-- the first bad line of a text; running out of memory says nothing of it
abbrev pub IsBadRow : List ℕ → SpacingFault → Type 0
IsBadRow text (BadSpacingLine number) = spacings_of text ≡ Err number
IsBadRow text OutOfMemory = Unit {0}

-- the same of what is said
abbrev pub IsSpacingFault : SpacingInput → SpacingFault → Type 0
IsSpacingFault input (BadSpacingLine number) = spacings_said input ≡ Err number
IsSpacingFault input OutOfMemory = Unit {0}
