-- What is given beside the rasters: a list of sinks, and how far apart cells are.
use Rattle.std.specs.Prelude.{◌≡◌, ◌≢◌}
use Rattle.drain_verdict.specs.Names.{ℕ, List, [], length, Result, Ok, Err, Extent, HeightKind, Distances, RowSpacings, of_kind, unit_spacing, rows_listed, spacing_in, spacings_of, GivenSpacing, by_row, same}

-- the list of sinks, and how far apart cells are
pub record Given : Type 0 where
  pub sinks : List ℕ
  pub spacing : GivenSpacing

-- a list of sinks on unit spacing
abbrev pub plain : List ℕ → Given
plain sinks = record { sinks = sinks; spacing = same unit_spacing }

-- the spacing of each row, or the number of the first bad line of the text
abbrev pub spacings_given : GivenSpacing → Result RowSpacings ℕ
spacings_given (same s) = Ok (record { listed = []; otherwise = s })
spacings_given (by_row text) = rows_listed (spacings_of text)

-- how far apart the cells of a row are, with heights of this kind: unit spacing past the last line of a text, and for one
-- with a bad line
abbrev pub row_spacing : HeightKind → GivenSpacing → ℕ → Distances
row_spacing kind given row = of_kind kind (spacing_in (spacings_given given) row)

-- this line of a text by row is the first bad one
abbrev pub HasBadSpacing : GivenSpacing → ℕ → Type 0
HasBadSpacing given line = spacings_given given ≡ Err line

-- a text by row without a bad line lists this number of rows
abbrev pub ListsRows : GivenSpacing → ℕ → Type 0
ListsRows (same s) count = ⊥
ListsRows (by_row text) count = (rows : List Distances) × (spacings_of text ≡ Ok rows) × (length rows ≡ count)

-- and the ground has another number of them
abbrev pub HasOtherRows : GivenSpacing → Extent → ℕ → Type 0
HasOtherRows given e count = ListsRows given count × (count ≢ e.rows)
