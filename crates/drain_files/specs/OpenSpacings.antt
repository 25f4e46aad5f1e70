-- How far apart cells are, as the command line says it and as the files do.
use Rattle.std.specs.Prelude.{◌≡◌, ◌⊎◌, ◌+◌, ◌-◌, ◌*◌, ◌/◌, ◌^◌, ◌<◌, ◌≤◌, ◌∷◌}
use Rattle.drain_files.specs.Names.{ℕ, pos, List, [], Ok, IsGcd, Distances, IsSpacing, unit_spacing, GivenSpacing, by_row, same}
use Rattle.drain_args.specs.declared.spacings.SpacingChoice.{SpacingChoice}
use Rattle.drain_args.specs.declared.spacings.SpacingChoice.TheVariants as choice
use Rattle.drain_files.specs.declared.open_judged.OpenElevations.{OpenElevations}
use Rattle.drain_files.specs.declared.open_judged.OpenElevations.TheVariants.{Tiles, Dem}
use Rattle.drain_files.specs.declared.open_spacing.OpenSpacing.{OpenSpacing}
use Rattle.drain_files.specs.declared.open_spacing.OpenSpacing.TheVariants.{Same, ByRow}
use Rattle.drain_files.specs.Simplest.{IsSimplest}
use Rattle.drain_files.specs.declared.simplest.Ratio.{Ratio}
use Rattle.drain_grid.specs.declared.height_kind.HeightKind.TheVariants.{Whole}
use Rattle.drain_header.specs.Faults.{AnswersOf}
use Rattle.drain_header.specs.Header.{Fields}
use Rattle.drain_header.specs.Lines.{kind_of}
use Rattle.drain_sets.specs.declared.raster_input.RasterInput.{RasterInput}

-- what an open text or a spacing gives to judge by
abbrev pub spacing_opened : OpenSpacing → GivenSpacing
spacing_opened (Same s) = same s
spacing_opened (ByRow text) = by_row text.items

-- width and height are two sizes, divided by their greatest common divisor; heights are whole numbers
pub record IsLowest (x y : ℕ) (s : Distances) : Type 0 where
  pub divisor : ℕ
  pub greatest : IsGcd x y divisor
  pub width : x ≡ s.width * divisor
  pub height : y ≡ s.height * divisor
  pub kind : s.kind ≡ Whole

-- the least and the greatest size, in half units, that a header may mean which is read as this one: headers round a size to
-- fifteen places or to fifteen digits, and reading drops places behind the fifteenth
abbrev pub least_size : ℕ → ℕ
least_size x = 2 * x - (1 + x / 10 ^ 14)

abbrev pub greatest_size : ℕ → ℕ
greatest_size x = 2 * x + (2 + x / 10 ^ 14)

-- the least and the greatest ratio of two such sizes
abbrev pub least_ratio : ℕ → ℕ → Ratio
least_ratio x y = record { width = least_size x; height = greatest_size y }

abbrev pub greatest_ratio : ℕ → ℕ → Ratio
greatest_ratio x y = record { width = greatest_size x; height = least_size y }

-- width and height are the least whole numbers in such a ratio; heights are whole numbers
abbrev pub IsRounded : ℕ → ℕ → Distances → Type 0
IsRounded x y s = IsSimplest (least_ratio x y) (greatest_ratio x y) (record { width = s.width; height = s.height }) × (s.kind ≡ Whole)

-- width and height are the least whole numbers in the ratio of two sizes; where those are no spacing, in the ratio of two
-- sizes that are rounded to these
abbrev pub IsRatio : ℕ → ℕ → Distances → Type 0
IsRatio x y s = IsLowest x y s ⊎ (((e : Distances) → IsSpacing e → IsLowest x y e → ⊥) × IsRounded x y s)

-- both pixel sizes are above 0
pub record AreSizes (h : Fields) (x y : ℕ) : Type 0 where
  pub width : h.place.xdim ≡ pos x
  pub height : h.place.ydim ≡ pos y
  pub some_width : 0 < x
  pub some_height : 0 < y

-- sizes above 0, at most 10 ^ 10 in units of 10 ^ -15
pub record AreHeaderSizes (x y : ℕ) : Type 0 where
  pub some_width : 0 < x
  pub some_height : 0 < y
  pub width : x ≤ 10 ^ 25
  pub height : y ≤ 10 ^ 25

-- a header's spacing is that of its pixel sizes, in units of 10 ^ -15; unit spacing for sizes that no header of elevations has
pub record IsPixelSpacing (h : Fields) (s : Distances) : Type 0 where
  pub sizes : (x y : ℕ) → AreSizes h x y → IsRatio x y s
  pub other : ((x y : ℕ) → AreSizes h x y → ⊥) → s ≡ unit_spacing

-- that of the header's bytes
abbrev pub IsHeaderSpacing : List ℕ → Distances → Type 0
IsHeaderSpacing text s = (h : Fields) → AnswersOf (kind_of text) text (Ok h) → IsPixelSpacing h s

-- that of the raster of elevations; of tiles unit spacing
abbrev pub IsOpenSpacing : {R : Type 0} → OpenElevations R → Distances → Type 0
IsOpenSpacing {R} (Tiles tiles) s = s ≡ unit_spacing
IsOpenSpacing {R} (Dem dem) s = (input : RasterInput R) (rest : List (RasterInput R)) → dem ≡ input ∷ rest → IsHeaderSpacing input.header s

-- the spacing that is judged by is the one that the command line names
abbrev pub IsSpacingOf : {R : Type 0} → SpacingChoice → OpenElevations R → OpenSpacing → Type 0
IsSpacingOf choice.Unit e opened = opened ≡ Same unit_spacing
IsSpacingOf (choice.Same s) e opened = opened ≡ Same s
IsSpacingOf choice.Header e (Same s) = IsOpenSpacing e s
IsSpacingOf choice.Header e (ByRow text) = ⊥
IsSpacingOf (choice.ByRow path) e (Same s) = ⊥
IsSpacingOf (choice.ByRow path) e (ByRow text) = Unit {0}
