-- The elevations of a row: numbers, of which some mean a void.
-- Source: the Esri description of BIL files and their headers (NODATA); that a void is where a pixel is that number, and
-- where a float is not finite, is this project's own.
use Rattle.std.specs.Prelude.{◌||◌, if◌then◌else◌}
use Rattle.drain_pixels.specs.Names.{ℤ, Bool, false, not, List, map, Option, Some, None, int_eq, is_finite}
use Rattle.drain_grid.specs.declared.height_kind.HeightKind.{HeightKind}
use Rattle.drain_grid.specs.declared.height_kind.HeightKind.TheVariants.{Whole, Single}
use Rattle.drain_pixels.specs.declared.voids.Voids.{Voids}

-- it is the number of voids
abbrev pub is_number : Option ℤ → ℤ → Bool
is_number None number = false
is_number (Some void) number = int_eq number void

-- the number of a height of this kind means a void: that of voids, and of floats each that is not finite
abbrev pub is_void_of : HeightKind → Option ℤ → ℤ → Bool
is_void_of Whole void number = is_number void number
is_void_of Single void number = not (is_finite number) || is_number void number

-- the number means a void
abbrev pub is_void : Voids → ℤ → Bool
is_void voids number = is_void_of voids.kind voids.number number

-- the voids of whole heights
abbrev pub whole_voids : Option ℤ → Voids
whole_voids void = record { number = void; kind = Whole }

-- the voids of floats
abbrev pub single_voids : Option ℤ → Voids
single_voids void = record { number = void; kind = Single }

-- the elevation of a number, none at a void
abbrev pub height_with : Voids → ℤ → Option ℤ
height_with voids number = if is_void voids number then None else Some number

-- the elevations of numbers
abbrev pub elevations : Voids → List ℤ → List (Option ℤ)
elevations voids numbers = map (height_with voids) numbers
