-- The kind of a header's pixels.
use Rattle.std.specs.Prelude.{◌≡◌}
use Rattle.drain_raster.specs.Names.{ℕ, List, [], length, Fields, numbers_as}
use Rattle.drain_pixels.specs.declared.pixel_row.PixelKind.{PixelKind}
use Rattle.drain_pixels.specs.declared.pixel_row.PixelKind.TheVariants.{U8, I16, U16, I32, U32, F32, Any}
use Rattle.drain_raster.specs.RasterRows.{packed_len, pixels_of}

-- the bytes of a row of such pixels hold the row's numbers
abbrev pub HoldRows : Fields → PixelKind → Type 0
HoldRows h kind = (bytes : List ℕ) → length bytes ≡ packed_len h → numbers_as kind bytes [] ≡ pixels_of h bytes

-- the header's pixels are of this kind, if they are of a usual one
abbrev pub IsKindOf : Fields → PixelKind → Type 0
IsKindOf h U8 = HoldRows h U8
IsKindOf h I16 = HoldRows h I16
IsKindOf h U16 = HoldRows h U16
IsKindOf h I32 = HoldRows h I32
IsKindOf h U32 = HoldRows h U32
IsKindOf h F32 = HoldRows h F32
IsKindOf h Any = Unit {0}
