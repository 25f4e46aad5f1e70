-- How far apart cells are, as C passes it.
use Rattle.std.specs.Prelude.{◌==◌, ◌&&◌, if◌then◌else◌}
use Rattle.drain_c.specs.Names.{ℕ, Bool, length, nat_lt, nat_le, Option, Some, None, GivenSpacing, by_row, same}
use Rattle.drain_c.specs.declared.given.GivenBytes.{GivenBytes}
use Rattle.drain_c.specs.declared.given.SpacingBytes.{SpacingBytes}
use Rattle.drain_grid.specs.declared.height_kind.HeightKind.TheVariants.{Whole}

-- from 1 to 2 ^ 30
abbrev pub is_distance : ℕ → Bool
is_distance n = nat_lt 0 n && nat_le n 1073741824

-- no byte is passed, and none is missing
abbrev pub is_no_text : GivenBytes → Bool
is_no_text text = length text.bytes.now == 0 && text.missing == 0

-- a text by row where both numbers are 0 and it has at most 2 ^ 21 bytes; else the width and the height of all cells, if they are a spacing and
-- no text is passed with them
abbrev pub spacing_passed : SpacingBytes → Option GivenSpacing
spacing_passed s =
    if s.width == 0 && s.height == 0 then (if nat_le (length s.widths.bytes.now) 2097152 then Some (by_row s.widths.bytes.now) else None)
    else (if is_distance s.width && is_distance s.height && is_no_text s.widths then Some (same (record { width = s.width; height = s.height; kind = Whole })) else None)
