-- The size of a window or a union. This definition is this project's own.
use Rattle.std.specs.Prelude.{◌<◌, ◌^◌}
use Rattle.drain_union.specs.Names.{Extent}

-- rows and columns are numbers of 32 bits
pub record FitsNumbers (e : Extent) : Type 0 where
  pub rows : e.rows < 2 ^ 32
  pub cols : e.cols < 2 ^ 32
