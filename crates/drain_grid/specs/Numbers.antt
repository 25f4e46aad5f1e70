-- The numbers of a raster, however many bits each takes.
use Rattle.std.specs.Prelude.{ℤ, pos, List, map}
use Rattle.drain_grid.specs.declared.raster.KeptNumbers.{KeptNumbers}
use Rattle.drain_grid.specs.declared.raster.KeptNumbers.TheVariants as kept
use Rattle.drain_grid.specs.declared.raster.Numbers.{Numbers}
use Rattle.drain_grid.specs.declared.raster.Numbers.TheVariants.{Bytes, Heights, Counts, Wide}

-- the numbers in row order
abbrev pub numbers_of : Numbers → List ℤ
numbers_of (Bytes v) = map (λ n. pos n) v.items
numbers_of (Heights v) = v.items
numbers_of (Counts v) = map (λ n. pos n) v.items
numbers_of (Wide v) = v.items

-- the same of numbers that are lent
abbrev pub kept_in : KeptNumbers → List ℤ
kept_in (kept.Bytes xs) = map (λ n. pos n) xs.now
kept_in (kept.Heights xs) = xs.now
kept_in (kept.Counts xs) = map (λ n. pos n) xs.now
kept_in (kept.Wide xs) = xs.now
