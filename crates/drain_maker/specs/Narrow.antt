-- Elevations of one raster in samples of 16 bits.
use Rattle.std.specs.Prelude.{◌≡◌, ◌<◌}
use Rattle.drain_maker.specs.Names.{ℕ, ℤ, pos, List, IsNone, length, slice_index_or, Cell, IsCellOf, Heights, Pixels, elevation_at}
use Rattle.std.specs.Ordering.{int_eq}
use Rattle.drain_grid.specs.declared.tile.TheConstants.{VOID}
use Rattle.drain_maker.specs.Dems.{dem_elevation}

-- the sample is the number, and means a void exactly where the number does.
-- Source: the SRTM HGT documentation (voids are -32768); the rest is this project's own
pub record IsSampleOf (nodata number sample : ℤ) : Type 0 where
  pub same : sample ≡ number
  pub void : int_eq sample VOID ≡ int_eq number nodata

-- each sample is that of its number
pub record AreNarrowed (nodata : ℤ) (numbers samples : List ℤ) : Type 0 where
  pub counted : length samples ≡ length numbers
  pub each : (k : ℕ) → k < length numbers → IsSampleOf nodata (slice_index_or numbers k (pos 0)) (slice_index_or samples k (pos 0))

-- the samples mean the elevations of the raster, whose voids have the number of a void of samples
pub record IsNarrowed (p : Pixels) (h : Heights) : Type 0 where
  pub extent : h.extent ≡ p.extent
  pub elevation : (c : Cell) → IsCellOf p.extent c → elevation_at h c ≡ dem_elevation p c
  pub void : (c : Cell) → IsCellOf p.extent c → IsNone (dem_elevation p c) → p.nodata ≡ VOID
