use Rattle.std.proofs.Common.{refl}
use Rattle.drain_maker.proofs.whole_dem.kept_raster.Goals as goal

pub returns-in-Whole : goal.returns-in-Whole
returns-in-Whole c = rw c.in-Whole.is (record { extent = refl; nodata = refl; numbers = λ at inside. refl })

pub finite_raster-requires : goal.finite_raster-requires
finite_raster-requires c = c.requires c.in-Single.is

pub returns-in-Single : goal.returns-in-Single
returns-in-Single c = rw c.in-Single.is c.finite_raster.ensures
