use Rattle.drain_grid.specs.declared.height_kind.HeightKind.TheVariants.{Whole}
use Rattle.drain_raster.proofs.KindLemmas.{i16_kind, i32_kind, u16_kind, u32_kind, u8_kind}
use Rattle.drain_raster.proofs.PixelLemmas.{kind-so}
use Rattle.drain_raster.proofs.pixel_rows.whole_kind_of.Goals as goal

pub returns-in-8-false-default : goal.returns-in-8-false-default
returns-in-8-false-default c = u8_kind c.args.header.now _ c.header.view_is (kind-so _ _ Whole c.header.view_is c.requires) c.in-8-false-default.is-0 c.in-8-false-default.is-1

pub returns-in-16-true-Least : goal.returns-in-16-true-Least
returns-in-16-true-Least c = i16_kind c.args.header.now _ c.header.view_is (kind-so _ _ Whole c.header.view_is c.requires) c.in-16-true-Least.is-0 c.in-16-true-Least.is-1 c.in-16-true-Least.is-2

pub returns-in-32-false-Least : goal.returns-in-32-false-Least
returns-in-32-false-Least c = u32_kind c.args.header.now _ c.header.view_is (kind-so _ _ Whole c.header.view_is c.requires) c.in-32-false-Least.is-0 c.in-32-false-Least.is-1 c.in-32-false-Least.is-2

pub returns-in-16-false-Least : goal.returns-in-16-false-Least
returns-in-16-false-Least c = u16_kind c.args.header.now _ c.header.view_is (kind-so _ _ Whole c.header.view_is c.requires) c.in-16-false-Least.is-0 c.in-16-false-Least.is-1 c.in-16-false-Least.is-2

pub returns-in-32-true-Least : goal.returns-in-32-true-Least
returns-in-32-true-Least c = i32_kind c.args.header.now _ c.header.view_is (kind-so _ _ Whole c.header.view_is c.requires) c.in-32-true-Least.is-0 c.in-32-true-Least.is-1 c.in-32-true-Least.is-2
