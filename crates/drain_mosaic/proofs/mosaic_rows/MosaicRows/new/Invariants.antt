use Rattle.drain_mosaic.proofs.Names.{◌≡◌, take, vec_len, extent_of, All, AllZip, ArePlacedWithin, IsPlacedAt, IsAtStart}
use Rattle.drain_mosaic.proofs.mosaic_rows.MosaicRows.new.Given as goal

-- the tiles that were placed lie within the mosaic
abbrev pub invariant-loop-i : goal.invariant-loop-i
invariant-loop-i l = record {
  counted : vec_len l.tiles ≡ l.i;
  tiles_are : AllZip (IsAtStart l.layout) (take l.i l.layout.corners) l.tiles.items;
  at_row : All (IsPlacedAt l.side 0) l.tiles.items;
  within : ArePlacedWithin l.side (extent_of l.layout).rows (extent_of l.layout).cols l.tiles.items;
}
