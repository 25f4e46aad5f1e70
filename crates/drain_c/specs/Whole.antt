-- Whether the bytes of a call are whole: none are missing, for which C had NULL.
use Rattle.std.specs.Prelude.{◌==◌, ◌&&◌, ◌||◌}
use Rattle.drain_c.specs.Names.{Bool, List, not, list_all, Judged, has_dir, has_acc, has_bas, has_rnk}
use Rattle.drain_c.specs.declared.call.Elevations.{Elevations}
use Rattle.drain_c.specs.declared.call.Elevations.TheVariants.{Tiles, Dem}
use Rattle.drain_c.specs.declared.given.GivenBytes.{GivenBytes}
use Rattle.drain_c.specs.declared.given.TileBytes.{TileBytes}
use Rattle.drain_c.specs.declared.given.RasterBytes.{RasterBytes}
use Rattle.drain_c.specs.declared.given.CheckBytes.{CheckBytes}

-- a text is there
abbrev pub is_text_whole : GivenBytes → Bool
is_text_whole text = text.missing == 0

-- a tile has its name and its samples, a raster its header and its pixels
abbrev pub is_tile_whole : TileBytes → Bool
is_tile_whole tile = is_text_whole tile.name && is_text_whole tile.samples

abbrev pub is_raster_whole : RasterBytes → Bool
is_raster_whole raster = is_text_whole raster.header && is_text_whole raster.pixels

-- so do all tiles, or the raster of elevations
abbrev pub are_tiles_whole : List TileBytes → Bool
are_tiles_whole tiles = list_all is_tile_whole tiles

abbrev pub are_elevations_whole : Elevations → Bool
are_elevations_whole (Tiles side tiles) = are_tiles_whole tiles.now
are_elevations_whole (Dem dem) = is_raster_whole dem

-- so do the rasters that are judged
abbrev pub are_rasters_whole : Judged → CheckBytes → Bool
are_rasters_whole judged ps =
    is_raster_whole ps.con && (not (has_dir judged) || is_raster_whole ps.dir) && (not (has_acc judged) || is_raster_whole ps.acc) && (not (has_bas judged) || is_raster_whole ps.bas)
    && (not (has_rnk judged) || is_raster_whole ps.rnk)
