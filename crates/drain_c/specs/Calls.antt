-- What a request asks, and what a fact of it is.
use Rattle.std.specs.Prelude.{◌==◌, ◌&&◌, if◌then◌else◌}
use Rattle.drain_c.specs.Names.{ℕ, Bool, [], List, Option, Some, None, Judged, has_dir, has_acc, has_bas, has_rnk, GivenSpacing, SetProduct, IsMissingText}
use Rattle.drain_c.specs.declared.call.Call.{Call}
use Rattle.drain_c.specs.declared.call.Elevations.{Elevations}
use Rattle.drain_c.specs.declared.call.Elevations.TheVariants.{Tiles, Dem}
use Rattle.drain_c.specs.declared.given.CheckBytes.{CheckBytes}
use Rattle.drain_c.specs.declared.given.RasterBytes.{RasterBytes}
use Rattle.drain_c.specs.declared.given.Request.{Request}
use Rattle.drain_c.specs.Given.{AreOfElevations, CallInputs, RasterTexts, as_passed}
use Rattle.drain_c.specs.Spacings.{spacing_passed}
use Rattle.drain_c.specs.Whole.{are_rasters_whole, are_elevations_whole, is_raster_whole, is_text_whole}
use Rattle.drain_grid.specs.declared.judged.Judged.TheVariants.{Con, ConDir, ConDirAcc, ConDirBas, All, AllWithRanks}
use Rattle.drain_grid.specs.declared.set_product.SetProduct.TheVariants as held
use Rattle.drain_verdict.specs.Given.{plain}

-- the rasters that a number names: con counts 1, dir 2, acc 4, bas 8, ranks 16
abbrev pub judged_of : ℕ → Option Judged
judged_of n =
    if n == 1 then Some Con else (if n == 3 then Some ConDir else (if n == 7 then Some ConDirAcc else (if n == 11 then Some ConDirBas else (if n == 15 then Some All
    else (if n == 31 then Some AllWithRanks else None)))))

-- the elevations: tiles, or the raster if there is one
abbrev pub elevations_of : Request → Elevations
elevations_of r = if r.has_dem == 0 then Tiles r.side r.tiles else Dem r.dem

-- what is asked about these rasters on this spacing
abbrev pub asked : Request → Option Judged → Option GivenSpacing → Option Call
asked r (Some judged) (Some spacing) = Some (record {
  elevations = elevations_of r;
  given = record { sinks = r.sinks.bytes.now; spacing = spacing };
  rasters = r.rasters;
  judged = judged;
  is_whole = are_elevations_whole (elevations_of r) && is_text_whole r.sinks && is_text_whole r.spacing.widths && are_rasters_whole judged r.rasters;
})
asked r judged spacing = None

-- what a request asks; nothing where its number names no rasters that can be judged, or it passes no spacing
abbrev pub call_of : Request → Option Call
call_of r = asked r (judged_of r.judged) (spacing_passed r.spacing)

-- dir, or the raster of elevations, in the place of con
abbrev pub con_beside : Elevations → RasterBytes → RasterBytes
con_beside (Tiles side tiles) dir = dir
con_beside (Dem dem) dir = dem

-- directions also in the place of acc, bas and ranks
abbrev pub directions_beside : RasterBytes → RasterBytes → CheckBytes
directions_beside con dir = record { con = con; dir = dir; acc = dir; bas = dir; rnk = dir }

-- what a request for derived rasters asks: of it the elevations and the directions count alone
abbrev pub derived_call : Request → Call
derived_call r = record {
  elevations = elevations_of r;
  given = plain [];
  rasters = directions_beside (con_beside (elevations_of r) r.rasters.dir) r.rasters.dir;
  judged = All;
  is_whole = are_elevations_whole (elevations_of r) && is_raster_whole r.rasters.dir;
}

-- the same call about all four rasters, without sinks and on square cells
abbrev pub plain_call : Call → Call
plain_call call = record { elevations = call.elevations; given = plain []; rasters = call.rasters; judged = All; is_whole = call.is_whole }

-- con's pixels under this header
abbrev pub missing_raster : RasterBytes → List ℕ → RasterTexts
missing_raster con header = record { header = header; pixels = con.pixels.bytes.now }

-- a raster as it is passed, if it is judged; else a missing one
abbrev pub raster_or_missing : Bool → RasterBytes → RasterBytes → List ℕ → RasterTexts
raster_or_missing is_judged raster con header = if is_judged then as_passed raster else missing_raster con header

-- the raster of a product; dir stands in the place of ranks that aren't judged
abbrev pub judged_raster : Judged → CheckBytes → List ℕ → SetProduct → RasterTexts
judged_raster judged ps header held.Con = as_passed ps.con
judged_raster judged ps header held.Dir = raster_or_missing (has_dir judged) ps.dir ps.con header
judged_raster judged ps header held.Acc = raster_or_missing (has_acc judged) ps.acc ps.con header
judged_raster judged ps header held.Bas = raster_or_missing (has_bas judged) ps.bas ps.con header
judged_raster judged ps header held.Rnk = if has_rnk judged then as_passed ps.rnk else raster_or_missing (has_dir judged) ps.dir ps.con header

-- the inputs are these bytes: the judged rasters, and of each other con's pixels, a byte for each cell that lies as con
-- does
pub record AreOfCall (call : Call) (i : CallInputs) : Type 0 where
  pub header : List ℕ
  pub header_is : IsMissingText call.rasters.con.header.bytes.now header
  pub bytes_are : AreOfElevations call.elevations call.given (judged_raster call.judged call.rasters header) i

-- the fact holds of the inputs that are the bytes of the call
abbrev pub OfCall : Call → (CallInputs → Type 0) → Type 0
OfCall call Fact = (i : CallInputs) → AreOfCall call i → Fact i
