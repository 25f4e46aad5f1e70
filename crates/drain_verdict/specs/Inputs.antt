-- The bytes that a check is about.
use Rattle.std.specs.Prelude.{◌≡◌, ◌∷◌, ◌++◌}
use Rattle.drain_verdict.specs.Names.{ℕ, List, Option, Some, [], AllZip, SetProduct, PerProduct, of_product, TileInput, Corner, IsNameOf, names_of, AreBodies, tile_devices, RasterInput, RasterRows, AuditProducts}
use Rattle.std.specs.List.{All}
use Rattle.drain_verdict.specs.Given.{Given}

-- the side, the names of the tiles, which tiles they name, the tiles' bodies, the list of sinks and how far apart cells are,
-- and each product's header and body
pub record Inputs : Type 0 where
  pub side : ℕ
  pub names : List (List ℕ)
  pub corners : List Corner
  pub tiles : List (List ℕ)
  pub given : Given
  pub header : SetProduct → List ℕ
  pub raster : SetProduct → List ℕ

-- the products of one mosaic
abbrev pub Products : Type 0 → Type 0
Products R = PerProduct (RasterInput R)

-- each name names a tile
abbrev pub AreNames : List (List ℕ) → Type 0
AreNames names = All (λ name. (c : Corner) × IsNameOf name c) names

-- the arguments encode these inputs, where the bytes of devices are known
pub record Encode {R : Type 0} (bytes_left : R → Option (List ℕ)) (side : ℕ) (tiles : List (TileInput R)) (given : Given) (ps : Products R) (i : Inputs) : Type 0 where
  pub side_is : i.side ≡ side
  pub names_are : i.names ≡ names_of tiles
  pub corners_are : AreNames i.names → AllZip IsNameOf i.names i.corners
  pub tiles_are : AreBodies bytes_left tiles i.tiles
  pub given_is : i.given ≡ given
  pub headers_are : (p : SetProduct) → i.header p ≡ (of_product ps p).header
  pub rasters_are : (p : SetProduct) → bytes_left (of_product ps p).body ≡ Some (i.raster p)

-- The four products of an audit, as the five that are read: dir takes the place of ranks, which an audit ignores.

-- the four, and dir once more
abbrev pub as_five : {R : Type 0} → AuditProducts R → Products R
as_five ps = record { con = ps.con; dir = ps.dir; acc = ps.acc; bas = ps.bas; rnk = ps.dir }

-- the devices of the products of an audit
abbrev pub four_devices : {R : Type 0} → AuditProducts R → List R
four_devices ps = ps.con.body ∷ ps.dir.body ∷ ps.acc.body ∷ ps.bas.body ∷ []

-- the devices of an audit
abbrev pub audit_devices : {R : Type 0} → List (TileInput R) → AuditProducts R → List R
audit_devices tiles ps = tile_devices tiles ++ four_devices ps

-- the readers of the four, and dir's once more
abbrev pub readers_as_five : PerProduct RasterRows → PerProduct RasterRows
readers_as_five rasters = record { con = rasters.con; dir = rasters.dir; acc = rasters.acc; bas = rasters.bas; rnk = rasters.dir }
