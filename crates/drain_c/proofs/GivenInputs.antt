-- Inputs that are the bytes of a call: each part is read off them, and each name gives its corner.
use Rattle.drain_c.proofs.Names.{◌≡◌, ℕ, List, [], ◌∷◌, map, refl, subst, sym, judged_raster, AreOfElevations, CallInputs, Elevations, RasterTexts, of_dem, of_tiles, Corner, AreNames, SetProduct}
use Rattle.std.specs.List.{AllZip}
use Rattle.std.proofs.lemmas.List.Elements.{All-head, All-tail}
use Rattle.drain_c.specs.declared.call.Elevations.TheVariants.{Tiles, Dem}
use Rattle.drain_c.specs.Laws.{BytesAreInputs}
use Rattle.drain_c.proofs.MissingRasters.{missing_beside}
use Rattle.drain_hgt.specs.Name.{IsNameOf}
use Rattle.drain_hgt.specs.Laws.{NamesGiveCorners}
use Rattle.drain_verdict.specs.Given.{Given}

-- names that name tiles name those that the function gives
corners_named : (corner_of : List ℕ → Corner) → ((bytes : List ℕ) (c : Corner) → IsNameOf bytes c → corner_of bytes ≡ c) →
    (names : List (List ℕ)) → AreNames names → AllZip IsNameOf names (map corner_of names)
corners_named corner_of gives [] all = tt
corners_named corner_of gives (name ∷ names) all =
    let P : List ℕ → Type 0 = λ bytes. (c : Corner) × IsNameOf bytes c in
    let here : (c : Corner) × IsNameOf name c = All-head P name names all in
    (subst (IsNameOf name) (sym (gives name here.0 here.1)) here.1, corners_named corner_of gives names (All-tail P name names all))

-- over elevations of either kind
over_elevations : NamesGiveCorners → (elevations : Elevations) (given : Given) (raster : SetProduct → RasterTexts) → (i : CallInputs) × AreOfElevations elevations given raster i
over_elevations corner (Tiles side tiles) given raster = (
  of_tiles (record {
    side = side;
    names = map (λ t. t.name.bytes.now) tiles.now;
    corners = map corner.0 (map (λ t. t.name.bytes.now) tiles.now);
    tiles = map (λ t. t.samples.bytes.now) tiles.now;
    given = given;
    header = λ p. (raster p).header;
    raster = λ p. (raster p).pixels;
  }),
  record {
    side_is = refl;
    names_are = refl;
    corners_are = corners_named corner.0 corner.1 (map (λ t. t.name.bytes.now) tiles.now);
    tiles_are = refl;
    given_are = refl;
    headers_are = λ p. refl;
    rasters_are = λ p. refl;
  },
)
over_elevations corner (Dem dem) given raster = (
  of_dem (record {
    dem = record { header = dem.header.bytes.now; body = dem.pixels.bytes.now };
    texts = record { given = given; header = λ p. (raster p).header; raster = λ p. (raster p).pixels };
  }),
  record { dem_header_is = refl; dem_body_is = refl; given_are = refl; headers_are = λ p. refl; rasters_are = λ p. refl },
)

-- under a header that is right beside con
pub bytes_are_inputs : NamesGiveCorners → BytesAreInputs
bytes_are_inputs corner call =
    let header = missing_beside call.rasters.con.header.bytes.now in
    let found = over_elevations corner call.elevations call.given (judged_raster call.judged call.rasters header.0) in
    (found.0, record { header = header.0; header_is = header.1; bytes_are = found.1 })
