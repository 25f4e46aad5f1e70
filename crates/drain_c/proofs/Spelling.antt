-- What an audit and a check say of the sources of a call holds of the bytes of the call.
use Rattle.drain_c.proofs.Names.{◌≡◌, ℕ, ◌+◌, ◌<◌, List, [], ◌∷◌, ◌++◌, length, map, take, get_or, Option, IfOk, refl, sym, ap, subst, ◌∙◌, take_more, AreOfElevations, Call, CallInputs, DemInputs, Elevations, OfCall, RasterTexts, as_passed, judged_raster, of_dem, of_tiles, set_in, IsTileOf, AreTilesOf, AreRastersOf, AreJudgedOf, IsRasterOf, SetProduct, Refusal, DemTexts, EncodesDem, EncodeTexts, GroundSet, IfOk-weaker, IsOutcomeIn, Judged, Outcome, dem_ground, tile_ground, ForCheck, Inputs, Encode, SetTexts}
use Rattle.std.proofs.Common.{Some, Result, Ok, Err}
use Rattle.std.proofs.lemmas.Slice.Zip.{all_zipped_more}
use Rattle.drain_c.specs.declared.given.TileBytes.{TileBytes}
use Rattle.drain_c.specs.declared.call.Elevations.TheVariants.{Tiles, Dem}
use Rattle.drain_c.specs.Questions.{IsAnswerTo, outcome_by}
use Rattle.drain_c.proofs.CutInputs.{AreAnswers, answer_kept, answers_by, cut_dem, cut_tiles, first_bytes, same}
use Rattle.drain_hgt.specs.declared.input.TileInput.{TileInput}
use Rattle.drain_hgt.specs.Inputs.{names_of, AreBodies}
use Rattle.drain_verdict.specs.Given.{Given}
use Rattle.drain_verdict.specs.Inputs.{Products}
use Rattle.drain_sets.specs.declared.raster_input.RasterInput.{RasterInput}
use Rattle.drain_verdict.proofs.StartAnswers.{of_tiles as of_tiles_set}
use Rattle.drain_verdict.specs.GroundSets.{ForSet}
use Rattle.drain_verdict.specs.TileGround.{TellTiles}

-- A fact of the sources of a call is one of the inputs with the first bytes of each header. For: what a fact of the sources
-- is.
abbrev pub AreSources : Call → ((CallInputs → Type 0) → Type 0) → Type 1
AreSources call For = (Fact : CallInputs → Type 0) → For Fact → OfCall call (λ i. Fact (first_bytes i))

-- the answer to the sources is the answer to the bytes
pub answer_of_bytes : {V : Type 0} (call : Call) (For : (CallInputs → Type 0) → Type 0) → AreSources call For → (Is : GroundSet → Result V Refusal → Type 0) → AreAnswers Is → (answer : Result V Refusal) →
    For (λ i. Is (set_in i) answer) → OfCall call (λ i. Is (set_in i) answer)
answer_of_bytes call For sources Is are answer is i of = answer_kept Is are answer i (sources (λ j. Is (set_in j) answer) is i of)

-- if there is a verdict, a fact of the sources is one of the bytes
pub fact_of_bytes : {V : Type 0} (call : Call) (For : (CallInputs → Type 0) → Type 0) → AreSources call For → (Is : GroundSet → Result V Refusal → Type 0) → AreAnswers Is → (Fact : V → CallInputs → Type 0) (answer : Result V Refusal) →
    For (λ i. Is (set_in i) answer) → IfOk answer (λ v. For (Fact v)) → IfOk answer (λ v. OfCall call (Fact v))
fact_of_bytes call For sources Is are Fact (Ok v) is fact = λ i of.
    subst (Fact v) (same i (are.readable (set_in (first_bytes i)) v (sources (λ j. Is (set_in j) (Ok v)) is i of))) (sources (Fact v) fact i of)
fact_of_bytes call For sources Is are Fact (Err refusal) is fact = tt

-- what an answer says of the sources, it says of the call
answered : {A : Type 0} (call : Call) (outcome : A → Outcome) (Says : Judged → GroundSet → A → Type 0) (answer : Result A Refusal) (For : (CallInputs → Type 0) → Type 0) → AreSources call For →
    For (λ i. IsOutcomeIn call.judged (set_in i) (outcome_by outcome answer)) → IfOk answer (λ a. For (λ i. Says call.judged (set_in i) a)) → IsAnswerTo call outcome Says answer
answered call outcome Says answer For sources is says = record {
  outcome_is = answer_of_bytes call For sources (λ s answer. IsOutcomeIn call.judged s (outcome_by outcome answer)) (answers_by call.judged outcome) answer is;
  says = fact_of_bytes call For sources (λ s answer. IsOutcomeIn call.judged s (outcome_by outcome answer)) (answers_by call.judged outcome) (λ a i. Says call.judged (set_in i) a) answer is says;
}

-- Tiles.

-- one tile more is taken
pub one_tile_more : {R : Type 0} (bytes_left : R → Option (List ℕ)) (given : List TileBytes) (tiles : List (TileInput R)) (i : ℕ) (d : TileBytes) (tile : TileInput R) →
    i < length given → AreTilesOf bytes_left (take i given) tiles → IsTileOf bytes_left (get_or given i d) tile →
    AreTilesOf bytes_left (take (i + 1) given) (tiles ++ tile ∷ [])
one_tile_more bytes_left given tiles i d tile below are is =
    rw (take_more given i d below) (all_zipped_more (IsTileOf bytes_left) (take i given) tiles (get_or given i d) tile are is)

same_names : {R : Type 0} (bytes_left : R → Option (List ℕ)) (given : List TileBytes) (tiles : List (TileInput R)) → AreTilesOf bytes_left given tiles →
    map (λ t. t.name.bytes.now) given ≡ names_of tiles
same_names bytes_left [] [] are = refl
same_names bytes_left [] (tile ∷ tiles) are = absurd are
same_names bytes_left (g ∷ given) [] are = absurd are
same_names bytes_left (g ∷ given) (tile ∷ tiles) are =
    let here : tile.name ≡ g.name.bytes.now = are.0.0 in
    let rest : map (λ t. t.name.bytes.now) given ≡ names_of tiles = same_names bytes_left given tiles are.1 in
    cc

bodies : {R : Type 0} (bytes_left : R → Option (List ℕ)) (given : List TileBytes) (tiles : List (TileInput R)) → AreTilesOf bytes_left given tiles →
    AreBodies bytes_left tiles (map (λ t. t.samples.bytes.now) given)
bodies bytes_left [] [] are = tt
bodies bytes_left [] (tile ∷ tiles) are = absurd are
bodies bytes_left (g ∷ given) [] are = absurd are
bodies bytes_left (g ∷ given) (tile ∷ tiles) are = (are.0.1, bodies bytes_left given tiles are.1)

-- the tiles of this side are those of the call
abbrev pub HasTiles : {R : Type 0} → (R → Option (List ℕ)) → Elevations → ℕ → List (TileInput R) → Type 0
HasTiles bytes_left (Tiles side given) of_side tiles = (side ≡ of_side) × AreTilesOf bytes_left given.now tiles
HasTiles bytes_left (Dem dem) of_side tiles = ⊥

-- the sources have the bytes of the inputs, and the first bytes of each header
tells : {R : Type 0} (bytes_left : R → Option (List ℕ)) (elevations : Elevations) (side : ℕ) (beside : Given) (raster : SetProduct → RasterTexts)
    (tiles : List (TileInput R)) (ps : Products R) → HasTiles bytes_left elevations side tiles → AreRastersOf bytes_left raster ps →
    (i : Inputs) → AreOfElevations elevations beside raster (of_tiles i) → Encode bytes_left side tiles beside ps (cut_tiles i)
tells bytes_left (Dem dem) side beside raster tiles ps has are_rasters i are = absurd has
tells bytes_left (Tiles of_side given) side beside raster tiles ps has are_rasters i are = record {
  side_is = are.side_is ∙ has.0;
  names_are = are.names_are ∙ same_names bytes_left given.now tiles has.1;
  corners_are = are.corners_are;
  tiles_are = subst (AreBodies bytes_left tiles) (sym are.tiles_are) (bodies bytes_left given.now tiles has.1);
  given_is = are.given_are;
  headers_are = λ p. ap (take 65537) (are.headers_are p) ∙ sym (are_rasters p).0;
  rasters_are = λ p. (are_rasters p).1 ∙ ap Some (sym (are.rasters_are p));
}

not_dem : {R : Type 0} (bytes_left : R → Option (List ℕ)) (elevations : Elevations) (side : ℕ) (tiles : List (TileInput R)) (beside : Given) (raster : SetProduct → RasterTexts) (i : DemInputs) →
    HasTiles bytes_left elevations side tiles → AreOfElevations elevations beside raster (of_dem i) → ⊥
not_dem bytes_left (Tiles of_side given) side tiles beside raster i has are = are
not_dem bytes_left (Dem dem) side tiles beside raster i has are = has

-- the fact holds of the inputs that the sources have
abbrev pub ForTiles : {R : Type 0} → (R → Option (List ℕ)) → ℕ → List (TileInput R) → Given → Products R → (CallInputs → Type 0) → Type 0
ForTiles bytes_left side tiles beside ps Fact = ForCheck bytes_left side tiles beside ps (λ i. Fact (of_tiles i))

pub tile_sources : {R : Type 0} (bytes_left : R → Option (List ℕ)) (call : Call) (side : ℕ) (tiles : List (TileInput R)) (ps : Products R) →
    HasTiles bytes_left call.elevations side tiles → AreJudgedOf bytes_left call.judged call.rasters ps → AreSources call (ForTiles bytes_left side tiles call.given ps)
tile_sources bytes_left call side tiles ps has are Fact fact (of_tiles i) of =
    fact (cut_tiles i) (tells bytes_left call.elevations side call.given (judged_raster call.judged call.rasters of.header) tiles ps has (are of.header of.header_is) i of.bytes_are)
tile_sources bytes_left call side tiles ps has are Fact fact (of_dem i) of =
    absurd (not_dem bytes_left call.elevations side tiles call.given (judged_raster call.judged call.rasters of.header) i has of.bytes_are)

pub answered_on_tiles : {A R : Type 0} (bytes_left : R → Option (List ℕ)) (call : Call) (side : ℕ) (tiles : List (TileInput R)) (ps : Products R) →
    HasTiles bytes_left call.elevations side tiles → AreJudgedOf bytes_left call.judged call.rasters ps → (outcome : A → Outcome) (Says : Judged → GroundSet → A → Type 0) (answer : Result A Refusal) →
    ForSet tile_ground (TellTiles bytes_left side tiles) bytes_left call.given ps (λ s. IsOutcomeIn call.judged s (outcome_by outcome answer)) →
    IfOk answer (λ a. ForSet tile_ground (TellTiles bytes_left side tiles) bytes_left call.given ps (λ s. Says call.judged s a)) → IsAnswerTo call outcome Says answer
answered_on_tiles bytes_left call side tiles ps has are outcome Says answer is says =
    answered call outcome Says answer (ForTiles bytes_left side tiles call.given ps) (tile_sources bytes_left call side tiles ps has are)
    (of_tiles_set bytes_left side tiles call.given ps (λ s. IsOutcomeIn call.judged s (outcome_by outcome answer)) is)
    (IfOk-weaker answer _ _ (λ a. of_tiles_set bytes_left side tiles call.given ps (λ s. Says call.judged s a)) says)

-- One raster of elevations.

-- a raster alone
abbrev pub one_dem : {R : Type 0} → RasterInput R → List (RasterInput R)
one_dem dem = dem ∷ []

-- the raster is that of the call
abbrev pub HasDem : {R : Type 0} → (R → Option (List ℕ)) → Elevations → RasterInput R → Type 0
HasDem bytes_left (Tiles side given) dem = ⊥
HasDem bytes_left (Dem given) dem = IsRasterOf bytes_left (as_passed given) dem

-- the fact holds of the inputs that the sources have
abbrev pub ForDemInputs : {R : Type 0} → (R → Option (List ℕ)) → List (RasterInput R) → Given → Products R → (CallInputs → Type 0) → Type 0
ForDemInputs bytes_left dem beside ps Fact = (d : DemTexts) (t : SetTexts) → EncodesDem bytes_left dem d → EncodeTexts bytes_left beside ps t → Fact (of_dem (record { dem = d; texts = t }))

-- the inputs, with the first bytes of each header, are what the sources have
dem_told : {R : Type 0} (bytes_left : R → Option (List ℕ)) (elevations : Elevations) (beside : Given) (raster : SetProduct → RasterTexts)
    (dem : RasterInput R) (ps : Products R) → HasDem bytes_left elevations dem → AreRastersOf bytes_left raster ps →
    (Fact : CallInputs → Type 0) → ForDemInputs bytes_left (dem ∷ []) beside ps Fact → (i : DemInputs) → AreOfElevations elevations beside raster (of_dem i) → Fact (of_dem (cut_dem i))
dem_told bytes_left (Tiles side given) beside raster dem ps has are_rasters Fact fact i are = absurd has
dem_told bytes_left (Dem given) beside raster dem ps has are_rasters Fact fact i are =
    fact (cut_dem i).dem (cut_dem i).texts
    (ap (take 65537) are.dem_header_is ∙ sym has.0, has.1 ∙ ap Some (sym are.dem_body_is))
    (record {
      given_is = are.given_are;
      headers_are = λ p. ap (take 65537) (are.headers_are p) ∙ sym (are_rasters p).0;
      rasters_are = λ p. (are_rasters p).1 ∙ ap Some (sym (are.rasters_are p));
    })

not_tiles : {R : Type 0} (bytes_left : R → Option (List ℕ)) (elevations : Elevations) (dem : RasterInput R) (beside : Given) (raster : SetProduct → RasterTexts) (i : Inputs) →
    HasDem bytes_left elevations dem → AreOfElevations elevations beside raster (of_tiles i) → ⊥
not_tiles bytes_left (Tiles side given) dem beside raster i has are = has
not_tiles bytes_left (Dem given) dem beside raster i has are = are

pub dem_sources : {R : Type 0} (bytes_left : R → Option (List ℕ)) (call : Call) (dem : RasterInput R) (ps : Products R) →
    HasDem bytes_left call.elevations dem → AreJudgedOf bytes_left call.judged call.rasters ps → AreSources call (ForDemInputs bytes_left (dem ∷ []) call.given ps)
dem_sources bytes_left call dem ps has are Fact fact (of_dem i) of =
    dem_told bytes_left call.elevations call.given (judged_raster call.judged call.rasters of.header) dem ps has (are of.header of.header_is) Fact fact i of.bytes_are
dem_sources bytes_left call dem ps has are Fact fact (of_tiles i) of =
    absurd (not_tiles bytes_left call.elevations dem call.given (judged_raster call.judged call.rasters of.header) i has of.bytes_are)

pub answered_on_dem : {A R : Type 0} (bytes_left : R → Option (List ℕ)) (call : Call) (dem : RasterInput R) (ps : Products R) →
    HasDem bytes_left call.elevations dem → AreJudgedOf bytes_left call.judged call.rasters ps → (outcome : A → Outcome) (Says : Judged → GroundSet → A → Type 0) (answer : Result A Refusal) →
    ForSet dem_ground (EncodesDem bytes_left (one_dem dem)) bytes_left call.given ps (λ s. IsOutcomeIn call.judged s (outcome_by outcome answer)) →
    IfOk answer (λ a. ForSet dem_ground (EncodesDem bytes_left (one_dem dem)) bytes_left call.given ps (λ s. Says call.judged s a)) → IsAnswerTo call outcome Says answer
answered_on_dem bytes_left call dem ps has are outcome Says answer is says =
    answered call outcome Says answer (ForDemInputs bytes_left (one_dem dem) call.given ps) (dem_sources bytes_left call dem ps has are) is says
