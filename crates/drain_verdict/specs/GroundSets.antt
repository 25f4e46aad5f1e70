-- A ground with a list of sinks, its spacing and its products: what their bytes mean, and why they are refused.
use Rattle.std.specs.Prelude.{◌≡◌, ◌+◌, ◌*◌, ◌<◌}
use Rattle.drain_verdict.specs.Names.{ℕ, List, Option, Some, Result, Ok, Err, Refusal, BadHeader, WrongShape, Misplaced, RasterShort, BadSinkLine, SinkNotData, BadSpacingLine, SpacingRows, OutOfMemory, ReadFailed, HeightKind, Judged, Rules, PerProduct, SetProduct, IsOffData, of_product, OfSetProduct, place_of, sinks_of, NoDataNumbers, AnswersOf, Fields, header_extent, IsShort, IsFirst}
use Rattle.drain_grid.specs.Grid as grid
use Rattle.drain_verdict.specs.Given.{Given, HasBadSpacing, HasOtherRows}
use Rattle.drain_verdict.specs.Ground.{Ground, refusal_kind}
use Rattle.drain_verdict.specs.Inputs.{Products}
use Rattle.drain_verdict.specs.Texts.{SetTexts, grid_on, kind_in, set_fields, set_listed, text_numbers, text_products}

-- a ground, and what is said to lie on it
pub record GroundSet : Type 1 where
  pub terrain : Ground
  pub texts : SetTexts

-- the arguments encode these texts, where the bytes of devices are known
pub record EncodeTexts {R : Type 0} (bytes_left : R → Option (List ℕ)) (given : Given) (ps : Products R) (t : SetTexts) : Type 0 where
  pub given_is : t.given ≡ given
  pub headers_are : (p : SetProduct) → t.header p ≡ (of_product ps p).header
  pub rasters_are : (p : SetProduct) → bytes_left (of_product ps p).body ≡ Some (t.raster p)

-- the fact holds of the set of the call: of a ground that its inputs mean, and of the texts that its arguments encode
abbrev pub ForSet : {X R : Type 0} → (X → Ground) → (X → Type 0) → (R → Option (List ℕ)) → Given → Products R → (GroundSet → Type 0) → Type 0
ForSet {X} terrain Means bytes_left given ps Fact =
    (x : X) (t : SetTexts) → Means x → EncodeTexts bytes_left given ps t → Fact (record { terrain = terrain x; texts = t })

-- the fact holds of what the inputs of the call mean, where the texts too are known
abbrev pub ForTexts : {X R : Type 0} → (X → Type 0) → (R → Option (List ℕ)) → Given → Products R → (X → Type 0) → Type 0
ForTexts {X} Means bytes_left given ps Fact = (x : X) (t : SetTexts) → Means x → EncodeTexts bytes_left given ps t → Fact x

-- What the bytes mean.

-- the grid of the elevations and the listed sinks, whose cells are as far apart as given
abbrev pub set_grid : GroundSet → grid.Grid
set_grid s = grid_on s.terrain.kind s.terrain.extent s.terrain.elevation s.texts

abbrev pub set_products : GroundSet → grid.Products
set_products s = text_products s.terrain.kind s.texts

-- the no-data numbers of the products
abbrev pub set_numbers : GroundSet → NoDataNumbers
set_numbers s = text_numbers s.terrain.kind s.texts

-- the rules about judged rasters of the set
abbrev pub rules_in : Judged → GroundSet → Rules
rules_in judged s = record { nodata = set_numbers s; judged = judged }

-- Why they are refused: what each refusal says, and the order in which they are reported. Both are this project's own.

-- the product's header gives the rows and columns of the ground
abbrev pub HasShapeIn : GroundSet → SetProduct → Type 0
HasShapeIn s p = header_extent (set_fields s.terrain.kind s.texts p) ≡ s.terrain.extent

-- of a product only if it is read; out of memory and a failed read aren't about bytes; the others are the ground's own
abbrev pub StandsIn : GroundSet → Refusal → Type 0
StandsIn s (BadHeader p fault) = OfSetProduct (λ h. AnswersOf (kind_in s.terrain.kind h) (s.texts.header h) (Err fault)) p
StandsIn s (WrongShape p) = OfSetProduct (λ h. ¬ HasShapeIn s h) p
StandsIn s (Misplaced p) = OfSetProduct (λ h. ¬ s.terrain.Holds (set_fields s.terrain.kind s.texts h).place) p
StandsIn s (RasterShort p) = OfSetProduct (λ h. IsShort (set_fields s.terrain.kind s.texts h) (s.texts.raster h)) p
StandsIn s (BadSinkLine n) = sinks_of s.texts.given.sinks ≡ Err n
StandsIn s (SinkNotData n) = IsOffData (set_grid s) (set_listed s.texts) n
StandsIn s (BadSpacingLine n) = HasBadSpacing s.texts.given.spacing n
StandsIn s (SpacingRows n) = HasOtherRows s.texts.given.spacing s.terrain.extent n
StandsIn s OutOfMemory = ⊥
StandsIn s ReadFailed = ⊥
StandsIn s refusal = s.terrain.Refuses refusal

-- the place of a refusal among those of its kind; those of one product's header come before those of the next product
abbrev pub place_in : GroundSet → Refusal → ℕ
place_in s (BadHeader p fault) = 3 * place_of p
place_in s (WrongShape p) = 3 * place_of p + 1
place_in s (Misplaced p) = 3 * place_of p + 2
place_in s (RasterShort p) = place_of p
place_in s (BadSinkLine n) = n
place_in s (SinkNotData n) = n
place_in s (BadSpacingLine n) = n
place_in s (SpacingRows n) = n
place_in s OutOfMemory = 0
place_in s ReadFailed = 0
place_in s refusal = s.terrain.among refusal

-- the order of the refusals
abbrev pub order_in : GroundSet → Refusal → ℕ × ℕ
order_in s refusal = (refusal_kind refusal, place_in s refusal)

-- no refusal of a kind before this one applies
abbrev pub NoneStandsIn : GroundSet → ℕ → Type 0
NoneStandsIn s kind = (refusal : Refusal) → refusal_kind refusal < kind → ¬ StandsIn s refusal

-- no refusal applies
abbrev pub IsReadable : GroundSet → Type 0
IsReadable s = (refusal : Refusal) → ¬ StandsIn s refusal

-- the refusal is the first that applies; out of memory and a failed read say nothing of the bytes
abbrev pub IsRefusalIn : GroundSet → Refusal → Type 0
IsRefusalIn s OutOfMemory = Unit {0}
IsRefusalIn s ReadFailed = Unit {0}
IsRefusalIn s refusal = IsFirst (order_in s) (StandsIn s) refusal

-- so it is of the ground, whatever is said to lie on it
abbrev pub IsGroundRefusal : Ground → Refusal → Type 0
IsGroundRefusal g refusal = (t : SetTexts) → IsRefusalIn (record { terrain = g; texts = t }) refusal

-- the set is read to the end: no refusal applies, or this is the first
abbrev pub IsReadIn : {T : Type 0} → GroundSet → Result T Refusal → Type 0
IsReadIn s (Ok read) = IsReadable s
IsReadIn s (Err refusal) = IsRefusalIn s refusal

-- notes of a grid's rows that are of all rows of the set's grid, under these rules
abbrev pub AreNotesIn : {K : Type 0} → (Rules → grid.Grid → grid.Products → ℕ → K → Type 0) → Judged → GroundSet → K → Type 0
AreNotesIn are_of judged s notes = are_of (rules_in judged s) (set_grid s) (set_products s) (set_grid s).extent.rows notes

-- these are the headers that the texts describe on heights of this kind, and the products have these bodies
pub record AreTextsIn {R : Type 0} (bytes_left : R → Option (List ℕ)) (kind : HeightKind) (hs : PerProduct Fields) (ps : Products R) (t : SetTexts) : Type 0 where
  pub fields : (p : SetProduct) → of_product hs p ≡ set_fields kind t p
  pub rasters : (p : SetProduct) → bytes_left (of_product ps p).body ≡ Some (t.raster p)

-- the fact holds of each set with a ground of these texts, and with such headers, rasters and what is given, of which no
-- refusal of the ground alone or of a header applies
abbrev pub ForRead : {X R : Type 0} → (X → Ground) → (X → Type 0) → (R → Option (List ℕ)) → PerProduct Fields → Products R → (SetTexts → Type 0) → (GroundSet → Type 0) → Type 0
ForRead {X} terrain Means bytes_left hs ps Lists Fact =
    (x : X) (t : SetTexts) → Means x → AreTextsIn bytes_left (terrain x).kind hs ps t → Lists t → NoneStandsIn (record { terrain = terrain x; texts = t }) 5 → Fact (record { terrain = terrain x; texts = t })
