-- The stages of the layout and the headers, put together.
use Rattle.drain_verdict.proofs.Names.{◌≡◌, List, length, IsErrOf, sym, ap, subst, ◌∙◌, AllZip, length-map, AllZip-long, HeightKind, Extent, SetProduct, PerProduct, product_of, of_product, TileInput, Corner, IsNameOf, OneName, names_of, Place, Fields, Tiling, extent_of, Refusal, ReadFailed, IsLaidOn, NoneRefusesBefore, AreTextsIn, EncodeTexts, ForSet, GroundSet, IsGroundRefusal, IsRefusalIn, NoneStandsIn, Inputs, Encode, input_grid, texts_of, tiling_of, set_of, TellTiles, tile_ground, IsAnswer, RasterTakesAtMost, BodyTakesAtMost, kind_in, AreHeadersFor, IsFirstRefusalOf, IsHeaderRefusal, IsLayoutOf, IsLayoutRefusal, AreHeadersOf}
use Rattle.std.proofs.Common.{ℕ, Err}
use Rattle.std.specs.Prelude.{Option}
use Rattle.drain_verdict.specs.Given.{Given}
use Rattle.drain_verdict.specs.Inputs.{Products}
use Rattle.drain_verdict.proofs.BodyAnswers.{early_none}
use Rattle.drain_verdict.proofs.HeaderAnswers.{header_refused, headers_are, headers_none, headers_of_same, told_of_same}
use Rattle.drain_verdict.proofs.LayoutAnswers.{layout_is, layout_refused, layout_refuses}

-- a layout has a name for each tile
pub named_each : {R : Type 0} (tiles : List (TileInput R)) (corners : List Corner) → AllZip IsNameOf (names_of tiles) corners → length tiles ≡ length corners
named_each tiles corners named = sym (AllZip-long IsNameOf (names_of tiles) corners named ∙ length-map tiles (λ t. t.name))

-- what is known of a side and names is known of those of the inputs
pub told_of_inputs : (P : ℕ → List (List ℕ) → Type 0) (i : Inputs) (side : ℕ) (names : List (List ℕ)) → i.side ≡ side → i.names ≡ names → P side names → P i.side i.names
told_of_inputs P i side names side_is names_are holds = subst (λ s. P s i.names) (sym side_is) (subst (P side) (sym names_are) holds)

layout_told : {R : Type 0} (bytes_left : R → Option (List ℕ)) (side : ℕ) (tiles : List (TileInput R)) (given : Given) (ps : Products R) (i : Inputs) (t : Tiling) →
    Encode bytes_left side tiles given ps i → IsLayoutOf side (names_of tiles) t → IsLayoutOf i.side i.names t
layout_told bytes_left side tiles given ps i t tell is = told_of_inputs (λ side names. IsLayoutOf side names t) i side (names_of tiles) tell.side_is tell.names_are is

-- the layout of a side and names is one of its own side
pub laid : (side : ℕ) (names : List (List ℕ)) (t : Tiling) → IsLayoutOf side names t → IsLayoutOf t.side names t
laid side names t is = subst (λ s. IsLayoutOf s names t) (sym is.side_is) is

-- and what is said of the side is said of that
pub at_side : {R : Type 0} (bytes_left : R → Option (List ℕ)) (side : ℕ) (tiles : List (TileInput R)) (given : Given) (ps : Products R) (i : Inputs) (t : Tiling) →
    IsLayoutOf side (names_of tiles) t → Encode bytes_left side tiles given ps i → Encode bytes_left t.side tiles given ps i
at_side bytes_left side tiles given ps i t is tell = subst (λ s. Encode bytes_left s tiles given ps i) (sym is.side_is) tell

-- it is that of the inputs
pub layout_of_inputs : OneName → {R : Type 0} (bytes_left : R → Option (List ℕ)) (side : ℕ) (tiles : List (TileInput R)) (given : Given) (ps : Products R) (i : Inputs) (t : Tiling) →
    Encode bytes_left side tiles given ps i → IsLayoutOf side (names_of tiles) t → t ≡ tiling_of i
layout_of_inputs one bytes_left side tiles given ps i t tell is = layout_is one i tell.corners_are t (layout_told bytes_left side tiles given ps i t tell is)

-- and a shape of its size is that of the grid
pub shape_of_inputs : OneName → {R : Type 0} (bytes_left : R → Option (List ℕ)) (t : Tiling) (tiles : List (TileInput R)) (given : Given) (ps : Products R) (i : Inputs) (shape : Extent) →
    Encode bytes_left t.side tiles given ps i → IsLayoutOf t.side (names_of tiles) t → shape ≡ extent_of t → shape ≡ (input_grid i).extent
shape_of_inputs one bytes_left t tiles given ps i shape tell is shape_is = shape_is ∙ ap extent_of (layout_of_inputs one bytes_left t.side tiles given ps i t tell is)

-- the refusal of the layout is the answer
pub layout_answer : OneName → {R : Type 0} (bytes_left : R → Option (List ℕ)) (side : ℕ) (tiles : List (TileInput R)) (given : Given) (ps : Products R) (i : Inputs) (refusal : Refusal) →
    Encode bytes_left side tiles given ps i → IsLayoutRefusal side (names_of tiles) refusal → IsAnswer i (Err refusal)
layout_answer one bytes_left side tiles given ps i refusal tell bad =
    layout_refused one i tell.corners_are refusal
    (told_of_inputs (λ side names. IsLayoutRefusal side names refusal) i side (names_of tiles) tell.side_is tell.names_are bad)

-- so it is of the ground
pub layout_first : OneName → {R : Type 0} (bytes_left : R → Option (List ℕ)) (side : ℕ) (tiles : List (TileInput R)) (refusal : Refusal) → IsLayoutRefusal side (names_of tiles) refusal →
    (i : Inputs) → TellTiles bytes_left side tiles i → IsGroundRefusal (tile_ground i) refusal
layout_first one bytes_left side tiles refusal bad i tell texts =
    layout_refuses one i texts tell.corners_are refusal
    (told_of_inputs (λ side names. IsLayoutRefusal side names refusal) i side (names_of tiles) tell.side_is tell.names_are bad)

-- no read failed there
pub layout_reads_none : {T : Type 0} (side : ℕ) (names : List (List ℕ)) (refusal : Refusal) → IsLayoutRefusal side names refusal → ¬ IsErrOf {T = T} (Err refusal) ReadFailed
layout_reads_none side names refusal bad is =
    let same : refusal ≡ ReadFailed = cc in
    subst (IsLayoutRefusal side names) same bad

-- what is encoded of the tiles
pub encode_tiles : {R : Type 0} (bytes_left : R → Option (List ℕ)) (side : ℕ) (tiles : List (TileInput R)) (given : Given) (ps : Products R) (i : Inputs) → Encode bytes_left side tiles given ps i → TellTiles bytes_left side tiles i
encode_tiles bytes_left side tiles given ps i tell = record { side_is = tell.side_is; names_are = tell.names_are; corners_are = tell.corners_are; tiles_are = tell.tiles_are }

-- and of the texts
pub encode_texts : {R : Type 0} (bytes_left : R → Option (List ℕ)) (side : ℕ) (tiles : List (TileInput R)) (given : Given) (ps : Products R) (i : Inputs) → Encode bytes_left side tiles given ps i → EncodeTexts bytes_left given ps (texts_of i)
encode_texts bytes_left side tiles given ps i tell = record { given_is = tell.given_is; headers_are = tell.headers_are; rasters_are = tell.rasters_are }

-- what holds of the set of the call holds of the inputs that it encodes
pub of_tiles : {R : Type 0} (bytes_left : R → Option (List ℕ)) (side : ℕ) (tiles : List (TileInput R)) (given : Given) (ps : Products R) (Fact : GroundSet → Type 0) →
    ForSet tile_ground (λ i. TellTiles bytes_left side tiles i) bytes_left given ps Fact → (i : Inputs) → Encode bytes_left side tiles given ps i → Fact (set_of i)
of_tiles bytes_left side tiles given ps Fact holds i tell = holds i (texts_of i) (encode_tiles bytes_left side tiles given ps i tell) (encode_texts bytes_left side tiles given ps i tell)

-- Headers of a set.

-- no read failed where a header was refused
pub header_reads_none : {T : Type 0} (kind : HeightKind) (e : Extent) (Holds : Place → Type 0) (text : SetProduct → List ℕ) (refusal : Refusal) → IsFirstRefusalOf kind e Holds text refusal → ¬ IsErrOf {T = T} (Err refusal) ReadFailed
header_reads_none kind e Holds text refusal bad is =
    let same : refusal ≡ ReadFailed = cc in
    subst (IsHeaderRefusal (kind_in kind bad.product) e Holds (product_of bad.product) (text bad.product)) same bad.refused

-- what a header needs is what its text says
pub takes_as_told : {R : Type 0} (bytes_left : R → Option (List ℕ)) (kind : HeightKind) (e : Extent) (Holds : Place → Type 0) (old new : Products R) (hs : PerProduct Fields) → AreHeadersFor kind e Holds old hs → (p : SetProduct) →
    BodyTakesAtMost bytes_left (of_product hs p) old new p → RasterTakesAtMost bytes_left old new p
takes_as_told bytes_left kind e Holds old new hs headers p taken = subst (λ (h : Fields). BodyTakesAtMost bytes_left h old new p) (headers p).described.fields taken

module _ {R : Type 0} (bytes_left : R → Option (List ℕ)) (s : GroundSet) (given : Given) (ps : Products R) (tell : EncodeTexts bytes_left given ps s.texts)
    (kind : HeightKind) (e : Extent) (Holds : Place → Type 0) (laid : IsLaidOn kind e Holds s.terrain) (early : NoneRefusesBefore s.terrain 4) where
  lies : IsLaidOn s.terrain.kind e Holds s.terrain
  lies = subst (λ (k : HeightKind). IsLaidOn k e Holds s.terrain) (sym laid.kind_is) laid

  -- the refusal of a header is the answer
  pub header_answer : (refusal : Refusal) → IsFirstRefusalOf kind e Holds (λ p. (of_product ps p).header) refusal → IsRefusalIn s refusal
  header_answer refusal bad =
      let told = told_of_same kind e Holds (λ p. (of_product ps p).header) s.texts.header refusal bad (λ p. sym (tell.headers_are p)) in
      header_refused s e Holds lies refusal (subst (λ (k : HeightKind). IsFirstRefusalOf k e Holds s.texts.header refusal) (sym laid.kind_is) told) (early_none s early)

  -- or the headers are theirs, and no refusal before the lengths applies
  pub started : (hs : PerProduct Fields) → AreHeadersFor kind e Holds ps hs → AreTextsIn bytes_left s.terrain.kind hs ps s.texts × NoneStandsIn s 5
  started hs are =
      let told = headers_of_same kind e Holds (λ p. (of_product ps p).header) s.texts.header hs are (λ p. sym (tell.headers_are p)) in
      let right = subst (λ (k : HeightKind). AreHeadersOf k e Holds s.texts.header hs) (sym laid.kind_is) told in
      (record { fields = headers_are s e Holds lies hs right; rasters = tell.rasters_are }, headers_none s e Holds lies hs right (early_none s early))
