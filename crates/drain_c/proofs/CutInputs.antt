-- Inputs of a call with the first bytes of each header: of tiles, and of one raster of elevations, whose own header may be
-- too long as well. The answer to them is the answer to the inputs.
use Rattle.drain_c.proofs.Names.{◌≡◌, ℕ, ◌↔◌, List, take, arith, inl, inr, refl, ap, subst, ◌∙◌, slice_get, Refusal, BadSide, BadTileLength, BadDemHeader, OutOfMemory, ReadFailed, CallInputs, DemInputs, dem_set, of_dem, of_tiles, set_in, Judged, Outcome, TooLong, Corner, IsFirst, DemTexts, dem_ground, kind_of, GroundSet, IsReadable, IsRefusalIn, StandsIn, order_in, Inputs, IsOutcomeIn, HasBadLength, TilesRefuse, set_of, tile_ground, tile_place, header_answer}
use Rattle.std.specs.Prelude.{Some, Result, Ok, Err}
use Rattle.drain_c.specs.Questions.{outcome_by}
use Rattle.drain_c.proofs.LongHeaders.{IsLong, SameRefusals, cut_texts, own, long_fault, refusal_kept, same_texts, set_on, short_or_long, too_long}
use Rattle.drain_hgt.specs.Samples.{IsTile}
use Rattle.drain_verdict.specs.Meaning.{texts_of}

-- answers to sets: a verdict on readable ones alone, else the first refusal that applies
pub record AreAnswers {V : Type 0} (Is : GroundSet → Result V Refusal → Type 0) : Type 1 where
  pub readable : (s : GroundSet) (v : V) → Is s (Ok v) → IsReadable s
  pub refused : (s : GroundSet) (refusal : Refusal) → Is s (Err refusal) → IsRefusalIn s refusal
  pub refuses : (s : GroundSet) (refusal : Refusal) → IsRefusalIn s refusal → Is s (Err refusal)

-- so are those with an outcome for judged rasters
pub answers_by : {A : Type 0} (judged : Judged) (outcome : A → Outcome) → AreAnswers (λ s answer. IsOutcomeIn judged s (outcome_by outcome answer))
answers_by judged outcome = record { readable = λ s v is. is.0; refused = λ s refusal is. is; refuses = λ s refusal is. is }

-- Tiles.

abbrev pub cut_tiles : Inputs → Inputs
cut_tiles i = record {
  side = i.side;
  names = i.names;
  corners = i.corners;
  tiles = i.tiles;
  given = i.given;
  header = λ p. take 65537 (i.header p);
  raster = i.raster;
}

-- a tile's length is no header's
same_length : (i j : Inputs) (c : Corner) → i.side ≡ j.side → i.corners ≡ j.corners → i.tiles ≡ j.tiles → HasBadLength i c → HasBadLength j c
same_length i j c side corners tiles bad = record {
  place = bad.place;
  body = bad.body;
  corner_is = subst (λ cs. slice_get cs bad.place ≡ Some c) corners bad.corner_is;
  body_is = subst (λ ts. slice_get ts bad.place ≡ Some bad.body) tiles bad.body_is;
  length_is_not = subst (λ s. ¬ IsTile s bad.body) side bad.length_is_not;
}

-- nor is any refusal of tiles
pub applies : (i : Inputs) (refusal : Refusal) → TilesRefuse (cut_tiles i) refusal ↔ TilesRefuse i refusal
applies i (BadTileLength c) = (same_length (cut_tiles i) i c refl refl refl, same_length i (cut_tiles i) c refl refl refl)
applies i refusal = ((λ is. is), (λ is. is))

pub places : (i : Inputs) (refusal : Refusal) → tile_place (cut_tiles i) refusal ≡ tile_place i refusal
places i BadSide = refl
places i refusal = refl

abbrev pub tile_refusals : (i : Inputs) → SameRefusals (tile_ground i)
tile_refusals i = record { Refuses = TilesRefuse (cut_tiles i); among = tile_place (cut_tiles i); applies = applies i; places = places i }

same_tiles : (i : Inputs) → IsReadable (set_of (cut_tiles i)) → cut_tiles i ≡ i
same_tiles i readable =
    ap (λ t. record { side = i.side; names = i.names; corners = i.corners; tiles = i.tiles; given = t.given; header = t.header; raster = t.raster })
    (same_texts (tile_ground i) (tile_refusals i) (texts_of i) readable)

-- One raster of elevations.

-- with this text for its header
abbrev with_header : DemInputs → List ℕ → DemTexts
with_header i header = record { header = header; body = i.dem.body }

abbrev pub cut_dem : DemInputs → DemInputs
cut_dem i = record { dem = with_header i (take 65537 i.dem.header); texts = cut_texts i.texts }

-- a header that is too long is the first refusal, and the only one
long_refused : (i : DemInputs) → IsLong i.dem.header → StandsIn (dem_set (cut_dem i)) (BadDemHeader TooLong)
long_refused i long = too_long (kind_of (take 65537 i.dem.header)) (take 65537 i.dem.header) long.first_bytes

of_long : (i : DemInputs) → IsLong i.dem.header → (refusal : Refusal) → IsFirst (order_in (dem_set (cut_dem i))) (StandsIn (dem_set (cut_dem i))) refusal →
    IsRefusalIn (dem_set i) refusal
of_long i long (BadDemHeader fault) is = header_answer i.dem i.texts (BadDemHeader fault) (long_fault (kind_of (take 65537 i.dem.header)) (kind_of i.dem.header) i.dem.header fault long is.holds)
of_long i long BadSide is = absurd is.holds
of_long i long refusal is = absurd (is.first (BadDemHeader TooLong) (inl (omega arith)) (long_refused i long))

-- as it is said of the ground
refused_long : (i : DemInputs) → IsLong i.dem.header → (refusal : Refusal) → IsRefusalIn (dem_set (cut_dem i)) refusal → IsRefusalIn (dem_set i) refusal
refused_long i long OutOfMemory is = tt
refused_long i long ReadFailed is = tt
refused_long i long refusal is = of_long i long refusal is

dem_refusal_kept : (i : DemInputs) (refusal : Refusal) → IsRefusalIn (dem_set (cut_dem i)) refusal → IsRefusalIn (dem_set i) refusal
dem_refusal_kept i refusal is = elim (short_or_long i.dem.header) [
  | inl kept ↦ refusal_kept (dem_ground i.dem) (own (dem_ground i.dem)) i.texts refusal
      (subst (λ header. IsRefusalIn (set_on (dem_ground (with_header i header)) (cut_texts i.texts)) refusal) kept is)
  | inr long ↦ refused_long i long refusal is
]

same_dem : (i : DemInputs) → IsReadable (dem_set (cut_dem i)) → cut_dem i ≡ i
same_dem i readable = elim (short_or_long i.dem.header) [
  | inl kept ↦ (
      let short : IsReadable (set_on (dem_ground i.dem) (cut_texts i.texts)) =
      subst (λ header. IsReadable (set_on (dem_ground (with_header i header)) (cut_texts i.texts))) kept readable in
      ap (λ header. record { dem = with_header i header; texts = cut_texts i.texts }) kept
      ∙ ap (λ texts. record { dem = i.dem; texts = texts }) (same_texts (dem_ground i.dem) (own (dem_ground i.dem)) i.texts short))
  | inr long ↦ absurd (readable (BadDemHeader TooLong) (long_refused i long))
]

-- Either.

-- the inputs with the first bytes of each header
abbrev pub first_bytes : CallInputs → CallInputs
first_bytes (of_tiles i) = of_tiles (cut_tiles i)
first_bytes (of_dem i) = of_dem (cut_dem i)

pub cut_refusal_kept : (i : CallInputs) (refusal : Refusal) → IsRefusalIn (set_in (first_bytes i)) refusal → IsRefusalIn (set_in i) refusal
cut_refusal_kept (of_tiles i) refusal is = refusal_kept (tile_ground i) (tile_refusals i) (texts_of i) refusal is
cut_refusal_kept (of_dem i) refusal is = dem_refusal_kept i refusal is

-- where they are readable, they are the inputs
pub same : (i : CallInputs) → IsReadable (set_in (first_bytes i)) → first_bytes i ≡ i
same (of_tiles i) readable = ap (λ j. of_tiles j) (same_tiles i readable)
same (of_dem i) readable = ap (λ j. of_dem j) (same_dem i readable)

-- the answer to them is the answer to the inputs
pub answer_kept : {V : Type 0} (Is : GroundSet → Result V Refusal → Type 0) → AreAnswers Is → (answer : Result V Refusal) (i : CallInputs) →
    Is (set_in (first_bytes i)) answer → Is (set_in i) answer
answer_kept Is are (Ok v) i is = subst (λ j. Is (set_in j) (Ok v)) (same i (are.readable (set_in (first_bytes i)) v is)) is
answer_kept Is are (Err refusal) i is = are.refuses (set_in i) refusal (cut_refusal_kept i refusal (are.refused (set_in (first_bytes i)) refusal is))
