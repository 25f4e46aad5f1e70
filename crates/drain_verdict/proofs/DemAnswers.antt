-- What the answers to a raster of elevations say, and what they use.
use Rattle.drain_verdict.proofs.Names.{◌≡◌, List, ◌∷◌, [], length, map, None, IsErrOf, refl, sym, ap, subst, arith, length-map, Refusal, BadDemHeader, BadPixelSize, DemShort, ReadFailed, FaultCounts, DescribesOf, Fields, HasPixelSize, AreHeadersKept, DemTakesAtMost, DemTexts, ElevationIsItsPixels, EncodesDem, HasDemHeader, IsDemHeader, IsDemHeaderRefusal, IsDemInput, dem_audit_devices, dem_check_devices, dem_devices, dem_fields, dem_ground, GroundSet, IsReadable, IsRefusalIn, StandsIn, SetTexts, as_five, UsesTold, AuditProducts, RasterInput, IsToldOf}
use Rattle.std.proofs.Common.{ℕ, slice_index_or, Option, Err}
use Rattle.drain_header.specs.Lines.{kind_of}
use Rattle.drain_verdict.proofs.AuditDevices.{set_devices_of_four}
use Rattle.drain_verdict.proofs.DemSteps.{dem_framed}
use Rattle.drain_verdict.proofs.Order.{at_side, first_of, none_first, none_more, own_length}

-- a raster with what is said to lie on it
abbrev pub dem_set : DemTexts → SetTexts → GroundSet
dem_set d t = record { terrain = dem_ground d; texts = t }

-- The header.

-- why the header is refused is the first refusal that applies
pub header_answer : (d : DemTexts) (t : SetTexts) (refusal : Refusal) → IsDemHeaderRefusal d.header refusal → IsRefusalIn (dem_set d t) refusal
header_answer d t (BadDemHeader fault) bad =
    first_of (dem_set d t) (StandsIn (dem_set d t)) 1 0 (BadDemHeader fault) refl bad (none_first (dem_set d t)) (λ b kind less. absurd (omega (arith, less)))
header_answer d t BadPixelSize (h, described, none) =
    let sizeless : ¬ HasPixelSize (dem_fields d).place = λ has. none (subst (λ (k : Fields). HasPixelSize k.place) (sym described.fields) has) in
    first_of (dem_set d t) (StandsIn (dem_set d t)) 2 0 BadPixelSize refl sizeless
    (none_more (StandsIn (dem_set d t)) 1 (none_first (dem_set d t)) (at_side (λ b. ¬ StandsIn (dem_set d t) b) (λ no. no) (λ fault answers. described.sound fault answers.holds)))
    (λ b kind less. absurd (omega (arith, less)))
header_answer d t refusal bad = absurd bad

-- it is no failed read, and comes before bodies
pub header_reads_none : {T : Type 0} (text : List ℕ) (refusal : Refusal) → IsDemHeaderRefusal text refusal → ¬ IsErrOf {T = T} (Err refusal) ReadFailed
header_reads_none text refusal bad is =
    let same : refusal ≡ ReadFailed = cc in
    subst (IsDemHeaderRefusal text) same bad

-- the refusal is that of the texts
pub refused_text : {R : Type 0} (bl : R → Option (List ℕ)) (xs : List (RasterInput R)) (x : RasterInput R) (d : DemTexts) (refusal : Refusal) → EncodesDem bl xs d →
    IsDemHeaderRefusal (slice_index_or xs 0 x).header refusal → IsDemHeaderRefusal d.header refusal
refused_text bl [] x d refusal tell bad = absurd tell
refused_text bl (input ∷ []) x d refusal tell bad = subst (λ text. IsDemHeaderRefusal text refusal) (sym tell.0) bad
refused_text bl (input ∷ other ∷ more) x d refusal tell bad = absurd tell

-- the header of the one raster is right
pub one_header : {R : Type 0} (h : Fields) (xs : List (RasterInput R)) (x : RasterInput R) → length xs ≡ 1 → IsDemHeader h (slice_index_or xs 0 x).header → IsDemInput h xs
one_header h [] x one is = absurd (omega (arith, one))
one_header h (input ∷ []) x one is = is
one_header h (input ∷ other ∷ more) x one is = absurd (omega (arith, one))

-- what holds of an input's header holds of that of the first input, where it is this
pub at_first : {R : Type 0} (P : List ℕ → Type 0) (xs : List (RasterInput R)) (x : RasterInput R) → x ≡ slice_index_or xs 0 x → P x.header → P (slice_index_or xs 0 x).header
at_first {R} P xs x is holds = subst (λ (y : RasterInput R). P y.header) is holds

-- What the bytes mean.

-- if the raster isn't short, its elevations are its pixels
pub pixels_told : (h : Fields) (d : DemTexts) → IsDemHeader h d.header → IsToldOf (dem_ground d) 5 None → ElevationIsItsPixels d
pixels_told h d is none = record {
  described = subst (DescribesOf (kind_of d.header) d.header) is.described.fields is.described;
  sized = subst (λ (k : Fields). HasPixelSize k.place) is.described.fields is.sized;
  whole = none DemShort refl;
  pixels = λ c inside. refl;
}

-- so they are if it is readable
pub pixels_are : {R : Type 0} (bl : R → Option (List ℕ)) (dem : List (RasterInput R)) (d : DemTexts) (t : SetTexts) → HasDemHeader dem → EncodesDem bl dem d → IsReadable (dem_set d t) → ElevationIsItsPixels d
pixels_are bl dem d t header tell readable =
    pixels_told header.0 d (dem_framed bl header.0 dem d header.1 tell) (λ b kind refuses. readable b ((own_length (dem_set d t) b kind).refuses refuses))

-- What is used.

-- four products of which one is read twice: that one counts once
pub dem_four_used : {R : Type 0} (bl : R → Option (List ℕ)) (ct : R → FaultCounts) (old new : List (RasterInput R) × AuditProducts R) (told : Option Refusal) →
    UsesTold as_five (λ xs ps. dem_check_devices xs (as_five ps)) (DemTakesAtMost bl) AreHeadersKept bl ct old new told → UsesTold as_five dem_audit_devices (DemTakesAtMost bl) AreHeadersKept bl ct old new told
dem_four_used {R} bl ct old new told uses = record {
  inputs_within = uses.inputs_within;
  rasters_within = uses.rasters_within;
  faults = set_devices_of_four ct dem_devices old.0 new.0 old.1 new.1 as_many uses.faults;
  kept = uses.kept;
  headers = uses.headers;
  untouched = uses.untouched;
}
  where
    as_many : length (map ct (dem_devices old.0)) ≡ length (map ct (dem_devices new.0))
    as_many =
        let many = ap length uses.kept in
        omega (
          arith,
          many,
          length-map (dem_devices old.0) ct,
          length-map (dem_devices new.0) ct,
          length-map old.0 (λ (x : RasterInput R). x.body),
          length-map new.0 (λ (x : RasterInput R). x.body),
          length-map old.0 (λ (x : RasterInput R). x.header),
          length-map new.0 (λ (x : RasterInput R). x.header),
        )
