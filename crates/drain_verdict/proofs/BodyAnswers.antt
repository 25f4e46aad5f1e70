-- What a ground and its rasters say of a set: no refusal of their kinds applies, or theirs is the first.
use Rattle.drain_verdict.proofs.Names.{◌≡◌, ◌+◌, ◌<◌, Some, None, refl, subst, Refusal, RasterShort, SetProduct, product_of, rank_of, of_held, IsShort, IsFirstOwn, IsToldOf, NoneRefusesBefore, refusal_kind, GroundSet, IsRefusalIn, NoneStandsIn, StandsIn, place_in, set_fields}
use Rattle.std.proofs.Common.{ℕ}
use Rattle.drain_verdict.proofs.Order.{IsOwn, at_raster, first_is, first_of, none_more, own_early, own_length, own_values}

-- where a ground alone isn't refused, no refusal of a kind before headers applies
pub early_none : (s : GroundSet) → NoneRefusesBefore s.terrain 4 → NoneStandsIn s 4
early_none s none b less stands = none b less ((own_early s b less).stands stands)

module _ (s : GroundSet) (kind : ℕ) (own : (b : Refusal) → refusal_kind b ≡ kind → IsOwn s b) where
  -- no refusal of its own of this kind
  own_none : IsToldOf s.terrain kind None → NoneStandsIn s kind → NoneStandsIn s (kind + 1)
  own_none told none = none_more (StandsIn s) kind none (λ b is stands. told b is ((own b is).stands stands))

  -- or this one is the first
  own_refused : (refusal : Refusal) → IsFirstOwn s.terrain kind refusal → NoneStandsIn s kind → IsRefusalIn s refusal
  own_refused refusal told none =
      let here = own refusal told.kind_is in
      let place = here.place_is in
      let kind_is = told.kind_is in
      let at : (refusal_kind refusal, place_in s refusal) ≡ (kind, s.terrain.among refusal) = (λ k. (kind_is k, place k)) in
      first_is s refusal (first_of s (StandsIn s) kind (s.terrain.among refusal) refusal at (here.refuses told.refuses) none
      (λ b is less stands. told.first b is (subst (λ n. n < s.terrain.among refusal) (own b is).place_is less) ((own b is).stands stands)))

pub length_none : (s : GroundSet) → IsToldOf s.terrain 5 None → NoneStandsIn s 5 → NoneStandsIn s 6
length_none s told none = own_none s 5 (own_length s) told none

pub length_refused : (s : GroundSet) (refusal : Refusal) → IsToldOf s.terrain 5 (Some refusal) → NoneStandsIn s 5 → IsRefusalIn s refusal
length_refused s refusal told none = own_refused s 5 (own_length s) refusal told none

pub values_none : (s : GroundSet) → IsToldOf s.terrain 7 None → NoneStandsIn s 7 → NoneStandsIn s 8
values_none s told none = own_none s 7 (own_values s) told none

pub values_refused : (s : GroundSet) (refusal : Refusal) → IsToldOf s.terrain 7 (Some refusal) → NoneStandsIn s 7 → IsRefusalIn s refusal
values_refused s refusal told none = own_refused s 7 (own_values s) refusal told none

pub rasters_none : (s : GroundSet) → ((p : SetProduct) → ¬ IsShort (set_fields s.terrain.kind s.texts p) (s.texts.raster p)) → NoneStandsIn s 6 → NoneStandsIn s 7
rasters_none s long none =
    none_more (StandsIn s) 6 none (at_raster s (λ b. ¬ StandsIn s b) (λ b no. no) (λ p stands. long p ((of_held (λ h. IsShort (set_fields s.terrain.kind s.texts h) (s.texts.raster h)) p).0 stands)))

-- the refusal of a raster is the first
pub raster_refused : (s : GroundSet) (p : SetProduct) → IsShort (set_fields s.terrain.kind s.texts p) (s.texts.raster p) → ((q : SetProduct) → rank_of q < rank_of p → ¬ IsShort (set_fields s.terrain.kind s.texts q) (s.texts.raster q)) →
    NoneStandsIn s 6 → IsRefusalIn s (RasterShort (product_of p))
raster_refused s p short before none =
    let is_short = of_held (λ h. IsShort (set_fields s.terrain.kind s.texts h) (s.texts.raster h)) in
    first_of s (StandsIn s) 6 (rank_of p) (RasterShort (product_of p)) refl ((is_short p).1 short) none
    (at_raster s (λ b. place_in s b < rank_of p → ¬ StandsIn s b) (λ b no less. no) (λ q less stands. before q less ((is_short q).0 stands)))
