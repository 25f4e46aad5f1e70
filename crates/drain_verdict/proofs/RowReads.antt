-- One more row of all inputs: what was read of each device.
use Rattle.drain_verdict.proofs.Names.{◌≡◌, ◌↔◌, ◌⊎◌, Bool, true, false, inl, inr, IsTrue, List, [], Some, None, refl, ap, subst, sym, ◌∙◌, arith, length-append, ◌++◌, FaultCounts, PartFails-none, PartFails-then, PerProduct, of_product, RasterRows, InputsHaveRead, RasterHasRead, RastersHaveRead, Reading, elevations_at, product_body, readers, IsOfReading, InputRows, Refusal, ReadFailed}
use Rattle.std.proofs.Common.{ℕ, Option}
use Rattle.std.proofs.KnownBytes.{Consumes-nil, Consumes-trans}
use Rattle.drain_verdict.specs.Reading.{gave_up}
use Rattle.drain_verdict.specs.Inputs.{Products}
use Rattle.drain_verdict.proofs.InputLemmas.{only_failed}

-- a raster that wasn't called
pub raster_none : (known : Option (List ℕ)) (counts : FaultCounts) (raster : RasterRows) (Fails : Type 0) → (Fails → ⊥) → RasterHasRead known known counts counts raster raster Fails
raster_none known counts raster Fails never = record {
  within = ([], Consumes-nil known, omega arith);
  faults = PartFails-none counts raster.patience Fails never;
}

-- calls that didn't fail, and then more
pub raster_then : (a b c : Option (List ℕ)) (counts between after : FaultCounts) (r s t : RasterRows) (F G : Type 0) → (F → ⊥) →
    RasterHasRead a b counts between r s F → RasterHasRead b c between after s t G → RasterHasRead a c counts after r t G
raster_then a b c counts between after r s t F G never one other = record {
  within = (
    one.within.0 ++ other.within.0,
    Consumes-trans a b c one.within.0 other.within.0 one.within.1 other.within.1,
    omega (arith, one.within.2, other.within.2, length-append one.within.0 other.within.0),
  );
  faults = PartFails-then counts between after r.patience s.patience t.patience F G never one.faults other.faults;
}

abbrev nothing : Option Refusal
nothing = None

-- if nothing is refused no device failed for good
none_failed : {A B : Type 0} → (nothing ≡ Some ReadFailed) ↔ (A ⊎ B) → (A → ⊥) × (B → ⊥)
none_failed exactly = (
  λ a. let wrong = exactly.1 (inl a) in cc,
  λ b. let wrong = exactly.1 (inr b) in cc,
)

-- what is not so is false
is_false : (b : Bool) → (IsTrue b → ⊥) → b ≡ false
is_false true never = absurd (never refl)
is_false false never = refl

-- no product was called
pub rasters_none : {R : Type 0} (bl : R → Option (List ℕ)) (ct : R → FaultCounts) (rasters : PerProduct RasterRows) (ps : Products R) → RastersHaveRead bl ct rasters rasters ps ps None
rasters_none bl ct rasters ps = record {
  failed = λ p. false;
  exactly = (λ wrong. absurd (let no = wrong in cc), λ some. absurd (let no = some.1 in cc));
  each = λ p. raster_none (bl (of_product ps p).body) (ct (of_product ps p).body) (of_product rasters p) (IsTrue false) (λ no. cc);
  headers = λ p. refl;
}

module _ {M X R : Type 0} (has_read : M × List X → M × List X → Bool → Type 0) (bl : R → Option (List ℕ)) (ct : R → FaultCounts) where
  -- readings of the ground one after the other are one
  abbrev pub Joined : Type 0
  Joined = (a b c : M × List X) (failed : Bool) → has_read a b false → has_read b c failed → has_read a c failed

  -- calls that didn't fail, and then more
  pub reads_then : Joined → (start between after : Reading M X R) (told : Option Refusal) →
      InputsHaveRead has_read bl ct start between None → InputsHaveRead has_read bl ct between after told → InputsHaveRead has_read bl ct start after told
  reads_then joined start between after told one other =
      let well = none_failed one.exactly in
      record {
        elevations_failed = other.elevations_failed;
        product_failed = other.product_failed;
        exactly = other.exactly;
        of_reading = other.of_reading;
        elevations = joined (elevations_at start) (elevations_at between) (elevations_at after) other.elevations_failed
            (subst (has_read (elevations_at start) (elevations_at between)) (is_false one.elevations_failed well.0) one.elevations) other.elevations;
        products = λ p. raster_then (bl (product_body start p)) (bl (product_body between p)) (bl (product_body after p)) (ct (product_body start p)) (ct (product_body between p)) (ct (product_body after p))
            (of_product (readers start).rasters p) (of_product (readers between).rasters p) (of_product (readers after).rasters p)
            (IsTrue (one.product_failed p)) (IsTrue (other.product_failed p)) (λ f. well.1 (p, f)) (one.products p) (other.products p);
        headers = λ p. other.headers p ∙ one.headers p;
      }

  -- one call of the ground, and one of the products
  pub one_read : (old new : InputRows R M) (from now : List X) (ps ps_then : Products R) (by_ground by_rasters told : Option Refusal) →
      (told ≡ Some ReadFailed) ↔ (IsTrue (gave_up None by_ground) ⊎ (by_rasters ≡ Some ReadFailed)) → IsOfReading told →
      has_read (old.elevations, from) (new.elevations, now) (gave_up None by_ground) →
      RastersHaveRead bl ct old.rasters new.rasters ps ps_then by_rasters → InputsHaveRead has_read bl ct (old, from, ps) (new, now, ps_then) told
  one_read old new from now ps ps_then by_ground by_rasters told exactly of_reading elevations rasters = record {
    elevations_failed = gave_up None by_ground;
    product_failed = rasters.failed;
    exactly = (
      λ is. elim (exactly.0 is) [ inl elevation ↦ inl elevation | inr raster ↦ inr (rasters.exactly.0 raster) ],
      λ some. elim some [ inl elevation ↦ exactly.1 (inl elevation) | inr raster ↦ exactly.1 (inr (rasters.exactly.1 raster)) ],
    );
    of_reading = of_reading;
    elevations = elevations;
    products = rasters.each;
    headers = rasters.headers;
  }

-- the ground's refusal is the whole one's
pub by_ground : (refusal : Refusal) → (Some refusal ≡ Some ReadFailed) ↔ (IsTrue (gave_up None (Some refusal)) ⊎ (nothing ≡ Some ReadFailed))
by_ground refusal = (
  λ is. let same : refusal ≡ ReadFailed = cc in inl (subst (λ r. IsTrue (gave_up None (Some r))) (sym same) refl),
  λ either. elim either [ inl up ↦ ap Some (only_failed refusal up) | inr given_up ↦ absurd (let wrong = given_up in cc) ],
)

-- and so is the products', where the ground gave its row
pub by_rasters : (told : Option Refusal) → (told ≡ Some ReadFailed) ↔ (IsTrue (gave_up None None) ⊎ (told ≡ Some ReadFailed))
by_rasters told = (λ is. inr is, λ either. elim either [ inl up ↦ absurd (let wrong = up in cc) | inr is ↦ is ])
