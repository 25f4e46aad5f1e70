-- What was read of the devices of a set since new readers: how much, and which failed for good.
use Rattle.drain_verdict.proofs.Names.{◌≡◌, ◌↔◌, ◌+◌, inl, inr, Bool, IsTrue, false, List, [], ◌∷◌, map, Some, None, arith, refl, ap, subst, ◌∙◌, Any, SomeReadFails, ReadFails, PartFails, GivesUp, full_patience, TakesAtMost, most_at, FaultCounts, SomeReadFails-iff, SomeReadFails-none, SomeReadFails-one, SomeReadFails-then, any-cases, any-first, any-later, any-none, PerProduct, SetProduct, Dir, Acc, Bas, Rnk, of_product, products, AreWithinBounds, Fields, RasterRowsTakeWhatIsNeeded, needed_len, bytes_of_rows, raster_most_bytes, RasterRows, GroundToGive, BodyTakesAtMost, product_devices, set_devices, InputsHaveRead, RasterHasRead, Reading, elevations_at, inputs_lent, product_body, products_lent, readers, AreBegun, IsRasterBegun, HaveCome, IsAfter, Refusal, ReadFailed}
use Rattle.std.proofs.Common.{ℕ, Option}
use Rattle.drain_grid.specs.declared.set_product.SetProduct.TheVariants.{Con}
use Rattle.drain_verdict.proofs.AuditDevices.{devices_then}
use Rattle.drain_verdict.proofs.RowReads.{raster_none}

-- no call was made
pub come_none : {M X R : Type 0} (after : M → List X → GroundToGive → ℕ → Type 0) (has_read : M × List X → M × List X → Bool → Type 0) (bl : R → Option (List ℕ)) (ct : R → FaultCounts) →
    ((s : M × List X) → has_read s s false) → (s : Reading M X R) → HaveCome after has_read bl ct s s 0 None
come_none after has_read bl ct none s = record {
  reads = record {
    elevations_failed = false;
    product_failed = λ p. false;
    exactly = (λ wrong. absurd (let no = wrong in cc), λ some. elim some [ inl up ↦ absurd (let wrong = up in cc) | inr product ↦ absurd (let wrong = product.1 in cc) ]);
    of_reading = tt;
    elevations = none (elevations_at s);
    products = λ p. raster_none (bl (product_body s p)) (ct (product_body s p)) (of_product (readers s).rasters p) (IsTrue false) (λ no. cc);
    headers = λ p. refl;
  };
  came = λ none t n at. let same : n ≡ n + 0 = omega arith in subst (λ k. IsAfter after bl (readers s) (inputs_lent s) (products_lent s) t k) same at;
}

-- the faults of some devices, each of which fails where its own fact holds
SomeReadFails-each : {X : Type 0} (old new : X → FaultCounts) (F : X → Type 0) (xs : List X) → ((x : X) → ReadFails (old x) (new x) (F x)) →
    SomeReadFails (map old xs) (map new xs) (Any F xs)
SomeReadFails-each old new F [] each = SomeReadFails-none [] (any-none F)
SomeReadFails-each old new F (x ∷ xs) each =
    SomeReadFails-then ((λ e. elim e [ inl here ↦ any-first F x xs here | inr later ↦ any-later F x xs later ]), any-cases F x xs)
    (SomeReadFails-one (each x)) (SomeReadFails-each old new F xs each)

-- each product is among them
among : (F : SetProduct → Type 0) (p : SetProduct) → F p → Any F products
among F Con f = (0, Con, omega arith, refl, f)
among F Dir f = (1, Dir, omega arith, refl, f)
among F Acc f = (2, Acc, omega arith, refl, f)
among F Bas f = (3, Bas, omega arith, refl, f)
among F Rnk f = (4, Rnk, omega arith, refl, f)

-- with full patience it is the read of one device
pub as_one_read : (a b : FaultCounts) (patience left : ℕ) (F : Type 0) → patience ≡ full_patience → PartFails a b patience left F → ReadFails a b F
as_one_read a b patience left F full part = record {
  failures = part.failures;
  interruptions = part.interruptions;
  answered = part.answered;
  exactly = subst (λ n. F ↔ GivesUp n part.failures part.interruptions) full part.exactly;
}

-- of a raster from its first row on at most the needed bytes were taken
pub raster_taken : RasterRowsTakeWhatIsNeeded → (h : Fields) (old new : RasterRows) (known after : Option (List ℕ)) (a b : FaultCounts) (F : Type 0) → AreWithinBounds h → IsRasterBegun h old → RasterHasRead known after a b old new F →
    TakesAtMost (needed_len h) known after
raster_taken law h old new known after a b F ok begun read =
    let most : raster_most_bytes old ≡ needed_len h =
    ap (λ progress. most_at progress (bytes_of_rows old.header old.left old.gap)) begun.going
    ∙ ap (λ left. bytes_of_rows old.header left old.gap) begun.left_is ∙ ap (λ gap. bytes_of_rows old.header h.rows gap) begun.gap_is
    ∙ ap (λ (k : Fields). bytes_of_rows k h.rows h.skip) begun.header_is ∙ law h ok in
    (read.within.0, read.within.1, omega (arith, read.within.2, most))

module _ {M X R : Type 0} (has_read : M × List X → M × List X → Bool → Type 0) (bl : R → Option (List ℕ)) (ct : R → FaultCounts) (Begun : M → Type 0) (hs : PerProduct Fields) (start now : Reading M X R) (told : Option Refusal)
    (begun : AreBegun Begun hs (readers start)) (read : InputsHaveRead has_read bl ct start now told) where
  pub bodies_taken : RasterRowsTakeWhatIsNeeded → (p : SetProduct) → BodyTakesAtMost bl (of_product hs p) (products_lent start) (products_lent now) p
  bodies_taken law p =
      raster_taken law (of_product hs p) (of_product (readers start).rasters p) (of_product (readers now).rasters p) (bl (product_body start p)) (bl (product_body now p)) (ct (product_body start p)) (ct (product_body now p))
      (IsTrue (read.product_failed p)) (begun.bounds p) (begun.raster p) (read.products p)

  -- the faults of the products' devices
  products_fail : SomeReadFails (map ct (product_devices (products_lent start))) (map ct (product_devices (products_lent now))) ((p : SetProduct) × IsTrue (read.product_failed p))
  products_fail =
      SomeReadFails-iff ((λ some. (some.1, some.4)), (λ some. among (λ p. IsTrue (read.product_failed p)) some.0 some.1))
      (SomeReadFails-each (λ p. ct (product_body start p)) (λ p. ct (product_body now p)) (λ p. IsTrue (read.product_failed p)) products
      (λ p. as_one_read (ct (product_body start p)) (ct (product_body now p)) (of_product (readers start).rasters p).patience (of_product (readers now).rasters p).patience (IsTrue (read.product_failed p)) (begun.raster p).patience_is (read.products p).faults))

  -- a read failed exactly if one of the devices failed for good
  pub devices_fail : (devices : List X → List R) → SomeReadFails (map ct (devices (inputs_lent start))) (map ct (devices (inputs_lent now))) (IsTrue read.elevations_failed) → {H : Type 0} → (told ≡ Some ReadFailed) ↔ H →
      SomeReadFails (map ct (set_devices devices (inputs_lent start) (products_lent start))) (map ct (set_devices devices (inputs_lent now) (products_lent now))) H
  devices_fail devices elevations {H} same =
      devices_then ct devices (inputs_lent start) (inputs_lent now) (products_lent start) (products_lent now) ((λ either. same.0 (read.exactly.1 either)), (λ h. read.exactly.0 (same.1 h))) elevations products_fail
