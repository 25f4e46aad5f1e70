-- How an answer uses its inputs.
use Rattle.std.specs.Prelude.{◌++◌, ◌≡◌}
use Rattle.drain_verdict.specs.Names.{ℕ, List, map, Option, Some, Result, IfSome, TakesAtMost, SetProduct, of_product, products, lines_of, TileInput, tile_devices, names_of, TilesTakeAtMost, Fields, header_of, needed_len, SomeReadFails, FaultCounts, AuditProducts, Refusal, ReadFailed}
use Rattle.drain_verdict.specs.Inputs.{Products, audit_devices, as_five}
use Rattle.drain_verdict.specs.Reading.{told_by}
use Rattle.drain_verdict.specs.Refusals.{IsOfBodies}

-- The devices of a check, and how far it reads from them.

-- the devices of the products
abbrev pub product_devices : {R : Type 0} → Products R → List R
product_devices ps = map (λ p. (of_product ps p).body) products

-- the devices of a check
abbrev pub devices_of : {R : Type 0} → List (TileInput R) → Products R → List R
devices_of tiles ps = tile_devices tiles ++ product_devices ps

-- of the product's raster nothing past the last byte that this header needs was read
abbrev pub BodyTakesAtMost : {R : Type 0} → (R → Option (List ℕ)) → Fields → Products R → Products R → SetProduct → Type 0
BodyTakesAtMost bytes_left h old new p = TakesAtMost (needed_len h) (bytes_left (of_product old p).body) (bytes_left (of_product new p).body)

-- the same of the header in the input
abbrev pub RasterTakesAtMost : {R : Type 0} → (R → Option (List ℕ)) → Products R → Products R → SetProduct → Type 0
RasterTakesAtMost bytes_left old new p = BodyTakesAtMost bytes_left (header_of (lines_of (of_product old p).header)) old new p

-- the devices of a set: those of its ground, and those of its products
abbrev pub set_devices : {X R : Type 0} → (List X → List R) → List X → Products R → List R
set_devices devices inputs ps = devices inputs ++ product_devices ps

-- from the inputs of a ground and the products before to those after. The products are read as these five, from these
-- devices; of the ground's inputs the reading is within this, and this is kept
pub record UsesTold {X R P : Type 0} (inputs_of : P → Products R) (devices : List X → P → List R) (IsWithin IsKept : List X → List X → Type 0) (bytes_left : R → Option (List ℕ)) (counts : R → FaultCounts)
    (old new : List X × P) (told : Option Refusal) : Type 0 where
  -- of the ground's inputs no more is read than this, of a raster nothing past its last needed byte
  pub inputs_within : IsWithin old.0 new.0
  pub rasters_within : (p : SetProduct) → RasterTakesAtMost bytes_left (inputs_of old.1) (inputs_of new.1) p
  -- the answer is that a read failed exactly where a device failed or was interrupted for the 1,000th time
  pub faults : SomeReadFails (map counts (devices old.0 old.1)) (map counts (devices new.0 new.1)) (told ≡ Some ReadFailed)
  -- what is kept of the ground's inputs, as names, and headers are unchanged
  pub kept : IsKept old.0 new.0
  pub headers : (p : SetProduct) → (of_product (inputs_of new.1) p).header ≡ (of_product (inputs_of old.1) p).header
  -- a refusal that comes before any body is read leaves every device and every value as it was
  pub untouched : IfSome told (λ refusal. ¬ IsOfBodies refusal → (new.0 ≡ old.0) × (new.1 ≡ old.1))

-- only the refusal of an answer matters
abbrev pub UsesSet : {X R P T : Type 0} → (P → Products R) → (List X → P → List R) → (List X → List X → Type 0) → (List X → List X → Type 0) → (R → Option (List ℕ)) → (R → FaultCounts) → List X × P → List X × P → Result T Refusal → Type 0
UsesSet inputs_of devices IsWithin IsKept bytes_left counts old new answer = UsesTold inputs_of devices IsWithin IsKept bytes_left counts old new (told_by answer)

-- the names are those of before
abbrev pub AreNamesKept : {R : Type 0} → List (TileInput R) → List (TileInput R) → Type 0
AreNamesKept old new = names_of new ≡ names_of old

-- the same of tiles of this side: of a tile at most one byte past its end is read
abbrev pub UsesInputs : {R P T : Type 0} → (P → Products R) → (List (TileInput R) → P → List R) → (R → Option (List ℕ)) → (R → FaultCounts) → ℕ → List (TileInput R) × P → List (TileInput R) × P → Result T Refusal → Type 0
UsesInputs inputs_of devices bytes_left counts side old new answer =
    UsesSet inputs_of devices (TilesTakeAtMost bytes_left side) AreNamesKept bytes_left counts old new answer

-- of the five products of a check
abbrev pub CheckUses : {R T : Type 0} → (R → Option (List ℕ)) → (R → FaultCounts) → ℕ → List (TileInput R) × Products R → List (TileInput R) × Products R → Result T Refusal → Type 0
CheckUses bytes_left counts side old new answer = UsesInputs (λ ps. ps) devices_of bytes_left counts side old new answer

-- of the four products of an audit
abbrev pub AuditUses : {R T : Type 0} → (R → Option (List ℕ)) → (R → FaultCounts) → ℕ → List (TileInput R) × AuditProducts R → List (TileInput R) × AuditProducts R → Result T Refusal → Type 0
AuditUses bytes_left counts side old new answer = UsesInputs as_five audit_devices bytes_left counts side old new answer
