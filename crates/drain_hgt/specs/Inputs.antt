-- Tiles as inputs: their names, their devices, and the bodies that the devices give.
use Rattle.std.specs.Prelude.{◌≡◌, ℕ, ◌+◌, ◌<◌, List, map, slice_get, Option, Some}
use Rattle.std.specs.List.{AllZip}
use Rattle.drain_device.specs.Reads.{TakesAtMost}
use Rattle.drain_hgt.specs.declared.input.TileInput.{TileInput}
use Rattle.drain_hgt.specs.Samples.{IsTile, tile_length}

-- the names of the tiles
abbrev pub names_of : {R : Type 0} → List (TileInput R) → List (List ℕ)
names_of tiles = map (λ t. t.name) tiles

-- the devices of the tiles
abbrev pub tile_devices : {R : Type 0} → List (TileInput R) → List R
tile_devices tiles = map (λ t. t.body) tiles

-- the devices give these bodies
abbrev pub AreBodies : {R : Type 0} → (R → Option (List ℕ)) → List (TileInput R) → List (List ℕ) → Type 0
AreBodies bytes_left tiles bodies = AllZip (λ t body. bytes_left t.body ≡ Some body) tiles bodies

-- the body in this place has a wrong length, and those before it have not
pub record IsFirstBadLength (side : ℕ) (bodies : List (List ℕ)) (place : ℕ) : Type 0 where
  pub body : List ℕ
  pub body_is : slice_get bodies place ≡ Some body
  pub length_is_not : ¬ IsTile side body
  pub before : (k : ℕ) (earlier : List ℕ) → k < place → slice_get bodies k ≡ Some earlier → IsTile side earlier

-- of each tile at most one byte past its end was read
abbrev pub TilesTakeAtMost : {R : Type 0} → (R → Option (List ℕ)) → ℕ → List (TileInput R) → List (TileInput R) → Type 0
TilesTakeAtMost bytes_left side old new = AllZip (λ a b. TakesAtMost (tile_length side + 1) (bytes_left a.body) (bytes_left b.body)) old new
