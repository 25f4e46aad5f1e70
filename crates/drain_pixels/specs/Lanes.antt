-- Lanes of a row: unsigned numbers of 16 or 32 bits, converted from whole numbers. At a void, where the lane of the elevation is 0, nothing is known of a product.
use Rattle.std.specs.Prelude.{◌≡◌, ◌≢◌, ◌/◌, ◌%◌, ◌<◌, ◌+ℤ◌, ◌&&◌}
use Rattle.drain_pixels.specs.Names.{ℕ, ℤ, pos, negsuc, neg_ℤ, Bool, IsTrue, true, false, not, nat_le, int_le, int_lt, min, List, Option, Some, None, slice_index, slice_index_or, int_eq}
use Rattle.drain_pixels.specs.declared.voids.Voids.{Voids}
use Rattle.drain_pixels.specs.Ground.{height_with}

-- 32 bits hold the number
abbrev pub is_lane : ℤ → Bool
is_lane (pos n) = nat_le n 4294967295
is_lane (negsuc n) = false

-- 16 bits hold the number
abbrev pub is_short_lane : ℤ → Bool
is_short_lane (pos n) = nat_le n 65535
is_short_lane (negsuc n) = false

-- A height's lane holds it with this added: 32768 in 16 bits, 2147483648 in 32.

-- signed bits hold the number: as many numbers lie below 0 as from 0 up
abbrev pub is_height : ℕ → ℤ → Bool
is_height bias number = int_le (neg_ℤ (pos bias)) number && int_lt number (pos bias)

-- a lane holds the elevation: none, or a height of its bits but the lowest, whose lane would be a void's
abbrev pub is_elevation : ℕ → Option ℤ → Bool
is_elevation bias None = true
is_elevation bias (Some height) = is_height bias height && not (int_eq height (neg_ℤ (pos bias)))

-- the first numbers all fit
abbrev pub AllFit : (ℤ → Bool) → List ℤ → ℕ → Type 0
AllFit fits numbers count = (k : ℕ) → k < count → IsTrue (fits (slice_index_or numbers k (pos 0)))

-- so do those that are at no void
abbrev pub AllFitAt : (ℤ → Bool) → List ℕ → List ℤ → ℕ → Type 0
AllFitAt fits z numbers count = (k : ℕ) → k < count → slice_index z k ≢ 0 → IsTrue (fits (slice_index_or numbers k (pos 0)))

-- the first lanes are what a conversion makes of these numbers, each that fits
abbrev pub HoldFitting : (ℤ → Bool) → (ℤ → ℤ) → List ℤ → List ℕ → ℕ → Type 0
HoldFitting fits lane numbers lanes count =
    (k : ℕ) → k < count → IsTrue (fits (slice_index_or numbers k (pos 0))) → pos (slice_index lanes k) ≡ lane (slice_index_or numbers k (pos 0))

-- a number as it is
abbrev pub unchanged : ℤ → ℤ
unchanged number = number

-- the number with this added
abbrev pub lifted : ℕ → ℤ → ℤ
lifted bias number = number +ℤ pos bias

-- the first numbers are these, or 65535 where they are more
abbrev pub AreCapped : List ℕ → List ℕ → ℕ → Type 0
AreCapped numbers capped count = (k : ℕ) → k < count → slice_index capped k ≡ min (slice_index numbers k) 65535

-- the first numbers are the lower halves of these, of 32 bits each
abbrev pub AreLower : List ℕ → List ℕ → ℕ → Type 0
AreLower numbers low count = (k : ℕ) → k < count → slice_index low k ≡ slice_index numbers k % 65536

-- the first numbers are the upper halves of these
abbrev pub AreUpper : List ℕ → List ℕ → ℕ → Type 0
AreUpper numbers high count = (k : ℕ) → k < count → slice_index high k ≡ slice_index numbers k / 65536

-- the first lanes are what a conversion makes of these numbers, except at voids
abbrev pub AreLanesBy : (ℤ → ℤ) → List ℕ → List ℤ → List ℕ → ℕ → Type 0
AreLanesBy lane z numbers lanes count = (k : ℕ) → k < count → slice_index z k ≢ 0 → pos (slice_index lanes k) ≡ lane (slice_index_or numbers k (pos 0))

-- the first numbers are these, except at voids
abbrev pub AreLanes : List ℕ → List ℤ → List ℕ → ℕ → Type 0
AreLanes z numbers lanes count = AreLanesBy unchanged z numbers lanes count

-- the lane of an elevation: 0 at a void, else the height with the bias added, which is not 0
abbrev pub IsElevationLane : ℕ → Option ℤ → ℕ → Type 0
IsElevationLane bias None lane = lane ≡ 0
IsElevationLane bias (Some height) lane = (lane ≢ 0) × (pos lane ≡ lifted bias height)

-- the first lanes are those of these elevations
abbrev pub AreElevationLanes : ℕ → List (Option ℤ) → List ℕ → ℕ → Type 0
AreElevationLanes bias z lanes count = (k : ℕ) → k < count → IsElevationLane bias (slice_index_or z k None) (slice_index lanes k)

-- the first lanes are those of the elevations of these numbers, of which some may mean a void
abbrev pub AreGroundLanes : ℕ → Voids → List ℤ → List ℕ → ℕ → Type 0
AreGroundLanes bias voids numbers lanes count =
    (k : ℕ) → k < count → IsElevationLane bias (height_with voids (slice_index_or numbers k (pos 0))) (slice_index lanes k)

-- the first heights are these, each with the bias added, except at voids
abbrev pub AreHeightLanes : ℕ → List ℕ → List ℤ → List ℕ → ℕ → Type 0
AreHeightLanes bias z numbers lanes count = AreLanesBy (lifted bias) z numbers lanes count
