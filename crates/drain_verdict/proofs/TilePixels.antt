-- A tile's samples as the pixels of a raster: its own bytes are such pixels, and the raster has the tile's elevations.
use Rattle.drain_verdict.proofs.Names.{◌≡◌, ◌∙◌, zero, suc, ◌+◌, ◌-◌, ◌*◌, ◌/◌, ◌<◌, ◌≤◌, ℤ, pos, Bool, ◌+ℤ◌, ◌-ℤ◌, nat_le, nat_lt, ◌&&◌, if◌then◌else◌, true, List, [], ◌∷◌, length, drop, map, Some, None, arith, refl, sym, ap, subst, le-leb, lt-ltb, int_max, int_min, Cell, HeightKind, VOID, Extent, IsCellOf, height_from, Fields, Corner, samples_of, tile_sample_at, first_value, Tiling, extent_of, left_of, top_of, height_with, pixel_at, spelled_as, spelled_by, place, dem_fields, IsTileHeader, SamplesAreElevations, TilesAreRasters}
use Rattle.std.proofs.Common.{ℕ, nat_abs, Option}
use Rattle.std.proofs.lemmas.Int.{ints}
use Rattle.std.proofs.lemmas.Nat.{mul-add-lt}
use Rattle.std.specs.Option.{option_or}
use Rattle.std.specs.Prelude.{slice_index_or}
use Rattle.drain_header.specs.declared.header.ByteOrdering.{ByteOrdering}
use Rattle.drain_header.specs.declared.header.ByteOrdering.TheVariants.{Most}
use Rattle.drain_mosaic.proofs.Agreement.{all_true}
use Rattle.drain_mosaic.specs.Mosaic as mosaic

-- the k-th sample is the number of the k-th pair of bytes
sample_is : (bytes : List ℕ) (k : ℕ) → 2 * k + 1 < length bytes →
    spelled_by true Most 2 (drop (2 * k) bytes) ≡ slice_index_or (samples_of bytes) k VOID
sample_is [] k inside = absurd (omega arith)
sample_is (single ∷ []) k inside = absurd (omega arith)
sample_is (high ∷ low ∷ more) zero inside =
    let two : high * 256 + (low * 1 + 0) ≡ 256 * high + low = omega arith in
    rw two refl
sample_is (high ∷ low ∷ more) (suc k) inside =
    let two : 2 * suc k ≡ suc (suc (2 * k)) = omega arith in
    ap (λ n. spelled_by true Most 2 (drop n (high ∷ low ∷ more))) two ∙ sample_is more k (omega arith)

-- the pixel of such a header is two bytes of the body
pixel_is : (side : ℕ) (h : Fields) (body : List ℕ) (row col : ℕ) → IsTileHeader side h →
    pixel_at h body (place row col) ≡ spelled_by true Most 2 (drop (2 * (row * side + col)) body)
pixel_is side h body row col header =
    (λ i. number (header.whole i) (header.signed i) (header.order i) (header.bits i) (header.skip i) (header.row_bytes i))
    ∙ ap (λ n. spelled_by true Most 2 (drop n body)) there
  where
    number : HeightKind → Bool → ByteOrdering → ℕ → ℕ → ℕ → ℤ
    number kind signed order bits skip row_bytes = spelled_as kind signed order (bits / 8) (drop (skip + row * row_bytes + col * (bits / 8)) body)

    there : 0 + row * (2 * side) + col * 2 ≡ 2 * (row * side + col)
    there = omega arith

pub tiles_are_rasters : TilesAreRasters
tiles_are_rasters side d whole header = record {
  rows = header.rows;
  cols = header.cols;
  whole = header.whole;
  nodata = header.nodata;
  pixels = λ row col above inside.
      (let before : row * side + col < side * side = mul-add-lt row side col side above inside in
      pixel_is side (dem_fields d) d.body row col header ∙ sample_is d.body (row * side + col) (omega (arith, whole, before)));
}

-- One tile is the whole mosaic.

greatest_one : (x : ℤ) → int_max x x ≡ x
greatest_one x = grind (arith, ints)

least_one : (x : ℤ) → int_min x x ≡ x
least_one x = grind (arith, ints)

-- the tiling of one tile
abbrev alone : ℕ → Corner → Tiling
alone side corner = record { side = side; corners = corner ∷ [] }

one_degree : (x : ℤ) → nat_abs (int_max x x +ℤ pos 1 -ℤ int_min x x) ≡ 1
one_degree x = (λ i. nat_abs (greatest_one x i +ℤ pos 1 -ℤ least_one x i)) ∙ grind (arith, ints)

from_north : (x : ℤ) → nat_abs (int_max x x +ℤ pos 1 -ℤ pos 1 -ℤ x) ≡ 0
from_north x = rw (greatest_one x) (grind (arith, ints))

from_west : (x : ℤ) → nat_abs (x -ℤ int_min x x) ≡ 0
from_west x = rw (least_one x) (grind (arith, ints))

square : (side : ℕ) (corner : Corner) → 1 ≤ side → extent_of (alone side corner) ≡ record { rows = side; cols = side }
square side corner some = λ i. record { rows = length_of corner.lat i; cols = length_of corner.lon i }
  where
    length_of : (x : ℤ) → nat_abs (int_max x x +ℤ pos 1 -ℤ int_min x x) * (side - 1) + 1 ≡ side
    length_of x = ap (λ n. n * (side - 1) + 1) (one_degree x) ∙ omega (arith, some)

or_none : {A : Type 0} (o : Option A) → option_or o None ≡ o
or_none None = refl
or_none (Some x) = refl

-- the value of a tile with this first row and column
abbrev given : ℕ → List ℤ → Cell → ℕ → ℕ → Option ℤ
given side samples c top left =
    if nat_le top c.row && (nat_lt c.row (top + side) && (nat_le left c.col && nat_lt c.col (left + side)))
    then height_from (tile_sample_at side samples (c.row - top) (c.col - left))
    else None

-- it gives each cell of it its sample
value_is : (side : ℕ) (corner : Corner) (samples : List ℤ) (c : Cell) → c.row < side → c.col < side →
    first_value (alone side corner) (record { corner = corner; samples = samples } ∷ []) c ≡ height_from (tile_sample_at side samples c.row c.col)
value_is side corner samples c above inside =
    or_none _ ∙ (ap (λ top. given side samples c top (left_of (alone side corner) corner)) top ∙ (ap (given side samples c 0) left ∙ covered))
  where
    top : top_of (alone side corner) corner ≡ 0
    top = ap (λ n. n * (side - 1)) (from_north corner.lat) ∙ omega arith

    left : left_of (alone side corner) corner ≡ 0
    left = ap (λ n. n * (side - 1)) (from_west corner.lon) ∙ omega arith

    none_less : (n : ℕ) → n - 0 ≡ n
    none_less n = omega arith

    covered : given side samples c 0 0 ≡ height_from (tile_sample_at side samples c.row c.col)
    covered =
        all_true (nat_le 0 c.row) (nat_lt c.row (0 + side)) (nat_le 0 c.col) (nat_lt c.col (0 + side)) _ None
        (le-leb 0 c.row (omega arith)) (lt-ltb c.row (0 + side) (omega (arith, above)))
        (le-leb 0 c.col (omega arith)) (lt-ltb c.col (0 + side) (omega (arith, inside)))
        ∙ (λ i. height_from (tile_sample_at side samples (none_less c.row i) (none_less c.col i)))

pub samples_are_elevations : SamplesAreElevations
samples_are_elevations i corner tile d side corners tiles_are has = record {
  extent = (λ j. record { rows = has.rows j; cols = has.cols j }) ∙ sym size;
  kind = has.whole;
  elevation = λ c inside.
      (let here = subst (λ (e : Extent). IsCellOf e c) size inside in
      (λ j. height_with (record { number = has.nodata j; kind = has.whole j }) (pixel_at (dem_fields d) d.body c))
      ∙ (ap height_from (has.pixels c.row c.col here.row here.col)
      ∙ (sym (value_is i.side corner (samples_of tile) c here.row here.col)
      ∙ sym (ap (λ (cs : List Corner). first_value (record { side = i.side; corners = cs }) (mosaic.tiles_of cs (map samples_of i.tiles)) c) corners
      ∙ ap (λ (ts : List (List ℕ)). first_value (alone i.side corner) (mosaic.tiles_of (corner ∷ []) (map samples_of ts)) c) tiles_are))));
}
  where
    size : extent_of (record { side = i.side; corners = i.corners }) ≡ record { rows = i.side; cols = i.side }
    size =
        ap (λ (cs : List Corner). extent_of (record { side = i.side; corners = cs })) corners
        ∙ square i.side corner (omega (arith, side.least))
