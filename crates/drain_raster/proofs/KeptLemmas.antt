-- The numbers that a raster keeps: at each cell, and their range by their bits.
use Rattle.drain_raster.proofs.Names.{◌≡◌, ◌+◌, ◌*◌, ◌^◌, ◌<◌, ℕ, ℤ, pos, List, false, map, length, get_or, arith, ap, ◌∙◌, ints, All-get_or, All-map, Cell, Extent, IsCellOf, index_of, Pixels, CanSpellIn}
use Rattle.std.specs.List.{All}
use Rattle.drain_grid.specs.WholeGrid.{number_at}
use Rattle.drain_grid.proofs.Runs.{index_of-below}
use Rattle.drain_raster.proofs.CellPlaces.{cell_of}

-- what holds of each number of a raster holds of the number at each cell
pub at_each_cell : (P : ℤ → Type 0) (p : Pixels) → length p.numbers ≡ p.extent.rows * p.extent.cols → All P p.numbers → (c : Cell) → IsCellOf p.extent c → P (number_at p c)
at_each_cell P p counted each c inside =
    let place = index_of-below p.extent c inside in
    All-get_or P p.numbers (index_of p.extent c) (pos 0) (omega (arith, place, counted)) each

-- the number at the place of a cell, of the numbers in row order
pub number_kept : (p : Pixels) (numbers : List ℤ) (e : Extent) (r start first k : ℕ) (x : ℤ) → numbers ≡ p.numbers → e ≡ p.extent → start ≡ r * e.cols →
    x ≡ get_or numbers (start + first + k) (pos 0) → x ≡ number_at p (cell_of r (first + k))
number_kept p numbers e r start first k x are extent starts is =
    let cols : r * e.cols ≡ r * p.extent.cols = ap (λ (y : Extent). r * y.cols) extent in
    let place : start + first + k ≡ index_of p.extent (cell_of r (first + k)) = omega (arith, starts, cols) in
    is ∙ ap (λ zs. get_or zs (start + first + k) (pos 0)) are ∙ ap (λ i. get_or p.numbers i (pos 0)) place

-- n bits can encode numbers without a sign that are less than 2^n
pub are_spelled : (bits : ℕ) (xs : List ℕ) → ((i d : ℕ) → i < length xs → get_or xs i d < 2 ^ bits) → All (CanSpellIn false bits) (map (λ n. pos n) xs)
are_spelled bits xs fit = All-map (CanSpellIn false bits) (λ n. pos n) xs (λ i d less. let h = fit i d less in record { low = omega (arith, ints, h); high = omega (arith, ints, h) })
