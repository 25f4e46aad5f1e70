-- The samples of a tile (the SRTM HGT documentation).
use Rattle.std.specs.Prelude.{◌≡◌, ◌+◌, ◌*◌, ◌∷◌}
use Rattle.drain_hgt.specs.Names.{ℕ, ℤ, List, [], length, slice_index_or, VOID, twos_complement}

-- two bytes for each sample of the square
abbrev pub tile_length : ℕ → ℕ
tile_length side = 2 * (side * side)

-- as many bytes as a tile has
abbrev pub IsTile : ℕ → List ℕ → Type 0
IsTile side bytes = length bytes ≡ tile_length side

-- the numbers of pairs of bytes in two's complement, the most significant byte first
abbrev pub samples_of : List ℕ → List ℤ
samples_of (high ∷ low ∷ more) = twos_complement 2 (256 * high + low) ∷ samples_of more
samples_of (single ∷ []) = []
samples_of [] = []

-- the sample in a row and a column of a tile; void past the last sample, where no tile has one
abbrev pub tile_sample_at : ℕ → List ℤ → ℕ → ℕ → ℤ
tile_sample_at side samples row col = slice_index_or samples (row * side + col) VOID
