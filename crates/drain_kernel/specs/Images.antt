-- Numbers in 16 bits that stand for numbers of 32: capped ones, and halves.
use Rattle.std.specs.Prelude.{◌≡◌, ◌/◌, ◌%◌}
use Rattle.drain_kernel.specs.Names.{ℕ, min, List, slice_index, AreCapped, AreLower, AreUpper}

-- the number, or 65535 if it is more
abbrev pub at_most : ℕ → ℕ
at_most n = min n 65535

-- its lower half, and its upper half
abbrev pub lower : ℕ → ℕ
lower n = n % 65536

abbrev pub upper : ℕ → ℕ
upper n = n / 65536

-- each of eight numbers has this image
pub record EachHasImage (f : ℕ → ℕ) (numbers images : List ℕ) : Type 0 where
  pub at_0 : slice_index images 0 ≡ f (slice_index numbers 0)
  pub at_1 : slice_index images 1 ≡ f (slice_index numbers 1)
  pub at_2 : slice_index images 2 ≡ f (slice_index numbers 2)
  pub at_3 : slice_index images 3 ≡ f (slice_index numbers 3)
  pub at_4 : slice_index images 4 ≡ f (slice_index numbers 4)
  pub at_5 : slice_index images 5 ≡ f (slice_index numbers 5)
  pub at_6 : slice_index images 6 ≡ f (slice_index numbers 6)
  pub at_7 : slice_index images 7 ≡ f (slice_index numbers 7)

-- as many ranks of a row as there are capped, and with their halves
pub record AreRankLanes (n capped_n low_n high_n : ℕ) (ranks capped low high : List ℕ) : Type 0 where
  pub capped_len : capped_n ≡ n
  pub are_capped : AreCapped ranks capped n
  pub low_len : low_n ≡ n
  pub are_lower : AreLower ranks low n
  pub high_len : high_n ≡ n
  pub are_upper : AreUpper ranks high n
