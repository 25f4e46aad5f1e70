-- Numbers that are stored in bytes are those of pixels.
use Rattle.drain_pixels.proofs.Names.{inl, inr, ℕ, ◌+◌, ◌*◌, ◌<◌, ℤ, pos, List, [], drop, All, arith, subst, sym, slice_index, All-from_get_or, IsPixel, f32_number, i16_number, i32_number, numbers_as, numbers_of, u16_number, u32_number, u8_number}
use Rattle.std.proofs.lemmas.Bool.{cases_lt, lt-ltb, le-ltb}
use Rattle.std.proofs.lemmas.Bool.Decides.{nat_tests}
use Rattle.std.proofs.lemmas.Int.{ints}
use Rattle.std.proofs.lemmas.List.{get_or-drop}
use Rattle.byteorder.specs.Endian.{little_number, twos_complement}
use Rattle.byteorder.specs.Numbers.{little_from-lt}
use Rattle.drain_floats.specs.Patterns.{number_of}
use Rattle.drain_pixels.specs.declared.pixel_row.PixelKind.{PixelKind}
use Rattle.drain_pixels.specs.declared.pixel_row.PixelKind.TheVariants.{U8, I16, U16, I32, U32, F32, Any}
use Rattle.drain_pixels.proofs.StoredLemmas.{number_at}

-- whole numbers below 256
abbrev AreBytes : List ℕ → Type 0
AreBytes bytes = (k : ℕ) → slice_index bytes k < 256

-- bytes from one of them on
from : (n : ℕ) (bytes : List ℕ) → AreBytes bytes → AreBytes (drop n bytes)
from n bytes are = λ k. subst (λ x. x < 256) (sym (get_or-drop n bytes k 0)) (are (n + k))

-- a whole number of 32 bits
whole : (x : ℕ) → x < 4294967296 → IsPixel (pos x)
whole x small = record { low = omega (arith, ints); high = omega (arith, ints, small) }

-- one of 16 or 32 bits in two's complement
signed_16 : (x : ℕ) → x < 65536 → IsPixel (twos_complement 2 x)
signed_16 x small = elim (cases_lt x 32768) [
  | inl below ↦ rw (lt-ltb x 32768 below) (whole x (omega (arith, small)))
  | inr above ↦ rw (le-ltb x 32768 above) (record { low = omega (arith, ints, above); high = omega (arith, ints, small) })
]

signed_32 : (x : ℕ) → x < 4294967296 → IsPixel (twos_complement 4 x)
signed_32 x small = elim (cases_lt x 2147483648) [
  | inl below ↦ rw (lt-ltb x 2147483648 below) (whole x small)
  | inr above ↦ rw (le-ltb x 2147483648 above) (record { low = omega (arith, ints, above); high = omega (arith, ints, small) })
]

-- that of a pattern
float : (x : ℕ) → x < 4294967296 → IsPixel (number_of x)
float x small = record { low = grind (arith, ints, nat_tests); high = grind (arith, ints, nat_tests) }

each_all : (n : ℕ) (number : List ℕ → ℤ) (bytes : List ℕ) → ((xs : List ℕ) → AreBytes xs → IsPixel (number xs)) → AreBytes bytes → All IsPixel (numbers_of n number bytes)
each_all n number bytes each are =
    All-from_get_or IsPixel (numbers_of n number bytes) (pos 0)
    (λ k inside. subst IsPixel (sym (number_at n k number bytes inside)) (each (drop (n * k) bytes) (from (n * k) bytes are)))

-- all numbers of bytes of a kind
pub all_pixels : (kind : PixelKind) (bytes : List ℕ) → AreBytes bytes → All IsPixel (numbers_as kind bytes [])
all_pixels U8 bytes are = each_all 1 u8_number bytes (λ xs small. let below = little_from-lt 0 1 xs small in whole (little_number 1 xs) (omega (arith, below))) are
all_pixels I16 bytes are = each_all 2 i16_number bytes (λ xs small. let below = little_from-lt 0 2 xs small in signed_16 (little_number 2 xs) (omega (arith, below))) are
all_pixels U16 bytes are = each_all 2 u16_number bytes (λ xs small. let below = little_from-lt 0 2 xs small in whole (little_number 2 xs) (omega (arith, below))) are
all_pixels I32 bytes are = each_all 4 i32_number bytes (λ xs small. let below = little_from-lt 0 4 xs small in signed_32 (little_number 4 xs) (omega (arith, below))) are
all_pixels U32 bytes are = each_all 4 u32_number bytes (λ xs small. let below = little_from-lt 0 4 xs small in whole (little_number 4 xs) (omega (arith, below))) are
all_pixels F32 bytes are = each_all 4 f32_number bytes (λ xs small. let below = little_from-lt 0 4 xs small in float (little_number 4 xs) (omega (arith, below))) are
all_pixels Any bytes are = λ k d inside. absurd (omega (arith, inside))
