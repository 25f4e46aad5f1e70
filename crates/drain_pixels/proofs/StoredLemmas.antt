-- Stored pixels: how many there are, and the number at a column.
use Rattle.drain_pixels.proofs.Names.{◌≡◌, ℕ, ◌+◌, ◌*◌, ◌/◌, ◌<◌, ◌≤◌, ℤ, pos, List, length, drop, arith, slice_index_or, f32_number, f32_numbers, i16_number, i16_numbers, i32_number, i32_numbers, numbers_of, u16_number, u16_numbers, u32_number, u32_numbers, u8_number, u8_numbers}
use Rattle.std.proofs.lemmas.List.FromFn.{get_or-map-range_with_len, length-map-range_with_len}

-- as many as there is room for
pub numbers_len : (n : ℕ) (number : List ℕ → ℤ) (bytes : List ℕ) → length (numbers_of n number bytes) ≡ length bytes / n
numbers_len n number bytes = length-map-range_with_len (λ k. number (drop (n * k) bytes)) 0 (length bytes / n)

-- the number at a column
pub number_at : (n k : ℕ) (number : List ℕ → ℤ) (bytes : List ℕ) → k < length (numbers_of n number bytes) →
    slice_index_or (numbers_of n number bytes) k (pos 0) ≡ number (drop (n * k) bytes)
number_at n k number bytes inside =
    get_or-map-range_with_len (λ j. number (drop (n * j) bytes)) 0 (length bytes / n) k k (pos 0) (omega (arith, numbers_len n number bytes, inside)) (omega arith)

-- of each kind there are as many pixels as its bytes hold
pub u8_len : (bytes : List ℕ) → length (u8_numbers bytes) ≡ length bytes
u8_len bytes = omega (arith, numbers_len 1 u8_number bytes)

pub i16_len : (bytes : List ℕ) → length (i16_numbers bytes) ≡ length bytes / 2
i16_len bytes = numbers_len 2 i16_number bytes

pub u16_len : (bytes : List ℕ) → length (u16_numbers bytes) ≡ length bytes / 2
u16_len bytes = numbers_len 2 u16_number bytes

pub i32_len : (bytes : List ℕ) → length (i32_numbers bytes) ≡ length bytes / 4
i32_len bytes = numbers_len 4 i32_number bytes

pub u32_len : (bytes : List ℕ) → length (u32_numbers bytes) ≡ length bytes / 4
u32_len bytes = numbers_len 4 u32_number bytes

pub f32_len : (bytes : List ℕ) → length (f32_numbers bytes) ≡ length bytes / 4
f32_len bytes = numbers_len 4 f32_number bytes

-- the bytes of a pixel lie within
pub u8_inside : (bytes : List ℕ) (k : ℕ) → k < length (u8_numbers bytes) → k < length bytes
u8_inside bytes k inside = omega (arith, u8_len bytes, inside)

pub i16_inside : (bytes : List ℕ) (k : ℕ) → k < length (i16_numbers bytes) → 2 * k + 2 ≤ length bytes
i16_inside bytes k inside = omega (arith, i16_len bytes, inside)

pub u16_inside : (bytes : List ℕ) (k : ℕ) → k < length (u16_numbers bytes) → 2 * k + 2 ≤ length bytes
u16_inside bytes k inside = omega (arith, u16_len bytes, inside)

pub i32_inside : (bytes : List ℕ) (k : ℕ) → k < length (i32_numbers bytes) → 4 * k + 4 ≤ length bytes
i32_inside bytes k inside = omega (arith, i32_len bytes, inside)

pub u32_inside : (bytes : List ℕ) (k : ℕ) → k < length (u32_numbers bytes) → 4 * k + 4 ≤ length bytes
u32_inside bytes k inside = omega (arith, u32_len bytes, inside)

pub f32_inside : (bytes : List ℕ) (k : ℕ) → k < length (f32_numbers bytes) → 4 * k + 4 ≤ length bytes
f32_inside bytes k inside = omega (arith, f32_len bytes, inside)
