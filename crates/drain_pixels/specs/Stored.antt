-- The numbers of pixels that are stored next to each other.
-- Source: the Esri description of BIL files and their headers (NBITS, PIXELTYPE, BYTEORDER), of one band
use Rattle.std.specs.Prelude.{◌*◌, ◌/◌}
use Rattle.drain_pixels.specs.Names.{ℕ, ℤ, pos, List, length, drop, map, number_of}
use Rattle.std.specs.List.{range_with_len}
use Rattle.byteorder.specs.Endian.{little_number, twos_complement}
use Rattle.drain_pixels.specs.declared.pixel_row.PixelKind.{PixelKind}
use Rattle.drain_pixels.specs.declared.pixel_row.PixelKind.TheVariants as kind
use Rattle.drain_pixels.specs.declared.stored.Pixels.{Pixels}
use Rattle.drain_pixels.specs.declared.stored.Pixels.TheVariants.{U8, I16, U16, I32, U32, F32, Any}

-- the numbers of as many pixels of n bytes as there are, each by the bytes from its first one on
abbrev pub numbers_of : ℕ → (List ℕ → ℤ) → List ℕ → List ℤ
numbers_of n number bytes = map (λ k. number (drop (n * k) bytes)) (range_with_len 0 (length bytes / n))

-- a pixel of 8 bits without a sign, at the front of the bytes
abbrev pub u8_number : List ℕ → ℤ
u8_number bytes = pos (little_number 1 bytes)

-- one of 16 bits with a sign, least byte first
abbrev pub i16_number : List ℕ → ℤ
i16_number bytes = twos_complement 2 (little_number 2 bytes)

-- one of 16 bits without a sign, least byte first
abbrev pub u16_number : List ℕ → ℤ
u16_number bytes = pos (little_number 2 bytes)

-- one of 32 bits with a sign, least byte first
abbrev pub i32_number : List ℕ → ℤ
i32_number bytes = twos_complement 4 (little_number 4 bytes)

-- one of 32 bits without a sign, least byte first
abbrev pub u32_number : List ℕ → ℤ
u32_number bytes = pos (little_number 4 bytes)

-- a float of 32 bits, least byte first: the number of its pattern
abbrev pub f32_number : List ℕ → ℤ
f32_number bytes = number_of (little_number 4 bytes)

-- all pixels of 8 bits without a sign
abbrev pub u8_numbers : List ℕ → List ℤ
u8_numbers bytes = numbers_of 1 u8_number bytes

-- all pixels of 16 bits with a sign
abbrev pub i16_numbers : List ℕ → List ℤ
i16_numbers bytes = numbers_of 2 i16_number bytes

-- all pixels of 16 bits without a sign
abbrev pub u16_numbers : List ℕ → List ℤ
u16_numbers bytes = numbers_of 2 u16_number bytes

-- all pixels of 32 bits with a sign
abbrev pub i32_numbers : List ℕ → List ℤ
i32_numbers bytes = numbers_of 4 i32_number bytes

-- all pixels of 32 bits without a sign
abbrev pub u32_numbers : List ℕ → List ℤ
u32_numbers bytes = numbers_of 4 u32_number bytes

-- all floats of 32 bits
abbrev pub f32_numbers : List ℕ → List ℤ
f32_numbers bytes = numbers_of 4 f32_number bytes

-- the numbers of pixels of one of the kinds
abbrev pub numbers_in : Pixels → List ℤ
numbers_in (U8 pixels) = u8_numbers pixels.bytes.now
numbers_in (I16 pixels) = i16_numbers pixels.bytes.now
numbers_in (U16 pixels) = u16_numbers pixels.bytes.now
numbers_in (I32 pixels) = i32_numbers pixels.bytes.now
numbers_in (U32 pixels) = u32_numbers pixels.bytes.now
numbers_in (F32 pixels) = f32_numbers pixels.bytes.now
numbers_in (Any pixels) = pixels.numbers.now

-- the numbers of pixels that are kept as bytes or as numbers
abbrev pub numbers_as : PixelKind → List ℕ → List ℤ → List ℤ
numbers_as kind.U8 bytes numbers = u8_numbers bytes
numbers_as kind.I16 bytes numbers = i16_numbers bytes
numbers_as kind.U16 bytes numbers = u16_numbers bytes
numbers_as kind.I32 bytes numbers = i32_numbers bytes
numbers_as kind.U32 bytes numbers = u32_numbers bytes
numbers_as kind.F32 bytes numbers = f32_numbers bytes
numbers_as kind.Any bytes numbers = numbers
