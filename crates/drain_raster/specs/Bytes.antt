-- The bytes of a raster, and the range of its pixels.
-- Source: the Esri description of BIL files and their headers (NBITS, PIXELTYPE, BYTEORDER, SKIPBYTES, TOTALROWBYTES),
-- of one band; IEEE 754 binary32; that bytes without a pixel are zeros is this project's own
use Rattle.std.specs.Prelude.{◌≡◌, ◌-◌, ◌*◌, ◌^◌, ◌<◌, ◌≤ℤ◌, ◌++◌}
use Rattle.drain_raster.specs.Names.{ℕ, ℤ, pos, negsuc, neg_ℤ, Bool, true, false, List, map, replicate, flat_map, range_with_len, big_bytes, little_bytes, IsFloatNumber, pattern_of, Cell, HeightKind, Whole, Single, IsCellOf, IsEarlier, row_cells, Pixels, number_at, ByteOrdering, Least, Most, Fields}
use Rattle.drain_raster.specs.Pixels.{pixel_len}

-- the least number of n bits, in two's complement if signed
abbrev pub least_number : Bool → ℕ → ℤ
least_number true bits = neg_ℤ (pos (2 ^ (bits - 1)))
least_number false bits = pos 0

-- the greatest
abbrev pub greatest_number : Bool → ℕ → ℤ
greatest_number true bits = pos (2 ^ (bits - 1) - 1)
greatest_number false bits = pos (2 ^ bits - 1)

-- n bits can encode the number
pub record CanSpellIn (signed : Bool) (bits : ℕ) (z : ℤ) : Type 0 where
  pub low : least_number signed bits ≤ℤ z
  pub high : z ≤ℤ greatest_number signed bits

-- n bits of pixels of a kind can: those of floats only the numbers of floats
abbrev pub CanSpellAs : HeightKind → Bool → ℕ → ℤ → Type 0
CanSpellAs Whole signed bits z = CanSpellIn signed bits z
CanSpellAs Single signed bits z = IsFloatNumber z

-- a pixel can
abbrev pub CanSpell : Fields → ℤ → Type 0
CanSpell h z = CanSpellAs h.kind h.signed h.bits z

-- the whole number with the bits of z in two's complement
abbrev pub complement_of : ℕ → ℤ → ℕ
complement_of bits (pos n) = n
complement_of bits (negsuc n) = 2 ^ bits - 1 - n

-- the whole number with the bits of a pixel of a kind: of a float its pattern
abbrev pub word_as : HeightKind → ℕ → ℤ → ℕ
word_as Whole bits z = complement_of bits z
word_as Single bits z = pattern_of z

-- the lowest n bytes of a whole number in this order
abbrev pub bytes_in : ByteOrdering → ℕ → ℕ → List ℕ
bytes_in Least n number = little_bytes n number
bytes_in Most n number = big_bytes n number

-- the bytes of a pixel
abbrev pub pixel_bytes : Fields → ℤ → List ℕ
pixel_bytes h z = bytes_in h.order (pixel_len h) (word_as h.kind h.bits z)

-- the bytes of the numbers at these cells, where a number has such bytes
abbrev pub cells_bytes : (ℤ → List ℕ) → Pixels → List Cell → List ℕ
cells_bytes bytes p cs = flat_map (λ c. bytes (number_at p c)) cs

-- n cells of a row from a column on
abbrev pub cells_from : ℕ → ℕ → ℕ → List Cell
cells_from r k n = map (λ col. record { row = r; col = col }) (range_with_len k n)

-- the bytes of a row outside its pixels
abbrev pub padding_len : Fields → ℕ
padding_len h = h.row_bytes - h.cols * pixel_len h

-- the pixels of a row, and zeros up to its length
abbrev pub bytes_of_row : Fields → Pixels → ℕ → List ℕ
bytes_of_row h p r = cells_bytes (pixel_bytes h) p (row_cells h.cols r) ++ replicate (padding_len h) 0

-- the bytes of a raster: zeros to skip, and its rows, the last one too up to its length
abbrev pub raster_bytes : Fields → Pixels → List ℕ
raster_bytes h p = replicate h.skip 0 ++ flat_map (bytes_of_row h p) (range_with_len 0 h.rows)

-- n bits of pixels of a kind can encode each number
abbrev pub CanSpellAllAs : HeightKind → Bool → ℕ → Pixels → Type 0
CanSpellAllAs kind signed bits p = (c : Cell) → IsCellOf p.extent c → CanSpellAs kind signed bits (number_at p c)

-- a pixel can
abbrev pub CanSpellAll : Fields → Pixels → Type 0
CanSpellAll h p = CanSpellAllAs h.kind h.signed h.bits p

-- a pixel can encode each number of a row up to a column
abbrev pub CanSpellTo : Fields → Pixels → ℕ → ℕ → Type 0
CanSpellTo h p r n = (k : ℕ) → k < n → CanSpell h (number_at p (record { row = r; col = k }))

-- the first column of a row whose number a pixel can't encode
pub record IsFirstAlong (h : Fields) (p : Pixels) (r k : ℕ) : Type 0 where
  pub inside : k < h.cols
  pub unspelled : ¬ CanSpell h (number_at p (record { row = r; col = k }))
  pub first : CanSpellTo h p r k

-- the first cell whose number a pixel can't encode
pub record IsFirstOutOfRange (h : Fields) (p : Pixels) (c : Cell) : Type 0 where
  pub inside : IsCellOf p.extent c
  pub unspelled : ¬ CanSpell h (number_at p c)
  pub first : (b : Cell) → IsCellOf p.extent b → IsEarlier b c → CanSpell h (number_at p b)

-- pixels of a kind, of n bytes and some bits, signed or not, whose numbers have these bytes, are those of the header
pub record AreWritten (h : Fields) (kind : HeightKind) (len bits : ℕ) (signed : Bool) (bytes : ℤ → List ℕ) : Type 0 where
  pub kind_is : kind ≡ h.kind
  pub len_is : len ≡ pixel_len h
  pub bits_are : bits ≡ h.bits
  pub sign_is : signed ≡ h.signed
  pub bytes_are : (z : ℤ) → bytes z ≡ pixel_bytes h z
