-- Where the pixels of a row are, and which kind of pixel a header has.
use Rattle.drain_raster.proofs.Names.{◌≡◌, ◌≢◌, ℕ, ◌+◌, ◌-◌, ◌*◌, ◌/◌, ◌<◌, ◌≤◌, inl, inr, ℤ, pos, Bool, true, false, Option, Some, IfSome, List, length, take, drop, refl, arith, rules, sym, ap, ◌∙◌, cases_lt, take_rest, ints, to_z-of_z, mul-le-mul_left, mul-le-mul_right, div-mul-le_self, le-div_iff_mul-le, props, little_number, twos_complement, big_from-take, little_from-take, number_of, pattern_of, ∥∥₁_elim, w64, to_z, of_z, HeightKind, Whole, Single, IsPixel, IsNoData, ByteOrdering, Least, Most, Fields, IsPixelSize, pixel_len, needed_len, number_in, spelled_as, spelled_by, pixel_of, pixel_at, AreSpelled, least_number, greatest_number, complement_of, bytes_in, AreWritten}
use Rattle.std.proofs.lemmas.List.{length-drop}
use Rattle.std.proofs.lemmas.Grind.{not_there}
use Rattle.drain_raster.proofs.CellPlaces.{cell_of}

-- a number of this kind, at the place of a pixel, is the pixel's
pub pixel-found : (h : Fields) (len : ℕ) (number : List ℕ → ℤ) (body : List ℕ) (at row col : ℕ) → AreSpelled h len number →
    at ≡ h.skip + row * h.row_bytes + col * len → number (take (length body - at) (drop at body)) ≡ pixel_at h body (cell_of row col)
pixel-found h len number body at row col spelled is_at =
    ap number (take_rest body at) ∙ spelled.number_is (drop at body)
    ∙ ap (λ k. pixel_of h (drop k body)) (is_at ∙ ap (λ l. h.skip + row * h.row_bytes + col * l) spelled.len_is)

-- the place of a pixel, by what the code reads
pub place-by : (h inside : Fields) (row col long len : ℕ) → inside ≡ h → long ≡ len → inside.skip + row * inside.row_bytes + col * long ≡ h.skip + row * h.row_bytes + col * len
place-by h inside row col long len view is = ap (λ (f : Fields). f.skip + row * f.row_bytes + col * long) view ∙ ap (λ l. h.skip + row * h.row_bytes + col * l) is

-- a pixel that is needed lies within the body
pixel-ends : (h : Fields) (len : ℕ) (number : List ℕ → ℤ) (body : List ℕ) (at row col : ℕ) → AreSpelled h len number → row < h.rows → col < h.cols → needed_len h ≤ length body →
    at ≡ h.skip + row * h.row_bytes + col * len → at + len ≤ length body
pixel-ends h len number body at row col spelled row_in col_in enough is_at =
    let rows : row * h.row_bytes ≤ (h.rows - 1) * h.row_bytes = mul-le-mul_right h.row_bytes (omega arith) in
    let cols : (col + 1) * len ≤ h.cols * len = mul-le-mul_right len (omega arith) in
    let wide : h.cols * len ≡ h.cols * pixel_len h = ap (λ l. h.cols * l) spelled.len_is in
    omega (arith, is_at, rows, cols, wide, enough)

pub pixel-starts : (h : Fields) (len : ℕ) (number : List ℕ → ℤ) (body : List ℕ) (at row col : ℕ) → AreSpelled h len number → row < h.rows → col < h.cols → needed_len h ≤ length body →
    at ≡ h.skip + row * h.row_bytes + col * len → at ≤ length body
pixel-starts h len number body at row col spelled row_in col_in enough is_at = let ends = pixel-ends h len number body at row col spelled row_in col_in enough is_at in omega arith

pub pixel-room : (h : Fields) (len : ℕ) (number : List ℕ → ℤ) (body : List ℕ) (at row col : ℕ) → AreSpelled h len number → row < h.rows → col < h.cols → needed_len h ≤ length body →
    at ≡ h.skip + row * h.row_bytes + col * len → len ≤ length (take (length body - at) (drop at body))
pixel-room h len number body at row col spelled row_in col_in enough is_at =
    let ends = pixel-ends h len number body at row col spelled row_in col_in enough is_at in
    rw (take_rest body at) (omega (arith, ends, length-drop at body))

-- a number of a pixel goes through 64 bits unchanged
pub pixel-stored : (n : ℤ) → IsPixel n → to_z w64 (of_z w64 n) ≡ n
pixel-stored n ok = to_z-of_z w64 n (grind (arith, ints, ok.low, ok.high))

-- a no-data number does too
pub nodata-stored : (n : ℤ) → IsNoData n → IsNoData (to_z w64 (of_z w64 n))
nodata-stored n ok = rw (to_z-of_z w64 n (grind (arith, ints, ok.low, ok.high))) ok

-- what is read of a header is of its kind
pub kind-so : (h inside : Fields) (kind : HeightKind) → inside ≡ h → h.kind ≡ kind → inside.kind ≡ kind
kind-so h inside kind view is = ap (λ (f : Fields). f.kind) view ∙ is

-- a header's pixels are those of its bits, sign and order
pub spelled-so : (h inside : Fields) (bits : ℕ) (signed : Bool) (order : ByteOrdering) → inside ≡ h → inside.kind ≡ Whole → inside.bits ≡ bits → inside.signed ≡ signed →
    inside.order ≡ order → AreSpelled h (bits / 8) (spelled_by signed order (bits / 8))
spelled-so h inside bits signed order view is_kind is_bits is_signed is_order = rw (← view) (record {
  len_is = ap (λ b. b / 8) (sym is_bits);
  number_is = λ bytes. rw (is_kind, is_bits, is_signed, is_order) refl;
})

-- those of floats are their patterns
pub float-so : (h inside : Fields) (order : ByteOrdering) → inside ≡ h → inside.kind ≡ Single → inside.bits ≡ 32 → inside.order ≡ order →
    AreSpelled h 4 (λ bytes. number_of (number_in order 4 bytes))
float-so h inside order view is_kind is_bits is_order = rw (← view) (record {
  len_is = ap (λ b. b / 8) (sym is_bits);
  number_is = λ bytes. rw (is_kind, is_bits, is_order) refl;
})

-- one byte is the same number in either order
one_byte : (order : ByteOrdering) (bytes : List ℕ) → number_in order 1 bytes ≡ little_number 1 bytes
one_byte Least bytes = refl
one_byte Most bytes = omega arith

byte_by : (signed : Bool) (order : ByteOrdering) (bytes : List ℕ) → spelled_by signed Least 1 bytes ≡ spelled_by signed order 1 bytes
byte_by true order bytes = ap (twos_complement 1) (sym (one_byte order bytes))
byte_by false order bytes = ap pos (sym (one_byte order bytes))

-- pixels of 8 bits have no order
pub spelled-byte : (h inside : Fields) (signed : Bool) → inside ≡ h → inside.kind ≡ Whole → inside.bits ≡ 8 → inside.signed ≡ signed → AreSpelled h 1 (spelled_by signed Least 1)
spelled-byte h inside signed view is_kind is_bits is_signed = rw (← view) (record {
  len_is = ap (λ b. b / 8) (sym is_bits);
  number_is = λ bytes. rw (is_kind, is_bits, is_signed) (byte_by signed inside.order bytes);
})

-- the bounds of a header's pixels are those of its bits and sign
pub least-so : (h inside : Fields) (bits : ℕ) (signed : Bool) → inside ≡ h → inside.bits ≡ bits → inside.signed ≡ signed →
    least_number signed bits ≡ least_number h.signed h.bits
least-so h inside bits signed view is_bits is_signed = rw (← view, is_bits, is_signed) refl

pub greatest-so : (h inside : Fields) (bits : ℕ) (signed : Bool) → inside ≡ h → inside.bits ≡ bits → inside.signed ≡ signed →
    greatest_number signed bits ≡ greatest_number h.signed h.bits
greatest-so h inside bits signed view is_bits is_signed = rw (← view, is_bits, is_signed) refl

-- a number that a header gives is a lawful one
pub nodata-held : (nodata : Option ℤ) (n : ℤ) → ∥ IfSome nodata IsNoData ∥₁ → nodata ≡ Some n → IsNoData n
nodata-held nodata n held is = ∥∥₁_elim held (hlevel props) (λ ok. rw is at ok)

-- pixels that are of neither 8 nor 16 bits are of 32
pub widest : (bits : ℕ) → ∥ IsPixelSize bits ∥₁ → bits ≢ 8 → bits ≢ 16 → bits ≡ 32
widest bits ok not_8 not_16 =
    let not_other : (bits ≢ 32) → ⊥ = λ other. not_there ok (λ size. elim size [ inl is_8 ↦ not_8 is_8 | inr rest ↦ elim rest [ inl is_16 ↦ not_16 is_16 | inr is_32 ↦ other is_32 ] ]) in
    elim (cases_lt bits 32) [
      | inl less ↦ absurd (not_other (λ e. omega arith))
      | inr not_less ↦ elim (cases_lt 32 bits) [ inl more ↦ absurd (not_other (λ e. omega arith)) | inr not_more ↦ omega arith ]
    ]

-- a pixel takes at most 4 bytes
pub pixel_len-most : (bits : ℕ) → ∥ IsPixelSize bits ∥₁ → bits / 8 ≤ 4
pixel_len-most bits ok = ∥∥₁_elim ok (hlevel props) (λ size. elim size [
  | inl is_8 ↦ rw is_8 (omega arith)
  | inr rest ↦ elim rest [ inl is_16 ↦ rw is_16 (omega arith) | inr is_32 ↦ rw is_32 (omega arith) ]
])

-- and at least one
pub pixel_len-least : (bits : ℕ) → ∥ IsPixelSize bits ∥₁ → 1 ≤ bits / 8
pixel_len-least bits ok = ∥∥₁_elim ok (hlevel props) (λ size. elim size [
  | inl is_8 ↦ rw is_8 (omega arith)
  | inr rest ↦ elim rest [ inl is_16 ↦ rw is_16 (omega arith) | inr is_32 ↦ rw is_32 (omega arith) ]
])

-- the pixels of a row have room in it
pub packed-fits : (h : Fields) → h.cols * h.bits / 8 ≤ h.row_bytes → h.cols * pixel_len h ≤ h.row_bytes
packed-fits h holds =
    let whole = mul-le-mul_left h.cols (div-mul-le_self h.bits 8) in
    omega (arith, (le-div_iff_mul-le {k = 8} {x = h.cols * (h.bits / 8)} {y = h.cols * h.bits} (omega arith)).1 (omega (arith, whole)))

-- the numbers are those of pixels of these bits, sign and order
pub written-so : (h inside : Fields) (bits : ℕ) (signed : Bool) (order : ByteOrdering) → inside ≡ h → inside.kind ≡ Whole → inside.bits ≡ bits → inside.signed ≡ signed →
    inside.order ≡ order → AreWritten h Whole (bits / 8) bits signed (λ z. bytes_in order (bits / 8) (complement_of bits z))
written-so h inside bits signed order view is_kind is_bits is_signed is_order = rw (← view) (record {
  kind_is = sym is_kind;
  len_is = ap (λ b. b / 8) (sym is_bits);
  bits_are = sym is_bits;
  sign_is = sym is_signed;
  bytes_are = λ z. rw (is_kind, is_bits, is_order) refl;
})

-- and of floats
pub written-float : (h inside : Fields) (order : ByteOrdering) → inside ≡ h → inside.kind ≡ Single → inside.bits ≡ 32 → inside.signed ≡ true →
    inside.order ≡ order → AreWritten h Single 4 32 true (λ z. bytes_in order 4 (pattern_of z))
written-float h inside order view is_kind is_bits is_signed is_order = rw (← view) (record {
  kind_is = sym is_kind;
  len_is = ap (λ b. b / 8) (sym is_bits);
  bits_are = sym is_bits;
  sign_is = sym is_signed;
  bytes_are = λ z. rw (is_kind, is_bits, is_order) refl;
})

-- one byte is the same in either order
one_byte_of : (order : ByteOrdering) (n : ℕ) → bytes_in Least 1 n ≡ bytes_in order 1 n
one_byte_of Least n = refl
one_byte_of Most n = search rules

-- and so are numbers of pixels of 8 bits
pub written-byte : (h inside : Fields) (signed : Bool) → inside ≡ h → inside.kind ≡ Whole → inside.bits ≡ 8 → inside.signed ≡ signed →
    AreWritten h Whole 1 8 signed (λ z. bytes_in Least 1 (complement_of 8 z))
written-byte h inside signed view is_kind is_bits is_signed = rw (← view) (record {
  kind_is = sym is_kind;
  len_is = ap (λ b. b / 8) (sym is_bits);
  bits_are = sym is_bits;
  sign_is = sym is_signed;
  bytes_are = λ z. rw (is_kind, is_bits) (one_byte_of inside.order (complement_of 8 z));
})

-- a number is that of its own bytes
number_in-take : (order : ByteOrdering) (n m : ℕ) (bytes : List ℕ) → n ≤ m → number_in order n (take m bytes) ≡ number_in order n bytes
number_in-take Least n m bytes fits = little_from-take 0 n m bytes (omega (arith, fits))
number_in-take Most n m bytes fits = big_from-take 0 n m bytes (omega (arith, fits))

spelled_by-take : (signed : Bool) (order : ByteOrdering) (n m : ℕ) (bytes : List ℕ) → n ≤ m → spelled_by signed order n (take m bytes) ≡ spelled_by signed order n bytes
spelled_by-take true order n m bytes fits = ap (twos_complement n) (number_in-take order n m bytes fits)
spelled_by-take false order n m bytes fits = ap pos (number_in-take order n m bytes fits)

pub spelled_as-take : (kind : HeightKind) (signed : Bool) (order : ByteOrdering) (n m : ℕ) (bytes : List ℕ) → n ≤ m → spelled_as kind signed order n (take m bytes) ≡ spelled_as kind signed order n bytes
spelled_as-take Whole signed order n m bytes fits = spelled_by-take signed order n m bytes fits
spelled_as-take Single signed order n m bytes fits = ap number_of (number_in-take order n m bytes fits)
