-- Bytes that are kept of a row hold the numbers of its pixels: place by place.
use Rattle.drain_raster.proofs.Names.{◌≡◌, ◌≢◌, refl, ℕ, ◌*◌, ◌/◌, ℤ, pos, true, false, List, [], length, take, drop, arith, sym, ap, ◌∙◌, ext_get_or, mul_comm, Whole, Single, Least, Fields, f32_number, i16_number, i32_number, numbers_as, numbers_of, u16_number, u32_number, u8_number, AreSpelled, pixel_len, pixel_of, packed_len, pixels_of}
use Rattle.drain_pixels.specs.declared.pixel_row.PixelKind.{PixelKind}
use Rattle.drain_pixels.specs.declared.pixel_row.PixelKind.TheVariants.{U8, I16, U16, I32, U32, F32, Any}
use Rattle.drain_pixels.proofs.StoredLemmas.{number_at, numbers_len}
use Rattle.drain_raster.specs.Kinds.{HoldRows, IsKindOf}
use Rattle.drain_raster.proofs.PixelLemmas.{float-so, spelled_as-take, spelled-byte, spelled-so}
use Rattle.drain_raster.proofs.RasterEnds.{numbers_long}
use Rattle.drain_raster.proofs.RasterRowLemmas.{numbers_of-at}

-- the number at a column is the pixel's
same_at : (h : Fields) (n k : ℕ) (number : List ℕ → ℤ) (bytes : List ℕ) → AreSpelled h n number →
    number (drop (n * k) bytes) ≡ pixel_of h (take (pixel_len h) (drop (k * pixel_len h) bytes))
same_at h n k number bytes spelled =
    let place : n * k ≡ k * pixel_len h = mul_comm n k ∙ ap (λ p. k * p) spelled.len_is in
    spelled.number_is (drop (n * k) bytes) ∙ ap (λ m. pixel_of h (drop m bytes)) place
    ∙ sym (spelled_as-take h.kind h.signed h.order (pixel_len h) (pixel_len h) (drop (k * pixel_len h) bytes) (omega arith))

-- as many numbers as columns are the row's
all_same : (h : Fields) (n : ℕ) (number : List ℕ → ℤ) (bytes : List ℕ) → AreSpelled h n number → length bytes / n ≡ h.cols → numbers_of n number bytes ≡ pixels_of h bytes
all_same h n number bytes spelled long =
    let here = numbers_len n number bytes ∙ long in
    let there = numbers_long (pixel_len h) (pixel_of h) h.cols bytes in
    ext_get_or (pos 0) (numbers_of n number bytes) (pixels_of h bytes) (here ∙ sym there)
    (λ k inside. number_at n k number bytes inside ∙ same_at h n k number bytes spelled
    ∙ sym (numbers_of-at (pixel_len h) (pixel_of h) h.cols k (pos 0) bytes (omega (arith, here, inside))))

-- a row's bytes of a known size hold this many columns
wide : (h : Fields) (n : ℕ) (bytes : List ℕ) → n ≡ pixel_len h → length bytes ≡ packed_len h → length bytes ≡ h.cols * n
wide h n bytes is long = long ∙ ap (λ p. h.cols * p) (sym is)

-- pixels of 8 bits without a sign, of 16 and of 32 with or without one
pub u8_kind : (h inside : Fields) → inside ≡ h → inside.kind ≡ Whole → inside.bits ≡ 8 → inside.signed ≡ false → IsKindOf h U8
u8_kind h inside view is_kind is_bits is_signed bytes long =
    let spelled = spelled-byte h inside false view is_kind is_bits is_signed in
    all_same h 1 u8_number bytes spelled (omega (arith, wide h 1 bytes spelled.len_is long))

pub i16_kind : (h inside : Fields) → inside ≡ h → inside.kind ≡ Whole → inside.bits ≡ 16 → inside.signed ≡ true → inside.order ≡ Least → IsKindOf h I16
i16_kind h inside view is_kind is_bits is_signed is_order bytes long =
    let spelled = spelled-so h inside 16 true Least view is_kind is_bits is_signed is_order in
    all_same h 2 i16_number bytes spelled (omega (arith, wide h 2 bytes spelled.len_is long))

pub u16_kind : (h inside : Fields) → inside ≡ h → inside.kind ≡ Whole → inside.bits ≡ 16 → inside.signed ≡ false → inside.order ≡ Least → IsKindOf h U16
u16_kind h inside view is_kind is_bits is_signed is_order bytes long =
    let spelled = spelled-so h inside 16 false Least view is_kind is_bits is_signed is_order in
    all_same h 2 u16_number bytes spelled (omega (arith, wide h 2 bytes spelled.len_is long))

pub i32_kind : (h inside : Fields) → inside ≡ h → inside.kind ≡ Whole → inside.bits ≡ 32 → inside.signed ≡ true → inside.order ≡ Least → IsKindOf h I32
i32_kind h inside view is_kind is_bits is_signed is_order bytes long =
    let spelled = spelled-so h inside 32 true Least view is_kind is_bits is_signed is_order in
    all_same h 4 i32_number bytes spelled (omega (arith, wide h 4 bytes spelled.len_is long))

pub u32_kind : (h inside : Fields) → inside ≡ h → inside.kind ≡ Whole → inside.bits ≡ 32 → inside.signed ≡ false → inside.order ≡ Least → IsKindOf h U32
u32_kind h inside view is_kind is_bits is_signed is_order bytes long =
    let spelled = spelled-so h inside 32 false Least view is_kind is_bits is_signed is_order in
    all_same h 4 u32_number bytes spelled (omega (arith, wide h 4 bytes spelled.len_is long))

-- floats
pub f32_kind : (h inside : Fields) → inside ≡ h → inside.kind ≡ Single → inside.bits ≡ 32 → inside.order ≡ Least → IsKindOf h F32
f32_kind h inside view is_kind is_bits is_order bytes long =
    let spelled = float-so h inside Least view is_kind is_bits is_order in
    all_same h 4 f32_number bytes spelled (omega (arith, wide h 4 bytes spelled.len_is long))

-- no bytes, no numbers
pub none_kept : (kind : PixelKind) → numbers_as kind [] [] ≡ []
none_kept U8 = refl
none_kept I16 = refl
none_kept U16 = refl
none_kept I32 = refl
none_kept U32 = refl
none_kept F32 = refl
none_kept Any = refl

-- bytes of a usual kind hold the row's numbers
pub usual : (h : Fields) (kind : PixelKind) → IsKindOf h kind → kind ≢ Any → HoldRows h kind
usual h U8 is other = is
usual h I16 is other = is
usual h U16 is other = is
usual h I32 is other = is
usual h U32 is other = is
usual h F32 is other = is
usual h Any is other = absurd (other refl)
