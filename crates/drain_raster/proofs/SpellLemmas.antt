-- A pixel's bytes encode the number that they were made of.
use Rattle.drain_raster.proofs.Names.{◌≡◌, ℕ, ◌-◌, ◌*◌, ◌/◌, ◌^◌, ◌<◌, ◌≤◌, inl, inr, ℤ, pos, negsuc, ◌-ℤ◌, Bool, true, false, List, ◌++◌, refl, arith, lit<, ap, ◌∙◌, lt-ltb, le-ltb, ints, props, ∥∥₁_elim, twos_complement, big_number-reads_back, little_number-reads_back, IsFloatNumber, IsSingle, number_of, pattern_of, HeightKind, Whole, Single, ByteOrdering, Least, Most, Fields, IsPixelSize, number_in, spelled_as, spelled_by, pixel_of, CanSpell, CanSpellAs, CanSpellIn, complement_of, word_as, bytes_in, pixel_bytes}
use Rattle.drain_floats.proofs.ReadBack.{read_back}

-- the number that a whole number encodes
abbrev spelled_by_number : Bool → ℕ → ℕ → ℤ
spelled_by_number true len number = twos_complement len number
spelled_by_number false len number = pos number

-- a whole number's bytes, and more bytes after them
number_in-bytes_in : (order : ByteOrdering) (n x : ℕ) (rest : List ℕ) → x < 256 ^ n → number_in order n (bytes_in order n x ++ rest) ≡ x
number_in-bytes_in Least n x rest fits = little_number-reads_back n x rest fits
number_in-bytes_in Most n x rest fits = big_number-reads_back n x rest fits

-- a number below the half is itself, and one above it encodes a negative number
twos-low : (len n : ℕ) → n < 2 ^ (8 * len - 1) → twos_complement len n ≡ pos n
twos-low len n low = rw (lt-ltb n (2 ^ (8 * len - 1)) low) refl

twos-high : (len x : ℕ) → 2 ^ (8 * len - 1) ≤ x → twos_complement len x ≡ pos x -ℤ pos (2 ^ (8 * len))
twos-high len x high = rw (le-ltb x (2 ^ (8 * len - 1)) high) refl

-- the number with the bits of z in two's complement is z, for each size
back-8 : (z : ℤ) → CanSpellIn true 8 z → (complement_of 8 z < 256 ^ 1) × (twos_complement 1 (complement_of 8 z) ≡ z)
back-8 (pos n) ok = let low : n < 128 = omega (arith, ints, ok.high) in (omega arith, twos-low 1 n low)
back-8 (negsuc n) ok =
    let low : n < 128 = omega (arith, ints, ok.low) in
    (omega arith, twos-high 1 (2 ^ 8 - 1 - n) (omega arith) ∙ omega (arith, ints))

back-16 : (z : ℤ) → CanSpellIn true 16 z → (complement_of 16 z < 256 ^ 2) × (twos_complement 2 (complement_of 16 z) ≡ z)
back-16 (pos n) ok = let low : n < 32768 = omega (arith, ints, ok.high) in (omega arith, twos-low 2 n low)
back-16 (negsuc n) ok =
    let low : n < 32768 = omega (arith, ints, ok.low) in
    (omega arith, twos-high 2 (2 ^ 16 - 1 - n) (omega arith) ∙ omega (arith, ints))

back-32 : (z : ℤ) → CanSpellIn true 32 z → (complement_of 32 z < 256 ^ 4) × (twos_complement 4 (complement_of 32 z) ≡ z)
back-32 (pos n) ok = let low : n < 2147483648 = omega (arith, ints, ok.high) in (omega arith, twos-low 4 n low)
back-32 (negsuc n) ok =
    let low : n < 2147483648 = omega (arith, ints, ok.low) in
    (omega arith, twos-high 4 (2 ^ 32 - 1 - n) (omega arith) ∙ omega (arith, ints))

-- and so is an unsigned one
same-8 : (z : ℤ) → CanSpellIn false 8 z → (complement_of 8 z < 256 ^ 1) × (pos (complement_of 8 z) ≡ z)
same-8 (pos n) ok = (omega (arith, ints, ok.high), refl)
same-8 (negsuc n) ok = absurd (omega (arith, ints, ok.low))

same-16 : (z : ℤ) → CanSpellIn false 16 z → (complement_of 16 z < 256 ^ 2) × (pos (complement_of 16 z) ≡ z)
same-16 (pos n) ok = (omega (arith, ints, ok.high), refl)
same-16 (negsuc n) ok = absurd (omega (arith, ints, ok.low))

same-32 : (z : ℤ) → CanSpellIn false 32 z → (complement_of 32 z < 256 ^ 4) × (pos (complement_of 32 z) ≡ z)
same-32 (pos n) ok = (omega (arith, ints, ok.high), refl)
same-32 (negsuc n) ok = absurd (omega (arith, ints, ok.low))

-- bytes of a number that the bits can encode, and more bytes after them
spelled-back : (signed : Bool) (order : ByteOrdering) (len bits : ℕ) (z : ℤ) (rest : List ℕ) → complement_of bits z < 256 ^ len →
    spelled_by signed order len (bytes_in order len (complement_of bits z) ++ rest) ≡ spelled_by_number signed len (complement_of bits z)
spelled-back true order len bits z rest fits = ap (twos_complement len) (number_in-bytes_in order len (complement_of bits z) rest fits)
spelled-back false order len bits z rest fits = ap pos (number_in-bytes_in order len (complement_of bits z) rest fits)

back-by : (signed : Bool) (bits : ℕ) (z : ℤ) → IsPixelSize bits → CanSpellIn signed bits z →
    (complement_of bits z < 256 ^ (bits / 8)) × (spelled_by_number signed (bits / 8) (complement_of bits z) ≡ z)
back-by true bits z (inl is) ok = rw is (back-8 z (rw is at ok))
back-by true bits z (inr (inl is)) ok = rw is (back-16 z (rw is at ok))
back-by true bits z (inr (inr is)) ok = rw is (back-32 z (rw is at ok))
back-by false bits z (inl is) ok = rw is (same-8 z (rw is at ok))
back-by false bits z (inr (inl is)) ok = rw is (same-16 z (rw is at ok))
back-by false bits z (inr (inr is)) ok = rw is (same-32 z (rw is at ok))

-- a float's pattern is its number's, also NaN's
float-back : (z : ℤ) → IsFloatNumber z → (pattern_of z < 256 ^ 4) × (number_of (pattern_of z) ≡ z)
float-back z (inl single) = (few z single, read_back z single)
  where
    few : (z : ℤ) → IsSingle z → pattern_of z < 256 ^ 4
    few (pos n) ok = let high = ok.high in omega (arith, ints, high)
    few (negsuc n) ok = let low = ok.low in omega (arith, ints, low)
float-back z (inr is) = rw is (lit< tt, refl)

-- bytes of a number that a pixel of a kind can encode, and more bytes after them
back-as : (kind : HeightKind) (signed : Bool) (order : ByteOrdering) (bits : ℕ) (z : ℤ) (rest : List ℕ) → IsPixelSize bits → (kind ≡ Single → bits ≡ 32) → CanSpellAs kind signed bits z →
    spelled_as kind signed order (bits / 8) (bytes_in order (bits / 8) (word_as kind bits z) ++ rest) ≡ z
back-as Whole signed order bits z rest is wide ok =
    let back = back-by signed bits z is ok in
    spelled-back signed order (bits / 8) bits z rest back.0 ∙ back.1
back-as Single signed order bits z rest is wide ok =
    let back = float-back z ok in
    rw (wide refl) (ap number_of (number_in-bytes_in order 4 (pattern_of z) rest back.0) ∙ back.1)

-- a pixel's bytes encode its number, whatever follows them
pub pixel_of-pixel_bytes : (h : Fields) (z : ℤ) (rest : List ℕ) → ∥ IsPixelSize h.bits ∥₁ → (h.kind ≡ Single → h.bits ≡ 32) → CanSpell h z → pixel_of h (pixel_bytes h z ++ rest) ≡ z
pixel_of-pixel_bytes h z rest size wide ok = ∥∥₁_elim size (hlevel props) (λ is. back-as h.kind h.signed h.order h.bits z rest is wide ok)
