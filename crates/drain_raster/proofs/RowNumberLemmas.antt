-- The numbers of a row, read in parts: some pixels, and then one more chunk.
use Rattle.drain_raster.proofs.Names.{◌≡◌, ℕ, zero, suc, ◌+◌, ◌-◌, ◌*◌, ◌<◌, ◌≤◌, ℤ, List, [], ◌∷◌, ◌++◌, length, take, drop, set, arith, refl, sym, ap, subst, ◌∙◌, take_all, take_more_set, take-append-le, drop-append-le, drop-drop, length-take, All-append, All-push, mul-le-mul, put_mid, take-put_mid_part, IsPixel, Fields, IsPixelSize, pixel_len, raster_numbers_of}
use Rattle.std.proofs.Common.{All}
use Rattle.std.proofs.lemmas.List.{length-drop}
use Rattle.drain_raster.proofs.PixelLemmas.{pixel_len-most}

-- the numbers of two parts
numbers_of-both : (len : ℕ) (number : List ℕ → ℤ) (m n : ℕ) (xs ys : List ℕ) → length xs ≡ m * len →
    raster_numbers_of len number (m + n) (xs ++ ys) ≡ raster_numbers_of len number m xs ++ raster_numbers_of len number n ys
numbers_of-both len number zero n [] ys is = let same : zero + n ≡ n = omega arith in rw same refl
numbers_of-both len number zero n (x ∷ xs) ys is = absurd (omega arith)
numbers_of-both len number (suc m) n xs ys is =
    let longer : suc m + n ≡ suc (m + n) = omega arith in
    let fits : len ≤ length xs = omega arith in
    let rest : length (drop len xs) ≡ m * len = omega (arith, length-drop len xs) in
    rw (longer, take-append-le len xs ys fits, drop-append-le len xs ys fits) (ap (λ zs. number (take len xs) ∷ zs) (numbers_of-both len number m n (drop len xs) ys rest))

-- one number more
numbers_of-more : (len : ℕ) (number : List ℕ → ℤ) (m : ℕ) (bytes : List ℕ) →
    raster_numbers_of len number (m + 1) bytes ≡ raster_numbers_of len number m bytes ++ number (take len (drop (m * len) bytes)) ∷ []
numbers_of-more len number zero bytes = let none : zero * len ≡ zero = omega arith in rw none refl
numbers_of-more len number (suc m) bytes =
    let longer : suc m + 1 ≡ suc (m + 1) = omega arith in
    let place : len + m * len ≡ suc m * len = omega arith in
    rw longer (ap (λ zs. number (take len bytes) ∷ zs) (numbers_of-more len number m (drop len bytes)
    ∙ ap (λ (ys : List ℕ). raster_numbers_of len number m (drop len bytes) ++ number (take len ys) ∷ []) (drop-drop (m * len) len bytes ∙ ap (λ k. drop k bytes) place)))

-- one number more in its place
pub number_put : (len : ℕ) (number : List ℕ → ℤ) (k stepped : ℕ) (bytes : List ℕ) (out : List ℤ) (x stored : ℤ) → stepped ≡ k + 1 → k < length out →
    take k out ≡ raster_numbers_of len number k bytes → All IsPixel (take k out) → stored ≡ x → x ≡ number (take len (drop (k * len) bytes)) → IsPixel x →
    (take stepped (set out k stored) ≡ raster_numbers_of len number stepped bytes) × All IsPixel (take stepped (set out k stored))
number_put len number k stepped bytes out x stored is_next inside so_far pixels is_stored is_number is_pixel =
    let grown : take stepped (set out k stored) ≡ take k out ++ x ∷ [] =
    ap (λ m. take m (set out k stored)) is_next ∙ take_more_set out k stored inside ∙ ap (λ z. take k out ++ z ∷ []) is_stored in (
      grown ∙ ap (λ zs. zs ++ x ∷ []) so_far ∙ ap (λ z. raster_numbers_of len number k bytes ++ z ∷ []) is_number
          ∙ sym (numbers_of-more len number k bytes) ∙ ap (λ m. raster_numbers_of len number m bytes) (sym is_next),
      subst (All IsPixel) (sym grown) (All-push IsPixel (take k out) x pixels is_pixel),
    )

-- numbers of one chunk more
pub chunk_put : (len : ℕ) (number : List ℕ → ℤ) (first came k stepped : ℕ) (before chunk : List ℕ) (out part : List ℤ) → stepped ≡ first + came → first ≤ length out → length part ≡ came →
    length before ≡ first * len → take first out ≡ raster_numbers_of len number first before → All IsPixel (take first out) → part ≡ raster_numbers_of len number came chunk → All IsPixel part →
    (take stepped (put_mid first k out part) ≡ raster_numbers_of len number stepped (before ++ chunk)) × All IsPixel (take stepped (put_mid first k out part))
chunk_put len number first came k stepped before chunk out part is_next within long long_before so_far pixels is are =
    let grown : take stepped (put_mid first k out part) ≡ take first out ++ part =
    ap (λ m. take m (put_mid first k out part)) is_next ∙ take-put_mid_part first k came out part within (omega arith)
    ∙ ap (λ zs. take first out ++ zs) (take_all came part (omega arith)) in (
      grown ∙ ap (λ zs. zs ++ part) so_far ∙ ap (λ zs. raster_numbers_of len number first before ++ zs) is
          ∙ sym (numbers_of-both len number first came before chunk long_before) ∙ ap (λ m. raster_numbers_of len number m (before ++ chunk)) (sym is_next),
      subst (All IsPixel) (sym grown) (All-append IsPixel (take first out) part pixels are),
    )

-- the number in a slice with as many bytes as a pixel
pub number-found : (f : List ℕ → ℤ) (bytes : List ℕ) (k len a : ℕ) → a ≡ len → f (take (k * a + a - k * a) (drop (k * a) bytes)) ≡ f (take len (drop (k * len) bytes))
number-found f bytes k len a is =
    let one : k * a + a - k * a ≡ len = omega (arith, is) in
    ap (λ n. f (take n (drop (k * a) bytes))) one ∙ ap (λ l. f (take len (drop (k * l) bytes))) is

-- this many pixels fit in a chunk
pub chunk_fits : (h inside : Fields) (came len other : ℕ) → came ≤ 4096 → len ≡ other → other ≡ pixel_len h → inside ≡ h → ∥ IsPixelSize inside.bits ∥₁ → came * len ≤ 16384
chunk_fits h inside came len other few is is_then view size =
    let most : len ≤ 4 = omega (arith, is ∙ is_then ∙ ap pixel_len (sym view), pixel_len-most inside.bits size) in
    omega (arith, mul-le-mul {n₁ = came} {m₁ = len} {n₂ = 4096} {m₂ = 4} few most)

-- the bytes of the pixels so far and of a chunk more
pub chunk_within : (first came cols len other : ℕ) → first + came ≤ cols → len ≡ other → first * len + came * len ≤ cols * other
chunk_within first came cols len other within is =
    let all = mul-le-mul {n₁ = first + came} {m₁ = len} {n₂ = cols} {m₂ = other} within (omega (arith, is)) in
    omega (arith, all)

-- the bytes of a chunk are those of as many numbers
pub chunk_long : (first came len other : ℕ) (out : List ℤ) (part : List ℕ) → first + came ≤ length out → length part ≡ came * len → len ≡ other →
    length part ≡ length (take (first + came - first) (drop first out)) * other
chunk_long first came len other out part within long is =
    let numbers : length (take (first + came - first) (drop first out)) ≡ came = omega (arith, length-take (first + came - first) (drop first out), length-drop first out) in
    rw (numbers, ← is) long
