-- The rows of a raster that isn't short are its pixels: by induction on the rows left.
use Rattle.drain_raster.proofs.Names.{◌≡◌, ℕ, zero, suc, ◌+◌, ◌-◌, ◌*◌, ◌<◌, ◌≤◌, ℤ, pos, List, length, take, drop, arith, refl, ap, ◌∙◌, ◌++◌, Option, Ok, Err, sym, le-ltb, lt-ltb, drop-drop, drop-take, take_at, drop_at, mul-le-mul_right, nth_row, Gives, ReadsWithin, coming_at, most_at, RowComes, Fields, IsShort, needed_len, pixel_len, pixel_of, bytes_of_rows, raster_numbers_of, packed_len, raster_rows, pixels_of, pixels_behind, RasterRowsArePixels, Consumes, Next, Wrong, comes-both, padding_len}
use Rattle.std.proofs.Common.{length-append}
use Rattle.std.specs.Prelude.{slice_index_or}
use Rattle.std.proofs.lemmas.List.{length-drop}
use Rattle.drain_raster.proofs.PixelLemmas.{packed-fits, spelled_as-take}
use Rattle.drain_raster.proofs.RasterEnds.{raster_rows_take_what_is_needed}
use Rattle.drain_device.specs.declared.row_source.RowStep.TheVariants.{Row}
use Rattle.drain_device.specs.declared.row_source.ReadFault.{ReadFault}
use Rattle.drain_device.specs.declared.row_source.Progress.{Progress}
use Rattle.drain_device.specs.declared.row_source.Progress.TheVariants.{Going}
use Rattle.drain_device.proofs.RowLemmas.{gives-row, gives-no_row, within-row}

-- the number at a place
pub numbers_of-at : (len : ℕ) (number : List ℕ → ℤ) (n col : ℕ) (d : ℤ) (bytes : List ℕ) → col < n → slice_index_or (raster_numbers_of len number n bytes) col d ≡ number (take len (drop (col * len) bytes))
numbers_of-at len number zero col d bytes inside = absurd (omega arith)
numbers_of-at len number (suc n) zero d bytes inside = let none : zero * len ≡ zero = omega arith in rw none refl
numbers_of-at len number (suc n) (suc col) d bytes inside =
    let place : len + col * len ≡ suc col * len = omega arith in
    numbers_of-at len number n col d (drop len bytes) (omega arith) ∙ ap (λ (ys : List ℕ). number (take len ys)) (drop-drop (col * len) len bytes ∙ ap (λ k. drop k bytes) place)

-- a pixel among the bytes of its row
here : (h : Fields) (gap col : ℕ) (body : List ℕ) → col < h.cols → pixel_of h (take (pixel_len h) (drop (col * pixel_len h) (drop gap (take (gap + packed_len h) body)))) ≡ pixel_of h (drop (gap + col * pixel_len h) body)
here h gap col body inside =
    let len = pixel_len h in
    let next : (col + 1) * len ≡ col * len + len = omega arith in
    let within : (col + 1) * len ≤ h.cols * len = mul-le-mul_right len (omega (arith, inside)) in
    let rest = packed_len h - col * len in
    let split : packed_len h ≡ col * len + rest = omega (arith, next, within) in
    spelled_as-take h.kind h.signed h.order len len (drop (col * len) (drop gap (take (gap + packed_len h) body))) (omega arith)
    ∙ ap (λ (ys : List ℕ). pixel_of h (drop (col * len) ys)) (drop-take gap (packed_len h) body)
    ∙ ap (λ n. pixel_of h (drop (col * len) (take n (drop gap body)))) split
    ∙ ap (pixel_of h) (drop-take (col * len) rest (drop gap body))
    ∙ spelled_as-take h.kind h.signed h.order len rest (drop (col * len) (drop gap body)) (omega (arith, next, within))
    ∙ ap (pixel_of h) (drop-drop (col * len) gap body)

at : (h : Fields) (left gap k col : ℕ) (body : List ℕ) → packed_len h ≤ h.row_bytes → k < left → col < h.cols → bytes_of_rows h left gap ≤ length body →
    slice_index_or (nth_row k (raster_rows h left gap body)) col (pos 0) ≡ pixel_of h (drop (gap + k * h.row_bytes + col * pixel_len h) body)
at h zero gap k col body fits above inside long = absurd (omega arith)
at h (suc left) gap zero col body fits above inside long =
    let whole : gap + packed_len h ≤ length body = omega arith in
    let place : gap + zero * h.row_bytes + col * pixel_len h ≡ gap + col * pixel_len h = omega arith in
    rw (le-ltb (length body) (gap + packed_len h) whole, place)
    (numbers_of-at (pixel_len h) (pixel_of h) h.cols col (pos 0) (drop gap (take (gap + packed_len h) body)) inside ∙ here h gap col body inside)
at h (suc left) gap (suc k) col body fits above inside long =
    let whole : gap + packed_len h ≤ length body = omega arith in
    let next = h.row_bytes - packed_len h in
    let place : (gap + packed_len h) + (next + k * h.row_bytes + col * pixel_len h) ≡ gap + suc k * h.row_bytes + col * pixel_len h = omega (arith, fits) in
    rw (le-ltb (length body) (gap + packed_len h) whole)
    (at h left next k col (drop (gap + packed_len h) body) fits (omega arith) inside (omega (arith, length-drop (gap + packed_len h) body))
    ∙ ap (pixel_of h) (drop-drop (next + k * h.row_bytes + col * pixel_len h) (gap + packed_len h) body ∙ ap (λ n. drop n body) place))

pub raster_rows_are_pixels : RasterRowsArePixels
raster_rows_are_pixels h body row col ok long above inside =
    at h h.rows h.skip row col body (packed-fits h ok.row_holds) above inside (omega (arith, not-lt long, raster_rows_take_what_is_needed h ok))
  where
    not-lt : ¬ IsShort h body → needed_len h ≤ length body
    not-lt whole = omega arith

-- What is to come of a raster, one row further.

-- a row is there
raster_rows-next : (h : Fields) (left gap : ℕ) (xs rest : List ℕ) → (left ≡ 0 → ⊥) → length xs ≡ gap + packed_len h →
    raster_rows h left gap (xs ++ rest) ≡ Next (pixels_behind h gap xs) (raster_rows h (left - 1) (padding_len h) rest)
raster_rows-next h zero gap xs rest some whole = absurd (some refl)
raster_rows-next h (suc left) gap xs rest some whole =
    let less : suc left - 1 ≡ left = omega arith in
    rw (le-ltb (length (xs ++ rest)) (gap + packed_len h) (omega (arith, length-append xs rest)), take_at xs rest (gap + packed_len h) whole, drop_at xs rest (gap + packed_len h) whole, less) refl

-- a row isn't whole
raster_rows-short : (h : Fields) (left gap : ℕ) (xs : List ℕ) → (left ≡ 0 → ⊥) → length xs + 1 ≤ gap + packed_len h → raster_rows h left gap xs ≡ Wrong
raster_rows-short h zero gap xs some short = absurd (some refl)
raster_rows-short h (suc left) gap xs some short = rw (lt-ltb (length xs) (gap + packed_len h) (omega arith)) refl

-- the bytes of a row, of those of all rows left
bytes_of_rows-next : (h : Fields) (left gap : ℕ) → (left ≡ 0 → ⊥) →
    gap + packed_len h + bytes_of_rows h (left - 1) (padding_len h) ≤ bytes_of_rows h left gap
bytes_of_rows-next h zero gap some = absurd (some refl)
bytes_of_rows-next h (suc left) gap some =
    let less : suc left - 1 ≡ left = omega arith in
    rw less (omega arith)

-- a row source that goes on gives a row
pub raster-gives-row : (progress : Progress) → progress ≡ Going → (h : Fields) (left gap next : ℕ) (old new : Option (List ℕ)) (out : List ℤ) (bytes : List ℕ) → (left ≡ 0 → ⊥) →
    next ≡ padding_len h → RowComes (pixels_behind h gap) (gap + packed_len h) old new (Ok tt) out bytes →
    Gives (λ bs. coming_at progress (raster_rows h left gap bs)) (λ bs. coming_at progress (raster_rows h (left - 1) next bs)) old new (Ok Row) out
raster-gives-row progress going h left gap next old new out bytes some is_next came =
    rw (going, is_next) (gives-row (pixels_behind h gap) (gap + packed_len h) (λ bs. raster_rows h left gap bs) (λ bs. raster_rows h (left - 1) (padding_len h) bs) old new out bytes came
    (λ xs rest whole. raster_rows-next h left gap xs rest some whole))

pub raster-gives-no_row : (progress : Progress) → progress ≡ Going → (h : Fields) (left gap : ℕ) (old new : Option (List ℕ)) (fault : ReadFault) (out : List ℤ) (bytes : List ℕ) → (left ≡ 0 → ⊥) →
    RowComes (pixels_behind h gap) (gap + packed_len h) old new (Err fault) out bytes →
    Gives (λ bs. coming_at progress (raster_rows h left gap bs)) (λ bs. Wrong) old new (Err fault) out
raster-gives-no_row progress going h left gap old new fault out bytes some came =
    rw going (gives-no_row (pixels_behind h gap) (gap + packed_len h) (λ bs. raster_rows h left gap bs) (λ bs. Wrong) old new fault out bytes came
    (λ xs short. raster_rows-short h left gap xs some short) (λ xs. refl))

pub raster-within-row : (progress : Progress) → progress ≡ Going → (h : Fields) (left gap next : ℕ) (old new : Option (List ℕ)) (out : List ℤ) (bytes : List ℕ) → (left ≡ 0 → ⊥) →
    next ≡ padding_len h → RowComes (pixels_behind h gap) (gap + packed_len h) old new (Ok tt) out bytes →
    ReadsWithin (most_at progress (bytes_of_rows h left gap)) (most_at progress (bytes_of_rows h (left - 1) next)) old new
raster-within-row progress going h left gap next old new out bytes some is_next came =
    rw (going, is_next) (within-row (pixels_behind h gap) (gap + packed_len h) (bytes_of_rows h left gap) (bytes_of_rows h (left - 1) (padding_len h)) old new (Ok tt) out bytes came
    (bytes_of_rows-next h left gap some))

pub raster-within-no_row : (progress : Progress) → progress ≡ Going → (h : Fields) (left gap : ℕ) (old new : Option (List ℕ)) (fault : ReadFault) (out : List ℤ) (bytes : List ℕ) → (left ≡ 0 → ⊥) →
    RowComes (pixels_behind h gap) (gap + packed_len h) old new (Err fault) out bytes → ReadsWithin (most_at progress (bytes_of_rows h left gap)) 0 old new
raster-within-no_row progress going h left gap old new fault out bytes some came =
    rw going (within-row (pixels_behind h gap) (gap + packed_len h) (bytes_of_rows h left gap) 0 old new (Err fault) out bytes came (omega (arith, bytes_of_rows-next h left gap some)))

-- the pixels after the skipped bytes
pub row-comes : (h : Fields) (gap : ℕ) (old between new : Option (List ℕ)) (out : List ℤ) (xs ys : List ℕ) → length xs ≡ gap → Consumes old between xs → length ys ≡ packed_len h →
    Consumes between new ys → out ≡ pixels_of h ys → RowComes (pixels_behind h gap) (gap + packed_len h) old new (Ok tt) out (xs ++ ys)
row-comes h gap old between new out xs ys is took is_then then are =
    let both = comes-both old between new xs ys gap (packed_len h) is took is_then then in
    (both.0, both.1, are ∙ ap (pixels_of h) (sym (drop_at xs ys gap is)))
