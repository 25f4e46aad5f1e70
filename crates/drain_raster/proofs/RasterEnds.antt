-- A raster's rows end wrong exactly where it is short, take the bytes that it needs, and are as long as it has columns: by induction on the rows left.
use Rattle.drain_raster.proofs.Names.{◌≡◌, ◌↔◌, ℕ, zero, suc, ◌+◌, ◌-◌, ◌*◌, ◌<◌, ◌≤◌, ℤ, List, [], length, take, drop, true, false, IsTrue, inl, inr, arith, refl, ap, cases_lt, lt-ltb, le-ltb, after_rows, ends_wrong, nth_row, Wrong, Fields, IsShort, needed_len, pixel_len, pixel_of, bytes_of_rows, raster_numbers_of, packed_len, raster_rows, RasterRowsEnd, RasterRowsTellLengths, RasterRowsTakeWhatIsNeeded}
use Rattle.std.proofs.lemmas.List.{length-drop}
use Rattle.drain_raster.proofs.PixelLemmas.{packed-fits}

ends : (h : Fields) (left gap : ℕ) (body : List ℕ) → IsTrue (ends_wrong (raster_rows h left gap body)) ↔ (length body < bytes_of_rows h left gap)
ends h zero gap body = (λ wrong. absurd (let no : false ≡ true = wrong in cc), λ short. absurd (omega arith))
ends h (suc left) gap body = elim (cases_lt (length body) (gap + packed_len h)) [
  | inl short ↦ rw (lt-ltb (length body) (gap + packed_len h) short) (λ wrong. omega (arith, short), λ other. refl)
  | inr whole ↦ rw (le-ltb (length body) (gap + packed_len h) (omega (arith, whole))) (
      let rest = ends h left (h.row_bytes - packed_len h) (drop (gap + packed_len h) body) in
      let long = length-drop (gap + packed_len h) body in (
        λ wrong. omega (arith, long, rest.0 wrong),
        λ short. rest.1 (omega (arith, long, short, whole)),
      ))
]

-- n rows and one more
taken : (h : Fields) (more gap : ℕ) → packed_len h ≤ h.row_bytes → bytes_of_rows h (suc more) gap ≡ gap + more * h.row_bytes + packed_len h
taken h zero gap fits = omega arith
taken h (suc more) gap fits = omega (arith, fits, taken h more (h.row_bytes - packed_len h) fits)

needed : (h : Fields) (rows : ℕ) → 1 ≤ rows → packed_len h ≤ h.row_bytes → bytes_of_rows h rows h.skip ≡ h.skip + (rows - 1) * h.row_bytes + packed_len h
needed h zero some fits = absurd (omega arith)
needed h (suc more) some fits = let less : suc more - 1 ≡ more = omega arith in rw less (taken h more h.skip fits)

pub raster_rows_take_what_is_needed : RasterRowsTakeWhatIsNeeded
raster_rows_take_what_is_needed h ok = needed h h.rows ok.some_row (packed-fits h ok.row_holds)

pub raster_rows_tell_lengths : RasterRowsTellLengths
raster_rows_tell_lengths h body ok =
    let all = ends h h.rows h.skip body in
    let same = raster_rows_take_what_is_needed h ok in
    (λ wrong. omega (arith, all.0 wrong, same), λ short. all.1 (omega (arith, short, same)))

-- after the last row of a short raster the answer is that it is short
behind : (h : Fields) (left gap : ℕ) (body : List ℕ) → (after_rows left (raster_rows h left gap body) ≡ Wrong) ↔ (length body < bytes_of_rows h left gap)
behind h zero gap body = (λ wrong. absurd (let no = wrong in cc), λ short. absurd (omega arith))
behind h (suc left) gap body = elim (cases_lt (length body) (gap + packed_len h)) [
  | inl short ↦ rw (lt-ltb (length body) (gap + packed_len h) short) (λ wrong. omega (arith, short), λ other. refl)
  | inr whole ↦ rw (le-ltb (length body) (gap + packed_len h) (omega (arith, whole))) (
      let rest = behind h left (h.row_bytes - packed_len h) (drop (gap + packed_len h) body) in
      let long = length-drop (gap + packed_len h) body in (
        λ wrong. omega (arith, long, rest.0 wrong),
        λ short. rest.1 (omega (arith, long, short, whole)),
      ))
]

-- and no row
none_behind : (h : Fields) (left gap : ℕ) (body : List ℕ) → nth_row left (raster_rows h left gap body) ≡ []
none_behind h zero gap body = refl
none_behind h (suc left) gap body = elim (cases_lt (length body) (gap + packed_len h)) [
  | inl short ↦ rw (lt-ltb (length body) (gap + packed_len h) short) refl
  | inr whole ↦ rw (le-ltb (length body) (gap + packed_len h) (omega (arith, whole))) (none_behind h left (h.row_bytes - packed_len h) (drop (gap + packed_len h) body))
]

-- this many numbers
pub numbers_long : (len : ℕ) (number : List ℕ → ℤ) (n : ℕ) (bytes : List ℕ) → length (raster_numbers_of len number n bytes) ≡ n
numbers_long len number zero bytes = refl
numbers_long len number (suc n) bytes = ap suc (numbers_long len number n (drop len bytes))

-- a row has a number for each column, where the bytes of all are there
long : (h : Fields) (left gap row : ℕ) (body : List ℕ) → row < left → bytes_of_rows h left gap ≤ length body → length (nth_row row (raster_rows h left gap body)) ≡ h.cols
long h zero gap row body inside enough = absurd (omega arith)
long h (suc left) gap zero body inside enough =
    let whole : gap + packed_len h ≤ length body = omega arith in
    rw (le-ltb (length body) (gap + packed_len h) whole) (numbers_long (pixel_len h) (pixel_of h) h.cols (drop gap (take (gap + packed_len h) body)))
long h (suc left) gap (suc row) body inside enough =
    let whole : gap + packed_len h ≤ length body = omega arith in
    rw (le-ltb (length body) (gap + packed_len h) whole)
    (long h left (h.row_bytes - packed_len h) row (drop (gap + packed_len h) body) (omega arith) (omega (arith, length-drop (gap + packed_len h) body)))

pub raster_rows_end : RasterRowsEnd
raster_rows_end h body ok =
    let same = raster_rows_take_what_is_needed h ok in
    let all = behind h h.rows h.skip body in
    record {
      long = λ row inside enough. long h h.rows h.skip row body inside (let least : needed_len h ≤ length body = not-lt enough in omega (arith, least, same));
      none_behind = none_behind h h.rows h.skip body;
      short = (λ wrong. omega (arith, all.0 wrong, same), λ short. all.1 (omega (arith, short, same)));
    }
  where
    not-lt : ¬ IsShort h body → needed_len h ≤ length body
    not-lt enough = omega arith
