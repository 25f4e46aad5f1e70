-- A raster of elevations read into memory: its pixels and their range, the elevations that they mean, and its first
-- refusal.
use Rattle.drain_maker.proofs.Names.{◌≡◌, ◌≢◌, ◌∙◌, ℕ, ◌+◌, ◌-◌, ◌*◌, ◌/◌, ◌^◌, ◌<◌, ◌≤◌, ℤ, pos, Bool, true, false, List, [], ◌∷◌, Option, Some, Err, inl, inr, length, map, slice_index_or, take, drop, refl, sym, ap, subst, arith, slice_index, mul-le-mul_right, cases_lt, ints, drop-take, get_or-drop, length-take, Refusal, BadDemHeader, BadPixelSize, DemShort, ReadFailed, ReadFails, SomeReadFails, ReadsUpTo, FaultCounts, SomeReadFails-one, IsFloatNumber, number_of, Cell, HeightKind, Whole, Single, IsCellOf, Pixels, number_at, HeaderFault, AnswersOf, Fields, IsPixelSize, height_with, whole_voids, CanSpell, CanSpellAs, CanSpellIn, NumbersArePixels, IsShort, header_extent, needed_len, number_in, pixel_at, pixel_len, pixel_of, pixel_place, raster_of, spelled_as, spelled_by, HasPixelSize, IsBefore, DemRefuses, DemTexts, EncodesDem, IsDemHeader, IsDemHeaderRefusal, dem_devices, dem_fields, dem_ground, refusal_kind, IsBodyRefusal, IsDemOf, IsGroundRefusal, IsKept, IsRasterOf, kept_number, FitsHeader, con_no_data}
use Rattle.std.proofs.Common.{slice_set}
use Rattle.std.proofs.Props.{props}
use Rattle.std.proofs.Math.Logic.{∥∥₁_elim}
use Rattle.std.proofs.lemmas.Bool.{le-ltb, lt-ltb}
use Rattle.byteorder.specs.Endian.{twos_complement}
use Rattle.byteorder.specs.Numbers.{big_from-lt, little_from-lt}
use Rattle.drain_answer.specs.declared.refusal.Refusal.TheVariants.{OutOfMemory}
use Rattle.drain_header.specs.declared.header.ByteOrdering.{ByteOrdering}
use Rattle.drain_header.specs.declared.header.ByteOrdering.TheVariants.{Least, Most}
use Rattle.drain_raster.specs.Elevations.{elevation_in}
use Rattle.drain_raster.proofs.PixelLemmas.{spelled_as-take}
use Rattle.drain_header.specs.Lines.{kind_of}
use Rattle.drain_sets.specs.declared.raster_input.RasterInput.{RasterInput}
use Rattle.drain_maker.proofs.KeptNumbers.{kept_height, pattern_number}
use Rattle.drain_maker.proofs.MosaicAnswers.{reads-front}

-- The range of a pixel.

signed-8 : (n : ℕ) → n < 256 ^ 1 → CanSpellIn true 8 (twos_complement 1 n)
signed-8 n fits = elim (cases_lt n 128) [
  | inl low ↦ rw (lt-ltb n 128 low) (record { low = omega (arith, ints); high = omega (arith, ints, low) })
  | inr high ↦ rw (le-ltb n 128 high) (record { low = omega (arith, ints, high); high = omega (arith, ints, fits) })
]

signed-16 : (n : ℕ) → n < 256 ^ 2 → CanSpellIn true 16 (twos_complement 2 n)
signed-16 n fits = elim (cases_lt n 32768) [
  | inl low ↦ rw (lt-ltb n 32768 low) (record { low = omega (arith, ints); high = omega (arith, ints, low) })
  | inr high ↦ rw (le-ltb n 32768 high) (record { low = omega (arith, ints, high); high = omega (arith, ints, fits) })
]

signed-32 : (n : ℕ) → n < 256 ^ 4 → CanSpellIn true 32 (twos_complement 4 n)
signed-32 n fits = elim (cases_lt n 2147483648) [
  | inl low ↦ rw (lt-ltb n 2147483648 low) (record { low = omega (arith, ints); high = omega (arith, ints, low) })
  | inr high ↦ rw (le-ltb n 2147483648 high) (record { low = omega (arith, ints, high); high = omega (arith, ints, fits) })
]

-- a list of bytes
abbrev AreBytes : List ℕ → Type 0
AreBytes bytes = (k : ℕ) → slice_index bytes k < 256

number_fits : (order : ByteOrdering) (n : ℕ) (bytes : List ℕ) → AreBytes bytes → number_in order n bytes < 256 ^ n
number_fits Least n bytes low = little_from-lt 0 n bytes low
number_fits Most n bytes low = big_from-lt 0 n bytes low

spelled_in : (signed : Bool) (order : ByteOrdering) (bits : ℕ) (bytes : List ℕ) → IsPixelSize bits → AreBytes bytes → CanSpellIn signed bits (spelled_by signed order (bits / 8) bytes)
spelled_in true order bits bytes (inl is) low = rw is (signed-8 (number_in order 1 bytes) (number_fits order 1 bytes low))
spelled_in true order bits bytes (inr (inl is)) low = rw is (signed-16 (number_in order 2 bytes) (number_fits order 2 bytes low))
spelled_in true order bits bytes (inr (inr is)) low = rw is (signed-32 (number_in order 4 bytes) (number_fits order 4 bytes low))
spelled_in false order bits bytes (inl is) low = rw is (let fits = number_fits order 1 bytes low in record { low = omega (arith, ints); high = omega (arith, ints, fits) })
spelled_in false order bits bytes (inr (inl is)) low = rw is (let fits = number_fits order 2 bytes low in record { low = omega (arith, ints); high = omega (arith, ints, fits) })
spelled_in false order bits bytes (inr (inr is)) low = rw is (let fits = number_fits order 4 bytes low in record { low = omega (arith, ints); high = omega (arith, ints, fits) })

-- so of pixels of a kind
spelled_of : (kind : HeightKind) (signed : Bool) (order : ByteOrdering) (bits : ℕ) (bytes : List ℕ) → ∥ IsPixelSize bits ∥₁ → (kind ≡ Single → bits ≡ 32) → AreBytes bytes →
    CanSpellAs kind signed bits (spelled_as kind signed order (bits / 8) bytes)
spelled_of Whole signed order bits bytes size wide low = ∥∥₁_elim size (hlevel props) (λ is. spelled_in signed order bits bytes is low)
spelled_of Single signed order bits bytes size wide low =
    subst (λ b. IsFloatNumber (number_of (number_in order (b / 8) bytes))) (sym (wide refl)) (pattern_number (number_in order 4 bytes) (number_fits order 4 bytes low))

-- a header's pixels can encode the number of a pixel
pixel_spelled : (h : Fields) (bytes : List ℕ) → ∥ IsPixelSize h.bits ∥₁ → (h.kind ≡ Single → h.bits ≡ 32) → AreBytes bytes → CanSpell h (pixel_of h bytes)
pixel_spelled h bytes size wide low = spelled_of h.kind h.signed h.order h.bits bytes size wide low

-- and of whole heights that is no number of 33 bits
beyond : (signed : Bool) (bits : ℕ) → IsPixelSize bits → ¬ CanSpellIn signed bits (pos 4294967296)
beyond true bits (inl is) ok = let most = rw is at ok.high in omega (arith, ints, most)
beyond true bits (inr (inl is)) ok = let most = rw is at ok.high in omega (arith, ints, most)
beyond true bits (inr (inr is)) ok = let most = rw is at ok.high in omega (arith, ints, most)
beyond false bits (inl is) ok = let most = rw is at ok.high in omega (arith, ints, most)
beyond false bits (inr (inl is)) ok = let most = rw is at ok.high in omega (arith, ints, most)
beyond false bits (inr (inr is)) ok = let most = rw is at ok.high in omega (arith, ints, most)

not_beyond : (kind : HeightKind) (signed : Bool) (bits : ℕ) (z : ℤ) → ∥ IsPixelSize bits ∥₁ → CanSpellAs kind signed bits z → kind ≡ Whole → z ≢ pos 4294967296
not_beyond Whole signed bits z size ok whole same = ∥∥₁_elim size (hlevel props) (λ is. beyond signed bits is (subst (CanSpellIn signed bits) same ok))
not_beyond Single signed bits z size ok whole same = cc

-- The pixels of a body that was read up to the last needed byte.

-- a pixel ends before the last needed byte
pixel_within : (h : Fields) (c : Cell) → IsCellOf (header_extent h) c → pixel_place h c.row c.col + pixel_len h ≤ needed_len h
pixel_within h c inside =
    let row_in = inside.row in
    let col_in = inside.col in
    let rows : c.row * h.row_bytes ≤ (h.rows - 1) * h.row_bytes = mul-le-mul_right h.row_bytes (omega (arith, row_in)) in
    let cols : (c.col + 1) * pixel_len h ≤ h.cols * pixel_len h = mul-le-mul_right (pixel_len h) (omega (arith, col_in)) in
    omega (arith, rows, cols)

-- so what is read has it
front_pixel : (h : Fields) (bytes : List ℕ) (c : Cell) → IsCellOf (header_extent h) c → pixel_at h (take (needed_len h) bytes) c ≡ pixel_at h bytes c
front_pixel h bytes c inside =
    let place = pixel_place h c.row c.col in
    let rest = needed_len h - place in
    let within = pixel_within h c inside in
    let split : needed_len h ≡ place + rest = omega (arith, within) in
    ap (λ n. pixel_of h (drop place (take n bytes))) split ∙ ap (pixel_of h) (drop-take place rest bytes)
    ∙ spelled_as-take h.kind h.signed h.order (pixel_len h) rest (drop place bytes) (omega (arith, within))

-- the bytes of a part are bytes
bytes_behind : (n : ℕ) (bytes : List ℕ) → AreBytes bytes → AreBytes (drop n bytes)
bytes_behind n bytes low k = subst (λ b. b < 256) (sym (get_or-drop n bytes k 0)) (low (n + k))

-- a raster of these bytes has pixels that its header can encode
pub fits_header : NumbersArePixels → (h : Fields) (default : ℤ) (bytes : List ℕ) (p : Pixels) → ∥ IsPixelSize h.bits ∥₁ → (h.kind ≡ Single → h.bits ≡ 32) →
    ((k : ℕ) → slice_index bytes k < 256) → p ≡ raster_of h default bytes → FitsHeader h p
fits_header numbers h default bytes p size wide low is = record {
  extent = ap (λ (r : Pixels). r.extent) is;
  spelled = λ c inside.
      let there : IsCellOf (header_extent h) c = subst (λ (r : Pixels). IsCellOf r.extent c) is inside in
      subst (CanSpell h) (sym (ap (λ (r : Pixels). number_at r c) is ∙ numbers h default bytes c there))
      (pixel_spelled h (drop (pixel_place h c.row c.col) bytes) size wide (bytes_behind (pixel_place h c.row c.col) bytes low));
}

-- what is kept of such a raster is what is kept of its pixels
pub raster_kept : NumbersArePixels → (h : Fields) (default : ℤ) (bytes : List ℕ) (p kept : Pixels) → ¬ IsShort h bytes → p ≡ raster_of h default bytes → p.nodata ≡ con_no_data h →
    IsKept h.kind p kept → IsRasterOf h bytes kept
raster_kept numbers h default bytes p kept whole is nodata same = record {
  whole = whole;
  extent = same.extent ∙ ap (λ (r : Pixels). r.extent) is;
  pixels = λ c inside.
      (let there : IsCellOf p.extent c = subst (λ (r : Pixels). IsCellOf r.extent c) (sym is) inside in
      same.numbers c there ∙ ap (λ void. kept_number h.kind void (number_at p c)) nodata
      ∙ ap (kept_number h.kind (con_no_data h)) (ap (λ (r : Pixels). number_at r c) is ∙ numbers h default bytes c inside));
}

-- the raster of what was read is that of all bytes
pub raster_whole : (h : Fields) (old new : Option (List ℕ)) (came : List ℕ) (p : Pixels) → ReadsUpTo (needed_len h) old new came → IsRasterOf h came p →
    (bytes : List ℕ) → old ≡ Some bytes → IsRasterOf h bytes p
raster_whole h old new came p reads is bytes known =
    let front = reads-front (needed_len h) old new came reads bytes known in
    record {
      whole = λ short. is.whole (let n = ap length front in omega (arith, short, n, length-take (needed_len h) bytes));
      extent = is.extent;
      pixels = λ c inside. is.pixels c inside ∙ ap (kept_number h.kind (con_no_data h)) (ap (λ b. pixel_at h b c) front ∙ front_pixel h bytes c inside);
    }

-- and what was read is short only if all is
pub raster_short : (h : Fields) (old new : Option (List ℕ)) (came : List ℕ) → ReadsUpTo (needed_len h) old new came → IsShort h came →
    (bytes : List ℕ) → old ≡ Some bytes → IsShort h bytes
raster_short h old new came reads short bytes known =
    let n = ap length (reads-front (needed_len h) old new came reads bytes known) in
    omega (arith, short, n, length-take (needed_len h) bytes)

-- Its elevations.

pub dem_read : (d : DemTexts) (h : Fields) (p : Pixels) → IsDemHeader h d.header → FitsHeader h p → p.nodata ≡ con_no_data h → IsRasterOf h d.body p → IsDemOf d h p
dem_read d h p header fits nodata raster =
    let same : h ≡ dem_fields d = header.described.fields in
    record {
      readable = refuses;
      header = header;
      extent_is = raster.extent ∙ ap header_extent same;
      elevation_is = λ c inside.
          (let there : IsCellOf (header_extent h) c = subst (λ e. IsCellOf e c) raster.extent inside in
          let number = raster.pixels c there in
          ap (λ void. height_with (whole_voids (Some void)) (number_at p c)) nodata
          ∙ (ap (height_with (whole_voids (Some (con_no_data h)))) number
          ∙ (kept_height h.kind h.nodata (pixel_at h d.body c)
          (λ whole. subst (λ z. z ≢ pos 4294967296) number (not_beyond h.kind h.signed h.bits (number_at p c) header.bounds.bits_ok (fits.spelled c inside) whole))
          ∙ ap (λ (k : Fields). elevation_in k d.body c) same)));
    }
  where
    refuses : (refusal : Refusal) → ¬ DemRefuses d refusal
    refuses (BadDemHeader fault) stands = header.described.sound fault stands.holds
    refuses BadPixelSize stands = stands (subst (λ (k : Fields). HasPixelSize k.place) header.described.fields header.sized)
    refuses DemShort stands = raster.whole (subst (λ (k : Fields). IsShort k d.body) (sym header.described.fields) stands)
    refuses refusal stands = stands

-- Why it is refused.

-- no refusal of an earlier kind applies, where none of the header does
none_before : (d : DemTexts) (n : ℕ) → n ≤ 5 → ((fault : HeaderFault) → 1 < n → ¬ AnswersOf (kind_of d.header) d.header (Err fault)) → (2 < n → HasPixelSize (dem_fields d).place) →
    (b : Refusal) → IsBefore (refusal_kind b, 0) (n, 0) → ¬ DemRefuses d b
none_before d n most sound sized b (inr (same, less)) = absurd (omega (arith, less))
none_before d n most sound sized (BadDemHeader fault) (inl less) = sound fault less
none_before d n most sound sized BadPixelSize (inl less) = λ stands. stands (sized less)
none_before d n most sound sized DemShort (inl less) = absurd (omega (arith, most, less))
none_before d n most sound sized b (inl less) = λ stands. stands

-- a refusal of its header is the first
pub header_refused : (d : DemTexts) (refusal : Refusal) → IsDemHeaderRefusal d.header refusal → IsGroundRefusal (dem_ground d) refusal
header_refused d (BadDemHeader fault) bad = record {
  holds = bad;
  first = none_before d 1 (omega arith) (λ f less. absurd (omega (arith, less))) (λ less. absurd (omega (arith, less)));
}
header_refused d BadPixelSize (h, described, none) = record {
  holds = λ has. none (subst (λ (k : Fields). HasPixelSize k.place) (sym described.fields) has);
  first = none_before d 2 (omega arith) (λ fault less answers. described.sound fault answers.holds) (λ less. absurd (omega (arith, less)));
}
header_refused d refusal bad = absurd bad

-- and so is one of its body
pub body_refused : (d : DemTexts) (h : Fields) (refusal : Refusal) → IsDemHeader h d.header → IsBodyRefusal h d.body refusal → IsGroundRefusal (dem_ground d) refusal
body_refused d h DemShort header short = record {
  holds = subst (λ (k : Fields). IsShort k d.body) header.described.fields short;
  first = none_before d 5 (omega arith) (λ fault less answers. header.described.sound fault answers.holds)
      (λ less. subst (λ (k : Fields). HasPixelSize k.place) header.described.fields header.sized);
}
body_refused d h OutOfMemory header short = tt
body_refused d h ReadFailed header short = tt
body_refused d h refusal header short = absurd short

-- The one raster of a call.

module _ {R : Type 0} (bl : R → Option (List ℕ)) (ct : R → FaultCounts) where
  -- its header and its body are those of the texts
  pub told_one : (xs : List (RasterInput R)) (x : RasterInput R) (d : DemTexts) → EncodesDem bl xs d → (d.header ≡ (slice_index_or xs 0 x).header) × (bl (slice_index_or xs 0 x).body ≡ Some d.body)
  told_one [] x d tell = absurd tell
  told_one (input ∷ []) x d tell = tell
  told_one (input ∷ other ∷ more) x d tell = absurd tell

  pub told_header : (h : Fields) (xs : List (RasterInput R)) (x : RasterInput R) (d : DemTexts) → EncodesDem bl xs d → IsDemHeader h (slice_index_or xs 0 x).header → IsDemHeader h d.header
  told_header h xs x d tell is = subst (IsDemHeader h) (sym (told_one xs x d tell).0) is

  -- with its body read, with these faults, all else is as it was
  pub one_fails : {Fails : Type 0} (xs : List (RasterInput R)) (x : RasterInput R) (body : R) → length xs ≡ 1 → ReadFails (ct (slice_index_or xs 0 x).body) (ct body) Fails →
      SomeReadFails (map ct (dem_devices xs)) (map ct (dem_devices (slice_set xs 0 (record { header = (slice_index_or xs 0 x).header; body = body })))) Fails
  one_fails [] x body one fails = absurd (omega (arith, one))
  one_fails (input ∷ []) x body one fails = SomeReadFails-one fails
  one_fails (input ∷ other ∷ more) x body one fails = absurd (omega (arith, one))
