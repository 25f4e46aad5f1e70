-- What the values of the keywords say is what the lines say.
use Rattle.drain_header.proofs.Names.{suc, length, ap, ◌∙◌, Option, Some, None, option_and_then, option_map, whole_number, HeightKind, Nrows, Ncols, Nbands, Nbits, ByteOrder, PixelType, SkipBytes, BandRowBytes, TotalRowBytes, Ulxmap, Ulymap, Xdim, Ydim, Value, Number, Ordering, Signed, Coordinate, coordinate_of, value_at, size_of, ordering_of, sign_of, nodata_of, Seen, said_by, said_number, ordering_in, sign_in, coordinate_in, said_nodata}
use Rattle.std.proofs.Common.{◌≡◌, ℕ, List, refl}
use Rattle.drain_header.specs.declared.key.Key.TheVariants as keys
use Rattle.drain_header.specs.declared.value.Value.TheVariants.{Nodata}
use Rattle.drain_header.proofs.Folding.{IsSeen}

-- a kind takes out what was put in
through : {A : Type 0} (kind : Value → Option A) (make : A → Value) → ((a : A) → kind (make a) ≡ Some a) → (read : List ℕ → Option A) (word : Option (List ℕ))
    → option_and_then kind (option_and_then (λ w. option_map make (read w)) word) ≡ option_and_then read word
through kind make back read None = refl
through {A} kind make back read (Some w) = inner (read w)
  where
    inner : (o : Option A) → option_and_then kind (option_map make o) ≡ o
    inner None = refl
    inner (Some a) = back a

signs : (kind : HeightKind) (word : Option (List ℕ)) → option_and_then sign_in (option_and_then (λ w. Some (Signed (sign_of kind w))) word) ≡ option_and_then (sign_of kind) word
signs kind None = refl
signs kind (Some w) = refl

module _ (kind : HeightKind) (lines : List (List ℕ)) (seen : Seen) (s : IsSeen kind lines lines (suc (length lines)) seen) where
  pub rows_said : said_by said_number Nrows seen ≡ option_and_then size_of (value_at Nrows lines)
  rows_said = ap (option_and_then said_number) (s.value Nrows) ∙ through said_number (λ n. Number n) (λ n. refl) size_of (value_at Nrows lines)

  pub cols_said : said_by said_number Ncols seen ≡ option_and_then size_of (value_at Ncols lines)
  cols_said = ap (option_and_then said_number) (s.value Ncols) ∙ through said_number (λ n. Number n) (λ n. refl) size_of (value_at Ncols lines)

  pub bands_said : said_by said_number Nbands seen ≡ option_and_then whole_number (value_at Nbands lines)
  bands_said = ap (option_and_then said_number) (s.value Nbands) ∙ through said_number (λ n. Number n) (λ n. refl) whole_number (value_at Nbands lines)

  pub bits_said : said_by said_number Nbits seen ≡ option_and_then whole_number (value_at Nbits lines)
  bits_said = ap (option_and_then said_number) (s.value Nbits) ∙ through said_number (λ n. Number n) (λ n. refl) whole_number (value_at Nbits lines)

  pub skip_said : said_by said_number SkipBytes seen ≡ option_and_then whole_number (value_at SkipBytes lines)
  skip_said = ap (option_and_then said_number) (s.value SkipBytes) ∙ through said_number (λ n. Number n) (λ n. refl) whole_number (value_at SkipBytes lines)

  pub band_row_said : said_by said_number BandRowBytes seen ≡ option_and_then whole_number (value_at BandRowBytes lines)
  band_row_said = ap (option_and_then said_number) (s.value BandRowBytes) ∙ through said_number (λ n. Number n) (λ n. refl) whole_number (value_at BandRowBytes lines)

  pub total_row_said : said_by said_number TotalRowBytes seen ≡ option_and_then whole_number (value_at TotalRowBytes lines)
  total_row_said = ap (option_and_then said_number) (s.value TotalRowBytes) ∙ through said_number (λ n. Number n) (λ n. refl) whole_number (value_at TotalRowBytes lines)

  pub order_said : said_by ordering_in ByteOrder seen ≡ option_and_then ordering_of (value_at ByteOrder lines)
  order_said = ap (option_and_then ordering_in) (s.value ByteOrder) ∙ through ordering_in (λ o. Ordering o) (λ o. refl) ordering_of (value_at ByteOrder lines)

  pub sign_said : said_by sign_in PixelType seen ≡ option_and_then (sign_of kind) (value_at PixelType lines)
  sign_said = ap (option_and_then sign_in) (s.value PixelType) ∙ signs kind (value_at PixelType lines)

  pub ulx_said : said_by coordinate_in Ulxmap seen ≡ option_and_then coordinate_of (value_at Ulxmap lines)
  ulx_said = ap (option_and_then coordinate_in) (s.value Ulxmap) ∙ through coordinate_in (λ z. Coordinate z) (λ z. refl) coordinate_of (value_at Ulxmap lines)

  pub uly_said : said_by coordinate_in Ulymap seen ≡ option_and_then coordinate_of (value_at Ulymap lines)
  uly_said = ap (option_and_then coordinate_in) (s.value Ulymap) ∙ through coordinate_in (λ z. Coordinate z) (λ z. refl) coordinate_of (value_at Ulymap lines)

  pub xdim_said : said_by coordinate_in Xdim seen ≡ option_and_then coordinate_of (value_at Xdim lines)
  xdim_said = ap (option_and_then coordinate_in) (s.value Xdim) ∙ through coordinate_in (λ z. Coordinate z) (λ z. refl) coordinate_of (value_at Xdim lines)

  pub ydim_said : said_by coordinate_in Ydim seen ≡ option_and_then coordinate_of (value_at Ydim lines)
  ydim_said = ap (option_and_then coordinate_in) (s.value Ydim) ∙ through coordinate_in (λ z. Coordinate z) (λ z. refl) coordinate_of (value_at Ydim lines)

  pub nodata_said : said_by said_nodata keys.Nodata seen ≡ option_and_then (nodata_of kind) (value_at keys.Nodata lines)
  nodata_said = ap (option_and_then said_nodata) (s.value keys.Nodata) ∙ through said_nodata (λ z. Nodata z) (λ z. refl) (nodata_of kind) (value_at keys.Nodata lines)
