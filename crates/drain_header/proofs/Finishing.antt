-- The header of the values, or the last fault, is that of the lines; and the values are within the bounds of a header.
use Rattle.drain_header.proofs.Names.{Bool, true, false, suc, length, ◌*◌, ◌/◌, arith, sym, ap, subst, ◌∙◌, pos, not, ◌&&◌, ◌==◌, cond, nat_le, nat_lt, Option, Some, None, is_none, IfSome, option_and_then, option_map, unwrap_or, Result, Ok, Err, leb-true, whole_number, HeightKind, Whole, Single, ByteOrdering, Least, Nrows, Ncols, Nbits, PixelType, Ulxmap, Ulymap, Xdim, Ydim, Number, Signed, HeaderFault, NotOneBand, BadBits, BadPixelType, RowTooShort, Fields, IsCoordinate, said, packed_row, row_bytes_of, signed_of, fields_of, coordinate_of, value_at, size_of, signedness_of, sign_of, nodata_of, Seen, lacking, is_unseen, said_by, sign_in, number_or, packed_row_in, row_bytes_in, is_other_type_in, is_pixel_size_of, signed_in, header_in, finished, IsNoDataOf, IsSize, AreTaken}
use Rattle.std.proofs.Common.{◌≡◌, ℕ, List, refl}
use Rattle.std.specs.Prelude.{ℤ}
use Rattle.drain_header.specs.declared.key.Key.TheVariants as keys
use Rattle.drain_header.proofs.AnswerFunction.{is_bad_type, last_answer}
use Rattle.drain_header.proofs.Bounds.{coordinate_within, nodata_within, float_within}
use Rattle.drain_header.proofs.Folding.{IsSeen, at}
use Rattle.drain_header.proofs.Saying

-- none of the six is lacking
six_there : (a b c d e f : Bool) → cond a (Some Nrows) (cond b (Some Ncols) (cond c (Some Ulxmap) (cond d (Some Ulymap) (cond e (Some Xdim) (cond f (Some Ydim) None))))) ≡ None → (a ≡ false) × (b ≡ false)
six_there true b c d e f none = cc
six_there false true c d e f none = cc
six_there false false c d e f none = (refl, refl)

-- the size of a word
pub record IsSized (word : Option (List ℕ)) : Type 0 where
  pub n : ℕ
  pub size : option_and_then size_of word ≡ Some n
  pub number : option_and_then whole_number word ≡ Some n
  pub within : IsSize n

abbrev in_range : ℕ → Option ℕ
in_range n = cond (nat_le 1 n && nat_le n 28801) (Some n) None

range : (m : ℕ) (a b : Bool) → nat_le 1 m ≡ a → nat_le m 28801 ≡ b → is_none (option_map (λ n. Number n) (cond (a && b) (Some m) None)) ≡ false → (cond (a && b) (Some m) None ≡ Some m) × IsSize m
range m true true p q e = (refl, record { low = leb-true 1 m p; high = leb-true m 28801 q })
range m true false p q e = cc
range m false b p q e = cc

sized : (word : Option (List ℕ)) → is_none (option_and_then (λ w. option_map (λ n. Number n) (size_of w)) word) ≡ false → IsSized word
sized None e = cc
sized (Some w) e = (let r = inner (whole_number w) e in record { n = r.0; size = r.1; number = r.2; within = r.3 })
  where
    inner : (o : Option ℕ) → is_none (option_map (λ n. Number n) (option_and_then in_range o)) ≡ false → (n : ℕ) × (option_and_then in_range o ≡ Some n) × (o ≡ Some n) × IsSize n
    inner None none = cc
    inner (Some m) some = (let r = range m (nat_le 1 m) (nat_le m 28801) refl refl some in (m, r.0, refl, r.1))

-- the coordinate of a word, or zero, is within its bounds
zero_within : IsCoordinate (pos 0)
zero_within = record { low = omega arith; high = omega arith }

within : (word : Option (List ℕ)) → IsCoordinate (unwrap_or (option_and_then coordinate_of word) (pos 0))
within None = zero_within
within (Some w) = elim (coordinate_of w) as (λ o. coordinate_of w ≡ o → IsCoordinate (unwrap_or o (pos 0))) [
  | None ↦ λ is. zero_within
  | Some z ↦ λ is. coordinate_within w z is
] refl

nodata_ok : (kind : HeightKind) (word : Option (List ℕ)) → IfSome (option_and_then (nodata_of kind) word) (IsNoDataOf kind)
nodata_ok kind None = _
nodata_ok Whole (Some w) = elim (nodata_of Whole w) as (λ o. nodata_of Whole w ≡ o → IfSome o (IsNoDataOf Whole)) [
  | None ↦ λ is. _
  | Some z ↦ λ is. nodata_within w z is
] refl
nodata_ok Single (Some w) = elim (nodata_of Single w) as (λ o. nodata_of Single w ≡ o → IfSome o (IsNoDataOf Single)) [
  | None ↦ λ is. _
  | Some z ↦ λ is. float_within w z is
] refl

other_type : (kind : HeightKind) (word : Option (List ℕ)) → is_other_type_in kind (option_and_then (λ w. Some (Signed (sign_of kind w))) word) ≡ is_bad_type kind word
other_type kind None = refl
other_type kind (Some w) = refl

-- the last faults and the fields, as one function of what they rest on
abbrev answer_from : HeightKind → ℕ → ℕ → Bool → ℕ → ℕ → Fields → Result Fields HeaderFault
answer_from kind bands bits other row packed h =
    cond (not (bands == 1)) (Err NotOneBand) (cond (not (is_pixel_size_of kind bits)) (Err BadBits) (cond other (Err BadPixelType) (cond (nat_lt row packed) (Err RowTooShort) (Ok h))))

same_answer : (kind : HeightKind) (bands bands' bits bits' : ℕ) (other other' : Bool) (row row' packed packed' : ℕ) (h h' : Fields) →
    bands ≡ bands' → bits ≡ bits' → other ≡ other' → row ≡ row' → packed ≡ packed' → h ≡ h' → answer_from kind bands bits other row packed h ≡ answer_from kind bands' bits' other' row' packed' h'
same_answer kind bands bands' bits bits' other other' row row' packed packed' h h' a b c d e f = rw (a, b, c, d, e, f) refl

abbrev fields_from : HeightKind → ℕ → ℕ → ℕ → ByteOrdering → Bool → ℕ → ℕ → ℤ → ℤ → ℤ → ℤ → Option ℤ → Fields
fields_from kind rows cols bits order signed skip row_bytes ulx uly xdim ydim nodata = record {
  rows = rows;
  cols = cols;
  bits = bits;
  order = order;
  signed = signed;
  skip = skip;
  row_bytes = row_bytes;
  place = record { ulx = ulx; uly = uly; xdim = xdim; ydim = ydim };
  nodata = nodata;
  kind = kind;
}

same_fields : {kind : HeightKind} {rows rows' cols cols' bits bits' : ℕ} {order order' : ByteOrdering} {signed signed' : Bool} {skip skip' row_bytes row_bytes' : ℕ} {ulx ulx' uly uly' xdim xdim' ydim ydim' : ℤ} {nodata nodata' : Option ℤ} →
    rows ≡ rows' → cols ≡ cols' → bits ≡ bits' → order ≡ order' → signed ≡ signed' → skip ≡ skip' → row_bytes ≡ row_bytes' → ulx ≡ ulx' → uly ≡ uly' → xdim ≡ xdim' → ydim ≡ ydim' → nodata ≡ nodata' →
    fields_from kind rows cols bits order signed skip row_bytes ulx uly xdim ydim nodata ≡ fields_from kind rows' cols' bits' order' signed' skip' row_bytes' ulx' uly' xdim' ydim' nodata'
same_fields a b c d e f g h i j k l = rw (a, b, c, d, e, f, g, h, i, j, k, l) refl

signed_is : (kind : HeightKind) (lines : List (List ℕ)) (o : Option Bool) (seen : Seen) → said_by sign_in PixelType seen ≡ o → o ≡ option_and_then (sign_of kind) (value_at PixelType lines)
    → number_or Nbits 8 seen ≡ said whole_number Nbits 8 lines → signed_in kind seen ≡ signed_of kind lines
signed_is Single lines o seen is same bits = refl
signed_is Whole lines o seen is same bits =
    ap (λ p. unwrap_or p (number_or Nbits 8 seen == 16)) (is ∙ same)
    ∙ ap (λ (b : ℕ). said signedness_of PixelType (b == 16) lines) bits

module _ (kind : HeightKind) (lines : List (List ℕ)) (seen : Seen) (s : IsSeen kind lines lines (suc (length lines)) seen) (whole : lacking seen ≡ None) where
  there : (is_unseen seen Nrows ≡ false) × (is_unseen seen Ncols ≡ false)
  there = six_there (is_unseen seen Nrows) (is_unseen seen Ncols) (is_unseen seen Ulxmap) (is_unseen seen Ulymap) (is_unseen seen Xdim) (is_unseen seen Ydim) whole

  rows : IsSized (value_at Nrows lines)
  rows = sized (value_at Nrows lines) (sym (ap is_none (s.value Nrows)) ∙ there.0)

  cols : IsSized (value_at Ncols lines)
  cols = sized (value_at Ncols lines) (sym (ap is_none (s.value Ncols)) ∙ there.1)

  rows_is : number_or Nrows 0 seen ≡ rows.n
  rows_is = ap (λ o. unwrap_or o 0) (Saying.rows_said kind lines seen s ∙ rows.size)

  cols_is : number_or Ncols 0 seen ≡ cols.n
  cols_is = ap (λ o. unwrap_or o 0) (Saying.cols_said kind lines seen s ∙ cols.size)

  same_rows : number_or Nrows 0 seen ≡ said whole_number Nrows 0 lines
  same_rows = rows_is ∙ sym (ap (λ o. unwrap_or o 0) rows.number)

  same_cols : number_or Ncols 0 seen ≡ said whole_number Ncols 0 lines
  same_cols = cols_is ∙ sym (ap (λ o. unwrap_or o 0) cols.number)

  same_bits : number_or Nbits 8 seen ≡ said whole_number Nbits 8 lines
  same_bits = ap (λ o. unwrap_or o 8) (Saying.bits_said kind lines seen s)

  same_packed : packed_row_in seen ≡ packed_row lines
  same_packed = ap (λ (c : ℕ). c * number_or Nbits 8 seen / 8) same_cols ∙ ap (λ (b : ℕ). said whole_number Ncols 0 lines * b / 8) same_bits

  same_row_bytes : row_bytes_in seen ≡ row_bytes_of lines
  same_row_bytes =
      ap (λ o. unwrap_or o (number_or keys.BandRowBytes (packed_row_in seen) seen)) (Saying.total_row_said kind lines seen s)
      ∙ ap (λ o. unwrap_or (option_and_then whole_number (value_at keys.TotalRowBytes lines)) (unwrap_or o (packed_row_in seen))) (Saying.band_row_said kind lines seen s)
      ∙ ap (λ (p : ℕ). said whole_number keys.TotalRowBytes (said whole_number keys.BandRowBytes p lines) lines) same_packed

  same_signed : signed_in kind seen ≡ signed_of kind lines
  same_signed = signed_is kind lines (said_by sign_in PixelType seen) seen refl (Saying.sign_said kind lines seen s) same_bits

  same_header : header_in kind seen ≡ fields_of kind lines
  same_header = same_fields same_rows same_cols same_bits
      (ap (λ o. unwrap_or o Least) (Saying.order_said kind lines seen s)) same_signed
      (ap (λ o. unwrap_or o 0) (Saying.skip_said kind lines seen s)) same_row_bytes
      (ap (λ o. unwrap_or o (pos 0)) (Saying.ulx_said kind lines seen s)) (ap (λ o. unwrap_or o (pos 0)) (Saying.uly_said kind lines seen s))
      (ap (λ o. unwrap_or o (pos 0)) (Saying.xdim_said kind lines seen s)) (ap (λ o. unwrap_or o (pos 0)) (Saying.ydim_said kind lines seen s))
      (Saying.nodata_said kind lines seen s)

  pub finished_is : finished kind seen ≡ last_answer kind lines
  finished_is = same_answer kind (number_or keys.Nbands 1 seen) (said whole_number keys.Nbands 1 lines) (number_or Nbits 8 seen) (said whole_number Nbits 8 lines)
      (is_other_type_in kind (at PixelType seen)) (is_bad_type kind (value_at PixelType lines)) (row_bytes_in seen) (row_bytes_of lines) (packed_row_in seen) (packed_row lines) (header_in kind seen) (fields_of kind lines)
      (ap (λ o. unwrap_or o 1) (Saying.bands_said kind lines seen s)) same_bits
      (ap (is_other_type_in kind) (s.value PixelType) ∙ other_type kind (value_at PixelType lines)) same_row_bytes same_packed same_header

  pub taken : AreTaken kind seen
  taken = record {
    rows = subst (λ n. IsSize n) (sym rows_is) rows.within;
    cols = subst (λ n. IsSize n) (sym cols_is) cols.within;
    ulx = rw (Saying.ulx_said kind lines seen s) (within (value_at Ulxmap lines));
    uly = rw (Saying.uly_said kind lines seen s) (within (value_at Ulymap lines));
    xdim = rw (Saying.xdim_said kind lines seen s) (within (value_at Xdim lines));
    ydim = rw (Saying.ydim_said kind lines seen s) (within (value_at Ydim lines));
    nodata = rw (Saying.nodata_said kind lines seen s) (nodata_ok kind (value_at keys.Nodata lines));
  }
