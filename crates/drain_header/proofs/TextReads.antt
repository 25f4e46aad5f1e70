-- The text of a header within its bounds describes the header.
--
-- The text is that of a list of entries, each of which its keyword takes. So its lines are known, each keyword is on
-- one line alone, and the value at each keyword is the one that was printed.
use Rattle.drain_header.proofs.Names.{true, false, length, arith, sym, ◌∙◌, suc, Bool, ap, ◌+◌, ◌≤◌, inl, inr, zero, ◌*◌, ◌/◌, ◌∷◌, true≢false, Option, Some, None, is_some, ◌==◌, pos, unsigned_abs, IfSome, option_and_then, option_map, slice_get, unwrap_or, decimal, codes, reads, line_key, line_value, value_at, takes, takes_some, ordering_of, signedness_of, nodata_of, says_float, Key, Nrows, Ncols, Ulxmap, Ulymap, Xdim, Ydim, Nbands, Nbits, ByteOrder, Layout, PixelType, SkipBytes, BandRowBytes, TotalRowBytes, line_at, HasKey, HasFaultOf, IsRequired, DescribesOf, HasBadPixelType, coordinate_of, signed_decimal, ∥∥₁_elim, le_prop, lines_of, whole_number, IsNoData, HeightKind, Whole, Single, IsFloatWord, AreAboveSpace, ByteOrdering, Least, Most, Place, HeaderFault, TooLong, RepeatedKey, BadValue, MissingKey, NotOneBand, BadBits, BadPixelType, RowTooShort, Fields, IsCoordinate, IsPixelSize, IsPixelSizeOf, AreWithinBounds, said, packed_row, row_bytes_of, signed_of, fields_of, nodata_line, ordering_text, signedness_text, type_text, IsFloatLine, IsTextOfKind, IsTextOf, AllInk, IsWord, ink_told, decimal_word, decimal_short, whole_read}
use Rattle.std.proofs.Common.{◌≡◌, ℕ, List, refl, [], ◌++◌, append-nil, append_assoc}
use Rattle.std.specs.Prelude.{ℤ}
use Rattle.drain_header.specs.declared.key.Key.TheVariants.{Nodata}
use Rattle.drain_header.specs.Text.{line, places_text, shape_lines, pixel_lines, place_lines}
use Rattle.drain_header.proofs.Entries.{line_number, entries_text, entries_lines, AllGood, IsGood, value_in, lines_entries, value_entries, told_at, entries_short, key_bare}
use Rattle.drain_header.proofs.ReadBack.{size_read, coordinate_read, nodata_read, nodata_small, places_word, places_short, nodata_word, nodata_short}

-- the entry of the no-data number, by its word
abbrev nodata_entries : Option (List ℕ) → List (Key × List ℕ)
nodata_entries None = []
nodata_entries (Some word) = (Nodata, word) ∷ []

-- the keywords of a header's text and their values
abbrev entries_of : Fields → Option (List ℕ) → List (Key × List ℕ)
entries_of h last =
    (ByteOrder, ordering_text h.order) ∷ (Layout, codes "BIL") ∷ (Nrows, decimal h.rows) ∷ (Ncols, decimal h.cols) ∷ (Nbands, decimal 1)
    ∷ (Nbits, decimal h.bits) ∷ (BandRowBytes, decimal h.row_bytes) ∷ (TotalRowBytes, decimal h.row_bytes) ∷ (SkipBytes, decimal h.skip) ∷ (PixelType, type_text h.kind h.signed)
    ∷ (Ulxmap, places_text h.place.ulx) ∷ (Ulymap, places_text h.place.uly) ∷ (Xdim, places_text h.place.xdim) ∷ (Ydim, places_text h.place.ydim) ∷ nodata_entries last

text_is : (h : Fields) (last : Option (List ℕ)) → shape_lines h ++ pixel_lines h ++ place_lines h.place ++ entries_text (nodata_entries last) ≡ entries_text (entries_of h last)
unfolding shape_lines pixel_lines place_lines
text_is h last = simp append_assoc

-- the words
order_word : (order : ByteOrdering) → IsWord (ordering_text order)
order_word Least = record { some = omega arith; ink = ink_told (codes "I") refl }
order_word Most = record { some = omega arith; ink = ink_told (codes "M") refl }

order_short : (order : ByteOrdering) → length (ordering_text order) ≤ 60
order_short Least = omega arith
order_short Most = omega arith

order_read : (order : ByteOrdering) → ordering_of (ordering_text order) ≡ Some order
order_read Least = refl
order_read Most = refl

type_word : (kind : HeightKind) (signed : Bool) → IsWord (type_text kind signed)
type_word Whole true = record { some = omega arith; ink = ink_told (codes "SIGNEDINT") refl }
type_word Whole false = record { some = omega arith; ink = ink_told (codes "UNSIGNEDINT") refl }
type_word Single signed = record { some = omega arith; ink = ink_told (codes "FLOAT") refl }

type_short : (kind : HeightKind) (signed : Bool) → length (type_text kind signed) ≤ 60
type_short Whole true = omega arith
type_short Whole false = omega arith
type_short Single signed = omega arith

signed_read : (signed : Bool) → signedness_of (signedness_text signed) ≡ Some signed
signed_read true = refl
signed_read false = refl

-- an entry whose value is a whole number
number_good : (kind : HeightKind) (at : ℕ) (key : Key) (n : ℕ) → n ≤ 4294967295 → takes kind key (decimal n) ≡ true → line_number key ≡ at → IsGood kind at (key, decimal n)
number_good kind at key n fits taken place = record {
  word = decimal_word n (omega arith);
  short = (let short = decimal_short n (omega arith) in omega arith);
  taken = taken;
  number = place;
}

whole_taken : (n : ℕ) → n ≤ 4294967295 → is_some (whole_number (decimal n)) ≡ true
whole_taken n fits = ap is_some (whole_read n fits)

-- an entry whose value is a coordinate
place_good : (kind : HeightKind) (at : ℕ) (key : Key) (z : ℤ) → IsCoordinate z → takes kind key (places_text z) ≡ true → line_number key ≡ at → IsGood kind at (key, places_text z)
place_good kind at key z is taken place = record {
  word = places_word z is;
  short = places_short z is;
  taken = taken;
  number = place;
}

place_taken : (z : ℤ) → IsCoordinate z → is_some (coordinate_of (places_text z)) ≡ true
place_taken z is = ap is_some (coordinate_read z is)

-- what is known of a no-data number, where there is one
abbrev SmallNoData : Option ℤ → Type 0
SmallNoData o = IfSome o (λ z. unsigned_abs z ≤ 10000000000)

small_nodata : (o : Option ℤ) → ∥ IfSome o IsNoData ∥₁ → SmallNoData o
small_nodata None t = tt
small_nodata (Some z) t = ∥∥₁_elim t le_prop (nodata_small z)

-- the word of a no-data number, where there is one: its entry is taken, and it reads back
record AreNodata (kind : HeightKind) (o : Option ℤ) (last : Option (List ℕ)) : Type 0 where
  good : AllGood kind 14 (nodata_entries last)
  reads : option_and_then (nodata_of kind) last ≡ o

whole_nodata : (o : Option ℤ) → SmallNoData o → AreNodata Whole o (option_map signed_decimal o)
whole_nodata None small = record { good = tt; reads = refl }
whole_nodata (Some z) small = record {
  good = (
    record {
      word = nodata_word z small;
      short = nodata_short z small;
      taken = ap is_some (nodata_read z small);
      number = refl;
    },
    tt,
  );
  reads = nodata_read z small;
}

float_ink : (word : List ℕ) → AreAboveSpace word → AllInk word
float_ink [] h = tt
float_ink (x ∷ xs) h = (h.0, float_ink xs h.1)

float_nodata_word : (z : ℤ) (word : List ℕ) → IsFloatWord z word → AreNodata Single (Some z) (Some word)
float_nodata_word z word is = record {
  good = (
    record {
      word = record { some = is.some; ink = float_ink word is.ink };
      short = (let short = is.short in omega arith);
      taken = ap is_some is.reads;
      number = refl;
    },
    tt,
  );
  reads = is.reads;
}

-- a header's text is that of its entries
record AsEntries (h : Fields) (kind : HeightKind) (text : List ℕ) : Type 0 where
  last : Option (List ℕ)
  nodata : AreNodata kind h.nodata last
  same : text ≡ entries_text (entries_of h last)

nodata_text : (o : Option ℤ) → nodata_line o ≡ entries_text (nodata_entries (option_map signed_decimal o))
nodata_text None = refl
nodata_text (Some z) = sym (append-nil (line Nodata (signed_decimal z)))

-- what is before the last entry
abbrev front : Fields → List ℕ
front h = shape_lines h ++ pixel_lines h ++ place_lines h.place

float_end : (h : Fields) (o : Option ℤ) (end : List ℕ) → IsFloatLine o end → (last : Option (List ℕ)) × AreNodata Single o last × (end ≡ entries_text (nodata_entries last))
float_end h None end is = (None, record { good = tt; reads = refl }, is)
float_end h (Some z) end is = (Some is.0, float_nodata_word z is.0 is.1, is.2 ∙ sym (append-nil (line Nodata is.0)))

as_entries : (h : Fields) (kind : HeightKind) (text : List ℕ) → SmallNoData h.nodata → IsTextOfKind kind h text → AsEntries h kind text
as_entries h Whole text small is = record {
  last = option_map signed_decimal h.nodata;
  nodata = whole_nodata h.nodata small;
  same = is ∙ ap (λ t. front h ++ t) (nodata_text h.nodata) ∙ text_is h (option_map signed_decimal h.nodata);
}
as_entries h Single text small is =
    let found = float_end h h.nodata is.0 is.1 in
    record {
      last = found.0;
      nodata = found.1;
      same = is.2 ∙ ap (λ t. front h ++ t) found.2 ∙ text_is h found.0;
    }

bits_small : (bits : ℕ) → IsPixelSize bits → bits ≤ 32
bits_small bits (inl a) = omega (arith, a)
bits_small bits (inr (inl b)) = omega (arith, b)
bits_small bits (inr (inr c)) = omega (arith, c)

few_bits : (h : Fields) → AreWithinBounds h → h.bits ≤ 32
few_bits h within = ∥∥₁_elim within.bits_ok le_prop (bits_small h.bits)

entries_good : (h : Fields) → AreWithinBounds h → (last : Option (List ℕ)) → AreNodata h.kind h.nodata last → AllGood h.kind 0 (entries_of h last)
entries_good h within last nodata =
    let some_row = within.some_row in
    let rows_fit = within.rows_fit in
    let some_col = within.some_col in
    let cols_fit = within.cols_fit in
    let few = few_bits h within in (
      record { word = order_word h.order; short = order_short h.order; taken = ap is_some (order_read h.order); number = refl },
      (
        record { word = record { some = omega arith; ink = ink_told (codes "BIL") refl }; short = omega arith; taken = refl; number = refl },
        (
          number_good h.kind 2 Nrows h.rows (omega arith) (ap is_some (size_read h.rows some_row rows_fit)) refl,
          (
            number_good h.kind 3 Ncols h.cols (omega arith) (ap is_some (size_read h.cols some_col cols_fit)) refl,
            (
              number_good h.kind 4 Nbands 1 (omega arith) (whole_taken 1 (omega arith)) refl,
              (
                number_good h.kind 5 Nbits h.bits (omega arith) (whole_taken h.bits (omega arith)) refl,
                (
                  number_good h.kind 6 BandRowBytes h.row_bytes within.row_bytes_fit (whole_taken h.row_bytes within.row_bytes_fit) refl,
                  (
                    number_good h.kind 7 TotalRowBytes h.row_bytes within.row_bytes_fit (whole_taken h.row_bytes within.row_bytes_fit) refl,
                    (
                      number_good h.kind 8 SkipBytes h.skip within.skip_fits (whole_taken h.skip within.skip_fits) refl,
                      (
                        record { word = type_word h.kind h.signed; short = type_short h.kind h.signed; taken = refl; number = refl },
                        (
                          place_good h.kind 10 Ulxmap h.place.ulx within.ulx_ok (place_taken h.place.ulx within.ulx_ok) refl,
                          (
                            place_good h.kind 11 Ulymap h.place.uly within.uly_ok (place_taken h.place.uly within.uly_ok) refl,
                            (
                              place_good h.kind 12 Xdim h.place.xdim within.xdim_ok (place_taken h.place.xdim within.xdim_ok) refl,
                              (
                                place_good h.kind 13 Ydim h.place.ydim within.ydim_ok (place_taken h.place.ydim within.ydim_ok) refl,
                                nodata.good,
                              ),
                            ),
                          ),
                        ),
                      ),
                    ),
                  ),
                ),
              ),
            ),
          ),
        ),
      ),
    )

-- what is at a keyword means what was printed
said_is : {A : Type 0} (read : List ℕ → Option A) (key : Key) (default : A) (lines : List (List ℕ)) (word : List ℕ) (a : A) → value_at key lines ≡ Some word → read word ≡ Some a → said read key default lines ≡ a
said_is read key default lines word a is reads = ap (λ o. unwrap_or (option_and_then read o) default) is ∙ ap (λ o. unwrap_or o default) reads

-- the lines of a header's text
record AreLinesOf (h : Fields) (lines : List (List ℕ)) : Type 0 where
  last : Option (List ℕ)
  nodata : AreNodata h.kind h.nodata last
  good : AllGood h.kind 0 (entries_of h last)
  same : lines ≡ entries_lines (entries_of h last)

-- the value at a keyword
value_is : (h : Fields) (lines : List (List ℕ)) (of : AreLinesOf h lines) (key : Key) → value_at key lines ≡ value_in key (entries_of h of.last)
value_is h lines of key = ap (value_at key) of.same ∙ value_entries h.kind key 0 (entries_of h of.last) of.good

last_value : (last : Option (List ℕ)) → value_in Nodata (nodata_entries last) ≡ last
last_value None = refl
last_value (Some word) = refl

-- floats are signed, and the pixel type says whether whole heights are
signed_are : (kind : HeightKind) (signed : Bool) (lines : List (List ℕ)) → value_at PixelType lines ≡ Some (type_text kind signed) → (kind ≡ Single → signed ≡ true) → signed_of kind lines ≡ signed
signed_are Whole signed lines is float = said_is signedness_of PixelType (said whole_number Nbits 8 lines == 16) lines (signedness_text signed) signed is (signed_read signed)
signed_are Single signed lines is float = sym (float refl)

type_known : (kind : HeightKind) (signed : Bool) (lines : List (List ℕ)) → value_at PixelType lines ≡ Some (type_text kind signed) → HasBadPixelType kind lines → ⊥
type_known Whole signed lines here has =
    let there = has.1 in
    let same : has.0 ≡ signedness_text signed = cc in
    let known = signed_read signed in
    let unknown = has.2 in
    let none : signedness_of (signedness_text signed) ≡ None = ap signedness_of (sym same) ∙ unknown in
    cc
type_known Single signed lines here has = true≢false (sym (ap says_float here) ∙ has)

bits_known : (kind : HeightKind) (bits : ℕ) → IsPixelSize bits → (kind ≡ Single → bits ≡ 32) → IsPixelSizeOf kind bits
bits_known Whole bits is float = is
bits_known Single bits is float = float refl

same_place : (p q : Place) → p.ulx ≡ q.ulx → p.uly ≡ q.uly → p.xdim ≡ q.xdim → p.ydim ≡ q.ydim → p ≡ q
same_place p q ulx uly xdim ydim = λ i. record { ulx = ulx i; uly = uly i; xdim = xdim i; ydim = ydim i }

same_fields : (g h : Fields) → g.rows ≡ h.rows → g.cols ≡ h.cols → g.bits ≡ h.bits → g.order ≡ h.order → g.signed ≡ h.signed → g.skip ≡ h.skip → g.row_bytes ≡ h.row_bytes → g.place ≡ h.place → g.nodata ≡ h.nodata → g.kind ≡ h.kind → g ≡ h
same_fields g h rows cols bits order signed skip row_bytes place nodata kind = λ i. record { rows = rows i; cols = cols i; bits = bits i; order = order i; signed = signed i; skip = skip i; row_bytes = row_bytes i; place = place i; nodata = nodata i; kind = kind i }

row_bytes_are : (h : Fields) (lines : List (List ℕ)) → AreWithinBounds h → AreLinesOf h lines → row_bytes_of lines ≡ h.row_bytes
row_bytes_are h lines within of =
    said_is whole_number TotalRowBytes (said whole_number BandRowBytes (packed_row lines) lines) lines (decimal h.row_bytes) h.row_bytes (value_is h lines of TotalRowBytes) (whole_read h.row_bytes within.row_bytes_fit)

fields_are : (h : Fields) (lines : List (List ℕ)) → AreWithinBounds h → AreLinesOf h lines → h ≡ fields_of h.kind lines
fields_are h lines within of =
    let at = value_is h lines of in
    let few = few_bits h within in
    let rows_fit = within.rows_fit in
    let cols_fit = within.cols_fit in
    let rows : said whole_number Nrows 0 lines ≡ h.rows = said_is whole_number Nrows 0 lines (decimal h.rows) h.rows (at Nrows) (whole_read h.rows (omega arith)) in
    let cols : said whole_number Ncols 0 lines ≡ h.cols = said_is whole_number Ncols 0 lines (decimal h.cols) h.cols (at Ncols) (whole_read h.cols (omega arith)) in
    let bits : said whole_number Nbits 8 lines ≡ h.bits = said_is whole_number Nbits 8 lines (decimal h.bits) h.bits (at Nbits) (whole_read h.bits (omega arith)) in
    let order : said ordering_of ByteOrder Least lines ≡ h.order = said_is ordering_of ByteOrder Least lines (ordering_text h.order) h.order (at ByteOrder) (order_read h.order) in
    let signed : signed_of h.kind lines ≡ h.signed = signed_are h.kind h.signed lines (at PixelType) within.float_signed in
    let skip : said whole_number SkipBytes 0 lines ≡ h.skip = said_is whole_number SkipBytes 0 lines (decimal h.skip) h.skip (at SkipBytes) (whole_read h.skip within.skip_fits) in
    let row_bytes : row_bytes_of lines ≡ h.row_bytes = row_bytes_are h lines within of in
    let ulx : said coordinate_of Ulxmap (pos 0) lines ≡ h.place.ulx = said_is coordinate_of Ulxmap (pos 0) lines (places_text h.place.ulx) h.place.ulx (at Ulxmap) (coordinate_read h.place.ulx within.ulx_ok) in
    let uly : said coordinate_of Ulymap (pos 0) lines ≡ h.place.uly = said_is coordinate_of Ulymap (pos 0) lines (places_text h.place.uly) h.place.uly (at Ulymap) (coordinate_read h.place.uly within.uly_ok) in
    let xdim : said coordinate_of Xdim (pos 0) lines ≡ h.place.xdim = said_is coordinate_of Xdim (pos 0) lines (places_text h.place.xdim) h.place.xdim (at Xdim) (coordinate_read h.place.xdim within.xdim_ok) in
    let ydim : said coordinate_of Ydim (pos 0) lines ≡ h.place.ydim = said_is coordinate_of Ydim (pos 0) lines (places_text h.place.ydim) h.place.ydim (at Ydim) (coordinate_read h.place.ydim within.ydim_ok) in
    let nodata : option_and_then (nodata_of h.kind) (value_at Nodata lines) ≡ h.nodata = ap (option_and_then (nodata_of h.kind)) (at Nodata ∙ last_value of.last) ∙ of.nodata.reads in
    sym (same_fields (fields_of h.kind lines) h rows cols bits order signed skip row_bytes (same_place (fields_of h.kind lines).place h.place ulx uly xdim ydim) nodata refl)

-- a line with a keyword is the keyword's, and its value is taken
record IsKeyLine (kind : HeightKind) (lines : List (List ℕ)) (n : ℕ) (key : Key) : Type 0 where
  place : n ≡ suc (line_number key)
  taken : takes_some kind key (option_and_then line_value (line_at lines n)) ≡ true

key_line : (h : Fields) (lines : List (List ℕ)) → AreLinesOf h lines → (n : ℕ) (key : Key) → HasKey lines n key → IsKeyLine h.kind lines n key
key_line h lines of zero key has = cc
key_line h lines of (suc i) key has =
    let told = told_at h.kind 0 (entries_of h of.last) of.good i key (ap (λ ls. option_and_then line_key (slice_get ls i)) (sym of.same) ∙ has) in
    record {
      place = omega (arith, told.place);
      taken = ap (λ ls. takes_some h.kind key (option_and_then line_value (slice_get ls i))) of.same ∙ told.taken;
    }

-- a keyword that must be there is
required_stands : (h : Fields) (lines : List (List ℕ)) → AreWithinBounds h → AreLinesOf h lines → (key : Key) → IsRequired key → HasKey lines (suc (line_number key)) key
required_stands h lines within of Nrows needed = ap (λ ls. option_and_then line_key (line_at ls 3)) of.same ∙ key_bare Nrows (decimal h.rows) of.good.1.1.0.word
required_stands h lines within of Ncols needed = ap (λ ls. option_and_then line_key (line_at ls 4)) of.same ∙ key_bare Ncols (decimal h.cols) of.good.1.1.1.0.word
required_stands h lines within of Ulxmap needed = ap (λ ls. option_and_then line_key (line_at ls 11)) of.same ∙ key_bare Ulxmap (places_text h.place.ulx) (places_word h.place.ulx within.ulx_ok)
required_stands h lines within of Ulymap needed = ap (λ ls. option_and_then line_key (line_at ls 12)) of.same ∙ key_bare Ulymap (places_text h.place.uly) (places_word h.place.uly within.uly_ok)
required_stands h lines within of Xdim needed = ap (λ ls. option_and_then line_key (line_at ls 13)) of.same ∙ key_bare Xdim (places_text h.place.xdim) (places_word h.place.xdim within.xdim_ok)
required_stands h lines within of Ydim needed = ap (λ ls. option_and_then line_key (line_at ls 14)) of.same ∙ key_bare Ydim (places_text h.place.ydim) (places_word h.place.ydim within.ydim_ok)
required_stands h lines within of Nbands needed = absurd needed
required_stands h lines within of Nbits needed = absurd needed
required_stands h lines within of ByteOrder needed = absurd needed
required_stands h lines within of Layout needed = absurd needed
required_stands h lines within of PixelType needed = absurd needed
required_stands h lines within of SkipBytes needed = absurd needed
required_stands h lines within of BandRowBytes needed = absurd needed
required_stands h lines within of TotalRowBytes needed = absurd needed
required_stands h lines within of Nodata needed = absurd needed

few_nodata : (last : Option (List ℕ)) → length (nodata_entries last) ≤ 1
few_nodata None = omega arith
few_nodata (Some word) = omega arith

short_text : (h : Fields) (last : Option (List ℕ)) (text : List ℕ) → AllGood h.kind 0 (entries_of h last) → text ≡ entries_text (entries_of h last) → length text ≤ 65536
short_text h last text good is =
    let few = few_nodata last in
    let all = entries_short h.kind 0 (entries_of h last) good in
    omega (arith, ap length is)

-- no fault holds
no_fault : (h : Fields) (text : List ℕ) → AreWithinBounds h → length text ≤ 65536 → AreLinesOf h (lines_of text) → (fault : HeaderFault) → HasFaultOf h.kind text fault → ⊥
no_fault h text within short of TooLong has = absurd (omega arith)
no_fault h text within short of (RepeatedKey n) has =
    let earlier = key_line h (lines_of text) of has.2.0 has.0 has.2.2 in
    let later = key_line h (lines_of text) of n has.0 has.1 in
    let before = has.2.1 in
    let place = earlier.place in
    let same = later.place in
    absurd (omega arith)
no_fault h text within short of (BadValue n) has =
    let here = key_line h (lines_of text) of n has.0 has.1 in
    let taken = here.taken in
    let wrong : takes_some h.kind has.0 (option_and_then line_value (line_at (lines_of text) n)) ≡ false = has.2 in
    cc
no_fault h text within short of (MissingKey key) has = has.1 (suc (line_number key)) (required_stands h (lines_of text) within of key has.0)
no_fault h text within short of NotOneBand has =
    has (said_is whole_number Nbands 1 (lines_of text) (decimal 1) 1 (value_is h (lines_of text) of Nbands) (whole_read 1 (omega arith)))
no_fault h text within short of BadBits has =
    let few = few_bits h within in
    let bits : said whole_number Nbits 8 (lines_of text) ≡ h.bits = said_is whole_number Nbits 8 (lines_of text) (decimal h.bits) h.bits (value_is h (lines_of text) of Nbits) (whole_read h.bits (omega arith)) in
    ∥∥₁_elim within.bits_ok (hlevel) (λ is. has (rw bits (bits_known h.kind h.bits is within.float_bits)))
no_fault h text within short of BadPixelType has = type_known h.kind h.signed (lines_of text) (value_is h (lines_of text) of PixelType) has
no_fault h text within short of RowTooShort has =
    let few = few_bits h within in
    let cols_fit = within.cols_fit in
    let holds = within.row_holds in
    let cols : said whole_number Ncols 0 (lines_of text) ≡ h.cols = said_is whole_number Ncols 0 (lines_of text) (decimal h.cols) h.cols (value_is h (lines_of text) of Ncols) (whole_read h.cols (omega arith)) in
    let bits : said whole_number Nbits 8 (lines_of text) ≡ h.bits = said_is whole_number Nbits 8 (lines_of text) (decimal h.bits) h.bits (value_is h (lines_of text) of Nbits) (whole_read h.bits (omega arith)) in
    let row : row_bytes_of (lines_of text) ≡ h.row_bytes = row_bytes_are h (lines_of text) within of in
    let packed : packed_row (lines_of text) ≡ h.cols * h.bits / 8 = ap (λ (c : ℕ). c * said whole_number Nbits 8 (lines_of text) / 8) cols ∙ ap (λ (b : ℕ). h.cols * b / 8) bits in
    absurd (omega (arith, has, row, packed, holds))

pub text_reads_back : (h : Fields) → AreWithinBounds h → (text : List ℕ) → IsTextOf h text → DescribesOf h.kind text h
text_reads_back h within text is =
    let entries = as_entries h h.kind text (small_nodata h.nodata within.nodata_ok) is in
    let good = entries_good h within entries.last entries.nodata in
    let of : AreLinesOf h (lines_of text) = record {
      last = entries.last;
      nodata = entries.nodata;
      good = good;
      same = ap lines_of entries.same ∙ lines_entries h.kind 0 (entries_of h entries.last) good;
    } in
    record {
      sound = no_fault h text within (short_text h entries.last text good entries.same) of;
      fields = fields_are h (lines_of text) within of;
    }
