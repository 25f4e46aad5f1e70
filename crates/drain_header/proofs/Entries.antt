-- A text that grows by one part after another.
use Rattle.drain_header.proofs.Names.{◌/◌, ◌^◌, ◌∷◌, ap, ◌∙◌, zero, suc, ◌<◌, Bool, true, false, arith, inl, inr, ◌+◌, ◌*◌, ◌≤◌, length, sym, decimal, unsigned_abs, codes, Option, Some, None, ◌⊎◌, ◌||◌, cond, find, nat_eq, nat_lt, slice_get, option_and_then, sign_text, is_negative, HeightKind, Place, Key, Nrows, Ncols, Nbands, Nbits, ByteOrder, Layout, PixelType, SkipBytes, BandRowBytes, TotalRowBytes, Ulxmap, Ulymap, Xdim, Ydim, Fields, key_name, key_order, named_key, line_key, line_value, value_at, is_some_key, takes, takes_some, ordering_text, type_text, option_or, lines_of, words_of, IsWord, ink_told, spaced, line_first, two_words}
use Rattle.std.proofs.Common.{◌≡◌, List, [], ◌++◌, ℕ, ℤ, append_assoc, refl, length-append}
use Rattle.drain_header.specs.declared.key.Key.TheVariants.{Nodata}
use Rattle.drain_header.specs.Text.{line, fraction_text, places_text, shape_lines, pixel_lines, place_lines}
use Rattle.std.specs.List.{list_all}

-- one part more
more : (before after known part : List ℕ) → after ≡ before ++ part → before ≡ known → after ≡ known ++ part
more before after known part grows is = grows ∙ ap (λ t. t ++ part) is

-- the line of a number in units of 10^-15, part by part
pub degrees_line : (key : Key) (z : ℤ) (t0 t1 t2 t3 t4 t5 t6 : List ℕ) → t1 ≡ t0 ++ key_name key → t2 ≡ t1 ++ 32 ∷ [] → t3 ≡ t2 ++ sign_text (is_negative z)
    → t4 ≡ t3 ++ decimal (unsigned_abs z / 10 ^ 15) → t5 ≡ t4 ++ 46 ∷ [] → t6 ≡ t5 ++ fraction_text (unsigned_abs z) → t6 ++ 10 ∷ [] ≡ t0 ++ line key (places_text z)
unfolding line places_text
degrees_line key z t0 t1 t2 t3 t4 t5 t6 name space signed whole point fraction =
    ap (λ t. t ++ 10 ∷ []) (more t5 t6 _ (fraction_text (unsigned_abs z)) fraction (more t4 t5 _ (46 ∷ []) point (more t3 t4 _ (decimal (unsigned_abs z / 10 ^ 15)) whole (more t2 t3 _ (sign_text (is_negative z)) signed (more t1 t2 _ (32 ∷ []) space name)))))
    ∙ simp append_assoc

-- the lines of the shape, one by one
pub shape_joined : (h : Fields) (word : List ℕ) (t0 t1 t2 t3 t4 : List ℕ) → word ≡ ordering_text h.order → t1 ≡ t0 ++ line ByteOrder word → t2 ≡ t1 ++ line Layout (codes "BIL")
    → t3 ≡ t2 ++ line Nrows (decimal h.rows) → t4 ≡ t3 ++ line Ncols (decimal h.cols) → t4 ++ line Nbands (decimal 1) ≡ t0 ++ shape_lines h
unfolding shape_lines
shape_joined h word t0 t1 t2 t3 t4 says order layout rows cols =
    ap (λ t. t ++ line Nbands (decimal 1)) (more t3 t4 _ (line Ncols (decimal h.cols)) cols (more t2 t3 _ (line Nrows (decimal h.rows)) rows (more t1 t2 _ (line Layout (codes "BIL")) layout (order ∙ ap (λ w. t0 ++ line ByteOrder w) says))))
    ∙ simp append_assoc

-- the lines of the pixels
pub pixels_joined : (h : Fields) (word : List ℕ) (t0 t1 t2 t3 t4 : List ℕ) → word ≡ type_text h.kind h.signed → t1 ≡ t0 ++ line Nbits (decimal h.bits) → t2 ≡ t1 ++ line BandRowBytes (decimal h.row_bytes)
    → t3 ≡ t2 ++ line TotalRowBytes (decimal h.row_bytes) → t4 ≡ t3 ++ line SkipBytes (decimal h.skip) → t4 ++ line PixelType word ≡ t0 ++ pixel_lines h
unfolding pixel_lines
pixels_joined h word t0 t1 t2 t3 t4 says bits band total skip =
    ap (λ w. t4 ++ line PixelType w) says
    ∙ ap (λ t. t ++ line PixelType (type_text h.kind h.signed)) (more t3 t4 _ (line SkipBytes (decimal h.skip)) skip (more t2 t3 _ (line TotalRowBytes (decimal h.row_bytes)) total (more t1 t2 _ (line BandRowBytes (decimal h.row_bytes)) band bits)))
    ∙ simp append_assoc

-- the lines of the place
pub place_joined : (place : Place) (t0 t1 t2 t3 : List ℕ) → t1 ≡ t0 ++ line Ulxmap (places_text place.ulx) → t2 ≡ t1 ++ line Ulymap (places_text place.uly)
    → t3 ≡ t2 ++ line Xdim (places_text place.xdim) → t3 ++ line Ydim (places_text place.ydim) ≡ t0 ++ place_lines place
unfolding place_lines
place_joined place t0 t1 t2 t3 ulx uly xdim =
    ap (λ t. t ++ line Ydim (places_text place.ydim)) (more t2 t3 _ (line Xdim (places_text place.xdim)) xdim (more t1 t2 _ (line Ulymap (places_text place.uly)) uly ulx))
    ∙ simp append_assoc

-- The first number below a bound at which something is found.

abbrev pub any_below : (ℕ → Bool) → ℕ → Bool
any_below p zero = false
any_below p (suc n) = p n || any_below p n

abbrev pub first_below : {A : Type 0} → (ℕ → Option A) → ℕ → Option A
first_below f zero = None
first_below f (suc n) = option_or (first_below f n) (f n)

-- below n, or n
lower_or_same : (m n : ℕ) → m < suc n → (m < n) ⊎ (m ≡ n)
lower_or_same m n h = grind arith

pub any_below-true : (p : ℕ → Bool) (n : ℕ) → any_below p n ≡ true → (m : ℕ) × (m < n) × (p m ≡ true)
any_below-true p zero e = cc
any_below-true p (suc n) e = elim (p n) as (λ b. p n ≡ b → (b || any_below p n) ≡ true → (m : ℕ) × (m < suc n) × (p m ≡ true)) [
  | true ↦ λ is _. (n, omega arith, is)
  | false ↦ λ is f. let found = any_below-true p n f in (found.0, omega (arith, found.1), found.2)
] refl e

pub any_below-false : (p : ℕ → Bool) (n : ℕ) → any_below p n ≡ false → (m : ℕ) → m < n → p m ≡ false
any_below-false p zero e m h = absurd (omega arith)
any_below-false p (suc n) e m h = elim (p n) as (λ b. p n ≡ b → (b || any_below p n) ≡ false → p m ≡ false) [
  | true ↦ λ is f. cc
  | false ↦ λ is f. elim (lower_or_same m n h) [ inl below ↦ any_below-false p n f m below | inr same ↦ rw same is ]
] refl e

pub first_below-none : {A : Type 0} (f : ℕ → Option A) (n : ℕ) → first_below f n ≡ None → (m : ℕ) → m < n → f m ≡ None
first_below-none f zero e m h = absurd (omega arith)
first_below-none {A} f (suc n) e m h = elim (first_below f n) as (λ o. first_below f n ≡ o → option_or o (f n) ≡ None → f m ≡ None) [
  | None ↦ λ is last. elim (lower_or_same m n h) [ inl below ↦ first_below-none f n is m below | inr same ↦ rw same last ]
  | Some a ↦ λ is last. cc
] refl e

pub record IsFirstAt {A : Type 0} (f : ℕ → Option A) (n : ℕ) (a : A) : Type 0 where
  pub at : ℕ
  pub below : at < n
  pub is : f at ≡ Some a
  pub first : (m : ℕ) → m < at → f m ≡ None

pub first_below-some : {A : Type 0} (f : ℕ → Option A) (n : ℕ) (a : A) → first_below f n ≡ Some a → IsFirstAt f n a
first_below-some f zero a e = cc
first_below-some f (suc n) a e = elim (first_below f n) as (λ o. first_below f n ≡ o → option_or o (f n) ≡ Some a → IsFirstAt f (suc n) a) [
  | None ↦ λ is last. record { at = n; below = omega arith; is = last; first = first_below-none f n is }
  | Some b ↦ λ is last. let found = first_below-some f n a (is ∙ last) in record { at = found.at; below = omega (arith, found.below); is = found.is; first = found.first }
] refl e

-- A text made of lines that each have a keyword and its value, and what is read back from it.
--
-- An entry is a keyword and its value. Everything goes by recursion along a list of entries: the lines of the text are those
-- of the entries, and the value at a keyword is that of the first entry with the keyword.

-- a keyword, a space and its value
abbrev pub bare : Key → List ℕ → List ℕ
bare key value = spaced (key_name key) value

abbrev pub entries_text : List (Key × List ℕ) → List ℕ
entries_text [] = []
entries_text (e ∷ es) = line e.0 e.1 ++ entries_text es

-- the lines, of which the last is empty
abbrev pub entries_lines : List (Key × List ℕ) → List (List ℕ)
entries_lines [] = [] ∷ []
entries_lines (e ∷ es) = bare e.0 e.1 ∷ entries_lines es

-- where a keyword's line is in the text of a header, counted from 0
abbrev pub line_number : Key → ℕ
line_number ByteOrder = 0
line_number Layout = 1
line_number Nrows = 2
line_number Ncols = 3
line_number Nbands = 4
line_number Nbits = 5
line_number BandRowBytes = 6
line_number TotalRowBytes = 7
line_number SkipBytes = 8
line_number PixelType = 9
line_number Ulxmap = 10
line_number Ulymap = 11
line_number Xdim = 12
line_number Ydim = 13
line_number Nodata = 14

name_ink : (key : Key) → list_all (λ x. nat_lt 32 x) (key_name key) ≡ true
name_ink Nrows = refl
name_ink Ncols = refl
name_ink Nbands = refl
name_ink Nbits = refl
name_ink ByteOrder = refl
name_ink Layout = refl
name_ink PixelType = refl
name_ink SkipBytes = refl
name_ink BandRowBytes = refl
name_ink TotalRowBytes = refl
name_ink Ulxmap = refl
name_ink Ulymap = refl
name_ink Xdim = refl
name_ink Ydim = refl
name_ink Nodata = refl

name_some : (key : Key) → (0 < length (key_name key)) × (length (key_name key) ≤ 13)
name_some Nrows = (omega arith, omega arith)
name_some Ncols = (omega arith, omega arith)
name_some Nbands = (omega arith, omega arith)
name_some Nbits = (omega arith, omega arith)
name_some ByteOrder = (omega arith, omega arith)
name_some Layout = (omega arith, omega arith)
name_some PixelType = (omega arith, omega arith)
name_some SkipBytes = (omega arith, omega arith)
name_some BandRowBytes = (omega arith, omega arith)
name_some TotalRowBytes = (omega arith, omega arith)
name_some Ulxmap = (omega arith, omega arith)
name_some Ulymap = (omega arith, omega arith)
name_some Xdim = (omega arith, omega arith)
name_some Ydim = (omega arith, omega arith)
name_some Nodata = (omega arith, omega arith)

-- each name names its keyword
named : (key : Key) → named_key (key_name key) ≡ Some key
named Nrows = refl
named Ncols = refl
named Nbands = refl
named Nbits = refl
named ByteOrder = refl
named Layout = refl
named PixelType = refl
named SkipBytes = refl
named BandRowBytes = refl
named TotalRowBytes = refl
named Ulxmap = refl
named Ulymap = refl
named Xdim = refl
named Ydim = refl
named Nodata = refl

-- an entry that its keyword takes, where the header's text has it
pub record IsGood (kind : HeightKind) (n : ℕ) (e : Key × List ℕ) : Type 0 where
  pub word : IsWord e.1
  pub short : length e.1 ≤ 60
  pub taken : takes kind e.0 e.1 ≡ true
  pub number : line_number e.0 ≡ n

abbrev pub AllGood : HeightKind → ℕ → List (Key × List ℕ) → Type 0
AllGood kind n [] = Unit {0}
AllGood kind n (e ∷ es) = IsGood kind n e × AllGood kind (suc n) es

-- the lines of the text
pub lines_entries : (kind : HeightKind) (n : ℕ) (es : List (Key × List ℕ)) → AllGood kind n es → lines_of (entries_text es) ≡ entries_lines es
unfolding line
lines_entries kind n [] good = refl
lines_entries kind n (e ∷ es) good =
    let regrouped : line e.0 e.1 ++ entries_text es ≡ bare e.0 e.1 ++ 10 ∷ entries_text es = simp append_assoc in
    ap lines_of regrouped
    ∙ line_first (key_name e.0) e.1 (entries_text es) (ink_told (key_name e.0) (name_ink e.0)) good.0.word.ink
    ∙ ap (λ ls. bare e.0 e.1 ∷ ls) (lines_entries kind (suc n) es good.1)

-- the words of a line
words_bare : (key : Key) (value : List ℕ) → IsWord value → words_of (bare key value) ≡ key_name key ∷ value ∷ []
words_bare key value word = two_words (key_name key) value (record { some = (name_some key).0; ink = ink_told (key_name key) (name_ink key) }) word

pub key_bare : (key : Key) (value : List ℕ) → IsWord value → line_key (bare key value) ≡ Some key
key_bare key value word = ap (λ ws. option_and_then named_key (slice_get ws 0)) (words_bare key value word) ∙ named key

pub value_bare : (key : Key) (value : List ℕ) → IsWord value → line_value (bare key value) ≡ Some value
value_bare key value word = ap (λ ws. slice_get ws 1) (words_bare key value word)

-- the value of the first entry with the keyword
abbrev pub value_in : Key → List (Key × List ℕ) → Option (List ℕ)
value_in key [] = None
value_in key (e ∷ es) = cond (nat_eq (key_order key) (key_order e.0)) (Some e.1) (value_in key es)

picked : (b : Bool) (line : List ℕ) (rest : Option (List ℕ)) (value : List ℕ) (known : Option (List ℕ)) → line_value line ≡ Some value → option_and_then line_value rest ≡ known
    → option_and_then line_value (cond b (Some line) rest) ≡ cond b (Some value) known
picked true line rest value known p q = p
picked false line rest value known p q = q

pub value_entries : (kind : HeightKind) (key : Key) (n : ℕ) (es : List (Key × List ℕ)) → AllGood kind n es → value_at key (entries_lines es) ≡ value_in key es
value_entries kind key n [] good = refl
value_entries kind key n (e ∷ es) good =
    let rest = find (λ line. is_some_key key (line_key line)) (entries_lines es) in
    ap (λ o. option_and_then line_value (cond (is_some_key key o) (Some (bare e.0 e.1)) rest)) (key_bare e.0 e.1 good.0.word)
    ∙ picked (nat_eq (key_order key) (key_order e.0)) (bare e.0 e.1) rest e.1 (value_in key es) (value_bare e.0 e.1 good.0.word) (value_entries kind key (suc n) es good.1)

-- what a line with a keyword says of it
pub record IsToldAt (kind : HeightKind) (number : ℕ) (key : Key) (value : Option (List ℕ)) : Type 0 where
  pub place : line_number key ≡ number
  pub taken : takes_some kind key value ≡ true

pub told_at : (kind : HeightKind) (n : ℕ) (es : List (Key × List ℕ)) → AllGood kind n es → (i : ℕ) (key : Key) → option_and_then line_key (slice_get (entries_lines es) i) ≡ Some key
    → IsToldAt kind (n + i) key (option_and_then line_value (slice_get (entries_lines es) i))
told_at kind n [] good zero key is = cc
told_at kind n [] good (suc i) key is = cc
told_at kind n (e ∷ es) good zero key is =
    let first = key_bare e.0 e.1 good.0.word in
    let same : e.0 ≡ key = cc in
    record {
      place = ap line_number (sym same) ∙ good.0.number ∙ omega arith;
      taken = ap (takes_some kind key) (value_bare e.0 e.1 good.0.word) ∙ ap (λ k. takes kind k e.1) (sym same) ∙ good.0.taken;
    }
told_at kind n (e ∷ es) good (suc i) key is =
    let rest = told_at kind (suc n) es good.1 i key is in
    record { place = rest.place ∙ omega arith; taken = rest.taken }

-- the text is not long
line_short : (key : Key) (value : List ℕ) → length value ≤ 60 → length (line key value) ≤ 75
unfolding line
line_short key value short =
    let name = (name_some key).1 in
    omega (arith, length-append (key_name key ++ (32 ∷ []) ++ value) (10 ∷ []), length-append (key_name key ++ (32 ∷ [])) value, length-append (key_name key) (32 ∷ []))

pub entries_short : (kind : HeightKind) (n : ℕ) (es : List (Key × List ℕ)) → AllGood kind n es → length (entries_text es) ≤ 75 * length es
entries_short kind n [] good = omega arith
entries_short kind n (e ∷ es) good =
    let first = line_short e.0 e.1 good.0.short in
    let rest = entries_short kind (suc n) es good.1 in
    omega (arith, length-append (line e.0 e.1) (entries_text es))
