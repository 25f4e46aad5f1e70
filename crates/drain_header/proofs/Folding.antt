-- The lines read one after another give the first fault of a line, or the value of each keyword.
--
-- By induction over the lines that are left: `IsSeen` says what is kept of those before. It speaks of a keyword in three
-- ways, since the function of the answer does: whether an earlier line has it, the first line that has it, and that line's value.
use Rattle.drain_header.proofs.Names.{zero, suc, ◌+◌, ◌<◌, Bool, true, false, ◌∷◌, length, get_or, arith, sym, ap, ◌∙◌, ◌||◌, not, cond, find, Option, Some, None, is_some, option_and_then, option_map, slice_get, slice_set, Result, Ok, Err, nat_eq, option_or, eqb-true, eqb-false, get_or-replicate, get_or-set_same, get_or-set_other, length-set, HeightKind, Key, Nrows, Ncols, Nbands, Nbits, ByteOrder, Layout, PixelType, SkipBytes, BandRowBytes, TotalRowBytes, Ulxmap, Ulymap, Xdim, Ydim, Value, HeaderFault, RepeatedKey, BadValue, key_order, line_key, line_value, is_some_key, takes, takes_some, line_at, value_read, Seen, nothing, with_value, with_key, with_lines, follow}
use Rattle.std.proofs.Common.{◌≡◌, ℕ, List, [], ◌++◌, refl}
use Rattle.std.proofs.lemmas.List.{append_assoc, append-nil, length-append}
use Rattle.drain_header.specs.declared.key.Key.TheVariants.{Nodata}
use Rattle.drain_header.proofs.Entries.{any_below, first_below}
use Rattle.drain_header.proofs.AnswerFunction.{key_on, is_repeated, is_bad, line_fault}
use Rattle.drain_header.proofs.AnswerTests.{place_below, is_some_key-true}

abbrev pub has : Key → List ℕ → Bool
has key line = is_some_key key (line_key line)

abbrev pub at : Key → Seen → Option Value
at key seen = get_or seen (key_order key) None

some_mapped : {A B : Type 0} (f : A → B) (o : Option A) → is_some (option_map f o) ≡ is_some o
some_mapped f None = refl
some_mapped f (Some a) = refl

some_if : (b : Bool) (x : Value) → is_some (cond b (Some x) None) ≡ b
some_if true x = refl
some_if false x = refl

-- a keyword takes the words that say something as its value
taken : (kind : HeightKind) (key : Key) (word : List ℕ) → takes kind key word ≡ is_some (value_read kind key word)
taken kind Nrows word = sym (some_mapped _ _)
taken kind Ncols word = sym (some_mapped _ _)
taken kind Nbands word = sym (some_mapped _ _)
taken kind Nbits word = sym (some_mapped _ _)
taken kind ByteOrder word = sym (some_mapped _ _)
taken kind Layout word = sym (some_if _ _)
taken kind PixelType word = refl
taken kind SkipBytes word = sym (some_mapped _ _)
taken kind BandRowBytes word = sym (some_mapped _ _)
taken kind TotalRowBytes word = sym (some_mapped _ _)
taken kind Ulxmap word = sym (some_mapped _ _)
taken kind Ulymap word = sym (some_mapped _ _)
taken kind Xdim word = sym (some_mapped _ _)
taken kind Ydim word = sym (some_mapped _ _)
taken kind Nodata word = sym (some_mapped _ _)

taken_some : (kind : HeightKind) (key : Key) (word : Option (List ℕ)) → takes_some kind key word ≡ is_some (option_and_then (value_read kind key) word)
taken_some kind key None = refl
taken_some kind key (Some word) = taken kind key word

-- the line after the front
line_behind : (front : List (List ℕ)) (line : List ℕ) (rest : List (List ℕ)) → slice_get (front ++ line ∷ rest) (length front) ≡ Some line
line_behind [] line rest = refl
line_behind (x ∷ xs) line rest = line_behind xs line rest

-- the first that passes, with one element more
find_more : (p : List ℕ → Bool) (xs : List (List ℕ)) (y : List ℕ) → find p (xs ++ y ∷ []) ≡ option_or (find p xs) (cond (p y) (Some y) None)
find_more p [] y = refl
find_more p (x ∷ xs) y = elim (p x) as (λ b. cond b (Some x) (find p (xs ++ y ∷ [])) ≡ option_or (cond b (Some x) (find p xs)) (cond (p y) (Some y) None)) [
  | true ↦ refl
  | false ↦ find_more p xs y
]

or_none : (o : Option (List ℕ)) → option_or o None ≡ o
or_none None = refl
or_none (Some x) = refl

none_or : (o p : Option (List ℕ)) → is_some o ≡ false → option_or o p ≡ p
none_or None p e = refl
none_or (Some x) p e = cc

-- found once, found in a longer range
first_found : {A : Type 0} (f : ℕ → Option A) (n k : ℕ) (a : A) → first_below f n ≡ None → f n ≡ Some a → n < k → first_below f k ≡ Some a
first_found f n zero a none here h = absurd (omega arith)
first_found f n (suc k) a none here h = elim (nat_eq n k) as (λ b. nat_eq n k ≡ b → option_or (first_below f k) (f k) ≡ Some a) [
  | true ↦ λ e. (let same = eqb-true n k e in ap (λ (m : ℕ). option_or (first_below f m) (f m)) (sym same) ∙ ap (λ o. option_or o (f n)) none ∙ here)
  | false ↦ λ e. (let other = eqb-false n k e in ap (λ o. option_or o (f k)) (first_found f n k a none here (omega (arith, other))))
] refl

-- what is kept of the lines in front of line n
pub record IsSeen (kind : HeightKind) (lines front : List (List ℕ)) (n : ℕ) (seen : Seen) : Type 0 where
  pub long : length seen ≡ 15
  pub there : (key : Key) → any_below (λ m. is_some_key key (key_on lines m)) n ≡ is_some (at key seen)
  pub found : (key : Key) → is_some (find (has key) front) ≡ is_some (at key seen)
  pub value : (key : Key) → at key seen ≡ option_and_then (value_read kind key) (option_and_then line_value (find (has key) front))

pub start : (kind : HeightKind) (lines : List (List ℕ)) → IsSeen kind lines [] 1 nothing
start kind lines =
    let none : (key : Key) → at key nothing ≡ None = λ key. get_or-replicate 15 (key_order key) None None (place_below key) in
    record {
      long = refl;
      there = λ key. sym (ap is_some (none key));
      found = λ key. sym (ap is_some (none key));
      value = λ key. none key;
    }

-- line n, and what it does
module _ (kind : HeightKind) (lines front rest : List (List ℕ)) (line : List ℕ) (n : ℕ) (seen : Seen) (is : lines ≡ front ++ line ∷ rest) (count : n ≡ suc (length front)) (s : IsSeen kind lines front n seen) where
  here : line_at lines n ≡ Some line
  here = ap (λ (m : ℕ). line_at lines m) count ∙ ap (λ ls. slice_get ls (length front)) is ∙ line_behind front line rest

  key_here : key_on lines n ≡ line_key line
  key_here = ap (option_and_then line_key) here

  keyless : line_key line ≡ None → IsSeen kind lines (front ++ line ∷ []) (suc n) seen
  keyless none = record {
    long = s.long;
    there = λ key. ap (λ o. is_some_key key o || any_below (λ m. is_some_key key (key_on lines m)) n) (key_here ∙ none) ∙ s.there key;
    found = λ key. ap is_some (same key) ∙ s.found key;
    value = λ key. s.value key ∙ ap (λ o. option_and_then (value_read kind key) (option_and_then line_value o)) (sym (same key));
  }
    where
      same : (key : Key) → find (has key) (front ++ line ∷ []) ≡ find (has key) front
      same key = find_more (has key) front line ∙ ap (λ o. option_or (find (has key) front) (cond (is_some_key key o) (Some line) None)) none ∙ or_none _

  keyed : (k : Key) (x : Value) → line_key line ≡ Some k → is_some (at k seen) ≡ false → option_and_then (value_read kind k) (line_value line) ≡ Some x → IsSeen kind lines (front ++ line ∷ []) (suc n) (slice_set seen (key_order k) (Some x))
  keyed k x key_is new read = record {
    long = length-set seen (key_order k) (Some x) ∙ s.long;
    there = λ key. (each key).0;
    found = λ key. (each key).1;
    value = λ key. (each key).2;
  }
    where
      next : Seen
      next = slice_set seen (key_order k) (Some x)

      more : (key : Key) → find (has key) (front ++ line ∷ []) ≡ option_or (find (has key) front) (cond (nat_eq (key_order key) (key_order k)) (Some line) None)
      more key = find_more (has key) front line ∙ ap (λ o. option_or (find (has key) front) (cond (is_some_key key o) (Some line) None)) key_is

      each : (key : Key) → (any_below (λ m. is_some_key key (key_on lines m)) (suc n) ≡ is_some (get_or (slice_set seen (key_order k) (Some x)) (key_order key) None))
          × (is_some (find (has key) (front ++ line ∷ [])) ≡ is_some (get_or (slice_set seen (key_order k) (Some x)) (key_order key) None))
          × (get_or (slice_set seen (key_order k) (Some x)) (key_order key) None ≡ option_and_then (value_read kind key) (option_and_then line_value (find (has key) (front ++ line ∷ []))))
      each key = elim (nat_eq (key_order key) (key_order k)) as (λ b. nat_eq (key_order key) (key_order k) ≡ b → (any_below (λ m. is_some_key key (key_on lines m)) (suc n) ≡ is_some (get_or (slice_set seen (key_order k) (Some x)) (key_order key) None))
          × (is_some (find (has key) (front ++ line ∷ [])) ≡ is_some (get_or (slice_set seen (key_order k) (Some x)) (key_order key) None))
          × (get_or (slice_set seen (key_order k) (Some x)) (key_order key) None ≡ option_and_then (value_read kind key) (option_and_then line_value (find (has key) (front ++ line ∷ []))))) [
            | true ↦ λ e. (
                let place = eqb-true (key_order key) (key_order k) e in
                let keys = is_some_key-true key (Some k) e in
                let same : k ≡ key = cc in
                let inside : key_order k < length seen = omega (arith, place_below k, s.long) in
                let here_key = ap (λ (i : ℕ). get_or (slice_set seen (key_order k) (Some x)) i None) place ∙ get_or-set_same seen (key_order k) (Some x) None inside in
                let before = s.found key ∙ ap (λ (i : ℕ). is_some (get_or seen i None)) place ∙ new in
                let found_here = more key ∙ ap (λ b. option_or (find (has key) front) (cond b (Some line) None)) e ∙ none_or (find (has key) front) (Some line) before in (
                  ap (λ o. is_some_key key o || any_below (λ m. is_some_key key (key_on lines m)) n) (key_here ∙ key_is) ∙ ap (λ b. b || any_below (λ m. is_some_key key (key_on lines m)) n) e ∙ sym (ap is_some here_key),
                  ap is_some found_here ∙ sym (ap is_some here_key),
                  here_key ∙ sym read ∙ ap (λ (kk : Key). option_and_then (value_read kind kk) (line_value line)) same ∙ ap (λ o. option_and_then (value_read kind key) (option_and_then line_value o)) (sym found_here),
                ))
            | false ↦ λ e. (
                let other = eqb-false (key_order key) (key_order k) e in
                let same_at = get_or-set_other seen (key_order k) (key_order key) (Some x) None other in
                let found_same = more key ∙ ap (λ b. option_or (find (has key) front) (cond b (Some line) None)) e ∙ or_none (find (has key) front) in (
                  ap (λ o. is_some_key key o || any_below (λ m. is_some_key key (key_on lines m)) n) (key_here ∙ key_is) ∙ ap (λ b. b || any_below (λ m. is_some_key key (key_on lines m)) n) e ∙ s.there key ∙ ap is_some (sym same_at),
                  ap is_some found_same ∙ s.found key ∙ ap is_some (sym same_at),
                  same_at ∙ s.value key ∙ ap (λ o. option_and_then (value_read kind key) (option_and_then line_value o)) (sym found_same),
                ))
          ] refl

  -- what line n's keyword and value decide
  abbrev judge : Option Key → Option (List ℕ) → Option HeaderFault
  judge o word = cond (is_repeated lines n o) (Some (RepeatedKey n)) (cond (is_bad kind o word) (Some (BadValue n)) None)

  judged : (o : Option Key) → line_key line ≡ o → line_fault kind lines n ≡ judge o (line_value line)
  judged o e = ap (λ k. judge k (option_and_then line_value (line_at lines n))) (key_here ∙ e) ∙ ap (λ w. judge o (option_and_then line_value w)) here

  repeated : (k : Key) → line_key line ≡ Some k → is_some (at k seen) ≡ true → line_fault kind lines n ≡ Some (RepeatedKey n)
  repeated k key_is old = judged (Some k) key_is ∙ ap (λ b. cond b (Some (RepeatedKey n)) (cond (is_bad kind (Some k) (line_value line)) (Some (BadValue n)) None)) (s.there k ∙ old)

  bad : (k : Key) → line_key line ≡ Some k → is_some (at k seen) ≡ false → option_and_then (value_read kind k) (line_value line) ≡ None → line_fault kind lines n ≡ Some (BadValue n)
  bad k key_is new none =
      judged (Some k) key_is
      ∙ ap (λ b. cond b (Some (RepeatedKey n)) (cond (is_bad kind (Some k) (line_value line)) (Some (BadValue n)) None)) (s.there k ∙ new)
      ∙ ap (λ b. cond (not b) (Some (BadValue n)) None) (taken_some kind k (line_value line) ∙ ap is_some none)

  sound_keyless : line_key line ≡ None → line_fault kind lines n ≡ None
  sound_keyless none = judged None none

  sound_keyed : (k : Key) (x : Value) → line_key line ≡ Some k → is_some (at k seen) ≡ false → option_and_then (value_read kind k) (line_value line) ≡ Some x → line_fault kind lines n ≡ None
  sound_keyed k x key_is new read =
      judged (Some k) key_is
      ∙ ap (λ b. cond b (Some (RepeatedKey n)) (cond (is_bad kind (Some k) (line_value line)) (Some (BadValue n)) None)) (s.there k ∙ new)
      ∙ ap (λ b. cond (not b) (Some (BadValue n)) None) (taken_some kind k (line_value line) ∙ ap is_some read)

-- what the lines give when none is left
abbrev pub Outcome : HeightKind → List (List ℕ) → Result Seen HeaderFault → Type 0
Outcome kind lines (Ok seen) = IsSeen kind lines lines (suc (length lines)) seen × (first_below (line_fault kind lines) (suc (length lines)) ≡ None)
Outcome kind lines (Err fault) = first_below (line_fault kind lines) (suc (length lines)) ≡ Some fault

pub fold : (kind : HeightKind) (lines front rest : List (List ℕ)) (n : ℕ) (seen : Seen) → lines ≡ front ++ rest → n ≡ suc (length front) → IsSeen kind lines front n seen → first_below (line_fault kind lines) n ≡ None → Outcome kind lines (with_lines kind seen n rest)
fold kind lines front [] n seen is count s none =
    let all : front ≡ lines = sym (is ∙ append-nil front) in
    let last : n ≡ suc (length lines) = count ∙ ap (λ (ls : List (List ℕ)). suc (length ls)) all in
    (rw (all, last) at s, rw last at none)
fold kind lines front (line ∷ rest) n seen is count s none =
    let inside : n < suc (length lines) = omega (arith, ap (λ (ls : List (List ℕ)). length ls) is, length-append front (line ∷ rest), count) in
    let plus : suc n ≡ n + 1 = omega arith in
    let go = λ (next : Seen) (s' : IsSeen kind lines (front ++ line ∷ []) (suc n) next) (fine : line_fault kind lines n ≡ None). (
    let none' : first_below (line_fault kind lines) (suc n) ≡ None = ap (λ o. option_or o (line_fault kind lines n)) none ∙ fine in
    fold kind lines (front ++ line ∷ []) rest (n + 1) next (is ∙ sym (append_assoc front (line ∷ []) rest)) (omega (arith, length-append front (line ∷ []))) (rw plus at s') (ap (first_below (line_fault kind lines)) (sym plus) ∙ none')) in
    elim (line_key line) as (λ o. line_key line ≡ o → Outcome kind lines (follow (with_key kind seen n o (line_value line)) (λ next. with_lines kind next (n + 1) rest))) [
      | None ↦ λ e. go seen (keyless kind lines front rest line n seen is count s e) (sound_keyless kind lines front rest line n seen is count s e)
      | Some k ↦ λ e. elim (is_some (at k seen)) as (λ b. is_some (at k seen) ≡ b → Outcome kind lines (follow (cond b (Err (RepeatedKey n)) (with_value seen n k (option_and_then (value_read kind k) (line_value line)))) (λ next. with_lines kind next (n + 1) rest))) [
        | true ↦ λ old. first_found (line_fault kind lines) n (suc (length lines)) (RepeatedKey n) none (repeated kind lines front rest line n seen is count s k e old) inside
        | false ↦ λ new. elim (option_and_then (value_read kind k) (line_value line)) as (λ o. option_and_then (value_read kind k) (line_value line) ≡ o → Outcome kind lines (follow (with_value seen n k o) (λ next. with_lines kind next (n + 1) rest))) [
          | None ↦ λ no. first_found (line_fault kind lines) n (suc (length lines)) (BadValue n) none (bad kind lines front rest line n seen is count s k e new no) inside
          | Some x ↦ λ read. go (slice_set seen (key_order k) (Some x)) (keyed kind lines front rest line n seen is count s k x e new read) (sound_keyed kind lines front rest line n seen is count s k x e new read)
        ] refl
      ] refl
    ] refl

-- so a text's lines give the first fault of a line, or the values that its keywords have
pub lines_read : (kind : HeightKind) (lines : List (List ℕ)) → Outcome kind lines (with_lines kind nothing 1 lines)
lines_read kind lines = fold kind lines [] lines 1 nothing refl refl (start kind lines) refl
