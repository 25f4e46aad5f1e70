-- The numbers of a text between its commas: the first and those behind it, or the one of the whole text.
--
-- A split begins with what stands before the first comma. A number has digits alone, so no comma is in it.
use Rattle.drain_args.proofs.Names.{◌≡◌, ◌≢◌, ℕ, ◌&&◌, true, false, List, [], ◌∷◌, length, map, Option, Some, None, MatchOption, arith, refl, sym, ap, ◌∙◌, Bor, nat_lt, nat_le, if◌then◌else◌, digits_value, is_ascii_digit, slice_split, onto_first, list_all, position_or_len, after_first, join_with_byte, IsSplitOnceResult, split_once_first, whole_number, both, is_comma, numbers_of}
use Rattle.std.proofs.lemmas.List.Elements.{All-from_get_or}
use Rattle.std.proofs.lemmas.List.Splits.{slice_split_none, slice_split_first, slice_split-cons_no, join_with_byte-slice_split}
use Rattle.std.proofs.lemmas.List.Sums.{fails_before_first}
use Rattle.std.proofs.lemmas.Bool.Decides.{nat_tests}

-- a text without a comma is one part
alone : (text : List ℕ) → position_or_len is_comma text ≡ length text → numbers_of text ≡ whole_number text ∷ []
alone text none =
    ap (map whole_number) (slice_split_none is_comma text (All-from_get_or (λ byte. is_comma byte ≡ false) text 0 (λ k less. fails_before_first is_comma text k 0 (omega (arith, none, less)))))

-- the numbers of a text, by its first comma
pub numbers_at_comma : (text : List ℕ) (r : Option (Bor (List ℕ) × Bor (List ℕ))) → IsSplitOnceResult 44 text r
    → MatchOption r (numbers_of text ≡ whole_number text ∷ []) (λ x. numbers_of text ≡ whole_number x.0.now ∷ numbers_of x.1.now)
numbers_at_comma text None h = alone text (split_once_first 44 text None h (omega arith))
numbers_at_comma text (Some x) h =
    let parts = split_once_first 44 text (Some x) h (omega arith) in
    ap (map whole_number) (slice_split_first is_comma text 0 parts.0)
    ∙ ap (λ before. whole_number before ∷ numbers_of (after_first is_comma text)) (sym parts.1)
    ∙ ap (λ after. whole_number x.0.now ∷ numbers_of after) (sym parts.2)

-- one number isn't two
pub not_two : (ns : List (Option ℕ)) (a : Option ℕ) → ns ≡ a ∷ [] → (n : ℕ) (m : Option ℕ) (more : List (Option ℕ)) → ns ≢ Some n ∷ (m ∷ more)
not_two ns a is n m more e = cc

-- the first is no number
pub not_first : (ns rest : List (Option ℕ)) (a : Option ℕ) → ns ≡ a ∷ rest → a ≡ None → (n : ℕ) (more : List (Option ℕ)) → ns ≢ Some n ∷ more
not_first ns rest a is none n more e = cc

-- digits are no comma
digits_alone : (text : List ℕ) → list_all is_ascii_digit text ≡ true → slice_split is_comma text ≡ text ∷ []
digits_alone [] e = refl
digits_alone (x ∷ xs) e =
    let digits = both (is_ascii_digit x) (list_all is_ascii_digit xs) e in
    let digit : is_ascii_digit x ≡ true = digits.0 in
    let other : is_comma x ≡ false = grind (arith, nat_tests) in
    slice_split-cons_no is_comma x xs other ∙ ap (onto_first x) (digits_alone xs digits.1)

-- a number has digits alone
all_digits : (text : List ℕ) (n : ℕ) → whole_number text ≡ Some n → list_all is_ascii_digit text ≡ true
all_digits text n is = elim (list_all is_ascii_digit text) as (λ b. (if nat_lt 0 (length text) && (b && nat_le (digits_value 10 text) 4294967295) then Some (digits_value 10 text) else None) ≡ Some n → b ≡ true) [
  | true ↦ λ e. refl
  | false ↦ λ e. elim (nat_lt 0 (length text)) as (λ b. (if b && false then Some (digits_value 10 text) else None) ≡ Some n → false ≡ true) [ true ↦ λ f. cc | false ↦ λ f. cc ] e
] is

-- a number is the one of its text
number_alone : (text : List ℕ) (n : ℕ) → whole_number text ≡ Some n → numbers_of text ≡ Some n ∷ []
number_alone text n is = ap (map whole_number) (digits_alone text (all_digits text n is)) ∙ ap (λ number. number ∷ []) is

-- one part is the whole text
one_part : (parts : List (List ℕ)) (n : ℕ) → map whole_number parts ≡ Some n ∷ [] → whole_number (join_with_byte 44 parts) ≡ Some n
one_part [] n e = cc
one_part (a ∷ []) n e = cc
one_part (a ∷ (b ∷ more)) n e = cc

-- a text that is no number isn't one alone
no_number : (text : List ℕ) → whole_number text ≡ None → (n : ℕ) → numbers_of text ≢ Some n ∷ []
no_number text none n e =
    let is : whole_number text ≡ Some n = ap whole_number (sym (join_with_byte-slice_split 44 text)) ∙ one_part (slice_split is_comma text) n e in
    cc

-- the number of a whole text
pub number_of_all : (text : List ℕ) (r : Option ℕ) → whole_number text ≡ r → MatchOption r ((n : ℕ) → numbers_of text ≢ Some n ∷ []) (λ n. numbers_of text ≡ Some n ∷ [])
number_of_all text None none = no_number text none
number_of_all text (Some n) is = number_alone text n is
