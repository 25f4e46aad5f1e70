-- The first part of a text that is split, and so its first line and its first word.
--
-- `parts` describes a split from the front: the elements before the first that passes, and the parts of what follows
-- it. It falls by recursion along the text. Lines and words both follow from it.
use Rattle.drain_text.proofs.Names.{◌≡◌, ℕ, ◌+◌, ◌<◌, Bool, true, false, List, [], ◌∷◌, length, take, drop, get_or, arith, refl, sym, ap, ◌∙◌, cond, filter, map, nat_lt, ◌==◌, slice_split, onto_first, prefix_len, lt-ltb, drop_more, drop_all, take_all, nil_from_length, length-take, prefix_len-le-length, strip_carriage_return, lines_of, words_of, is_blank, is_inked}
use Rattle.std.specs.Prelude.{not}
use native.Mathlib.Numerals.{one-add}

-- the parts that follow the first, where this is the text from the end of the first part on
abbrev pub later_parts : {X : Type 0} → (X → Bool) → List X → List (List X)
later_parts p [] = []
later_parts p (x ∷ xs) = slice_split p xs

-- how many elements come before the first that passes
abbrev pub first_length : {X : Type 0} → (X → Bool) → List X → ℕ
first_length p xs = prefix_len (λ x. not (p x)) xs

pub parts : {X : Type 0} (p : X → Bool) (xs : List X) → slice_split p xs ≡ take (first_length p xs) xs ∷ later_parts p (drop (first_length p xs) xs)
parts p [] = refl
parts {X} p (x ∷ xs) = elim (p x) as (λ b. cond b ([] ∷ slice_split p xs) (onto_first x (slice_split p xs)) ≡ take (cond (not b) (1 + first_length p xs) 0) (x ∷ xs) ∷ later_parts p (drop (cond (not b) (1 + first_length p xs) 0) (x ∷ xs))) [
  | true ↦ refl
  | false ↦ ap (onto_first x) (parts p xs) ∙ ap (λ (n : ℕ). take n (x ∷ xs) ∷ later_parts p (drop n (x ∷ xs))) (sym (one-add (first_length p xs)))
]

abbrev has_letters : List ℕ → Bool
has_letters word = nat_lt 0 (length word)

-- the words of a line without its leading blanks
pub words_skip : (line : List ℕ) → words_of (drop (prefix_len is_blank line) line) ≡ words_of line
words_skip [] = refl
words_skip (x ∷ xs) = elim (is_blank x) as (λ b. is_blank x ≡ b → words_of (drop (cond b (1 + prefix_len is_blank xs) 0) (x ∷ xs)) ≡ words_of (x ∷ xs)) [
  | true ↦ λ e. (
      ap (λ (n : ℕ). words_of (drop n (x ∷ xs))) (one-add (prefix_len is_blank xs))
      ∙ words_skip xs
      ∙ ap (λ b. filter has_letters (cond b ([] ∷ slice_split is_blank xs) (onto_first x (slice_split is_blank xs)))) (sym e))
  | false ↦ λ e. refl
] refl

-- from the end of the first word on, the words are those of the later parts
words_after : (line : List ℕ) → words_of (drop (prefix_len is_inked line) line) ≡ filter has_letters (later_parts is_blank (drop (prefix_len is_inked line) line))
words_after [] = refl
words_after (x ∷ xs) = elim (is_blank x) as (λ b. is_blank x ≡ b → words_of (drop (cond (not b) (1 + prefix_len is_inked xs) 0) (x ∷ xs)) ≡ filter has_letters (later_parts is_blank (drop (cond (not b) (1 + prefix_len is_inked xs) 0) (x ∷ xs)))) [
  | true ↦ λ e. ap (λ b. filter has_letters (cond b ([] ∷ slice_split is_blank xs) (onto_first x (slice_split is_blank xs)))) e
  | false ↦ λ e. rw one-add (words_after xs)
] refl

-- a line that begins with a word
pub words_first : (line : List ℕ) → 0 < length (take (prefix_len is_inked line) line) → words_of line ≡ take (prefix_len is_inked line) line ∷ words_of (drop (prefix_len is_inked line) line)
words_first line some =
    ap (filter has_letters) (parts is_blank line)
    ∙ ap (λ b. cond b (take (prefix_len is_inked line) line ∷ filter has_letters (later_parts is_blank (drop (prefix_len is_inked line) line))) (filter has_letters (later_parts is_blank (drop (prefix_len is_inked line) line)))) (lt-ltb _ _ some)
    ∙ ap (λ ws. take (prefix_len is_inked line) line ∷ ws) (sym (words_after line))

-- what is left without the leading blanks is empty or begins with a word
pub word_starts : (line : List ℕ) → 0 < length (drop (prefix_len is_blank line) line) → 0 < prefix_len is_inked (drop (prefix_len is_blank line) line)
word_starts [] some = absurd (omega arith)
word_starts (x ∷ xs) some = elim (is_blank x) as (λ b. is_blank x ≡ b → 0 < length (drop (cond b (1 + prefix_len is_blank xs) 0) (x ∷ xs)) → 0 < prefix_len is_inked (drop (cond b (1 + prefix_len is_blank xs) 0) (x ∷ xs))) [
  | true ↦ λ e. rw one-add (word_starts xs)
  | false ↦ λ e _. rw e (omega arith)
] refl some

-- a line's first word follows its leading blanks
pub words_of_rest : (line rest : List ℕ) → rest ≡ drop (prefix_len is_blank line) line → 0 < length rest → words_of line ≡ take (prefix_len is_inked rest) rest ∷ words_of (drop (prefix_len is_inked rest) rest)
words_of_rest line rest is some =
    let ink : 0 < prefix_len is_inked rest = rw is (word_starts line (rw is at some)) in
    let long = prefix_len-le-length is_inked rest in
    sym (words_skip line) ∙ ap words_of (sym is) ∙ words_first rest (omega (arith, length-take (prefix_len is_inked rest) rest))

-- a line of blanks has no word
pub no_words : (line rest : List ℕ) → rest ≡ drop (prefix_len is_blank line) line → length rest ≡ 0 → words_of line ≡ []
no_words line rest is none = sym (words_skip line) ∙ ap words_of (sym is ∙ nil_from_length rest none)

-- a text whose first line feed is at a place
pub line_ends : (text : List ℕ) (at : ℕ) → at < length text → first_length (λ b. b == 10) text ≡ at → lines_of text ≡ strip_carriage_return (take at text) ∷ lines_of (drop (at + 1) text)
line_ends text at inside is =
    let more : drop at text ≡ get_or text at 0 ∷ drop (at + 1) text = drop_more text at 0 inside in
    ap (map strip_carriage_return) (parts (λ b. b == 10) text)
    ∙ ap (λ (n : ℕ). strip_carriage_return (take n text) ∷ map strip_carriage_return (later_parts (λ b. b == 10) (drop n text))) is
    ∙ ap (λ ys. strip_carriage_return (take at text) ∷ map strip_carriage_return (later_parts (λ b. b == 10) ys)) more

-- a text without a line feed is one line
pub line_alone : (text : List ℕ) → first_length (λ b. b == 10) text ≡ length text → lines_of text ≡ strip_carriage_return text ∷ []
line_alone text is =
    ap (map strip_carriage_return) (parts (λ b. b == 10) text)
    ∙ ap (λ (n : ℕ). strip_carriage_return (take n text) ∷ map strip_carriage_return (later_parts (λ b. b == 10) (drop n text))) is
    ∙ ap (λ ys. strip_carriage_return ys ∷ map strip_carriage_return (later_parts (λ b. b == 10) (drop (length text) text))) (take_all (length text) text (omega arith))
    ∙ ap (λ ys. strip_carriage_return text ∷ map strip_carriage_return (later_parts (λ b. b == 10) ys)) (drop_all (length text) text (omega arith))

-- tests turned round
pub not_true : (b : Bool) → (b ≡ true → ⊥) → not b ≡ true
not_true b = elim b as (λ v. (v ≡ true → ⊥) → not v ≡ true) [ true ↦ λ no. absurd (no refl) | false ↦ λ no. refl ]

pub not_false : (b : Bool) → b ≡ true → not b ≡ false
not_false b is = ap not is
