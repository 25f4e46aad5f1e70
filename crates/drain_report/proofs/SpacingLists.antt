-- The list of spacings stands in a text where a spacing is listed, and nowhere else.
use Rattle.drain_report.proofs.Names.{◌≡◌, ◌↔◌, true, false, ℕ, ◌<◌, ◌^◌, ◌⊎◌, inl, inr, ℤ, pos, List, [], ◌∷◌, ◌++◌, length, get_or, append_assoc, refl, sym, ap, ◌∙◌, arith, Option, Some, None, IfSome, IsSome, MatchOption, is_some, codes, false≢true, HeightKind, Whole, Single, Distances, IsDistance, IsSpacing, all_text, list_text, spacings_text, kind_end, spacing_line, spacing_numbers, spacing_text, AreLong, AreNumbersThen, spaced}
use Rattle.std.proofs.Common.{slice_index_or}
use Rattle.drain_report.proofs.FactLemmas.{narrow_long}
use Rattle.drain_report.proofs.ListLemmas.{exact_from}

-- its numbers are of 32 bits
distance_small : (n : ℕ) → IsDistance n → n < 2 ^ 32
distance_small n is = let most = is.most in omega (arith, most)

pub width_small : (s : Distances) → IsSpacing s → s.width < 2 ^ 32
width_small s is = distance_small s.width is.width

pub height_small : (s : Distances) → IsSpacing s → s.height < 2 ^ 32
height_small s is = distance_small s.height is.height

pub spacing_long : (s : Distances) → IsSpacing s → AreLong (spacing_numbers s)
spacing_long s is = (narrow_long s.width (width_small s is), (narrow_long s.height (height_small s is), tt))

-- a spacing that is made of two numbers
two : (ns : List ℤ) (a b : ℤ) → length ns ≡ 2 → get_or ns 0 (pos 0) ≡ a → get_or ns 1 (pos 0) ≡ b → ns ≡ a ∷ b ∷ []
two ns a b long p q =
    let all : ns ≡ get_or ns 0 (pos 0) ∷ get_or ns 1 (pos 0) ∷ [] = exact_from 0 2 ns (omega arith) in
    all ∙ rw (p, q) refl

-- the same width and height, for heights of this kind
abbrev pub for_kind : HeightKind → Distances → Distances
for_kind kind s = record { width = s.width; height = s.height; kind = kind }

-- the numbers are those of a spacing that is made of them
pub made_of : (ns : List ℤ) (w h : ℕ) (made s : Distances) (kind : HeightKind) → length ns ≡ 2 → get_or ns 0 (pos 0) ≡ pos w → get_or ns 1 (pos 0) ≡ pos h →
    made ≡ record { width = w; height = h; kind = Whole } → s ≡ for_kind kind made → spacing_text ns kind ≡ spacing_line s
made_of ns w h made s kind long p q value is =
    ap (λ (ms : List ℤ). spacing_text ms kind) (two ns (pos w) (pos h) long p q) ∙ ap spacing_line (sym (is ∙ ap (for_kind kind) value))

-- none is made only of numbers that aren't a spacing's
pub none_made : (made : Option Distances) (w h : ℕ) (s : Distances) → made ≡ None → w ≡ s.width → h ≡ s.height →
    IsSome made ↔ IsSpacing (record { width = w; height = h; kind = Whole }) → IsSpacing s → ⊥
none_made made w h s none p q valid fit =
    let numbers : IsSpacing (record { width = w; height = h; kind = Whole }) = rw (p, q) (record { width = fit.width; height = fit.height }) in
    false≢true (rw none at (valid.1 numbers))

-- the same numbers and the same kind are the same spacing
pub same_made : (w h : ℕ) (made x s : Distances) (kind : HeightKind) → made ≡ record { width = w; height = h; kind = Whole } → x ≡ for_kind kind made →
    w ≡ s.width → h ≡ s.height → kind ≡ s.kind → Some x ≡ Some s
same_made w h made x s kind value is p q r =
    let same : record { width = w; height = h; kind = kind } ≡ s = λ i. record { width = p i; height = q i; kind = r i } in
    ap (λ (y : Distances). Some y) (is ∙ ap (for_kind kind) value ∙ same)

-- The parts of a spacing's line.

pub spacing_split : (ns : List ℤ) (kind : HeightKind) (rest : List ℕ) → spacing_text ns kind ++ rest ≡ codes "spacing" ++ (spaced ns ++ (kind_end kind ++ rest))
spacing_split ns kind rest =
    append_assoc (codes "spacing") (spaced ns ++ kind_end kind) rest ∙ ap (λ t. codes "spacing" ++ t) (append_assoc (spaced ns) (kind_end kind) rest)

-- the byte with which its end begins, and what follows it
abbrev pub end_first : HeightKind → ℕ
end_first Whole = 10
end_first Single = 32

abbrev pub end_then : HeightKind → List ℕ
end_then Whole = []
end_then Single = codes "single\n"

pub end_begins : (kind : HeightKind) (rest : List ℕ) → kind_end kind ++ rest ≡ end_first kind ∷ (end_then kind ++ rest)
end_begins Whole rest = refl
end_begins Single rest = refl

pub end_ends : (kind : HeightKind) → (end_first kind ≡ 32) ⊎ (end_first kind ≡ 10)
end_ends Whole = inr refl
end_ends Single = inl refl

-- the numbers before its end
pub numbers_then : (s : Distances) (text rest : List ℕ) → IsSpacing s → text ≡ spaced (spacing_numbers s) ++ (kind_end s.kind ++ rest) →
    AreNumbersThen text (spacing_numbers s) (end_first s.kind) (end_then s.kind ++ rest)
numbers_then s text rest fit is = record {
  long = spacing_long s fit;
  ends = end_ends s.kind;
  is = is ∙ ap (λ t. spaced (spacing_numbers s) ++ t) (end_begins s.kind rest);
}

-- what follows the word of the list
abbrev behind_word : Distances → List Distances → List ℕ → List ℕ
behind_word s ss rest = (spaced (pos (length (s ∷ ss)) ∷ []) ++ 10 ∷ []) ++ (all_text spacing_line (s ∷ ss) ++ rest)

word_first : (s : Distances) (ss : List Distances) (rest : List ℕ) → spacings_text (s ∷ ss) ++ rest ≡ codes "spacings" ++ behind_word s ss rest
word_first s ss rest =
    let counted = spaced (pos (length (s ∷ ss)) ∷ []) ++ 10 ∷ [] in
    append_assoc (codes "spacings" ++ counted) (all_text spacing_line (s ∷ ss)) rest
    ∙ append_assoc (codes "spacings") counted (all_text spacing_line (s ∷ ss) ++ rest)

-- where the word isn't, none is listed
pub none_listed : (xs : List Distances) (text rest : List ℕ) → text ≡ spacings_text xs ++ rest → ((r : List ℕ) → text ≡ codes "spacings" ++ r → ⊥) → xs ≡ []
none_listed [] text rest is none = refl
none_listed (s ∷ ss) text rest is none = absurd (none (behind_word s ss rest) (is ∙ word_first s ss rest))

-- a text that begins with the list of tiles has no such word
pub not_both_lists : (text a b : List ℕ) → text ≡ codes "tiles" ++ a → text ≡ codes "spacings" ++ b → ⊥
not_both_lists text a b p q = let e : 116 ≡ 115 = ap (λ l. slice_index_or l 0 0) (sym p ∙ q) in absurd (omega (arith, e))

-- where the word is, the list has a line or more
pub some_listed : (xs : List Distances) (text r a : List ℕ) → text ≡ codes "spacings" ++ r → text ≡ spacings_text xs ++ (codes "tiles" ++ a) → 0 < length xs
some_listed [] text r a word is = absurd (not_both_lists text a r is word)
some_listed (s ∷ ss) text r a word is = omega arith

-- with a line or more the text is that of the list
pub listed_text : (xs : List Distances) → 0 < length xs → spacings_text xs ≡ list_text (codes "spacings") spacing_line xs
listed_text [] some = absurd (omega arith)
listed_text (s ∷ ss) some = refl

-- a text that isn't found to begin with a word doesn't, and one that is found to does
pub word_missing : {X : Type 0} (P : X → Type 0) (o : Option X) → MatchOption o ⊥ P → is_some o ≡ false → ⊥
word_missing P None h is = h
word_missing P (Some x) h is = false≢true (sym is)

pub word_found : {X : Type 0} (P : X → Type 0) (o : Option X) → IfSome o P → is_some o ≡ true → (x : X) × P x
word_found P None h is = absurd (false≢true is)
word_found P (Some x) h is = (x, h)
