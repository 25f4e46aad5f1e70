-- Facts that are read one after another, a line each, and facts that are appended.
use Rattle.drain_report.proofs.Names.{◌≡◌, ◌∷◌, ◌++◌, ℕ, Bool, true, false, List, [], length, take, drop, refl, ap, subst, ◌∙◌, append_assoc, ◌<◌, ◌+◌, zero, suc, ℤ, pos, get_or, arith, sym, to_z, of_z, length-append, append-nil, Option, Result, Ok, Err, codes, Corner, IsOnMap, MeansName, name_of, spelled, tile_line, count_line, height_word, seam_text, drop_more, drop_all, take_more, w64, to_z-of_z, IsLong, AreLong, spaced, all_text, list_text, AllAre}
use Rattle.drain_hgt.specs.declared.name.NameFault.{NameFault}
use Rattle.drain_hgt.specs.Laws.{NameReadsBack, OneName}
use Rattle.drain_report.proofs.NumberLemmas.{front}
use Rattle.drain_report.proofs.ReadLemmas.{long_at}

-- A tile's name at the front of a text.

spelled_long : (south : Bool) (lat : ℕ) (west : Bool) (lon : ℕ) → length (spelled south lat west lon) ≡ 11
spelled_long true lat true lon = refl
spelled_long true lat false lon = refl
spelled_long false lat true lon = refl
spelled_long false lat false lon = refl

name_long : (c : Corner) → length (name_of c) ≡ 11
name_long c = spelled_long _ _ _ _

pub name_front : (text rest : List ℕ) (c : Corner) → text ≡ name_of c ++ rest → (take 11 text ≡ name_of c) × (drop 11 text ≡ rest)
name_front text rest c is =
    rw is (subst (λ n. (take n (name_of c ++ rest) ≡ name_of c) × (drop n (name_of c ++ rest) ≡ rest)) (name_long c) (front (name_of c) rest))

-- a tile's name is read as this tile
pub name_is_read : (bytes : List ℕ) (found : Result Corner NameFault) (c : Corner) → NameReadsBack → OneName → IsOnMap c → MeansName bytes found → bytes ≡ name_of c → found ≡ Ok c
name_is_read bytes found c reads one on_map means is = one bytes found (Ok c) means (rw is (reads c on_map))

pub tile_split : (c : Corner) (rest : List ℕ) → tile_line c ++ rest ≡ codes "tile " ++ (name_of c ++ 10 ∷ rest)
tile_split c rest = append_assoc (codes "tile ") (name_of c ++ 10 ∷ []) rest ∙ ap (λ t. codes "tile " ++ t) (append_assoc (name_of c) (10 ∷ []) rest)

pub no_fault : (found : Result Corner NameFault) (c : Corner) (fault : NameFault) → found ≡ Ok c → found ≡ Err fault → ⊥
no_fault found c fault p q = cc

pub one_tile : (found : Result Corner NameFault) (a b : Corner) → found ≡ Ok a → found ≡ Ok b → a ≡ b
one_tile found a b p q = cc

-- The parts of a seam's line.

pub seam_split : (cell : List ℤ) (z : Option ℤ) (others : List ℤ) (rest : List ℕ) → seam_text cell z others ++ rest ≡ codes "seam" ++ (spaced cell ++ 32 ∷ (height_word z ++ (spaced others ++ 10 ∷ rest)))
seam_split cell z others rest =
    append_assoc (codes "seam") (spaced cell ++ 32 ∷ (height_word z ++ (spaced others ++ 10 ∷ []))) rest
    ∙ ap (λ t. codes "seam" ++ t) (append_assoc (spaced cell) (32 ∷ (height_word z ++ (spaced others ++ 10 ∷ []))) rest
    ∙ ap (λ t. spaced cell ++ 32 ∷ t) (append_assoc (height_word z) (spaced others ++ 10 ∷ []) rest
    ∙ ap (λ t. height_word z ++ t) (append_assoc (spaced others) (10 ∷ []) rest)))

-- The numbers of a line, one by one.

-- the numbers from a place on, one by one
abbrev pub listed_from : ℕ → ℕ → List ℤ → List ℤ
listed_from i zero ns = []
listed_from i (suc n) ns = get_or ns i (pos 0) ∷ listed_from (i + 1) n ns

pub exact_from : (i n : ℕ) (ns : List ℤ) → i + n ≡ length ns → drop i ns ≡ listed_from i n ns
exact_from i zero ns e = drop_all i ns (omega arith)
exact_from i (suc n) ns e = drop_more ns i (pos 0) (omega arith) ∙ ap (λ t. get_or ns i (pos 0) ∷ t) (exact_from (i + 1) n ns (omega arith))

pub five_numbers : (ns : List ℤ) (p q r s t : ℤ) → length ns ≡ 5 → get_or ns 0 (pos 0) ≡ p → get_or ns 1 (pos 0) ≡ q → get_or ns 2 (pos 0) ≡ r → get_or ns 3 (pos 0) ≡ s
    → get_or ns 4 (pos 0) ≡ t → ns ≡ p ∷ q ∷ r ∷ s ∷ t ∷ []
five_numbers ns p q r s t long a b c d e =
    let all : ns ≡ get_or ns 0 (pos 0) ∷ get_or ns 1 (pos 0) ∷ get_or ns 2 (pos 0) ∷ get_or ns 3 (pos 0) ∷ get_or ns 4 (pos 0) ∷ [] = exact_from 0 5 ns (omega arith) in
    all ∙ rw (a, b, c, d, e) refl

-- a number that was read from the slice
pub held : (ns : List ℤ) (k : ℕ) (r : ℤ) → AreLong ns → k < length ns → r ≡ get_or ns k (pos 0) → get_or ns k (pos 0) ≡ to_z w64 (of_z w64 r)
held ns k r long less is = sym (rw is (to_z-of_z w64 (get_or ns k (pos 0)) (long_at ns k (pos 0) long less)))

-- a number that is kept in 64 bits
pub kept : (a b : ℤ) → IsLong b → a ≡ b → to_z w64 (of_z w64 a) ≡ b
kept a b long is = rw is (to_z-of_z w64 b long)

pub four_after : (ns : List ℤ) (a b c d : ℤ) → length ns ≡ 8 → get_or ns 4 (pos 0) ≡ a → get_or ns 5 (pos 0) ≡ b → get_or ns 6 (pos 0) ≡ c → get_or ns 7 (pos 0) ≡ d → drop 4 ns ≡ a ∷ b ∷ c ∷ d ∷ []
four_after ns a b c d long p q r s =
    let all : drop 4 ns ≡ get_or ns 4 (pos 0) ∷ get_or ns 5 (pos 0) ∷ get_or ns 6 (pos 0) ∷ get_or ns 7 (pos 0) ∷ [] = exact_from 4 4 ns (omega arith) in
    all ∙ rw (p, q, r, s) refl

pub four_then : (ns : List ℤ) (a b c d : ℤ) (rest : List ℤ) → length ns ≡ 8 → get_or ns 0 (pos 0) ≡ a → get_or ns 1 (pos 0) ≡ b → get_or ns 2 (pos 0) ≡ c → get_or ns 3 (pos 0) ≡ d → drop 4 ns ≡ rest → ns ≡ a ∷ b ∷ c ∷ d ∷ rest
four_then [] a b c d rest long p q r s others = absurd (omega arith)
four_then (v ∷ []) a b c d rest long p q r s others = absurd (omega arith)
four_then (v ∷ (w ∷ [])) a b c d rest long p q r s others = absurd (omega arith)
four_then (v ∷ (w ∷ (x ∷ []))) a b c d rest long p q r s others = absurd (omega arith)
four_then (v ∷ (w ∷ (x ∷ (y ∷ ns)))) a b c d rest long p q r s others = rw (p, q, r, s, others) refl

pub four : (ns : List ℤ) (a b c d : ℤ) → length ns ≡ 4 → get_or ns 0 (pos 0) ≡ a → get_or ns 1 (pos 0) ≡ b → get_or ns 2 (pos 0) ≡ c → get_or ns 3 (pos 0) ≡ d → ns ≡ a ∷ b ∷ c ∷ d ∷ []
four ns a b c d long p q r s =
    let all : ns ≡ get_or ns 0 (pos 0) ∷ get_or ns 1 (pos 0) ∷ get_or ns 2 (pos 0) ∷ get_or ns 3 (pos 0) ∷ [] = exact_from 0 4 ns (omega arith) in
    all ∙ rw (p, q, r, s) refl

pub ten : (ns : List ℤ) (a b c d e f g h i j : ℤ) → length ns ≡ 10 → get_or ns 0 (pos 0) ≡ a → get_or ns 1 (pos 0) ≡ b → get_or ns 2 (pos 0) ≡ c → get_or ns 3 (pos 0) ≡ d → get_or ns 4 (pos 0) ≡ e → get_or ns 5 (pos 0) ≡ f → get_or ns 6 (pos 0) ≡ g → get_or ns 7 (pos 0) ≡ h → get_or ns 8 (pos 0) ≡ i → get_or ns 9 (pos 0) ≡ j
    → ns ≡ a ∷ b ∷ c ∷ d ∷ e ∷ f ∷ g ∷ h ∷ i ∷ j ∷ []
ten ns a b c d e f g h i j long p0 p1 p2 p3 p4 p5 p6 p7 p8 p9 =
    let all : ns ≡ get_or ns 0 (pos 0) ∷ get_or ns 1 (pos 0) ∷ get_or ns 2 (pos 0) ∷ get_or ns 3 (pos 0) ∷ get_or ns 4 (pos 0) ∷ get_or ns 5 (pos 0) ∷ get_or ns 6 (pos 0) ∷ get_or ns 7 (pos 0) ∷ get_or ns 8 (pos 0) ∷ get_or ns 9 (pos 0) ∷ [] = exact_from 0 10 ns (omega arith) in
    all ∙ rw (p0, p1, p2, p3, p4, p5, p6, p7, p8, p9) refl

module _ {X : Type 0} (f : X → List ℕ) where
  pub all-append : (xs ys : List X) → all_text f (xs ++ ys) ≡ all_text f xs ++ all_text f ys
  all-append [] ys = refl
  all-append (x ∷ xs) ys = ap (λ t. f x ++ t) (all-append xs ys) ∙ sym (append_assoc (f x) (all_text f xs) (all_text f ys))

  -- one fact more is read
  pub list_sound : (text was rest : List ℕ) (done : List X) (x : X) → text ≡ all_text f done ++ was → was ≡ f x ++ rest → text ≡ all_text f (done ++ x ∷ []) ++ rest
  list_sound text was rest done x had next =
      had ∙ ap (λ t. all_text f done ++ t) next
      ∙ sym (append_assoc (all_text f done) (f x) rest)
      ∙ ap (λ t. (all_text f done ++ t) ++ rest) (sym (append-nil (f x)))
      ∙ ap (λ t. t ++ rest) (sym (all-append done (x ∷ [])))

  -- one fact more is appended
  pub list_pushed : (xs : List X) (k : ℕ) (d : X) (before was now : List ℕ) → k < length xs → was ≡ before ++ all_text f (take k xs) → now ≡ was ++ f (get_or xs k d) → now ≡ before ++ all_text f (take (k + 1) xs)
  list_pushed xs k d before was now less had is =
      is ∙ ap (λ t. t ++ f (get_or xs k d)) had
      ∙ append_assoc before (all_text f (take k xs)) (f (get_or xs k d))
      ∙ ap (λ t. before ++ (all_text f (take k xs) ++ t)) (sym (append-nil (f (get_or xs k d))))
      ∙ ap (λ t. before ++ t) (sym (all-append (take k xs) (get_or xs k d ∷ [])))
      ∙ ap (λ t. before ++ all_text f t) (sym (take_more xs k d less))

  -- the same of the fact at a place
  pub list_pushed_at : (xs : List X) (k : ℕ) (x : X) (before was now : List ℕ) → k < length xs → x ≡ get_or xs k x → was ≡ before ++ all_text f (take k xs) → now ≡ was ++ f x → now ≡ before ++ all_text f (take (k + 1) xs)
  list_pushed_at xs k x before was now less at had is = list_pushed xs k x before was now less had (is ∙ ap (λ y. was ++ f y) at)

-- what holds of each of them, and of one more
all_then : {X : Type 0} (P : X → Type 0) (xs : List X) (x : X) → AllAre P xs → P x → AllAre P (xs ++ x ∷ [])
all_then P [] x are is = (is, tt)
all_then P (y ∷ ys) x are is = (are.0, all_then P ys x are.1 is)

pub all_more : {X : Type 0} (P : X → Type 0) (xs : List X) (k : ℕ) (x : X) → k < length xs → x ≡ get_or xs k x → AllAre P (take k xs) → P x → AllAre P (take (k + 1) xs)
all_more P xs k x less at are is = rw (take_more xs k x less, ← at) (all_then P (take k xs) x are is)

-- of the facts that a text has, these are read, and the rest has the others
pub record IsToCome {X : Type 0} (f : X → List ℕ) (P : X → Type 0) (xs done : List X) (rest after : List ℕ) : Type 0 where
  pub left : List X
  pub whole : xs ≡ done ++ left
  pub are : AllAre P left
  pub is : rest ≡ all_text f left ++ after

pub all_to_come : {X : Type 0} (f : X → List ℕ) (P : X → Type 0) (xs : List X) (text after : List ℕ) → AllAre P xs → text ≡ all_text f xs ++ after → IsToCome f P xs [] text after
all_to_come f P xs text after are is = record { left = xs; whole = refl; are = are; is = is }

-- the next one of them
pub record IsComing {X : Type 0} (f : X → List ℕ) (P : X → Type 0) (xs done : List X) (rest after : List ℕ) : Type 0 where
  pub x : X
  pub then : List ℕ
  pub is_one : P x
  pub is : rest ≡ f x ++ then
  pub left : IsToCome f P xs (done ++ x ∷ []) then after

coming_of : {X : Type 0} (f : X → List ℕ) (P : X → Type 0) (xs done left : List X) (rest after : List ℕ) → xs ≡ done ++ left → AllAre P left → rest ≡ all_text f left ++ after → length done < length xs → IsComing f P xs done rest after
coming_of f P xs done [] rest after whole are is less = absurd (omega (arith, ap length whole, length-append done []))
coming_of f P xs done (x ∷ left) rest after whole are is less = record {
  x = x;
  then = all_text f left ++ after;
  is_one = are.0;
  is = is ∙ append_assoc (f x) (all_text f left) after;
  left = record { left = left; whole = whole ∙ sym (append_assoc done (x ∷ []) left); are = are.1; is = refl };
}

pub coming : {X : Type 0} (f : X → List ℕ) (P : X → Type 0) (xs done : List X) (rest after : List ℕ) → IsToCome f P xs done rest after → length done < length xs → IsComing f P xs done rest after
coming f P xs done rest after h less = coming_of f P xs done h.left rest after h.whole h.are h.is less

-- none is left
ended_of : {X : Type 0} (f : X → List ℕ) (xs done left : List X) (rest after : List ℕ) → xs ≡ done ++ left → rest ≡ all_text f left ++ after → length done ≡ length xs → (done ≡ xs) × (rest ≡ after)
ended_of f xs done [] rest after whole is same = (sym (whole ∙ append-nil done), is)
ended_of f xs done (x ∷ left) rest after whole is same = absurd (omega (arith, ap length whole, length-append done (x ∷ left)))

pub ended : {X : Type 0} (f : X → List ℕ) (P : X → Type 0) (xs done : List X) (rest after : List ℕ) → IsToCome f P xs done rest after → length done ≡ length xs → (done ≡ xs) × (rest ≡ after)
ended f P xs done rest after h same = ended_of f xs done h.left rest after h.whole h.is same

-- the next fact was read
pub come : {X : Type 0} (f : X → List ℕ) (P : X → Type 0) (xs done : List X) (rest after was : List ℕ) (x : X) (step : IsComing f P xs done was after) → x ≡ step.x → rest ≡ step.then → IsToCome f P xs (done ++ x ∷ []) rest after
come f P xs done rest after was x step same text = rw (text, same) step.left

-- a list that was read after how many there are
pub read_list : {X : Type 0} (f : X → List ℕ) (word text r1 r2 : List ℕ) (n : ℕ) (xs : List X) → text ≡ count_line word n ++ r1 → r1 ≡ all_text f xs ++ r2 → length xs ≡ n → text ≡ list_text word f xs ++ r2
read_list f word text r1 r2 n xs p q long =
    p ∙ ap (λ (m : ℕ). count_line word m ++ r1) (sym long) ∙ ap (λ u. count_line word (length xs) ++ u) q ∙ sym (append_assoc (count_line word (length xs)) (all_text f xs) r2)

pub list_split : {X : Type 0} (f : X → List ℕ) (word : List ℕ) (xs : List X) (rest : List ℕ) → list_text word f xs ++ rest ≡ count_line word (length xs) ++ (all_text f xs ++ rest)
list_split f word xs rest = append_assoc (count_line word (length xs)) (all_text f xs) rest
