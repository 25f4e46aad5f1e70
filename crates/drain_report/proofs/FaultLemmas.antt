-- Line feeds of a text, and where a fault is: each line has one line feed, its last byte.
use Rattle.drain_report.proofs.Names.{◌≡◌, ℕ, zero, suc, ◌+◌, ◌<◌, ◌≤◌, inl, inr, Bool, true, false, List, [], ◌∷◌, ◌++◌, ℤ, length, arith, refl, ap, ◌∙◌, Option, IfSome, codes, cases_Bool, nat_tests, Passes, Nowhere, is_byte, HeightKind, Whole, Single, Corner, name_of, spelled, signed_decimal, Head, AreLong, IsInk, IsLong, line, spaced, height_word, kind_end, seam_text, spacing_text, tile_line, line_feeds, IsAt, IsPast, IsLineFault, IsListFault, IsEndFault, HasVersion, FaultFits, head_text, version_line, Contents, end_line, report_text}
use Rattle.drain_report.specs.declared.fault.ReportFault.{ReportFault}
use Rattle.drain_report.specs.declared.fault.ReportFault.TheVariants.{MissingLine, BadLine, OutOfRange}
use Rattle.drain_report.proofs.NumberLemmas.{height_ink, signed_ink}
use Rattle.drain_report.proofs.TextLemmas.{version_first}
use Rattle.drain_report.proofs.ListLemmas.{seam_split, tile_split}

pub feeds-append : (xs ys : List ℕ) → line_feeds (xs ++ ys) ≡ line_feeds xs + line_feeds ys
feeds-append [] ys = omega arith
feeds-append (x ∷ xs) ys = let more = feeds-append xs ys in omega (arith, more)

-- no byte above the space is a line feed
pub ink_feeds : (xs : List ℕ) → IsInk xs → line_feeds xs ≡ 0
ink_feeds [] ink = refl
ink_feeds (x ∷ xs) ink = let more = ink_feeds xs ink.1 in let above = ink.0 in grind (arith, nat_tests)

spaced_feeds : (ns : List ℤ) → AreLong ns → line_feeds (spaced ns) ≡ 0
spaced_feeds [] long = refl
spaced_feeds (n ∷ ns) long =
    let here = ink_feeds (signed_decimal n) (signed_ink n long.0) in
    let more = spaced_feeds ns long.1 in
    let all = feeds-append (signed_decimal n) (spaced ns) in
    omega (arith, all, here, more)

-- a line of numbers has one
pub line_feed : (word : List ℕ) (ns : List ℤ) (rest : List ℕ) → line_feeds word ≡ 0 → AreLong ns → line_feeds (line word ns ++ rest) ≡ line_feeds rest + 1
line_feed word ns rest none long =
    let all = feeds-append (line word ns) rest in
    let front = feeds-append word (spaced ns ++ 10 ∷ []) in
    let numbers = feeds-append (spaced ns) (10 ∷ []) in
    let few = spaced_feeds ns long in
    let last : line_feeds (10 ∷ []) ≡ 1 = refl in
    omega (arith, all, front, numbers, few, none, last)

spelled_ink : (south : Bool) (lat : ℕ) (west : Bool) (lon : ℕ) → IsInk (spelled south lat west lon)
spelled_ink true lat true lon = (omega arith, (omega arith, (omega arith, (omega arith, (omega arith, (omega arith, (omega arith, (omega arith, (omega arith, (omega arith, (omega arith, tt)))))))))))
spelled_ink true lat false lon = (omega arith, (omega arith, (omega arith, (omega arith, (omega arith, (omega arith, (omega arith, (omega arith, (omega arith, (omega arith, (omega arith, tt)))))))))))
spelled_ink false lat true lon = (omega arith, (omega arith, (omega arith, (omega arith, (omega arith, (omega arith, (omega arith, (omega arith, (omega arith, (omega arith, (omega arith, tt)))))))))))
spelled_ink false lat false lon = (omega arith, (omega arith, (omega arith, (omega arith, (omega arith, (omega arith, (omega arith, (omega arith, (omega arith, (omega arith, (omega arith, tt)))))))))))

-- a tile's line has one
pub tile_feed : (c : Corner) (rest : List ℕ) → line_feeds (tile_line c ++ rest) ≡ line_feeds rest + 1
tile_feed c rest =
    let none = ink_feeds (name_of c) (spelled_ink _ _ _ _) in
    let name = feeds-append (name_of c) (10 ∷ rest) in
    let word = feeds-append (codes "tile ") (name_of c ++ 10 ∷ rest) in
    let last : line_feeds (10 ∷ rest) ≡ 1 + line_feeds rest = refl in
    let first : line_feeds (codes "tile ") ≡ 0 = refl in
    ap line_feeds (tile_split c rest) ∙ omega (arith, none, name, word, last, first)

-- a seam's line has one
pub seam_feed : (cell : List ℤ) (z : Option ℤ) (others : List ℤ) (rest : List ℕ) → AreLong cell → IfSome z IsLong → AreLong others → line_feeds (seam_text cell z others ++ rest) ≡ line_feeds rest + 1
seam_feed cell z others rest cell_long long others_long =
    let of_cell = feeds-append (spaced cell) (32 ∷ (height_word z ++ (spaced others ++ 10 ∷ rest))) in
    let of_height = feeds-append (height_word z) (spaced others ++ 10 ∷ rest) in
    let of_others = feeds-append (spaced others) (10 ∷ rest) in
    let none = spaced_feeds cell cell_long in
    let ink = ink_feeds (height_word z) (height_ink z long) in
    let few = spaced_feeds others others_long in
    let last : line_feeds (10 ∷ rest) ≡ 1 + line_feeds rest = refl in
    ap line_feeds (seam_split cell z others rest) ∙ omega (arith, of_cell, of_height, of_others, none, ink, few, last)

-- a spacing's line has one
kind_feed : (kind : HeightKind) → line_feeds (kind_end kind) ≡ 1
kind_feed Whole = refl
kind_feed Single = refl

pub spacing_feed : (ns : List ℤ) (kind : HeightKind) (rest : List ℕ) → AreLong ns → line_feeds (spacing_text ns kind ++ rest) ≡ line_feeds rest + 1
spacing_feed ns kind rest long =
    let all = feeds-append (spacing_text ns kind) rest in
    let front = feeds-append (codes "spacing") (spaced ns ++ kind_end kind) in
    let numbers = feeds-append (spaced ns) (kind_end kind) in
    let few = spaced_feeds ns long in
    let last = kind_feed kind in
    let first : line_feeds (codes "spacing") ≡ 0 = refl in
    omega (arith, all, front, numbers, few, last, first)

-- a text without a line feed, and one with one
pub no_feed : (text : List ℕ) → Nowhere (Passes (is_byte 10) text) 0 (length text) → line_feeds text ≡ 0
no_feed [] none = refl
no_feed (x ∷ xs) none =
    let more = no_feed xs (λ k low less here. none (suc k) (omega arith) (omega arith) here) in
    elim (cases_Bool (is_byte 10 x)) [
      | inl is ↦ absurd (none 0 (omega arith) (omega arith) is)
      | inr other ↦ rw other (omega (arith, more))
    ]

pub some_feed : (text : List ℕ) (k : ℕ) → k < length text → Passes (is_byte 10) text k → 1 ≤ line_feeds text
some_feed [] k less here = absurd (omega arith)
some_feed (x ∷ xs) zero less here = rw here (omega arith)
some_feed (x ∷ xs) (suc k) less here = let more = some_feed xs k (omega arith) here in omega (arith, more)

-- a fault of a later line
pub from_later : (feeds first n : ℕ) (fault : ReportFault) → first ≤ n → IsLineFault feeds n fault → IsLineFault feeds first fault
from_later feeds first n (MissingLine k) less is = (omega (arith, is.0), is.1)
from_later feeds first n (BadLine k) less is = (omega (arith, is.0), is.1)
from_later feeds first n (OutOfRange k) less is = (omega (arith, is.0), is.1)
from_later feeds first n fault less is = absurd is

pub list_later : (feeds first n : ℕ) (fault : ReportFault) → first ≤ n → IsListFault feeds n fault → IsListFault feeds first fault
list_later feeds first n fault less (inl of_line) = inl (from_later feeds first n fault less of_line)
list_later feeds first n fault less (inr memory) = inr memory

-- what a fault of a line says of the whole text
pub line_fits : (text : List ℕ) (n : ℕ) (fault : ReportFault) → HasVersion text → 2 ≤ n → IsLineFault (line_feeds text) n fault → FaultFits text fault
line_fits text n (MissingLine k) version least is = (version, from_later (line_feeds text) 2 n (MissingLine k) least is)
line_fits text n (BadLine k) version least is = (version, from_later (line_feeds text) 2 n (BadLine k) least is)
line_fits text n (OutOfRange k) version least is = (version, from_later (line_feeds text) 2 n (OutOfRange k) least is)
line_fits text n fault version least is = absurd is

-- the lines before this one are counted, and the first of them is read
pub record IsLater (text : List ℕ) (n : ℕ) (rest : List ℕ) : Type 0 where
  pub least : 2 ≤ n
  pub at : IsAt (line_feeds text) n rest

-- after one line or more
pub later : (text rest after : List ℕ) (n m : ℕ) → IsLater text n rest → (IsAt (line_feeds text) n rest → IsPast (line_feeds text) n m after) → IsLater text m after
later text rest after n m here read = let past = read here.at in record { least = omega (arith, here.least, past.0); at = past.1 }

-- after as many lines as there were, none among them
pub same_or_later : (text rest after : List ℕ) (n m : ℕ) → IsLater text n rest → (IsAt (line_feeds text) n rest → (n ≤ m) × IsAt (line_feeds text) m after) → IsLater text m after
same_or_later text rest after n m here read = let past = read here.at in record { least = omega (arith, here.least, past.0); at = past.1 }

pub from_head : (text rest : List ℕ) (n : ℕ) → IsPast (line_feeds text) 2 n rest → IsLater text n rest
from_head text rest n past = record { least = omega (arith, past.0); at = past.1 }

pub list_fits : (text rest here : List ℕ) (head : Head) (n : ℕ) (fault : ReportFault) → text ≡ head_text head ++ rest → IsLater text n here
    → (IsAt (line_feeds text) n here → IsListFault (line_feeds text) n fault) → FaultFits text fault
list_fits text rest here head n fault is at read =
    elim (read at.at) [
      | inl of_line ↦ line_fits text n fault (version_first text rest head is) at.least of_line
      | inr memory ↦ rw memory (head, rest, is)
    ]

pub end_fits : (text rest : List ℕ) (n : ℕ) (fault : ReportFault) (w : Contents) → HasVersion text → IsLater text n rest → ((more : List ℕ) → rest ≡ end_line ++ more → text ≡ report_text w ++ more)
    → (IsAt (line_feeds text) n rest → IsEndFault (line_feeds text) n rest fault) → FaultFits text fault
end_fits text rest n fault w version at whole read =
    elim (read at.at) [
      | inl of_line ↦ line_fits text n fault version at.least of_line
      | inr goes_on ↦ let on = goes_on.1 in rw goes_on.0 (w, (on.0, on.1, whole on.0 on.2))
    ]

-- the second line
pub at_two : (text : List ℕ) (n : ℕ) (rest : List ℕ) → text ≡ version_line ++ rest → n ≡ 2 → IsLater text n rest
at_two text n rest is second =
    let all = feeds-append version_line rest in
    let first : line_feeds version_line ≡ 1 = refl in
    let same = ap line_feeds is in
    record { least = omega (arith, second); at = omega (arith, all, first, same, second) }

-- no more line feeds than bytes
pub few_feeds : (text : List ℕ) → line_feeds text ≤ length text
few_feeds [] = omega arith
few_feeds (x ∷ xs) =
    let more = few_feeds xs in
    elim (cases_Bool (is_byte 10 x)) [
      | inl is ↦ rw is (omega (arith, more))
      | inr other ↦ rw other (omega (arith, more))
    ]
