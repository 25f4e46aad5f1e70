-- Texts of two whole numbers a line: what its lines list, or the first bad one. The form is this project's own.
use Rattle.std.specs.Prelude.{◌+◌, ◌∷◌}
use Rattle.drain_grid.specs.Names.{ℕ, List, [], Option, Some, None, Result, Ok, Err, words_of, whole_number}
use Rattle.drain_grid.specs.declared.number_line.LineSays.{LineSays}
use Rattle.drain_grid.specs.declared.number_line.LineSays.TheVariants.{Nothing, Numbers, Other}

-- two whole numbers
abbrev pub numbers_say : Option ℕ → Option ℕ → LineSays
numbers_say (Some a) (Some b) = Numbers a b
numbers_say a b = Other

-- a line has no words, two whole numbers, or other words
abbrev pub words_say : List (List ℕ) → LineSays
words_say [] = Nothing
words_say (a ∷ []) = Other
words_say (a ∷ (b ∷ [])) = numbers_say (whole_number a) (whole_number b)
words_say (a ∷ (b ∷ (more ∷ rest))) = Other

-- the meaning of a line is that of its words
abbrev pub line_says : List ℕ → LineSays
line_says line = words_say (words_of line)

-- what a line lists comes before the others; if it lists nothing that is valid, it is the first bad one
abbrev pub with_item : {A : Type 0} → ℕ → Option A → Result (List A) ℕ → Result (List A) ℕ
with_item number None rest = Err number
with_item number (Some x) (Ok xs) = Ok (x ∷ xs)
with_item number (Some x) (Err bad) = Err bad

-- a line before others, where item gives what a line of this number and these two whole numbers lists; one without words
-- lists nothing, and one of other words is bad
abbrev pub with_line : {A : Type 0} → (ℕ → ℕ → ℕ → Option A) → ℕ → LineSays → Result (List A) ℕ → Result (List A) ℕ
with_line item number Nothing rest = rest
with_line item number Other rest = Err number
with_line item number (Numbers a b) rest = with_item number (item number a b) rest

-- what lines list that are numbered from this number on, or the number of the first bad one
abbrev pub listing : {A : Type 0} → (ℕ → ℕ → ℕ → Option A) → ℕ → List (List ℕ) → Result (List A) ℕ
listing item number [] = Ok []
listing item number (line ∷ more) = with_line item number (line_says line) (listing item (number + 1) more)
