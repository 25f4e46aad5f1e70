-- Where a window lies, as it is written behind --box, --inner and --at. Source: this project's own, as the help of drain window
-- says it.
use Rattle.std.specs.Prelude.{◌≡◌, ◌==◌, ◌||◌, ◌∷◌}
use Rattle.drain_args.specs.Names.{ℕ, Bool, true, List, [], map, Option, Some, list_all, list_any, slice_split, Cell, Place}
use Rattle.drain_text.specs.Text.{whole_number}
use Rattle.drain_union.specs.declared.place.InnerSides.{InnerSides}

-- a comma
abbrev pub is_comma : ℕ → Bool
is_comma byte = byte == 44

-- the numbers of the parts between commas, none for a part that is no number
abbrev pub numbers_of : List ℕ → List (Option ℕ)
numbers_of text = map whole_number (slice_split is_comma text)

-- the text is four numbers with commas between: the row and column of the first cell, and the size
abbrev pub IsBox : List ℕ → Place → Type 0
IsBox text p = numbers_of text ≡ Some p.top ∷ Some p.left ∷ Some p.extent.rows ∷ Some p.extent.cols ∷ []

-- the text is two numbers with a comma between: a row and a column
abbrev pub IsCellText : List ℕ → Cell → Type 0
IsCellText text c = numbers_of text ≡ Some c.row ∷ Some c.col ∷ []

-- the letter n
abbrev pub north_letter : ℕ
north_letter = 110

-- the letter s
abbrev pub south_letter : ℕ
south_letter = 115

-- the letter w
abbrev pub west_letter : ℕ
west_letter = 119

-- the letter e
abbrev pub east_letter : ℕ
east_letter = 101

-- the letter of a side
abbrev pub is_side_letter : ℕ → Bool
is_side_letter byte = byte == north_letter || (byte == east_letter || (byte == south_letter || byte == west_letter))

-- the letter is in the text
abbrev pub has : ℕ → List ℕ → Bool
has letter text = list_any (λ byte. byte == letter) text

-- the text has letters of sides alone, and a side is inner exactly if the text has its letter
pub record IsInner (text : List ℕ) (sides : InnerSides) : Type 0 where
  pub letters : list_all is_side_letter text ≡ true
  pub north : sides.north ≡ has north_letter text
  pub south : sides.south ≡ has south_letter text
  pub west : sides.west ≡ has west_letter text
  pub east : sides.east ≡ has east_letter text
