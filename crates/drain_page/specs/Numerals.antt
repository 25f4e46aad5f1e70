-- How numbers stand on a page, and which ways down it lists between floats.
use Rattle.std.specs.Prelude.{◌≡◌}
use Rattle.drain_page.specs.Names.{ℤ, ℕ, List, map, Option, option_and_then, IsFloatNumber, IsFloatWord, HeightKind}
use Rattle.std.specs.Fmt.{signed_decimal}
use Rattle.drain_grid.specs.declared.direction.Direction.{Direction}
use Rattle.drain_grid.specs.declared.height_kind.HeightKind.TheVariants.{Whole, Single}
use Rattle.drain_grid.specs.declared.patch.Patch.{Patch}
use Rattle.drain_grid.specs.declared.set_product.SetProduct.{SetProduct}
use Rattle.drain_grid.specs.declared.set_product.SetProduct.TheVariants.{Con, Dir, Acc, Bas, Rnk}
use Rattle.drain_grid.specs.Direction.{directions}
use Rattle.drain_grid.specs.Patch.{neighbor}
use Rattle.drain_slope.specs.Key.{con_below}

-- the word of a number of this kind: its digits, or a word that reads as the float of which it is the place
abbrev pub IsWordOf : HeightKind → ℤ → List ℕ → Type 0
IsWordOf Whole number word = word ≡ signed_decimal number
IsWordOf Single number word = IsFloatNumber number → IsFloatWord number word

-- the kind of a product's numbers on heights of this kind: con's are heights, all others whole numbers
abbrev pub kind_shown : HeightKind → SetProduct → HeightKind
kind_shown kind Con = kind
kind_shown kind Dir = Whole
kind_shown kind Acc = Whole
kind_shown kind Bas = Whole
kind_shown kind Rnk = Whole

-- con of a lower data cell in this direction, if there is one
abbrev pub con_down : Patch → Direction → Option ℤ
con_down p d = option_and_then (con_below p) (neighbor p d)

-- the same in the order of directions
abbrev pub cons_down : Patch → List (Option ℤ)
cons_down p = map (con_down p) directions
