-- Width and height of cells, as they are written behind --spacing. Source: this project's own, as the help of drain audit says it.
use Rattle.std.specs.Prelude.{◌≡◌, ◌⊎◌, ◌+◌, ◌*◌, ◌^◌, ◌<◌, ◌≤◌, ◌∷◌, ◌++◌}
use Rattle.drain_args.specs.Names.{ℕ, List, [], length, AllDigits, digits_value, Distances}
use Rattle.drain_grid.specs.declared.height_kind.HeightKind.TheVariants.{Whole}

-- a comma, and a point
abbrev pub comma : ℕ
comma = 44

abbrev pub point : ℕ
point = 46

-- at most 18 digits
pub record IsFewDigits (word : List ℕ) : Type 0 where
  pub digits : AllDigits 10 word
  pub few : length word ≤ 18

-- the text has these parts before a point and behind it, or the first alone
abbrev pub IsWritten : List ℕ → List ℕ → List ℕ → Type 0
IsWritten text whole fraction = (text ≡ whole ++ point ∷ fraction) ⊎ ((text ≡ whole) × (fraction ≡ []))

-- the text is a decimal: digits, perhaps a point and more digits, at most 18 of either, and one at least.
-- Its value is the fraction digits / 10 ^ places
pub record IsDecimal (text : List ℕ) (digits places : ℕ) : Type 0 where
  pub whole : List ℕ
  pub fraction : List ℕ
  pub written : IsWritten text whole fraction
  pub before : IsFewDigits whole
  pub behind : IsFewDigits fraction
  pub some : 0 < length whole + length fraction
  pub digits_are : digits ≡ digits_value 10 whole * 10 ^ length fraction + digits_value 10 fraction
  pub places_are : places ≡ length fraction

-- digits / 10 ^ places times 10 ^ power is this whole number
abbrev pub IsWhole : ℕ → ℕ → ℕ → ℕ → Type 0
IsWhole digits places power number = number * 10 ^ places ≡ digits * 10 ^ power

-- the text is two decimals with a comma between. Width and height are these decimals, multiplied by the least power of ten
-- that makes both whole; heights are whole numbers
pub record IsSpacingText (text : List ℕ) (s : Distances) : Type 0 where
  pub width_text : List ℕ
  pub height_text : List ℕ
  pub written : text ≡ width_text ++ comma ∷ height_text
  pub width_digits : ℕ
  pub width_places : ℕ
  pub width_is : IsDecimal width_text width_digits width_places
  pub height_digits : ℕ
  pub height_places : ℕ
  pub height_is : IsDecimal height_text height_digits height_places
  pub power : ℕ
  pub width : IsWhole width_digits width_places power s.width
  pub height : IsWhole height_digits height_places power s.height
  pub kind : s.kind ≡ Whole
  pub least : (p w h : ℕ) → IsWhole width_digits width_places p w → IsWhole height_digits height_places p h → power ≤ p

-- How the code finds them.

-- the number of units of 10 ^ -18 in the decimal of the text
pub record IsUnits (text : List ℕ) (units : ℕ) : Type 0 where
  pub digits : ℕ
  pub places : ℕ
  pub decimal : IsDecimal text digits places
  pub value : (d p : ℕ) → IsDecimal text d p → units * 10 ^ p ≡ d * 10 ^ 18

-- what a text has before its first point and behind it, or all and nothing: the only such parts with digits before the point
pub record ArePartsOf (text whole fraction : List ℕ) : Type 0 where
  pub written : IsWritten text whole fraction
  pub only : (w f : List ℕ) → IsWritten text w f → AllDigits 10 w → (w ≡ whole) × (f ≡ fraction)

-- two numbers, divided by ten as often as both stay whole, at most 18 times
pub record IsLeastUnit (width height least_width least_height : ℕ) : Type 0 where
  pub times : ℕ
  pub most : times ≤ 18
  pub width_is : width ≡ least_width * 10 ^ times
  pub height_is : height ≡ least_height * 10 ^ times
  pub least : (w h : ℕ) → least_width ≡ w * 10 → least_height ≡ h * 10 → times ≡ 18
