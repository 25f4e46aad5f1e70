-- The names of tiles (the SRTM HGT documentation).
use Rattle.std.specs.Prelude.{◌≡◌, ◌++◌, if◌then◌else◌}
use Rattle.drain_hgt.specs.Names.{ℕ, ℤ, nat_abs, Bool, List, map, Result, Ok, Err, codes, is_negative}
use Rattle.std.specs.Char.{to_ascii_lowercase}
use Rattle.drain_text.specs.Text.{last_digits}
use Rattle.drain_hgt.specs.declared.name.NameFault.{NameFault}
use Rattle.drain_hgt.specs.declared.name.NameFault.TheVariants.{BadForm, BadRange}
use Rattle.drain_hgt.specs.Corner.{Corner, IsOnMap}

-- a letter, degrees in two digits, a letter, degrees in three digits, and .hgt
abbrev pub spelled : Bool → ℕ → Bool → ℕ → List ℕ
spelled south lat west lon =
    (if south then codes "S" else codes "N") ++ last_digits 2 lat ++ (if west then codes "W" else codes "E") ++ last_digits 3 lon ++ codes ".hgt"

-- n degrees on this side of zero: zero itself is on the side of the positive numbers
pub record AreDegrees (negative : Bool) (count : ℕ) (x : ℤ) : Type 0 where
  pub same_side : is_negative x ≡ negative
  pub as_many : nat_abs x ≡ count

-- the corner is at these degrees to the south or north, and to the west or east
pub record IsAt (south : Bool) (lat : ℕ) (west : Bool) (lon : ℕ) (c : Corner) : Type 0 where
  pub latitude : AreDegrees south lat c.lat
  pub longitude : AreDegrees west lon c.lon

-- the name of the tile at a corner
abbrev pub name_of : Corner → List ℕ
name_of c = spelled (is_negative c.lat) (nat_abs c.lat) (is_negative c.lon) (nat_abs c.lon)

-- the same text but for the case of letters
abbrev pub IsSameText : List ℕ → List ℕ → Type 0
IsSameText a b = map to_ascii_lowercase a ≡ map to_ascii_lowercase b

-- the bytes name the tile at the corner
pub record IsNameOf (bytes : List ℕ) (c : Corner) : Type 0 where
  pub on_map : IsOnMap c
  pub text : IsSameText bytes (name_of c)

-- the bytes have the form of a name, with any degrees
pub record HasForm (bytes : List ℕ) : Type 0 where
  pub south : Bool
  pub lat : ℕ
  pub west : Bool
  pub lon : ℕ
  pub text : IsSameText bytes (spelled south lat west lon)

-- the meaning of the bytes: a corner if they name it, or why they name none
abbrev pub MeansName : List ℕ → Result Corner NameFault → Type 0
MeansName bytes (Ok c) = IsNameOf bytes c
MeansName bytes (Err BadForm) = ¬ HasForm bytes
MeansName bytes (Err BadRange) = HasForm bytes × ((c : Corner) → ¬ IsNameOf bytes c)
