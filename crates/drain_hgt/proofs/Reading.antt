-- What was read in a name's places, and what it means.
use Rattle.drain_hgt.proofs.Names.{◌≡◌, ℕ, ◌+◌, ◌*◌, ◌/◌, ◌%◌, ◌<◌, ◌≤◌, Bool, List, get_or, ℤ, pos, negsuc, Option, Some, None, MatchOption, arith, sym, ap, ◌∙◌, refl, nat_abs, to_ascii_lowercase, eq_ignore_ascii_case, is_negative, ints, BadRange, Corner, IsOnMap, IsWithin, spelled, IsAt, IsSameText, HasForm, MeansName}
use Rattle.std.specs.Prelude.{map}
use Rattle.std.specs.Option.{ok_or}
use Rattle.drain_hgt.specs.declared.name.TheConstants.{ZERO}
use Rattle.drain_hgt.proofs.Spelling.{HasPlaces, places, spells_same}

-- the number is the byte's digit where it is one
abbrev pub IsWorth : ℕ → ℕ → Type 0
IsWorth byte worth = (n : ℕ) → n < 10 → byte ≡ ZERO + n → worth ≡ n

-- the letters and digits in a name's places
pub record IsRead (bytes : List ℕ) (south : Bool) (lat : ℕ) (west : Bool) (lon : ℕ) : Type 0 where
  pub worths : ℕ × ℕ × ℕ × ℕ × ℕ
  pub at_0 : south ≡ eq_ignore_ascii_case (get_or bytes 0 0) 83
  pub at_1 : IsWorth (get_or bytes 1 0) worths.0
  pub at_2 : IsWorth (get_or bytes 2 0) worths.1
  pub at_3 : west ≡ eq_ignore_ascii_case (get_or bytes 3 0) 87
  pub at_4 : IsWorth (get_or bytes 4 0) worths.2
  pub at_5 : IsWorth (get_or bytes 5 0) worths.3
  pub at_6 : IsWorth (get_or bytes 6 0) worths.4
  pub lat_is : lat ≡ 10 * worths.0 + worths.1
  pub lon_is : lon ≡ 100 * worths.2 + 10 * worths.3 + worths.4

-- letters and digits that were read
pub read_as : (bytes : List ℕ) (south west : Bool) (a b k l m : ℕ) → south ≡ eq_ignore_ascii_case (get_or bytes 0 0) 83 → IsWorth (get_or bytes 1 0) a → IsWorth (get_or bytes 2 0) b →
    west ≡ eq_ignore_ascii_case (get_or bytes 3 0) 87 → IsWorth (get_or bytes 4 0) k → IsWorth (get_or bytes 5 0) l → IsWorth (get_or bytes 6 0) m →
    IsRead bytes south (10 * a + b) west (100 * k + 10 * l + m)
read_as bytes south west a b k l m at_0 at_1 at_2 at_3 at_4 at_5 at_6 = record {
  worths = (a, b, k, l, m);
  at_0 = at_0;
  at_1 = at_1;
  at_2 = at_2;
  at_3 = at_3;
  at_4 = at_4;
  at_5 = at_5;
  at_6 = at_6;
  lat_is = refl;
  lon_is = refl;
}

-- what was read is what a name has there
pub record AreRead (south : Bool) (lat : ℕ) (west : Bool) (lon : ℕ) (is_south : Bool) (a : ℕ) (is_west : Bool) (m : ℕ) : Type 0 where
  pub south_is : south ≡ is_south
  pub lat_is : lat ≡ 10 * (a / 10 % 10) + a % 10
  pub west_is : west ≡ is_west
  pub lon_is : lon ≡ 100 * (m / 100 % 10) + 10 * (m / 10 % 10) + m % 10

pub read_back : (bytes : List ℕ) (south : Bool) (lat : ℕ) (west : Bool) (lon : ℕ) (is_south : Bool) (a : ℕ) (is_west : Bool) (m : ℕ) → IsRead bytes south lat west lon → HasPlaces bytes is_south a is_west m → AreRead south lat west lon is_south a is_west m
read_back bytes south lat west lon is_south a is_west m r p =
    let one = r.at_1 (a / 10 % 10) (omega arith) p.at_1 in
    let two = r.at_2 (a % 10) (omega arith) p.at_2 in
    let three = r.at_4 (m / 100 % 10) (omega arith) p.at_4 in
    let four = r.at_5 (m / 10 % 10) (omega arith) p.at_5 in
    let five = r.at_6 (m % 10) (omega arith) p.at_6 in
    record {
      south_is = r.at_0 ∙ p.at_0;
      lat_is = omega (arith, r.lat_is);
      west_is = r.at_3 ∙ p.at_3;
      lon_is = omega (arith, r.lon_is);
    }

-- bytes of the form are its spelling
pub spelled_again : (bytes : List ℕ) (south : Bool) (lat : ℕ) (west : Bool) (lon : ℕ) → IsRead bytes south lat west lon → HasForm bytes → IsSameText bytes (spelled south lat west lon)
spelled_again bytes south lat west lon r form =
    let s = read_back bytes south lat west lon form.south form.lat form.west form.lon r (places bytes form.south form.lat form.west form.lon form.text) in
    let spells : spelled south lat west lon ≡ spelled form.south form.lat form.west form.lon =
    ap (λ b. spelled b lat west lon) s.south_is ∙ ap (λ b. spelled form.south lat b lon) s.west_is ∙ spells_same form.south lat form.lat form.west lon form.lon s.lat_is s.lon_is in
    form.text ∙ ap (map to_ascii_lowercase) (sym spells)

pub few_degrees : (limit : ℕ) (x : ℤ) → IsWithin limit x → nat_abs x ≤ limit
few_degrees limit (pos n) h = omega (arith, ints, h.high)
few_degrees limit (negsuc n) h = omega (arith, ints, h.low)

-- the tile found, or a range fault
pub meaning : (bytes : List ℕ) (south : Bool) (lat : ℕ) (west : Bool) (lon : ℕ) (found : Option Corner) → IsRead bytes south lat west lon → IsSameText bytes (spelled south lat west lon)
    → MatchOption found ((c : Corner) → IsOnMap c → ¬ IsAt south lat west lon c) (λ c. IsOnMap c × IsAt south lat west lon c) → MeansName bytes (ok_or found BadRange)
meaning bytes south lat west lon (Some c) r same is = record {
  on_map = is.0;
  text = rw (is.1.latitude.same_side, is.1.latitude.as_many, is.1.longitude.same_side, is.1.longitude.as_many) same;
}
meaning bytes south lat west lon None r same none = (
  record { south = south; lat = lat; west = west; lon = lon; text = same },
  λ c names. (
      let s = read_back bytes south lat west lon (is_negative c.lat) (nat_abs c.lat) (is_negative c.lon) (nat_abs c.lon) r (places bytes (is_negative c.lat) (nat_abs c.lat) (is_negative c.lon) (nat_abs c.lon) names.text) in
      let few = few_degrees 90 c.lat names.on_map.lat in
      let most = few_degrees 180 c.lon names.on_map.lon in
      none c names.on_map (record {
        latitude = record { same_side = sym s.south_is; as_many = omega (arith, s.lat_is) };
        longitude = record { same_side = sym s.west_is; as_many = omega (arith, s.lon_is) };
      })),
)
