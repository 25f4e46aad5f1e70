-- What bytes have in their places where they are a name's but for the case of letters.
use Rattle.drain_hgt.proofs.Names.{◌≡◌, ℕ, ◌+◌, ◌*◌, ◌/◌, ◌%◌, ◌<◌, Bool, true, false, List, ◌∷◌, length, get_or, arith, refl, sym, ap, ◌∙◌, cond, codes, to_ascii_lowercase, eq_ignore_ascii_case, get_or-map, length-map, nat_tests, spelled, IsSameText}
use Rattle.std.proofs.Common.{map}

-- the bytes of a name, one by one
abbrev listed : Bool → ℕ → Bool → ℕ → List ℕ
listed south lat west lon =
    cond south 83 78 ∷ (48 + lat / 10 % 10) ∷ (48 + lat % 10) ∷ cond west 87 69
    ∷ (48 + lon / 100 % 10) ∷ (48 + lon / 10 % 10) ∷ (48 + lon % 10) ∷ codes ".hgt"

over_one : (n : ℕ) → n / 1 ≡ n
over_one n = omega arith

spelled_is : (south : Bool) (lat : ℕ) (west : Bool) (lon : ℕ) → spelled south lat west lon ≡ listed south lat west lon
spelled_is true lat true lon = rw (over_one lat, over_one lon) refl
spelled_is true lat false lon = rw (over_one lat, over_one lon) refl
spelled_is false lat true lon = rw (over_one lat, over_one lon) refl
spelled_is false lat false lon = rw (over_one lat, over_one lon) refl

same_length : (a b : List ℕ) → IsSameText a b → length a ≡ length b
same_length a b same = sym (length-map a to_ascii_lowercase) ∙ ap length same ∙ length-map b to_ascii_lowercase

same_at : (a b : List ℕ) (k : ℕ) → IsSameText a b → k < length b → to_ascii_lowercase (get_or a k 0) ≡ to_ascii_lowercase (get_or b k 0)
same_at a b k same inside =
    let long = same_length a b same in
    sym (get_or-map to_ascii_lowercase a k 0 0 (omega arith)) ∙ ap (λ xs. get_or xs k 0) same ∙ get_or-map to_ascii_lowercase b k 0 0 inside

-- a digit has no case
same_digit : (b d : ℕ) → d < 10 → to_ascii_lowercase b ≡ to_ascii_lowercase (48 + d) → b ≡ 48 + d
same_digit b d small same = grind (arith, nat_tests)

same_letter : (b : ℕ) (is : Bool) (letter other : ℕ) → eq_ignore_ascii_case other letter ≡ false → to_ascii_lowercase b ≡ to_ascii_lowercase (cond is letter other) → eq_ignore_ascii_case b letter ≡ is
same_letter b true letter other apart same = grind (arith, nat_tests)
same_letter b false letter other apart same = rw same apart

-- the letters and digits of bytes that are a name's but for the case of letters
pub record HasPlaces (bytes : List ℕ) (south : Bool) (lat : ℕ) (west : Bool) (lon : ℕ) : Type 0 where
  pub long : length bytes ≡ 11
  pub at_0 : eq_ignore_ascii_case (get_or bytes 0 0) 83 ≡ south
  pub at_1 : get_or bytes 1 0 ≡ 48 + lat / 10 % 10
  pub at_2 : get_or bytes 2 0 ≡ 48 + lat % 10
  pub at_3 : eq_ignore_ascii_case (get_or bytes 3 0) 87 ≡ west
  pub at_4 : get_or bytes 4 0 ≡ 48 + lon / 100 % 10
  pub at_5 : get_or bytes 5 0 ≡ 48 + lon / 10 % 10
  pub at_6 : get_or bytes 6 0 ≡ 48 + lon % 10

pub places : (bytes : List ℕ) (south : Bool) (lat : ℕ) (west : Bool) (lon : ℕ) → IsSameText bytes (spelled south lat west lon) → HasPlaces bytes south lat west lon
places bytes south lat west lon same =
    let text = listed south lat west lon in
    let like : IsSameText bytes text = same ∙ ap (map to_ascii_lowercase) (spelled_is south lat west lon) in
    record {
      long = same_length bytes text like;
      at_0 = same_letter (get_or bytes 0 0) south 83 78 refl (same_at bytes text 0 like (omega arith));
      at_1 = same_digit (get_or bytes 1 0) (lat / 10 % 10) (omega arith) (same_at bytes text 1 like (omega arith));
      at_2 = same_digit (get_or bytes 2 0) (lat % 10) (omega arith) (same_at bytes text 2 like (omega arith));
      at_3 = same_letter (get_or bytes 3 0) west 87 69 refl (same_at bytes text 3 like (omega arith));
      at_4 = same_digit (get_or bytes 4 0) (lon / 100 % 10) (omega arith) (same_at bytes text 4 like (omega arith));
      at_5 = same_digit (get_or bytes 5 0) (lon / 10 % 10) (omega arith) (same_at bytes text 5 like (omega arith));
      at_6 = same_digit (get_or bytes 6 0) (lon % 10) (omega arith) (same_at bytes text 6 like (omega arith));
    }

-- the last digits of degrees are those of the degrees
pub spells_same : (south : Bool) (a b : ℕ) (west : Bool) (m n : ℕ) → a ≡ 10 * (b / 10 % 10) + b % 10 → m ≡ 100 * (n / 100 % 10) + 10 * (n / 10 % 10) + n % 10 → spelled south a west m ≡ spelled south b west n
spells_same south a b west m n two three =
    let first : a / 10 % 10 ≡ b / 10 % 10 = omega arith in
    let second : a % 10 ≡ b % 10 = omega arith in
    let third : m / 100 % 10 ≡ n / 100 % 10 = omega arith in
    let fourth : m / 10 % 10 ≡ n / 10 % 10 = omega arith in
    let fifth : m % 10 ≡ n % 10 = omega arith in
    spelled_is south a west m ∙ rw (first, second, third, fourth, fifth) (sym (spelled_is south b west n))
