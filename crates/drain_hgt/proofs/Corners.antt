-- The corner that a name names, read from its places.
use Rattle.drain_hgt.proofs.Names.{◌≡◌, ℕ, suc, inl, inr, ◌+◌, ◌*◌, ◌-◌, ◌/◌, ◌%◌, ◌≤◌, Bool, true, false, List, get_or, ℤ, pos, negsuc, sym, ap, ◌∙◌, arith, nat_abs, neg_ℤ, eq_ignore_ascii_case, is_negative, cases_Bool, false≢true, leb-true, Corner, NamesGiveCorners}
use Rattle.drain_hgt.proofs.Reading.{few_degrees}
use Rattle.drain_hgt.proofs.Spelling.{HasPlaces, places}

-- a number of degrees on one side of zero
abbrev on_side : Bool → ℕ → ℤ
on_side true count = neg_ℤ (pos count)
on_side false count = pos count

-- a number is its count of degrees on its side
on_its_side : (x : ℤ) → on_side (is_negative x) (nat_abs x) ≡ x
on_its_side (pos n) =
    elim (cases_Bool (is_negative (pos n))) [
      | inl negative ↦ (let none = leb-true (suc n) 0 negative in absurd (omega arith))
      | inr not ↦ ap (λ b. on_side b n) not
    ]
on_its_side (negsuc n) =
    elim (cases_Bool (is_negative (negsuc n))) [
      | inl negative ↦ ap (λ b. on_side b (suc n)) negative
      | inr not ↦ absurd (false≢true (sym not))
    ]

-- what the digit in a place is worth
abbrev worth : List ℕ → ℕ → ℕ
worth bytes place = get_or bytes place 0 - 48

-- the corner of the letters and digits
abbrev pub corner_read : List ℕ → Corner
corner_read bytes = record {
  lat = on_side (eq_ignore_ascii_case (get_or bytes 0 0) 83) (10 * worth bytes 1 + worth bytes 2);
  lon = on_side (eq_ignore_ascii_case (get_or bytes 3 0) 87) (100 * worth bytes 4 + 10 * worth bytes 5 + worth bytes 6);
}

two_digits : (a d e : ℕ) → a ≤ 90 → d ≡ 48 + a / 10 % 10 → e ≡ 48 + a % 10 → 10 * (d - 48) + (e - 48) ≡ a
two_digits a d e small p q = omega arith

three_digits : (a d e f : ℕ) → a ≤ 180 → d ≡ 48 + a / 100 % 10 → e ≡ 48 + a / 10 % 10 → f ≡ 48 + a % 10 → 100 * (d - 48) + 10 * (e - 48) + (f - 48) ≡ a
three_digits a d e f small p q r = omega arith

spelled_on_its_side : (side : Bool) (count : ℕ) (x : ℤ) → side ≡ is_negative x → count ≡ nat_abs x → on_side side count ≡ x
spelled_on_its_side side count x side_is count_is = rw (side_is, count_is) (on_its_side x)

pub names_give_corners : NamesGiveCorners
names_give_corners = (
  corner_read,
  λ bytes c names. (
      let p : HasPlaces bytes (is_negative c.lat) (nat_abs c.lat) (is_negative c.lon) (nat_abs c.lon) =
      places bytes (is_negative c.lat) (nat_abs c.lat) (is_negative c.lon) (nat_abs c.lon) names.text in
      let lat = two_digits (nat_abs c.lat) _ _ (few_degrees 90 c.lat names.on_map.lat) p.at_1 p.at_2 in
      let lon = three_digits (nat_abs c.lon) _ _ _ (few_degrees 180 c.lon names.on_map.lon) p.at_4 p.at_5 p.at_6 in
      let south = spelled_on_its_side _ _ c.lat p.at_0 lat in
      let west = spelled_on_its_side _ _ c.lon p.at_3 lon in
      ap (λ x. record { lat = x; lon = (corner_read bytes).lon }) south ∙ ap (λ y. record { lat = c.lat; lon = y }) west),
)
