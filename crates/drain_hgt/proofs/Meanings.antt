-- Bytes mean one thing.
use Rattle.drain_hgt.proofs.Names.{◌≡◌, ℕ, suc, ◌+◌, ◌/◌, ◌%◌, ◌≤◌, List, ℤ, pos, negsuc, refl, sym, ap, ◌∙◌, arith, nat_abs, is_negative, leb-true, BadForm, BadRange, Corner, IsNameOf, HasForm, OneName}
use Rattle.std.specs.Prelude.{Ok, Err}
use Rattle.drain_hgt.proofs.Spelling.{HasPlaces, places}
use Rattle.drain_hgt.proofs.Reading.{few_degrees}

same_number : (x y : ℤ) → is_negative x ≡ is_negative y → nat_abs x ≡ nat_abs y → x ≡ y
same_number (pos m) (pos n) side count = ap pos count
same_number (pos m) (negsuc n) side count = (let none = leb-true (suc m) 0 (side ∙ refl) in absurd (omega arith))
same_number (negsuc m) (pos n) side count = (let none = leb-true (suc n) 0 (sym side ∙ refl) in absurd (omega arith))
same_number (negsuc m) (negsuc n) side count = let e : m ≡ n = omega arith in ap negsuc e

two_places : (a b d e : ℕ) → a ≤ 90 → b ≤ 90 → d ≡ 48 + a / 10 % 10 → e ≡ 48 + a % 10 → d ≡ 48 + b / 10 % 10 → e ≡ 48 + b % 10 → a ≡ b
two_places a b d e small few p q r s = omega arith

three_places : (a b d e f : ℕ) → a ≤ 180 → b ≤ 180 → d ≡ 48 + a / 100 % 10 → e ≡ 48 + a / 10 % 10 → f ≡ 48 + a % 10 → d ≡ 48 + b / 100 % 10 → e ≡ 48 + b / 10 % 10 → f ≡ 48 + b % 10 → a ≡ b
three_places a b d e f small few p q r s t u = omega arith

places_of : (bytes : List ℕ) (c : Corner) → IsNameOf bytes c → HasPlaces bytes (is_negative c.lat) (nat_abs c.lat) (is_negative c.lon) (nat_abs c.lon)
places_of bytes c names = places bytes (is_negative c.lat) (nat_abs c.lat) (is_negative c.lon) (nat_abs c.lon) names.text

one_corner : (bytes : List ℕ) (c d : Corner) → IsNameOf bytes c → IsNameOf bytes d → c ≡ d
one_corner bytes c d one other =
    let p = places_of bytes c one in
    let q = places_of bytes d other in
    let lat = two_places (nat_abs c.lat) (nat_abs d.lat) _ _ (few_degrees 90 c.lat one.on_map.lat) (few_degrees 90 d.lat other.on_map.lat) p.at_1 p.at_2 q.at_1 q.at_2 in
    let lon = three_places (nat_abs c.lon) (nat_abs d.lon) _ _ _ (few_degrees 180 c.lon one.on_map.lon) (few_degrees 180 d.lon other.on_map.lon) p.at_4 p.at_5 p.at_6 q.at_4 q.at_5 q.at_6 in
    let south = same_number c.lat d.lat (sym p.at_0 ∙ q.at_0) lat in
    let west = same_number c.lon d.lon (sym p.at_3 ∙ q.at_3) lon in
    ap (λ x. record { lat = x; lon = c.lon }) south ∙ ap (λ y. record { lat = d.lat; lon = y }) west

has_form : (bytes : List ℕ) (c : Corner) → IsNameOf bytes c → HasForm bytes
has_form bytes c names = record { south = is_negative c.lat; lat = nat_abs c.lat; west = is_negative c.lon; lon = nat_abs c.lon; text = names.text }

pub one_name : OneName
one_name bytes (Ok c) (Ok d) one other = ap (λ x. Ok x) (one_corner bytes c d one other)
one_name bytes (Ok c) (Err BadForm) one other = absurd (other (has_form bytes c one))
one_name bytes (Ok c) (Err BadRange) one other = absurd (other.1 c one)
one_name bytes (Err BadForm) (Ok d) one other = absurd (one (has_form bytes d other))
one_name bytes (Err BadForm) (Err BadForm) one other = refl
one_name bytes (Err BadForm) (Err BadRange) one other = absurd (one other.0)
one_name bytes (Err BadRange) (Ok d) one other = absurd (one.1 d other)
one_name bytes (Err BadRange) (Err BadForm) one other = absurd (other one.0)
one_name bytes (Err BadRange) (Err BadRange) one other = refl
