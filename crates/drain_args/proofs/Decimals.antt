-- Decimals in units of 10^-18, and the least power of ten that makes two of them whole.
--
-- A decimal times a power of ten is one whole number at most, since a power of ten cancels. A lower power than that where
-- both were divided as often as possible would make both divisible once more.
use Rattle.drain_args.proofs.Names.{◌≡◌, ◌≢◌, ℕ, zero, suc, ◌+◌, ◌-◌, ◌*◌, ◌/◌, ◌%◌, ◌^◌, ◌<◌, ◌≤◌, true, false, List, [], ◌∷◌, ◌++◌, length, get_or, Option, Some, None, MatchOption, arith, refl, sym, ap, subst, ◌∙◌, inl, inr, Bor, nat_lt, AllDigits, digits_value, list_all, is_ascii_digit, mul-div_cancel, one-le-pow, pow-suc, IsNumeralModel, digit_from_value, not_in_digits, numerals_by_value, tells_digits, IsSplitOnceResult, split_after, split_parts, both, digit_worth, last_digits, ArePartsOf, IsDecimal, IsFewDigits, IsLeastUnit, IsSpacingText, IsUnits, IsWritten, comma, point}
use Rattle.std.proofs.lemmas.Bool.{le-leb, ltb-true, ltb-false}
use Rattle.std.proofs.lemmas.Nat.{pow-add}
use Rattle.drain_grid.specs.Spacing.{Distances, IsSpacing}
use Rattle.drain_grid.specs.declared.height_kind.HeightKind.TheVariants.{Whole}

-- a factor above 0 cancels
cancel : (a b k : ℕ) → 0 < k → a * k ≡ b * k → a ≡ b
cancel a b k some e = sym (mul-div_cancel a some) ∙ ap (λ (x : ℕ). x / k) e ∙ mul-div_cancel b some

-- a power of ten is above 0
ten_power : (n : ℕ) → 0 < 10 ^ n
ten_power n = one-le-pow n 10 (omega arith)

-- Powers of ten.

-- what is left of a number of units is the decimal times a lower power
pub whole_of : (units digits places times left most : ℕ) → units * 10 ^ places ≡ digits * 10 ^ most → units ≡ left * 10 ^ times → times ≤ most
    → left * 10 ^ places ≡ digits * 10 ^ (most - times)
whole_of units digits places times left most value is few =
    let sum : most ≡ (most - times) + times = omega arith in
    let tens : 10 ^ most ≡ 10 ^ (most - times) * 10 ^ times = ap (λ (n : ℕ). 10 ^ n) sum ∙ pow-add 10 (most - times) times in
    cancel (left * 10 ^ places) (digits * 10 ^ (most - times)) (10 ^ times) (ten_power times)
    (omega (arith, ap (λ (x : ℕ). x * 10 ^ places) is, value, ap (λ (x : ℕ). digits * x) tens))

-- where a lower power makes the decimal whole too, the number of the higher is divisible by ten
tenfold : (w places digits power p m : ℕ) → w * 10 ^ places ≡ digits * 10 ^ power → m * 10 ^ places ≡ digits * 10 ^ p → p < power
    → w ≡ m * 10 ^ (power - suc p) * 10
tenfold w places digits power p m high low less =
    let k = power - suc p in
    let sum : power ≡ p + suc k = omega arith in
    let tens : 10 ^ power ≡ 10 ^ p * 10 ^ suc k = ap (λ (n : ℕ). 10 ^ n) sum ∙ pow-add 10 p (suc k) in
    let more = pow-suc 10 k in
    let all : 10 ^ power ≡ 10 ^ p * (10 ^ k * 10) = tens ∙ ap (λ (x : ℕ). 10 ^ p * x) (omega (arith, more)) in
    cancel w (m * 10 ^ k * 10) (10 ^ places) (ten_power places)
    (omega (arith, high, ap (λ (x : ℕ). x * (10 ^ k * 10)) low, ap (λ (x : ℕ). digits * x) all))

-- so the power is the least
pub least_power : (w i a h j b most times : ℕ) → w * 10 ^ i ≡ a * 10 ^ (most - times) → h * 10 ^ j ≡ b * 10 ^ (most - times)
    → ((x y : ℕ) → w ≡ x * 10 → h ≡ y * 10 → times ≡ most)
    → (p m n : ℕ) → m * 10 ^ i ≡ a * 10 ^ p → n * 10 ^ j ≡ b * 10 ^ p → most - times ≤ p
least_power w i a h j b most times width height least p m n first second =
    elim (nat_lt p (most - times)) as (λ t. nat_lt p (most - times) ≡ t → most - times ≤ p) [
      | true ↦ λ t. (
          let less = ltb-true _ _ t in
          let all = least _ _ (tenfold w i a (most - times) p m width first less) (tenfold h j b (most - times) p n height second less) in
          absurd (omega (arith, all, less)))
      | false ↦ λ t. ltb-false _ _ t
    ] refl

-- one power makes one whole number
pub same_whole : (places digits power other w v : ℕ) → w * 10 ^ places ≡ digits * 10 ^ power → v * 10 ^ places ≡ digits * 10 ^ other → power ≡ other → w ≡ v
same_whole places digits power other w v first second same =
    cancel w v (10 ^ places) (ten_power places) (first ∙ ap (λ (n : ℕ). digits * 10 ^ n) same ∙ sym second)

-- digits before and behind the point in units are the decimal
pub units_value : (whole behind places most units digits : ℕ) → places ≤ most → units ≡ whole * 10 ^ most + behind * 10 ^ (most - places)
    → digits ≡ whole * 10 ^ places + behind → units * 10 ^ places ≡ digits * 10 ^ most
units_value whole behind places most units digits few is value =
    let sum : most ≡ (most - places) + places = omega arith in
    let tens : 10 ^ most ≡ 10 ^ (most - places) * 10 ^ places = ap (λ (n : ℕ). 10 ^ n) sum ∙ pow-add 10 (most - places) places in
    omega (arith, ap (λ (x : ℕ). x * 10 ^ places) is, ap (λ (x : ℕ). x * 10 ^ most) value, ap (λ (x : ℕ). behind * x) tens)

-- a number that ends in 0 is divided once more
pub once_more : (number left places : ℕ) → 0 < places → places ≤ 18 → left % 10 ≡ 0 → number ≡ left * 10 ^ (18 - places) → number ≡ left / 10 * 10 ^ (18 - (places - 1))
once_more number left places some few none is =
    let k = 18 - places in
    let next : 18 - (places - 1) ≡ suc k = omega arith in
    let whole : left ≡ left / 10 * 10 = omega (arith, none) in
    omega (arith, is, ap (λ (x : ℕ). x * 10 ^ k) whole, ap (λ (n : ℕ). left / 10 * 10 ^ n) next, ap (λ (x : ℕ). left / 10 * x) (pow-suc 10 k))

-- Where a text is cut.

-- no byte of the text is this one
abbrev Avoids : ℕ → List ℕ → Type 0
Avoids c text = (i : ℕ) → i < length text → get_or text i 0 ≢ c

avoids_first : (c x : ℕ) (xs : List ℕ) → x ≢ c → Avoids c xs → Avoids c (x ∷ xs)
avoids_first c x xs other rest zero less = other
avoids_first c x xs other rest (suc i) less = rest i (omega arith)

avoids_both : (c : ℕ) (xs ys : List ℕ) → Avoids c xs → Avoids c ys → Avoids c (xs ++ ys)
avoids_both c [] ys first second = second
avoids_both c (x ∷ xs) ys first second = avoids_first c x (xs ++ ys) (first 0 (omega arith)) (avoids_both c xs ys (λ i less. first (suc i) (omega arith)) second)

own : IsNumeralModel (AllDigits 10) (digits_value 10)
own = numerals_by_value (AllDigits 10) tells_digits

digits_avoid : (c : ℕ) (ds : List ℕ) → AllDigits 10 ds → c < 48 → Avoids c ds
digits_avoid c ds digits low = not_in_digits own ds c digits (λ r. absurd (omega (arith, r.0)))

-- a decimal has no comma
decimal_avoids : (text whole fraction : List ℕ) → IsWritten text whole fraction → AllDigits 10 whole → AllDigits 10 fraction → Avoids comma text
decimal_avoids text whole fraction written before behind = elim written [
  | inl e ↦ subst (Avoids comma) (sym e) (avoids_both comma whole (point ∷ fraction) (digits_avoid comma whole before (omega arith))
      (avoids_first comma point fraction (λ same. absurd (omega (arith, same))) (digits_avoid comma fraction behind (omega arith))))
  | inr e ↦ subst (Avoids comma) (sym e.0) (digits_avoid comma whole before (omega arith))
]

-- digits are tested so
pub all_ascii : (word : List ℕ) → AllDigits 10 word → list_all is_ascii_digit word ≡ true
all_ascii [] h = refl
all_ascii (d ∷ ds) h = let r = digit_from_value d h.0 in rw (le-leb 48 d r.0, le-leb d 57 r.1, all_ascii ds h.1) refl

-- and what is tested so is digits
pub all_digits : (word : List ℕ) → list_all is_ascii_digit word ≡ true → AllDigits 10 word
all_digits [] h = tt
all_digits (d ∷ ds) h =
    let r = both _ _ h in
    let w = digit_worth d r.0 in
    (omega (arith, w), all_digits ds r.1)

-- a point is no digit
no_point : (before behind : List ℕ) → AllDigits 10 (before ++ point ∷ behind) → ⊥
no_point before behind digits = absurd (omega (arith, (digit_from_value point (last_digits before (point ∷ behind) digits).0).0))

-- the parts before the first point and behind it
pub parts_at_point : (text : List ℕ) (r : Option (Bor (List ℕ) × Bor (List ℕ))) → IsSplitOnceResult 46 text r
    → MatchOption r (ArePartsOf text text []) (λ x. ArePartsOf text x.0.now x.1.now)
parts_at_point text None h = record {
  written = inr (refl, refl);
  only = λ w f written digits. elim written [
    | inl e ↦ absurd (split_after 46 text w f None h (omega arith) e (digits_avoid 46 w digits (omega arith)))
    | inr e ↦ (sym e.0, e.1)
  ];
}
parts_at_point text (Some x) h =
    let parts = split_parts 46 text (Some x) h (omega arith) in
    record {
      written = inl parts.0;
      only = λ w f written digits. elim written [
        | inl e ↦ (let same = split_after 46 text w f (Some x) h (omega arith) e (digits_avoid 46 w digits (omega arith)) in (sym same.0, sym same.1))
        | inr e ↦ absurd (no_point x.0.now x.1.now (subst (AllDigits 10) (sym e.0 ∙ parts.0) digits))
      ];
    }

-- the two texts of a spacing are those at its first comma
pub texts_at_comma : (text w h : List ℕ) (r : Option (Bor (List ℕ) × Bor (List ℕ))) → IsSplitOnceResult 44 text r → text ≡ w ++ comma ∷ h → (a i : ℕ) → IsDecimal w a i
    → MatchOption r ⊥ (λ x. (x.0.now ≡ w) × (x.1.now ≡ h))
texts_at_comma text w h r split written a i decimal =
    split_after 44 text w h r split (omega arith) written (decimal_avoids w decimal.whole decimal.fraction decimal.written decimal.before.digits decimal.behind.digits)

-- Decimals in units.

-- of parts that are few digits, and one at least
pub units_of_parts : (text whole fraction : List ℕ) (units : ℕ) → ArePartsOf text whole fraction → IsFewDigits whole → IsFewDigits fraction → 0 < length whole + length fraction
    → units ≡ digits_value 10 whole * 10 ^ 18 + digits_value 10 fraction * 10 ^ (18 - length fraction) → IsUnits text units
units_of_parts text whole fraction units parts before behind some is = record {
  digits = digits_value 10 whole * 10 ^ length fraction + digits_value 10 fraction;
  places = length fraction;
  decimal = record {
    whole = whole;
    fraction = fraction;
    written = parts.written;
    before = before;
    behind = behind;
    some = some;
    digits_are = refl;
    places_are = refl;
  };
  value = λ d p decimal. (
      let same = parts.only decimal.whole decimal.fraction decimal.written decimal.before.digits in
      let places : p ≡ length fraction = decimal.places_are ∙ ap length same.1 in
      let digits : d ≡ digits_value 10 whole * 10 ^ length fraction + digits_value 10 fraction =
      decimal.digits_are ∙ ap (λ (ds : List ℕ). digits_value 10 ds * 10 ^ length decimal.fraction + digits_value 10 decimal.fraction) same.0
      ∙ ap (λ (ds : List ℕ). digits_value 10 whole * 10 ^ length ds + digits_value 10 ds) same.1 in
      ap (λ (n : ℕ). units * 10 ^ n) places
      ∙ units_value (digits_value 10 whole) (digits_value 10 fraction) (length fraction) 18 units d behind.few is digits);
}

-- of other parts there is none
pub no_decimal : (text whole fraction : List ℕ) → ArePartsOf text whole fraction → ((IsFewDigits whole × IsFewDigits fraction × (0 < length whole + length fraction)) → ⊥)
    → (digits places : ℕ) → IsDecimal text digits places → ⊥
no_decimal text whole fraction parts none digits places decimal =
    let same = parts.only decimal.whole decimal.fraction decimal.written decimal.before.digits in
    none (
      subst IsFewDigits same.0 decimal.before,
      subst IsFewDigits same.1 decimal.behind,
      omega (arith, decimal.some, ap length same.0, ap length same.1),
    )

-- both cases at once
pub units_matched : (text whole fraction : List ℕ) (r : Option ℕ) → ArePartsOf text whole fraction
    → MatchOption r ((IsFewDigits whole × IsFewDigits fraction × (0 < length whole + length fraction)) → ⊥)
    (λ units. IsFewDigits whole × IsFewDigits fraction × (0 < length whole + length fraction) × (units ≡ digits_value 10 whole * 10 ^ 18 + digits_value 10 fraction * 10 ^ (18 - length fraction)))
    → MatchOption r ((digits places : ℕ) → IsDecimal text digits places → ⊥) (IsUnits text)
units_matched text whole fraction None parts none = no_decimal text whole fraction parts none
units_matched text whole fraction (Some units) parts are = units_of_parts text whole fraction units parts are.0 are.1 are.2 are.3

-- The spacing of a text.

-- of two decimals, divided as often as both stay whole
pub spacing_text : (text w h : List ℕ) (a b width height : ℕ) → text ≡ w ++ comma ∷ h → IsUnits w a → IsUnits h b → IsLeastUnit a b width height
    → IsSpacingText text (record { width = width; height = height; kind = Whole })
spacing_text text w h a b width height written first second l =
    let left = whole_of a first.digits first.places l.times width 18 (first.value first.digits first.places first.decimal) l.width_is l.most in
    let right = whole_of b second.digits second.places l.times height 18 (second.value second.digits second.places second.decimal) l.height_is l.most in
    record {
      width_text = w;
      height_text = h;
      written = written;
      width_digits = first.digits;
      width_places = first.places;
      width_is = first.decimal;
      height_digits = second.digits;
      height_places = second.places;
      height_is = second.decimal;
      power = 18 - l.times;
      width = left;
      height = right;
      kind = refl;
      least = least_power width first.places first.digits height second.places second.digits 18 l.times left right l.least;
    }

-- it is the only one
pub only_spacing : (text w h : List ℕ) (a b width height : ℕ) (s : Distances) (named : IsSpacingText text s) → named.width_text ≡ w → named.height_text ≡ h
    → IsUnits w a → IsUnits h b → IsLeastUnit a b width height → (s.width ≡ width) × (s.height ≡ height)
only_spacing text w h a b width height s named first_text second_text first second l =
    let wd = subst (λ t. IsDecimal t named.width_digits named.width_places) first_text named.width_is in
    let hd = subst (λ t. IsDecimal t named.height_digits named.height_places) second_text named.height_is in
    let left = whole_of a named.width_digits named.width_places l.times width 18 (first.value _ _ wd) l.width_is l.most in
    let right = whole_of b named.height_digits named.height_places l.times height 18 (second.value _ _ hd) l.height_is l.most in
    let below : named.power ≤ 18 - l.times = named.least (18 - l.times) width height left right in
    let above = least_power width named.width_places named.width_digits height named.height_places named.height_digits 18 l.times left right l.least
    named.power s.width s.height named.width named.height in
    let same : named.power ≡ 18 - l.times = omega (arith, below, above) in (
      same_whole named.width_places named.width_digits named.power (18 - l.times) s.width width named.width left same,
      same_whole named.height_places named.height_digits named.power (18 - l.times) s.height height named.height right same,
    )

-- both cases at once
pub spacing_matched : (text : List ℕ) (split : Option (Bor (List ℕ) × Bor (List ℕ))) (x : Bor (List ℕ) × Bor (List ℕ)) (a b width height : ℕ) (r : Option Distances)
    → IsSplitOnceResult 44 text split → split ≡ Some x → IsUnits x.0.now a → IsUnits x.1.now b → IsLeastUnit a b width height
    → MatchOption r (IsSpacing (record { width = width; height = height; kind = Whole }) → ⊥) (λ s. s ≡ record { width = width; height = height; kind = Whole })
    → MatchOption r ((s : Distances) → IsSpacing s → IsSpacingText text s → ⊥) (IsSpacingText text)
spacing_matched text split x a b width height None h is first second least none = λ s fits named. (
    let texts = rw is at (texts_at_comma text named.width_text named.height_text split h named.written named.width_digits named.width_places named.width_is) in
    let same = only_spacing text x.0.now x.1.now a b width height s named (sym texts.0) (sym texts.1) first second least in
    let all : s ≡ record { width = width; height = height; kind = Whole } = λ i. record { width = same.0 i; height = same.1 i; kind = named.kind i } in
    none (subst IsSpacing all fits))
spacing_matched text split x a b width height (Some s) h is first second least same =
    let parts = rw is at (split_parts 44 text split h (omega arith)) in
    subst (IsSpacingText text) (sym same) (spacing_text text x.0.now x.1.now a b width height parts.0 first second least)
