-- The bits of places in words, after some are set.
use Rattle.drain_basin.proofs.Names.{◌≡◌, ◌≢◌, ◌<◌, ◌≤◌, ◌+◌, ◌-◌, ◌*◌, ◌^◌, ◌/◌, ◌%◌, ◌↔◌, ℕ, cond, List, ◌++◌, length, max, take, replicate, nat_eq, get_or, slice_set, bit_and, bit_or, IsTrue, inl, inr, zero, sym, ◌∙◌, ap, subst, suc, refl, arith, rules, w16, w64, bit_at, Width, cases_Bool, cases_eq, cases_lt, eqb-true, eq-eqb, cond-true, false≢true, bit_at-zero, bit_at_above, bit_at_cat_low, bit_at_cat_high, bit_at_or, bit_at_set_same, bit_at_set_other, shr_and_one, low_bit, high_bit, word}
use mir.Val.{bits}
use Rattle.std.proofs.lemmas.List.{get_or-append_right, get_or-replicate, length-replicate, get_or-set_other, get_or-set_same, get_or_append_left, get_or_past, take-append-le, take_all}

-- the test of one bit
pub clear_test : (n i : ℕ) → IsTrue (nat_eq (bit_and (n / 2 ^ i) 1) 0) ↔ (bit_at n i ≡ 0)
clear_test n i = (λ h. sym (shr_and_one n i) ∙ eqb-true (bit_and (n / 2 ^ i) 1) 0 h, λ e. eq-eqb (bit_and (n / 2 ^ i) 1) 0 (shr_and_one n i ∙ e))

-- a bit that is set in one word of a table is set at one place
module _ (w : Width) (size : ℕ) (same_place : (m n : ℕ) → m / size ≡ n / size → m % size ≡ n % size → m ≡ n) (old new : ℕ → ℕ) (place : ℕ)
    (within : place % size < bits w) (here : new (place / size) ≡ bit_or (old (place / size)) (1 * 2 ^ (place % size) % 2 ^ bits w))
    (apart : (q : ℕ) → place / size ≢ q → new q ≡ old q) where
  place_set : (p : ℕ) → bit_at (new (p / size)) (p % size) ≡ cond (nat_eq place p) 1 (bit_at (old (p / size)) (p % size))
  place_set p = elim (cases_Bool (nat_eq place p)) [
    | inl same ↦
        subst (λ q. bit_at (new (q / size)) (q % size) ≡ cond (nat_eq place q) 1 (bit_at (old (q / size)) (q % size))) (eqb-true place p same)
        ((ap (λ n. bit_at n (place % size)) here ∙ bit_at_set_same w (old (place / size)) (place % size) within)
        ∙ sym (cond-true (nat_eq place place) 1 (bit_at (old (place / size)) (place % size)) (eq-eqb place place refl)))
    | inr other ↦
        let differ : place ≢ p = λ e. false≢true (sym other ∙ eq-eqb place p e) in
        stays differ ∙ sym (ap (λ b. cond b 1 (bit_at (old (p / size)) (p % size))) other)
  ]
    where
      stays : place ≢ p → bit_at (new (p / size)) (p % size) ≡ bit_at (old (p / size)) (p % size)
      stays differ = elim (cases_eq (place / size) (p / size)) [
        | inl word ↦
            subst (λ q. bit_at (new q) (p % size) ≡ bit_at (old q) (p % size)) word
            (ap (λ n. bit_at n (p % size)) here
            ∙ bit_at_set_other w (old (place / size)) (place % size) within (p % size) (λ e. differ (same_place place p word (sym e))))
        | inr other ↦ ap (λ n. bit_at n (p % size)) (apart (p / size) other)
      ]

-- number and bit give a place
same_low : (m n : ℕ) → m / 64 ≡ n / 64 → m % 64 ≡ n % 64 → m ≡ n
same_low m n numbers bits = omega arith

same_high : (m n : ℕ) → m / 16 ≡ n / 16 → m % 16 ≡ n % 16 → m ≡ n
same_high m n blocks bits = omega arith

-- one more bit among the lowest
pub low_set : (low : List ℕ) (place : ℕ) → place / 64 < length low → (p : ℕ) →
    low_bit (slice_set low (place / 64) (bit_or (get_or low (place / 64) 0) (1 * 2 ^ (place % 64) % 2 ^ 64))) p ≡ cond (nat_eq place p) 1 (low_bit low p)
low_set low place within =
    let value : ℕ = bit_or (get_or low (place / 64) 0) (1 * 2 ^ (place % 64) % 2 ^ 64) in
    place_set w64 64 same_low (λ k. get_or low k 0) (λ k. get_or (slice_set low (place / 64) value) k 0) place (omega arith)
    (get_or-set_same low (place / 64) value 0 within) (λ q differ. get_or-set_other low (place / 64) q value 0 (λ e. differ (sym e)))

-- one more bit in the blocks
pub high_set : (old new : List (ℕ × ℕ)) (place found : ℕ) → found ≡ word old (place / 16) →
    ((q : ℕ) → word new q ≡ cond (nat_eq (place / 16) q) (bit_or found (1 * 2 ^ (place % 16) % 2 ^ 16)) (word old q)) → (p : ℕ) →
    high_bit new p ≡ cond (nat_eq place p) 1 (high_bit old p)
high_set old new place found is_found put =
    let block : ℕ = place / 16 in
    let value : ℕ = bit_or found (1 * 2 ^ (place % 16) % 2 ^ 16) in
    place_set w16 16 same_high (word old) (word new) place (omega arith)
    (put block ∙ (cond-true (nat_eq block block) value (word old block) (eq-eqb block block refl) ∙ ap (λ n. bit_or n (1 * 2 ^ (place % 16) % 2 ^ 16)) is_found))
    (λ q differ. elim (cases_Bool (nat_eq block q)) [
      | inl same ↦ absurd (differ (eqb-true block q same))
      | inr other ↦ put q ∙ ap (λ b. cond b value (word old q)) other
    ])

-- a bitmap of 16 fits at each quarter of a word
shift_fits : (n k : ℕ) → n < 2 ^ 16 → k < 4 → n * 2 ^ (16 * k) < 2 ^ 64
shift_fits n zero small quarter = omega arith
shift_fits n (suc zero) small quarter = omega arith
shift_fits n (suc (suc zero)) small quarter = omega arith
shift_fits n (suc (suc (suc zero))) small quarter = omega arith
shift_fits n (suc (suc (suc (suc k)))) small quarter = absurd (omega arith)

-- the bits of a bitmap that was shifted
shifted : (n k : ℕ) → n < 2 ^ 16 → k < 4 → n * 2 ^ (16 * k) % 2 ^ 64 ≡ n * 2 ^ (16 * k) + 0
shifted n k small quarter = let fits : n * 2 ^ (16 * k) < 2 ^ 64 = shift_fits n k small quarter in omega arith

shifted_inside : (n k i : ℕ) → n < 2 ^ 16 → k < 4 → 16 * k ≤ i → bit_at (n * 2 ^ (16 * k) % 2 ^ 64) i ≡ bit_at n (i - 16 * k)
shifted_inside n k i small quarter from =
    ap (λ m. bit_at m i) (shifted n k small quarter) ∙ bit_at_cat_high n (16 * k) 0 i (search (rules, arith)) from

shifted_outside : (n k i : ℕ) → n < 2 ^ 16 → k < 4 → i / 16 ≢ k → bit_at (n * 2 ^ (16 * k) % 2 ^ 64) i ≡ 0
shifted_outside n k i small quarter other = elim (cases_lt i (16 * k)) [
  | inl below ↦ ap (λ m. bit_at m i) (shifted n k small quarter) ∙ (bit_at_cat_low n (16 * k) 0 i below ∙ bit_at-zero i)
  | inr from ↦ shifted_inside n k i small quarter from ∙ bit_at_above n 16 (i - 16 * k) small (omega arith)
]

-- a block's bits beside those that were there
pub low_added : (low : List ℕ) (block bitmap : ℕ) → block / 4 < length low → bitmap < 2 ^ 16 → (p : ℕ) →
    low_bit (slice_set low (block / 4) (bit_or (get_or low (block / 4) 0) (bitmap * 2 ^ (16 * (block % 4)) % 2 ^ 64))) p ≡
    cond (nat_eq block (p / 16)) (max (low_bit low p) (bit_at bitmap (p % 16))) (low_bit low p)
low_added low block bitmap within small p =
    elim (cases_Bool (nat_eq block (p / 16))) [
      | inl same ↦
          let is : block ≡ p / 16 = eqb-true block (p / 16) same in
          in_word (omega arith)
          ∙ (ap (max (low_bit low p)) (shifted_inside bitmap (block % 4) (p % 64) small (omega arith) (omega arith) ∙ ap (bit_at bitmap) (omega arith))
          ∙ sym (cond-true (nat_eq block (p / 16)) (max (low_bit low p) (bit_at bitmap (p % 16))) (low_bit low p) same))
      | inr other ↦
          let differ : block ≢ p / 16 = λ e. false≢true (sym other ∙ eq-eqb block (p / 16) e) in
          stays differ ∙ sym (ap (λ b. cond b (max (low_bit low p) (bit_at bitmap (p % 16))) (low_bit low p)) other)
    ]
  where
    value : ℕ
    value = bit_or (get_or low (block / 4) 0) (bitmap * 2 ^ (16 * (block % 4)) % 2 ^ 64)

    in_word : block / 4 ≡ p / 64 → low_bit (slice_set low (block / 4) value) p ≡ max (low_bit low p) (bit_at (bitmap * 2 ^ (16 * (block % 4)) % 2 ^ 64) (p % 64))
    in_word number =
        ap (λ q. bit_at (get_or (slice_set low (block / 4) value) q 0) (p % 64)) (sym number)
        ∙ (ap (λ n. bit_at n (p % 64)) (get_or-set_same low (block / 4) value 0 within)
        ∙ (bit_at_or (get_or low (block / 4) 0) (bitmap * 2 ^ (16 * (block % 4)) % 2 ^ 64) (p % 64)
        ∙ ap (λ q. max (bit_at (get_or low q 0) (p % 64)) (bit_at (bitmap * 2 ^ (16 * (block % 4)) % 2 ^ 64) (p % 64))) number))

    stays : block ≢ p / 16 → low_bit (slice_set low (block / 4) value) p ≡ low_bit low p
    stays differ = elim (cases_eq (block / 4) (p / 64)) [
      | inl number ↦
          let quarter : (p % 64) / 16 ≢ block % 4 = λ e. differ (omega arith) in
          in_word number ∙ (ap (max (low_bit low p)) (shifted_outside bitmap (block % 4) (p % 64) small (omega arith) quarter) ∙ omega arith)
      | inr other ↦ ap (λ n. bit_at n (p % 64)) (get_or-set_other low (block / 4) (p / 64) value 0 (λ e. other (sym e)))
    ]

-- a block that is moved keeps its bits
pub moved : (low more : List ℕ) (high rest : List (ℕ × ℕ)) (block bitmap : ℕ) → bitmap ≡ word high block →
    ((q : ℕ) → word rest q ≡ cond (nat_eq block q) 0 (word high q)) →
    ((p : ℕ) → low_bit more p ≡ cond (nat_eq block (p / 16)) (max (low_bit low p) (bit_at bitmap (p % 16))) (low_bit low p)) → (p : ℕ) →
    max (low_bit more p) (high_bit rest p) ≡ max (low_bit low p) (high_bit high p)
moved low more high rest block bitmap is_bitmap taken added p = elim (cases_Bool (nat_eq block (p / 16))) [
  | inl same ↦
      let is : block ≡ p / 16 = eqb-true block (p / 16) same in
      let gone : high_bit rest p ≡ 0 =
      ap (λ n. bit_at n (p % 16)) (taken (p / 16) ∙ cond-true (nat_eq block (p / 16)) 0 (word high (p / 16)) same) ∙ bit_at-zero (p % 16) in
      let here : low_bit more p ≡ max (low_bit low p) (bit_at bitmap (p % 16)) =
      added p ∙ cond-true (nat_eq block (p / 16)) (max (low_bit low p) (bit_at bitmap (p % 16))) (low_bit low p) same in
      let bit : bit_at bitmap (p % 16) ≡ high_bit high p = ap (λ n. bit_at n (p % 16)) (is_bitmap ∙ ap (word high) is) in
      both (low_bit low p) (bit_at bitmap (p % 16)) (low_bit more p) (high_bit rest p) (high_bit high p) here gone bit
  | inr other ↦
      let high_stays : high_bit rest p ≡ high_bit high p =
      ap (λ n. bit_at n (p % 16)) (taken (p / 16) ∙ ap (λ b. cond b 0 (word high (p / 16))) other) in
      let low_stays : low_bit more p ≡ low_bit low p =
      added p ∙ ap (λ b. cond b (max (low_bit low p) (bit_at bitmap (p % 16))) (low_bit low p)) other in
      ap (λ l. max l (high_bit rest p)) low_stays ∙ ap (max (low_bit low p)) high_stays
]
  where
    both : (l b m r h : ℕ) → m ≡ max l b → r ≡ 0 → b ≡ h → max m r ≡ max l h
    both l b m r h is none same = omega arith

-- zeros at the end have no bit
zero_at : (k i : ℕ) → ◌≡◌ {A = ℕ} (get_or (replicate k 0) i 0) 0
zero_at k i = elim (cases_lt i k) [
  | inl within ↦ get_or-replicate k i 0 0 within
  | inr past ↦ get_or_past (replicate k 0) i 0 (omega (arith, length-replicate {A = ℕ} k 0))
]

pub low_longer : (low more : List ℕ) (n k : ℕ) → length low ≤ n → more ≡ take n low ++ replicate k 0 → (p : ℕ) → low_bit more p ≡ low_bit low p
low_longer low more n k long is p =
    ap (λ xs. low_bit xs p) (is ∙ ap (λ xs. xs ++ replicate k 0) (take_all n low long)) ∙ ap (λ m. bit_at m (p % 64)) (word_stays (p / 64))
  where
    word_stays : (i : ℕ) → get_or (low ++ replicate k 0) i 0 ≡ get_or low i 0
    word_stays i = elim (cases_lt i (length low)) [
      | inl within ↦ get_or_append_left low (replicate k 0) 0 i within
      | inr past ↦
          get_or-append_right low (replicate k 0) (length low) i 0 refl past ∙ (zero_at k (i - length low) ∙ sym (get_or_past low i 0 past))
    ]

-- a list that is written over one of its own length
pub whole : (xs zs : List ℕ) (n : ℕ) → length xs ≡ n → take n (xs ++ zs) ≡ xs
whole xs zs n long = take-append-le n xs zs (omega arith) ∙ take_all n xs (omega arith)

-- past the words there is no bit
pub low_past : (low : List ℕ) (place : ℕ) → length low ≤ place / 64 → low_bit low place ≡ 0
low_past low place past = ap (λ n. bit_at n (place % 64)) (get_or_past low (place / 64) 0 past) ∙ bit_at-zero (place % 64)
