-- What is admitted after a place's bit is set.
use Rattle.drain_basin.proofs.Names.{◌≡◌, ◌≢◌, ◌<◌, ◌/◌, ◌%◌, ℕ, ℤ, Bool, cond, false, true, List, max, nat_eq, get_or, FitsSigned, IsTrue, ◌↔◌, ◌⊎◌, inl, inr, sym, ◌∙◌, ap, subst, refl, arith, w64, of_z, to_z, cast_signed, cast_unsigned, cases_Bool, cond-true, eqb-true, eq-eqb, false≢true, bit_at-lt, high_bit, low_bit, set_bit, word, IsAdmitted, LabelSet}
use Rattle.std.proofs.lemmas.Int.{to_z-of_z}

-- new has the bits of old, and that of one more place
abbrev pub Adds : LabelSet → LabelSet → ℕ → Type 0
Adds old new place = (p : ℕ) → set_bit new p ≡ cond (nat_eq place p) 1 (set_bit old p)

-- two labels with one place are one
same_label : (a b : ℤ) → FitsSigned w64 a → FitsSigned w64 b → cast_unsigned w64 a ≡ cast_unsigned w64 b → a ≡ b
same_label a b fits_a fits_b same = sym (to_z-of_z w64 a fits_a) ∙ ap (cast_signed w64) same ∙ to_z-of_z w64 b fits_b

-- a label's place, as the code computes it
pub place_of : (label : ℤ) (place : ℕ) → FitsSigned w64 label → place ≡ cast_unsigned w64 (to_z w64 (of_z w64 label)) → place ≡ cast_unsigned w64 label
place_of label place fits is = is ∙ ap (cast_unsigned w64) (to_z-of_z w64 label fits)

-- then that label and those before it are admitted
pub admitted_after : (old new : LabelSet) (label : ℤ) (place : ℕ) → FitsSigned w64 label → place ≡ cast_unsigned w64 label → Adds old new place →
    (other : ℤ) → IsAdmitted new other ↔ ((other ≡ label) ⊎ IsAdmitted old other)
admitted_after old new label place fits is_place adds other =
    let asked : ℕ = cast_unsigned w64 other in
    elim (cases_Bool (nat_eq place asked)) [
      | inl same ↦
          let set : set_bit new asked ≡ 1 = adds asked ∙ cond-true (nat_eq place asked) 1 (set_bit old asked) same in (
            (λ now. inl (same_label other label now.fits fits (sym (eqb-true place asked same) ∙ is_place))),
            (λ told. elim told [
              | inl is ↦ record { fits = subst (FitsSigned w64) (sym is) fits; is_set = set }
              | inr before ↦ record { fits = before.fits; is_set = set }
            ]),
          )
      | inr apart ↦
          let stays : set_bit new asked ≡ set_bit old asked = adds asked ∙ ap (λ b. cond b 1 (set_bit old asked)) apart in (
            (λ now. inr (record { fits = now.fits; is_set = sym stays ∙ now.is_set })),
            (λ told. elim told [
              | inl is ↦ absurd (false≢true (sym apart ∙ eq-eqb place asked (is_place ∙ sym (ap (cast_unsigned w64) is))))
              | inr before ↦ record { fits = before.fits; is_set = stays ∙ before.is_set }
            ]),
          )
    ]

-- each bit is 0 or 1
set_below : (labels : LabelSet) (p : ℕ) → set_bit labels p < 2
set_below labels p =
    let l : low_bit labels.low p < 2 = bit_at-lt (get_or labels.low (p / 64) 0) (p % 64) in
    let h : high_bit labels.high p < 2 = bit_at-lt (word labels.high (p / 16)) (p % 16) in omega arith

-- a label is new where its place's bit is 0
pub new_where_clear : (old : LabelSet) (label : ℤ) (place : ℕ) (is_new : Bool) → FitsSigned w64 label → place ≡ cast_unsigned w64 label →
    IsTrue is_new ↔ (set_bit old place ≡ 0) → IsTrue is_new ↔ ¬ IsAdmitted old label
new_where_clear old label place is_new fits is_place told = (
  (λ is at. let clear : set_bit old place ≡ 0 = told.0 is in
      let one : set_bit old place ≡ 1 = ap (set_bit old) is_place ∙ at.is_set in absurd (omega arith)),
  (λ none. elim (cases_Bool is_new) [
    | inl is ↦ is
    | inr isnt ↦
        let differs : set_bit old place ≢ 0 = λ clear. false≢true (sym isnt ∙ told.1 clear) in
        let below : set_bit old place < 2 = set_below old place in
        let one : set_bit old place ≡ 1 = omega arith in
        absurd (none (record { fits = fits; is_set = sym (ap (set_bit old) is_place) ∙ one }))
  ]),
)

-- a place's bit that is set among the lowest
pub adds_low : (old : LabelSet) (low more : List ℕ) (high : List (ℕ × ℕ)) (place : ℕ) → ((p : ℕ) → max (low_bit low p) (high_bit high p) ≡ set_bit old p) →
    ((p : ℕ) → low_bit more p ≡ cond (nat_eq place p) 1 (low_bit low p)) → Adds old (record { low = more; high = high }) place
adds_low old low more high place same set p =
    let h : high_bit high p < 2 = bit_at-lt (word high (p / 16)) (p % 16) in
    ap (λ n. max n (high_bit high p)) (set p) ∙ (by_test (nat_eq place p) (low_bit low p) (high_bit high p) h ∙ ap (cond (nat_eq place p) 1) (same p))
  where
    by_test : (b : Bool) (l h : ℕ) → h < 2 → max (cond b 1 l) h ≡ cond b 1 (max l h)
    by_test true l h small = omega arith
    by_test false l h small = refl

-- a place's bit that is set in a block
pub adds_high : (old : LabelSet) (low : List ℕ) (high more : List (ℕ × ℕ)) (place : ℕ) → ((p : ℕ) → max (low_bit low p) (high_bit high p) ≡ set_bit old p) →
    ((p : ℕ) → high_bit more p ≡ cond (nat_eq place p) 1 (high_bit high p)) → Adds old (record { low = low; high = more }) place
adds_high old low high more place same set p =
    let l : low_bit low p < 2 = bit_at-lt (get_or low (p / 64) 0) (p % 64) in
    ap (max (low_bit low p)) (set p) ∙ (by_test (nat_eq place p) (low_bit low p) (high_bit high p) l ∙ ap (cond (nat_eq place p) 1) (same p))
  where
    by_test : (b : Bool) (l h : ℕ) → l < 2 → max l (cond b 1 h) ≡ cond b 1 (max l h)
    by_test true l h small = omega arith
    by_test false l h small = refl

-- a place's bit is that of the one kind of words where the other has none
pub only_low : (old : LabelSet) (low : List ℕ) (high : List (ℕ × ℕ)) (place : ℕ) → max (low_bit low place) (high_bit high place) ≡ set_bit old place →
    high_bit high place ≡ 0 → low_bit low place ≡ set_bit old place
only_low old low high place same none = plain (low_bit low place) (high_bit high place) (set_bit old place) same none
  where
    plain : (l h s : ℕ) → max l h ≡ s → h ≡ 0 → l ≡ s
    plain l h s same none = omega arith

pub only_high : (old : LabelSet) (low : List ℕ) (high : List (ℕ × ℕ)) (place : ℕ) → max (low_bit low place) (high_bit high place) ≡ set_bit old place →
    low_bit low place ≡ 0 → high_bit high place ≡ set_bit old place
only_high old low high place same none = plain (low_bit low place) (high_bit high place) (set_bit old place) same none
  where
    plain : (l h s : ℕ) → max l h ≡ s → l ≡ 0 → h ≡ s
    plain l h s same none = omega arith
