-- A row of a mosaic, as far as tiles were laid over it.
use Rattle.drain_mosaic.proofs.Names.{◌≡◌, ◌≢◌, ℕ, zero, suc, ◌+◌, ◌-◌, ◌<◌, ◌≤◌, ℤ, List, [], ◌∷◌, ◌++◌, length, Option, Some, arith, refl, sym, ap, ◌∙◌, inl, inr, subst, true, false, Bool, not, ◌&&◌, ◌||◌, int_eq, MatchOption, IsTrue, ◌⊎◌, slice_index_or, nat_le, nat_lt, list_any, false≢true, cases_lt, lt-ltb, le-leb, le-ltb, lt-leb, and_left, and_right, and_from, or_from, or_left, or_right, Decides-int_eq, fill_by_all, VOID, IsLeastOf, Conflict, ConflictOver, IsLaidOver, filled, first_of, nth_row, Stream, Frame, is_over, is_across, sample_given, first_sample, in_conflict, is_seam, first_from, mosaic_row, IsTileRowLaid}
use Rattle.std.proofs.Common.{None, cond}
use Rattle.std.proofs.lemmas.List.Folds.{list_any-append}
use Rattle.drain_mosaic.proofs.Joining.{least_join}

-- tests on numbers
pub eq_void : (z : ℤ) → z ≡ VOID → int_eq z VOID ≡ true
eq_void z e = (Decides-int_eq z VOID).1 e

pub ne_int : (z s : ℤ) → z ≢ s → int_eq z s ≡ false
ne_int z s ne = elim (int_eq z s) as (λ b. int_eq z s ≡ b → b ≡ false) [
  | true ↦ λ e. absurd (ne ((Decides-int_eq z s).0 e))
  | false ↦ λ e. refl
] refl

pub is_int : (z s : ℤ) → int_eq z s ≡ true → z ≡ s
is_int z s e = (Decides-int_eq z s).0 e

pub isnt_int : (z s : ℤ) → int_eq z s ≡ false → z ≢ s
isnt_int z s e is = false≢true (sym e ∙ (Decides-int_eq z s).1 is)

-- a void fills nothing
pub filled-void : (z : ℤ) → filled z VOID ≡ z
filled-void z = elim (int_eq z VOID) as (λ b. int_eq z VOID ≡ b → cond b VOID z ≡ z) [
  | true ↦ λ e. sym (is_int z VOID e)
  | false ↦ λ e. refl
] refl

pub filled-data : (z s : ℤ) → int_eq z VOID ≡ false → filled z s ≡ z
filled-data z s e = ap (λ b. cond b s z) e

pub filled-over : (z s : ℤ) → int_eq z VOID ≡ true → filled z s ≡ s
filled-over z s e = ap (λ b. cond b s z) e

pub filled_assoc : (a b d : ℤ) → filled a (filled b d) ≡ filled (filled a b) d
filled_assoc a b d = elim (int_eq a VOID) as (λ t. int_eq a VOID ≡ t → cond t (filled b d) a ≡ filled (cond t b a) d) [
  | true ↦ λ e. refl
  | false ↦ λ e. sym (filled-data a d e)
] refl

-- a conflict as a test
pub conflict-tests : (z s : ℤ) → Conflict z s → IsTrue (in_conflict z s)
conflict-tests z s c = ap (λ b. not b && (not (int_eq s VOID) && not (int_eq z s))) (ne_int z VOID c.0)
    ∙ ap (λ b. not b && not (int_eq z s)) (ne_int s VOID c.1) ∙ ap not (ne_int z s c.2)

pub tests-conflict : (z s : ℤ) → IsTrue (in_conflict z s) → Conflict z s
tests-conflict z s = elim (int_eq z VOID) as (λ a. int_eq z VOID ≡ a → IsTrue (not a && (not (int_eq s VOID) && not (int_eq z s))) → Conflict z s) [
  | true ↦ λ e h. absurd (false≢true h)
  | false ↦ λ e. elim (int_eq s VOID) as (λ b. int_eq s VOID ≡ b → IsTrue (not b && not (int_eq z s)) → Conflict z s) [
    | true ↦ λ f h. absurd (false≢true h)
    | false ↦ λ f. elim (int_eq z s) as (λ d. int_eq z s ≡ d → IsTrue (not d) → Conflict z s) [
      | true ↦ λ g h. absurd (false≢true h)
      | false ↦ λ g h. (isnt_int z VOID e, isnt_int s VOID f, isnt_int z s g)
    ] refl
  ] refl
] refl

-- a void is in no conflict
pub void-agrees : (z s : ℤ) → int_eq z VOID ≡ true → in_conflict z s ≡ false
void-agrees z s e = ap (λ b. not b && (not (int_eq s VOID) && not (int_eq z s))) e

pub agrees-void : (z : ℤ) → in_conflict z VOID ≡ false
agrees-void z = elim (int_eq z VOID) as (λ a. int_eq z VOID ≡ a → (not a && (not (int_eq VOID VOID) && not (int_eq z VOID))) ≡ false) [
  | true ↦ λ e. refl
  | false ↦ λ e. refl
] refl

pub agrees-self : (z : ℤ) → in_conflict z z ≡ false
agrees-self z = ap (λ b. not (int_eq z VOID) && (not (int_eq z VOID) && not b)) ((Decides-int_eq z z).1 refl)
    ∙ and_right (not (int_eq z VOID)) (not (int_eq z VOID) && false) (and_right (not (int_eq z VOID)) false refl)

-- the least place of one property is that of another that says the same
pub least-same : (P Q : ℕ → Type 0) (n : ℕ) (found : Option ℕ) → IsLeastOf P n found → ((k : ℕ) → k < n → P k → Q k) → ((k : ℕ) → k < n → Q k → P k) → IsLeastOf Q n found
least-same P Q n None p there back = λ k inside q. p k inside (back k inside q)
least-same P Q n (Some a) p there back = (p.0, there a p.0 p.1, λ k before q. p.2 k before (back k (omega (arith, p.0)) q))

-- a tile's sample at a column
pub sample-inside : (side row col : ℕ) (s : Stream) → s.place.row ≤ row → row < s.place.row + side → s.place.col ≤ col → col < s.place.col + side →
    sample_given side row col s ≡ slice_index_or (nth_row 0 s.coming) (col - s.place.col) VOID
sample-inside side row col s a b d e =
    let over : is_over side row s ≡ true = and_from (nat_le s.place.row row) (nat_lt row (s.place.row + side)) (le-leb s.place.row row a) (lt-ltb row (s.place.row + side) b) in
    let across : is_across side col s ≡ true = and_from (nat_le s.place.col col) (nat_lt col (s.place.col + side)) (le-leb s.place.col col d) (lt-ltb col (s.place.col + side) e) in
    ap (λ t. cond t (slice_index_or (nth_row 0 s.coming) (col - s.place.col) VOID) VOID) (and_from (is_over side row s) (is_across side col s) over across)

pub over-not : (side row : ℕ) (s : Stream) → (row < s.place.row) ⊎ (s.place.row + side ≤ row) → is_over side row s ≡ false
over-not side row s (inl above) = and_left (nat_le s.place.row row) (nat_lt row (s.place.row + side)) (lt-leb s.place.row row above)
over-not side row s (inr below) = and_right (nat_le s.place.row row) (nat_lt row (s.place.row + side)) (le-ltb row (s.place.row + side) below)

pub over-is : (side row : ℕ) (s : Stream) → s.place.row ≤ row → row < s.place.row + side → is_over side row s ≡ true
over-is side row s a b = and_from (nat_le s.place.row row) (nat_lt row (s.place.row + side)) (le-leb s.place.row row a) (lt-ltb row (s.place.row + side) b)

pub sample-not_over : (side row col : ℕ) (s : Stream) → is_over side row s ≡ false → sample_given side row col s ≡ VOID
sample-not_over side row col s not_over =
    ap (λ t. cond t (slice_index_or (nth_row 0 s.coming) (col - s.place.col) VOID) VOID) (and_left (is_over side row s) (is_across side col s) not_over)

pub sample-beside : (side row col : ℕ) (s : Stream) → (col < s.place.col) ⊎ (s.place.col + side ≤ col) → sample_given side row col s ≡ VOID
sample-beside side row col s out =
    ap (λ t. cond t (slice_index_or (nth_row 0 s.coming) (col - s.place.col) VOID) VOID) (and_right (is_over side row s) (is_across side col s) (across-not out))
  where
    across-not : (col < s.place.col) ⊎ (s.place.col + side ≤ col) → is_across side col s ≡ false
    across-not (inl before) = and_left (nat_le s.place.col col) (nat_lt col (s.place.col + side)) (lt-leb s.place.col col before)
    across-not (inr behind) = and_right (nat_le s.place.col col) (nat_lt col (s.place.col + side)) (le-ltb col (s.place.col + side) behind)

pub sample-none : (side row col : ℕ) (s : Stream) → nth_row 0 s.coming ≡ [] → sample_given side row col s ≡ VOID
sample-none side row col s none = elim (is_over side row s && is_across side col s) as (λ t. cond t (slice_index_or (nth_row 0 s.coming) (col - s.place.col) VOID) VOID ≡ VOID) [
  | true ↦ ap (λ row. slice_index_or row (col - s.place.col) VOID) none
  | false ↦ refl
]

-- a tile that doesn't lie over the row changes nothing
pub not-laid : (side row : ℕ) (s : Stream) (old : List ℤ) → is_over side row s ≡ false → IsTileRowLaid side row s old old None
not-laid side row s old not_over = record {
  values = λ col inside. sym (filled-void (slice_index_or old col VOID)) ∙ ap (filled (slice_index_or old col VOID)) (sym (sample-not_over side row col s not_over));
  first = λ col inside h. false≢true (sym (ap (in_conflict (slice_index_or old col VOID)) (sample-not_over side row col s not_over) ∙ agrees-void (slice_index_or old col VOID)) ∙ h);
}

-- a tile whose row was laid over
pub tile-laid : (side row : ℕ) (s : Stream) (part old new : List ℤ) (found : Option ℕ) → s.place.row ≤ row → row < s.place.row + side → part ≡ nth_row 0 s.coming → (length part ≡ side) ⊎ (part ≡ []) →
    s.place.col + side ≤ length old → IsLaidOver s.place.col part old new found → IsTileRowLaid side row s old new found
tile-laid side row s part old new found from_top to_bottom is (inl long) fits laid = record {
  values = value;
  first = least-same (ConflictOver left part old) (λ col. IsTrue (in_conflict (slice_index_or old col VOID) (sample_given side row col s))) (length old) found laid.first
      (λ col inside c. subst (λ z. IsTrue (in_conflict (slice_index_or old col VOID) z)) (sym (given col c.from_left (omega (arith, c.to_right, long)))) (conflict-tests (slice_index_or old col VOID) (slice_index_or part (col - left) VOID) c.conflict))
      back;
}
  where
    left : ℕ
    left = s.place.col

    given : (col : ℕ) → left ≤ col → col < left + side → sample_given side row col s ≡ slice_index_or part (col - left) VOID
    given col from to = sample-inside side row col s from_top to_bottom from to ∙ ap (λ row. slice_index_or row (col - left) VOID) (sym is)

    aside : (col : ℕ) → (col < left) ⊎ (left + side ≤ col) → slice_index_or new col VOID ≡ filled (slice_index_or old col VOID) (sample_given side row col s)
    aside col out = laid.outside col (subst (λ n. (col < left) ⊎ (left + n ≤ col)) (sym long) out) ∙ sym (filled-void (slice_index_or old col VOID)) ∙ ap (filled (slice_index_or old col VOID)) (sym (sample-beside side row col s out))

    value : (col : ℕ) → col < length old → slice_index_or new col VOID ≡ filled (slice_index_or old col VOID) (sample_given side row col s)
    value col inside = elim (cases_lt col left) [
      | inl before ↦ aside col (inl before)
      | inr from ↦ elim (cases_lt col (left + side)) [
        | inl to ↦ (
            let e : left + (col - left) ≡ col = omega arith in
            subst (λ c. slice_index_or new c VOID ≡ filled (slice_index_or old c VOID) (slice_index_or part (col - left) VOID)) e (laid.inside (col - left) (omega (arith, long)))
            ∙ ap (filled (slice_index_or old col VOID)) (sym (given col from to)))
        | inr behind ↦ aside col (inr behind)
      ]
    ]

    agree : (col : ℕ) → (col < left) ⊎ (left + side ≤ col) → IsTrue (in_conflict (slice_index_or old col VOID) (sample_given side row col s)) → ⊥
    agree col out h = false≢true (sym (ap (in_conflict (slice_index_or old col VOID)) (sample-beside side row col s out) ∙ agrees-void (slice_index_or old col VOID)) ∙ h)

    back : (col : ℕ) → col < length old → IsTrue (in_conflict (slice_index_or old col VOID) (sample_given side row col s)) → ConflictOver left part old col
    back col inside h = elim (cases_lt col left) [
      | inl before ↦ absurd (agree col (inl before) h)
      | inr from ↦ elim (cases_lt col (left + side)) [
        | inl to ↦ record {
          from_left = from;
          to_right = omega (arith, long, to);
          conflict = tests-conflict (slice_index_or old col VOID) (slice_index_or part (col - left) VOID) (subst (λ z. IsTrue (in_conflict (slice_index_or old col VOID) z)) (given col from to) h);
        }
        | inr behind ↦ absurd (agree col (inr behind) h)
      ]
    ]
tile-laid side row s part old new found from_top to_bottom is (inr none) fits laid = record {
  values = λ col inside. laid.outside col (outside col) ∙ sym (filled-void (slice_index_or old col VOID)) ∙ ap (filled (slice_index_or old col VOID)) (sym (void col));
  first = least-same (ConflictOver s.place.col part old) (λ col. IsTrue (in_conflict (slice_index_or old col VOID) (sample_given side row col s))) (length old) found laid.first
      (λ col inside c. absurd (omega (arith, c.from_left, c.to_right, ap length none)))
      (λ col inside h. absurd (false≢true (sym (ap (in_conflict (slice_index_or old col VOID)) (void col) ∙ agrees-void (slice_index_or old col VOID)) ∙ h)));
}
  where
    void : (col : ℕ) → sample_given side row col s ≡ VOID
    void col = sample-none side row col s (sym is ∙ none)

    outside : (col : ℕ) → (col < s.place.col) ⊎ (s.place.col + length part ≤ col)
    outside col = elim (cases_lt col s.place.col) [
      | inl before ↦ inl before
      | inr from ↦ inr (omega (arith, ap length none))
    ]

-- the first sample with one tile more
pub first_sample-push : (side row col : ℕ) (xs : List Stream) (s : Stream) → first_sample side row col (xs ++ s ∷ []) ≡ filled (first_sample side row col xs) (sample_given side row col s)
first_sample-push side row col [] s = filled-void (sample_given side row col s)
first_sample-push side row col (x ∷ xs) s = ap (filled (sample_given side row col x)) (first_sample-push side row col xs s)
    ∙ filled_assoc (sample_given side row col x) (first_sample side row col xs) (sample_given side row col s)

-- where the first sample is a void all are
pub all-agree : (side row col : ℕ) (z : ℤ) (xs : List Stream) → int_eq (first_sample side row col xs) VOID ≡ true → list_any (λ x. in_conflict z (sample_given side row col x)) xs ≡ false
all-agree side row col z [] void = refl
all-agree side row col z (x ∷ xs) is_void = (elim (int_eq (sample_given side row col x) VOID) as
    (λ b. int_eq (sample_given side row col x) VOID ≡ b → int_eq (cond b (first_sample side row col xs) (sample_given side row col x)) VOID ≡ true → list_any (λ x. in_conflict z (sample_given side row col x)) (x ∷ xs) ≡ false) [
      | true ↦ λ e void. or_from (in_conflict z (sample_given side row col x)) (list_any (λ x. in_conflict z (sample_given side row col x)) xs)
          (ap (in_conflict z) (is_int (sample_given side row col x) VOID e) ∙ agrees-void z) (all-agree side row col z xs void)
      | false ↦ λ e void. absurd (false≢true (sym e ∙ void))
    ]) refl is_void

pub none-conflicts : (side row col : ℕ) (z : ℤ) (xs : List Stream) → int_eq z VOID ≡ true → list_any (λ x. in_conflict z (sample_given side row col x)) xs ≡ false
none-conflicts side row col z [] void = refl
none-conflicts side row col z (x ∷ xs) void = or_from (in_conflict z (sample_given side row col x)) (list_any (λ x. in_conflict z (sample_given side row col x)) xs)
    (void-agrees z (sample_given side row col x) void) (none-conflicts side row col z xs void)

-- a seam with one tile more
pub is_seam-push : (side row col : ℕ) (xs : List Stream) (s : Stream) →
    is_seam side row (xs ++ s ∷ []) col ≡ (is_seam side row xs col || in_conflict (first_sample side row col xs) (sample_given side row col s))
is_seam-push side row col xs s =
    ap (λ z. list_any (λ x. in_conflict z (sample_given side row col x)) (xs ++ s ∷ [])) (first_sample-push side row col xs s)
    ∙ elim (int_eq f VOID) as (λ b. int_eq f VOID ≡ b → list_any (λ x. in_conflict (filled f z) (sample_given side row col x)) (xs ++ s ∷ []) ≡ (is_seam side row xs col || in_conflict f z)) [
      | true ↦ λ e. list_any-append (λ x. in_conflict (filled f z) (sample_given side row col x)) xs (s ∷ [])
          ∙ or_from (list_any (λ x. in_conflict (filled f z) (sample_given side row col x)) xs) (in_conflict (filled f z) z || false)
          (all-agree side row col (filled f z) xs e)
          (or_from (in_conflict (filled f z) z) false (ap (λ y. in_conflict y z) (filled-over f z e) ∙ agrees-self z) refl)
          ∙ sym (or_from (is_seam side row xs col) (in_conflict f z) (none-conflicts side row col f xs e) (void-agrees f z e))
      | false ↦ λ e. ap (λ y. list_any (λ x. in_conflict y (sample_given side row col x)) (xs ++ s ∷ [])) (filled-data f z e)
          ∙ list_any-append (λ x. in_conflict f (sample_given side row col x)) xs (s ∷ [])
          ∙ ap (λ b. list_any (λ x. in_conflict f (sample_given side row col x)) xs || b) (or-false (in_conflict f z))
    ] refl
  where
    f : ℤ
    f = first_sample side row col xs

    z : ℤ
    z = sample_given side row col s

    or-false : (b : Bool) → (b || false) ≡ b
    or-false true = refl
    or-false false = refl

-- one tile more laid over the row: its values, and the first seam
pub values-more : (side row : ℕ) (xs : List Stream) (s : Stream) (old new : List ℤ) (found : Option ℕ) → ((col : ℕ) → col < length old → slice_index_or old col VOID ≡ first_sample side row col xs) →
    IsTileRowLaid side row s old new found → (col : ℕ) → col < length old → slice_index_or new col VOID ≡ first_sample side row col (xs ++ s ∷ [])
values-more side row xs s old new found so_far laid col inside =
    laid.values col inside ∙ ap (λ z. filled z (sample_given side row col s)) (so_far col inside) ∙ sym (first_sample-push side row col xs s)

pub seam-more : (side row : ℕ) (xs : List Stream) (s : Stream) (old new : List ℤ) (seam found : Option ℕ) → ((col : ℕ) → col < length old → slice_index_or old col VOID ≡ first_sample side row col xs) →
    IsLeastOf (λ col. IsTrue (is_seam side row xs col)) (length old) seam → IsTileRowLaid side row s old new found →
    IsLeastOf (λ col. IsTrue (is_seam side row (xs ++ s ∷ []) col)) (length old) (first_of seam found)
seam-more side row xs s old new seam found so_far first laid =
    least_join (λ col. IsTrue (is_seam side row xs col)) (λ col. IsTrue (in_conflict (slice_index_or old col VOID) (sample_given side row col s))) (λ col. IsTrue (is_seam side row (xs ++ s ∷ []) col)) (length old) seam found first laid.first
    (λ col inside h. is_seam-push side row col xs s ∙ or_left (is_seam side row xs col) (in_conflict (first_sample side row col xs) (sample_given side row col s)) h)
    (λ col inside h. is_seam-push side row col xs s ∙ or_right (is_seam side row xs col) (in_conflict (first_sample side row col xs) (sample_given side row col s))
    (ap (λ z. in_conflict z (sample_given side row col s)) (sym (so_far col inside)) ∙ h))
    (λ col inside h. split (is_seam side row xs col) (in_conflict (first_sample side row col xs) (sample_given side row col s)) (in_conflict (slice_index_or old col VOID) (sample_given side row col s))
    (ap (λ z. in_conflict z (sample_given side row col s)) (so_far col inside)) (sym (is_seam-push side row col xs s) ∙ h))
  where
    split : (a b d : Bool) → d ≡ b → (a || b) ≡ true → (a ≡ true) ⊎ (d ≡ true)
    split true b d is h = inl refl
    split false b d is h = inr (is ∙ h)

-- no tile was laid
pub seam-none : (side row n : ℕ) → IsLeastOf (λ col. IsTrue (is_seam side row [] col)) n None
seam-none side row n = λ k inside h. false≢true h

-- the first place by search is the least
pub first_from-is : (p : ℕ → Bool) (n k : ℕ) (found : Option ℕ) → MatchOption found ((j : ℕ) → k ≤ j → j < k + n → ¬ IsTrue (p j)) (λ s. (k ≤ s) × (s < k + n) × IsTrue (p s) × ((j : ℕ) → k ≤ j → j < s → ¬ IsTrue (p j))) →
    first_from p k n ≡ found
first_from-is p zero k None least = refl
first_from-is p zero k (Some s) least = absurd (omega (arith, least.0, least.1))
first_from-is p (suc n) k found least = elim (p k) as (λ b. p k ≡ b → cond b (Some k) (first_from p (k + 1) n) ≡ found) [
  | true ↦ λ e. here found least e
  | false ↦ λ e. first_from-is p n (k + 1) found (later found least e)
] refl
  where
    here : (found : Option ℕ) → MatchOption found ((j : ℕ) → k ≤ j → j < k + suc n → ¬ IsTrue (p j)) (λ s. (k ≤ s) × (s < k + suc n) × IsTrue (p s) × ((j : ℕ) → k ≤ j → j < s → ¬ IsTrue (p j))) → p k ≡ true → Some k ≡ found
    here None least e = absurd (least k (omega arith) (omega arith) e)
    here (Some s) least e = elim (cases_lt k s) [
      | inl before ↦ absurd (least.3 k (omega arith) before e)
      | inr not_before ↦ (let is : k ≡ s = omega (arith, least.0) in ap Some is)
    ]

    later : (found : Option ℕ) → MatchOption found ((j : ℕ) → k ≤ j → j < k + suc n → ¬ IsTrue (p j)) (λ s. (k ≤ s) × (s < k + suc n) × IsTrue (p s) × ((j : ℕ) → k ≤ j → j < s → ¬ IsTrue (p j))) → p k ≡ false →
        MatchOption found ((j : ℕ) → k + 1 ≤ j → j < k + 1 + n → ¬ IsTrue (p j)) (λ s. (k + 1 ≤ s) × (s < k + 1 + n) × IsTrue (p s) × ((j : ℕ) → k + 1 ≤ j → j < s → ¬ IsTrue (p j)))
    later None least e = λ j from to. least j (omega arith) (omega arith)
    later (Some s) least e = elim (cases_lt k s) [
      | inl before ↦ (omega arith, omega (arith, least.1), least.2, λ j from to. least.3 j (omega arith) to)
      | inr not_before ↦ (let is : k ≡ s = omega (arith, least.0) in absurd (false≢true (sym e ∙ ap p is ∙ least.2)))
    ]

pub first_from-least : (p : ℕ → Bool) (n : ℕ) (found : Option ℕ) → IsLeastOf (λ col. IsTrue (p col)) n found → first_from p 0 n ≡ found
first_from-least p n None least = first_from-is p n 0 None (λ j from to. least j (omega arith))
first_from-least p n (Some s) least = first_from-is p n 0 (Some s) (omega arith, omega (arith, least.0), least.1, λ j from to. least.2 j to)

-- the row that was made
pub row-is : (f : Frame) (row : ℕ) (xs : List Stream) (out : List ℤ) → length out ≡ f.cols → ((col : ℕ) → col < length out → slice_index_or out col VOID ≡ first_sample f.side row col xs) → out ≡ mosaic_row f row xs
row-is f row xs out wide values = fill_by_all (λ col. first_sample f.side row col xs) out f.cols VOID wide (λ col inside. values col (omega (arith, wide)))
