-- Numbers of cells, before and after a write at one.
use Rattle.drain_paths.proofs.Names.{◌≡◌, ◌<◌, ◌++◌, ◌∷◌, ℕ, zero, suc, List, [], length, slice_get, Some, refl, arith, ◌≢◌, ◌∙◌, ◌*◌, ◌+◌, ◌-◌, ◌%◌, inl, inr, get_or, set, get_or-set_other, get_or-set_same, sym, ap, mul-le-mul_right, cases_lt, Cell, IsCellOf, index_of, Extent, cell_at, index_of-below, same_index, DONE, cell_number, IsPutAt, IsPassedOn}
use Rattle.std.proofs.lemmas.List.{length-set}
use lib.ListN.{replicate}

-- A list with one element more.

-- its last is that
pub nth_seam : {A : Type 0} (xs : List A) (x : A) → slice_get (xs ++ x ∷ []) (length xs) ≡ Some x
nth_seam [] x = refl
nth_seam (y ∷ ys) x = nth_seam ys x

-- the others are those that it had
pub nth_left : {A : Type 0} (xs ys : List A) (k : ℕ) → k < length xs → slice_get (xs ++ ys) k ≡ slice_get xs k
nth_left [] ys k less = absurd (omega (arith, less))
nth_left (x ∷ xs) ys zero less = refl
nth_left (x ∷ xs) ys (suc k) less = nth_left xs ys k (omega (arith, less))

module _ (e : Extent) (numbers : List ℕ) (c : Cell) (place number : ℕ) (inside : IsCellOf e c) (at : place ≡ index_of e c)
    (counted : length numbers ≡ e.rows * e.cols) where
  pub number_there : cell_number e (set numbers place number) c ≡ number
  number_there =
      let below = index_of-below e c inside in
      ap (λ k. get_or (set numbers place number) k 0) (sym at) ∙ get_or-set_same numbers place number 0 (omega (arith, below, at, counted))

  pub number_elsewhere : (d : Cell) → IsCellOf e d → d ≢ c → cell_number e (set numbers place number) d ≡ cell_number e numbers d
  number_elsewhere d at_d differ =
      get_or-set_other numbers place (index_of e d) number 0 (λ same. differ (same_index e d c at_d inside (same ∙ at)))

  pub IsPutAt-set : IsPutAt e numbers (set numbers place number) c number
  IsPutAt-set = record { counted = length-set numbers place number; there = number_there; elsewhere = number_elsewhere }

-- a place of the grid whose column lies in it is a cell
pub inside_by_place : (e : Extent) (c : Cell) (k : ℕ) → index_of e c ≡ k → c.col < e.cols → k < e.rows * e.cols → IsCellOf e c
inside_by_place e c k at col below = record { row = row_below c.row e.rows e.cols (omega (arith, at, below)); col = col }
  where
    row_below : (r rows cols : ℕ) → r * cols < rows * cols → r < rows
    row_below r rows cols less = elim (cases_lt r rows) [
      | inl before ↦ before
      | inr past ↦ (let more = mul-le-mul_right cols past in absurd (omega (arith, more, less)))
    ]

-- one cell passes on to another
pub IsPassedOn-set : (e : Extent) (waits counts : List ℕ) (from to : Cell) (here there : ℕ) → length waits ≡ e.rows * e.cols → length counts ≡ e.rows * e.cols →
    IsCellOf e from → IsCellOf e to → from ≢ to → 0 < cell_number e waits to → here ≡ index_of e from → there ≡ index_of e to →
    IsPassedOn e waits (set (set waits there (get_or waits there 0 - 1)) here DONE) counts (set counts there (get_or counts there 0 + get_or counts here 0)) from to
IsPassedOn-set e waits counts from to here there waits_counted counts_counted at_from at_to apart some is_from is_to =
    let less = get_or waits there 0 - 1 in
    let sum = get_or counts there 0 + get_or counts here 0 in
    let first = IsPutAt-set e waits to there less at_to is_to waits_counted in
    let second = IsPutAt-set e (set waits there less) from here DONE at_from is_from (first.counted ∙ waits_counted) in
    let third = IsPutAt-set e counts to there sum at_to is_to counts_counted in
    record {
      waits_counted = second.counted ∙ first.counted;
      counts_counted = third.counted;
      marked = second.there;
      less =
          (let is = second.elsewhere to at_to (λ same. apart (sym same)) ∙ first.there in
          let was = ap (λ k. get_or waits k 0) is_to in
          omega (arith, is, was, some));
      others = λ c inside from_other to_other. second.elsewhere c inside from_other ∙ first.elsewhere c inside to_other;
      more =
          (let is = third.there in
          let was_to = ap (λ k. get_or counts k 0) is_to in
          let was_from = ap (λ k. get_or counts k 0) is_from in
          omega (arith, is, was_to, was_from));
      same = λ c inside other. third.elsewhere c inside other;
    }

pub some_col : (rows cols k : ℕ) → k < rows * cols → 0 < cols
some_col rows zero k less = absurd (omega arith)
some_col rows (suc cols) k less = omega arith

-- each place has a cell
pub cell_of_place : (e : Extent) (k : ℕ) → k < e.rows * e.cols → IsCellOf e (cell_at e k) × (index_of e (cell_at e k) ≡ k)
cell_of_place e k less =
    let some = some_col e.rows e.cols k less in
    let at : index_of e (cell_at e k) ≡ k = omega arith in
    let col : k % e.cols < e.cols = omega arith in
    (inside_by_place e (cell_at e k) k at col less, at)

-- only zeros
pub zeros_read : (n k : ℕ) → ◌≡◌ {A = ℕ} (get_or (replicate n 0) k 0) 0
zeros_read zero k = refl
zeros_read (suc n) zero = refl
zeros_read (suc n) (suc k) = zeros_read n k
