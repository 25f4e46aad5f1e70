-- Steps along a run that doesn't end.
use Rattle.drain_paths.proofs.Names.{nat_lt, true, false, ◌≡◌, ◌≢◌, ◌<◌, ◌≤◌, ◌+◌, ◌++◌, ◌∷◌, ◌∙◌, ℕ, zero, suc, inl, inr, List, [], length, slice_get, Option, Some, None, option_and_then, refl, sym, ap, subst, arith, min, cases_Bool, cases_order, nat_tests, Cell, Grid, Products, HasData, next, HasData-next, none_some, same_some, IsReached, IsRingFrom, cell_after, told_with, RING_TOLD}
use Rattle.std.proofs.lemmas.List.{length-append}
use Rattle.drain_paths.proofs.CellPlaces.{nth_left, nth_seam}

-- one step more
pub after-more : (g : Grid) (ps : Products) (k : ℕ) (c d e : Cell) → cell_after g ps k c ≡ Some d → next g ps d ≡ Some e → cell_after g ps (suc k) c ≡ Some e
after-more g ps zero c d e led on =
    ap (option_and_then (cell_after g ps zero)) (subst (λ x. next g ps x ≡ Some e) (sym (same_some c d led)) on)
after-more g ps (suc k) c d e led on = onward (next g ps c) (λ n h. after-more g ps k n d e h on) led
  where
    onward : (o : Option Cell) → ((n : Cell) → cell_after g ps k n ≡ Some d → cell_after g ps (suc k) n ≡ Some e) →
        option_and_then (cell_after g ps k) o ≡ Some d → option_and_then (cell_after g ps (suc k)) o ≡ Some e
    onward None more h = absurd (none_some d h)
    onward (Some n) more h = more n h

led-more : (g : Grid) (ps : Products) (c d e : Cell) (k : ℕ) → cell_after g ps k c ≡ Some d → next g ps d ≡ Some e → cell_after g ps (k + 1) c ≡ Some e
led-more g ps c d e k led on = subst (λ n. cell_after g ps n c ≡ Some e) (suc_is k) (after-more g ps k c d e led on)
  where
    suc_is : (k : ℕ) → suc k ≡ k + 1
    suc_is k = omega arith

-- n steps have led from the start to a data cell
pub record HasCome (g : Grid) (ps : Products) (start here : Cell) (walked : ℕ) : Type 0 where
  pub has_data : HasData g here
  pub led : cell_after g ps walked start ≡ Some here

pub come-none : (g : Grid) (ps : Products) (start : Cell) → HasData g start → HasCome g ps start start 0
come-none g ps start here = record { has_data = here; led = refl }

pub come-more : (g : Grid) (ps : Products) (start here n : Cell) (walked : ℕ) → HasCome g ps start here walked → next g ps here ≡ Some n →
    HasCome g ps start n (walked + 1)
come-more g ps start here n walked come on = record { has_data = HasData-next g ps here n on; led = led-more g ps start here n walked come.led on }

-- so the cell is reached
pub reached-after : (g : Grid) (ps : Products) (start here : Cell) (walked : ℕ) → HasCome g ps start here walked → IsReached g ps start here
reached-after g ps start here walked come = record { has_data = come.has_data; led = (walked, come.led) }

-- a walk that hasn't come back yet
pub record HasWalked (g : Grid) (ps : Products) (first here : Cell) (walked : ℕ) : Type 0 where
  pub has_data : HasData g here
  pub led : cell_after g ps walked first ≡ Some here
  pub away : (k : ℕ) → 0 < k → k ≤ walked → cell_after g ps k first ≢ Some first

-- and the cells that it passed, as far as they are in the list
abbrev pub ArePassed : Grid → Products → Cell → List Cell → Type 0
ArePassed g ps first cells = (k : ℕ) → k < length cells → cell_after g ps k first ≡ slice_get cells k

pub walked-none : (g : Grid) (ps : Products) (first : Cell) → HasData g first → HasWalked g ps first first 0
walked-none g ps first here = record {
  has_data = here;
  led = refl;
  away = λ k some few. absurd (omega (arith, some, few));
}

-- one step further, to another cell than the first
pub walked-more : (g : Grid) (ps : Products) (first here n : Cell) (walked : ℕ) → HasWalked g ps first here walked → next g ps here ≡ Some n → n ≢ first →
    HasWalked g ps first n (walked + 1)
walked-more g ps first here n walked so_far on other =
    let led = led-more g ps first here n walked so_far.led on in
    record {
      has_data = HasData-next g ps here n on;
      led = led;
      away = λ k some few. elim (cases_order k (walked + 1)) [
        | inl same ↦ (λ back. other (same_some n first (sym led ∙ ap (λ j. cell_after g ps j first) (sym same) ∙ back)))
        | inr (inl less) ↦ so_far.away k some (omega (arith, less))
        | inr (inr more) ↦ absurd (omega (arith, more, few))
      ];
    }

-- or back to the first
pub ring-closed : (g : Grid) (ps : Products) (first here n : Cell) (walked : ℕ) → HasWalked g ps first here walked → next g ps here ≡ Some n → n ≡ first →
    IsRingFrom g ps first (walked + 1)
ring-closed g ps first here n walked so_far on same = record {
  some = omega arith;
  closed = led-more g ps first here n walked so_far.led on ∙ ap Some same;
  first = λ k some less. so_far.away k some (omega (arith, less));
}

pub passed-none : (g : Grid) (ps : Products) (first : Cell) → ArePassed g ps first []
passed-none g ps first = λ k less. absurd (omega (arith, less))

-- with the cell that the walk has reached
pub passed-more : (g : Grid) (ps : Products) (first here : Cell) (cells : List Cell) → ArePassed g ps first cells → cell_after g ps (length cells) first ≡ Some here →
    ArePassed g ps first (cells ++ here ∷ [])
passed-more g ps first here cells passed led = λ k less. elim (cases_order k (length cells)) [
  | inl same ↦ ap (λ j. cell_after g ps j first) same ∙ led ∙ sym (nth_seam cells here) ∙ ap (slice_get (cells ++ here ∷ [])) (sym same)
  | inr (inl before) ↦ passed k before ∙ sym (nth_left cells (here ∷ []) k before)
  | inr (inr behind) ↦ absurd (let long = length-append cells (here ∷ []) in omega (arith, less, behind, long))
]

below : (a b : ℕ) → nat_lt a b ≡ true → a < b
below a b h = grind (arith, nat_tests)

not_below : (a b : ℕ) → nat_lt a b ≡ false → b ≤ a
not_below a b h = grind (arith, nat_tests)

min-left : (a b : ℕ) → a < b → min a b ≡ a
min-left a b less = omega (arith, less)

-- then the list has this many
pub told-long : (here : Cell) (cells : List Cell) (walked : ℕ) → length cells ≡ min walked RING_TOLD → length (told_with walked here cells) ≡ min (walked + 1) RING_TOLD
told-long here cells walked told = elim (cases_Bool (nat_lt walked RING_TOLD)) [
  | inl few ↦
      (let less = below walked RING_TOLD few in
      let long : length cells ≡ walked = told ∙ min-left walked RING_TOLD less in
      rw few (length-append cells (here ∷ []) ∙ ap (λ k. k + 1) long ∙ sym (min-more walked RING_TOLD less)))
  | inr many ↦ rw many (told ∙ min-past walked RING_TOLD many)
]
  where
    min-more : (a b : ℕ) → a < b → min (a + 1) b ≡ a + 1
    min-more a b less = omega (arith, less)

    min-past : (a b : ℕ) → nat_lt a b ≡ false → min a b ≡ min (a + 1) b
    min-past a b many = let past = not_below a b many in omega (arith, past)

-- and each is one that the walk passed
pub told-more : (g : Grid) (ps : Products) (first here : Cell) (cells : List Cell) (walked : ℕ) → ArePassed g ps first cells → length cells ≡ min walked RING_TOLD →
    cell_after g ps walked first ≡ Some here → ArePassed g ps first (told_with walked here cells)
told-more g ps first here cells walked passed told led = elim (cases_Bool (nat_lt walked RING_TOLD)) [
  | inl few ↦
      (let less = below walked RING_TOLD few in
      let long : length cells ≡ walked = told ∙ min-left walked RING_TOLD less in
      rw few (passed-more g ps first here cells passed (ap (λ k. cell_after g ps k first) long ∙ led)))
  | inr many ↦ rw many passed
]
