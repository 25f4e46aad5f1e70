-- Sums that cells pass on to the cell into which they flow: of a sum of two numbers, and of numbers that are at most 1.
--
-- At most eight cells flow in, one from each direction. So the numbers are split by the direction that a cell's code
-- names: each part has one cell at most that flows in and isn't 0.
use Rattle.drain_paths.proofs.Names.{◌≡◌, ◌∙◌, ℕ, ◌+◌, ◌≤◌, inl, inr, ℤ, Bool, true, false, cond, nat_eq, ◌==◌, List, [], ◌∷◌, length, refl, sym, ap, subst, arith, sum_by, cases_Bool, false≢true, eqb-true, eq-eqb, sum_by-cons, Cell, Direction, directions, order_of, opposite, names, Grid, Products, sum_by_directions_one, same_place_same, names_fact, named_direction-code, handed_on, handed_none, handed_one, handed_same, handed_sum, FlowsFrom, share_cases, share_flow, opposite_opposite, same_some}

-- two cells that differ by their columns: they choose between two numbers
first : Cell
first = record { row = 0; col = 0 }

second : Cell
second = record { row = 0; col = 1 }

abbrev chosen : (Cell → ℕ) → (Cell → ℕ) → Cell → Cell → ℕ
chosen f h m x = cond (nat_eq x.col 0) (f m) (h m)

-- the sum of two numbers is passed on as the two are
pub passed_add : (g : Grid) (ps : Products) (c : Cell) (f h : Cell → ℕ) →
    handed_on g ps c (λ m. f m + h m) ≡ handed_on g ps c f + handed_on g ps c h
unfolding first second
passed_add g ps c f h =
    let both : List Cell = first ∷ second ∷ [] in
    let split = handed_same g ps c (λ m. f m + h m) (λ m. sum_by (chosen f h m) both)
    (λ d m from_m. two (chosen f h m) first second) in
    let swap = handed_sum g ps c (chosen f h) both in
    let parts = two (λ x. handed_on g ps c (λ m. chosen f h m x)) first second in
    split ∙ (sym swap ∙ sym parts)
  where
    two : (t : Cell → ℕ) (x y : Cell) → t x + t y ≡ sum_by t (x ∷ y ∷ [])
    two t x y = omega (arith, sum_by-cons t x (y ∷ []), sum_by-cons t y [])

-- one code names one direction
names_one : (number : ℤ) (d e : Direction) → names number (opposite d) ≡ true → names number (opposite e) ≡ true → d ≡ e
names_one number d e by_d by_e =
    let one = named_direction-code number (opposite d) ((names_fact number (opposite d)).0 by_d) in
    let other = named_direction-code number (opposite e) ((names_fact number (opposite e)).0 by_e) in
    let back : opposite d ≡ opposite e = same_some (opposite d) (opposite e) (sym one ∙ other) in
    sym (opposite_opposite d) ∙ (ap opposite back ∙ opposite_opposite e)

module _ (g : Grid) (ps : Products) (c : Cell) (f : Cell → ℕ) (small : (m : Cell) → f m ≤ 1) where
  -- the number of a cell whose code leads back from this direction
  part : Direction → Cell → ℕ
  part d m = cond (names (ps.dir m) (opposite d)) (f m) 0

  part_none : (d : Direction) (m : Cell) → names (ps.dir m) (opposite d) ≡ false → part d m ≡ 0
  unfolding part
  part_none d m other = ap (λ b. cond b (f m) 0) other

  part-le : (d : Direction) (m : Cell) → part d m ≤ 1
  unfolding part
  part-le d m = at_most (names (ps.dir m) (opposite d)) (f m) (small m)
    where
      at_most : (b : Bool) (n : ℕ) → n ≤ 1 → cond b n 0 ≤ 1
      at_most true n few = few
      at_most false n few = omega arith

  -- from another direction it is 0
  part_apart : (d e : Direction) (m : Cell) → FlowsFrom g ps c e m → (e ≡ d → ⊥) → part d m ≡ 0
  part_apart d e m from_m apart = elim (cases_Bool (names (ps.dir m) (opposite d))) [
    | inl named ↦ absurd (apart (names_one (ps.dir m) e d from_m.names_back named))
    | inr other ↦ part_none d m other
  ]

  -- from one direction at most 1 is passed on
  one_at_most : (d : Direction) → handed_on g ps c (part d) ≤ 1
  one_at_most d = elim (share_cases g ps c d) [
    | inl flow ↦
        (let one = handed_one g ps c (part d) d flow.0 flow.1 (λ e n from_n apart. part_apart d e n from_n apart) in
        let few = part-le d flow.0 in
        omega (arith, one, few))
    | inr none ↦
        (let zero = handed_none g ps c (part d) (λ e m from_m. elim (cases_Bool (names (ps.dir m) (opposite d))) [
          | inl named ↦
              (let same : e ≡ d = names_one (ps.dir m) e d from_m.names_back named in
              let flow : FlowsFrom g ps c d m = subst (λ x. FlowsFrom g ps c x m) same from_m in
              let is = share_flow g ps c d m (λ x. 1) flow in
              let isnt = none (λ x. 1) in
              absurd (omega (arith, is, isnt)))
          | inr other ↦ part_none d m other
        ]) in
        omega (arith, zero))
  ]

  -- from some directions no more than there are
  some_at_most : (ds : List Direction) → handed_on g ps c (λ m. sum_by (λ d. part d m) ds) ≤ length ds
  some_at_most [] = (let zero = handed_none g ps c (λ m. sum_by (λ d. part d m) []) (λ d m from_m. refl) in omega (arith, zero))
  some_at_most (d ∷ ds) =
      let split = handed_same g ps c (λ m. sum_by (λ e. part e m) (d ∷ ds)) (λ m. part d m + sum_by (λ e. part e m) ds)
      (λ e m from_m. sum_by-cons (λ e. part e m) d ds) in
      let parts = passed_add g ps c (part d) (λ m. sum_by (λ e. part e m) ds) in
      let one = one_at_most d in
      let rest = some_at_most ds in
      omega (arith, split, parts, one, rest)

  -- a cell that flows in has its number from one direction
  whole : (e : Direction) (m : Cell) → FlowsFrom g ps c e m → f m ≡ sum_by (λ d. part d m) directions
  unfolding part
  whole e m from_m = sym (sum_by_directions_one (λ d. part d m) e (f m) (λ d. elim (cases_Bool (order_of d == order_of e)) [
    | inl here ↦
        (let same : d ≡ e = same_place_same d e (eqb-true (order_of d) (order_of e) here) in
        ap (λ x. part x m) same ∙ (ap (λ b. cond b (f m) 0) from_m.names_back ∙ sym (ap (λ b. cond b (f m) 0) here)))
    | inr apart ↦
        (let differ : e ≡ d → ⊥ = λ same. false≢true (sym apart ∙ eq-eqb (order_of d) (order_of e) (ap order_of (sym same))) in
        part_apart d e m from_m differ ∙ sym (ap (λ b. cond b (f m) 0) apart))
  ]))

  -- eight cells at most flow in
  pub passed_most : handed_on g ps c f ≤ 8
  passed_most =
      let split = handed_same g ps c f (λ m. sum_by (λ d. part d m) directions) whole in
      let most = some_at_most directions in
      omega (arith, split, most)

  part_there : (d : Direction) (m : Cell) → FlowsFrom g ps c d m → part d m ≡ f m
  unfolding part
  part_there d m from_m = ap (λ b. cond b (f m) 0) from_m.names_back

  -- what is passed on from one direction
  passed_one : (d : Direction) (n : ℕ) → ((m : Cell) → FlowsFrom g ps c d m → n ≡ f m) → (((m : Cell) → FlowsFrom g ps c d m → ⊥) → n ≡ 0) →
      handed_on g ps c (part d) ≡ n
  passed_one d n flows none = elim (share_cases g ps c d) [
    | inl flow ↦
        handed_one g ps c (part d) d flow.0 flow.1 (λ e m from_m apart. part_apart d e m from_m apart) ∙ (part_there d flow.0 flow.1 ∙ sym (flows flow.0 flow.1))
    | inr idle ↦
        (let nothing : (m : Cell) → FlowsFrom g ps c d m → ⊥ =
        λ m from_m. (let is = share_flow g ps c d m (λ x. 1) from_m in let isnt = idle (λ x. 1) in absurd (omega (arith, is, isnt))) in
        handed_none g ps c (part d) (λ e m from_m. elim (cases_Bool (names (ps.dir m) (opposite d))) [
          | inl named ↦ absurd (nothing m (subst (λ x. FlowsFrom g ps c x m) (names_one (ps.dir m) e d from_m.names_back named) from_m))
          | inr other ↦ part_none d m other
        ]) ∙ sym (none nothing))
  ]

  module _ (n : Direction → ℕ) (flows : (d : Direction) (m : Cell) → FlowsFrom g ps c d m → n d ≡ f m)
      (none : (d : Direction) → ((m : Cell) → FlowsFrom g ps c d m → ⊥) → n d ≡ 0) where
    passed_from : (ds : List Direction) → handed_on g ps c (λ m. sum_by (λ d. part d m) ds) ≡ sum_by n ds
    passed_from [] = handed_none g ps c (λ m. sum_by (λ d. part d m) []) (λ d m from_m. refl)
    passed_from (d ∷ ds) =
        let split = handed_same g ps c (λ m. sum_by (λ e. part e m) (d ∷ ds)) (λ m. part d m + sum_by (λ e. part e m) ds)
        (λ e m from_m. sum_by-cons (λ e. part e m) d ds) in
        let parts = passed_add g ps c (part d) (λ m. sum_by (λ e. part e m) ds) in
        let one = passed_one d (n d) (flows d) (none d) in
        let rest = passed_from ds in
        let more = sum_by-cons n d ds in
        omega (arith, split, parts, one, rest, more)

    -- the sum of what is passed on from each direction
    pub passed_sum : handed_on g ps c f ≡ sum_by n directions
    passed_sum = handed_same g ps c f (λ m. sum_by (λ d. part d m) directions) whole ∙ passed_from directions
