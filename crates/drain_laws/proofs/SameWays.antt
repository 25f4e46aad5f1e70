-- The rules on heights and directions look at these alone: they hold of products where they hold of others with the
-- same heights and directions. The rule on the accumulation looks at this too, and that on labels at these.
use Rattle.drain_laws.proofs.Names.{Cell, Grid, Products, IsInside, patch_at, HasData, height_at, values_at, IsOpen, HasLower, neighbor, IsLowerCell, IsSteepestCell, IsOpen-patch_at, neighbor-patch_at, cell_shown, shown_cell, lower_shown, HasLower-lower_cell, steepest_cell, IsSteepest-cell, Con, ConDir, ConDirAcc, ConDirBas, joined, ℕ, zero, suc, ◌<◌, ◌≤◌, ◌⊎◌, inl, inr, subst, arith, ◌≡◌, ◌∙◌, pos, ◌+ℤ◌, ◌≤ℤ◌, Option, Some, None, option_map, refl, sym, ap, cases_lt, cases_order, Decision, cases, int_max, Direction, Rule, VoidCell, Missing, OpenRaised, NotLeast, Slope, OutletCode, FlatStep, Accumulation, Label, SharedLabel, directions, step, Values, NoDataNumbers, inflow, NotLeastHolds, SlopeHolds, OutletCodeHolds, AccumulationHolds, LabelHolds, OpenRaisedWithoutSpill, unranked, LevelStepHolds, IsBetween, HoldsAt, total-same}

-- What is lower, steepest and open looks at heights alone.

module _ (g : Grid) (ps rest : Products) where
  lower_there : (c n : Cell) → IsLowerCell g ps c n → IsLowerCell g (joined Con ps rest) c n
  lower_there c n h = record { from_data = h.from_data; to_data = h.to_data; beside = h.beside; below = h.below }

  lower_back : (c n : Cell) → IsLowerCell g (joined Con ps rest) c n → IsLowerCell g ps c n
  lower_back c n h = record { from_data = h.from_data; to_data = h.to_data; beside = h.beside; below = h.below }

  pub steepest_there : (c n : Cell) → IsSteepestCell g ps c n → IsSteepestCell g (joined Con ps rest) c n
  steepest_there c n h = record { lower = lower_there c n h.lower; greatest = λ m lower. h.greatest m (lower_back c m lower) }

pub open_there : (g : Grid) (ps rest : Products) (c : Cell) → IsInside g c → IsOpen (patch_at g ps c) →
    IsOpen (patch_at g (joined Con ps rest) c)
open_there g ps rest c inside h = (IsOpen-patch_at g (joined Con ps rest) c inside).1 ((IsOpen-patch_at g ps c inside).0 h)

pub low_there : (g : Grid) (ps rest : Products) (c : Cell) → IsInside g c → HasLower (patch_at g ps c) →
    HasLower (patch_at g (joined Con ps rest) c)
low_there g ps rest c inside low =
    let lower = lower_shown g ps c low.1.0 low.1.1.0 (record { inside = inside; is_data = low.0 }) low.1.1.1 in
    HasLower-lower_cell g (joined Con ps rest) c lower.0 (lower_there g ps rest c lower.0 lower.1.1)

pub open_back : (g : Grid) (ps rest : Products) (c : Cell) → IsInside g c → IsOpen (patch_at g (joined Con ps rest) c) → IsOpen (patch_at g ps c)
open_back g ps rest c inside h = open_there g (joined Con ps rest) ps c inside h

pub low_back : (g : Grid) (ps rest : Products) (c : Cell) → IsInside g c → HasLower (patch_at g (joined Con ps rest) c) → HasLower (patch_at g ps c)
low_back g ps rest c inside h = low_there g (joined Con ps rest) ps c inside h

-- The least number of which a fact holds, where the fact is decided of each number and holds of one.

-- the fact holds of this number, and of none before
pub record IsLeastNumber (P : ℕ → Type 0) (m : ℕ) : Type 0 where
  pub holds : P m
  pub none_before : (j : ℕ) → j < m → ¬ P j

first_below : {P : ℕ → Type 0} → ((k : ℕ) → Decision (P k)) → (n : ℕ) → ((m : ℕ) × IsLeastNumber P m) ⊎ ((j : ℕ) → j < n → ¬ P j)
first_below d zero = inr (λ j less h. absurd (omega arith))
first_below {P} d (suc n) =
    elim (first_below d n) [
      | inl found ↦ inl found
      | inr none ↦
          elim (cases (d n)) [
            | inl here ↦ inl (n, record { holds = here; none_before = none })
            | inr fails ↦ inr (λ j less h.
                elim (cases_order j n) [
                  | inl same ↦ fails (subst P same h)
                  | inr (inl before) ↦ none j before h
                  | inr (inr after) ↦ absurd (omega arith)
                ])
          ]
    ]

pub least_number : {P : ℕ → Type 0} → ((k : ℕ) → Decision (P k)) → (k : ℕ) → P k → (m : ℕ) × IsLeastNumber P m
least_number d k here =
    elim (first_below d (suc k)) [
      | inl found ↦ found
      | inr none ↦ absurd (none k (omega arith) here)
    ]

-- the least number is at most any other
pub least-le : {P : ℕ → Type 0} (m k : ℕ) → IsLeastNumber P m → P k → m ≤ k
least-le m k least here =
    elim (cases_lt k m) [
      | inl before ↦ absurd (least.none_before k before here)
      | inr past ↦ past
    ]

module _ (g : Grid) (ps rest : Products) (c : Cell) (inside : IsInside g c) where
  at_ground : OpenRaisedWithoutSpill (patch_at g ps c) → OpenRaisedWithoutSpill (patch_at g (joined ConDir ps rest) c)
  at_ground h is_open = h (open_back g ps (joined ConDir ps rest) c inside is_open)

  not_raised : NotLeastHolds (patch_at g ps c) → NotLeastHolds (patch_at g (joined ConDir ps rest) c)
  not_raised h is_data d v beside =
      let found = cell_shown g (joined ConDir ps rest) c d v beside in
      subst (λ (w : Values). ps.con c ≤ℤ int_max (height_at g c) w.con) found.1.values
      (h is_data d (values_at g ps found.0) (shown_cell g ps c found.0 d found.1.has_data found.1.lies))

  goes_down : SlopeHolds (patch_at g ps c) → SlopeHolds (patch_at g (joined ConDir ps rest) c)
  goes_down h low =
      let on = h (low_back g ps (joined ConDir ps rest) c inside low) in
      let here : HasData g c = record { inside = inside; is_data = low.0 } in
      let cell = steepest_cell g ps c on.0 here on.2 in
      (on.0, on.1, (IsSteepest-cell g (joined ConDir ps rest) c cell.0 on.0 here cell.1).1 (steepest_there g ps (joined ConDir ps rest) c cell.0 cell.2))

  stops : OutletCodeHolds (patch_at g ps c) → OutletCodeHolds (patch_at g (joined ConDir ps rest) c)
  stops h is_open flat = h (open_back g ps (joined ConDir ps rest) c inside is_open) (λ low. flat (low_there g ps (joined ConDir ps rest) c inside low))

  goes_along : LevelStepHolds (patch_at g ps c) → LevelStepHolds (patch_at g (joined ConDir ps rest) c)
  goes_along h closed flat =
      let on = h (closed.0, λ is_open. closed.1 (open_there g ps (joined ConDir ps rest) c inside is_open))
      (λ low. flat (low_there g ps (joined ConDir ps rest) c inside low)) in
      let found = cell_shown g ps c on.0 on.1 on.2.beside in (
        on.0,
        values_at g (joined ConDir ps rest) found.0,
        record {
          named = on.2.named;
          beside = shown_cell g (joined ConDir ps rest) c found.0 on.0 found.1.has_data found.1.lies;
          level = ap (λ (w : Values). w.con) found.1.values ∙ on.2.level;
        },
      )

  -- rules 3 to 12
  pub ways_there : (nodata numbers : NoDataNumbers) (r : Rule) → IsBetween 3 12 r → HoldsAt (unranked nodata) g ps c r →
      HoldsAt (unranked numbers) g (joined ConDir ps rest) c r
  ways_there nodata numbers VoidCell own h = absurd (omega (arith, own.0))
  ways_there nodata numbers Missing own h = absurd (omega (arith, own.0))
  ways_there nodata numbers OpenRaised own h = at_ground h
  ways_there nodata numbers NotLeast own h = not_raised h
  ways_there nodata numbers Slope own h = goes_down h
  ways_there nodata numbers OutletCode own h = stops h
  ways_there nodata numbers FlatStep own h = goes_along h
  ways_there nodata numbers Accumulation own h = absurd (omega (arith, own.1))
  ways_there nodata numbers Label own h = absurd (omega (arith, own.1))
  ways_there nodata numbers SharedLabel own h = absurd (omega (arith, own.1))
  ways_there nodata numbers r own h = h

inflow-there : (g : Grid) (ps rest : Products) (o : Option Cell) (d : Direction) →
    inflow (option_map (values_at g (joined ConDirAcc ps rest)) o) d ≡ inflow (option_map (values_at g ps) o) d
inflow-there g ps rest None d = refl
inflow-there g ps rest (Some n) d = refl

-- rule 13
pub counts_there : (g : Grid) (ps rest : Products) (c : Cell) → AccumulationHolds (patch_at g ps c) →
    AccumulationHolds (patch_at g (joined ConDirAcc ps rest) c)
counts_there g ps rest c h is_data =
    let qs = joined ConDirAcc ps rest in
    h is_data ∙ ap (λ z. pos 1 +ℤ z) (total-same (λ d. inflow (neighbor (patch_at g ps c) d) d)
    (λ d. inflow (neighbor (patch_at g qs c) d) d)
    (λ d. ap (λ o. inflow o d) (neighbor-patch_at g ps c d) ∙
    (sym (inflow-there g ps rest (step g.extent c d) d) ∙ ap (λ o. inflow o d) (sym (neighbor-patch_at g qs c d))))
    directions)

-- rule 14
pub labels_there : (g : Grid) (ps rest : Products) (c : Cell) → LabelHolds (patch_at g ps c) →
    LabelHolds (patch_at g (joined ConDirBas ps rest) c)
labels_there g ps rest c h is_data d v named beside =
    let qs = joined ConDirBas ps rest in
    let found = cell_shown g qs c d v beside in
    h is_data d (values_at g ps found.0) named (shown_cell g ps c found.0 d found.1.has_data found.1.lies) ∙
    ap (λ (w : Values). w.bas) found.1.values
