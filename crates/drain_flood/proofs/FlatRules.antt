-- Directions that lead down the steepest way, else along the flat to a smaller rank, keep rules 3 and 10 to 12.
use Rattle.drain_flood.proofs.Names.{◌≡◌, ℕ, ◌+◌, ◌∙◌, inl, inr, ℤ, pos, ◌-ℤ◌, ◌≤ℤ◌, ◌<ℤ◌, None, IsSome, sym, ap, subst, arith, ints, Cell, Direction, Rule, Slope, OutletCode, FlatStep, Accumulation, Label, SharedLabel, Grid, Products, HasData, IsInside, values_at, patch_at, HoldsAt, IsLower, HasLower, flow_rules, BadCodeWithoutSpill, SlopeHolds, OutletCodeHolds, FlatStepHolds, IsWayRule, height_of, slope_key, key_to, weight_of, Values, step_lies, IsOpen-patch_at, cell_shown, shown_cell, Flooding, con_at, Laying, rank_at, IsDown, AreWaysOnFlats, ShowsWays, FlatsKeepRules, IsLowerNeighbor, IsWayDown, key_down}

rank_falls : (rank of : ℕ) (a b : ℤ) → a ≡ pos of → b ≡ pos rank → rank ≡ of + 1 → a <ℤ b
rank_falls rank of a b at_a at_b one = omega (arith, ints)

module _ (g : Grid) (f : Flooding) (w : Laying) (ps : Products) (are : AreWaysOnFlats g f w) (shows : ShowsWays g f w ps)
    (c : Cell) (inside : IsInside g c) where
  here : IsSome (g.elevation c) → HasData g c
  here some = record { inside = inside; is_data = some }

  -- what the patch shows as lower is a lower cell
  lower_cell : (d : Direction) (v : Values) → IsLower (patch_at g ps c) d v → (n : Cell) × (IsLowerNeighbor g f c d n × (values_at g ps n ≡ v))
  lower_cell d v lower =
      let shown = cell_shown g ps c d v lower.beside in
      let below : ps.con shown.0 <ℤ ps.con c = subst (λ (w : Values). w.con <ℤ ps.con c) (sym shown.1.values) lower.below in (
        shown.0,
        (
          record {
            there = shown.1.there;
            has_data = shown.1.has_data;
            below = subst (λ z. z <ℤ con_at g.extent f c) (shows.con shown.0) (subst (λ z. ps.con shown.0 <ℤ z) (shows.con c) below);
          },
          shown.1.values,
        ),
      )

  -- and the other way round
  shows_lower : (d : Direction) (n : Cell) → IsLowerNeighbor g f c d n → IsLower (patch_at g ps c) d (values_at g ps n)
  shows_lower d n lower = record {
    beside = shown_cell g ps c n d lower.has_data (step_lies g.extent c n d lower.there).1;
    below = subst (λ z. z <ℤ ps.con c) (sym (shows.con n)) (subst (λ z. con_at g.extent f n <ℤ z) (sym (shows.con c)) lower.below);
  }

  same_key : (d : Direction) (n : Cell) → key_to (patch_at g ps c) d (values_at g ps n) ≡ key_down g f c d n
  same_key d n =
      let weight = weight_of (g.spacing c.row) d in
      let kind = (g.spacing c.row).kind in
      ap (λ z. slope_key weight (height_of kind z -ℤ height_of kind (ps.con n))) (shows.con c)
      ∙ ap (λ z. slope_key weight (height_of kind (con_at g.extent f c) -ℤ height_of kind z)) (shows.con n)

  slope_down : (d : Direction) (n : Cell) → IsDown g f w c d n → SlopeHolds (patch_at g ps c)
  slope_down d n down low = (
    d,
    shows.dir c ∙ ap pos down.code,
    (
      values_at g ps n,
      record {
        lower = shows_lower d n down.steepest.lower;
        greatest = λ e v lower.
            (let cell = lower_cell e v lower in
            let most = down.steepest.greatest e cell.0 cell.1.0 in
            subst (λ (w : Values). key_to (patch_at g ps c) e w ≤ℤ key_to (patch_at g ps c) d (values_at g ps n)) cell.1.1
            (subst (λ z. key_to (patch_at g ps c) e (values_at g ps cell.0) ≤ℤ z) (sym (same_key d n))
            (subst (λ z. z ≤ℤ key_down g f c d n) (sym (same_key e cell.0)) most)));
      },
    ),
  )

  -- where nothing is lower, the patch shows nothing lower
  none_shown : IsWayDown g f c None → HasLower (patch_at g ps c) → ⊥
  none_shown none (some, (d, (v, lower))) = let cell = lower_cell d v lower in none d cell.0 cell.1.0

  -- and where it shows nothing lower, there is no way down
  no_way_down : (d : Direction) (n : Cell) → IsDown g f w c d n → IsSome (g.elevation c) → ¬ HasLower (patch_at g ps c) → ⊥
  no_way_down d n down some flat = flat (some, (d, (values_at g ps n, shows_lower d n down.steepest.lower)))

  slope : SlopeHolds (patch_at g ps c)
  slope low =
      elim (are.ways c (here low.0)) [
        | inl down ↦ slope_down down.0 down.1 down.2 low
        | inr (inl outlet) ↦ absurd (none_shown outlet.lowest low)
        | inr (inr along) ↦ absurd (none_shown along.2.lowest low)
      ]

  outlet_code : OutletCodeHolds (patch_at g ps c)
  outlet_code is_open flat =
      let cell = (IsOpen-patch_at g ps c inside).0 is_open in
      elim (are.ways c (here cell.1.0)) [
        | inl down ↦ absurd (no_way_down down.0 down.1 down.2 cell.1.0 flat)
        | inr (inl outlet) ↦ shows.dir c ∙ ap pos outlet.code
        | inr (inr along) ↦ absurd (along.2.shut cell)
      ]

  flat_step : FlatStepHolds (patch_at g ps c)
  flat_step closed flat =
      elim (are.ways c (here closed.0)) [
        | inl down ↦ absurd (no_way_down down.0 down.1 down.2 closed.0 flat)
        | inr (inl outlet) ↦ absurd (closed.1 ((IsOpen-patch_at g ps c inside).1 outlet.opens))
        | inr (inr (d, n, along)) ↦ (
          d,
          values_at g ps n,
          record {
            named = shows.dir c ∙ ap pos along.code;
            beside = shown_cell g ps c n d along.settled.here (step_lies g.extent c n d along.there).1;
            level = shows.con n ∙ (along.level ∙ sym (shows.con c));
            nearer = rank_falls (rank_at g.extent w c) (rank_at g.extent w n) (ps.rnk n) (ps.rnk c) (shows.rnk n) (shows.rnk c) along.nearer;
          },
        )
      ]

  pub good_code : BadCodeWithoutSpill (patch_at g ps c)
  good_code some =
      elim (are.ways c (here some)) [
        | inl down ↦ inr (down.0, shows.dir c ∙ ap pos down.2.code)
        | inr (inl outlet) ↦ inl (shows.dir c ∙ ap pos outlet.code)
        | inr (inr along) ↦ inr (along.0, shows.dir c ∙ ap pos along.2.code)
      ]

  pub rule_at : (r : Rule) → IsWayRule r → HoldsAt flow_rules g ps c r
  rule_at Slope own = slope
  rule_at OutletCode own = outlet_code
  rule_at FlatStep own = flat_step
  rule_at Accumulation own = absurd (omega (arith, own.1))
  rule_at Label own = absurd (omega (arith, own.1))
  rule_at SharedLabel own = absurd (omega (arith, own.1))
  rule_at r own = tt

pub flats_keep_rules : FlatsKeepRules
flats_keep_rules g f w ps are shows = (
  (λ c r inside own. rule_at g f w ps are shows c inside r own),
  (λ c inside. good_code g f w ps are shows c inside),
)
