-- A filled surface keeps rules 4, 5 and 9 at every cell.
use Rattle.drain_flood.proofs.Names.{◌≡◌, ◌≤ℤ◌, ◌∙◌, IsSome, sym, subst, arith, int_max, Cell, Rule, BelowGround, OpenRaised, NotLeast, SharedLabel, Grid, Products, HasData, IsInside, height_at, patch_at, HoldsAt, surface_rules, BelowGroundHolds, OpenRaisedWithoutSpill, NotLeastHolds, IsFillRule, Values, IsOpen-patch_at, cell_shown, Flooding, con_at, IsSurfaceOf, SurfaceKeepsRules}

module _ (g : Grid) (f : Flooding) (ps : Products) (flooded : IsSurfaceOf g f) (con : (c : Cell) → ps.con c ≡ con_at g.extent f c) (c : Cell) (inside : IsInside g c) where
  here : IsSome (g.elevation c) → HasData g c
  here some = record { inside = inside; is_data = some }

  above_ground : BelowGroundHolds (patch_at g ps c)
  above_ground some = subst (λ z. height_at g c ≤ℤ z) (sym (con c)) (flooded.covers c (here some))

  open_unraised : OpenRaisedWithoutSpill (patch_at g ps c)
  open_unraised is_open = con c ∙ (flooded.opened c ((IsOpen-patch_at g ps c inside).0 is_open)).con

  is_least : NotLeastHolds (patch_at g ps c)
  is_least some d v beside =
      let shown = cell_shown g ps c d v beside in
      let least = flooded.least c shown.0 d (here some) shown.1.has_data shown.1.there in
      subst (λ (n : Values). ps.con c ≤ℤ int_max (height_at g c) n.con) shown.1.values
      (subst (λ z. ps.con c ≤ℤ int_max (height_at g c) z) (sym (con shown.0))
      (subst (λ z. z ≤ℤ int_max (height_at g c) (con_at g.extent f shown.0)) (sym (con c)) least))

  pub rule_at : (r : Rule) → IsFillRule r → HoldsAt surface_rules g ps c r
  rule_at BelowGround own = above_ground
  rule_at OpenRaised own = open_unraised
  rule_at NotLeast own = is_least
  rule_at SharedLabel own = absurd (omega (arith, own.1))
  rule_at r own = tt

pub surface_keeps_rules : SurfaceKeepsRules
surface_keeps_rules g f ps flooded con c r inside own = rule_at g f ps flooded con c inside r own
