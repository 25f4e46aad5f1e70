use Rattle.drain_merge.proofs.Names.{◌≡◌, ◌↔◌, ℕ, IsTrue, Bool, true, false, not, List, refl, sym, ap, subst, ◌∙◌, arith, Contains, false≢true, WindowReport, box_within, end_at, StopsAt, is_inner_at, North, South, West, East}
use Rattle.drain_merge.specs.declared.smallest_box.Side.{Side}
use Rattle.drain_merge.proofs.smallest_box.smallest_box.Goals as goal

-- the union ends with some window here at this side
abbrev SomeStops : Side → ℕ → List WindowReport → Type 0
SomeStops s at ws = (w : WindowReport) × Contains ws w × StopsAt s at w

-- so the side isn't inner
turned : (b : Bool) {X : Type 0} → (IsTrue b ↔ X) → (not b ≡ false) ↔ X
turned true tells = ((λ is. tells.0 refl), (λ x. refl))
turned false tells = ((λ is. absurd (false≢true (sym is))), (λ x. absurd (false≢true (tells.1 x))))

moved : (s : Side) (at to : ℕ) (ws : List WindowReport) (b : Bool) → at ≡ to → (IsTrue b ↔ SomeStops s at ws) → (not b ≡ false) ↔ SomeStops s to ws
moved s at to ws b is tells = turned b (subst (λ n. IsTrue b ↔ SomeStops s n ws) is tells)

-- what is said of each side
by_side : (P : Side → Type 0) → P North → P South → P West → P East → (s : Side) → P s
by_side P north south west east North = north
by_side P north south west east South = south
by_side P north south west east West = west
by_side P north south west east East = east

pub returns-clause-smallest : goal.returns-clause-smallest
returns-clause-smallest c =
    let ws = c.args.windows.now in
    record {
      bounds = c.box_within-size.ensures ∙ ap (λ last. box_within last ws) c.from.ensures;
      sides = by_side (λ s. (is_inner_at s _ ≡ false) ↔ SomeStops s (end_at s _) ws)
          (moved North _ _ ws c.some_stops.result c.from-2.ensures c.some_stops.ensures)
          (moved South _ _ ws c.some_stops-2.result (omega (arith, c.end_of-bottom.ensures, c.rows.ensures)) c.some_stops-2.ensures)
          (moved West _ _ ws c.some_stops-3.result c.from-3.ensures c.some_stops-3.ensures)
          (moved East _ _ ws c.some_stops-4.result (omega (arith, c.end_of-right.ensures, c.cols.ensures)) c.some_stops-4.ensures);
    }
