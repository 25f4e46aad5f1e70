-- If the trail is empty and no cell waits, every data cell is reached: going east from it leads to an open cell, since the last
-- column is on the edge, and every open cell is reached. So the surface is the least that covers the ground and drains.
use Rattle.drain_flood.proofs.Names.{Flooding, IsFilledFrom, IsHeld, IsReachedCell, con_at, mark_at, AllAreReached, FloodIsDone, IsAtEnd, UNREACHED, step_back, least_at_open, least_beside, AreNeighbors-lies, step_lies, IsOpenAmong-gap, gap_from_void, opposite, index_of, step, Grid, HasData, IsGap, IsLeastSurface, Surface, Cell, Direction, East, Contains, List, None, Option, Some, [], arith, inl, inr, option_map, refl, subst, suc, sym, zero, ℕ, ◌+◌, ◌-◌, ◌<◌, ◌≡◌, cases_eq}
use Rattle.drain_flood.proofs.Cells.{none_or_some}
use Rattle.drain_flood.proofs.Reaching.{open_reached}

-- nothing is in an empty list
pub none_in : {X : Type 0} (xs : List X) (x : X) → xs ≡ [] → Contains xs x → ⊥
none_in xs x empty held =
    let in_none : Contains [] x = subst (λ ys. Contains ys x) empty held in
    absurd (omega (arith, in_none.1))

module _ (g : Grid) (first : Surface) (f : Flooding) (end : IsAtEnd g first f) where
  none_held : (c : Cell) → IsHeld g.extent f [] c → ⊥
  none_held c (inl busy) = none_in [] (index_of g.extent c) refl busy
  none_held c (inr (inl on)) = none_in f.ahead (index_of g.extent c) end.no_ahead on
  none_held c (inr (inr waits)) = none_in f.waiting _ end.no_waiting waits

  -- a data cell next to a gap is open
  gap_reached : (c : Cell) (d : Direction) → HasData g c → IsGap (option_map g.elevation (step g.extent c d)) → IsReachedCell g f c
  gap_reached c d here gap = record {
    here = here;
    code = open_reached (mark_at g.extent f c) (end.flood.marks.opened c (here.inside, IsOpenAmong-gap (g.elevation c) (g.sink c) _ here.is_data (d, gap)));
  }

  -- a data cell next to a reached one is reached
  beside_reached : (c n : Cell) (d : Direction) → HasData g c → IsReachedCell g f n → step g.extent n d ≡ Some c → IsReachedCell g f c
  beside_reached c n d here beside leads =
      elim (cases_eq (mark_at g.extent f c) UNREACHED) [
        | inl fresh ↦ absurd (none_held n (end.flood.held n c d beside (record { here = here; code = fresh }) leads))
        | inr code ↦ record { here = here; code = code }
      ]

  from_step : (c : Cell) (o : Option Cell) → HasData g c → step g.extent c East ≡ o →
      ((n : Cell) → HasData g n → step g.extent c East ≡ Some n → IsReachedCell g f n) → IsReachedCell g f c
  from_step c None here leads onward =
      gap_reached c East here (subst (λ o. IsGap (option_map g.elevation o)) (sym leads) tt)
  from_step c (Some n) here leads onward =
      elim (none_or_some (g.elevation n)) [
        | inl void ↦ gap_reached c East here (subst (λ o. IsGap (option_map g.elevation o)) (sym leads) (gap_from_void (g.elevation n) void))
        | inr some ↦ (let there : HasData g n = record { inside = (step_lies g.extent c n East leads).0; is_data = some } in
            beside_reached c n (opposite East) here (onward n there leads) (step_back g c n East here.inside leads))
      ]

  -- from n columns before the last
  from_east : (k : ℕ) (c : Cell) → g.extent.cols ≡ c.col + suc k → HasData g c → IsReachedCell g f c
  from_east zero c last here =
      from_step c (step g.extent c East) here refl (λ n there leads.
      (let lies = step_lies g.extent c n East leads in
      let in_cols : n.col < g.extent.cols = lies.0.col in
      let on : n.col + 1 ≡ c.col + 2 = lies.1.1 in
      absurd (omega (arith, last, in_cols, on))))
  from_east (suc k) c before here =
      from_step c (step g.extent c East) here refl (λ n there leads.
      (let lies = step_lies g.extent c n East leads in
      let on : n.col + 1 ≡ c.col + 2 = lies.1.1 in
      from_east k n (omega (arith, before, on)) there))

  pub every_cell : (c : Cell) → HasData g c → IsReachedCell g f c
  every_cell c here =
      let below : c.col < g.extent.cols = here.inside.col in
      from_east (g.extent.cols - suc c.col) c (omega (arith, below)) here

  -- so the surface is the least that covers the ground and drains
  least_at_end : IsLeastSurface g (con_at g.extent f)
  least_at_end = record {
    covers = end.flood.between.covers;
    drains = λ c here. (let way = end.flood.drains c (every_cell c here) in (way.rest, way.path, way.falls));
    least = λ t covers drains c here. end.flood.between.low t covers drains c here;
  }

  pub done : IsFilledFrom g first f
  done = record {
    surface = record {
      counted = end.flood.counted;
      voids = end.flood.marks.voids;
      opened = λ c is_open. record {
        con = least_at_open g (con_at g.extent f) least_at_end c (record { inside = is_open.0; is_data = is_open.1.0 }) is_open;
        mark = end.flood.marks.opened c is_open;
      };
      closed = λ c here shut. end.flood.marks.closed c (every_cell c here) shut;
      covers = least_at_end.covers;
      drains = least_at_end.drains;
      least = λ c n d here there leads. least_beside g (con_at g.extent f) least_at_end c n here there (AreNeighbors-lies c n d (step_lies g.extent c n d leads).1);
    };
    voids = end.flood.voids;
  }

pub all_are_reached : AllAreReached
all_are_reached g first f end c here = every_cell g first f end c here

-- so the grid is filled
pub flood_is_done : FloodIsDone
flood_is_done g first f end = done g first f end
