use Rattle.drain_flood.proofs.Names.{Flooding, HasFirstMarks, IsBetween, IsFilledFrom, IsFlooded, listed_at, AreFirstMarks, AreGrounds, Extent, Grid, Heights, Distances, unit_spacing, spaced_grid, SinkLine, List, subst, sym, ℕ, ℤ, IfOk-weaker}
use Rattle.drain_flood.proofs.Laying.{grounds_between, grounds_flooded, marks_of_rows}
use Rattle.drain_flood.proofs.flood.fill.Goals as goal

pub fill_heights-requires-clause-marked : goal.fill_heights-requires-clause-marked
fill_heights-requires-clause-marked c =
    let g = spaced_grid (λ row. unit_spacing) c.args.elevation.now c.args.sinks.now in
    let marks = c.in_ok-mark.mark.items in (
      g,
      subst (λ (e : Extent). HasFirstMarks g e marks) (sym c.shape.ensures) (marks_of_rows g marks (c.in_ok-mark.ensures.marks (λ row. unit_spacing))),
    )

-- what the flood says of the grid of the tiles
abbrev IsFilledHere : Extent → List ℤ → List ℕ → Flooding → Type 0
IsFilledHere e con marks flood = (g : Grid) → HasFirstMarks g e marks → IsBetween g (listed_at e con) → IsFilledFrom g (listed_at e con) flood

flooded : (spacing : ℕ → Distances) (h : Heights) (sinks : List SinkLine) (con : List ℤ) (marks : List ℕ) (flood : Flooding) → AreGrounds h con →
    AreFirstMarks (spaced_grid spacing h sinks) h.extent.rows marks → IsFilledHere h.extent con marks flood → IsFlooded (spaced_grid spacing h sinks) flood
flooded spacing h sinks con marks flood grounds are filled =
    grounds_flooded spacing h sinks con grounds flood
    (filled (spaced_grid spacing h sinks) (marks_of_rows (spaced_grid spacing h sinks) marks are) (grounds_between spacing h sinks con grounds))

pub returns-clause-flooded : goal.returns-clause-flooded
returns-clause-flooded c =
    IfOk-weaker c.fill_heights.result _ _ (λ flood filled spacing.
    flooded spacing c.args.elevation.now c.args.sinks.now c.in_ok-con.con.items c.in_ok-mark.mark.items flood c.in_ok-con.ensures (c.in_ok-mark.ensures.marks spacing)
    (subst (λ (e : Extent). IsFilledHere e c.in_ok-con.con.items c.in_ok-mark.mark.items flood) c.shape.ensures filled))
    c.fill_heights.ensures.filled

pub returns-clause-filled : goal.returns-clause-filled
returns-clause-filled c =
    IfOk-weaker c.fill_heights.result _ _ (λ flood is spacing. c.flood_is_filled.ensures (spaced_grid spacing c.args.elevation.now c.args.sinks.now) flood (is spacing).surface)
    (returns-clause-flooded c)
