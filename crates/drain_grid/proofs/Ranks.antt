-- Where every run ends and ranks are the numbers of their steps, ranks play no part in any rule: along a code the rank falls by
-- one, and the no-data number of ranks is that of the voids alone.
use Rattle.drain_grid.proofs.Names.{◌≡◌, ◌≢◌, ◌↔◌, ◌<ℤ◌, Some, subst, arith, ints, Cell, Rule, VoidCell, Missing, BadCode, BelowGround, OpenRaised, NoSpill, SpillHeight, SpillRank, NotLeast, Slope, OutletCode, FlatStep, Accumulation, Label, SharedLabel, product_of, Values, NoDataNumbers, number_for, value_of, Grid, Products, IsInside, HasData, patch_at, FlatStepHolds, check_rules, VoidCellWithoutSpill, MissingWithoutSpill, unranked, VoidCellWithoutRank, MissingWithoutRank, LevelStepHolds, RanksAreSteps, next, RunEnds}
use Rattle.drain_grid.specs.declared.set_product.SetProduct.TheVariants.{Con, Dir, Acc, Bas}
use Rattle.drain_grid.proofs.ByProduct.{by_set_product}
use Rattle.drain_grid.specs.GridRules.{HoldsAt}
use Rattle.drain_grid.proofs.Patches.{cell_shown}
use Rattle.drain_grid.proofs.Codes.{next-named}
use Rattle.drain_grid.proofs.Runs.{ended-run_steps}

module _ (g : Grid) (ps : Products) (nodata : NoDataNumbers) (ends : (c : Cell) → HasData g c → RunEnds g ps c)
    (ranks : RanksAreSteps g ps nodata) (c : Cell) (inside : IsInside g c) where
  -- along a code the rank falls
  nearer : (n : Cell) → HasData g c → HasData g n → next g ps c ≡ Some n → ps.rnk n <ℤ ps.rnk c
  nearer n here there leads =
      let one_more = ended-run_steps g ps c n (ends c here) leads in
      rw (ranks.steps c here, ranks.steps n there, one_more) (omega (arith, ints))

  voids : VoidCellWithoutSpill nodata (patch_at g ps c) ↔ VoidCellWithoutRank nodata (patch_at g ps c)
  voids = (
    (λ h void. let all = h void in record { con_is = all Con; dir_is = all Dir; acc_is = all Acc; bas_is = all Bas }),
    (λ h void. let four = h void in
        by_set_product (λ p. value_of (patch_at g ps c).here (product_of p) ≡ number_for nodata (product_of p))
        four.con_is four.dir_is four.acc_is four.bas_is (ranks.voids c inside void)),
  )

  data_cells : MissingWithoutSpill nodata (patch_at g ps c) ↔ MissingWithoutRank nodata (patch_at g ps c)
  data_cells = (
    (λ h is_data.
        (let all = h is_data in
        record { con_differs = all Con; dir_differs = all Dir; acc_differs = all Acc; bas_differs = all Bas })),
    (λ h is_data. let four = h is_data in
        by_set_product (λ p. value_of (patch_at g ps c).here (product_of p) ≢ number_for nodata (product_of p))
        four.con_differs four.dir_differs four.acc_differs four.bas_differs (ranks.complete c (record { inside = inside; is_data = is_data }))),
  )

  flats : FlatStepHolds (patch_at g ps c) ↔ LevelStepHolds (patch_at g ps c)
  flats = (
    (λ h closed flat.
        (let on = h closed flat in
        (on.0, on.1, record { named = on.2.named; beside = on.2.beside; level = on.2.level }))),
    (λ h closed flat.
        (let on = h closed flat in
        let found = cell_shown g ps c on.0 on.1 on.2.beside in
        let leads = next-named g ps c found.0 on.0
        (record { named = on.2.named; there = found.1.there; is_data = found.1.has_data.is_data }) in
        let falls = nearer found.0 (record { inside = inside; is_data = closed.0 }) found.1.has_data leads in (
          on.0,
          on.1,
          record {
            named = on.2.named;
            beside = on.2.beside;
            level = on.2.level;
            nearer = subst (λ (w : Values). w.rnk <ℤ ps.rnk c) found.1.values falls;
          },
        ))),
  )

  alike : (r : Rule) → HoldsAt (check_rules nodata) g ps c r ↔ HoldsAt (unranked nodata) g ps c r
  alike VoidCell = voids
  alike Missing = data_cells
  alike BadCode = ((λ h. h), (λ h. h))
  alike BelowGround = ((λ h. h), (λ h. h))
  alike OpenRaised = ((λ h. h), (λ h. h))
  alike NoSpill = ((λ h. h), (λ h. h))
  alike SpillHeight = ((λ h. h), (λ h. h))
  alike SpillRank = ((λ h. h), (λ h. h))
  alike NotLeast = ((λ h. h), (λ h. h))
  alike Slope = ((λ h. h), (λ h. h))
  alike OutletCode = ((λ h. h), (λ h. h))
  alike FlatStep = flats
  alike Accumulation = ((λ h. h), (λ h. h))
  alike Label = ((λ h. h), (λ h. h))
  alike SharedLabel = ((λ h. h), (λ h. h))

pub own_ranks_play_no_part : (g : Grid) (ps : Products) (nodata : NoDataNumbers) → ((c : Cell) → HasData g c → RunEnds g ps c) → RanksAreSteps g ps nodata →
    (c : Cell) (r : Rule) → IsInside g c → HoldsAt (check_rules nodata) g ps c r ↔ HoldsAt (unranked nodata) g ps c r
own_ranks_play_no_part g ps nodata ends ranks c r inside = alike g ps nodata ends ranks c inside r
