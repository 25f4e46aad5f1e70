use Rattle.drain_rules.proofs.Names.{◌≡◌, ℕ, ◌<◌, ap, arith, refl, sym, subst, Extent, Grid, Products, patch_at, AllWithRanks, NoDataNumbers, grid_of, products_of, HasNewLabel, AreRowPatches, place, IsVerdict}
use Rattle.std.proofs.lemmas.Result.{err_from_is_err_and}
use Rattle.drain_rules.proofs.raster_walk.walk.Goals as goal

-- the rasters' row is a row of their grid
own-patches : (g : Grid) (ps : Products) (row at : ℕ) → row < g.extent.rows → at ≡ row →
    AreRowPatches g ps at g.extent.cols (λ col. patch_at g ps (place row col))
own-patches g ps row at inside same =
    let here : AreRowPatches g ps row g.extent.cols (λ col. patch_at g ps (place row col)) =
    record { inside = inside; cols_are = refl; patches_are = λ col less. refl } in
    subst (λ r. AreRowPatches g ps r g.extent.cols (λ col. patch_at g ps (place row col))) (sym same) here

pub loop-row-init : goal.loop-row-init
loop-row-init c = record {
  counted = c.new-walk.ensures.rows;
  right = c.new-walk.ensures.outcome (record { nodata = c.nodata.result; judged = AllWithRanks }) (grid_of c.args.elevation.now c.args.sinks.now) (products_of c.args.products.now);
}

pub returns-in_err-check_row-clause-err : goal.returns-in_err-check_row-clause-err
returns-in_err-check_row-clause-err c =
    let g = grid_of c.args.elevation.now c.args.sinks.now in
    let ps = products_of c.args.products.now in
    let inv = c.loop-row.invariant in
    let rows : c.shape-shape.result.rows ≡ c.args.elevation.now.extent.rows = ap (λ (e : Extent). e.rows) c.shape-shape.ensures in
    let inside : c.loop-row.row < c.args.elevation.now.extent.rows = omega (arith, c.loop-row-test.true, c.rows-row-end.ensures, rows) in
    let new_label = c.in_err-check_row.ensures.err g ps (own-patches g ps c.loop-row.row c.loop-row.walk.rows inside inv.counted) inv.right in
    let told = err_from_is_err_and c.from_residual.result c.from_residual.ensures.1 in
    rw told.1 (subst (λ (n : NoDataNumbers). HasNewLabel (record { nodata = n; judged = AllWithRanks }) g ps) c.nodata.ensures new_label)

pub loop-row-preserved : goal.loop-row-preserved
loop-row-preserved c =
    let g = grid_of c.args.elevation.now c.args.sinks.now in
    let ps = products_of c.args.products.now in
    let inv = c.loop-row.invariant in
    let rows : c.shape-shape.result.rows ≡ c.args.elevation.now.extent.rows = ap (λ (e : Extent). e.rows) c.shape-shape.ensures in
    let inside : c.loop-row.row < c.args.elevation.now.extent.rows = omega (arith, c.loop-row-test.true, c.rows-row-end.ensures, rows) in
    record {
      counted = omega (arith, c.in_ok-check_row.ensures.rows, inv.counted);
      right = c.in_ok-check_row.ensures.outcome g ps (own-patches g ps c.loop-row.row c.loop-row.walk.rows inside inv.counted) inv.right;
    }

pub returns-clause-verdict : goal.returns-clause-verdict
returns-clause-verdict c =
    let g = grid_of c.args.elevation.now c.args.sinks.now in
    let ps = products_of c.args.products.now in
    let inv = c.loop-row.invariant in
    let rows : c.shape-shape.result.rows ≡ c.args.elevation.now.extent.rows = ap (λ (e : Extent). e.rows) c.shape-shape.ensures in
    let last : c.loop-row.walk.rows ≡ c.args.elevation.now.extent.rows =
    omega (arith, inv.counted, c.loop-row-test.false, c.loop-row.auto.row-end, c.rows-row-end.ensures, rows) in
    let verdict = c.verdict.ensures.verdict (record { nodata = c.nodata.result; judged = AllWithRanks }) g ps (sym c.shape-shape.ensures) last inv.right in
    subst (λ (n : NoDataNumbers). IsVerdict g ps n c.verdict.result) c.nodata.ensures verdict
