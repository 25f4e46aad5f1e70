use Rattle.drain_explain.proofs.Names.{◌≡◌, ◌+◌, arith, length, subst, sym, Some, IsOfRow, IsRange}
use Rattle.drain_explain.proofs.Elevations.{column_more}
use Rattle.drain_explain.proofs.elevation_range.range_of.Goals as goal

pub loop-col-preserved : goal.loop-col-preserved
loop-col-preserved c =
    let row = c.args.row.now in
    subst (IsRange (IsOfRow row (c.loop-col.col + 1))) (sym c.joined-range.ensures)
    (column_more row c.loop-col.col c.loop-col.range c.range_at.result c.loop-col.invariant (subst (λ z. IsRange (λ height. z ≡ Some height) c.range_at.result) c.z.ensures c.range_at.ensures))

pub returns : goal.returns
returns c =
    let all : length c.args.row.now ≡ c.loop-col.col = omega (arith, c.loop-col-test.false, c.loop-col.auto.col-end, c.len-col-end.ensures) in
    subst (λ n. IsRange (IsOfRow c.args.row.now n) c.loop-col.range) (sym all) c.loop-col.invariant
