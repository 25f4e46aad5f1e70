use Rattle.drain_union.proofs.Names.{ℕ, subst, sym, IsJudgedAlong}
use Rattle.drain_union.proofs.JudgedCounts.{judged_both, judged_at}
use Rattle.drain_union.proofs.place.Place.judges.Goals as goal

pub returns-then-judges_along : goal.returns-then-judges_along
returns-then-judges_along c =
    let p = c.args.self.now in
    let cell = c.args.cell in
    let in_rows = λ (n : ℕ). IsJudgedAlong p.top n p.inner.north p.inner.south cell.row in
    let in_cols = λ (n : ℕ). IsJudgedAlong p.left n p.inner.west p.inner.east cell.col in (
      (λ is.
          judged_at p cell (record {
            rows = subst in_rows c.rows.ensures (c.judges_along.ensures.0 c.if-judges_along.true);
            cols = subst in_cols c.cols.ensures (c.judges_along-then-judges_along.ensures.0 is);
          })),
      (λ at. c.judges_along-then-judges_along.ensures.1 (subst in_cols (sym c.cols.ensures) (judged_both p cell at).cols)),
    )
