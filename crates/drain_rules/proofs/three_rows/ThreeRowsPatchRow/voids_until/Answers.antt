use Rattle.drain_rules.proofs.Names.{ℕ, ◌≤◌, arith, below_more, tried, IsRightVoid, patch_in}
use Rattle.drain_rules.proofs.RightVoids.{right_void}
use Rattle.drain_rules.proofs.three_rows.ThreeRowsPatchRow.voids_until.Goals as goal

pub loop-col-preserved : goal.loop-col-preserved
loop-col-preserved c =
    let rules = c.args.rules.now in
    let shown = patch_in c.args.self.now in
    let right = right_void rules (shown c.loop-col.col) (c.is_blank_void_at.ensures c.if-is_blank_void_at.true) in
    record {
      forward = omega (arith, c.loop-col.invariant.forward);
      within = omega (arith, c.loop-col-test.true);
      right = λ k past less.
          below_more (λ (n : ℕ). c.args.from ≤ n → IsRightVoid (tried rules) (shown n)) c.loop-col.col
          (λ n earlier from. c.loop-col.invariant.right n from earlier) (λ from. right) k less past;
    }
