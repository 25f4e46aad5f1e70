use Rattle.drain_rules.proofs.Names.{ℕ, ◌<◌, ◌≤◌, inl, inr, sym, arith, below_more, cases_lt, Patch, Profile, IsKept, tried, patch_in}
use Rattle.drain_rules.proofs.LanedPatches.{patch_shown, patch_shown_round}
use Rattle.drain_rules.proofs.three_rows.cleared_until.Goals as goal

-- one run of cleared cells after another
joined : (profile : Profile) (shown : ℕ → Patch) (from middle end : ℕ) → ((k : ℕ) → from ≤ k → k < middle → IsKept profile (shown k)) →
    ((k : ℕ) → middle ≤ k → k < end → IsKept profile (shown k)) → (k : ℕ) → from ≤ k → k < end → IsKept profile (shown k)
joined profile shown from middle end before after k past less = elim (cases_lt k middle) [
  | inl earlier ↦ before k past earlier
  | inr later ↦ after k later less
]

-- the run that is cleared at once
pub returns-then-stop-end-clause-kept : goal.returns-then-stop-end-clause-kept
returns-then-stop-end-clause-kept c =
    let rows = c.args.rows.now in
    let stop = c.kept_until-stop.ensures in
    joined (tried c.args.rules.now) (patch_in rows) c.args.from c.loop-col.col c.kept_until-stop.result c.loop-col.invariant.kept
    (λ k past less. stop.kept k past less (patch_in rows k) (sym c.slopes-slopes.ensures)
    (patch_shown c.lanes_show_numbers.ensures rows c.args.above.now c.args.here.now c.args.below.now c.requires.above_lanes c.requires.here_lanes c.requires.below_lanes k
    (stop.inner k past less) (c.unmarked_until.ensures.unmarked k past (omega (arith, less, stop.within, c.min-until.ensures)))))

-- and the cell after it, if it falls
pub loop-col-preserved : goal.loop-col-preserved
loop-col-preserved c =
    let rows = c.args.rows.now in
    let stop = c.kept_until-stop.ensures in
    let inner = c.falls_at.ensures.inner c.if-not-falls_at.false in
    let one = c.falls_at.ensures.kept c.if-not-falls_at.false (patch_in rows c.kept_until-stop.result) (sym c.slopes-slopes.ensures)
    (patch_shown_round c.lanes_show_numbers.ensures rows c.args.above.now c.args.here.now c.args.below.now c.requires.above_lanes c.requires.here_lanes c.requires.below_lanes
    c.kept_until-stop.result inner) in
    record {
      forward = omega (arith, c.loop-col.invariant.forward, stop.forward);
      within = omega (arith, inner.here_right);
      kept = λ k past less.
          below_more (λ (n : ℕ). c.args.from ≤ n → IsKept (tried c.args.rules.now) (patch_in rows n)) c.kept_until-stop.result
          (λ n earlier from.
          joined (tried c.args.rules.now) (patch_in rows) c.args.from c.loop-col.col c.kept_until-stop.result c.loop-col.invariant.kept
          (λ m past less. stop.kept m past less (patch_in rows m) (sym c.slopes-slopes.ensures)
          (patch_shown c.lanes_show_numbers.ensures rows c.args.above.now c.args.here.now c.args.below.now c.requires.above_lanes c.requires.here_lanes c.requires.below_lanes m
          (stop.inner m past less) (c.unmarked_until.ensures.unmarked m past (omega (arith, less, stop.within, c.min-until.ensures))))) n from earlier)
          (λ from. one) k less past;
    }
