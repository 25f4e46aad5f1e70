-- No count of a walk along a row is greater than the cells that it passed, so each count has room for what comes next.
use Rattle.drain_rules.proofs.Names.{◌≡◌, ℕ, ◌+◌, ◌^◌, ◌<◌, ◌≤◌, Bool, true, false, cond, int_lt, is_some, unwrap_or, pos, arith, MAX_LENGTH, Patch, Values, Kept, Tally, raised_between, IsAtMost}
use Rattle.std.proofs.Common.{◌&&◌}
use Rattle.std.specs.Ordering.{int_eq}
use Rattle.drain_rules.proofs.KeptCells.{raised_between-fits}

-- the raised cells of a run, with those before it
pub raised-fit : (shown : ℕ → Patch) (passed from cols : ℕ) (kept : Kept) (tally : Tally) → IsAtMost passed tally → passed ≤ from → from ≤ kept.end → kept.end ≤ cols →
    cols ≤ MAX_LENGTH → kept.raised ≡ raised_between shown from kept.end → tally.raised + kept.raised < 2 ^ 32
raised-fit shown passed from cols kept tally bounds past forward within narrow raised =
    omega (arith, bounds.data_cells, bounds.raised, raised, raised_between-fits shown from kept.end)

at_most_one : (b : Bool) → cond b 1 0 ≤ 1
at_most_one true = omega arith
at_most_one false = omega arith

no_more : (a b : Bool) → cond (a && b) 1 0 ≤ cond a 1 0
no_more true b = at_most_one b
no_more false b = omega arith

-- the counts with one cell more
pub bounds-next : (here : Values) (passed upto : ℕ) (old new : Tally) → passed < upto → IsAtMost passed old → new.data_cells ≡ old.data_cells + cond (is_some here.z) 1 0 →
    new.raised ≡ old.raised + cond (is_some here.z && int_lt (unwrap_or here.z (pos 0)) here.con) 1 0 →
    new.outlets ≡ old.outlets + cond (is_some here.z && int_eq here.dir (pos 0)) 1 0 → IsAtMost upto new
bounds-next here passed upto old new less bounds data_cells raised outlets =
    let one = at_most_one (is_some here.z) in
    let as_raised = no_more (is_some here.z) (int_lt (unwrap_or here.z (pos 0)) here.con) in
    let as_outlet = no_more (is_some here.z) (int_eq here.dir (pos 0)) in
    record {
      data_cells = omega (arith, data_cells, bounds.data_cells, one);
      raised = omega (arith, raised, data_cells, bounds.raised, as_raised);
      outlets = omega (arith, outlets, data_cells, bounds.outlets, as_outlet);
    }
