use Rattle.drain_kernel.proofs.Names.{◌≢◌, ◌≤◌, ℕ, sym, ◌∙◌, ap, subst, ThreeLanes, lowered}
use Rattle.drain_kernel.proofs.VouchedNumbers.{has_way}
use Rattle.drain_kernel.proofs.strides.ways_are_there.Goals as goal

pub returns-then-are_no_ways : goal.returns-then-are_no_ways
returns-then-are_no_ways g c = λ told k low high inland ways.
    has_way c.args.nodata.now c.args.rows.now k
    (subst (λ bias. (con : ℕ) → 1 ≤ con → lowered bias con ≢ c.args.nodata.now.con)
    (sym c.tell_bias.ensures ∙ ap (λ (r : ThreeLanes). r.here.bias) c.rows.view_is) (c.are_no_ways.ensures.con told))
    (c.are_no_ways.ensures.dir told) inland ways
