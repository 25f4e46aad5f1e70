use Rattle.drain_merge.proofs.Names.{◌+◌, Option, sym, subst, ap, ◌∙◌, arith, false≢true, get_or_default, Cell, Outlet, IsLeastSharing}
use Rattle.drain_merge.proofs.SortedOutlets.{least_passed, least_taken, least_at}
use Rattle.drain_merge.proofs.shared.least_sharing.Goals as goal
use Rattle.drain_merge.proofs.shared.least_sharing.Goals.{then-shares_at, else-shares_at}

pub loop-place-preserved : goal.loop-place-preserved
loop-place-preserved c =
    let xs = c.args.outlets.now in
    let n = c.loop-place.place in
    let least = λ (o : Option Cell). IsLeastSharing xs (n + 1) o in (
      (λ some. omega arith),
      elim c.if-shares_at.branch [
        | then-shares_at w ↦
            subst least (sym w.first-is)
            (least_taken xs n c.loop-place.first _ w.earlier_of.result (omega arith) c.loop-place.invariant.1 (c.shares_at.ensures.0 w.if-shares_at.true)
            (λ d. ap (λ (o : Outlet). o.cell) (get_or_default xs n d _ (omega arith))) w.earlier_of.ensures)
        | else-shares_at w ↦
            subst least (sym w.first-is)
            (least_passed xs n c.loop-place.first c.loop-place.invariant.1 (λ shares. false≢true (sym w.if-shares_at.false ∙ c.shares_at.ensures.1 shares)))
      ],
    )

pub returns : goal.returns
returns c =
    let within = c.loop-place.invariant.0 in
    least_at c.args.outlets.now c.loop-place.place _ c.loop-place.first (λ k some below. omega (arith, within)) (λ k some below. omega arith) c.loop-place.invariant.1
