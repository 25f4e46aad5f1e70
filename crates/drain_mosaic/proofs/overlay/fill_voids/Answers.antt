use Rattle.drain_mosaic.proofs.Names.{◌≡◌, get_or, arith, sym, subst, below_more, and_from, and_parts, VOID, Conflict, ConflictAt}
use Rattle.std.proofs.lemmas.Grind.{common_steps}
use Rattle.drain_mosaic.proofs.overlay.fill_voids.Goals as goal

pub loop-k-preserved : goal.loop-k-preserved
loop-k-preserved c =
    let old = c.args.here.now in
    let other = c.args.other.now in
    let k = c.loop-k.k in
    let inv = c.loop-k.invariant in
    let here_is : get_or c.loop-k.here k VOID ≡ get_or old k VOID = inv.rest k (omega arith) in
    record {
      values = grind (arith, common_steps);
      rest = grind (arith, common_steps);
      agree = (
        λ both.
            let so = and_parts c.loop-k.all c.agree_at.result both in
            below_more (λ j. ConflictAt old other j → ⊥) k (inv.agree.0 so.0) (λ h. c.agree_at.ensures.0 so.1 (subst (λ z. Conflict z (get_or other k VOID)) (sym here_is) h)),
        λ none. and_from c.loop-k.all c.agree_at.result (inv.agree.1 (λ j less. none j (omega (arith, less))))
            (c.agree_at.ensures.1 (λ h. none k (omega arith) (subst (λ z. Conflict z (get_or other k VOID)) here_is h))),
      );
    }
