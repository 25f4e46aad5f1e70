use Rattle.drain_filled.proofs.Names.{◌∙◌, inl, inr, get_or, refl, sym, subst, arith, cases_order, false≢true, East, directions, of_each, IsGapBeside}
use Rattle.drain_filled.proofs.ground.Ground.is_beside_gap.Goals as goal

pub returns-then-is_gap : goal.returns-then-is_gap
returns-then-is_gap c = (λ h. (_, c.is_gap.ensures.0 c.if-is_gap.true), λ h. refl)

pub loop-direction-preserved : goal.loop-direction-preserved
loop-direction-preserved c = λ i less there.
    elim (cases_order i c.loop-direction.direction-index) [
      | inl here ↦ false≢true (sym c.if-is_gap.false ∙ c.is_gap.ensures.1
          (subst (λ j. IsGapBeside c.args.self.now c.args.cell (get_or directions j East)) here there))
      | inr (inl before) ↦ c.loop-direction.invariant i before there
      | inr (inr after) ↦ absurd (omega (arith, less, after))
    ]

pub returns : goal.returns
returns c = (λ h. absurd (false≢true h), λ w. absurd (of_each (λ x. ¬ IsGapBeside c.args.self.now c.args.cell x) c.loop-direction.direction-index (omega arith) c.loop-direction.invariant w.0 w.1))
