use Rattle.drain_slope.proofs.Names.{◌*ℤ◌, FitsSigned, ◌∙◌, ap, to_z, of_z, w64, to_z-of_z}
use Rattle.drain_slope.proofs.Units.{in_units}
use Rattle.drain_slope.proofs.in_unit.in_unit.Goals as goal

pub returns-clause-value : goal.returns-clause-value
returns-clause-value c =
    let fits_n : FitsSigned w64 c.number_of.result = record { sfits = c.number_of.type_inv } in
    let fits_p : FitsSigned w64 c.power.result = record { sfits = c.power.type_inv } in
    let fits_r : FitsSigned w64 c.scaled.result = record { sfits = c.scaled.type_inv } in
    in_units c.args.height.number c.power.result _ c.args.height.shift c.args.unit c.requires.from c.power.ensures.value
    (to_z-of_z w64 c.scaled.result fits_r ∙ (c.scaled.ensures.value ∙
    (ap (λ z. z *ℤ to_z w64 (of_z w64 c.power.result)) (to_z-of_z w64 c.number_of.result fits_n ∙ c.number_of.ensures) ∙
    ap (λ z. c.args.height.number *ℤ z) (to_z-of_z w64 c.power.result fits_p))))
