use Rattle.drain_slope.proofs.Names.{◌≡◌, ◌^◌, ℤ, pos, ◌*ℤ◌, FitsSigned, sym, ◌∙◌, ap, to_z, of_z, w64, to_z-of_z, term_value}
use Rattle.drain_slope.proofs.Units.{drops_in_units}
use Rattle.drain_slope.proofs.in_unit.is_steeper_in_unit.Goals as goal

-- a whole number of units, as it is passed on
passed : (height a one : ℤ) → FitsSigned w64 a → height ≡ a *ℤ one → height ≡ to_z w64 (of_z w64 a) *ℤ one
passed height a one fits is = is ∙ ap (λ z. z *ℤ one) (sym (to_z-of_z w64 a fits))

pub returns : goal.returns
returns c =
    let one = pos (2 ^ c.args.unit) in
    let fits_h : FitsSigned w64 c.in_unit-here.result = record { sfits = c.in_unit-here.type_inv } in
    let fits_f : FitsSigned w64 c.in_unit.result = record { sfits = c.in_unit.type_inv } in
    let fits_s : FitsSigned w64 c.in_unit-2.result = record { sfits = c.in_unit-2.type_inv } in
    drops_in_units (term_value c.args.h) (term_value c.args.f) (term_value c.args.s) _ _ _ c.apart-drop.result c.apart-other_drop.result c.args.other_over c.args.over c.args.unit c.is_less.result
    (passed _ c.in_unit-here.result one fits_h c.in_unit-here.ensures.value) (passed _ c.in_unit.result one fits_f c.in_unit.ensures.value)
    (passed _ c.in_unit-2.result one fits_s c.in_unit-2.ensures.value) c.apart-drop.ensures.value c.apart-other_drop.ensures.value c.is_less.ensures
