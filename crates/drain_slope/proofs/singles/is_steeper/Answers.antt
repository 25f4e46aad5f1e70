use Rattle.drain_slope.proofs.Names.{◌≡◌, ℤ, FitsSigned, ◌∙◌, ap, to_z, of_z, w64, to_z-of_z, single_height, term_value}
use Rattle.drain_slope.proofs.Units.{same_drops}
use Rattle.drain_slope.proofs.singles.is_steeper.Goals as goal

-- the height of a number, as the number is passed on
passed : (height number : ℤ) → FitsSigned w64 number → height ≡ single_height (to_z w64 (of_z w64 number)) → height ≡ single_height number
passed height number fits is = is ∙ ap single_height (to_z-of_z w64 number fits)

pub returns-then-highest-lowest-le7 : goal.returns-then-highest-lowest-le7
returns-then-highest-lowest-le7 c =
    same_drops (term_value c.height-h.result) (term_value c.height-f.result) (term_value c.height-s.result) _ _ _ c.args.over c.args.other_over c.is_steeper_in_unit.result
    (passed _ c.args.here c.ranges.here c.height-h.ensures.value) (passed _ c.args.first c.ranges.first c.height-f.ensures.value)
    (passed _ c.args.second c.ranges.second c.height-s.ensures.value) c.is_steeper_in_unit.ensures

pub returns-else-highest-lowest-le7 : goal.returns-else-highest-lowest-le7
returns-else-highest-lowest-le7 c =
    same_drops (term_value c.height-h.result) (term_value c.height-f.result) (term_value c.height-s.result) _ _ _ c.args.over c.args.other_over c.is_steeper_by_terms.result
    (passed _ c.args.here c.ranges.here c.height-h.ensures.value) (passed _ c.args.first c.ranges.first c.height-f.ensures.value)
    (passed _ c.args.second c.ranges.second c.height-s.ensures.value) c.is_steeper_by_terms.ensures
