use Rattle.drain_report.proofs.Names.{◌∷◌, ◌++◌, ◌∙◌, drop, sym, rules, spaced, cell_numbers, other_numbers}
use Rattle.drain_report.proofs.FactLemmas.{height_long, narrow_cell_long, others_long}
use Rattle.drain_report.proofs.ListLemmas.{seam_split}
use Rattle.drain_report.proofs.seams.seam_after.Goals as goal

pub returns-in_default-clause-back : goal.returns-in_default-clause-back
returns-in_default-clause-back c = λ s rest fit two five is.
    c.in_default.ensures.back _ (is ∙ seam_split (cell_numbers s.cell) s.values.z (other_numbers s.values) rest)

pub returns-in_default-read_numbers-clause-back : goal.returns-in_default-read_numbers-clause-back
returns-in_default-read_numbers-clause-back c = λ s rest fit two five is.
    let word = c.in-Some.ensures.back _ (is ∙ seam_split (cell_numbers s.cell) s.values.z (other_numbers s.values) rest) in
    c.in_default-read_numbers.ensures.back (cell_numbers s.cell) 32 _ (sym two) (record { long = narrow_cell_long s.cell fit.cell; ends = search rules; is = word })

pub returns-in_default-first_height-clause-back : goal.returns-in_default-first_height-clause-back
returns-in_default-first_height-clause-back c = λ s rest fit two five is.
    let word = c.in-Some.ensures.back _ (is ∙ seam_split (cell_numbers s.cell) s.values.z (other_numbers s.values) rest) in
    let cell = c.in-Some-read_numbers.ensures.back (cell_numbers s.cell) 32 _ (sym two) (record { long = narrow_cell_long s.cell fit.cell; ends = search rules; is = word }) in
    c.in_default-first_height.ensures.back s.values.z (drop 1 (spaced (other_numbers s.values) ++ 10 ∷ rest)) (height_long s.values.z fit.values.in_range.z_ok) cell.1

pub returns-in_default-read_numbers-2-clause-back : goal.returns-in_default-read_numbers-2-clause-back
returns-in_default-read_numbers-2-clause-back c = λ s rest fit two five is.
    let word = c.in-Some.ensures.back _ (is ∙ seam_split (cell_numbers s.cell) s.values.z (other_numbers s.values) rest) in
    let cell = c.in-Some-read_numbers.ensures.back (cell_numbers s.cell) 32 _ (sym two) (record { long = narrow_cell_long s.cell fit.cell; ends = search rules; is = word }) in
    let height = c.in-Some-first_height.ensures.back s.values.z (drop 1 (spaced (other_numbers s.values) ++ 10 ∷ rest)) (height_long s.values.z fit.values.in_range.z_ok) cell.1 in
    c.in_default-read_numbers-2.ensures.back (other_numbers s.values) 10 rest (sym five) (record { long = others_long s.values fit.values.in_range; ends = search rules; is = height.1 })

pub returns-in_default-after_word-clause-back : goal.returns-in_default-after_word-clause-back
returns-in_default-after_word-clause-back c = λ s rest fit two five is.
    let word = c.in-Some.ensures.back _ (is ∙ seam_split (cell_numbers s.cell) s.values.z (other_numbers s.values) rest) in
    let cell = c.in-Some-read_numbers.ensures.back (cell_numbers s.cell) 32 _ (sym two) (record { long = narrow_cell_long s.cell fit.cell; ends = search rules; is = word }) in
    let height = c.in-Some-first_height.ensures.back s.values.z (drop 1 (spaced (other_numbers s.values) ++ 10 ∷ rest)) (height_long s.values.z fit.values.in_range.z_ok) cell.1 in
    let others = c.in-Some-read_numbers-2.ensures.back (other_numbers s.values) 10 rest (sym five) (record { long = others_long s.values fit.values.in_range; ends = search rules; is = height.1 }) in
    c.in_default-after_word.ensures.back rest others.1

pub returns-clause-back : goal.returns-clause-back
returns-clause-back c = λ s rest fit two five is.
    let word = c.in-Some.ensures.back _ (is ∙ seam_split (cell_numbers s.cell) s.values.z (other_numbers s.values) rest) in
    let cell = c.in-Some-read_numbers.ensures.back (cell_numbers s.cell) 32 _ (sym two) (record { long = narrow_cell_long s.cell fit.cell; ends = search rules; is = word }) in
    let height = c.in-Some-first_height.ensures.back s.values.z (drop 1 (spaced (other_numbers s.values) ++ 10 ∷ rest)) (height_long s.values.z fit.values.in_range.z_ok) cell.1 in
    let others = c.in-Some-read_numbers-2.ensures.back (other_numbers s.values) 10 rest (sym five) (record { long = others_long s.values fit.values.in_range; ends = search rules; is = height.1 }) in
    (cell.0, (height.0, (others.0, c.in-Some-after_word.ensures.back rest others.1)))
