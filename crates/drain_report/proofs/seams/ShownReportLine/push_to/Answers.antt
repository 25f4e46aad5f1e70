use Rattle.drain_report.proofs.Names.{◌∷◌, ◌++◌, [], rules, ap, ◌∙◌, w64, codes, to_z-of_z, spaced, cell_numbers, flag_number, height_word, other_numbers}
use Rattle.drain_report.proofs.FactLemmas.{two_same, five_same, flag_is}
use Rattle.drain_report.proofs.TextLemmas.{five, on_ok}
use Rattle.drain_report.proofs.seams.ShownReportLine.push_to.Goals as goal

pub returns-clause-written : goal.returns-clause-written
returns-clause-written c =
    let inside = c.values.inside in
    let view = c.values.view_is in
    let shown = c.args.self.now in
    let cell = two_same (to_z-of_z w64 c.from.result (search rules) ∙ c.from.ensures) (to_z-of_z w64 c.from-2.result (search rules) ∙ c.from-2.ensures) in
    let others = five_same
    (to_z-of_z w64 c.from-3.result (search rules) ∙ c.from-3.ensures ∙ flag_is inside.sink ∙ ap (λ v. flag_number v.sink) view)
    (to_z-of_z w64 inside.con (search rules) ∙ ap (λ v. v.con) view)
    (to_z-of_z w64 inside.dir (search rules) ∙ ap (λ v. v.dir) view)
    (to_z-of_z w64 inside.acc (search rules) ∙ ap (λ v. v.acc) view)
    (to_z-of_z w64 inside.bas (search rules) ∙ ap (λ v. v.bas) view) in
    on_ok c.push-2.result
    (λ is. five c.args.text.now.items c.push.new.text.items c.push_numbers.new.text.items c.push_height.new.text.items c.push_numbers-2.new.text.items c.push-2.new.text.items
    (codes "seam") (spaced (cell_numbers shown.cell)) (32 ∷ height_word shown.values.z) (spaced (other_numbers shown.values)) (10 ∷ [])
    c.in_ok-push.ensures
    (c.in_ok-push_numbers.ensures ∙ ap (λ ns. c.push.new.text.items ++ spaced ns) cell)
    (c.in_ok-push_height.ensures ∙ ap (λ v. c.push_numbers.new.text.items ++ 32 ∷ height_word v.z) view)
    (c.in_ok-push_numbers-2.ensures ∙ ap (λ ns. c.push_height.new.text.items ++ spaced ns) others)
    is)
    c.push-2.ensures
