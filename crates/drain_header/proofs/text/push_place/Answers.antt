use Rattle.drain_header.proofs.Names.{◌∙◌, ap, rules, w128, to_z-of_z, Ulxmap, Ulymap, Xdim}
use Rattle.std.proofs.Common.{◌++◌}
use Rattle.drain_header.specs.Text.{line, places_text}
use Rattle.drain_header.proofs.Entries.{place_joined}
use Rattle.drain_header.proofs.text.push_place.Goals as goal

pub returns : goal.returns
returns c =
    let p = c.args.place.now in
    let before = c.args.text.now.items in
    let ulx = c.in_ok-push_degrees.ensures ∙ ap (λ z. before ++ line Ulxmap (places_text z)) (to_z-of_z w128 p.ulx (search rules)) in
    let uly = c.in_ok-push_degrees-2.ensures ∙ ap (λ z. c.push_degrees.new.text.items ++ line Ulymap (places_text z)) (to_z-of_z w128 p.uly (search rules)) in
    let xdim = c.in_ok-push_degrees-3.ensures ∙ ap (λ z. c.push_degrees-2.new.text.items ++ line Xdim (places_text z)) (to_z-of_z w128 p.xdim (search rules)) in
    rw (← place_joined p before c.push_degrees.new.text.items c.push_degrees-2.new.text.items c.push_degrees-3.new.text.items ulx uly xdim)
    (rw (to_z-of_z w128 p.ydim (search rules)) at c.push_degrees-4.ensures)
