use Rattle.drain_paths.proofs.Names.{◌<◌, ◌∙◌, None, ap, get_or, length, of_z, rules, to_z, w64, length-map, elevations, height_with, cell_flow}
use Rattle.std.proofs.lemmas.Int.{to_z-of_z}
use Rattle.drain_paths.proofs.RowFlows.{flows_more, flows_filled, height-kept}
use Rattle.drain_paths.proofs.cell_flows.fill_each.Goals as goal

pub loop-k-preserved : goal.loop-k-preserved
loop-k-preserved g c =
    let zs = g.Z.PixelNumbers.numbers c.args.z.now in
    let ns = g.N.PixelNumbers.numbers c.args.dir.now in
    let voids = c.args.voids in
    let less : c.loop-k.k < length zs = search rules in
    flows_more (elevations voids zs) ns c.loop-k.out c.loop-k.k c.cell_code.result (search rules)
    (c.cell_code.ensures
    ∙ ap (λ z. cell_flow z (to_z w64 (of_z w64 c.at-in-loop-k.result))) (c.height_with.ensures
    ∙ ap (height_with voids) (to_z-of_z w64 c.at.result (search rules) ∙ c.at.ensures) ∙ height-kept voids zs c.loop-k.k less)
    ∙ ap (cell_flow (get_or (elevations voids zs) c.loop-k.k None)) (to_z-of_z w64 c.at-in-loop-k.result (search rules) ∙ c.at-in-loop-k.ensures))
    c.loop-k.invariant

pub returns : goal.returns
returns g c =
    let zs = g.Z.PixelNumbers.numbers c.args.z.now in
    let long = length-map zs (height_with c.args.voids) in
    flows_filled (elevations c.args.voids zs) (g.N.PixelNumbers.numbers c.args.dir.now) c.loop-k.out (search rules) (long ∙ c.requires.numbers) (λ i less. c.loop-k.invariant i (search rules))
