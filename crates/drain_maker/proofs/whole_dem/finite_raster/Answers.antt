use Rattle.drain_maker.proofs.Names.{◌≡◌, ◌∙◌, pos, get_or, ap, rules, to_z-of_z, Extent, index_of, Pixels, number_at}
use mir.Syntax.{w64}
use Rattle.drain_maker.proofs.whole_dem.finite_raster.Goals as goal

pub returns : goal.returns
returns c =
    let p = c.args.raster.now in
    let is = c.new.ensures in
    let extent : c.new.result.extent ≡ p.extent = ap (λ (r : Pixels). r.extent) is ∙ c.shape.ensures in
    record {
      extent = extent;
      nodata = ap (λ (r : Pixels). r.nodata) is ∙ (to_z-of_z w64 c.nodata.result (search rules) ∙ c.nodata.ensures.number);
      numbers = λ at inside.
          ap (λ (r : Pixels). number_at r at) is ∙ (ap (λ (e : Extent). get_or c.in_ok-numbers.numbers.items (index_of e at) (pos 0)) c.shape.ensures
          ∙ (c.in_ok-numbers.ensures.numbers at inside).is);
    }
