use Rattle.drain_maker.proofs.Names.{◌∙◌, sym, ap, subst, rules, SFits, to_z, of_z, to_z-of_z, is_finite, Single, IsPixel, number_at, kept_number}
use mir.Syntax.{w64}
use Rattle.drain_maker.proofs.KeptNumbers.{either_pixel}
use Rattle.drain_maker.proofs.whole_dem.kept_at.Goals as goal

pub returns : goal.returns
returns c =
    let p = c.args.raster.now in
    let n = number_at p c.args.cell in
    let fits : SFits w64 c.value.result = search rules in
    let void_fits : SFits w64 c.nodata.result = search rules in
    let number = to_z-of_z w64 c.value.result fits ∙ c.value.ensures.number in
    let void = to_z-of_z w64 c.nodata.result void_fits ∙ c.nodata.ensures.number in
    let is = c.kept_number.ensures ∙ (ap (λ z. kept_number Single z (to_z w64 (of_z w64 c.value.result))) void ∙ ap (kept_number Single p.nodata) number) in
    let whole = to_z-of_z w64 c.kept_number.result (search rules) ∙ is in
    record {
      is = whole;
      pixel = subst IsPixel (sym whole) (either_pixel (is_finite n) p.nodata n c.requires.nodata (subst IsPixel c.value.ensures.number c.value.ensures.pixel));
    }
