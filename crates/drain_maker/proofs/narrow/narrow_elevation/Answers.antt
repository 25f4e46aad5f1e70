use Rattle.drain_maker.proofs.Names.{◌≡◌, ◌∙◌, IfSome, sym, ap, subst, rules, SFits, to_z, of_z, to_z-of_z, Heights, AreNarrowed}
use mir.Syntax.{w64}
use Rattle.drain_maker.proofs.NarrowDems.{narrowed}
use Rattle.drain_maker.proofs.narrow.narrow_elevation.Goals as goal

pub returns-in-Some : goal.returns-in-Some
returns-in-Some c =
    let p = c.args.dem.now in
    let fits : SFits w64 c.nodata.result = search rules in
    let nodata : to_z w64 (of_z w64 c.nodata.result) ≡ p.nodata = to_z-of_z w64 c.nodata.result fits ∙ c.nodata.ensures.number in
    let came = subst (λ o. IfSome o (λ samples. AreNarrowed (to_z w64 (of_z w64 c.nodata.result)) c.in-Wide.numbers.now samples.items)) c.in-Some.is c.in_ok-samples.ensures in
    narrowed p c.new.result (ap (λ (h : Heights). h.extent) c.new.ensures ∙ c.shape.ensures) c.in-Wide.ensures.counted
    (subst (λ z. AreNarrowed z p.numbers c.new.result.samples) nodata
    (subst (λ xs. AreNarrowed (to_z w64 (of_z w64 c.nodata.result)) xs c.new.result.samples) c.in-Wide.ensures.numbers
    (subst (AreNarrowed (to_z w64 (of_z w64 c.nodata.result)) c.in-Wide.numbers.now) (ap (λ (h : Heights). h.samples) (sym c.new.ensures)) came)))
