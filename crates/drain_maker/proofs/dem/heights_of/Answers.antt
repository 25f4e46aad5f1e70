use Rattle.drain_maker.proofs.Names.{◌≡◌, ◌∙◌, ◌+◌, ◌*◌, pos, length, get_or, sym, ap, subst, rules, SFits, to_z-of_z, Extent, IsCellOf, index_of, index_of-below, within, IsHeightAt}
use mir.Syntax.{w64}
use Rattle.std.proofs.lemmas.List.{length-append}
use Rattle.drain_maker.proofs.DemLemmas.{with_height}
use Rattle.drain_maker.proofs.dem.heights_of.Goals as goal

pub loop-place-preserved : goal.loop-place-preserved
loop-place-preserved c =
    let p = c.args.dem.now in
    let fits : SFits w64 c.height_at.result = search rules in
    record {
      long = ap length c.in_ok-push.ensures.items ∙ length-append c.loop-place.heights.items _ ∙ ap (λ n. n + 1) c.loop-place.invariant.long;
      heights = λ at inside less.
          (let shape : c.shape-shape.result ≡ p.extent = c.shape-shape.ensures in
          subst (λ xs. IsHeightAt p at (get_or xs (index_of p.extent at) (pos 0))) (sym c.in_ok-push.ensures.items)
          (with_height p (IsHeightAt p) c.loop-place.heights.items _ c.loop-place.place c.cell.result
          (subst (λ (e : Extent). IsCellOf e c.cell.result) shape c.cell.ensures.inside)
          (ap (λ (e : Extent). index_of e c.cell.result) (sym shape) ∙ c.cell.ensures.place) c.loop-place.invariant.long
          (subst (IsHeightAt p c.cell.result) (sym (to_z-of_z w64 c.height_at.result fits)) c.height_at.ensures) c.loop-place.invariant.heights at inside less));
    }

pub returns-clause-heights : goal.returns-clause-heights
returns-clause-heights c = λ at inside.
    (let p = c.args.dem.now in
    let all : c.cells-place-end.result ≡ p.extent.rows * p.extent.cols =
    c.cells-place-end.ensures.product ∙ ap (λ (e : Extent). e.rows * e.cols) c.shape-shape.ensures in
    c.loop-place.invariant.heights at inside
    (within (index_of p.extent at) (p.extent.rows * p.extent.cols) c.cells-place-end.result c.loop-place.place (index_of-below p.extent at inside) all c.loop-place-test.false))
