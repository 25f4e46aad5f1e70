use Rattle.drain_flood.proofs.Names.{◌∙◌, Some, None, get_or, sym, ap, subst, Extent, IsCellOf, index_of}
use Rattle.drain_flood.proofs.ExactWays.{code_of_patch}
use Rattle.drain_flood.proofs.exact_ways.first_code.Goals as goal

pub returns-in-Some : goal.returns-in-Some
returns-in-Some t c = record {
  code = λ g same spaced surface.
      code_of_patch g c.args.surface.now c.args.cell c.args.surface.now.extent c.args.spacing c.at-patch.result surface
      (subst (λ (e : Extent). IsCellOf e c.args.cell) (sym same) c.requires.inside) same spaced c.at-patch.ensures (Some c.in-Some.direction) c.in-Some.ensures
      c.code.result c.code.ensures;
}

pub returns-in-None : goal.returns-in-None
returns-in-None t c = record {
  code = λ g same spaced surface.
      (let f = c.args.surface.now in
      code_of_patch g f c.args.cell f.extent c.args.spacing c.at-patch.result surface
      (subst (λ (e : Extent). IsCellOf e c.args.cell) (sym same) c.requires.inside) same spaced c.at-patch.ensures None c.in-None.ensures c.mark_at.result
      (c.mark_at.ensures ∙ ap (λ i. get_or f.mark i 0) (c.index.ensures.place ∙ ap (λ (e : Extent). index_of e c.args.cell) (c.shape.ensures ∙ sym same))));
}
