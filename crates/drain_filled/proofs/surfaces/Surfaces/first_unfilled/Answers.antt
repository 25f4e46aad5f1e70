use Rattle.drain_filled.proofs.Names.{◌∙◌, ℤ, pos, List, get_or, ap, sym, subst, IfOk-weaker, index_of, listed_at, IsBetween}
use Rattle.drain_filled.proofs.FirstUnfilled.{con_compared}
use Rattle.drain_filled.proofs.surfaces.Surfaces.first_unfilled.Goals as goal

pub returns : goal.returns
returns c = record {
  first =
      IfOk-weaker c.first_unfilled.result _ _
      (λ found answer g ps parts listed rules.
      con_compared g ps c.args.self.now.ground c.args.self.now.con.items c.args.sinks.now parts listed rules found
      (λ s cells between has. answer g s cells
      (subst (λ (xs : List ℤ). IsBetween g (listed_at c.args.self.now.ground.extent xs)) (sym c.deref.ensures.value) between)
      (λ x here. has x here ∙ ap (λ (xs : List ℤ). get_or xs (index_of g.extent x) (pos 0)) (sym c.deref-2.ensures.value))))
      c.first_unfilled.ensures.between;
}
