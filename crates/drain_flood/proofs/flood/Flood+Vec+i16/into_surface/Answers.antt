use Rattle.drain_flood.proofs.Names.{◌≡◌, ◌∙◌, sym, ap, subst, IsFlooded}
use Rattle.drain_flood.proofs.Laying.{surface_of, still_flooded}
use Rattle.drain_flood.proofs.flood.Flood+Vec+i16.into_surface.Goals as goal

pub returns-clause-flooded : goal.returns-clause-flooded
returns-clause-flooded c = λ g flooded.
    (let s = c.self.inside in
    let copy : c.in_ok-con.con.items ≡ s.con.items = c.in_ok-con.ensures ∙ c.deref.ensures.value in
    subst (IsFlooded g) (sym (c.new.ensures ∙ ap (λ xs. surface_of s.shape xs s.mark.items) copy))
    (still_flooded g _ (subst (IsFlooded g) (sym c.self.view_is) flooded)))
