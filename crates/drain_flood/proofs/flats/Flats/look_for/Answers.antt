use Rattle.drain_flood.proofs.Names.{◌≡◌, ◌+◌, ◌∙◌, [], sym, ap, subst, rules, w64, SFits, to_z, of_z, to_z-of_z, IsCellOf, index_of, REACHED, con_at, way_at, AreLaid, Settles, IsLowEdgeThere}
use Rattle.drain_flood.proofs.LowEdges.{looked_coded, looked_none, looked_found, way_seen, level_seen}
use Rattle.drain_flood.proofs.flats.Flats.look_for.Goals as goal

pub returns-then-way_at-clause-laid : goal.returns-then-way_at-clause-laid
returns-then-way_at-clause-laid t c = λ g same laid.
    looked_coded g c.args.surface.now c.args.self.now c.args.place (λ h. c.if-way_at.true (c.way_at.ensures ∙ h)) laid

pub returns-in_ok-settle-in-Some-clause-laid : goal.returns-in_ok-settle-in-Some-clause-laid
returns-in_ok-settle-in-Some-clause-laid t c = λ g same laid.
    (let s = c.args.self.now in
    let f = c.args.surface.now in
    let cell = c.cell_at-cell.result in
    let new = c.settle.new.self in
    let level = to_z w64 (of_z w64 c.level_at.result) in
    let fits : SFits w64 c.level_at.result = search rules in
    let level_is : level ≡ con_at g.extent f cell =
    to_z-of_z w64 c.level_at.result fits ∙ (c.level_at.ensures.level ∙ level_seen g.extent f _ s c.args.place cell c.self.view_is same (sym c.cell_at-cell.ensures.place)) in
    let flat : way_at g.extent s cell ≡ REACHED =
    sym (way_seen g.extent _ s c.args.place cell c.self.view_is same (sym c.cell_at-cell.ensures.place)) ∙ (sym c.way_at.ensures ∙ c.if-way_at.false) in
    let low_edge : IsLowEdgeThere g.extent f s cell level c.in-Some.direction =
    subst (λ e. IsLowEdgeThere e f s cell level c.in-Some.direction) (sym same) c.in-Some.ensures in
    let inside : IsCellOf s.extent cell = subst (λ w. IsCellOf w.extent cell) c.self.view_is c.cell_at-cell.ensures.inside in
    let place : c.args.place ≡ index_of s.extent cell = sym c.cell_at-cell.ensures.place ∙ ap (λ w. index_of w.extent cell) c.self.view_is in
    let place_g : index_of g.extent cell ≡ c.args.place = ap (λ e. index_of e cell) same ∙ sym place in
    let settles : Settles g.extent s new cell c.code.result 1 =
    subst (λ e. Settles e s new cell c.code.result 1) (sym same) (c.in_ok-settle-in-Some.ensures.settles cell inside place) in
    subst (λ k. AreLaid g f new (k + 1) []) place_g
    (looked_found g f s new cell level c.in-Some.direction c.code.result (subst (λ e. IsCellOf e cell) (sym same) inside) level_is flat low_edge
    c.code.ensures settles (subst (λ k. AreLaid g f s k []) (sym place_g) laid)))

pub returns-in-None-clause-laid : goal.returns-in-None-clause-laid
returns-in-None-clause-laid t c = λ g same laid.
    (let s = c.args.self.now in
    let f = c.args.surface.now in
    let cell = c.cell_at-cell.result in
    let level = to_z w64 (of_z w64 c.level_at.result) in
    let fits : SFits w64 c.level_at.result = search rules in
    let level_is : level ≡ con_at g.extent f cell =
    to_z-of_z w64 c.level_at.result fits ∙ (c.level_at.ensures.level ∙ level_seen g.extent f _ s c.args.place cell c.self.view_is same (sym c.cell_at-cell.ensures.place)) in
    let inside : IsCellOf s.extent cell = subst (λ w. IsCellOf w.extent cell) c.self.view_is c.cell_at-cell.ensures.inside in
    let place : c.args.place ≡ index_of s.extent cell = sym c.cell_at-cell.ensures.place ∙ ap (λ w. index_of w.extent cell) c.self.view_is in
    let place_g : index_of g.extent cell ≡ c.args.place = ap (λ e. index_of e cell) same ∙ sym place in
    subst (λ k. AreLaid g f s (k + 1) []) place_g
    (looked_none g f s cell level (subst (λ e. IsCellOf e cell) (sym same) inside) level_is
    (λ d there. c.in-None.ensures d (subst (λ e. IsLowEdgeThere e f s cell level d) same there))
    (subst (λ k. AreLaid g f s k []) (sym place_g) laid)))
