use Rattle.drain_flood.proofs.Names.{IsLook, IsPlaceBeside, Extent, IsCellOf, index_of, Cell, ap, subst, sym, ◌||◌, ◌∙◌, ◌≡◌, to_z-of_z}
use mir.Syntax.{w64}
use Rattle.drain_flood.proofs.Insides.{less_turn}
use Rattle.drain_flood.proofs.Looking.{around_on}
use Rattle.drain_flood.proofs.flood.Flood.turn.Goals as goal

pub returns-then-left-clause-around : goal.returns-then-left-clause-around
returns-then-left-clause-around t c = λ g first stand busy k cell same at here before.
    (let e = c.args.self.now.extent in
    let inside : IsCellOf e cell = subst (λ x. IsCellOf x cell) same before.before.reached.here.inside in
    let place : c.args.place ≡ index_of e cell = at ∙ ap (λ x. index_of x cell) same in
    let beside = subst (λ (x : Extent). (n : Cell) → IsCellOf x n → c.args.place ≡ index_of x n → IsPlaceBeside x n c.args.direction c.beside_inner-next.result)
    c.requires.same c.beside_inner-next.ensures.beside in
    let look = subst (λ z. IsLook e c.args.self.now c.look_at.new.self cell c.args.direction z c.args.raises c.in_ok-more.more)
    (to_z-of_z w64 c.args.level c.ranges.level) (c.in_ok-more.ensures.look cell c.args.direction (beside cell inside place)) in
    around_on g first e c.args.self.now c.look_at.new.self stand busy cell c.args.level c.args.raises c.args.left
    c.in_ok-more.more _ k same (c.if-left.true ∙ sym (ap (λ b. b || c.in_ok-more.more) c.if-left.true)) before
    (subst (λ d. IsLook e c.args.self.now c.look_at.new.self cell d c.args.level c.args.raises c.in_ok-more.more) here look))

pub returns-then-left-clause-work : goal.returns-then-left-clause-work
returns-then-left-clause-work t c = λ first.
    less_turn c.args.self.now.extent first c.args.self.now c.look_at.new.self c.args.place c.beside_inner-next.result c.args.direction _ c.args.raises c.in_ok-more.more c.requires.inner
    (subst (λ (x : Extent). (n : Cell) → IsCellOf x n → c.args.place ≡ index_of x n → IsPlaceBeside x n c.args.direction c.beside_inner-next.result)
    c.requires.same c.beside_inner-next.ensures.beside) c.in_ok-more.ensures.look

pub returns-else-left-clause-around : goal.returns-else-left-clause-around
returns-else-left-clause-around t c = λ g first stand busy k cell same at here before.
    (let e = c.args.self.now.extent in
    let inside : IsCellOf e cell = subst (λ x. IsCellOf x cell) same before.before.reached.here.inside in
    let place : c.args.place ≡ index_of e cell = at ∙ ap (λ x. index_of x cell) same in
    let beside = subst (λ (x : Extent). (n : Cell) → IsCellOf x n → c.args.place ≡ index_of x n → IsPlaceBeside x n c.args.direction c.beside_inner-next.result)
    c.requires.same c.beside_inner-next.ensures.beside in
    let look = subst (λ z. IsLook e c.args.self.now c.look_at.new.self cell c.args.direction z c.args.raises c.in_ok-more.more)
    (to_z-of_z w64 c.args.level c.ranges.level) (c.in_ok-more.ensures.look cell c.args.direction (beside cell inside place)) in
    around_on g first e c.args.self.now c.look_at.new.self stand busy cell c.args.level c.args.raises c.args.left
    c.in_ok-more.more _ k same (sym (ap (λ b. b || c.in_ok-more.more) c.if-left.false)) before
    (subst (λ d. IsLook e c.args.self.now c.look_at.new.self cell d c.args.level c.args.raises c.in_ok-more.more) here look))

pub returns-else-left-clause-work : goal.returns-else-left-clause-work
returns-else-left-clause-work t c = λ first.
    less_turn c.args.self.now.extent first c.args.self.now c.look_at.new.self c.args.place c.beside_inner-next.result c.args.direction _ c.args.raises c.in_ok-more.more c.requires.inner
    (subst (λ (x : Extent). (n : Cell) → IsCellOf x n → c.args.place ≡ index_of x n → IsPlaceBeside x n c.args.direction c.beside_inner-next.result)
    c.requires.same c.beside_inner-next.ensures.beside) c.in_ok-more.ensures.look
