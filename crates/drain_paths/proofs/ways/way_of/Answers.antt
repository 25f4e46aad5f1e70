use Rattle.drain_paths.proofs.Names.{◌≡◌, ◌≢◌, ◌∙◌, ℕ, Option, Some, None, refl, sym, ap, subst, rules, Cell, Direction, rows_down, cols_right, IsCellOf, step, Extent, IsInside, direction_of, stepped}
use Rattle.drain_paths.proofs.KnownWays.{known_at, stuck_nowhere, stuck_outside, stuck_void, leads_on}
use Rattle.drain_paths.proofs.ways.way_of.Goals as goal

-- where a direction leads
on_step : (e : Extent) (c : Cell) (o : Option Direction) (down right : ℕ) (answer : Option Cell) → o ≢ None → answer ≡ stepped e c down right →
    ((d : Direction) → o ≡ Some d → down ≡ rows_down d) → ((d : Direction) → o ≡ Some d → right ≡ cols_right d) →
    (d : Direction) × (o ≡ Some d) × (step e c d ≡ answer)
on_step e c None down right answer some is rows cols = absurd (some refl)
on_step e c (Some d) down right answer some is rows cols =
    (d, refl, sym (is ∙ (ap (λ n. stepped e c n right) (rows d refl) ∙ ap (stepped e c (rows_down d)) (cols d refl))))

pub returns-then-is_none-clause-way : goal.returns-then-is_none-clause-way
returns-then-is_none-clause-way t c = λ g ps known here.
    stuck_nowhere g ps c.args.cell c.flow-here.result
    (known_at g ps c.args.shape (t.W.Ways.flows c.args.ways.now) c.args.cell c.index.result c.flow-here.result known here.inside c.index.ensures.place c.flow-here.ensures)
    here (search rules) (search rules)

pub returns-then-eq-2-clause-way : goal.returns-then-eq-2-clause-way
returns-then-eq-2-clause-way t c = λ g ps known here.
    (let e = c.args.shape in
    let flows = (t.W.Ways.flows c.args.ways.now) in
    let n = c.in-Some.ahead in
    let there : IsInside g n = subst (λ (x : Extent). IsCellOf x n) (sym known.extent) c.in-Some.ensures.inside in
    let leads : direction_of c.flow-here.result ≢ None = search rules in
    let way = on_step e c.args.cell (direction_of c.flow-here.result) c.down.result c.right.result c.step_by.result leads c.step_by.ensures.place c.down.ensures.rows c.right.ensures.cols in
    stuck_void g ps e known.extent c.args.cell c.flow-here.result
    (known_at g ps e flows c.args.cell c.index.result c.flow-here.result known here.inside c.index.ensures.place c.flow-here.ensures)
    way.0 n c.flow.result way.1 (way.2 ∙ c.in-Some.is) (known_at g ps e flows n c.index-in-Some.result c.flow.result known there c.index-in-Some.ensures.place c.flow.ensures)
    (search rules))

pub returns-else-eq-2-clause-way : goal.returns-else-eq-2-clause-way
returns-else-eq-2-clause-way t c = λ g ps known here.
    (let e = c.args.shape in
    let flows = (t.W.Ways.flows c.args.ways.now) in
    let n = c.in-Some.ahead in
    let there : IsInside g n = subst (λ (x : Extent). IsCellOf x n) (sym known.extent) c.in-Some.ensures.inside in
    let leads : direction_of c.flow-here.result ≢ None = search rules in
    let way = on_step e c.args.cell (direction_of c.flow-here.result) c.down.result c.right.result c.step_by.result leads c.step_by.ensures.place c.down.ensures.rows c.right.ensures.cols in
    leads_on g ps e known.extent c.args.cell c.flow-here.result
    (known_at g ps e flows c.args.cell c.index.result c.flow-here.result known here.inside c.index.ensures.place c.flow-here.ensures)
    way.0 n c.flow.result way.1 (way.2 ∙ c.in-Some.is) (known_at g ps e flows n c.index-in-Some.result c.flow.result known there c.index-in-Some.ensures.place c.flow.ensures)
    (search rules))

pub returns-in-None-clause-way : goal.returns-in-None-clause-way
returns-in-None-clause-way t c = λ g ps known here.
    (let e = c.args.shape in
    let flows = (t.W.Ways.flows c.args.ways.now) in
    let leads : direction_of c.flow-here.result ≢ None = search rules in
    let way = on_step e c.args.cell (direction_of c.flow-here.result) c.down.result c.right.result c.step_by.result leads c.step_by.ensures.place c.down.ensures.rows c.right.ensures.cols in
    stuck_outside g ps e known.extent c.args.cell c.flow-here.result
    (known_at g ps e flows c.args.cell c.index.result c.flow-here.result known here.inside c.index.ensures.place c.flow-here.ensures)
    way.0 way.1 (way.2 ∙ c.in-None.is))
