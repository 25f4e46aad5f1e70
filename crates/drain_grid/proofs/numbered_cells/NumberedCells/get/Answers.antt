use Rattle.drain_grid.proofs.Names.{◌≡◌, ◌+◌, ◌-◌, length, Some, ap, ◌∙◌, sym, arith, slice_get, line_number_at}
use Rattle.drain_grid.proofs.LineRuns.{get-numbered, length-numbered}
use Rattle.drain_grid.proofs.numbered_cells.NumberedCells.get.Goals as goal
use Rattle.drain_grid.proofs.numbered_cells.NumberedCells.get.Goals.{Start}

pub overflow_add-result : goal.overflow_add-result
overflow_add-result c =
    let long = length-numbered 0 c.self.inside.runs.items c.self.inside.cells.items in
    let same = ap length c.self.view_is in
    let fits = c.self.invariant.fit c.args.i (omega (arith, long, same, c.requires)) in
    let number = sym (ap (λ runs. line_number_at runs c.args.i) c.deref.ensures.value) ∙ c.run_of-run.ensures.number in
    omega (arith, fits, number)

pub index-requires : goal.index-requires
index-requires c =
    let long = length-numbered 0 c.self.inside.runs.items c.self.inside.cells.items in
    let same = ap length c.self.view_is in
    omega (arith, long, same, c.requires)

pub returns : goal.returns
returns c =
    let long = length-numbered 0 c.self.inside.runs.items c.self.inside.cells.items in
    let same = ap length c.self.view_is in
    let number : line_number_at c.self.inside.runs.items (0 + c.args.i) ≡ c.run_of-run.result.line + (c.args.i - c.run_of-run.result.first) =
    ap (line_number_at c.self.inside.runs.items) (omega arith) ∙ sym (ap (λ runs. line_number_at runs c.args.i) c.deref.ensures.value) ∙ c.run_of-run.ensures.number in
    ap (λ ss. slice_get ss c.args.i) (sym c.self.view_is)
    ∙ get-numbered 0 c.args.i c.self.inside.runs.items c.self.inside.cells.items c.index.result.now (omega (arith, long, same, c.requires))
    ∙ (λ i. Some (record { line = number i; cell = sym c.index.ensures i }))
