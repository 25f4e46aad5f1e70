use Rattle.drain_grid.proofs.Names.{◌≡◌, ◌+◌, ◌*◌, ◌∙◌, ℤ, List, pos, length, get_or, ap, arith, rules, All-same, IsSample}
use Rattle.drain_grid.specs.declared.tile.TheConstants.{VOID}
use Rattle.drain_grid.proofs.Alike.{lent, row_copied}
use Rattle.drain_grid.proofs.elevation.Elevation.read_row.Goals as goal

pub returns-clause-row : goal.returns-clause-row
returns-clause-row c =
    let numbers = c.self.inside.samples.items in
    let cols = c.self.inside.shape.cols in
    let grown : c.resize.new.self.len ≡ cols = search rules in
    let long : length c.copy_heights.new.out ≡ c.resize.new.self.len = search rules in
    let at = c.row_start-first.ensures.place in
    rw (← c.self.view_is, lent c.copy_heights.new.out c.resize.new.self.items c.resize.new.self.len long)
    (row_copied numbers c.copy_heights.new.out cols (c.args.row * cols) VOID (long ∙ grown) (omega (arith, c.row_start-first.ensures.whole, at, c.self.invariant))
    (λ k less. c.copy_heights.ensures.copied k (omega (arith, less, long, grown, c.copy_heights.ensures.counted)) ∙ ap (λ (xs : List ℤ). get_or xs (c.row_start-first.result + k) (pos 0)) c.deref.ensures.value ∙ ap (λ n. get_or numbers (n + k) (pos 0)) at))

pub returns-clause-samples : goal.returns-clause-samples
returns-clause-samples c =
    let long : length c.copy_heights.new.out ≡ c.resize.new.self.len = search rules in
    All-same IsSample _ c.copy_heights.new.out (lent c.copy_heights.new.out c.resize.new.self.items c.resize.new.self.len long) c.copy_heights.ensures.samples
