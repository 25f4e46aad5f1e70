use Rattle.drain_grid.proofs.Names.{◌≡◌, ◌+◌, ◌*◌, ◌∙◌, pos, length, get_or, ap, arith, rules, All-same, IsPixel}
use Rattle.drain_grid.specs.Numbers.{numbers_of}
use Rattle.drain_grid.proofs.Alike.{All-row, lent, row_copied}
use Rattle.drain_grid.proofs.raster.Raster.read_row.Goals as goal

pub returns-clause-row : goal.returns-clause-row
returns-clause-row c =
    let numbers = numbers_of c.self.inside.numbers in
    let cols = c.self.inside.shape.cols in
    let grown : c.resize.new.self.len ≡ cols = search rules in
    let long : length c.copy_from.new.out ≡ c.resize.new.self.len = search rules in
    let at = c.row_start-first.ensures.place in
    rw (← c.self.view_is, lent c.copy_from.new.out c.resize.new.self.items c.resize.new.self.len long)
    (row_copied numbers c.copy_from.new.out cols (c.args.row * cols) (pos 0) (long ∙ grown) (omega (arith, c.row_start-first.ensures.whole, at, c.self.invariant.counted))
    (λ k less. c.copy_from.ensures.copied k (omega (arith, less, long, grown, c.copy_from.ensures.counted)) ∙ ap (λ n. get_or numbers (n + k) (pos 0)) at))

pub returns-clause-pixels : goal.returns-clause-pixels
returns-clause-pixels c =
    let numbers = numbers_of c.self.inside.numbers in
    let cols = c.self.inside.shape.cols in
    All-same IsPixel _ _ (returns-clause-row c) (rw (← c.self.view_is) (All-row IsPixel numbers cols (c.args.row * cols) (pos 0)
    (omega (arith, c.row_start-first.ensures.whole, c.row_start-first.ensures.place, c.self.invariant.counted)) c.self.invariant.numbers_ok))
