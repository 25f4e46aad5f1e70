use Rattle.drain_verdict.proofs.Names.{◌+◌, ◌∙◌, Some, None, ap, inl, inr, sym, false≢true, Dir, Acc, Bas, Rnk, of_product, per_product, IsPixel, RowNumbers, buffer_numbers, as_read, with_rasters, by_set_product, told-of}
use Rattle.std.specs.List.{All}
use Rattle.drain_grid.specs.declared.set_product.SetProduct.TheVariants.{Con}
use Rattle.drain_verdict.proofs.RowGiven.{IsKept, come_more, come_refused, kept_numbers, next_given}
use Rattle.drain_verdict.proofs.RowReads.{by_ground, by_rasters, one_read, rasters_none, reads_then}
use Rattle.drain_verdict.proofs.input_rows.InputRowsRowsGridRows.read_row.Goals.{then-not-is_even, else-not-is_even}
use Rattle.drain_verdict.proofs.input_rows.InputRowsRowsGridRows.read_row.Goals as goal

pub returns-in_err-read_row-clause-stops : goal.returns-in_err-read_row-clause-stops
returns-in_err-read_row-clause-stops g c =
    let bl = g.R.ByteSource.bytes_left in
    let ct = g.R.ByteSource.counts in
    let one = c.in_err-read_row.ensures in
    let refusal = c.in_err-read_row.field-0.0 in
    told-of c.from_residual.result refusal _ c.from_residual.ensures.1
    (λ start n before. come_refused g.T.GroundInput.after g.T.GroundInput.has_read bl ct (as_read g.P.ProductInputs.readers g.P.ProductInputs.inputs start) _ (n + 1) refusal
    (reads_then g.T.GroundInput.has_read bl ct c.reading_laws.ensures.joined (as_read g.P.ProductInputs.readers g.P.ProductInputs.inputs start) _ _ (Some refusal) before.reads
    (one_read g.T.GroundInput.has_read bl ct (with_rasters g.P.ProductInputs.readers c.args.self.now) _ c.args.inputs.now c.read_row.new.inputs (g.P.ProductInputs.inputs c.args.products.now) (g.P.ProductInputs.inputs c.args.products.now) (Some refusal) None (Some refusal) (by_ground refusal)
    one.of_reading one.read (rasters_none bl ct (g.P.ProductInputs.readers c.args.self.now.rasters) (g.P.ProductInputs.inputs c.args.products.now)))))

pub returns-in_err-read_rasters-clause-stops : goal.returns-in_err-read_rasters-clause-stops
returns-in_err-read_rasters-clause-stops g c =
    let bl = g.R.ByteSource.bytes_left in
    let ct = g.R.ByteSource.counts in
    let one = c.in_ok-read_row.ensures in
    let other = c.in_err-read_rasters.ensures in
    let refusal = c.in_err-read_rasters.field-0.0 in
    told-of c.from_residual-in_err-read_rasters.result refusal _ c.from_residual-in_err-read_rasters.ensures.1
    (λ start n before. come_refused g.T.GroundInput.after g.T.GroundInput.has_read bl ct (as_read g.P.ProductInputs.readers g.P.ProductInputs.inputs start) _ (n + 1) refusal
    (reads_then g.T.GroundInput.has_read bl ct c.reading_laws.ensures.joined (as_read g.P.ProductInputs.readers g.P.ProductInputs.inputs start) _ _ (Some refusal) before.reads
    (one_read g.T.GroundInput.has_read bl ct (with_rasters g.P.ProductInputs.readers c.args.self.now) _ c.args.inputs.now c.read_row.new.inputs (g.P.ProductInputs.inputs c.args.products.now) (g.P.ProductInputs.inputs c.read_rasters.new.self) None (Some refusal) (Some refusal) (by_rasters (Some refusal))
    other.of_reading one.read other.read)))

pub returns-clause-reads : goal.returns-clause-reads
returns-clause-reads g c =
    let bl = g.R.ByteSource.bytes_left in
    let ct = g.R.ByteSource.counts in
    let one = c.in_ok-read_row.ensures in
    let other = c.in_ok-read_rasters.ensures in
    let row : RowNumbers = record { z = c.read_row.new.out; products = per_product (λ p. (of_product c.read_rasters.new.out p)) } in
    λ start n before. come_more g.T.GroundInput.after g.T.GroundInput.has_read bl ct (as_read g.P.ProductInputs.readers g.P.ProductInputs.inputs start) (with_rasters g.P.ProductInputs.readers c.args.self.now) _ c.args.inputs.now c.read_row.new.inputs (g.P.ProductInputs.inputs c.args.products.now) (g.P.ProductInputs.inputs c.read_rasters.new.self) row n before
    (reads_then g.T.GroundInput.has_read bl ct c.reading_laws.ensures.joined (as_read g.P.ProductInputs.readers g.P.ProductInputs.inputs start) _ _ None before.reads
    (one_read g.T.GroundInput.has_read bl ct (with_rasters g.P.ProductInputs.readers c.args.self.now) _ c.args.inputs.now c.read_row.new.inputs (g.P.ProductInputs.inputs c.args.products.now) (g.P.ProductInputs.inputs c.read_rasters.new.self) None None None (by_rasters None)
    other.of_reading one.read other.read))
    one.rows (let each = other.rows in by_set_product _ (each Con) (each Dir) (each Acc) (each Bas) (each Rnk))

pub returns-clause-whole : goal.returns-clause-whole
returns-clause-whole g c =
    let row : RowNumbers = record { z = c.read_row.new.out; products = per_product (λ p. (of_product c.read_rasters.new.out p)) } in
    let kept : IsKept row (buffer_numbers c.if-not-is_even.out) = elim c.if-not-is_even.branch [
      | then-not-is_even w ↦ inr (λ even. false≢true (sym w.if-not-is_even.true ∙ c.is_even.ensures.1 even), ap buffer_numbers w.out-is ∙ w.clear.ensures)
      | else-not-is_even w ↦ inl (c.is_even.ensures.0 w.if-not-is_even.false, ap buffer_numbers w.out-is)
    ] in
    kept_numbers row (buffer_numbers c.if-not-is_even.out) c.in_ok-read_row.ensures.narrow c.in_ok-read_row.ensures.pixels
    (let each = c.in_ok-read_rasters.ensures.pixels in by_set_product (λ p. All IsPixel (of_product row.products p)) (each Con) (each Dir) (each Acc) (each Bas) (each Rnk)) kept

pub returns-clause-next : goal.returns-clause-next
returns-clause-next g c =
    let row : RowNumbers = record { z = c.read_row.new.out; products = per_product (λ p. (of_product c.read_rasters.new.out p)) } in
    let kept : IsKept row (buffer_numbers c.if-not-is_even.out) = elim c.if-not-is_even.branch [
      | then-not-is_even w ↦ inr (λ even. false≢true (sym w.if-not-is_even.true ∙ c.is_even.ensures.1 even), ap buffer_numbers w.out-is ∙ w.clear.ensures)
      | else-not-is_even w ↦ inl (c.is_even.ensures.0 w.if-not-is_even.false, ap buffer_numbers w.out-is)
    ] in
    next_given g.T.GroundInput.after g.T.GroundInput.has_read g.R.ByteSource.bytes_left g.R.ByteSource.counts (with_rasters g.P.ProductInputs.readers c.args.self.now) _ c.args.inputs.now c.read_row.new.inputs (g.P.ProductInputs.inputs c.args.products.now) (g.P.ProductInputs.inputs c.read_rasters.new.self) row (buffer_numbers c.if-not-is_even.out) kept
    c.in_ok-read_row.ensures.rows (let each = c.in_ok-read_rasters.ensures.rows in by_set_product _ (each Con) (each Dir) (each Acc) (each Bas) (each Rnk))
