use Rattle.drain_mosaic.proofs.Names.{◌≡◌, ℕ, ◌+◌, arith, refl, sym, subst, ap, ◌∙◌, option_or, Frame, end_stream, next_stream, ArePlacedWithin, HasEnded, IsPlacedAt, IsPlacedWithin, streams_of}
use Rattle.drain_mosaic.proofs.Lent.{all_back, all_lent, as_long, back, done-or-going, found-fits, going-or-done, have-back-err, have-back-ok, laid-by, lent, row-below, stopped-or-done, stopped-or-going, streams-back, within_back}
use Rattle.drain_mosaic.proofs.MosaicSteps.{mosaic-step, seam-end, seam-step, wrong-end, wrong-row, wrong-stopped}
use Rattle.drain_mosaic.proofs.mosaic_rows.MosaicRows.next_row.Goals as goal

abbrev frame : ℕ → ℕ → ℕ → Frame
frame side rows cols = record { side = side; rows = rows; cols = cols }

-- after the last row
pub invariant_of-self : goal.invariant_of-self
invariant_of-self g c =
    let s = c.args.self.now in
    let is : s.row ≡ s.shape.rows = c.if-self-rows.true ∙ c.rows.ensures in
    let came = lent c.deref_mut.ensures.value c.deref_mut.ensures.len c.read_ends.auto.tiles in
    let within = all_lent (IsPlacedWithin s.side s.shape.rows s.shape.cols) c.deref_mut.ensures.value s.within in
    let at = all_lent (IsPlacedAt s.side s.row) c.deref_mut.ensures.value (s.at_row c.in-Going.is) in
    record {
      within = all_back (IsPlacedWithin s.side s.shape.rows s.shape.cols) came (c.in-Ok.ensures.within s.side s.shape.rows s.shape.cols within);
      bounded = s.bounded;
      at_row = λ e. absurd (done-or-going e);
      ended = λ e. (is, all_back HasEnded came (c.in-Ok.ensures.ended s.side s.row s.shape.cols (subst (λ n. ArePlacedWithin s.side n s.shape.cols c.deref_mut.result.now) (sym is) within) at));
    }

pub invariant_of-self-in-Err : goal.invariant_of-self-in-Err
invariant_of-self-in-Err g c =
    let s = c.args.self.now in
    let came = lent c.deref_mut.ensures.value c.deref_mut.ensures.len c.read_ends.auto.tiles in
    let P = IsPlacedWithin s.side s.shape.rows s.shape.cols in
    record {
      within = all_back P came (c.in-Err.ensures.within s.side s.shape.rows s.shape.cols (all_lent P c.deref_mut.ensures.value s.within));
      bounded = s.bounded;
      at_row = λ e. absurd (stopped-or-going e);
      ended = λ e. absurd (stopped-or-done e);
    }

pub returns-in-Done-clause-at_end : goal.returns-in-Done-clause-at_end
returns-in-Done-clause-at_end g c is =
    let s = c.args.self.now in
    let ended = s.ended c.in-Done.is in
    record {
      seam_is = seam-end (frame s.side s.shape.rows s.shape.cols) s.shape.rows s.row (streams_of g.R.ByteSource.bytes_left s.tiles.items c.args.from.now) s.seam ended.0;
      wrong_is = wrong-stopped g.R.ByteSource.bytes_left s.tiles.items c.args.from.now 0 c.requires.named ended.1;
    }

pub returns-in-Ok-clause-read : goal.returns-in-Ok-clause-read
returns-in-Ok-clause-read g c = have-back-ok (lent c.deref_mut.ensures.value c.deref_mut.ensures.len c.read_ends.auto.tiles) c.in-Ok.ensures.read

pub returns-in-Ok-clause-keeps_tiles : goal.returns-in-Ok-clause-keeps_tiles
returns-in-Ok-clause-keeps_tiles g c = as_long (lent c.deref_mut.ensures.value c.deref_mut.ensures.len c.read_ends.auto.tiles)

pub returns-in-Ok-clause-wrong : goal.returns-in-Ok-clause-wrong
returns-in-Ok-clause-wrong g c told =
    wrong-end (streams_of g.R.ByteSource.bytes_left c.args.self.now.tiles.items c.args.from.now) _
    (streams-back g.R.ByteSource.bytes_left c.args.from.now c.read_ends.new.from end_stream (lent c.deref_mut.ensures.value c.deref_mut.ensures.len c.read_ends.auto.tiles) (c.in-Ok.ensures.goes_on told))

pub returns-in-Ok-clause-at_end : goal.returns-in-Ok-clause-at_end
returns-in-Ok-clause-at_end g c is_ended =
    let s = c.args.self.now in
    let is : s.row ≡ s.shape.rows = c.if-self-rows.true ∙ c.rows.ensures in
    let value = c.deref_mut.ensures.value in
    let came = lent value c.deref_mut.ensures.len c.read_ends.auto.tiles in
    let within = all_lent (IsPlacedWithin s.side s.shape.rows s.shape.cols) value s.within in
    let at = all_lent (IsPlacedAt s.side s.row) value (s.at_row c.in-Going.is) in
    let ended = c.in-Ok.ensures.ended s.side s.row s.shape.cols (subst (λ n. ArePlacedWithin s.side n s.shape.cols c.deref_mut.result.now) (sym is) within) at in
    record {
      seam_is = seam-end (frame s.side s.shape.rows s.shape.cols) s.shape.rows s.row (streams_of g.R.ByteSource.bytes_left (back s.tiles.items c.read_ends.new.tiles s.tiles.len) c.read_ends.new.from) s.seam is;
      wrong_is = wrong-stopped g.R.ByteSource.bytes_left (back s.tiles.items c.read_ends.new.tiles s.tiles.len) c.read_ends.new.from 0 (c.read_ends.auto.from ∙ c.requires.named ∙ sym (as_long came)) (all_back HasEnded came ended);
    }

pub returns-in-Err-clause-read : goal.returns-in-Err-clause-read
returns-in-Err-clause-read g c = have-back-err (lent c.deref_mut.ensures.value c.deref_mut.ensures.len c.read_ends.auto.tiles) c.in-Err.ensures.read

pub returns-in-Err-clause-keeps_tiles : goal.returns-in-Err-clause-keeps_tiles
returns-in-Err-clause-keeps_tiles g c = as_long (lent c.deref_mut.ensures.value c.deref_mut.ensures.len c.read_ends.auto.tiles)

-- a row
pub read_row-requires-clause-within : goal.read_row-requires-clause-within
read_row-requires-clause-within g c =
    let s = c.args.self.now in
    (s.shape.rows, subst (λ n. ArePlacedWithin s.side s.shape.rows n c.deref_mut-2.result.now) (sym c.cols.ensures) (all_lent (IsPlacedWithin s.side s.shape.rows s.shape.cols) c.deref_mut-2.ensures.value s.within))

pub cell_at-requires : goal.cell_at-requires
cell_at-requires g c = found-fits c.in-Ok-read_row.found refl c.cols.type_inv c.in-Ok-read_row.ensures.found

pub invariant_of-self-in-Ok-read_row : goal.invariant_of-self-in-Ok-read_row
invariant_of-self-in-Ok-read_row g c =
    let s = c.args.self.now in
    let value = c.deref_mut-2.ensures.value in
    let came = lent value c.deref_mut-2.ensures.len c.read_row.auto.tiles in
    record {
      within = within_back s.side s.shape.rows s.shape.cols c.cols.result came c.cols.ensures s.within (c.read_row.ensures.within s.shape.rows);
      bounded = omega (arith, row-below s.bounded c.rows.ensures c.if-self-rows.false);
      at_row = λ e. all_back (IsPlacedAt s.side (s.row + 1)) came (c.in-Ok-read_row.ensures.at (all_lent (IsPlacedAt s.side s.row) value (s.at_row c.in-Going.is)));
      ended = λ e. absurd (going-or-done c.in-Going.is e);
    }

pub invariant_of-self-in-Err-read_row : goal.invariant_of-self-in-Err-read_row
invariant_of-self-in-Err-read_row g c =
    let s = c.args.self.now in
    let value = c.deref_mut-2.ensures.value in
    let came = lent value c.deref_mut-2.ensures.len c.read_row.auto.tiles in
    record {
      within = within_back s.side s.shape.rows s.shape.cols c.cols.result came c.cols.ensures s.within (c.read_row.ensures.within s.shape.rows);
      bounded = s.bounded;
      at_row = λ e. absurd (stopped-or-going e);
      ended = λ e. absurd (stopped-or-done e);
    }

pub returns-in-Ok-read_row-clause-read : goal.returns-in-Ok-read_row-clause-read
returns-in-Ok-read_row-clause-read g c = have-back-ok (lent c.deref_mut-2.ensures.value c.deref_mut-2.ensures.len c.read_row.auto.tiles) c.in-Ok-read_row.ensures.read

pub returns-in-Ok-read_row-clause-keeps_tiles : goal.returns-in-Ok-read_row-clause-keeps_tiles
returns-in-Ok-read_row-clause-keeps_tiles g c = as_long (lent c.deref_mut-2.ensures.value c.deref_mut-2.ensures.len c.read_row.auto.tiles)

pub returns-in-Ok-read_row-clause-rows : goal.returns-in-Ok-read_row-clause-rows
returns-in-Ok-read_row-clause-rows g c told =
    let s = c.args.self.now in
    mosaic-step s.progress (frame s.side s.shape.rows s.shape.cols) s.row (streams_of g.R.ByteSource.bytes_left s.tiles.items c.args.from.now) _ c.read_row.new.out.items _ c.in-Ok-read_row.found c.in-Going.is
    (row-below s.bounded c.rows.ensures c.if-self-rows.false)
    (streams-back g.R.ByteSource.bytes_left c.args.from.now c.read_row.new.from (next_stream s.side s.row) (lent c.deref_mut-2.ensures.value c.deref_mut-2.ensures.len c.read_row.auto.tiles) (c.in-Ok-read_row.ensures.goes_on told))
    refl (c.in-Ok-read_row.ensures.long ∙ c.cols.ensures)
    (laid-by g.R.ByteSource.bytes_left c.args.from.now c.deref_mut-2.ensures.value (c.in-Ok-read_row.ensures.laid told))

pub returns-in-Ok-read_row-clause-seam : goal.returns-in-Ok-read_row-clause-seam
returns-in-Ok-read_row-clause-seam g c told =
    let s = c.args.self.now in
    seam-step (frame s.side s.shape.rows s.shape.cols) s.row (streams_of g.R.ByteSource.bytes_left s.tiles.items c.args.from.now) _ c.read_row.new.out.items s.seam c.first_cell-self.result c.in-Ok-read_row.found
    (row-below s.bounded c.rows.ensures c.if-self-rows.false)
    (streams-back g.R.ByteSource.bytes_left c.args.from.now c.read_row.new.from (next_stream s.side s.row) (lent c.deref_mut-2.ensures.value c.deref_mut-2.ensures.len c.read_row.auto.tiles) (c.in-Ok-read_row.ensures.goes_on told))
    (c.in-Ok-read_row.ensures.long ∙ c.cols.ensures)
    (laid-by g.R.ByteSource.bytes_left c.args.from.now c.deref_mut-2.ensures.value (c.in-Ok-read_row.ensures.laid told))
    (c.first_cell-self.ensures ∙ ap (option_or s.seam) c.cell_at.ensures)

pub returns-in-Ok-read_row-clause-wrong : goal.returns-in-Ok-read_row-clause-wrong
returns-in-Ok-read_row-clause-wrong g c told =
    let s = c.args.self.now in
    wrong-row s.side s.row (streams_of g.R.ByteSource.bytes_left s.tiles.items c.args.from.now) _
    (streams-back g.R.ByteSource.bytes_left c.args.from.now c.read_row.new.from (next_stream s.side s.row) (lent c.deref_mut-2.ensures.value c.deref_mut-2.ensures.len c.read_row.auto.tiles) (c.in-Ok-read_row.ensures.goes_on told))

pub returns-in-Err-read_row-clause-read : goal.returns-in-Err-read_row-clause-read
returns-in-Err-read_row-clause-read g c = have-back-err (lent c.deref_mut-2.ensures.value c.deref_mut-2.ensures.len c.read_row.auto.tiles) c.in-Err-read_row.ensures.read

pub returns-in-Err-read_row-clause-keeps_tiles : goal.returns-in-Err-read_row-clause-keeps_tiles
returns-in-Err-read_row-clause-keeps_tiles g c = as_long (lent c.deref_mut-2.ensures.value c.deref_mut-2.ensures.len c.read_row.auto.tiles)
