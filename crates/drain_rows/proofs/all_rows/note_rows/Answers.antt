use Rattle.drain_rows.proofs.Names.{◌≡◌, None, inl, ◌+◌, ◌<◌, inr, refl, sym, ap, subst, ◌∙◌, arith, rules, Extent, spacing_of, AreNumbersOf, AreRowNumbers, LanesMatch, IsMarked, marked_of, buffer_numbers, AreVoidsBefore}
use Rattle.drain_rows.proofs.WindowLemmas.{stops_then, told-of, voids-all, voids-more, voids-none, blank-whole, held-more, row-marked, window-shows}
use Rattle.drain_rows.proofs.all_rows.note_rows.Goals as goal

pub loop-row-init : goal.loop-row-init
loop-row-init g c =
    let read = c.in_ok-read_marked.ensures in
    record {
      counted = c.requires.uncounted;
      as_many = read.as_many ∙ c.requires.counted ∙ sym read.counted;
      here_whole = subst (λ n. AreRowNumbers n) (sym c.requires.here) blank-whole;
      below_whole = read.whole;
      here_lanes = c.requires.here_lanes;
      below_lanes = read.lanes;
      given = λ rows gives. (read.next rows 0 gives).1;
      held = λ rows gives. record {
        here_is = (read.next rows 0 gives).0;
        above_is = λ r is. absurd (omega (arith, is));
        none_above = λ is. c.requires.here;
      };
      here_marked = λ r is. absurd (omega (arith, is));
      below_marked = read.marked;
      voids = λ rows grid ps gives extent all.
          voids-more grid ps 0 _ _ (marked_of c.read_marked.new.held)
          (row-marked grid ps c.args.sinks.now (spacing_of c.args.spacings.now) rows 0 (marked_of c.read_marked.new.held) all (read.next rows 0 gives).0 read.marked)
          (subst (AreVoidsBefore grid 0) (sym c.requires.none) (voids-none grid)) read.noted;
      noted = λ rows grid ps gives extent all. c.requires.unnoted grid ps;
      lasting = refl;
      reads = read.reads;
    }

pub note_row-requires-clause-counted : goal.note_row-requires-clause-counted
note_row-requires-clause-counted g c = (c.loop-row.row, search rules, c.loop-row.invariant.counted)

pub returns-in_err-note_row-clause-stops : goal.returns-in_err-note_row-clause-stops
returns-in_err-note_row-clause-stops g c =
    let row = c.loop-row.row in
    let read = c.in_ok-read_marked-2.ensures in
    told-of c.from_residual-in_err-note_row.result c.in_err-note_row.field-0.0 _ c.from_residual-in_err-note_row.ensures.1 (rw c.in_err-note_row.ensures.err (
      row + 1 + 1,
      (
        λ start n before. let same : n + (row + 1) + 1 ≡ n + (row + 1 + 1) = omega arith in subst (λ k. g.S.GridRows.has_read start (c.read_marked-in-loop-row.new.source, c.read_marked-in-loop-row.new.tiles, c.read_marked-in-loop-row.new.products) k None) same (read.reads start (n + (row + 1)) (c.loop-row.invariant.reads start n before)),
        inl (λ rows grid ps gives extent all.
            let inv = c.loop-row.invariant in
            let count = ap (λ (e : Extent). e.rows) extent in
            let inside : row < grid.extent.rows = omega (arith, c.loop-row-test.true, c.rows-row-end.ensures, count) in
            let shown = window-shows c.three_rows_show_patches.ensures grid ps c.args.sinks.now (spacing_of c.args.spacings.now) rows row c.rows-shown.result (marked_of c.loop-row.window.here) (marked_of c.loop-row.window.below)
            (marked_of c.read_marked-in-loop-row.new.held) all inside (c.rows-shown.ensures.above ∙ ap marked_of c.turn.ensures.above) (c.rows-shown.ensures.here ∙ ap marked_of c.turn.ensures.here)
            c.rows-shown.ensures.below (inv.held rows gives) (read.next rows (row + 1) (inv.given rows gives)).0 inv.here_marked inv.below_marked read.marked in
            c.in_err-note_row.ensures.wants grid ps row
            (subst (AreNumbersOf grid ps row) (sym (ap buffer_numbers c.turn.ensures.here ∙ (inv.held rows gives).here_is)) (all.row row inside)) shown
            (inv.noted rows grid ps gives extent all)),
      ),
    ))

pub loop-row-preserved : goal.loop-row-preserved
loop-row-preserved g c =
    let row = c.loop-row.row in
    let inv = c.loop-row.invariant in
    let read = c.in_ok-read_marked-2.ensures in
    record {
      counted = c.in_ok-note_row.ensures.counted row inv.counted;
      as_many = read.as_many ∙ inv.as_many ∙ sym read.counted;
      here_whole = subst (λ n. AreRowNumbers n) (ap buffer_numbers (sym c.turn.ensures.here)) inv.below_whole;
      below_whole = read.whole;
      here_lanes = subst LanesMatch (sym c.turn.ensures.here) inv.below_lanes;
      below_lanes = read.lanes;
      given = λ rows gives. (read.next rows (row + 1) (inv.given rows gives)).1;
      held = λ rows gives.
          held-more rows row (buffer_numbers c.turn.new.self.here) (buffer_numbers c.read_marked-in-loop-row.new.held) (ap buffer_numbers c.turn.ensures.here ∙ (inv.held rows gives).here_is)
          (read.next rows (row + 1) (inv.given rows gives)).0;
      here_marked = λ r is.
          let same : row ≡ r = omega (arith, is) in
          subst (λ k. IsMarked c.args.sinks.now (spacing_of c.args.spacings.now) k (marked_of c.turn.new.self.here)) same (subst (IsMarked c.args.sinks.now (spacing_of c.args.spacings.now) row) (ap marked_of (sym c.turn.ensures.here)) inv.below_marked);
      below_marked = read.marked;
      voids = λ rows grid ps gives extent all.
          voids-more grid ps (row + 1) _ _ (marked_of c.read_marked-in-loop-row.new.held)
          (row-marked grid ps c.args.sinks.now (spacing_of c.args.spacings.now) rows (row + 1) (marked_of c.read_marked-in-loop-row.new.held) all (read.next rows (row + 1) (inv.given rows gives)).0 read.marked)
          (inv.voids rows grid ps gives extent all) read.noted;
      noted = λ rows grid ps gives extent all.
          let count = ap (λ (e : Extent). e.rows) extent in
          let inside : row < grid.extent.rows = omega (arith, c.loop-row-test.true, c.rows-row-end.ensures, count) in
          let shown = window-shows c.three_rows_show_patches.ensures grid ps c.args.sinks.now (spacing_of c.args.spacings.now) rows row c.rows-shown.result (marked_of c.loop-row.window.here) (marked_of c.loop-row.window.below)
          (marked_of c.read_marked-in-loop-row.new.held) all inside (c.rows-shown.ensures.above ∙ ap marked_of c.turn.ensures.above) (c.rows-shown.ensures.here ∙ ap marked_of c.turn.ensures.here)
          c.rows-shown.ensures.below (inv.held rows gives) (read.next rows (row + 1) (inv.given rows gives)).0 inv.here_marked inv.below_marked read.marked in
          c.in_ok-note_row.ensures.noted grid ps row
          (subst (AreNumbersOf grid ps row) (sym (ap buffer_numbers c.turn.ensures.here ∙ (inv.held rows gives).here_is)) (all.row row inside)) shown
          (inv.noted rows grid ps gives extent all);
      lasting = c.in_ok-note_row.ensures.lasting ∙ inv.lasting;
      reads = λ start n before. let same : n + (row + 1) + 1 ≡ n + (row + 1 + 1) = omega arith in subst (λ k. g.S.GridRows.has_read start (c.read_marked-in-loop-row.new.source, c.read_marked-in-loop-row.new.tiles, c.read_marked-in-loop-row.new.products) k None) same (read.reads start (n + (row + 1)) (inv.reads start n before));
    }

pub returns-clause-voids : goal.returns-clause-voids
returns-clause-voids g c = λ rows grid ps gives extent all.
    let count = ap (λ (e : Extent). e.rows) extent in
    voids-all grid (c.loop-row.row + 1) c.loop-row.voids
    (omega (arith, c.loop-row-test.false, c.loop-row.auto.row-end, c.rows-row-end.ensures, count)) (c.loop-row.invariant.voids rows grid ps gives extent all)

pub returns-clause-noted : goal.returns-clause-noted
returns-clause-noted g c = λ rows grid ps gives extent all.
    let count = ap (λ (e : Extent). e.rows) extent in
    let last : c.loop-row.row ≡ grid.extent.rows = omega (arith, c.loop-row-test.false, c.loop-row.auto.row-end, c.rows-row-end.ensures, count) in
    subst (λ n. g.K.RowVisitor.are_of c.args.rules.now grid ps n c.loop-row.notes) last (c.loop-row.invariant.noted rows grid ps gives extent all)

pub returns-clause-given : goal.returns-clause-given
returns-clause-given g c = λ rows gives.
    let last : c.loop-row.row ≡ c.args.shape.rows = omega (arith, c.loop-row-test.false, c.loop-row.auto.row-end, c.rows-row-end.ensures) in
    subst (λ n. g.S.GridRows.gives (c.loop-row.source, c.loop-row.tiles, c.loop-row.products) rows (n + 1)) last (c.loop-row.invariant.given rows gives)

pub returns-clause-reads : goal.returns-clause-reads
returns-clause-reads g c = λ start n before.
    let last : c.loop-row.row ≡ c.args.shape.rows = omega (arith, c.loop-row-test.false, c.loop-row.auto.row-end, c.rows-row-end.ensures) in
    subst (λ k. g.S.GridRows.has_read start (c.loop-row.source, c.loop-row.tiles, c.loop-row.products) (n + (k + 1)) None) last (c.loop-row.invariant.reads start n before)

pub returns-in_err-read_marked-clause-stops : goal.returns-in_err-read_marked-clause-stops
returns-in_err-read_marked-clause-stops g c =
    told-of c.from_residual.result c.in_err-read_marked.field-0.0 _ c.from_residual.ensures.1
    (stops_then g.S.GridRows.has_read (c.args.source.now, c.args.tiles.now, c.args.products.now) (c.args.source.now, c.args.tiles.now, c.args.products.now) (c.read_marked.new.source, c.read_marked.new.tiles, c.read_marked.new.products) 1 1 c.in_err-read_marked.field-0.0 (λ told reads. reads) (λ wants. inr wants) c.in_err-read_marked.ensures.stops)

pub returns-in_err-read_marked-2-clause-stops : goal.returns-in_err-read_marked-2-clause-stops
returns-in_err-read_marked-2-clause-stops g c =
    let row = c.loop-row.row in
    told-of c.from_residual-in_err-read_marked-2.result c.in_err-read_marked-2.field-0.0 _ c.from_residual-in_err-read_marked-2.ensures.1
    (stops_then g.S.GridRows.has_read (c.args.source.now, c.args.tiles.now, c.args.products.now) (c.loop-row.source, c.loop-row.tiles, c.loop-row.products) (c.read_marked-in-loop-row.new.source, c.read_marked-in-loop-row.new.tiles, c.read_marked-in-loop-row.new.products) 1 (row + 1 + 1) c.in_err-read_marked-2.field-0.0 (
    λ told reads start n begun.
    (let same : n + (row + 1) + 1 ≡ n + (row + 1 + 1) = omega arith in
    subst (λ k. g.S.GridRows.has_read start (c.read_marked-in-loop-row.new.source, c.read_marked-in-loop-row.new.tiles, c.read_marked-in-loop-row.new.products) k told) same (reads start (n + (row + 1)) (c.loop-row.invariant.reads start n begun)))
    ) (λ wants. inr wants) c.in_err-read_marked-2.ensures.stops)
