use Rattle.drain_rows.proofs.Names.{◌≡◌, ◌+◌, ℕ, None, length, Grid, Products, spacing_of, AreRowNumbers, RowNumbers, OfGrid, ReadsOn, AreVoidsBefore, LanesMatch, IsMarked, marked_of, buffer_numbers}
use Rattle.drain_rows.proofs.WindowLemmas.{AreSetProducts}
use Rattle.drain_rows.proofs.all_rows.note_rows.Given as goal

-- the row below the window is the next to be noted, and the notes are of the rows before it
abbrev pub invariant-loop-row : goal.invariant-loop-row
invariant-loop-row g l =
    let source = g.S.GridRows in
    record {
      counted : g.K.RowVisitor.counts l.row l.notes;
      as_many : length l.tiles ≡ source.count l.source;
      here_whole : AreRowNumbers (buffer_numbers l.window.here);
      below_whole : AreRowNumbers (buffer_numbers l.window.below);
      here_lanes : LanesMatch l.window.here;
      below_lanes : LanesMatch l.window.below;
      given : (rows : ℕ → RowNumbers) → source.gives (l.fn.source, l.fn.tiles, l.fn.products) rows 0 →
          source.gives (l.source, l.tiles, l.products) rows (l.row + 1);
      held : (rows : ℕ → RowNumbers) → source.gives (l.fn.source, l.fn.tiles, l.fn.products) rows 0 →
          AreSetProducts rows l.row (buffer_numbers l.window.here) (buffer_numbers l.window.below);
      here_marked : (r : ℕ) → l.row ≡ r + 1 → IsMarked l.sinks (spacing_of l.spacings) r (marked_of l.window.here);
      below_marked : IsMarked l.sinks (spacing_of l.spacings) l.row (marked_of l.window.below);
      voids : OfGrid (source.gives (l.fn.source, l.fn.tiles, l.fn.products)) l.fn.shape l.sinks (spacing_of l.spacings) (λ (grid : Grid) (ps : Products). AreVoidsBefore grid (l.row + 1) l.voids);
      noted : OfGrid (source.gives (l.fn.source, l.fn.tiles, l.fn.products)) l.fn.shape l.sinks (spacing_of l.spacings) (λ (grid : Grid) (ps : Products). g.K.RowVisitor.are_of l.rules grid ps l.row l.notes);
      lasting : g.K.RowVisitor.lasting l.notes ≡ g.K.RowVisitor.lasting l.fn.notes;
      reads : ReadsOn source.has_read (l.fn.source, l.fn.tiles, l.fn.products) (l.source, l.tiles, l.products) (l.row + 1) None;
    }
