-- The lines that a window judges are its listed sinks.
use Rattle.drain_window.proofs.Names.{◌≡◌, ℕ, zero, suc, ◌+◌, inl, inr, Some, List, [], ◌∷◌, ◌++◌, length, slice_get, below_more, sym, ap, subst, ◌∙◌, arith, Contains, Contains-append_left, Contains-append_right, Contains-append_cases, Cell, Grid, Products, is_listed, same_place, Place, window_at, IsJudgedAt, in_union, moved, ListsSinks, AreLinesInside, union_cell}
use Rattle.drain_grid.specs.declared.sink_line.SinkLine.{SinkLine}
use Rattle.drain_window.proofs.JudgedWindows.{judged_moved, moved_judged}
use Rattle.drain_union.proofs.Merges.{line_of, listed_there}

-- a cell of a place, and of the place in the union
moved_cell : (origin : Cell) (p : Place) (c : Cell) → union_cell origin (in_union p c) ≡ in_union (moved origin p) c
moved_cell origin p c =
    let row : origin.row + (p.top + c.row) ≡ origin.row + p.top + c.row = omega arith in
    let col : origin.col + (p.left + c.col) ≡ origin.col + p.left + c.col = omega arith in
    same_place (union_cell origin (in_union p c)) (in_union (moved origin p) c) row col

pub lists_sinks : (origin : Cell) (p : Place) (g : Grid) (ps : Products) (lines : List SinkLine) (xs : List Cell) → g.sink ≡ is_listed lines →
    AreLinesInside origin p lines (length lines) xs → ListsSinks (window_at origin p g ps) xs
lists_sinks origin p g ps lines xs sinks inside = record {
  sound = λ x has.
      (let f = inside.sound x has in
      let s = f.2 in
      let at = f.4 in
      let is = f.5 in (
        at.0,
        moved_judged origin p at.0 at.1,
        ap (λ (h : Cell → _). h (in_union p at.0)) sinks ∙ ap (is_listed lines) at.2 ∙ listed_there lines f.0 s f.3,
        sym (moved_cell origin p at.0) ∙ ap (union_cell origin) at.2 ∙ is,
      ));
  complete = λ c judged is.
      (let f = line_of lines (in_union p c) (sym (ap (λ (h : Cell → _). h (in_union p c)) sinks) ∙ is) in
      let s = f.2 in
      subst (λ (k : Cell). Contains xs k) (ap (union_cell origin) (sym f.4) ∙ moved_cell origin p c)
      (inside.complete f.0 s f.1 f.3 (c, judged_moved origin p c judged, f.4)));
}

the_one : (c x : Cell) → Contains (c ∷ []) x → c ≡ x
the_one c x (zero, below, is) = is
the_one c x (suc k, below, is) = absurd (omega (arith, below))

module _ (origin : Cell) (p : Place) (lines : List SinkLine) (n : ℕ) (xs : List Cell) (s : SinkLine) (here : slice_get lines n ≡ Some s)
    (inside : AreLinesInside origin p lines n xs) where
  same : (t : SinkLine) → slice_get lines n ≡ Some t → s ≡ t
  same t at = let both : Some s ≡ Some t = sym here ∙ at in cc

  -- a line more, which isn't judged
  pub line_skipped : ¬ IsJudgedAt p s.cell → AreLinesInside origin p lines (n + 1) xs
  line_skipped not = record {
    sound = λ x has. (let f = inside.sound x has in (f.0, omega (arith, f.1), f.2, f.3, f.4, f.5));
    complete = λ k t less.
        below_more (λ m. slice_get lines m ≡ Some t → IsJudgedAt p t.cell → Contains xs (union_cell origin t.cell)) n
        (λ m within at judged. inside.complete m t within at judged)
        (λ at judged. absurd (not (subst (λ (u : SinkLine). IsJudgedAt p u.cell) (sym (same t at)) judged))) k less;
  }

  -- a line more, whose cell is listed
  pub line_added : IsJudgedAt p s.cell → AreLinesInside origin p lines (n + 1) (xs ++ union_cell origin s.cell ∷ [])
  line_added judged = record {
    sound = λ x has.
        elim (Contains-append_cases xs (union_cell origin s.cell ∷ []) x has) [
          | inl before ↦ (let f = inside.sound x before in (f.0, omega (arith, f.1), f.2, f.3, f.4, f.5))
          | inr last ↦ (n, omega arith, s, here, judged, the_one (union_cell origin s.cell) x last)
        ];
    complete = λ k t less.
        below_more (λ m. slice_get lines m ≡ Some t → IsJudgedAt p t.cell → Contains (xs ++ union_cell origin s.cell ∷ []) (union_cell origin t.cell)) n
        (λ m within at is. Contains-append_left xs (union_cell origin s.cell ∷ []) _ (inside.complete m t within at is))
        (λ at is. Contains-append_right xs (union_cell origin s.cell ∷ []) _ (0, omega arith, ap (λ (u : SinkLine). union_cell origin u.cell) (same t at))) k less;
  }
