use Rattle.drain_rows.proofs.Names.{false, inl, inr, refl, ◌∙◌, arith, cases_lt, lt-ltb, le-ltb}
use Rattle.std.proofs.lemmas.List.{get_or_past}
use Rattle.drain_rows.proofs.listed_voids.ListedVoids.note_row.Goals as goal

pub returns : goal.returns
returns c = record {
  noted = λ d. c.loop-col.invariant d ∙ elim (cases_lt d.col c.loop-col.col) [
    | inl passed ↦ rw (lt-ltb d.col c.loop-col.col passed) refl
    | inr behind ↦ (let none = get_or_past c.args.marks.now d.col false (omega (arith, behind, c.loop-col-test.false, c.loop-col.auto.col-end)) in
        rw (le-ltb d.col c.loop-col.col (omega (arith, behind)), none) (grind (arith)))
  ];
}
