use Rattle.drain_merge.proofs.Names.{ℕ, Some, slice_index, sym, subst, ◌∙◌, arith, false≢true, judged_bottom, judged_right, judged_top, IsNewBetween, IsFirstInRow}
use Rattle.drain_merge.proofs.CornerCells.{Across, IsJudgedAcross, crossing_found, none_found}
use Rattle.drain_merge.proofs.NewNumbers.{passed_more}
use Rattle.drain_merge.proofs.unjudged.first_crossing.Goals as goal
use Rattle.drain_merge.proofs.unjudged.first_crossing.Goals.{then-is_new_between+in_default, else-is_new_between}

pub returns-in-Some : goal.returns-in-Some
returns-in-Some c =
    let rows = c.args.rows.now in
    let cols = c.args.cols.now in
    let places = c.args.places.now in
    let box = c.args.bounds.now in
    let i = c.loop-i.i in
    let col = c.in-Some.col in
    let new = subst (λ (t : ℕ). IsNewBetween rows i t (judged_bottom box)) c.top_of-top.ensures
    (subst (λ (b : ℕ). IsNewBetween rows i c.top_of-top.result b) c.bottom_of-bottom.ensures (c.is_new_between.ensures.0 c.if-is_new_between.true)) in
    let first = subst (λ (l : ℕ). IsFirstInRow l (judged_right box) (slice_index rows i) cols places (Some col)) c.left_of-left.ensures
    (subst (λ (r : ℕ). IsFirstInRow c.left_of-left.result r (slice_index rows i) cols places (Some col)) c.right_of-right.ensures c.in-Some.ensures) in
    crossing_found box places rows cols c.requires.rows_rise i c.loop-i-test.true new c.loop-i.invariant col first

pub loop-i-preserved : goal.loop-i-preserved
loop-i-preserved c =
    let rows = c.args.rows.now in
    let cols = c.args.cols.now in
    let places = c.args.places.now in
    let box = c.args.bounds.now in
    let i = c.loop-i.i in
    passed_more (Across box places rows cols) rows (judged_top box) (judged_bottom box) i c.loop-i.invariant
    (λ new. elim c.if-is_new_between.branch [
      | then-is_new_between+in_default w ↦
          subst (λ (l : ℕ). IsJudgedAcross places cols l (judged_right box) (slice_index rows i)) c.left_of-left.ensures
          (subst (λ (r : ℕ). IsJudgedAcross places cols c.left_of-left.result r (slice_index rows i)) c.right_of-right.ensures w.in_default.ensures)
      | else-is_new_between w ↦
          (let old = subst (λ (t : ℕ). IsNewBetween rows i t c.bottom_of-bottom.result) (sym c.top_of-top.ensures)
          (subst (λ (b : ℕ). IsNewBetween rows i (judged_top box) b) (sym c.bottom_of-bottom.ensures) new) in
          absurd (false≢true (sym w.if-is_new_between.false ∙ c.is_new_between.ensures.1 old)))
    ])

pub returns : goal.returns
returns c =
    none_found c.args.bounds.now c.args.places.now c.args.rows.now c.args.cols.now (λ k less above below. c.loop-i.invariant k (omega arith) above below)
