use Rattle.drain_window.proofs.Names.{ℕ, false, ◌≡◌, ◌+◌, ◌<◌, ◌∙◌, refl, ap, subst, arith, SEAM_DEPTH, IsOnSeam, AddsSeams}
use Rattle.drain_grid.specs.declared.patch.Patch.{Patch}
use Rattle.drain_rules.specs.Rows.{place}
use Rattle.drain_window.proofs.SeamCells.{seams-more, seams-none, seams-past}
use Rattle.drain_window.proofs.seam_walk.note_seams.Goals as goal
use Rattle.drain_window.proofs.seam_walk.note_seams.Goals.{then-is_on_seam+in-Some+in_ok-push, else-is_on_seam}

pub loop-col-init : goal.loop-col-init
loop-col-init g c = (omega arith, λ grid ps are wide. seams-none c.args.origin c.args.place.now grid ps c.args.row c.args.seams.now.items)

pub loop-col-preserved : goal.loop-col-preserved
loop-col-preserved g c = (
  c.seam_from-col.ensures.within,
  λ grid ps are wide.
      (let here : AddsSeams c.args.origin c.args.place.now grid ps c.args.row (c.loop-col.col + 1) c.args.seams.now.items c.if-is_on_seam.seams.items =
      elim c.if-is_on_seam.branch [
        | then-is_on_seam+in-Some+in_ok-push w ↦
            (let on = c.is_on_seam.ensures.0 w.if-is_on_seam.true in
            let less : c.args.place.now.left + c.loop-col.col < g.R.PatchRow.len c.args.patches.now =
            omega (arith, c.loop-col-test.true, c.min-end.ensures, c.saturating_sub.ensures, c.cols.ensures.count) in
            let same = w.patch-patch.ensures ∙ are.patches_are (c.args.place.now.left + c.loop-col.col) less in
            rw (w.seams-is, w.in_ok-push.ensures.items)
            (seams-more c.args.origin c.args.place.now grid ps c.args.row c.loop-col.col c.args.seams.now.items c.loop-col.seams.items _ on
            (record { cell = refl; values = w.in-Some.ensures.value ∙ ap (λ (q : Patch). q.here) same }) (c.loop-col.invariant.1 grid ps are wide)))
        | else-is_on_seam w ↦
            (rw w.seams-is
            (seams-past c.args.origin c.args.place.now grid ps c.args.row c.loop-col.col (c.loop-col.col + 1) c.args.seams.now.items c.loop-col.seams.items
            (omega arith) (λ k from to on. off w.if-is_on_seam.false k (omega (arith, from, to)) on) (c.loop-col.invariant.1 grid ps are wide)))
      ] in
      seams-past c.args.origin c.args.place.now grid ps c.args.row (c.loop-col.col + 1) c.seam_from-col.result c.args.seams.now.items
      c.if-is_on_seam.seams.items c.seam_from-col.ensures.forward c.seam_from-col.ensures.off here),
)
  where
    -- a column that wasn't found on a seam
    off : c.is_on_seam.result ≡ false → (k : ℕ) → k ≡ c.loop-col.col → ¬ IsOnSeam SEAM_DEPTH c.args.place.now (place c.args.row k)
    off missed k same on =
        let yes = c.is_on_seam.ensures.1 (subst (λ n. IsOnSeam SEAM_DEPTH c.args.place.now (place c.args.row n)) same on) in
        absurd (let differs : ⊥ = cc in differs)

pub returns : goal.returns
returns g c = λ grid ps are wide.
    let last : c.loop-col.col ≡ c.args.place.now.extent.cols =
    omega (arith, c.loop-col-test.false, c.loop-col.invariant.0, c.min-end.ensures, c.saturating_sub.ensures, c.cols.ensures.count, are.cols_are, wide, c.cols-width.ensures) in
    subst (λ n. AddsSeams c.args.origin c.args.place.now grid ps c.args.row n c.args.seams.now.items c.loop-col.seams.items) last (c.loop-col.invariant.1 grid ps are wide)
