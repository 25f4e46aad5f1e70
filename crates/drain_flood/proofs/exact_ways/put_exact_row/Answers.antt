use Rattle.drain_flood.proofs.Names.{◌≡◌, ◌∙◌, ◌+◌, ◌*◌, ◌<◌, ◌≤◌, ℕ, refl, sym, ap, subst, arith, Extent, index_of}
use Rattle.drain_flood.proofs.ExactRows.{code_more, before_stays}
use Rattle.drain_flood.proofs.exact_ways.put_exact_row.Goals as goal

pub loop-col-init : goal.loop-col-init
loop-col-init t c = record {
  others = λ i less. refl;
  codes = λ g same spaced surface cell inside at less. absurd (omega (arith, less));
}

pub loop-col-preserved : goal.loop-col-preserved
loop-col-preserved t c = record {
  others = λ i less.
      before_stays c.args.row c.loop-col.col c.args.surface.now.extent.cols c.index.result c.first_code.result i c.args.dirs.now c.loop-col.dirs
      (c.index.ensures.place ∙ ap (λ (e : Extent). c.args.row * e.cols + c.loop-col.col) c.shape-shape.ensures) less (c.loop-col.invariant.others i less);
  codes = λ g same spaced surface.
      code_more g c.args.surface.now c.args.row c.loop-col.col c.index.result c.first_code.result c.loop-col.dirs
      (c.index.ensures.place ∙ ap (λ (e : Extent). index_of e (record { row = c.args.row; col = c.loop-col.col })) (c.shape-shape.ensures ∙ sym same))
      (within c.index.result c.shape-shape.result c.args.surface.now.extent _ _ c.shape-shape.ensures c.index.ensures.below c.requires.dirs_len c.loop-col.auto.dirs)
      (c.first_code.ensures.code g same spaced surface) (c.loop-col.invariant.codes g same spaced surface);
}
  where
    within : (place : ℕ) (e shape : Extent) (old new : ℕ) → e ≡ shape → place < e.rows * e.cols → old ≡ shape.rows * shape.cols → new ≡ old → place < new
    within place e shape old new same less long still = subst (λ n. place < n) (ap (λ (x : Extent). x.rows * x.cols) same ∙ sym (still ∙ long)) less

pub returns-clause-row : goal.returns-clause-row
returns-clause-row t c = λ g same spaced surface cell inside at.
    c.loop-col.invariant.codes g same spaced surface cell inside at
    (in_row cell.col g.extent c.args.surface.now.extent c.shape-shape.result c.cols-col-end.result c.loop-col.col inside.col same c.shape-shape.ensures
    c.cols-col-end.ensures c.loop-col-test.false)
  where
    in_row : (col : ℕ) (own e shape : Extent) (end at : ℕ) → col < own.cols → own ≡ e → shape ≡ e → end ≡ shape.cols → end ≤ at → col < at
    in_row col own e shape end at less same shown is most =
        let cols : own.cols ≡ end = ap (λ (x : Extent). x.cols) (same ∙ sym shown) ∙ sym is in omega (arith, less, cols, most)
