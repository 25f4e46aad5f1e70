use Rattle.drain_flood.proofs.Names.{◌+◌, ◌∙◌, false, subst, slice_index, slice_index_or, arith, IsMarkOf, least_around}
use Rattle.std.proofs.lemmas.List.{length-set}
use Rattle.drain_flood.proofs.GapMarks.{put_more, put_before}
use Rattle.drain_flood.proofs.open_cells.put_marks.Goals as goal

pub loop-k-preserved : goal.loop-k-preserved
loop-k-preserved c =
    let known = c.loop-k.invariant in
    let test = c.loop-k-test.true in
    let inside = c.requires.inside in
    record {
      len = length-set c.loop-k.marks (c.args.start + c.loop-k.k) c.first_mark.result ∙ known.len;
      row = put_more
          (λ k mark. IsMarkOf (slice_index c.args.here.now (k + 1)) (slice_index_or c.args.listed.now k false) (least_around c.args.above.now c.args.here.now c.args.below.now k) mark)
          c.loop-k.marks c.args.start c.loop-k.k c.first_mark.result 0 (omega (arith, known.len, test, inside))
          (subst (λ least. IsMarkOf (slice_index c.args.here.now (c.loop-k.k + 1)) (slice_index_or c.args.listed.now c.loop-k.k false) least c.first_mark.result)
          c.least_around-least.ensures c.first_mark.ensures) known.row;
      others = put_before c.args.marks.now c.loop-k.marks c.args.start c.loop-k.k c.first_mark.result 0 known.others;
    }
