use Rattle.drain_window.proofs.Names.{◌+◌, refl, ap, subst, sym, AreRowPatches}
use Rattle.drain_window.proofs.seam_walk.SeamWalk.take_row.Goals as goal

pub returns-clause-right : goal.returns-clause-right
returns-clause-right g c = λ grid ps r are so_far. record {
  rows_are = ap (λ n. n + 1) so_far.rows_are;
  nodata_is = λ some. refl;
  right = λ wide.
      c.in_ok-note_row.ensures grid ps
      (subst (λ n. AreRowPatches grid ps n (g.R.PatchRow.len c.args.patches.now) (g.R.PatchRow.shown c.args.patches.now)) (sym so_far.rows_are) are) wide
      (so_far.right wide);
}
