use Rattle.drain_union.proofs.Names.{refl, subst, w64, to_z-of_z, IsPixel}
use Rattle.drain_union.proofs.seam_values.SeamValues.of_height.Goals as goal

pub returns-in-Some-clause-valid : goal.returns-in-Some-clause-valid
returns-in-Some-clause-valid c =
    let fit = c.in-Some.ensures.valid.0 refl in
    let dir = subst IsPixel (to_z-of_z w64 c.args.dir c.ranges.dir) fit.dir_ok in (
      (λ _. record {
        z_ok = fit.z_ok;
        con_ok = subst IsPixel (to_z-of_z w64 c.args.con c.ranges.con) fit.con_ok;
        dir_ok = dir;
        acc_ok = subst IsPixel (to_z-of_z w64 c.args.acc c.ranges.acc) fit.acc_ok;
        bas_ok = subst IsPixel (to_z-of_z w64 c.args.bas c.ranges.bas) fit.bas_ok;
        spl_ok = fit.spl_ok;
        rnk_ok = dir;
      }),
      λ _. refl,
    )
