-- Each test checks the range of its number.
use Rattle.drain_grid.proofs.Names.{refl, rules, to_z-of_z}
use Rattle.drain_grid.proofs.values.CellValues.of_height.Goals as goal

pub invariant_of-result : goal.invariant_of-result
invariant_of-result c = record {
  z_ok = search rules;
  con_ok = search rules;
  dir_ok = search rules;
  acc_ok = search rules;
  bas_ok = search rules;
  spl_ok = search rules;
  rnk_ok = search rules;
}

pub returns-then-is_pixel-6-clause-valid : goal.returns-then-is_pixel-6-clause-valid
returns-then-is_pixel-6-clause-valid c = (
  (λ _. record {
    z_ok = search rules;
    con_ok = search (rules, to_z-of_z);
    dir_ok = search (rules, to_z-of_z);
    acc_ok = search (rules, to_z-of_z);
    bas_ok = search (rules, to_z-of_z);
    spl_ok = search (rules, to_z-of_z);
    rnk_ok = search (rules, to_z-of_z);
  }),
  λ _. refl,
)
