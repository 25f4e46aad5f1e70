use Rattle.drain_files.proofs.Names.{◌+◌, arith, eq-eqb, eqb-true, take_rest}
use Rattle.drain_files.proofs.PathLemmas.{whole_path, after_last_slash}
use Rattle.drain_files.proofs.file_paths.tile_name.Goals as goal

pub returns-in-Some : goal.returns-in-Some
returns-in-Some c =
    let found = c.in-Some.ensures in
    rw (take_rest c.args.path.now (c.in-Some.slash + 1)) (
    after_last_slash c.args.path.now c.in-Some.slash found.0.high (eqb-true _ _ found.1)
    (λ k after inside same. found.0.after k after inside (eq-eqb _ _ same))
    )

pub returns-in-None : goal.returns-in-None
returns-in-None c = whole_path c.args.path.now (λ k inside same. c.in-None.ensures k (omega arith) inside (eq-eqb _ _ same))
