use Rattle.drain_cli.proofs.Names.{subst, Prints, Extent, written_status}
use Rattle.drain_cli.specs.DerivedSets.{derived_line}
use Rattle.drain_cli.proofs.runs.write_set.write_derived_and_place.Goals as goal

pub returns : goal.returns
returns g c =
    let placed = c.place_and_print.ensures in
    record {
      run = (
        c.write_derived-written.result,
        placed.0,
        c.write_derived-written.ensures,
        placed.1,
        subst (λ (extent : Extent). Prints g.W.ByteSink c.args.out.now c.place_and_print.new.out (derived_line extent placed.0) (written_status placed.0) c.place_and_print.result)
            c.shape.ensures placed.2,
      );
    }
