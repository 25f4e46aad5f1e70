use Rattle.drain_files.proofs.Names.{◌≡◌, ◌++◌, ◌∷◌, [], take, rules, take_more, IsPathOf}
use Rattle.std.proofs.Common.{string_bytes}
use Rattle.drain_grid.specs.declared.set_product.SetProduct.TheVariants.{Con}
use Rattle.drain_sets.specs.declared.set_files.FilePart.TheVariants.{Header}
use Rattle.drain_files.proofs.PathLemmas.{AllZip-more}
use Rattle.drain_files.proofs.output_paths.paths_in.Goals as goal

pub loop-file-preserved : goal.loop-file-preserved
loop-file-preserved c =
    let pushed : c.push.new.self.items ≡ c.loop-file.paths.items ++ c.in_ok-path_of.field-0 ∷ [] = search rules in (
      search rules,
      rw (pushed, take_more c.args.files.now c.loop-file.file-index (record { product = Con; part = Header }) c.loop-file-test.true)
          (AllZip-more (λ file path. IsPathOf c.args.folder.now file (string_bytes path)) (take c.loop-file.file-index c.args.files.now) c.loop-file.paths.items _ c.in_ok-path_of.field-0
          c.loop-file.invariant.1 c.in_ok-path_of.ensures),
    )
