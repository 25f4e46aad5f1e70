use Rattle.drain_files.proofs.Names.{◌≡◌, ◌++◌, ◌∷◌, [], take, rules, take_more, map-append, names_of, IsLastPart}
use Rattle.drain_files.proofs.PathLemmas.{AllZip-more}
use Rattle.drain_files.proofs.open_files.open_tiles.Goals as goal

pub loop-path-preserved : goal.loop-path-preserved
loop-path-preserved c =
    let pushed : c.push.new.self.items ≡ c.loop-path.tiles.items ++ c.in_ok-open_tile.field-0 ∷ [] = search rules in
    rw (pushed, map-append, take_more c.args.paths.now c.loop-path.path-index (record { ref_ptr = (0, 0); now = [] }) c.loop-path-test.true)
    (AllZip-more (λ path name. IsLastPart path.now name) (take c.loop-path.path-index c.args.paths.now) (names_of c.loop-path.tiles.items) _ c.in_ok-open_tile.field-0.name
    c.loop-path.invariant c.in_ok-open_tile.ensures)
