use Rattle.drain_mosaic.proofs.Names.{◌≡◌, Result, Ok, Err, IfErr, IsErrOf, ReadFault, ReadFailed}
use Rattle.drain_device.specs.declared.row_source.ReadFault.TheVariants.{OutOfMemory}
use Rattle.drain_mosaic.proofs.TileCalls.{read-none}
use Rattle.drain_mosaic.proofs.one_row.read_alone.Goals as goal

-- want of memory is no failed read
never : {T : Type 0} (r : Result T ReadFault) → IfErr r (λ fault. fault ≡ OutOfMemory) → IsErrOf r ReadFailed → ⊥
never (Ok x) is e = cc
never (Err fault) is e = cc

pub returns-then-row-tile-clause-read : goal.returns-then-row-tile-clause-read
returns-then-row-tile-clause-read g c = read-none _ _ c.args.tile.now _ (never c.put_voids.result c.put_voids.ensures.fault)
