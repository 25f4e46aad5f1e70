use Rattle.drain_grid.proofs.Names.{leb, rules, IsPartitionPoint-from_clause, IsPartitionedBy-leb}
use Rattle.drain_grid.proofs.LineRuns.{run_at_point}
use Rattle.drain_grid.proofs.numbered_cells.run_of.Goals as goal

pub overflow_sub-result : goal.overflow_sub-result
overflow_sub-result c =
    let rising = IsPartitionedBy-leb (λ run. run.first) c.args.runs.now c.args.i c.requires.rising in
    let point = IsPartitionPoint-from_clause (λ run. leb run.first c.args.i) _ _ c.partition_point-begun.ensures.partitioned rising (λ a r q k. search rules) in
    (run_at_point c.args.runs.now c.args.i c.partition_point-begun.result c.requires.some c.requires.begun c.partition_point-begun.ensures.bound point).some

pub returns : goal.returns
returns c =
    let rising = IsPartitionedBy-leb (λ run. run.first) c.args.runs.now c.args.i c.requires.rising in
    let point = IsPartitionPoint-from_clause (λ run. leb run.first c.args.i) _ _ c.partition_point-begun.ensures.partitioned rising (λ a r q k. search rules) in
    let found = run_at_point c.args.runs.now c.args.i c.partition_point-begun.result c.requires.some c.requires.begun c.partition_point-begun.ensures.bound point in
    record { first = found.first _; number = found.number _ }
