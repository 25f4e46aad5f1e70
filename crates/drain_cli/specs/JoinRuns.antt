-- How the first part of a run of `drain merge --report` ends: with the report of a box, or with the reason why there is
-- none.
use Rattle.std.specs.Prelude.{◌≡◌}
use Rattle.drain_cli.specs.Names.{ℕ, List, Result, Ok, Err, Prints, Sink, MergeRefusal, WindowReport}
use Rattle.drain_cli.specs.MergeRuns.{refused_status}
use Rattle.drain_merge.specs.BoxReports.{IsJoin, IsJoinRefusal, IsOfBox}
use Rattle.drain_merge.specs.UnionVerdicts.{refusal_line}

-- the report that the windows make of their box; or the first refusal
abbrev pub IsJoinOutcome : List WindowReport → Result WindowReport MergeRefusal → Type 0
IsJoinOutcome windows (Ok joined) = IsJoin windows joined × IsOfBox windows joined
IsJoinOutcome windows (Err refusal) = IsJoinRefusal windows refusal

-- the report is returned, and nothing printed; or the reason is printed, and its status returned
abbrev pub IsBoxHandedOver : {W : Type 0} → Sink W → W → W → Result WindowReport MergeRefusal → Result WindowReport ℕ → Type 0
IsBoxHandedOver sink old new (Ok joined) result = (result ≡ Ok joined) × (new ≡ old)
IsBoxHandedOver sink old new (Err refusal) result = (code : ℕ) × (result ≡ Err code) × Prints sink old new (refusal_line refusal) (refused_status refusal) code
