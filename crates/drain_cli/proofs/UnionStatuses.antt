-- What the status of a merge says of the union.
use Rattle.drain_cli.proofs.Names.{◌≡◌, ◌<◌, inl, inr, List, IfOk, IfErr, arith, IsUnionVerdict, UnionVerdict, Accepted, Rejected, status_code, WindowReport, IsMergeOutcome, MakeUnion, merge_status, UnionIsCorrect, UnionIsNotCorrect, verdict_status}
use Rattle.std.proofs.Common.{Result, Ok, Err}
use Rattle.drain_merge.specs.BoxReports.{box_of}
use Rattle.drain_merge.specs.MapBoxes.{HasMapSinks, IsMapRefusal, IsMapVerdict}
use Rattle.drain_merge.specs.declared.map_merge.MapVerdict.{MapVerdict}
use Rattle.drain_merge.specs.declared.merge_verdict.MergeRefusal.{MergeRefusal}
use Rattle.drain_merge.specs.declared.merge_verdict.MergeRefusal.TheVariants.{NoReports, OtherSide, OtherGrid, OtherNoData, OtherSpacing, OutsideUnion, JudgesNothing, Overlap, LeftOut, SeamsDiffer, SinkLeftOut, SinkNotListed, OutOfMemory}
use Rattle.drain_merge.specs.declared.totals.UnionSinks.{UnionSinks}

-- a merge answers with an outcome
pub outcome_is : (sinks : UnionSinks) (ws : List WindowReport) (answer : Result MapVerdict MergeRefusal) → IfOk answer (IsMapVerdict ws) → IfOk answer (λ union. HasMapSinks sinks ws) →
    IfErr answer (IsMapRefusal sinks ws) → IsMergeOutcome sinks ws answer
outcome_is sinks ws (Ok union) means has refusal = (means, has)
outcome_is sinks ws (Err refused) means has refusal = refusal

-- no refusal has the status of a verdict
refused_above_1 : (refusal : MergeRefusal) → 1 < status_code (merge_status (Err refusal))
refused_above_1 NoReports = omega arith
refused_above_1 (OtherSide k) = omega arith
refused_above_1 (OtherGrid k) = omega arith
refused_above_1 (OtherNoData k) = omega arith
refused_above_1 (OtherSpacing k) = omega arith
refused_above_1 (OutsideUnion k) = omega arith
refused_above_1 (JudgesNothing k) = omega arith
refused_above_1 (Overlap clash) = omega arith
refused_above_1 (LeftOut c) = omega arith
refused_above_1 (SeamsDiffer c) = omega arith
refused_above_1 (SinkLeftOut n) = omega arith
refused_above_1 (SinkNotListed c) = omega arith
refused_above_1 OutOfMemory = omega arith

correct_if : (ws : List WindowReport) (v : UnionVerdict) → IsUnionVerdict (box_of ws) ws v → status_code (verdict_status v) ≡ 0 → UnionIsCorrect ws
correct_if ws (Accepted counts) is zero = (is.nodata, is.one_nodata, λ window_of from u ps size are. ((is.means window_of from).exactly u ps size are).0 tt)
correct_if ws (Rejected fault) is zero = absurd (omega (arith, zero))

not_correct_if : (ws : List WindowReport) (v : UnionVerdict) → IsUnionVerdict (box_of ws) ws v → status_code (verdict_status v) ≡ 1 → UnionIsNotCorrect ws
not_correct_if ws (Accepted counts) is one = absurd (omega (arith, one))
not_correct_if ws (Rejected fault) is one = (is.nodata, is.one_nodata, λ window_of from u ps size are. ((is.means window_of from).exactly u ps size are).1)

one_if : (ws : List WindowReport) (v : UnionVerdict) → IsUnionVerdict (box_of ws) ws v → status_code (verdict_status v) ≡ 0 → MakeUnion ws
one_if ws (Accepted counts) is zero = λ window_of from.
    elim ((is.means window_of from).one_union) [ inl some ↦ absurd (is.none tt some) | inr union ↦ union ]
one_if ws (Rejected fault) is zero = absurd (omega (arith, zero))

-- with the status 0 there is one union
pub of_one : (sinks : UnionSinks) (ws : List WindowReport) (answer : Result MapVerdict MergeRefusal) → IsMergeOutcome sinks ws answer → status_code (merge_status answer) ≡ 0 → MakeUnion ws
of_one sinks ws (Ok union) is zero = one_if ws union.verdict is.0.verdict zero
of_one sinks ws (Err refusal) is zero = absurd (omega (arith, zero, refused_above_1 refusal))

-- with the status 0 the products of the union are correct
pub of_accepted : (sinks : UnionSinks) (ws : List WindowReport) (answer : Result MapVerdict MergeRefusal) → IsMergeOutcome sinks ws answer → status_code (merge_status answer) ≡ 0 → UnionIsCorrect ws
of_accepted sinks ws (Ok union) is zero = correct_if ws union.verdict is.0.verdict zero
of_accepted sinks ws (Err refusal) is zero = absurd (omega (arith, zero, refused_above_1 refusal))

-- and with the status 1 they aren't
pub of_rejected : (sinks : UnionSinks) (ws : List WindowReport) (answer : Result MapVerdict MergeRefusal) → IsMergeOutcome sinks ws answer → status_code (merge_status answer) ≡ 1 → UnionIsNotCorrect ws
of_rejected sinks ws (Ok union) is one = not_correct_if ws union.verdict is.0.verdict one
of_rejected sinks ws (Err refusal) is one = absurd (omega (arith, one, refused_above_1 refusal))
