-- The answer to the bytes: the first refusal that applies, else the verdict; and what an acceptance means.
use Rattle.std.specs.Prelude.{◌≡◌, if◌then◌else◌}
use Rattle.drain_verdict.specs.Names.{ℕ, Result, Ok, Err, ℤ, pos, is_some, List, Option, Some, None, Grid, Products, Verdict, check_rules, IsVerdictOf, IsVerdict, Judged, Rules, Refusal, Cell, run_steps, with_ranks, with_rank_nodata, IsFirstEndless, unranked, IsCorrect, NoDataNumbers, TileInput, AllRunsEnd, AuditProducts, AuditVerdict}
use Rattle.drain_verdict.specs.Given.{Given}
use Rattle.drain_verdict.specs.Inputs.{Inputs, as_five, Encode}
use Rattle.drain_verdict.specs.GroundSets.{GroundSet, IsReadable, IsRefusalIn, rules_in, set_grid, set_numbers, set_products}
use Rattle.drain_verdict.specs.Meaning.{input_grid, input_products, nodata_numbers}
use Rattle.drain_verdict.specs.TileGround.{set_of}
use Rattle.drain_paths.specs.declared.walk.TheConstants.{UNKNOWN}
use Rattle.drain_answer.specs.declared.outcome.AuditVerdict.TheVariants.{Accepted, Rejected, NoEnd}
use Rattle.drain_grid.specs.declared.verdict.Verdict.TheVariants as checked

-- no refusal applies
abbrev pub AreReadable : Inputs → Type 0
AreReadable i = IsReadable (set_of i)

-- the refusal is the first that applies; out of memory and a failed read say nothing of the bytes
abbrev pub IsRefusal : Inputs → Refusal → Type 0
IsRefusal i refusal = IsRefusalIn (set_of i) refusal

-- the answer of a check: the first refusal that applies, else the verdict
abbrev pub IsAnswerIn : GroundSet → Result Verdict Refusal → Type 0
IsAnswerIn s (Ok verdict) = IsReadable s × IsVerdictOf (check_rules (set_numbers s)) (set_grid s) (set_products s) verdict
IsAnswerIn s (Err refusal) = IsRefusalIn s refusal

abbrev pub IsAnswer : Inputs → Result Verdict Refusal → Type 0
IsAnswer i answer = IsAnswerIn (set_of i) answer

-- the rules about judged rasters of the inputs
abbrev pub rules_at : Judged → Inputs → Rules
rules_at judged i = rules_in judged (set_of i)

-- What an audit answers: whether four products are correct, with ranks of its own in place of a certificate.
-- Source: correct products are in the words of the literature; that paths without an end come first is our own.

-- ranks as `certify` gives them: the number of steps of each data cell's path, and 4294967295 at voids
abbrev pub certified_ranks : Grid → Products → Cell → ℤ
certified_ranks g ps c = if is_some (g.elevation c) then pos (run_steps g ps c) else pos UNKNOWN

-- the products with these ranks, and the no-data numbers with that of these ranks
abbrev pub certified : Grid → Products → Products
certified g ps = with_ranks ps (certified_ranks g ps)

abbrev pub certified_nodata : NoDataNumbers → NoDataNumbers
certified_nodata nodata = with_rank_nodata nodata (pos UNKNOWN)

-- the first path without an end; else, with certified ranks, the verdict of a check
abbrev pub IsAuditVerdict : Grid → Products → NoDataNumbers → AuditVerdict → Type 0
IsAuditVerdict g ps nodata (NoEnd row col) = IsFirstEndless g ps (record { row = row; col = col })
IsAuditVerdict g ps nodata (Accepted counts) = AllRunsEnd g ps × IsVerdict g (certified g ps) (certified_nodata nodata) (checked.Accepted counts)
IsAuditVerdict g ps nodata (Rejected rule row col) = AllRunsEnd g ps × IsVerdict g (certified g ps) (certified_nodata nodata) (checked.Rejected rule row col)

-- the answer to a set: the first refusal that applies, else the verdict
abbrev pub IsAuditIn : GroundSet → Result AuditVerdict Refusal → Type 0
IsAuditIn s (Ok verdict) = IsReadable s × IsAuditVerdict (set_grid s) (set_products s) (set_numbers s) verdict
IsAuditIn s (Err refusal) = IsRefusalIn s refusal

-- the answer to the inputs
abbrev pub IsAuditAnswer : Inputs → Result AuditVerdict Refusal → Type 0
IsAuditAnswer i answer = IsAuditIn (set_of i) answer

-- the same without ranks: the first path without an end; else the verdict of the rules that ignore them
abbrev pub IsPlainVerdict : Grid → Products → NoDataNumbers → AuditVerdict → Type 0
IsPlainVerdict g ps nodata (NoEnd row col) = IsFirstEndless g ps (record { row = row; col = col })
IsPlainVerdict g ps nodata (Accepted counts) = AllRunsEnd g ps × IsVerdictOf (unranked nodata) g ps (checked.Accepted counts)
IsPlainVerdict g ps nodata (Rejected rule row col) = AllRunsEnd g ps × IsVerdictOf (unranked nodata) g ps (checked.Rejected rule row col)

-- the verdict of the rules, and the first path without an end, if there is one, make this one
abbrev pub IsOfBoth : Verdict → Option Cell → AuditVerdict → Type 0
IsOfBoth verdict (Some c) both = both ≡ NoEnd c.row c.col
IsOfBoth (checked.Accepted counts) None both = both ≡ Accepted counts
IsOfBoth (checked.Rejected rule row col) None both = both ≡ Rejected rule row col

-- it is an acceptance
abbrev pub IsAcceptance : AuditVerdict → Type 0
IsAcceptance (Accepted counts) = Unit {0}
IsAcceptance (Rejected rule row col) = ⊥
IsAcceptance (NoEnd row col) = ⊥

-- the fact holds of the inputs of the call, with con's bytes in place of ranks, of which no fact says anything
abbrev pub ForAudit : {R : Type 0} → (R → Option (List ℕ)) → ℕ → List (TileInput R) → Given → AuditProducts R → (Inputs → Type 0) → Type 0
ForAudit bytes_left side tiles given ps Fact = (i : Inputs) → Encode bytes_left side tiles given (as_five ps) i → Fact i

-- the fact holds where the answer is an acceptance
abbrev pub IfAccepts : Result AuditVerdict Refusal → Type 0 → Type 0
IfAccepts (Ok (Accepted counts)) P = P
IfAccepts (Ok (Rejected rule row col)) P = Unit {0}
IfAccepts (Ok (NoEnd row col)) P = Unit {0}
IfAccepts (Err refusal) P = Unit {0}

-- where the answer is an acceptance, the fact holds of the inputs of the call
abbrev pub AuditMeans : {R : Type 0} → (Inputs → Type 0) → (R → Option (List ℕ)) → ℕ → List (TileInput R) → Given → AuditProducts R → Result AuditVerdict Refusal → Type 0
AuditMeans Fact bytes_left side tiles given ps answer = IfAccepts answer (ForAudit bytes_left side tiles given ps Fact)

-- the products of the set are correct
abbrev pub AreCorrectIn : GroundSet → Type 0
AreCorrectIn s = IsCorrect (set_grid s) (set_products s) (set_numbers s)

-- the products of the inputs are correct
abbrev pub AreCorrect : Inputs → Type 0
AreCorrect i = IsCorrect (input_grid i) (input_products i) (nodata_numbers i)
