-- What is read of a window's report is the report on that window.
use Rattle.drain_cli.proofs.Names.{◌≡◌, ◌<◌, ◌++◌, List, ℕ, length, refl, sym, ap, ◌∙◌, arith, subst, Consumes, IsAtEnd, append-nil, status_after, status_code, Status, Failed, ContentsFit, contents_of, report_text, Contents, WindowReport, IsReadable, IsVerdictInside, UnionVerdict, Accepted, Rejected, ReadIsJudged}
use Rattle.std.proofs.Common.{Option, None, Some, Result, Ok, Err}
use Rattle.drain_device.specs.declared.patience.GaveUp.{GaveUp}
use Rattle.drain_sets.specs.declared.set_files.SetFault.{SetFault}
use Rattle.drain_union.specs.Reports.{Agree, audited, Report, IsReportOf}
use Rattle.drain_cli.specs.WindowRuns.{text_of}
use Rattle.drain_grid.specs.declared.cell.Cell.{Cell}
use Rattle.drain_grid.specs.Grid.{Grid, Products}
use Rattle.drain_grid.specs.Values.{NoDataNumbers}
use Rattle.drain_window.specs.WindowAnswers.{IsJudgedVerdict}
use Rattle.drain_union.specs.Windows.{window_at}
use Rattle.drain_union.specs.Laws.{FourNumbers}
use Rattle.drain_union.specs.declared.place.Place.{Place}
use Rattle.drain_union.specs.declared.place.TheConstants.{SEAM_DEPTH}

-- The text of a report.

pub text_is : (w : WindowReport) → text_of w ≡ report_text (contents_of w)
unfolding text_of
text_is w = refl

-- it isn't empty
pub some_text : (w : WindowReport) → 0 < length (text_of w)
unfolding text_of
some_text w = omega arith

-- what was written is read again
pub readable : (w : WindowReport) (done : Result (Unit {0}) SetFault) → (Agree w.verdict w.report → ContentsFit (contents_of w)) → IsReadable w done
readable w (Ok done) fits = fits
readable w (Err fault) fits = tt

-- all bytes of a source that were known are the text
pub all_read : (old new : Option (List ℕ)) (bytes text : List ℕ) → old ≡ Some bytes → Consumes old new text → IsAtEnd new → text ≡ bytes
all_read None new bytes text is reads end = absurd (let no : ⊥ = cc in no)
all_read (Some xs) None bytes text is reads end = absurd reads
all_read (Some xs) (Some ys) bytes text is reads end =
    let known : xs ≡ bytes = cc in
    sym (append-nil text) ∙ ap (λ rest. text ++ rest) (sym end) ∙ sym reads ∙ known

-- the number of a failure is 3, whether its line was printed or not
pub failed_code : (done : Result (Unit {0}) GaveUp) (status : Status) (code : ℕ) → status ≡ Failed → code ≡ status_code (status_after done status) → code ≡ 3
failed_code (Ok all) status code failed is = is ∙ ap status_code failed
failed_code (Err gave_up) status code failed is = is

-- a verdict with all no-data numbers is one with those of an audit
inside : FourNumbers → (n : NoDataNumbers) (origin : Cell) (p : Place) (g : Grid) (ps : Products) (v : UnionVerdict) → IsJudgedVerdict n origin p g ps v →
    IsVerdictInside (audited n) (window_at origin p g ps) v
inside four n origin p g ps (Accepted counts) is = ((four n (window_at origin p g ps)).0.0 is.0, is.1)
inside four n origin p g ps (Rejected fault) is = (four n (window_at origin p g ps)).1 fault.cell fault.rule is

pub read_is_judged : FourNumbers → ReadIsJudged
read_is_judged four n origin p g ps written read is same =
    let w = window_at origin p g ps in
    let report : read.report ≡ written.report = ap (λ (w : Contents). w.report) same in
    let verdict : read.verdict ≡ written.verdict = ap (λ (w : Contents). w.verdict) same in
    let of_written : IsVerdictInside written.report.nodata w written.verdict =
    subst (λ (m : NoDataNumbers). IsVerdictInside m w written.verdict) (sym is.nodata_is) (inside four n origin p g ps written.verdict is.verdict) in
    record {
      report = subst (λ (r : Report). IsReportOf SEAM_DEPTH w r) (sym report) is.report;
      verdict =
          subst (λ (r : Report). IsVerdictInside r.nodata w read.verdict) (sym report)
          (subst (λ (v : UnionVerdict). IsVerdictInside written.report.nodata w v) (sym verdict) of_written);
    }
