use Rattle.drain_report.proofs.Names.{get_or, pos, ap, arith, Some, none_some, same_some}
use Rattle.drain_report.proofs.FactLemmas.{nodata_number_long, same_nodata}
use Rattle.drain_report.proofs.ListLemmas.{four, held, kept}
use Rattle.drain_report.proofs.head.AuditNoDataFact.from_numbers.Goals as goal

pub returns-in_err-con-clause-back : goal.returns-in_err-con-clause-back
returns-in_err-con-clause-back c = λ n fit is. absurd (none_some n.con (c.in_err-con.ensures.back n.con fit.con (ap (λ ns. get_or ns 0 (pos 0)) is)))

pub returns-in_err-dir-clause-back : goal.returns-in_err-dir-clause-back
returns-in_err-dir-clause-back c = λ n fit is. absurd (none_some n.dir (c.in_err-dir.ensures.back n.dir fit.dir (ap (λ ns. get_or ns 1 (pos 0)) is)))

pub returns-in_err-acc-clause-back : goal.returns-in_err-acc-clause-back
returns-in_err-acc-clause-back c = λ n fit is. absurd (none_some n.acc (c.in_err-acc.ensures.back n.acc fit.acc (ap (λ ns. get_or ns 2 (pos 0)) is)))

pub returns-in_err-bas-clause-back : goal.returns-in_err-bas-clause-back
returns-in_err-bas-clause-back c = λ n fit is. absurd (none_some n.bas (c.in_err-bas.ensures.back n.bas fit.bas (ap (λ ns. get_or ns 3 (pos 0)) is)))

pub returns-clause-sound : goal.returns-clause-sound
returns-clause-sound c =
    let ns = c.args.numbers.now in
    let long = c.requires.long in
    four ns _ _ _ _ c.requires.len
    (held ns 0 c.in_ok-con.con long (omega arith) c.in_ok-con.ensures.value)
    (held ns 1 c.in_ok-dir.dir long (omega arith) c.in_ok-dir.ensures.value)
    (held ns 2 c.in_ok-acc.acc long (omega arith) c.in_ok-acc.ensures.value)
    (held ns 3 c.in_ok-bas.bas long (omega arith) c.in_ok-bas.ensures.value)

pub returns-clause-back : goal.returns-clause-back
returns-clause-back c = λ n fit is.
    ap (λ x. Some x) (same_nodata n _ _ _ _
    (kept c.in_ok-con.con n.con (nodata_number_long n.con fit.con) (same_some c.in_ok-con.con n.con (c.in_ok-con.ensures.back n.con fit.con (ap (λ ns. get_or ns 0 (pos 0)) is))))
    (kept c.in_ok-dir.dir n.dir (nodata_number_long n.dir fit.dir) (same_some c.in_ok-dir.dir n.dir (c.in_ok-dir.ensures.back n.dir fit.dir (ap (λ ns. get_or ns 1 (pos 0)) is))))
    (kept c.in_ok-acc.acc n.acc (nodata_number_long n.acc fit.acc) (same_some c.in_ok-acc.acc n.acc (c.in_ok-acc.ensures.back n.acc fit.acc (ap (λ ns. get_or ns 2 (pos 0)) is))))
    (kept c.in_ok-bas.bas n.bas (nodata_number_long n.bas fit.bas) (same_some c.in_ok-bas.bas n.bas (c.in_ok-bas.ensures.back n.bas fit.bas (ap (λ ns. get_or ns 3 (pos 0)) is))))
    fit.spl fit.rnk)
