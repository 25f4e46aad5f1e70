use Rattle.std.proofs.Common.{◌∷◌, [], inl, inr, refl, length, ap, arith, rules, length-append}
use Rattle.drain_report.proofs.ListLemmas.{all_to_come, coming, come, ended, list_sound}
use Rattle.drain_report.proofs.FaultLemmas.{from_later}
use Rattle.drain_report.proofs.lists.read_lines.Goals as goal

pub loop-init : goal.loop-init
loop-init g c = record {
  len = search rules;
  sound = search rules;
  back = λ xs rest long are is. rw c.in-Ok.ensures.items (all_to_come g.T.ReportLine.line_of g.T.ReportLine.fits xs c.args.first.rest.now rest are is);
  place = λ feeds few at. (omega arith, at);
}

pub returns-in-Err-clause-back : goal.returns-in-Err-clause-back
returns-in-Err-clause-back g c = λ xs rest long are is.
    let step = coming g.T.ReportLine.line_of g.T.ReportLine.fits xs c.loop.items.items c.loop.lines.rest.now rest (c.loop.invariant.back xs rest long are is) (omega arith) in
    absurd (c.in-Err.ensures.back step.x step.then step.is_one step.is)

pub loop-preserved : goal.loop-preserved
loop-preserved g c =
    let line_of = g.T.ReportLine.line_of in
    let fits = g.T.ReportLine.fits in
    let done = c.loop.items.items in
    let x = c.in-Ok-read_from.read.0 in
    let pushed = c.in-Ok-push.ensures.items in
    record {
      len = omega (arith, ap length pushed, length-append done (x ∷ []));
      sound = rw pushed (list_sound line_of c.args.first.rest.now c.loop.lines.rest.now c.in-Ok-read_from.read.1.rest.now done x c.loop.invariant.sound c.in-Ok-read_from.ensures.sound);
      back = λ xs rest long are is.
          let step = coming line_of fits xs done c.loop.lines.rest.now rest (c.loop.invariant.back xs rest long are is) (omega arith) in
          let found = c.in-Ok-read_from.ensures.back step.x step.then step.is_one step.is in
          rw pushed (come line_of fits xs done c.in-Ok-read_from.read.1.rest.now rest c.loop.lines.rest.now x step found.0 found.1);
      place = λ feeds few at.
          let so_far = c.loop.invariant.place feeds few at in
          let next = c.in-Ok-read_from.ensures.place feeds few so_far.1 in
          (omega (arith, so_far.0, next.0), next.1);
    }

pub returns-clause-back : goal.returns-clause-back
returns-clause-back g c = λ xs rest long are is.
    ended g.T.ReportLine.line_of g.T.ReportLine.fits xs c.loop.items.items c.loop.lines.rest.now rest (c.loop.invariant.back xs rest long are is) (omega arith)

pub returns-in-Err-clause-place : goal.returns-in-Err-clause-place
returns-in-Err-clause-place g c = λ feeds few at.
    let so_far = c.loop.invariant.place feeds few at in
    inl (from_later feeds c.args.first.number c.loop.lines.number c.in-Err.fault so_far.0 (c.in-Err.ensures.place feeds few so_far.1))

pub returns-in_default-clause-place : goal.returns-in_default-clause-place
returns-in_default-clause-place g c = λ feeds few at. inr refl
