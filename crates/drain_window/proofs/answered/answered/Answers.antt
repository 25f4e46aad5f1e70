use Rattle.drain_window.proofs.Names.{◌∙◌, true, false, refl, sym, ap, subst, Place, SEAM_DEPTH, window_at, audited, IsReportOf}
use Rattle.drain_window.proofs.WindowVerdicts.{counts_inside}
use Rattle.drain_window.proofs.WindowReports.{fault_in_window, nodata_is, of_window, report_faulty, report_sound, seams_are}
use Rattle.drain_window.proofs.answered.answered.Goals as goal

pub returns-in-Sound-clause-answer : goal.returns-in-Sound-clause-answer
returns-in-Sound-clause-answer c = λ nodata g ps placed some walked listed sinks spaced.
    let judges = c.walk_judges_window.ensures in
    let lists = c.walk_lists_seams.ensures in
    let p = c.args.place.now in
    let of = c.if-not-are_of.ensures refl in
    let four = c.four_numbers.ensures in
    let at = c.of-nodata.ensures ∙ ap audited (nodata_is judges lists nodata c.args.origin p g ps c.args.walk c.args.seams of placed some walked listed) in
    let k = c.counts_of.ensures in
    let found = rw c.in-Sound.is at (of_window judges lists nodata c.args.origin p g ps c.args.walk c.args.seams of placed some walked listed) in
    record {
      nodata_is = at;
      report = subst (λ (q : Place). IsReportOf SEAM_DEPTH (window_at c.args.origin p g ps) (record {
        place = q;
        spacings = c.args.spacings.items;
        nodata = c.of-nodata.result;
        holds = true;
        outlets = c.sorted.result.items;
        seams = c.args.seams.seams.items;
        sinks = c.args.sinks.items;
      })) (sym c.moved-at.ensures)
          (report_sound nodata c.of-nodata.result c.args.origin p g ps c.args.walk.labels.outlets.items c.sorted.result.items c.args.seams.seams.items c.args.sinks.items c.args.spacings.items c.in-Sound.total four at found
          c.sorted.ensures.sorted c.sorted.ensures.permutation (seams_are judges lists nodata c.args.origin p g ps c.args.walk c.args.seams of placed some walked listed) sinks spaced);
      verdict = (
        found.0,
        counts_inside c.args.origin p g ps c.in-Sound.total c.counts_of.result found.2 k.rows k.cols k.data_cells k.raised k.outlets,
      );
    }

pub returns-in-Faulty-clause-answer : goal.returns-in-Faulty-clause-answer
returns-in-Faulty-clause-answer c = λ nodata g ps placed some walked listed sinks spaced.
    let judges = c.walk_judges_window.ensures in
    let lists = c.walk_lists_seams.ensures in
    let p = c.args.place.now in
    let of = c.if-not-are_of.ensures refl in
    let four = c.four_numbers.ensures in
    let at = c.of-nodata.ensures ∙ ap audited (nodata_is judges lists nodata c.args.origin p g ps c.args.walk c.args.seams of placed some walked listed) in
    let found = rw c.in-Faulty.is at (of_window judges lists nodata c.args.origin p g ps c.args.walk c.args.seams of placed some walked listed) in
    record {
      nodata_is = at;
      report = subst (λ (q : Place). IsReportOf SEAM_DEPTH (window_at c.args.origin p g ps) (record {
        place = q;
        spacings = c.args.spacings.items;
        nodata = c.of-nodata.result;
        holds = false;
        outlets = c.new.result.items;
        seams = c.new-in-Faulty.result.items;
        sinks = c.new-in-Faulty-2.result.items;
      })) (sym c.moved-at.ensures)
          (report_faulty nodata c.of-nodata.result c.args.origin p g ps c.args.walk.labels.outlets.items c.in-Faulty.cell c.in-Faulty.rule c.new.result.items
          c.new-in-Faulty.result.items c.new-in-Faulty-2.result.items c.args.spacings.items four at found spaced);
      verdict = fault_in_window nodata c.args.origin p g ps c.args.walk.labels.outlets.items c.in-Faulty.cell c.in-Faulty.rule c.saturating_sub.result
          c.saturating_sub-in-Faulty.result c.saturating_sub.ensures c.saturating_sub-in-Faulty.ensures found;
    }
