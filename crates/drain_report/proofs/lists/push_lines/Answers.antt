use Rattle.drain_report.proofs.ListLemmas.{list_pushed_at, all_more}
use Rattle.drain_report.proofs.lists.push_lines.Goals as goal

pub loop-item-preserved : goal.loop-item-preserved
loop-item-preserved g c = record {
  written = list_pushed_at g.T.ReportLine.line_of c.args.items.now c.loop-item.item-index c.item-item.result c.args.text.now.items c.loop-item.text.items c.push_to.new.text.items
      c.loop-item-test.true c.item-item.is c.loop-item.invariant.written c.in_ok-push_to.ensures.written;
  in_range = all_more g.T.ReportLine.fits c.args.items.now c.loop-item.item-index c.item-item.result c.loop-item-test.true c.item-item.is c.loop-item.invariant.in_range c.in_ok-push_to.ensures.in_range;
}
