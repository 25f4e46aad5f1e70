use Rattle.drain_report.proofs.TextLemmas.{five, on_ok}
use Rattle.drain_report.proofs.head.push_head.Goals as goal

pub returns-clause-written : goal.returns-clause-written
returns-clause-written c = on_ok c.push_to-3.result
    (λ last. five c.args.text.now.items c.push.new.text.items c.push_grid.new.text.items c.push_to.new.text.items c.push_to-2.new.text.items c.push_to-3.new.text.items _ _ _ _ _
    c.in_ok-push.ensures c.in_ok-push_grid.ensures.written c.in_ok-push_to.ensures.written c.in_ok-push_to-2.ensures.written last)
    c.push_to-3.ensures.written

pub returns-clause-in_range : goal.returns-clause-in_range
returns-clause-in_range c = on_ok c.push_to-3.result
    (λ last. record { grid = c.in_ok-push_grid.ensures.in_range; place = c.in_ok-push_to.ensures.in_range; nodata = c.in_ok-push_to-2.ensures.in_range; verdict = last }) c.push_to-3.ensures.in_range
