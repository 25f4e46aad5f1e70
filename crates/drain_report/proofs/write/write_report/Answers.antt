use Rattle.drain_report.proofs.Names.{◌++◌, ◌∙◌, ap, subst, codes, contents_of, end_line, head_of, HeadFits, head_text, IsListOf, list_text, SpacingsFit, spacings_text, IsOnMap, IsNarrow, IsOutlet, IsShown, outlet_line, shown_line, sink_line, tile_line}
use Rattle.drain_report.proofs.TextLemmas.{head_with, seven_new}
use Rattle.drain_report.proofs.write.write_report.Goals as goal

pub returns-clause-written : goal.returns-clause-written
returns-clause-written c =
    let w = c.args.window.now in
    let view = c.report.view_is in
    let t0 = c.new-text.result.items in
    let t1 = c.push_head.new.text.items in
    let t2 = c.push_spacings.new.text.items in
    let t3 = c.push_list.new.text.items in
    let t4 = c.push_list-2.new.text.items in
    let t5 = c.push_list-3.new.text.items in
    seven_new t0 t1 t2 t3 t4 t5 c.push_list-4.new.text.items c.push.new.text.items
    (head_text (head_of (contents_of w))) (spacings_text w.report.spacings) (list_text (codes "tiles") tile_line w.tiles.items) (list_text (codes "sinks") sink_line w.report.sinks)
    (list_text (codes "outlets") outlet_line w.report.outlets) (list_text (codes "seams") shown_line w.report.seams) end_line
    c.new-text.ensures.items
    (c.in_ok-push_head.ensures.written ∙ ap (λ r. t0 ++ head_text (head_with w.grid w.verdict r)) view)
    (c.in_ok-push_spacings.ensures.written ∙ ap (λ xs. t1 ++ spacings_text xs) (c.deref.ensures.value ∙ ap (λ r. r.spacings) view))
    (c.in_ok-push_list.ensures.written ∙ ap (λ xs. t2 ++ list_text (codes "tiles") tile_line xs) c.deref-2.ensures.value)
    (c.in_ok-push_list-2.ensures.written ∙ ap (λ xs. t3 ++ list_text (codes "sinks") sink_line xs) (c.deref-3.ensures.value ∙ ap (λ r. r.sinks) view))
    (c.in_ok-push_list-3.ensures.written ∙ ap (λ xs. t4 ++ list_text (codes "outlets") outlet_line xs) (c.deref-4.ensures.value ∙ ap (λ r. r.outlets) view))
    (c.in_ok-push_list-4.ensures.written ∙ ap (λ xs. t5 ++ list_text (codes "seams") shown_line xs) (c.deref-5.ensures.value ∙ ap (λ r. r.seams) view))
    c.in_ok-push.ensures

pub returns-clause-in_range : goal.returns-clause-in_range
returns-clause-in_range c = λ holds.
    let w = c.args.window.now in
    let view = c.report.view_is in
    record {
      head = subst (λ r. HeadFits (head_with w.grid w.verdict r)) view c.in_ok-push_head.ensures.in_range;
      holds = holds;
      spacings = subst (λ xs. SpacingsFit xs) (c.deref.ensures.value ∙ ap (λ r. r.spacings) view) c.in_ok-push_spacings.ensures.in_range;
      tiles = subst (λ xs. IsListOf IsOnMap xs) c.deref-2.ensures.value c.in_ok-push_list.ensures.in_range;
      sinks = subst (λ xs. IsListOf IsNarrow xs) (c.deref-3.ensures.value ∙ ap (λ r. r.sinks) view) c.in_ok-push_list-2.ensures.in_range;
      outlets = subst (λ xs. IsListOf IsOutlet xs) (c.deref-4.ensures.value ∙ ap (λ r. r.outlets) view) c.in_ok-push_list-3.ensures.in_range;
      seams = subst (λ xs. IsListOf IsShown xs) (c.deref-5.ensures.value ∙ ap (λ r. r.seams) view) c.in_ok-push_list-4.ensures.in_range;
    }
