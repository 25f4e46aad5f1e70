use Rattle.drain_report.proofs.Names.{◌∙◌, ◌<◌, ◌^◌, ap, sym, refl, arith, false≢true, codes, end_line, head_of, head_text, list_text, spacings_text, is_accepted, outlet_line, shown_line, sink_line, tile_line, line_feeds}
use Rattle.drain_report.proofs.FaultLemmas.{end_fits, few_feeds, from_head, later, list_fits, same_or_later}
use Rattle.drain_report.proofs.TextLemmas.{contents_with, seven_then, version_first, after_head, after_tiles, after_sinks, after_outlets, behind_tiles_word, read_seven, same_contents, tiles_begin, with_word}
use Rattle.drain_report.proofs.read.read_report.Goals as goal

pub returns-in-Err-clause-back : goal.returns-in-Err-clause-back
returns-in-Err-clause-back c = λ w fit is.
    absurd (c.in-Err.ensures.back (head_of w) (after_head w) fit.head is)

pub returns-in-Err-read_spacings-clause-back : goal.returns-in-Err-read_spacings-clause-back
returns-in-Err-read_spacings-clause-back c = λ w fit is.
    let head = c.in-Ok.ensures.back (head_of w) (after_head w) fit.head is in
    c.in-Err-read_spacings.ensures.back w.report.spacings (behind_tiles_word w) fit.spacings (head.1 ∙ with_word w)

pub returns-in-Err-read_list-clause-back : goal.returns-in-Err-read_list-clause-back
returns-in-Err-read_list-clause-back c = λ w fit is.
    let head = c.in-Ok.ensures.back (head_of w) (after_head w) fit.head is in
    let listed = c.in-Ok-read_spacings.ensures.back w.report.spacings (behind_tiles_word w) fit.spacings (head.1 ∙ with_word w) in
    c.in-Err-read_list.ensures.back w.tiles (after_tiles w) fit.tiles (listed.1 ∙ sym (tiles_begin w))

pub returns-in-Err-read_list-2-clause-back : goal.returns-in-Err-read_list-2-clause-back
returns-in-Err-read_list-2-clause-back c = λ w fit is.
    let head = c.in-Ok.ensures.back (head_of w) (after_head w) fit.head is in
    let listed = c.in-Ok-read_spacings.ensures.back w.report.spacings (behind_tiles_word w) fit.spacings (head.1 ∙ with_word w) in
    let tiles = c.in-Ok-read_list.ensures.back w.tiles (after_tiles w) fit.tiles (listed.1 ∙ sym (tiles_begin w)) in
    c.in-Err-read_list-2.ensures.back w.report.sinks (after_sinks w) fit.sinks tiles.1

pub returns-in-Err-read_list-3-clause-back : goal.returns-in-Err-read_list-3-clause-back
returns-in-Err-read_list-3-clause-back c = λ w fit is.
    let head = c.in-Ok.ensures.back (head_of w) (after_head w) fit.head is in
    let listed = c.in-Ok-read_spacings.ensures.back w.report.spacings (behind_tiles_word w) fit.spacings (head.1 ∙ with_word w) in
    let tiles = c.in-Ok-read_list.ensures.back w.tiles (after_tiles w) fit.tiles (listed.1 ∙ sym (tiles_begin w)) in
    let sinks = c.in-Ok-read_list-2.ensures.back w.report.sinks (after_sinks w) fit.sinks tiles.1 in
    c.in-Err-read_list-3.ensures.back w.report.outlets (after_outlets w) fit.outlets sinks.1

pub returns-in-Err-read_list-4-clause-back : goal.returns-in-Err-read_list-4-clause-back
returns-in-Err-read_list-4-clause-back c = λ w fit is.
    let head = c.in-Ok.ensures.back (head_of w) (after_head w) fit.head is in
    let listed = c.in-Ok-read_spacings.ensures.back w.report.spacings (behind_tiles_word w) fit.spacings (head.1 ∙ with_word w) in
    let tiles = c.in-Ok-read_list.ensures.back w.tiles (after_tiles w) fit.tiles (listed.1 ∙ sym (tiles_begin w)) in
    let sinks = c.in-Ok-read_list-2.ensures.back w.report.sinks (after_sinks w) fit.sinks tiles.1 in
    let outlets = c.in-Ok-read_list-3.ensures.back w.report.outlets (after_outlets w) fit.outlets sinks.1 in
    c.in-Err-read_list-4.ensures.back w.report.seams end_line fit.seams outlets.1

pub returns-in-Err-read_end-clause-back : goal.returns-in-Err-read_end-clause-back
returns-in-Err-read_end-clause-back c = λ w fit is.
    let head = c.in-Ok.ensures.back (head_of w) (after_head w) fit.head is in
    let listed = c.in-Ok-read_spacings.ensures.back w.report.spacings (behind_tiles_word w) fit.spacings (head.1 ∙ with_word w) in
    let tiles = c.in-Ok-read_list.ensures.back w.tiles (after_tiles w) fit.tiles (listed.1 ∙ sym (tiles_begin w)) in
    let sinks = c.in-Ok-read_list-2.ensures.back w.report.sinks (after_sinks w) fit.sinks tiles.1 in
    let outlets = c.in-Ok-read_list-3.ensures.back w.report.outlets (after_outlets w) fit.outlets sinks.1 in
    let seams = c.in-Ok-read_list-4.ensures.back w.report.seams end_line fit.seams outlets.1 in
    absurd (false≢true (c.in-Err-read_end.ensures.back seams.1))

pub returns-clause-sound : goal.returns-clause-sound
returns-clause-sound c =
    read_seven c.args.text.now c.in-Ok.read.1.rest.now c.in-Ok-read_spacings.read.1.rest.now c.in-Ok-read_list.read.1.rest.now c.in-Ok-read_list-2.read.1.rest.now c.in-Ok-read_list-3.read.1.rest.now c.in-Ok-read_list-4.read.1.rest.now
    (head_text c.in-Ok.read.0) (spacings_text c.in-Ok-read_spacings.read.0.items) (list_text (codes "tiles") tile_line c.in-Ok-read_list.read.0.items) (list_text (codes "sinks") sink_line c.in-Ok-read_list-2.read.0.items)
    (list_text (codes "outlets") outlet_line c.in-Ok-read_list-3.read.0.items) (list_text (codes "seams") shown_line c.in-Ok-read_list-4.read.0.items) end_line
    c.in-Ok.ensures.sound c.in-Ok-read_spacings.ensures.sound c.in-Ok-read_list.ensures.sound c.in-Ok-read_list-2.ensures.sound c.in-Ok-read_list-3.ensures.sound c.in-Ok-read_list-4.ensures.sound c.in_default.ensures.sound

pub returns-clause-back : goal.returns-clause-back
returns-clause-back c = λ w fit is.
    let head = c.in-Ok.ensures.back (head_of w) (after_head w) fit.head is in
    let listed = c.in-Ok-read_spacings.ensures.back w.report.spacings (behind_tiles_word w) fit.spacings (head.1 ∙ with_word w) in
    let tiles = c.in-Ok-read_list.ensures.back w.tiles (after_tiles w) fit.tiles (listed.1 ∙ sym (tiles_begin w)) in
    let sinks = c.in-Ok-read_list-2.ensures.back w.report.sinks (after_sinks w) fit.sinks tiles.1 in
    let outlets = c.in-Ok-read_list-3.ensures.back w.report.outlets (after_outlets w) fit.outlets sinks.1 in
    let seams = c.in-Ok-read_list-4.ensures.back w.report.seams end_line fit.seams outlets.1 in
    same_contents w c.in-Ok.read.0 c.accepts.result _ _ _ _ _
    head.0 (c.accepts.ensures ∙ ap (λ h. is_accepted h.verdict) head.0 ∙ sym fit.holds) listed.0 tiles.0 sinks.0 outlets.0 seams.0

pub returns-in-Err-clause-fault : goal.returns-in-Err-clause-fault
returns-in-Err-clause-fault c = c.in-Err.ensures.place

pub returns-in-Err-read_spacings-clause-fault : goal.returns-in-Err-read_spacings-clause-fault
returns-in-Err-read_spacings-clause-fault c =
    let text = c.args.text.now in
    let few : line_feeds c.args.text.now < 2 ^ 63 = omega (arith, few_feeds c.args.text.now) in
    let head = from_head text c.in-Ok.read.1.rest.now c.in-Ok.read.1.number c.in-Ok.ensures.place in
    list_fits text c.in-Ok.read.1.rest.now c.in-Ok.read.1.rest.now c.in-Ok.read.0 c.in-Ok.read.1.number c.in-Err-read_spacings.fault c.in-Ok.ensures.sound head (c.in-Err-read_spacings.ensures.place (line_feeds text) few)

pub returns-in-Err-read_list-clause-fault : goal.returns-in-Err-read_list-clause-fault
returns-in-Err-read_list-clause-fault c =
    let text = c.args.text.now in
    let few : line_feeds c.args.text.now < 2 ^ 63 = omega (arith, few_feeds c.args.text.now) in
    let head = from_head text c.in-Ok.read.1.rest.now c.in-Ok.read.1.number c.in-Ok.ensures.place in
    let listed = same_or_later text c.in-Ok.read.1.rest.now c.in-Ok-read_spacings.read.1.rest.now c.in-Ok.read.1.number c.in-Ok-read_spacings.read.1.number head (c.in-Ok-read_spacings.ensures.place (line_feeds text) few) in
    list_fits text c.in-Ok.read.1.rest.now c.in-Ok-read_spacings.read.1.rest.now c.in-Ok.read.0 c.in-Ok-read_spacings.read.1.number c.in-Err-read_list.fault c.in-Ok.ensures.sound listed (c.in-Err-read_list.ensures.place (line_feeds text) few refl)

pub returns-in-Err-read_list-2-clause-fault : goal.returns-in-Err-read_list-2-clause-fault
returns-in-Err-read_list-2-clause-fault c =
    let text = c.args.text.now in
    let few : line_feeds c.args.text.now < 2 ^ 63 = omega (arith, few_feeds c.args.text.now) in
    let head = from_head text c.in-Ok.read.1.rest.now c.in-Ok.read.1.number c.in-Ok.ensures.place in
    let listed = same_or_later text c.in-Ok.read.1.rest.now c.in-Ok-read_spacings.read.1.rest.now c.in-Ok.read.1.number c.in-Ok-read_spacings.read.1.number head (c.in-Ok-read_spacings.ensures.place (line_feeds text) few) in
    let tiles = later text c.in-Ok-read_spacings.read.1.rest.now c.in-Ok-read_list.read.1.rest.now c.in-Ok-read_spacings.read.1.number c.in-Ok-read_list.read.1.number listed (c.in-Ok-read_list.ensures.place (line_feeds text) few refl) in
    list_fits text c.in-Ok.read.1.rest.now c.in-Ok-read_list.read.1.rest.now c.in-Ok.read.0 c.in-Ok-read_list.read.1.number c.in-Err-read_list-2.fault c.in-Ok.ensures.sound tiles (c.in-Err-read_list-2.ensures.place (line_feeds text) few refl)

pub returns-in-Err-read_list-3-clause-fault : goal.returns-in-Err-read_list-3-clause-fault
returns-in-Err-read_list-3-clause-fault c =
    let text = c.args.text.now in
    let few : line_feeds c.args.text.now < 2 ^ 63 = omega (arith, few_feeds c.args.text.now) in
    let head = from_head text c.in-Ok.read.1.rest.now c.in-Ok.read.1.number c.in-Ok.ensures.place in
    let listed = same_or_later text c.in-Ok.read.1.rest.now c.in-Ok-read_spacings.read.1.rest.now c.in-Ok.read.1.number c.in-Ok-read_spacings.read.1.number head (c.in-Ok-read_spacings.ensures.place (line_feeds text) few) in
    let tiles = later text c.in-Ok-read_spacings.read.1.rest.now c.in-Ok-read_list.read.1.rest.now c.in-Ok-read_spacings.read.1.number c.in-Ok-read_list.read.1.number listed (c.in-Ok-read_list.ensures.place (line_feeds text) few refl) in
    let sinks = later text c.in-Ok-read_list.read.1.rest.now c.in-Ok-read_list-2.read.1.rest.now c.in-Ok-read_list.read.1.number c.in-Ok-read_list-2.read.1.number tiles (c.in-Ok-read_list-2.ensures.place (line_feeds text) few refl) in
    list_fits text c.in-Ok.read.1.rest.now c.in-Ok-read_list-2.read.1.rest.now c.in-Ok.read.0 c.in-Ok-read_list-2.read.1.number c.in-Err-read_list-3.fault c.in-Ok.ensures.sound sinks (c.in-Err-read_list-3.ensures.place (line_feeds text) few refl)

pub returns-in-Err-read_list-4-clause-fault : goal.returns-in-Err-read_list-4-clause-fault
returns-in-Err-read_list-4-clause-fault c =
    let text = c.args.text.now in
    let few : line_feeds c.args.text.now < 2 ^ 63 = omega (arith, few_feeds c.args.text.now) in
    let head = from_head text c.in-Ok.read.1.rest.now c.in-Ok.read.1.number c.in-Ok.ensures.place in
    let listed = same_or_later text c.in-Ok.read.1.rest.now c.in-Ok-read_spacings.read.1.rest.now c.in-Ok.read.1.number c.in-Ok-read_spacings.read.1.number head (c.in-Ok-read_spacings.ensures.place (line_feeds text) few) in
    let tiles = later text c.in-Ok-read_spacings.read.1.rest.now c.in-Ok-read_list.read.1.rest.now c.in-Ok-read_spacings.read.1.number c.in-Ok-read_list.read.1.number listed (c.in-Ok-read_list.ensures.place (line_feeds text) few refl) in
    let sinks = later text c.in-Ok-read_list.read.1.rest.now c.in-Ok-read_list-2.read.1.rest.now c.in-Ok-read_list.read.1.number c.in-Ok-read_list-2.read.1.number tiles (c.in-Ok-read_list-2.ensures.place (line_feeds text) few refl) in
    let outlets = later text c.in-Ok-read_list-2.read.1.rest.now c.in-Ok-read_list-3.read.1.rest.now c.in-Ok-read_list-2.read.1.number c.in-Ok-read_list-3.read.1.number sinks (c.in-Ok-read_list-3.ensures.place (line_feeds text) few refl) in
    list_fits text c.in-Ok.read.1.rest.now c.in-Ok-read_list-3.read.1.rest.now c.in-Ok.read.0 c.in-Ok-read_list-3.read.1.number c.in-Err-read_list-4.fault c.in-Ok.ensures.sound outlets (c.in-Err-read_list-4.ensures.place (line_feeds text) few refl)

pub returns-in-Err-read_end-clause-fault : goal.returns-in-Err-read_end-clause-fault
returns-in-Err-read_end-clause-fault c =
    let text = c.args.text.now in
    let few : line_feeds c.args.text.now < 2 ^ 63 = omega (arith, few_feeds c.args.text.now) in
    let head = from_head text c.in-Ok.read.1.rest.now c.in-Ok.read.1.number c.in-Ok.ensures.place in
    let listed = same_or_later text c.in-Ok.read.1.rest.now c.in-Ok-read_spacings.read.1.rest.now c.in-Ok.read.1.number c.in-Ok-read_spacings.read.1.number head (c.in-Ok-read_spacings.ensures.place (line_feeds text) few) in
    let tiles = later text c.in-Ok-read_spacings.read.1.rest.now c.in-Ok-read_list.read.1.rest.now c.in-Ok-read_spacings.read.1.number c.in-Ok-read_list.read.1.number listed (c.in-Ok-read_list.ensures.place (line_feeds text) few refl) in
    let sinks = later text c.in-Ok-read_list.read.1.rest.now c.in-Ok-read_list-2.read.1.rest.now c.in-Ok-read_list.read.1.number c.in-Ok-read_list-2.read.1.number tiles (c.in-Ok-read_list-2.ensures.place (line_feeds text) few refl) in
    let outlets = later text c.in-Ok-read_list-2.read.1.rest.now c.in-Ok-read_list-3.read.1.rest.now c.in-Ok-read_list-2.read.1.number c.in-Ok-read_list-3.read.1.number sinks (c.in-Ok-read_list-3.ensures.place (line_feeds text) few refl) in
    let seams = later text c.in-Ok-read_list-3.read.1.rest.now c.in-Ok-read_list-4.read.1.rest.now c.in-Ok-read_list-3.read.1.number c.in-Ok-read_list-4.read.1.number outlets (c.in-Ok-read_list-4.ensures.place (line_feeds text) few refl) in
    let w = contents_with c.in-Ok.read.0 c.in-Ok-read_spacings.read.0.items c.in-Ok-read_list.read.0.items c.in-Ok-read_list-2.read.0.items c.in-Ok-read_list-3.read.0.items c.in-Ok-read_list-4.read.0.items in
    end_fits text c.in-Ok-read_list-4.read.1.rest.now c.in-Ok-read_list-4.read.1.number c.in-Err-read_end.fault w (version_first text c.in-Ok.read.1.rest.now c.in-Ok.read.0 c.in-Ok.ensures.sound) seams
    (λ more on. seven_then text c.in-Ok.read.1.rest.now c.in-Ok-read_spacings.read.1.rest.now c.in-Ok-read_list.read.1.rest.now c.in-Ok-read_list-2.read.1.rest.now c.in-Ok-read_list-3.read.1.rest.now c.in-Ok-read_list-4.read.1.rest.now
    (head_text c.in-Ok.read.0) (spacings_text c.in-Ok-read_spacings.read.0.items) (list_text (codes "tiles") tile_line c.in-Ok-read_list.read.0.items) (list_text (codes "sinks") sink_line c.in-Ok-read_list-2.read.0.items)
    (list_text (codes "outlets") outlet_line c.in-Ok-read_list-3.read.0.items) (list_text (codes "seams") shown_line c.in-Ok-read_list-4.read.0.items) end_line more
    c.in-Ok.ensures.sound c.in-Ok-read_spacings.ensures.sound c.in-Ok-read_list.ensures.sound c.in-Ok-read_list-2.ensures.sound c.in-Ok-read_list-3.ensures.sound c.in-Ok-read_list-4.ensures.sound on)
    (c.in-Err-read_end.ensures.fault (line_feeds text))
