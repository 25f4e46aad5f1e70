use Rattle.drain_hgt.proofs.Names.{arith, refl, sym, ap, ◌∙◌, subst, false≢true, to_ascii_lowercase, MeansName}
use Rattle.std.specs.Prelude.{map}
use Rattle.drain_hgt.proofs.Spelling.{places}
use Rattle.drain_hgt.proofs.Reading.{meaning, read_as, spelled_again}
use Rattle.drain_hgt.proofs.name.TileName.parse.Goals as goal

pub returns-then-bytes-ne-NAME_LENGTH : goal.returns-then-bytes-ne-NAME_LENGTH
returns-then-bytes-ne-NAME_LENGTH c = λ form.
    let long = (places c.args.bytes.now form.south form.lat form.west form.lon form.text).long in
    absurd (omega arith)

pub returns-then-not-eq_ignore_ascii_case : goal.returns-then-not-eq_ignore_ascii_case
returns-then-not-eq_ignore_ascii_case c = λ form.
    let read = read_as c.args.bytes.now c.eq_ignore_ascii_case-south.result c.eq_ignore_ascii_case-west.result c.worth.result c.worth-2.result c.worth-3.result c.worth-4.result c.worth-5.result
    c.eq_ignore_ascii_case-south.ensures c.worth.ensures.digit c.worth-2.ensures.digit c.eq_ignore_ascii_case-west.ensures c.worth-3.ensures.digit c.worth-4.ensures.digit c.worth-5.ensures.digit in
    let again = spelled_again c.args.bytes.now _ _ _ _ read form in
    let text = c.as_bytes.ensures.value ∙ c.deref.ensures.0 ∙ c.spelled.ensures in
    let same = c.if-not-eq_ignore_ascii_case.ensures.test.1 (again ∙ ap (map to_ascii_lowercase) (sym text)) in
    false≢true same

pub returns : goal.returns
returns c =
    let read = read_as c.args.bytes.now c.eq_ignore_ascii_case-south.result c.eq_ignore_ascii_case-west.result c.worth.result c.worth-2.result c.worth-3.result c.worth-4.result c.worth-5.result
    c.eq_ignore_ascii_case-south.ensures c.worth.ensures.digit c.worth-2.ensures.digit c.eq_ignore_ascii_case-west.ensures c.worth-3.ensures.digit c.worth-4.ensures.digit c.worth-5.ensures.digit in
    let text = c.as_bytes.ensures.value ∙ c.deref.ensures.0 ∙ c.spelled.ensures in
    let same = c.if-not-eq_ignore_ascii_case.ensures.test.0 refl ∙ ap (map to_ascii_lowercase) text in
    subst (MeansName c.args.bytes.now) (sym c.ok_or.ensures.value) (meaning c.args.bytes.now _ _ _ _ c.at.result read same c.at.ensures)
