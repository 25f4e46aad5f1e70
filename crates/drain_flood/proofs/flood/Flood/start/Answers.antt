use Rattle.drain_flood.proofs.Names.{IsOpenPlace, OPEN, Contains, List, length, rules, slice_index, subst, ℕ, ◌<◌, ◌≡◌, All}
use Rattle.drain_flood.proofs.GapMarks.{marks_inside}
use Rattle.drain_flood.proofs.Laying.{flood_begins}
use Rattle.drain_flood.proofs.flood.Flood.start.Goals as goal

pub invariant_of-result : goal.invariant_of-result
invariant_of-result t c = record {
  few = search rules;
  con_long = search rules;
  mark_long = search rules;
  places = search rules;
  waiting_places = search rules;
  inside = marks_inside c.requires.marked.0 c.args.shape c.args.mark.items c.requires.marked.1;
}

pub returns-clause-laid : goal.returns-clause-laid
returns-clause-laid t c = λ g marked between.
    (let marks = c.args.mark.items in
    let trail = c.in_ok-trail.trail.items in
    let same : c.as_slice.result.now ≡ marks = c.as_slice.ensures.value in
    flood_begins g c.args.shape
    (record { extent = c.args.shape; con = t.H.Heights.numbers c.args.con; mark = marks; ahead = trail; waiting = t.H.Heights.pairs c.in_ok-waiting.waiting })
    marked between c.requires.counted c.requires.marks_counted
    (subst (λ (xs : List ℕ). (place : ℕ) → place < length xs → slice_index xs place ≡ OPEN → Contains trail place) same c.in_ok-trail.ensures.all)
    (subst (λ (xs : List ℕ). All (IsOpenPlace xs) trail) same c.in_ok-trail.ensures.open) c.in_ok-waiting.ensures)
