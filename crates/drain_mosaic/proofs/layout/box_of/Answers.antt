use Rattle.drain_mosaic.proofs.Names.{arith, inl, inr, Tiling}
use Rattle.drain_mosaic.proofs.Agreement.{AreNamedOnce, is_some, too_large, sound}
use Rattle.drain_mosaic.proofs.layout.box_of.Goals.{then-bounds-gt-MAX_BOX-via-then-bounds-gt-MAX_BOX, then-bounds-gt-MAX_BOX-via-else-bounds-gt-MAX_BOX+then-bounds-gt-MAX_BOX-2}
use Rattle.drain_mosaic.proofs.layout.box_of.Goals as goal

pub returns-then-bounds-gt-MAX_BOX-clause-first_fault : goal.returns-then-bounds-gt-MAX_BOX-clause-first_fault
returns-then-bounds-gt-MAX_BOX-clause-first_fault c = λ side.
    let t : Tiling = record { side = side; corners = c.args.names.now } in
    let named : AreNamedOnce t = record { some = is_some c.args.names.now _ c.if-is_empty.false c.is_empty.ensures; once = c.in_default.ensures } in
    let bounds = c.bounds_of-bounds.ensures side in
    too_large t named (elim c.then-bounds-gt-MAX_BOX.branch [
      | then-bounds-gt-MAX_BOX-via-then-bounds-gt-MAX_BOX w ↦ inl (omega (arith, bounds.down_is, w.if-bounds-gt-MAX_BOX.true))
      | then-bounds-gt-MAX_BOX-via-else-bounds-gt-MAX_BOX+then-bounds-gt-MAX_BOX-2 w ↦ inr (omega (arith, bounds.across_is, w.if-bounds-gt-MAX_BOX-2.true))
    ])

pub returns-clause-sound : goal.returns-clause-sound
returns-clause-sound c = λ done side.
    let b = c.bounds_of-bounds.result in
    let t : Tiling = record { side = side; corners = c.args.names.now } in
    let named : AreNamedOnce t = record { some = is_some c.args.names.now _ c.if-is_empty.false c.is_empty.ensures; once = c.in_default.ensures } in
    let bounds = c.bounds_of-bounds.ensures side in
    sound t b.down b.across named bounds.down_is bounds.across_is c.if-bounds-gt-MAX_BOX.false c.if-bounds-gt-MAX_BOX-2.false
