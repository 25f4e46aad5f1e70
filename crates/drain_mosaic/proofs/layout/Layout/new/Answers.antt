use Rattle.drain_mosaic.proofs.Names.{◌≡◌, List, w16, to_z, of_z, SFits, rules, refl, subst, sym, to_z-of_z, Corner, Tiling, IsLayout, AreTilingNumbers}
use Rattle.drain_mosaic.specs.declared.layout.LayoutFault.TheVariants.{OutOfMemory}
use Rattle.drain_mosaic.proofs.Agreement.{not_memory, layout_is}
use Rattle.drain_mosaic.proofs.layout.Layout.new.Goals as goal

pub returns-in-Err-clause-first_fault : goal.returns-in-Err-clause-first_fault
returns-in-Err-clause-first_fault c = λ real. c.in-Err.ensures.first_fault c.args.side

pub returns-in-Err-clause-wants_memory : goal.returns-in-Err-clause-wants_memory
returns-in-Err-clause-wants_memory c = λ told.
    let t : Tiling = record { side = c.args.side; corners = c.args.names.now } in
    let is : c.in-Err.fault ≡ OutOfMemory = cc in
    absurd (not_memory t c.in-Err.fault (c.in-Err.ensures.first_fault c.args.side) is)

pub invariant_of-result : goal.invariant_of-result
invariant_of-result c =
    let b = c.in-Ok.bounds in
    let t : Tiling = record { side = c.args.side; corners = c.args.names.now } in
    let fits_west : SFits w16 b.west = search rules in
    let fits_north : SFits w16 b.north = search rules in
    let west = to_z-of_z w16 b.west fits_west in
    let north = to_z-of_z w16 b.north fits_north in
    let is = layout_is t b.down b.across b.west b.north _ _ c.shape_of-shape.result c.requires (c.in-Ok.ensures.sound refl c.args.side) (c.in-Ok.ensures.bounds c.args.side) west north c.shape_of-shape.ensures in
    subst (λ (cs : List Corner). IsLayout (record { side = c.args.side; corners = cs }) × AreTilingNumbers (record { side = c.args.side; corners = cs }) (to_z w16 (of_z w16 b.west)) (to_z w16 (of_z w16 b.north)) c.shape_of-shape.result) (sym c.in-Ok-from_slice.ensures.items) is
