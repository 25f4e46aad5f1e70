use Rattle.drain_window.proofs.Names.{◌≡◌, ◌<◌, ◌∙◌, ℕ, List, sym, ap, subst, arith, rules, err_from_is_err_and, Extent, IsExtent, is_listed, sinks_of, no_memory_left, spacing_of, GroundSet, set_grid, set_numbers, set_products, as_five, lines_in, set_devices, IsPlaceIn}
use Rattle.drain_grid.specs.declared.height_kind.HeightKind.{HeightKind}
use Rattle.drain_grid.specs.declared.sink_line.SinkLine.{SinkLine}
use Rattle.drain_verdict.specs.Given.{Given, row_spacing}
use Rattle.drain_verdict.specs.Listings.{IsListingOf}
use Rattle.drain_window.proofs.RowLists.{as_spaced}
use Rattle.drain_window.proofs.SinkLists.{lists_sinks}
use Rattle.drain_window.proofs.judge_ground.judge_placed.Goals as goal

pub read_set-requires-clause-unnoted : goal.read_set-requires-clause-unnoted
read_set-requires-clause-unnoted g c = λ rules grid ps. (
  c.new.ensures.right rules grid ps,
  record { rows_are = c.begin.ensures.rows; right = c.begin.ensures.outcome rules grid ps },
)

pub returns-in_err-listing-clause-answer : goal.returns-in_err-listing-clause-answer
returns-in_err-listing-clause-answer g c =
    let told = err_from_is_err_and c.from_residual.result c.from_residual.ensures.1 in
    rw (told.1, told.2) (λ x t means tell. c.in_err-listing.ensures.answer x t means tell)

pub returns-in_err-listing-clause-uses : goal.returns-in_err-listing-clause-uses
returns-in_err-listing-clause-uses g c =
    let told = err_from_is_err_and c.from_residual.result c.from_residual.ensures.1 in
    rw (told.1, told.2) c.in_err-listing.ensures.uses

pub returns-in-Some-clause-answer : goal.returns-in-Some-clause-answer
returns-in-Some-clause-answer g c = λ x t means tell.
    let s : GroundSet = record { terrain = g.T.GroundInput.terrain x; texts = t } in
    let framed = c.meaning_laws.ensures.framed c.args.frame.now c.args.inputs.now x c.requires.fit means in
    let laid = c.meaning_laws.ensures.laid c.args.frame.now x framed in
    let extent : c.shape-shape.result ≡ (set_grid s).extent = c.shape-shape.ensures ∙ sym laid.extent_is in
    let fits : IsExtent (set_grid s).extent = subst IsExtent extent (search rules) in
    let some : 0 < (set_grid s).extent.rows = omega (arith, fits.some_row) in
    let placed = subst (λ (e : Extent). IsPlaceIn e c.args.place.now) (sym laid.extent_is) c.requires.placed in
    let noted = c.in_ok-listing.ensures.noted x t means tell in
    let listed = subst (λ (k : HeightKind). IsListingOf k c.in_ok-listing.listing c.args.given.now) (sym laid.kind_is) c.in_ok-listing.ensures.listed in
    let sinks = ap (λ (given : Given). is_listed (lines_in (sinks_of given.sinks))) tell.given_is ∙ ap (λ (lines : List SinkLine). is_listed lines) (sym listed.sinks) in
    let inside = lists_sinks c.args.origin c.args.place.now (set_grid s) (set_products s) c.in_ok-listing.listing.sinks.sinks c.in-Ok.sinks.items sinks c.in-Ok.ensures in
    let same : (row : ℕ) → spacing_of c.in_ok-listing.listing.spacing.spacings row ≡ (set_grid s).spacing row = λ row. listed.spacing.spacing row ∙ ap (λ (given : Given). row_spacing s.terrain.kind given.spacing row) (sym tell.given_is) in
    let spaced = as_spaced (spacing_of c.in_ok-listing.listing.spacing.spacings) (set_grid s).spacing c.args.place.now c.in-Ok-judged_spacings.spacings.items same c.in-Ok-judged_spacings.ensures in (
      c.in_ok-listing.ensures.answer x t means tell,
      c.in-Some.ensures.answer (set_numbers s) (set_grid s) (set_products s) placed some (record { rows_are = noted.1.rows_are; right = noted.1.right }) noted.0 inside spaced,
    )

pub returns-in-Some-clause-uses : goal.returns-in-Some-clause-uses
returns-in-Some-clause-uses g c = c.in_ok-listing.ensures.uses

pub returns-in_default-clause-uses : goal.returns-in_default-clause-uses
returns-in_default-clause-uses g c =
    no_memory_left as_five (λ xs ps. set_devices g.T.GroundInput.devices xs (as_five ps)) (g.T.GroundInput.within (g.T.GroundInput.key_of c.args.frame.now)) g.T.GroundInput.kept g.R.ByteSource.bytes_left g.R.ByteSource.counts
    (c.args.inputs.now, c.args.products.now) (c.read_set.new.inputs, c.read_set.new.products) c.in_ok-listing.ensures.uses

pub returns-in_default-judged_spacings-clause-uses : goal.returns-in_default-judged_spacings-clause-uses
returns-in_default-judged_spacings-clause-uses g c =
    no_memory_left as_five (λ xs ps. set_devices g.T.GroundInput.devices xs (as_five ps)) (g.T.GroundInput.within (g.T.GroundInput.key_of c.args.frame.now)) g.T.GroundInput.kept g.R.ByteSource.bytes_left g.R.ByteSource.counts
    (c.args.inputs.now, c.args.products.now) (c.read_set.new.inputs, c.read_set.new.products) c.in_ok-listing.ensures.uses
