use Rattle.drain_verdict.proofs.Names.{subst, Listing, IsListingOf}
use Rattle.drain_verdict.proofs.listings.listing_of.Goals as goal

pub returns : goal.returns
returns c =
    let listing : Listing = record { sinks = c.in_ok-sinks.sinks; spacing = c.in_ok-spacing.spacing } in
    subst (IsListingOf c.args.kind listing) c.given.view_is (record { sinks = c.in_ok-sinks.ensures.sinks; bad = c.in_ok-sinks.ensures.bad; spacing = c.in_ok-spacing.ensures })
