use Rattle.drain_cli.proofs.Names.{◌≡◌, ◌∙◌, subst, sym, AcceptedMeans, AcceptedOf, RejectedMeans, RejectedOf, IsOutcomeOf, IsOutcomeOn, ForOpened, ForSet, UsesGround, UsesOpened, given_in, Tiles, Dem, TellTiles, tile_ground, tile_devices, TilesTakeAtMost, AreNamesKept}
use Rattle.std.specs.Vec.{with_items}
use Rattle.std.proofs.lemmas.List.{with_items_is}
use Rattle.drain_verdict.specs.Given.{Given}
use Rattle.drain_cli.proofs.runs.judged_outcome.outcome_of.Goals as goal

pub returns-in-Tiles-clause-outcome : goal.returns-in-Tiles-clause-outcome
returns-in-Tiles-clause-outcome g c =
    let src = g.R.ByteSource in
    let sinks = c.as_slice.ensures.value in
    let given = c.given_of-given.ensures in
    let same : c.given_of-given.result ≡ given_in c.args.files.now = cc in
    let old = c.in-Tiles.field-0 in
    subst (λ e. IsOutcomeOn src e (Tiles (record { side = old.side; tiles = with_items old.tiles c.outcome_on.new.inputs })) (given_in c.args.files.now) c.args.files.now.products c.outcome_on.new.products c.outcome_on.result) (sym c.in-Tiles.is)
    (subst (λ xs. IsOutcomeOf (ForOpened src.bytes_left (Tiles old) (given_in c.args.files.now)) (UsesGround tile_devices (TilesTakeAtMost src.bytes_left old.side) AreNamesKept src.bytes_left src.counts old.tiles.items xs) c.args.files.now.products c.outcome_on.new.products c.outcome_on.result)
    (sym (with_items_is old.tiles c.outcome_on.new.inputs (c.outcome_on.auto.inputs ∙ c.as_mut_slice.ensures.len)))
    (subst (λ (given : Given). IsOutcomeOf (ForOpened src.bytes_left (Tiles old) given) (UsesGround tile_devices (TilesTakeAtMost src.bytes_left old.side) AreNamesKept src.bytes_left src.counts old.tiles.items c.outcome_on.new.inputs) c.args.files.now.products c.outcome_on.new.products c.outcome_on.result) same
    (subst (λ xs. IsOutcomeOf (ForSet tile_ground (TellTiles src.bytes_left old.side xs) src.bytes_left c.given_of-given.result) (UsesGround tile_devices (TilesTakeAtMost src.bytes_left old.side) AreNamesKept src.bytes_left src.counts xs c.outcome_on.new.inputs) c.args.files.now.products c.outcome_on.new.products c.outcome_on.result) c.as_mut_slice.ensures.value
    c.outcome_on.ensures.outcome)))

pub returns-in-Tiles-clause-correct : goal.returns-in-Tiles-clause-correct
returns-in-Tiles-clause-correct g c zero =
    let bl = g.R.ByteSource.bytes_left in
    let sinks = c.as_slice.ensures.value in
    let given = c.given_of-given.ensures in
    let same : c.given_of-given.result ≡ given_in c.args.files.now = cc in
    let old = c.in-Tiles.field-0 in
    subst (λ e. AcceptedMeans bl e (given_in c.args.files.now) c.args.files.now.products) (sym c.in-Tiles.is)
    (subst (λ (given : Given). AcceptedOf (ForOpened bl (Tiles old) given) c.args.files.now.products) same
    (subst (λ xs. AcceptedOf (ForSet tile_ground (TellTiles bl old.side xs) bl c.given_of-given.result) c.args.files.now.products) c.as_mut_slice.ensures.value
    (c.outcome_on.ensures.correct zero)))

pub returns-in-Tiles-clause-not_correct : goal.returns-in-Tiles-clause-not_correct
returns-in-Tiles-clause-not_correct g c one =
    let bl = g.R.ByteSource.bytes_left in
    let sinks = c.as_slice.ensures.value in
    let given = c.given_of-given.ensures in
    let same : c.given_of-given.result ≡ given_in c.args.files.now = cc in
    let old = c.in-Tiles.field-0 in
    subst (λ e. RejectedMeans bl e (given_in c.args.files.now) c.args.files.now.products) (sym c.in-Tiles.is)
    (subst (λ (given : Given). RejectedOf (ForOpened bl (Tiles old) given) c.args.files.now.products) same
    (subst (λ xs. RejectedOf (ForSet tile_ground (TellTiles bl old.side xs) bl c.given_of-given.result) c.args.files.now.products) c.as_mut_slice.ensures.value
    (c.outcome_on.ensures.not_correct one)))

pub returns-in-Dem-clause-outcome : goal.returns-in-Dem-clause-outcome
returns-in-Dem-clause-outcome g c =
    let src = g.R.ByteSource in
    let sinks = c.as_slice.ensures.value in
    let given = c.given_of-given.ensures in
    let same : c.given_of-given.result ≡ given_in c.args.files.now = cc in
    subst (λ e. IsOutcomeOn src e (Dem c.outcome_on-in-Dem.new.inputs) (given_in c.args.files.now) c.args.files.now.products c.outcome_on-in-Dem.new.products c.outcome_on-in-Dem.result) (sym c.in-Dem.is)
    (subst (λ (given : Given). IsOutcomeOf (ForOpened src.bytes_left (Dem c.in-Dem.dem) given) (UsesOpened src (Dem c.in-Dem.dem) (Dem c.outcome_on-in-Dem.new.inputs)) c.args.files.now.products c.outcome_on-in-Dem.new.products c.outcome_on-in-Dem.result) same
    c.outcome_on-in-Dem.ensures.outcome)

pub returns-in-Dem-clause-correct : goal.returns-in-Dem-clause-correct
returns-in-Dem-clause-correct g c zero =
    let bl = g.R.ByteSource.bytes_left in
    let sinks = c.as_slice.ensures.value in
    let given = c.given_of-given.ensures in
    let same : c.given_of-given.result ≡ given_in c.args.files.now = cc in
    subst (λ e. AcceptedMeans bl e (given_in c.args.files.now) c.args.files.now.products) (sym c.in-Dem.is)
    (subst (λ (given : Given). AcceptedOf (ForOpened bl (Dem c.in-Dem.dem) given) c.args.files.now.products) same (c.outcome_on-in-Dem.ensures.correct zero))

pub returns-in-Dem-clause-not_correct : goal.returns-in-Dem-clause-not_correct
returns-in-Dem-clause-not_correct g c one =
    let bl = g.R.ByteSource.bytes_left in
    let sinks = c.as_slice.ensures.value in
    let given = c.given_of-given.ensures in
    let same : c.given_of-given.result ≡ given_in c.args.files.now = cc in
    subst (λ e. RejectedMeans bl e (given_in c.args.files.now) c.args.files.now.products) (sym c.in-Dem.is)
    (subst (λ (given : Given). RejectedOf (ForOpened bl (Dem c.in-Dem.dem) given) c.args.files.now.products) same (c.outcome_on-in-Dem.ensures.not_correct one))
