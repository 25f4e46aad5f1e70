use Rattle.drain_verdict.proofs.Names.{◌≡◌, ◌+◌, ap, subst, sym, None, Some, ◌∙◌, HeightKind, Extent, ReadFailed, IsListingOf, Listing, GroundSet, as_read, refusal_of}
use Rattle.drain_verdict.proofs.RowCheck.{all_read, came, ground_asked, none_stands, notes_hold, of_call, of_reading_answers, of_reading_bodies, refusal_answers, refused, lists_answer}
use Rattle.drain_verdict.proofs.read_set.read_rows.Goals as goal

pub returns-in-Err-clause-answer : goal.returns-in-Err-clause-answer
returns-in-Err-clause-answer g c = λ hs begun nodata shapes x t means texts lists none.
    let new = c.visit_rows.new in
    rw c.refusal_of.ensures (of_reading_answers (record { terrain = g.T.GroundInput.terrain x; texts = t }) (refusal_of c.in-Err.stop)
    (refused g.T.GroundInput.after g.T.GroundInput.has_read g.R.ByteSource.bytes_left g.R.ByteSource.counts c.reading_laws.ensures.nothing (as_read g.P.ProductInputs.readers g.P.ProductInputs.inputs) (c.args.rows.now, c.args.inputs.now, c.args.products.now) (new.source, new.tiles, new.products) {T = Listing} _
    c.in-Err.stop c.in-Err.ensures.stops).0)

pub returns-in-Err-clause-reads : goal.returns-in-Err-clause-reads
returns-in-Err-clause-reads g c =
    let new = c.visit_rows.new in
    rw c.refusal_of.ensures (refused g.T.GroundInput.after g.T.GroundInput.has_read g.R.ByteSource.bytes_left g.R.ByteSource.counts c.reading_laws.ensures.nothing (as_read g.P.ProductInputs.readers g.P.ProductInputs.inputs) (c.args.rows.now, c.args.inputs.now, c.args.products.now) (new.source, new.tiles, new.products) {T = Listing} _
    c.in-Err.stop c.in-Err.ensures.stops).1

pub returns-in-Err-clause-of_bodies : goal.returns-in-Err-clause-of_bodies
returns-in-Err-clause-of_bodies g c =
    let new = c.visit_rows.new in
    rw c.refusal_of.ensures (of_reading_bodies (refusal_of c.in-Err.stop)
    (refused g.T.GroundInput.after g.T.GroundInput.has_read g.R.ByteSource.bytes_left g.R.ByteSource.counts c.reading_laws.ensures.nothing (as_read g.P.ProductInputs.readers g.P.ProductInputs.inputs) (c.args.rows.now, c.args.inputs.now, c.args.products.now) (new.source, new.tiles, new.products) {T = Listing} _
    c.in-Err.stop c.in-Err.ensures.stops).0)

pub refusal_of_rows-requires : goal.refusal_of_rows-requires
refusal_of_rows-requires g c =
    let view = as_read g.P.ProductInputs.readers g.P.ProductInputs.inputs in
    let new = c.visit_rows.new in
    let come = came g.T.GroundInput.after g.T.GroundInput.has_read g.R.ByteSource.bytes_left g.R.ByteSource.counts c.reading_laws.ensures.nothing view (c.args.rows.now, c.args.inputs.now, c.args.products.now) (new.source, new.tiles, new.products) _ None c.in-Ok.ensures.reads in
    record {
      counted = c.reading_laws.ensures.recounted (c.args.rows.now.elevations, c.args.inputs.now) (new.source.elevations, new.tiles) come.reads.elevations_failed come.reads.elevations ∙ c.requires.counted;
    }

pub returns-in-Some-clause-answer : goal.returns-in-Some-clause-answer
returns-in-Some-clause-answer g c = λ hs begun nodata shapes x t means texts lists none.
    let view = as_read g.P.ProductInputs.readers g.P.ProductInputs.inputs in
    let new = c.visit_rows.new in
    let s : GroundSet = record { terrain = g.T.GroundInput.terrain x; texts = t } in
    let framed = means.1 in
    let start = view (c.args.rows.now, c.args.inputs.now, c.args.products.now) in
    let now = view (new.source, new.tiles, new.products) in
    let of_set = of_call g.T.GroundInput.after (g.T.GroundInput.begun c.args.frame.now) g.R.ByteSource.bytes_left s (g.T.GroundInput.rows_of x) hs start c.shape-shape.result (g.T.GroundInput.extent c.args.frame.now) c.shape-shape.ensures
    (c.meaning_laws.ensures.laid c.args.frame.now x framed).extent_is c.raster_laws.ensures shapes begun (c.meaning_laws.ensures.start c.args.frame.now c.args.inputs.now x c.args.rows.now.elevations means.0 framed begun.elevations)
    texts (c.meaning_laws.ensures.rows c.args.frame.now x framed) none in
    let come = came g.T.GroundInput.after g.T.GroundInput.has_read g.R.ByteSource.bytes_left g.R.ByteSource.counts c.reading_laws.ensures.nothing view (c.args.rows.now, c.args.inputs.now, c.args.products.now) (new.source, new.tiles, new.products) _ None c.in-Ok.ensures.reads in
    let asked = subst (λ (e : Extent). g.T.GroundInput.after new.source.elevations new.tiles (g.T.GroundInput.rows_of x) (e.rows + 1)) c.shape-shape.ensures
    (ground_asked g.T.GroundInput.after g.T.GroundInput.has_read g.R.ByteSource.bytes_left g.R.ByteSource.counts (g.T.GroundInput.begun c.args.frame.now) s (g.T.GroundInput.rows_of x) hs start now c.shape-shape.result of_set come) in
    refusal_answers g.T.GroundInput.after g.T.GroundInput.has_read g.R.ByteSource.bytes_left g.R.ByteSource.counts (g.T.GroundInput.begun c.args.frame.now) s (g.T.GroundInput.rows_of x) hs start now c.shape-shape.result of_set come c.in-Some.refusal (c.in-Some.ensures.refusal x new.tiles framed asked)

pub returns-in-Some-clause-reads : goal.returns-in-Some-clause-reads
returns-in-Some-clause-reads g c =
    let new = c.visit_rows.new in
    all_read g.T.GroundInput.after g.T.GroundInput.has_read g.R.ByteSource.bytes_left g.R.ByteSource.counts c.reading_laws.ensures.nothing (as_read g.P.ProductInputs.readers g.P.ProductInputs.inputs) (c.args.rows.now, c.args.inputs.now, c.args.products.now) (new.source, new.tiles, new.products) _ c.in-Ok.ensures.reads
    (λ is. c.in-Some.ensures.no_read (let same : c.in-Some.refusal ≡ ReadFailed = cc in ap Some same))

pub returns-in-Some-listing_refusal-clause-answer : goal.returns-in-Some-listing_refusal-clause-answer
returns-in-Some-listing_refusal-clause-answer g c = λ hs begun nodata shapes x t means texts lists none.
    let view = as_read g.P.ProductInputs.readers g.P.ProductInputs.inputs in
    let new = c.visit_rows.new in
    let s : GroundSet = record { terrain = g.T.GroundInput.terrain x; texts = t } in
    let framed = means.1 in
    let start = view (c.args.rows.now, c.args.inputs.now, c.args.products.now) in
    let now = view (new.source, new.tiles, new.products) in
    let of_set = of_call g.T.GroundInput.after (g.T.GroundInput.begun c.args.frame.now) g.R.ByteSource.bytes_left s (g.T.GroundInput.rows_of x) hs start c.shape-shape.result (g.T.GroundInput.extent c.args.frame.now) c.shape-shape.ensures
    (c.meaning_laws.ensures.laid c.args.frame.now x framed).extent_is c.raster_laws.ensures shapes begun (c.meaning_laws.ensures.start c.args.frame.now c.args.inputs.now x c.args.rows.now.elevations means.0 framed begun.elevations)
    texts (c.meaning_laws.ensures.rows c.args.frame.now x framed) none in
    let listed = subst (λ (k : HeightKind). IsListingOf k c.args.listing t.given) (sym (c.meaning_laws.ensures.laid c.args.frame.now x framed).kind_is) lists in
    let come = came g.T.GroundInput.after g.T.GroundInput.has_read g.R.ByteSource.bytes_left g.R.ByteSource.counts c.reading_laws.ensures.nothing view (c.args.rows.now, c.args.inputs.now, c.args.products.now) (new.source, new.tiles, new.products) _ None c.in-Ok.ensures.reads in
    let asked = subst (λ (e : Extent). g.T.GroundInput.after new.source.elevations new.tiles (g.T.GroundInput.rows_of x) (e.rows + 1)) c.shape-shape.ensures
    (ground_asked g.T.GroundInput.after g.T.GroundInput.has_read g.R.ByteSource.bytes_left g.R.ByteSource.counts (g.T.GroundInput.begun c.args.frame.now) s (g.T.GroundInput.rows_of x) hs start now c.shape-shape.result of_set come) in
    lists_answer g.T.GroundInput.after g.T.GroundInput.has_read g.R.ByteSource.bytes_left g.R.ByteSource.counts (g.T.GroundInput.begun c.args.frame.now) s (g.T.GroundInput.rows_of x) hs start now c.shape-shape.result of_set come (c.in_default.ensures.refusal x new.tiles framed asked)
    c.found_off_data_is_right.ensures c.args.listing c.in-Ok.voids c.in-Some-listing_refusal.refusal listed c.in-Ok.ensures.voids c.in-Some-listing_refusal.ensures.told

pub returns-in-Some-listing_refusal-clause-reads : goal.returns-in-Some-listing_refusal-clause-reads
returns-in-Some-listing_refusal-clause-reads g c =
    let new = c.visit_rows.new in
    all_read g.T.GroundInput.after g.T.GroundInput.has_read g.R.ByteSource.bytes_left g.R.ByteSource.counts c.reading_laws.ensures.nothing (as_read g.P.ProductInputs.readers g.P.ProductInputs.inputs) (c.args.rows.now, c.args.inputs.now, c.args.products.now) (new.source, new.tiles, new.products) _ c.in-Ok.ensures.reads
    (λ is. c.in-Some-listing_refusal.ensures.no_read (let same : c.in-Some-listing_refusal.refusal ≡ ReadFailed = cc in ap Some same))

pub returns-in-None-clause-answer : goal.returns-in-None-clause-answer
returns-in-None-clause-answer g c = λ hs begun nodata shapes x t means texts lists none.
    let view = as_read g.P.ProductInputs.readers g.P.ProductInputs.inputs in
    let new = c.visit_rows.new in
    let s : GroundSet = record { terrain = g.T.GroundInput.terrain x; texts = t } in
    let framed = means.1 in
    let start = view (c.args.rows.now, c.args.inputs.now, c.args.products.now) in
    let now = view (new.source, new.tiles, new.products) in
    let of_set = of_call g.T.GroundInput.after (g.T.GroundInput.begun c.args.frame.now) g.R.ByteSource.bytes_left s (g.T.GroundInput.rows_of x) hs start c.shape-shape.result (g.T.GroundInput.extent c.args.frame.now) c.shape-shape.ensures
    (c.meaning_laws.ensures.laid c.args.frame.now x framed).extent_is c.raster_laws.ensures shapes begun (c.meaning_laws.ensures.start c.args.frame.now c.args.inputs.now x c.args.rows.now.elevations means.0 framed begun.elevations)
    texts (c.meaning_laws.ensures.rows c.args.frame.now x framed) none in
    let listed = subst (λ (k : HeightKind). IsListingOf k c.args.listing t.given) (sym (c.meaning_laws.ensures.laid c.args.frame.now x framed).kind_is) lists in
    let come = came g.T.GroundInput.after g.T.GroundInput.has_read g.R.ByteSource.bytes_left g.R.ByteSource.counts c.reading_laws.ensures.nothing view (c.args.rows.now, c.args.inputs.now, c.args.products.now) (new.source, new.tiles, new.products) _ None c.in-Ok.ensures.reads in
    let asked = subst (λ (e : Extent). g.T.GroundInput.after new.source.elevations new.tiles (g.T.GroundInput.rows_of x) (e.rows + 1)) c.shape-shape.ensures
    (ground_asked g.T.GroundInput.after g.T.GroundInput.has_read g.R.ByteSource.bytes_left g.R.ByteSource.counts (g.T.GroundInput.begun c.args.frame.now) s (g.T.GroundInput.rows_of x) hs start now c.shape-shape.result of_set come) in
    none_stands g.T.GroundInput.after g.T.GroundInput.has_read g.R.ByteSource.bytes_left g.R.ByteSource.counts (g.T.GroundInput.begun c.args.frame.now) s (g.T.GroundInput.rows_of x) hs start now c.shape-shape.result of_set come (c.in_default.ensures.refusal x new.tiles framed asked)
    c.found_off_data_is_right.ensures c.args.listing c.in-Ok.voids listed c.in-Ok.ensures.voids c.in-None.ensures.told

pub returns-in-None-clause-noted : goal.returns-in-None-clause-noted
returns-in-None-clause-noted g c = λ hs begun nodata shapes x t means texts lists none.
    let view = as_read g.P.ProductInputs.readers g.P.ProductInputs.inputs in
    let new = c.visit_rows.new in
    let s : GroundSet = record { terrain = g.T.GroundInput.terrain x; texts = t } in
    let framed = means.1 in
    let start = view (c.args.rows.now, c.args.inputs.now, c.args.products.now) in
    let now = view (new.source, new.tiles, new.products) in
    let of_set = of_call g.T.GroundInput.after (g.T.GroundInput.begun c.args.frame.now) g.R.ByteSource.bytes_left s (g.T.GroundInput.rows_of x) hs start c.shape-shape.result (g.T.GroundInput.extent c.args.frame.now) c.shape-shape.ensures
    (c.meaning_laws.ensures.laid c.args.frame.now x framed).extent_is c.raster_laws.ensures shapes begun (c.meaning_laws.ensures.start c.args.frame.now c.args.inputs.now x c.args.rows.now.elevations means.0 framed begun.elevations)
    texts (c.meaning_laws.ensures.rows c.args.frame.now x framed) none in
    let listed = subst (λ (k : HeightKind). IsListingOf k c.args.listing t.given) (sym (c.meaning_laws.ensures.laid c.args.frame.now x framed).kind_is) lists in
    let come = came g.T.GroundInput.after g.T.GroundInput.has_read g.R.ByteSource.bytes_left g.R.ByteSource.counts c.reading_laws.ensures.nothing view (c.args.rows.now, c.args.inputs.now, c.args.products.now) (new.source, new.tiles, new.products) _ None c.in-Ok.ensures.reads in
    let asked = subst (λ (e : Extent). g.T.GroundInput.after new.source.elevations new.tiles (g.T.GroundInput.rows_of x) (e.rows + 1)) c.shape-shape.ensures
    (ground_asked g.T.GroundInput.after g.T.GroundInput.has_read g.R.ByteSource.bytes_left g.R.ByteSource.counts (g.T.GroundInput.begun c.args.frame.now) s (g.T.GroundInput.rows_of x) hs start now c.shape-shape.result of_set come) in
    notes_hold g.T.GroundInput.after g.T.GroundInput.has_read g.R.ByteSource.bytes_left g.R.ByteSource.counts (g.T.GroundInput.begun c.args.frame.now) s (g.T.GroundInput.rows_of x) hs start now c.shape-shape.result of_set come (c.in_default.ensures.refusal x new.tiles framed asked)
    g.K.RowVisitor.are_of c.args.rules.now new.notes c.args.listing nodata listed c.in-Ok.ensures.noted

pub returns-in-None-clause-reads : goal.returns-in-None-clause-reads
returns-in-None-clause-reads g c =
    let new = c.visit_rows.new in
    all_read g.T.GroundInput.after g.T.GroundInput.has_read g.R.ByteSource.bytes_left g.R.ByteSource.counts c.reading_laws.ensures.nothing (as_read g.P.ProductInputs.readers g.P.ProductInputs.inputs) (c.args.rows.now, c.args.inputs.now, c.args.products.now) (new.source, new.tiles, new.products) _ c.in-Ok.ensures.reads
    (λ is. cc)
