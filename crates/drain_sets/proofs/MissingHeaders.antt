-- The text of the header of a missing raster has no fault and describes that header, since each text of a header does.
use Rattle.drain_sets.proofs.Names.{◌≡◌, ℕ, List, Result, Ok, Err, IfOk, sym, subst, ◌∙◌, Describes, DescribesOf, AreWithinBounds, Fields, IsTextOf, kind_of}
use Rattle.drain_header.proofs.TextReads.{text_reads_back}
use Rattle.drain_sets.specs.Missing.{ReadsAsMap, map_header}

pub reads_as_map : {V E : Type 0} (there : List ℕ) (h map : Fields) (r : Result V E) (items : V → List ℕ) → map ≡ map_header h → AreWithinBounds map → DescribesOf (kind_of there) there h →
    IfOk r (λ text. IsTextOf map (items text)) → IfOk r (λ text. ReadsAsMap there (items text))
reads_as_map there h map (Ok text) items is bounds described of = λ other too. (
    let same : h ≡ other = described.fields ∙ sym too.fields in
    let read : DescribesOf map.kind (items text) map = text_reads_back map bounds (items text) of in
    subst (λ f. Describes (items text) (map_header f)) same (subst (λ f. DescribesOf f.kind (items text) f) is read))
reads_as_map there h map (Err refused) items is bounds described of = tt
