-- A check reads what was written into empty files, and so accepts it.
use Rattle.drain_cli.proofs.Names.{IfOk, ◌≡◌, ℕ, ◌<◌, ◌++◌, List, [], length, true, false, arith, refl, sym, ap, ◌∙◌, take, inl, inr, suc, ◌∷◌, map, slice_index_or, subst, nat_le, IsErrOf, take_all, take-append-drop, length-take-le, length-take, ReadFailed, HeaderFault, Fields, Appends, Sink, Whole, sinks_of, raster_in, IsTextOf, texts_of, WritesFiles, AreMade, AreFilesOf, AreGivenSpacings, MadeIsAccepted, MadeOnDemIsAccepted, spacing_of, AreWrittenAndGiven, WhatIsWrittenIsAccepted, WhatIsWrittenOnDemIsAccepted}
use Rattle.std.specs.Prelude.{◌↔◌, Option, Some, None, Result, Ok, Err}
use Rattle.std.proofs.lemmas.Bool.{leb-true, leb-false}
use Rattle.drain_device.specs.Reads.{ReadsUpTo, TakesAtMost}
use Rattle.drain_device.specs.declared.read.BodyFault.{BodyFault}
use Rattle.drain_device.specs.declared.read.BodyFault.TheVariants.{OutOfMemory}
use Rattle.drain_text.specs.First.{IsBefore, IsFirst}
use Rattle.drain_header.specs.declared.fault.HeaderFault.TheVariants.{TooLong, RepeatedKey, BadValue, MissingKey, NotOneBand, BadBits, BadPixelType, RowTooShort}
use Rattle.drain_header.specs.Faults.{fault_order, HasFault, Answers}
use Rattle.drain_cli.specs.FillRuns.{HeaderOutcome, IsAnswerToldAs, IsToldAs, AnswersHeaderTold}
use Rattle.drain_grid.specs.declared.set_product.SetProduct.{SetProduct}
use Rattle.drain_grid.specs.declared.set_product.SetProduct.TheVariants.{Con, Dir, Acc, Bas, Rnk}
use Rattle.drain_grid.specs.SetProduct.{product_of}
use Rattle.drain_grid.specs.declared.product_set.ProductSet.{ProductSet}
use Rattle.drain_mosaic.specs.Tiling.{Tiling}
use Rattle.drain_raster.specs.Bytes.{raster_bytes}
use Rattle.drain_verdict.specs.Texts.{SetTexts}
use Rattle.drain_maker.specs.Mosaics.{IsMosaicOf}
use Rattle.drain_maker.specs.ProductFiles.{header_bytes, made_header, set_bytes}
use Rattle.drain_sets.specs.ProductHeaders.{header_on}
use Rattle.drain_grid.specs.declared.product.Product.TheVariants as product
use Rattle.drain_verdict.specs.Given.{Given}
use Rattle.drain_cli.specs.RoundTrip.{files_given}

-- The first 65,537 bytes of a text have its answer, and what is left after reading them.

-- nothing comes before a text that is too long
none_earlier : (b : HeaderFault) → IsBefore (fault_order b) (1, 0) → ⊥
none_earlier TooLong before = elim before [ inl lower ↦ omega (arith, lower) | inr same ↦ omega (arith, same.1) ]
none_earlier (RepeatedKey n) before = elim before [ inl lower ↦ omega (arith, lower) | inr same ↦ omega (arith, same.1) ]
none_earlier (BadValue n) before = elim before [ inl lower ↦ omega (arith, lower) | inr same ↦ omega (arith, same.1) ]
none_earlier (MissingKey key) before = elim before [ inl lower ↦ omega (arith, lower) | inr same ↦ omega (arith, same.1) ]
none_earlier NotOneBand before = elim before [ inl lower ↦ omega (arith, lower) | inr same ↦ omega (arith, same.1) ]
none_earlier BadBits before = elim before [ inl lower ↦ omega (arith, lower) | inr same ↦ omega (arith, same.1) ]
none_earlier BadPixelType before = elim before [ inl lower ↦ omega (arith, lower) | inr same ↦ omega (arith, same.1) ]
none_earlier RowTooShort before = elim before [ inl lower ↦ omega (arith, lower) | inr same ↦ omega (arith, same.1) ]

too_long : (text : List ℕ) → 65536 < length text → IsFirst fault_order (HasFault text) TooLong
too_long text long = record { holds = long; first = λ b before has. none_earlier b before }

-- of a text that is too long the answer says so
only_too_long : (text : List ℕ) (answer : Result Fields HeaderFault) → 65536 < length text → Answers text answer → answer ≡ Err TooLong
only_too_long text (Ok h) long is = absurd (is.sound TooLong long)
only_too_long text (Err TooLong) long is = refl
only_too_long text (Err (RepeatedKey n)) long is = absurd (is.first TooLong (inl (omega arith)) long)
only_too_long text (Err (BadValue n)) long is = absurd (is.first TooLong (inl (omega arith)) long)
only_too_long text (Err (MissingKey key)) long is = absurd (is.first TooLong (inl (omega arith)) long)
only_too_long text (Err NotOneBand) long is = absurd (is.first TooLong (inl (omega arith)) long)
only_too_long text (Err BadBits) long is = absurd (is.first TooLong (inl (omega arith)) long)
only_too_long text (Err BadPixelType) long is = absurd (is.first TooLong (inl (omega arith)) long)
only_too_long text (Err RowTooShort) long is = absurd (is.first TooLong (inl (omega arith)) long)

first_bytes_answer : (text : List ℕ) (answer : Result Fields HeaderFault) → Answers (take 65537 text) answer → Answers text answer
first_bytes_answer text answer is = elim (nat_le (length text) 65537) as (λ b. nat_le (length text) 65537 ≡ b → Answers text answer) [
  | true ↦ λ short. rw (take_all 65537 text (leb-true (length text) 65537 short)) at is
  | false ↦ λ long. (
      let whole : 65536 < length text = (let p = leb-false (length text) 65537 long in omega (arith, p)) in
      let first : 65536 < length (take 65537 text) = omega (arith, length-take-le 65537 text (omega (arith, whole)), whole) in
      let told = only_too_long (take 65537 text) answer first is in
      rw told (too_long text whole))
] refl

pub answer_told : (old new : Option (List ℕ)) (items body : List ℕ) (answer : Result Fields HeaderFault) → body ≡ items → ReadsUpTo 65537 old new items → Answers body answer → AnswersHeaderTold old (Ok answer)
answer_told None new items body answer same reads is = _
answer_told (Some xs) None items body answer same reads is = absurd reads
answer_told (Some xs) (Some ys) items body answer same reads is = first_bytes_answer xs answer (rw (same ∙ reads.0) at is)

-- a header that is described is of whole heights
pub whole_answer : (text : List ℕ) (answer : Result Fields HeaderFault) → Answers text answer → IfOk answer (λ h. h.kind ≡ Whole)
whole_answer text (Ok h) is = ap (λ (f : Fields). f.kind) is.fields
whole_answer text (Err fault) is = tt

-- what was read is no failure to read
pub read_told : {T U : Type 0} (read : Result T BodyFault) (body : T) (answer : U) (Fails : Type 0) → read ≡ Ok body → (IsErrOf read ReadFailed ↔ Fails) → IsErrOf {T = U} (Ok answer) ReadFailed ↔ Fails
read_told read body answer Fails is exactly = (λ e. cc, λ f. (let p = exactly.1 f in cc))

-- what is said of an answer or an outcome
pub told_header : (answer : Result Fields HeaderFault) (h : Fields) → answer ≡ Ok h → IsAnswerToldAs answer (Ok (Ok h))
told_header answer h is = rw is (inl refl)

pub told_no_memory : (answer : Result Fields HeaderFault) (h : Fields) → answer ≡ Ok h → IsAnswerToldAs answer (Err OutOfMemory)
told_no_memory answer h is = rw is (inr refl)

pub told_fault : (answer : Result Fields HeaderFault) (fault : HeaderFault) → answer ≡ Err fault → IsAnswerToldAs answer (Ok (Err fault))
told_fault answer fault is = rw is refl

pub told_answer : (outcome told : HeaderOutcome) (answer : Result Fields HeaderFault) → outcome ≡ Ok answer → IsAnswerToldAs answer told → IsToldAs outcome told
told_answer outcome told answer is as_told = rw is as_told

pub told_failure : (outcome : HeaderOutcome) (fault : BodyFault) → outcome ≡ Err fault → IsToldAs outcome (Err fault)
told_failure outcome fault is = rw is refl

pub taken : (n : ℕ) (old new : Option (List ℕ)) (body : List ℕ) → ReadsUpTo n old new body → TakesAtMost n old new
taken n None new body reads = ([], _, omega arith)
taken n (Some xs) None body reads = absurd reads
taken n (Some xs) (Some ys) body reads = (
  take n xs,
  sym (take-append-drop n xs) ∙ ap (λ rest. take n xs ++ rest) (sym reads.1),
  omega (arith, length-take n xs),
)

-- what was appended to no bytes is all there is
from-nothing : (new : Option (List ℕ)) (bytes : List ℕ) → Appends (Some []) new bytes → new ≡ Some bytes
from-nothing None bytes appends = absurd appends
from-nothing (Some xs) bytes appends = ap Some appends

-- files that were empty hold what was written
holds-what-was-written : {F : Type 0} (sink : Sink F) (empty written : List F) (texts : List (List ℕ)) →
    ((k : ℕ) (d : F) → k < length empty → sink.bytes_taken (slice_index_or empty k d) ≡ Some []) → WritesFiles sink empty written texts (Ok tt) →
    map sink.bytes_taken written ≡ map Some texts
holds-what-was-written sink [] [] [] none wrote = refl
holds-what-was-written sink [] [] (text ∷ texts) none wrote = absurd wrote
holds-what-was-written sink [] (new ∷ news) texts none wrote = absurd wrote
holds-what-was-written sink (old ∷ olds) [] texts none wrote = absurd wrote
holds-what-was-written sink (old ∷ olds) (new ∷ news) [] none wrote = absurd wrote
holds-what-was-written sink (old ∷ olds) (new ∷ news) (text ∷ texts) none (inr (failed, other)) = let no : ⊥ = cc in absurd no
holds-what-was-written sink (old ∷ olds) (new ∷ news) (text ∷ texts) none (inl (one, rest)) =
    let was : sink.bytes_taken old ≡ Some [] = none 0 old (omega arith) in
    let first : sink.bytes_taken new ≡ Some text = from-nothing (sink.bytes_taken new) text (subst (λ b. Appends b (sink.bytes_taken new) text) was one.written) in
    let more = holds-what-was-written sink olds news texts (λ k d below. none (suc k) d (omega (arith, below))) rest in
    rw (first, more) refl

-- two lists of known texts are the same texts
texts-same : (xs ys : List (List ℕ)) → map Some xs ≡ map Some ys → xs ≡ ys
texts-same [] [] same = refl
texts-same [] (y ∷ ys) same = let no : ⊥ = cc in absurd no
texts-same (x ∷ xs) [] same = let no : ⊥ = cc in absurd no
texts-same (x ∷ xs) (y ∷ ys) same =
    let first : Some x ≡ Some y = cc in
    let one : x ≡ y = cc in
    let rest : map Some xs ≡ map Some ys = cc in
    rw (one, texts-same xs ys rest) refl

-- file by file
headers-same : (con : List ℕ) (h : Fields) (ps : ProductSet) (t : SetTexts) → set_bytes con h ps ≡ files_given t → (p : SetProduct) → t.header p ≡ header_bytes con h p
unfolding set_bytes files_given
headers-same con h ps t same Con = sym (ap (λ l. slice_index_or l 0 []) same)
headers-same con h ps t same Dir = sym (ap (λ l. slice_index_or l 2 []) same)
headers-same con h ps t same Acc = sym (ap (λ l. slice_index_or l 4 []) same)
headers-same con h ps t same Bas = sym (ap (λ l. slice_index_or l 6 []) same)
headers-same con h ps t same Rnk = sym (ap (λ l. slice_index_or l 8 []) same)

rasters-same : (con : List ℕ) (h : Fields) (ps : ProductSet) (t : SetTexts) → set_bytes con h ps ≡ files_given t → (p : SetProduct) → t.raster p ≡ raster_bytes (header_on h (product_of p)) (raster_in ps p)
unfolding set_bytes files_given
rasters-same con h ps t same Con = sym (ap (λ l. slice_index_or l 1 []) same)
rasters-same con h ps t same Dir = sym (ap (λ l. slice_index_or l 3 []) same)
rasters-same con h ps t same Acc = sym (ap (λ l. slice_index_or l 5 []) same)
rasters-same con h ps t same Bas = sym (ap (λ l. slice_index_or l 7 []) same)
rasters-same con h ps t same Rnk = sym (ap (λ l. slice_index_or l 9 []) same)

files-same : {F : Type 0} (sink : Sink F) (h : Fields) (ps : ProductSet) (empty written : List F) (t : SetTexts) → AreWrittenAndGiven sink h ps empty written t → AreFilesOf h t ps
files-same sink h ps empty written t all =
    let con = all.written_are.0 in
    let same = texts-same (set_bytes con h ps) (files_given t) (sym (holds-what-was-written sink empty written (set_bytes con h ps) all.empty_are all.written_are.2) ∙ all.given_are) in
    record { headers_are = are_texts con all.written_are.1 (headers-same con h ps t same); rasters_are = rasters-same con h ps t same }
  where
    are_texts : (con : List ℕ) → IsTextOf (header_on h product.Con) con → ((p : SetProduct) → t.header p ≡ header_bytes con h p) → (p : SetProduct) → IsTextOf (header_on h (product_of p)) (t.header p)
    are_texts con is same Con = subst (IsTextOf (header_on h product.Con)) (sym (same Con)) is
    are_texts con is same Dir = same Dir
    are_texts con is same Acc = same Acc
    are_texts con is same Bas = same Bas
    are_texts con is same Rnk = same Rnk

pub accepted : {R F : Type 0} (bytes_left : R → Option (List ℕ)) (sink : Sink F) →
    MadeIsAccepted → WhatIsWrittenIsAccepted bytes_left sink
accepted bytes_left sink law side tiles given t ps empty written i made tell given_are all answer is =
    let mosaic = made.mosaic i tell in
    let tiling = mosaic.tiling_is in
    law i made.elevation made.listed made.spacings ps tell.corners_are (subst (λ u. IsMosaicOf i u made.elevation) tiling mosaic)
    (ap (λ (g : Given). sinks_of g.sinks) given_are ∙ made.listed_are)
    (subst (λ (g : Given). AreGivenSpacings Whole g.spacing made.elevation.extent made.spacings) (sym given_are) made.spacings_are)
    (subst (λ u. AreMade u made.elevation made.listed (spacing_of made.spacings) ps) tiling made.made)
    (subst (λ (u : Tiling). AreFilesOf (made_header u product.Con) (texts_of i) ps) tiling (files-same sink (made_header t product.Con) ps empty written (texts_of i) all)) answer is

pub accepted_on_dem : {R F : Type 0} (bytes_left : R → Option (List ℕ)) (sink : Sink F) →
    MadeOnDemIsAccepted → WhatIsWrittenOnDemIsAccepted bytes_left sink
accepted_on_dem bytes_left sink law dem given h ps empty written d t made tell given_are all answer is =
    law d t h made.elevation made.listed made.spacings ps (made.dem_is d tell) (ap (λ (g : Given). sinks_of g.sinks) given_are ∙ made.listed_are)
    (subst (λ (g : Given). AreGivenSpacings h.kind g.spacing made.elevation.extent made.spacings) (sym given_are) made.spacings_are) made.made (files-same sink h ps empty written t all) answer is
