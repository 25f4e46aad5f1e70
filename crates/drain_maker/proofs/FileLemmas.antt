-- From the writes of single files to those of a set.
use Rattle.drain_maker.proofs.Names.{◌≡◌, ◌<◌, ℕ, ℤ, List, true, false, map, length, arith, ◌↔◌, zero, suc, ◌+◌, ◌≤◌, inl, inr, [], ◌∷◌, ◌++◌, slice_index_or, Option, Some, Result, Ok, Err, IsErrOf, refl, sym, ap, subst, ◌∙◌, append_assoc, append-nil, Cell, Pixels, raster_in, ProductSet, HeightKind, Whole, Single, CanSpellAll, IsFirstOutOfRange, raster_bytes, AreMadeSpelled, CanBeWritten, Sink, WriteFails, get_or-map, SetProduct, Fields, IsFloatLine, IsTextOf, IsTextOfKind, text_of, shape_lines, pixel_lines, place_lines, line, Tiling, extent_of, header_extent, Derived, AreCounts, CanSpellAllIn, DerivedFit, FitHeaders, IsDerived, SetFits, WritesSet, derived_raster, file_bytes, made_header, header_on, WritesFile, WritesFiles, any_text-some, no_memory}
use Rattle.std.proofs.Common.{length-append}
use Rattle.drain_grid.specs.declared.set_product.SetProduct.TheVariants.{Con, Dir, Acc, Bas, Rnk}
use Rattle.std.specs.Prelude.{slice_set}
use Rattle.drain_device.specs.Counts.{HandsOver}
use Rattle.drain_grid.specs.declared.product.Product.TheVariants as product
use Rattle.drain_floats.specs.Words.{IsFloatWord}
use Rattle.drain_header.specs.declared.key.Key.TheVariants.{Nodata}
use Rattle.drain_raster.specs.declared.fault.WriteFault.{WriteFault}
use Rattle.drain_sets.specs.declared.set_files.SetFault.{SetFault}
use Rattle.drain_sets.specs.declared.set_files.SetFault.TheVariants.{WriteFailed, OutOfMemory}
use Rattle.drain_sets.specs.declared.set_files.SetFile.{SetFile}
use Rattle.drain_sets.specs.declared.set_files.TheConstants.{SET_FILES, DERIVED_COUNT, DERIVED_FILES}
use Rattle.drain_maker.specs.ProductFiles.{derived_bytes, set_bytes}
use Rattle.drain_maker.proofs.TileLists.{get-seam, set-seam}
use Rattle.drain_raster.specs.declared.fault.WriteFault.TheVariants as write

-- what can be encoded of each raster of a product set can be of all
pub each_spelled : (ps : ProductSet) → CanSpellAllIn true 16 ps.con → CanSpellAllIn false 8 ps.dir → CanSpellAllIn false 32 ps.acc →
    CanSpellAllIn false 32 ps.bas → CanSpellAllIn false 32 ps.rnk → AreMadeSpelled ps
each_spelled ps con dir acc bas rnk Con = con
each_spelled ps con dir acc bas rnk Dir = dir
each_spelled ps con dir acc bas rnk Acc = acc
each_spelled ps con dir acc bas rnk Bas = bas
each_spelled ps con dir acc bas rnk Rnk = rnk

-- a no-data number with a word has a line
pub some_line : (o : Option ℤ) (n m : ℤ) (word : List ℕ) → o ≡ Some n → m ≡ n → IsFloatWord m word → (end : List ℕ) × IsFloatLine o end
some_line o n m word is same read =
    subst (λ (k : Option ℤ). (end : List ℕ) × IsFloatLine k end) (sym is) (line Nodata word, (word, subst (λ z. IsFloatWord z word) same read, refl))

-- and there is a text, where a no-data number of floats has a line
by_kind : (kind : HeightKind) (h : Fields) → (kind ≡ Single → (end : List ℕ) × IsFloatLine h.nodata end) → (text : List ℕ) × IsTextOfKind kind h text
by_kind Whole h lined = (text_of h, refl)
by_kind Single h lined = let line = lined refl in (shape_lines h ++ pixel_lines h ++ place_lines h.place ++ line.0, (line.0, line.1, refl))

pub some_text : (h : Fields) → (h.kind ≡ Single → (end : List ℕ) × IsFloatLine h.nodata end) → (text : List ℕ) × IsTextOf h text
some_text h lined = by_kind h.kind h lined

-- after n files: those before took their bytes, and the rest is untouched
pub record WritesSoFar {F : Type 0} (sink : Sink F) (start now : List F) (texts : List (List ℕ)) (k : ℕ) : Type 0 where
  pub olds : List F
  pub news : List F
  pub rest : List F
  pub done : List (List ℕ)
  pub more : List (List ℕ)
  pub start_is : start ≡ olds ++ rest
  pub now_is : now ≡ news ++ rest
  pub texts_are : texts ≡ done ++ more
  pub place : k ≡ length news
  pub texts_place : k ≡ length done
  pub wrote : WritesFiles sink olds news done (Ok tt)

pub so_far-none : {F : Type 0} (sink : Sink F) (files : List F) (texts : List (List ℕ)) →
    WritesSoFar sink files files texts 0
so_far-none sink files texts = record {
  olds = [];
  news = [];
  rest = files;
  done = [];
  more = texts;
  start_is = refl;
  now_is = refl;
  texts_are = refl;
  place = refl;
  texts_place = refl;
  wrote = refl;
}

-- files that took all their bytes, and then others
wrote-then : {F : Type 0} (sink : Sink F) (olds news us vs : List F) (texts more : List (List ℕ)) (r : Result (Unit {0}) SetFault) →
    WritesFiles sink olds news texts (Ok tt) → WritesFiles sink us vs more r →
    WritesFiles sink (olds ++ us) (news ++ vs) (texts ++ more) r
wrote-then sink [] [] us vs [] more r first then = then
wrote-then sink (o ∷ olds) (n ∷ news) us vs (t ∷ texts) more r (inl (one, first)) then =
    inl (one, wrote-then sink olds news us vs texts more r first then)
wrote-then sink (o ∷ olds) (n ∷ news) us vs (t ∷ texts) more r (inr (failed, other)) then = let no : ⊥ = cc in absurd no
wrote-then sink [] (n ∷ news) us vs texts more r first then = absurd first
wrote-then sink (o ∷ olds) [] us vs texts more r first then = absurd first
wrote-then sink [] [] us vs (t ∷ texts) more r first then = absurd first
wrote-then sink (o ∷ olds) (n ∷ news) us vs [] more r first then = absurd first

-- the k-th of a list after k others
seam : {A : Type 0} (now news rest : List A) (k : ℕ) (d : A) → now ≡ news ++ rest → k ≡ length news → k < length now →
    (more : List A) × (rest ≡ slice_index_or now k d ∷ more) × ((v : A) → slice_set now k v ≡ news ++ v ∷ more)
seam now news [] k d is place below =
    let all : length now ≡ length news = ap length (is ∙ append-nil news) in
    let none : ⊥ = omega (arith, all, place, below) in absurd none
seam now news (x ∷ more) k d is place below = (
  more,
  ap (λ y. y ∷ more) (sym (rw (is, place) (get-seam news x d more))),
  λ v. rw (is, place) (set-seam news x v more),
)

-- one file more
pub so_far-more : {F : Type 0} (sink : Sink F) (start now : List F) (texts : List (List ℕ)) (k : ℕ) (d new : F) (e : List ℕ) →
    WritesSoFar sink start now texts k → k < length now → k < length texts →
    WritesFile sink (slice_index_or now k d) new (slice_index_or texts k e) (Ok tt) →
    WritesSoFar sink start (slice_set now k new) texts (k + 1)
so_far-more sink start now texts k d new e so_far below texts_below one =
    let files = seam now so_far.news so_far.rest k d so_far.now_is so_far.place below in
    let bytes = seam texts so_far.done so_far.more k e so_far.texts_are so_far.texts_place texts_below in
    let old = slice_index_or now k d in
    let text = slice_index_or texts k e in
    record {
      olds = so_far.olds ++ old ∷ [];
      news = so_far.news ++ new ∷ [];
      rest = files.0;
      done = so_far.done ++ text ∷ [];
      more = bytes.0;
      start_is = so_far.start_is ∙ ap (λ l. so_far.olds ++ l) files.1 ∙ sym (append_assoc so_far.olds (old ∷ []) files.0);
      now_is = files.2 new ∙ sym (append_assoc so_far.news (new ∷ []) files.0);
      texts_are = so_far.texts_are ∙ ap (λ l. so_far.done ++ l) bytes.1 ∙ sym (append_assoc so_far.done (text ∷ []) bytes.0);
      place = omega (arith, so_far.place, length-append so_far.news (new ∷ []));
      texts_place = omega (arith, so_far.texts_place, length-append so_far.done (text ∷ []));
      wrote = wrote-then sink so_far.olds so_far.news (old ∷ []) (new ∷ []) so_far.done (text ∷ []) (Ok tt) so_far.wrote (inl (one, refl));
    }

-- the file that ended it
pub so_far-stop : {F : Type 0} (sink : Sink F) (start now : List F) (texts : List (List ℕ)) (k : ℕ) (d new : F) (e : List ℕ) (fault : SetFault) →
    WritesSoFar sink start now texts k → k < length now → k < length texts →
    WritesFile sink (slice_index_or now k d) new (slice_index_or texts k e) (Err fault) →
    WritesFiles sink start (slice_set now k new) texts (Err fault)
so_far-stop sink start now texts k d new e fault so_far below texts_below one =
    let files = seam now so_far.news so_far.rest k d so_far.now_is so_far.place below in
    let bytes = seam texts so_far.done so_far.more k e so_far.texts_are so_far.texts_place texts_below in
    let old = slice_index_or now k d in
    let text = slice_index_or texts k e in
    rw (so_far.start_is ∙ ap (λ l. so_far.olds ++ l) files.1, files.2 new, so_far.texts_are ∙ ap (λ l. so_far.done ++ l) bytes.1)
    (wrote-then sink so_far.olds so_far.news (old ∷ files.0) (new ∷ files.0) so_far.done (text ∷ bytes.0) (Err fault) so_far.wrote (inr (refl, (one, refl))))

-- nothing is left
no-rest : {A : Type 0} (now news rest : List A) (k : ℕ) → now ≡ news ++ rest → k ≡ length news → length now ≤ k → rest ≡ []
no-rest now news [] k is place all = refl
no-rest now news (x ∷ rest) k is place all =
    let whole : length now ≡ length (news ++ x ∷ rest) = ap length is in
    let none : ⊥ = omega (arith, whole, length-append news (x ∷ rest), place, all) in absurd none

-- all files
pub so_far-all : {F : Type 0} (sink : Sink F) (start now : List F) (texts : List (List ℕ)) (k : ℕ) →
    WritesSoFar sink start now texts k → length now ≤ k → length texts ≤ k → WritesFiles sink start now texts (Ok tt)
so_far-all sink start now texts k so_far all texts_all =
    rw (
      so_far.start_is ∙ ap (λ l. so_far.olds ++ l) (no-rest now so_far.news so_far.rest k so_far.now_is so_far.place all) ∙ append-nil so_far.olds,
      so_far.now_is ∙ ap (λ l. so_far.news ++ l) (no-rest now so_far.news so_far.rest k so_far.now_is so_far.place all) ∙ append-nil so_far.news,
      so_far.texts_are ∙ ap (λ l. so_far.done ++ l) (no-rest texts so_far.done so_far.more k so_far.texts_are so_far.texts_place texts_all) ∙ append-nil so_far.done,
    )
    so_far.wrote

-- what is written of the k-th of listed files, among the bytes of all
pub WritesFile-listed : {F : Type 0} (sink : Sink F) (old new : F) (bytes_of : SetFile → List ℕ) (list : List SetFile) (k : ℕ) (e : SetFile) (done : Result (Unit {0}) SetFault) →
    k < length list → WritesFile sink old new (bytes_of (slice_index_or list k e)) done → WritesFile sink old new (slice_index_or (map bytes_of list) k []) done
WritesFile-listed sink old new bytes_of list k e done below one = rw (get_or-map bytes_of list k e [] below) one

-- all rasters of a product set have the shape of the first
pub one_shape : (ps : ProductSet) (p : SetProduct) → (raster_in ps p).extent ≡ ps.con.extent
one_shape ps Con = refl
one_shape ps Dir = ps.dir_shape
one_shape ps Acc = ps.acc_shape
one_shape ps Bas = ps.bas_shape
one_shape ps Rnk = ps.rnk_shape

pub FitHeaders-set : (t : Tiling) (ps : ProductSet) → ps.con.extent ≡ extent_of t → CanBeWritten t ps → SetFits (made_header t product.Con) ps
FitHeaders-set t ps shape written Con held = record { extent = shape; spelled = written Con }
FitHeaders-set t ps shape written Dir held = record { extent = one_shape ps Dir ∙ shape; spelled = written Dir }
FitHeaders-set t ps shape written Acc held = record { extent = one_shape ps Acc ∙ shape; spelled = written Acc }
FitHeaders-set t ps shape written Bas held = record { extent = one_shape ps Bas ∙ shape; spelled = written Bas }
FitHeaders-set t ps shape written Rnk held = record { extent = one_shape ps Rnk ∙ shape; spelled = written Rnk }

pub set_bytes-listed : (con : List ℕ) (h : Fields) (ps : ProductSet) → set_bytes con h ps ≡ map (file_bytes con h (raster_in ps)) SET_FILES
unfolding set_bytes
set_bytes-listed con h ps = refl

-- no memory for the first of them, con's header
first-stops : {F : Type 0} (sink : Sink F) (files : List F) (first : List ℕ) (more : List (List ℕ)) → 0 < length files → 0 < length first →
    WritesFiles sink files files (first ∷ more) (Err OutOfMemory)
first-stops sink [] first more some bytes = absurd (omega arith)
first-stops sink (file ∷ files) first more some bytes = inr (refl, (no_memory sink file first bytes, refl))

pub set_stops : {F : Type 0} (sink : Sink F) (h : Fields) (ps : ProductSet) (files : List F) → 0 < length files → (text : List ℕ) × IsTextOf (header_on h product.Con) text →
    WritesSet sink h ps files files (Err OutOfMemory)
unfolding set_bytes
set_stops sink h ps files some text = (text.0, text.1, first-stops sink files text.0 _ some (any_text-some (header_on h product.Con) text.0 text.1))

-- the files of derived rasters
pub FitHeaders-derived : (h : Fields) (d : Derived) → DerivedFit h d → FitHeaders h IsDerived (derived_raster d)
FitHeaders-derived h d written Con held = absurd held
FitHeaders-derived h d written Dir held = absurd held
FitHeaders-derived h d written Acc held = written.acc
FitHeaders-derived h d written Bas held = written.bas
FitHeaders-derived h d written Rnk held = written.rnk

pub IsDerived-at : (k : ℕ) (d : SetFile) → k < DERIVED_COUNT → IsDerived (slice_index_or DERIVED_FILES k d).product
IsDerived-at zero d below = tt
IsDerived-at (suc zero) d below = tt
IsDerived-at (suc (suc zero)) d below = tt
IsDerived-at (suc (suc (suc zero))) d below = tt
IsDerived-at (suc (suc (suc (suc zero)))) d below = tt
IsDerived-at (suc (suc (suc (suc (suc zero))))) d below = tt
IsDerived-at (suc (suc (suc (suc (suc (suc k)))))) d below = absurd (omega arith)

pub derived_bytes-listed : (con : List ℕ) (h : Fields) (d : Derived) → derived_bytes h d ≡ map (file_bytes con h (derived_raster d)) DERIVED_FILES
unfolding derived_bytes
derived_bytes-listed con h d = refl

-- pixels of 32 bits without a sign are those of the three headers
pub DerivedFit-counts : (h : Fields) (d : Derived) → AreCounts (header_extent h) d → DerivedFit h d
DerivedFit-counts h d counts = record {
  acc = record { extent = counts.acc.extent; spelled = counts.acc.spelled };
  bas = record { extent = counts.bas.extent; spelled = counts.bas.spelled };
  rnk = record { extent = counts.rnk.extent; spelled = counts.rnk.spelled };
}

-- a raster each of whose numbers can be encoded is written, or its file failed for good
pub numbers-failed : {F : Type 0} (sink : Sink F) (old new : F) (h : Fields) (p : Pixels) (fault : WriteFault) →
    CanSpellAll h p → ((c : Cell) → IsErrOf {T = Unit {0}} (Err fault) (write.OutOfRange c) ↔ IsFirstOutOfRange h p c) →
    HandsOver {T = Unit {0}} (sink.bytes_taken old) (sink.bytes_taken new) (Err fault) (raster_bytes h p) →
    WriteFails (sink.counts old) (sink.counts new) (sink.stalls old) (sink.stalls new) (IsErrOf {T = Unit {0}} (Err fault) write.WriteFailed) →
    WritesFile sink old new (raster_bytes h p) (Err WriteFailed)
numbers-failed sink old new h p (write.OutOfRange c) spelled first over faults =
    let out = (first c).0 refl in absurd (out.unspelled (spelled c out.inside))
numbers-failed sink old new h p write.WriteFailed spelled first over faults = record {
  written = over;
  faults = record {
    failures = faults.failures;
    interruptions = faults.interruptions;
    stalls = faults.stalls;
    answered = faults.answered;
    stalled = faults.stalled;
    exactly = ((λ e. faults.exactly.0 refl), λ gave. refl);
  };
}
