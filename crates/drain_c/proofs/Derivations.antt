-- What follows from the directions of sources follows from those of the bytes of a call, and what is shown of it too.
use Rattle.drain_c.proofs.Names.{◌≡◌, ◌≢◌, ℕ, zero, suc, ◌*◌, ◌/◌, ◌%◌, ◌≤◌, ◌<◌, ℤ, pos, Bool, true, false, List, [], ◌∷◌, length, map, get_or, IfOk, IfErr, IsTrue, IsFalse, arith, refl, sym, ap, subst, ◌∙◌, Answer, Call, CallInputs, OfCall, set_in, outcome_found, status_only, Reports, ShowsAnswer, ShowsBadRaster, IsCellOf, Extent, Pixels, GroundSet, set_grid, set_products}
use Rattle.std.proofs.Common.{Result, Ok, Err}
use Rattle.std.proofs.Math.Nat.{div-lt_iff_lt-mul}
use Rattle.drain_c.specs.Derived.{AreDerivedNumbers, AreNumbersOf, IsDerivation, ReportsDerivation, ShowsDerivation, derived_found, derived_line, have_cells, raster_of, shape_line}
use Rattle.drain_maker.specs.Derived.{naming_dir, outcome_for}
use Rattle.drain_c.proofs.CutInputs.{cut_refusal_kept, first_bytes, same}
use Rattle.drain_c.proofs.Spelling.{AreSources}
use Rattle.drain_c.proofs.Statuses.{from_two}
use Rattle.drain_grid.specs.Product.{default_numbers}
use Rattle.drain_maker.specs.Derived.{AreDerivedIn, IsDeriveRefusalIn, AreCounts, AreDerived}
use Rattle.drain_maker.specs.declared.derivation.DeriveRefusal.{DeriveRefusal}
use Rattle.drain_maker.specs.declared.derivation.DeriveRefusal.TheVariants.{Refused, NoEnd}
use Rattle.drain_maker.specs.declared.derivation.Derived.{Derived}

pub derived_of_bytes : (call : Call) (For : (CallInputs → Type 0) → Type 0) → AreSources call For → (d : Derived) → For (λ i. AreDerivedIn (set_in i) d) → OfCall call (λ i. AreDerivedIn (set_in i) d)
derived_of_bytes call For sources d fact i of =
    let is : AreDerivedIn (set_in (first_bytes i)) d = sources (λ j. AreDerivedIn (set_in j) d) fact i of in
    subst (λ j. AreDerivedIn (set_in j) d) (same i is.0) is

why_kept : (i : CallInputs) (why : DeriveRefusal) → IsDeriveRefusalIn (set_in (first_bytes i)) why → IsDeriveRefusalIn (set_in i) why
why_kept i (Refused refusal) is = cut_refusal_kept i refusal is
why_kept i (NoEnd row col) is = subst (λ j. IsDeriveRefusalIn (set_in j) (NoEnd row col)) (same i is.0) is

pub why_of_bytes : (call : Call) (For : (CallInputs → Type 0) → Type 0) → AreSources call For → (why : DeriveRefusal) → For (λ i. IsDeriveRefusalIn (set_in i) why) → OfCall call (λ i. IsDeriveRefusalIn (set_in i) why)
why_of_bytes call For sources why fact i of = why_kept i why (sources (λ j. IsDeriveRefusalIn (set_in j) why) fact i of)

-- the cell in a place of row order
pub cell_inside : (e : Extent) (cols place : ℕ) → cols ≡ e.cols → place < e.rows * e.cols → IsCellOf e (record { row = place / cols; col = place % cols })
cell_inside e zero place is less = (let none : place < e.rows * 0 = subst (λ n. place < e.rows * n) (sym is) less in absurd (omega arith))
cell_inside e (suc n) place is less =
    let below : place < e.rows * suc n = subst (λ m. place < e.rows * m) (sym is) less in
    let col : place % suc n < suc n = omega arith in
    record { row = (div-lt_iff_lt-mul (omega arith)).1 below; col = subst (λ m. place % suc n < m) is col }

-- numbers that are those of a list, place by place
pub same_numbers : (numbers : List ℕ) (zs : List ℤ) → length numbers ≡ length zs → ((k : ℕ) → k < length numbers → pos (get_or numbers k 0) ≡ get_or zs k (pos 0)) → map (λ n. pos n) numbers ≡ zs
same_numbers [] [] long same = refl
same_numbers [] (z ∷ zs) long same = absurd (omega arith)
same_numbers (n ∷ numbers) [] long same = absurd (omega arith)
same_numbers (n ∷ numbers) (z ∷ zs) long same =
    let head : pos n ≡ z = same 0 (omega arith) in
    let rest : map (λ m. pos m) numbers ≡ zs = same_numbers numbers zs (omega arith) (λ k less. same (suc k) (omega arith)) in
    cc

same_raster : (s : GroundSet) (d : Pixels) (nodata : ℤ) (numbers : List ℕ) → d.extent ≡ (set_grid s).extent → d.nodata ≡ nodata → map (λ n. pos n) numbers ≡ d.numbers → d ≡ raster_of s nodata numbers
same_raster s d nodata numbers extent nodata_is numbers_are =
    let at_extent : Extent → Pixels = λ e. record { extent = e; nodata = d.nodata; numbers = d.numbers } in
    let at_nodata : ℤ → Pixels = λ n. record { extent = (set_grid s).extent; nodata = n; numbers = d.numbers } in
    let at_numbers : List ℤ → Pixels = λ ns. record { extent = (set_grid s).extent; nodata = nodata; numbers = ns } in
    ap at_extent extent ∙ (ap at_nodata nodata_is ∙ ap at_numbers (sym numbers_are))

-- the numbers that were written follow from the inputs
pub derived_numbers : (s : GroundSet) (d : Derived) (acc bas rnk : List ℕ) → AreDerivedIn s d → AreNumbersOf d acc bas rnk → AreDerivedNumbers s acc bas rnk
derived_numbers s d acc bas rnk is numbers =
    let fact : AreDerived (set_grid s) (set_products s) d.acc d.bas d.rnk = is.1 in
    subst (λ r. AreDerived (set_grid s) (set_products s) (raster_of s default_numbers.acc acc) (raster_of s default_numbers.bas bas) r)
    (same_raster s d.rnk default_numbers.rnk rnk fact.rnk_extent fact.rnk_nodata numbers.rnk)
    (subst (λ r. AreDerived (set_grid s) (set_products s) (raster_of s default_numbers.acc acc) r d.rnk)
    (same_raster s d.bas default_numbers.bas bas fact.bas_extent fact.bas_nodata numbers.bas)
    (subst (λ r. AreDerived (set_grid s) (set_products s) r d.bas d.rnk) (same_raster s d.acc default_numbers.acc acc fact.acc_extent fact.acc_nodata numbers.acc) fact))

reports_either : (s : GroundSet) (e : Extent) (b : Bool) (shown : Answer) → IsDerivation s (Ok tt) → (IsTrue b → ShowsAnswer (status_only 0) (shape_line e) shown) → (IsFalse b → ShowsBadRaster shown) →
    Reports (IsDerivation s) (derived_found b) (derived_line e b) shown
reports_either s e true shown is fit misfit = record { value = Ok tt; is = is; shows = fit refl }
reports_either s e false shown is fit misfit = record { value = Ok tt; is = is; shows = misfit refl }

reports_derived : (s : GroundSet) (e : Extent) (d : Derived) (acc bas rnk : List ℕ) (shown : Answer) → e ≡ d.acc.extent → AreDerivedIn s d →
    (IsTrue (have_cells e acc bas rnk) → ShowsAnswer (status_only 0) (shape_line e) shown) → (IsFalse (have_cells e acc bas rnk) → ShowsBadRaster shown) → ReportsDerivation s acc bas rnk shown
reports_derived s e d acc bas rnk shown extent is fit misfit =
    let same : e ≡ (set_grid s).extent = extent ∙ is.1.acc_extent in
    subst (λ x. Reports (IsDerivation s) (derived_found (have_cells x acc bas rnk)) (derived_line x (have_cells x acc bas rnk)) shown) same
    (reports_either s e (have_cells e acc bas rnk) shown (is.0, is.1.ends) fit misfit)

-- the answer to inputs, which are sets
pub reports : (call : Call) (answer : Result (Extent × Derived) DeriveRefusal) (old new : List ℕ × List ℕ × List ℕ) (shown : Answer) → IfOk answer (λ made. AreCounts made.0 made.1) →
    IfOk answer (λ made. OfCall call (λ i. AreDerivedIn (set_in i) made.1)) → IfErr answer (λ why. OfCall call (λ i. IsDeriveRefusalIn (set_in i) why)) → ShowsDerivation answer old new shown →
    OfCall call (λ i. ReportsDerivation (set_in i) old.0 old.1 old.2 shown)
reports call (Ok made) old new shown counts derived err shows i of =
    reports_derived (set_in i) made.0 made.1 old.0 old.1 old.2 shown (sym counts.acc.extent) (derived i of) (λ fit. (shows.0 fit).0) (λ misfit. (shows.1 misfit).0)
reports call (Err why) old new shown counts derived err shows i of = record { value = Err why; is = err i of; shows = shows.0 }

numbers_either : (s : GroundSet) (made : Extent × Derived) (b : Bool) (new : List ℕ × List ℕ × List ℕ) (shown : Answer) → AreDerivedIn s made.1 →
    (IsTrue b → AreNumbersOf made.1 new.0 new.1 new.2) → (IsFalse b → ShowsBadRaster shown) → shown.status ≡ 0 → AreDerivedNumbers s new.0 new.1 new.2
numbers_either s made true new shown is fit misfit none = derived_numbers s made.1 new.0 new.1 new.2 is (fit refl)
numbers_either s made false new shown is fit misfit none = (let two : shown.status ≡ 2 = (misfit refl).status_is in absurd (omega arith))

none_status : (why : DeriveRefusal) → 1 ≤ (outcome_found (outcome_for why)).status
none_status (Refused refusal) = (let from = from_two (naming_dir refusal) in omega arith)
none_status (NoEnd row col) = omega arith

-- status 0 is that of something that follows
pub at_zero : {P : Type 0} (answer : Result (Extent × Derived) DeriveRefusal) (old new : List ℕ × List ℕ × List ℕ) (shown : Answer) → ShowsDerivation answer old new shown → shown.status ≡ 0 → IfOk answer (λ made. P) → P
at_zero (Ok made) old new shown shows none fact = fact
at_zero (Err why) old new shown shows none fact =
    let is : shown.status ≡ (outcome_found (outcome_for why)).status = shows.0.status_is in
    absurd (omega (arith, none_status why, is, none))

-- and what is written then follows from the inputs
pub numbers : (call : Call) (answer : Result (Extent × Derived) DeriveRefusal) (old new : List ℕ × List ℕ × List ℕ) (shown : Answer) →
    IfOk answer (λ made. OfCall call (λ i. AreDerivedIn (set_in i) made.1)) → ShowsDerivation answer old new shown → shown.status ≡ 0 → OfCall call (λ i. AreDerivedNumbers (set_in i) new.0 new.1 new.2)
numbers call (Ok made) old new shown derived shows none i of =
    numbers_either (set_in i) made (have_cells made.0 old.0 old.1 old.2) new shown (derived i of) (λ fit. (shows.0 fit).1) (λ misfit. (shows.1 misfit).0) none
numbers call (Err why) old new shown derived shows none i of = absurd (at_zero {P = ⊥} (Err why) old new shown shows none tt)

unwritten_either : (e : Extent) (b : Bool) (old new : List ℕ × List ℕ × List ℕ) (shown : Answer) → (IsTrue b → ShowsAnswer (status_only 0) (shape_line e) shown) →
    (IsFalse b → (new.0 ≡ old.0) × (new.1 ≡ old.1) × (new.2 ≡ old.2)) → shown.status ≢ 0 → (new.0 ≡ old.0) × (new.1 ≡ old.1) × (new.2 ≡ old.2)
unwritten_either e true old new shown fit misfit other = absurd (other (fit refl).status_is)
unwritten_either e false old new shown fit misfit other = misfit refl

-- with another nothing is written
pub unwritten : (answer : Result (Extent × Derived) DeriveRefusal) (old new : List ℕ × List ℕ × List ℕ) (shown : Answer) → ShowsDerivation answer old new shown → shown.status ≢ 0 →
    (new.0 ≡ old.0) × (new.1 ≡ old.1) × (new.2 ≡ old.2)
unwritten (Ok made) old new shown shows other =
    unwritten_either made.0 (have_cells made.0 old.0 old.1 old.2) old new shown (λ fit. (shows.0 fit).0) (λ misfit. ((shows.1 misfit).1, (shows.1 misfit).2, (shows.1 misfit).3)) other
unwritten (Err why) old new shown shows other = (shows.1, shows.2, shows.3)
