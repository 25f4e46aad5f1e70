-- Rasters of counts, labels and steps that are right.
use Rattle.drain_maker.proofs.Names.{ℤ, Bool, Option, Some, None, subst, ◌≡◌, Result, Ok, Err, IfOk, IfErr, refl, sym, ◌∙◌, ℕ, pos, List, map, ap, rules, Cell, Grid, Products, HasData, Pixels, Extent, Distances, AreDerived, DerivedByDirections, IsDeriveRefusalIn, IsFlowsRefusal, IsRefusalFor, reading_in, Refusal, GroundSet, IsReadable, IsRefusalIn, set_grid, set_products, UsesSet, UsesTold, no_memory_left, FaultCounts, Product, default_no_data, number_at, upstream_some}
use Rattle.drain_paths.specs.Basins.{ends_before, AreBasinLabels}
use Rattle.drain_paths.specs.declared.flow.CertifyRefusal.{CertifyRefusal}
use Rattle.drain_answer.specs.declared.refusal.Refusal.TheVariants.{OutOfMemory}
use Rattle.drain_verdict.specs.Inputs.{Products as Given}
use Rattle.drain_maker.specs.declared.derivation.DeriveRefusal.{DeriveRefusal}
use Rattle.drain_maker.specs.declared.derivation.DeriveRefusal.TheVariants.{Refused, NoEnd}
use Rattle.drain_grid.specs.declared.product.Product.TheVariants.{Acc, Bas, Rnk}
use Rattle.drain_paths.specs.CellNumbers.{cell_number}
use Rattle.drain_paths.specs.Inflows.{AreUpstreamCounts}
use Rattle.drain_paths.proofs.StepLemmas.{number_at-raster}
use Rattle.drain_paths.specs.Walks.{AreRunSteps}
use Rattle.drain_paths.specs.declared.flow.CertifyRefusal.TheVariants as certify
use Rattle.drain_paths.specs.Ways as certified

-- Nothing that is derived looks at sinks or at spacing, or at a product but dir.

-- the grid with other sinks, and spaced otherwise
abbrev pub with_sinks : Grid → (Cell → Bool) → (ℕ → Distances) → Grid
with_sinks g sink spacing = record { extent = g.extent; elevation = g.elevation; sink = sink; spacing = spacing }

-- the products with these directions
abbrev pub with_dir : Products → (Cell → ℤ) → Products
with_dir qs dir = record { con = qs.con; dir = dir; acc = qs.acc; bas = qs.bas; spl = qs.spl; rnk = qs.rnk }

others : (g : Grid) (sink : Cell → Bool) (spacing : ℕ → Distances) (ps qs : Products) (acc bas rnk : Pixels) → AreDerived g ps acc bas rnk →
    AreDerived (with_sinks g sink spacing) (with_dir qs ps.dir) acc bas rnk
unfolding ends_before
others g sink spacing ps qs acc bas rnk derived =
    let at : (c : Cell) → HasData (with_sinks g sink spacing) c → HasData g c = λ c here. record { inside = here.inside; is_data = here.is_data } in
    record {
      acc_extent = derived.acc_extent;
      bas_extent = derived.bas_extent;
      rnk_extent = derived.rnk_extent;
      acc_nodata = derived.acc_nodata;
      bas_nodata = derived.bas_nodata;
      rnk_nodata = derived.rnk_nodata;
      ends = λ c here. derived.ends c (at c here);
      counts = λ c here. derived.counts c (at c here);
      numbered = λ c here. derived.numbered c (at c here);
      labels = λ a b at_a at_b. derived.labels a b (at a at_a) (at b at_b);
      steps = λ c here. derived.steps c (at c here);
      void_acc = derived.void_acc;
      void_bas = derived.void_bas;
      void_rnk = derived.void_rnk;
      data_acc = λ c here. derived.data_acc c (at c here);
      data_bas = λ c here. derived.data_bas c (at c here);
      data_rnk = λ c here. derived.data_rnk c (at c here);
    }

pub derived_by_directions : DerivedByDirections
derived_by_directions g h ps qs acc bas rnk extent elevation dir derived =
    subst (λ (e : Extent). AreDerived (record { extent = e; elevation = h.elevation; sink = h.sink; spacing = h.spacing }) qs acc bas rnk) extent
    (subst (λ (z : Cell → Option ℤ). AreDerived (record { extent = g.extent; elevation = z; sink = h.sink; spacing = h.spacing }) qs acc bas rnk) elevation
    (subst (λ (d : Cell → ℤ). AreDerived (with_sinks g h.sink h.spacing) (with_dir qs d) acc bas rnk) dir (others g h.sink h.spacing ps qs acc bas rnk derived)))

-- Answers to what was read: which say that memory ran out, and none that a read failed.

-- what holds of a value holds of an answer with that value
pub if_same : {A B : Type 0} (answer : Result A B) (a : A) (P : A → Type 0) → IfOk answer (λ x. x ≡ a) → P a → IfOk answer P
if_same (Ok x) a P same holds = subst P (sym same) holds
if_same (Err why) a P same holds = tt

-- what holds of no memory holds of an answer that says no more
pub of_memory_says_nothing : {A : Type 0} (answer : Result A Refusal) (P : Refusal → Type 0) → IfErr answer (λ refusal. refusal ≡ OutOfMemory) → P OutOfMemory → IfErr answer P
of_memory_says_nothing (Ok x) P same holds = tt
of_memory_says_nothing (Err why) P same holds = subst P (sym same) holds

-- where all was read, or memory ran out then, the inputs are used alike
pub counted_uses : {X R P A : Type 0} (inputs_of : P → Given R) (devices : List X → P → List R) (IsWithin IsKept : List X → List X → Type 0) (bytes_left : R → Option (List ℕ)) (counts : R → FaultCounts)
    (old new : List X × P) (answer : Result A Refusal) → IfErr answer (λ refusal. refusal ≡ OutOfMemory) →
    UsesTold inputs_of devices IsWithin IsKept bytes_left counts old new None → UsesSet inputs_of devices IsWithin IsKept bytes_left counts old new answer
counted_uses inputs_of devices IsWithin IsKept bytes_left counts old new (Ok x) of_memory uses = uses
counted_uses inputs_of devices IsWithin IsKept bytes_left counts old new (Err why) of_memory uses =
    subst (λ refusal. UsesTold inputs_of devices IsWithin IsKept bytes_left counts old new (Some refusal)) (sym of_memory) (no_memory_left inputs_of devices IsWithin IsKept bytes_left counts old new uses)

-- what follows from two facts about an answer
pub if_ok_both : {A B : Type 0} (answer : Result A B) (P Q R : A → Type 0) → IfOk answer P → IfOk answer Q → ((a : A) → P a → Q a → R a) → IfOk answer R
if_ok_both (Ok a) P Q R one other both = both a one other
if_ok_both (Err why) P Q R one other both = tt

-- a refusal of flows, as one of this crate
pub flows_refusal : (g : Grid) (ps : Products) (refusal : CertifyRefusal) (why : DeriveRefusal) → IsRefusalFor refusal why → certified.IsRankRefusal g ps refusal → IsFlowsRefusal g ps why
flows_refusal g ps (certify.NoEnd c) why is first = subst (IsFlowsRefusal g ps) (sym is) first
flows_refusal g ps certify.OutOfMemory why is none = subst (IsFlowsRefusal g ps) (sym is) refl

-- and as one of the set whose flows they are
pub derive_refusal : (s : GroundSet) (why : DeriveRefusal) → IsReadable s → IsFlowsRefusal (set_grid s) (set_products s) why → IsDeriveRefusalIn s why
derive_refusal s (Refused refusal) readable is = subst (IsRefusalIn s) (sym is) tt
derive_refusal s (NoEnd row col) readable first = (readable, first)

-- the raster of a product with these numbers
abbrev pub counts_raster : Extent → Product → List ℕ → Pixels
counts_raster e p numbers = record { extent = e; nodata = default_no_data p; numbers = map (λ n. pos n) numbers }

-- a raster shows its numbers
shown : (e : Extent) (p : Product) (numbers : List ℕ) (r : Pixels) → r ≡ counts_raster e p numbers → (c : Cell) →
    number_at r c ≡ pos (cell_number e numbers c)
shown e p numbers r is c = number_at-raster e numbers r (ap (λ (x : Pixels). x.extent) is) (ap (λ (x : Pixels). x.numbers) is) c

pos-same : (a b : ℕ) → pos a ≡ pos b → a ≡ b
pos-same a b h = search rules

pub AreDerived-rasters : (g : Grid) (ps : Products) (e : Extent) (counts labels steps : List ℕ) (acc bas rnk : Pixels) →
    AreUpstreamCounts g ps e counts → AreBasinLabels g ps e labels → AreRunSteps g ps e steps →
    acc ≡ counts_raster e Acc counts → bas ≡ counts_raster e Bas labels → rnk ≡ counts_raster e Rnk steps → AreDerived g ps acc bas rnk
AreDerived-rasters g ps e counts labels steps acc bas rnk are_counts are_labels are_steps acc_is bas_is rnk_is =
    let acc_at = shown e Acc counts acc acc_is in
    let bas_at = shown e Bas labels bas bas_is in
    let rnk_at = shown e Rnk steps rnk rnk_is in
    let acc_no : acc.nodata ≡ default_no_data Acc = ap (λ (p : Pixels). p.nodata) acc_is in
    let bas_no : bas.nodata ≡ default_no_data Bas = ap (λ (p : Pixels). p.nodata) bas_is in
    let rnk_no : rnk.nodata ≡ default_no_data Rnk = ap (λ (p : Pixels). p.nodata) rnk_is in
    record {
      acc_extent = ap (λ (p : Pixels). p.extent) acc_is ∙ sym are_counts.extent;
      bas_extent = ap (λ (p : Pixels). p.extent) bas_is ∙ sym are_labels.extent;
      rnk_extent = ap (λ (p : Pixels). p.extent) rnk_is ∙ sym are_steps.extent;
      acc_nodata = acc_no;
      bas_nodata = bas_no;
      rnk_nodata = rnk_no;
      ends = are_labels.ends;
      counts = λ c here. acc_at c ∙ ap (λ n. pos n) (are_counts.counts_are c here);
      numbered = λ c here. bas_at c ∙ ap (λ n. pos n) (are_labels.labels_are c here);
      labels = λ a b at_a at_b. (
        (λ same. (are_labels.shared a b at_a at_b).0 (pos-same (cell_number e labels a) (cell_number e labels b) (sym (bas_at a) ∙ (same ∙ bas_at b)))),
        (λ share. bas_at a ∙ (ap (λ n. pos n) ((are_labels.shared a b at_a at_b).1 share) ∙ sym (bas_at b))),
      );
      steps = λ c here. rnk_at c ∙ ap (λ n. pos n) (are_steps.numbers_are c here);
      void_acc = λ c inside void. acc_at c ∙ (ap (λ n. pos n) (are_counts.voids c inside void) ∙ sym acc_no);
      void_bas = λ c inside void. bas_at c ∙ (ap (λ n. pos n) (are_labels.voids c inside void) ∙ sym bas_no);
      void_rnk = λ c inside void. rnk_at c ∙ (ap (λ n. pos n) (are_steps.voids c inside void) ∙ sym rnk_no);
      data_acc = λ c here none. upstream_some g ps are_labels.ends c here
          (sym (are_counts.counts_are c here) ∙ pos-same (cell_number e counts c) 0 (sym (acc_at c) ∙ (none ∙ acc_no)));
      data_bas = λ c here none. are_labels.some c here (pos-same (cell_number e labels c) 0 (sym (bas_at c) ∙ (none ∙ bas_no)));
      data_rnk = λ c here none. are_steps.some c here (pos-same (cell_number e steps c) 4294967295 (sym (rnk_at c) ∙ (none ∙ rnk_no)));
    }
