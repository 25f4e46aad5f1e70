-- Given rasters with directions are part of a correct set exactly where every run ends and every rule about them holds.
-- One way the rules without ranks hold of the whole set, and those about judged rasters look at these alone (SameWays).
-- The other way the rasters that aren't given are those that directions determine (OwnRasters), and with them the
-- set is correct (CorrectByWays).
use Rattle.drain_laws.proofs.Names.{◌≡◌, Bool, true, false, IsNone, IsTrue, refl, arith, false≢true, Cell, Rule, VoidCell, Missing, BelowGround, OpenRaised, NoSpill, SpillHeight, SpillRank, NotLeast, Slope, OutletCode, FlatStep, Accumulation, Label, SharedLabel, RanksAreSteps, unranked, Grid, Products, IsInside, HasData, patch_at, values_at, HoldsAt, RulesHold, SharedLabelHolds, AccumulationHolds, LabelHolds, IsBetween, IsFillRule, IsWayRule, IsCountRule, IsLabelRule, RunEnds, NoDataNumbers, RunEnds-alike, correct_is_local, Con, ConDir, ConDirAcc, ConDirBas, All, AllWithRanks, PartIsLocal, IsPartOfCorrect, IsSomeWays, joined, joined_numbers, IsBlankPart, IsCompletePart, IsPartRule, part_rules}
use Rattle.drain_grid.specs.declared.judged.Judged.{Judged}
use Rattle.drain_grid.specs.Judged.{IfJudged, has_acc, has_bas, has_dir}
use Rattle.drain_rules.proofs.RightVoids.{if_judged}
use Rattle.drain_laws.proofs.CorrectByWays.{correct_by_ways, counts_by_rules, labels_by_rules, sound}
use Rattle.drain_laws.proofs.OwnRasters.{from_counts-differs, from_counts-void, own_counts-right, own_labels-right, own_numbers, own_ranks-right, own_rasters}
use Rattle.drain_laws.proofs.SameWays.{ways_there, counts_there, labels_there}

given_fact : (b : Bool) (P : Type 0) → IsTrue b → IfJudged b P → P
given_fact true P h fact = fact
given_fact false P h fact = absurd (false≢true h)

-- the rules about judged rasters say of heights and directions what the rules without ranks say
pub part_ways : (judged : Judged) (g : Grid) (ps : Products) (nodata : NoDataNumbers) → IsTrue (has_dir judged) →
    RulesHold (part_rules judged nodata) (IsPartRule judged) g ps → RulesHold (unranked nodata) (IsBetween 3 12) g ps
part_ways judged g ps nodata has rules c VoidCell inside own = absurd (omega (arith, own.0))
part_ways judged g ps nodata has rules c Missing inside own = absurd (omega (arith, own.0))
part_ways judged g ps nodata has rules c BelowGround inside own = rules c BelowGround inside (omega arith, omega arith)
part_ways judged g ps nodata has rules c OpenRaised inside own = rules c OpenRaised inside (omega arith, omega arith)
part_ways judged g ps nodata has rules c NoSpill inside own = tt
part_ways judged g ps nodata has rules c SpillHeight inside own = tt
part_ways judged g ps nodata has rules c SpillRank inside own = tt
part_ways judged g ps nodata has rules c NotLeast inside own = rules c NotLeast inside (omega arith, omega arith)
part_ways judged g ps nodata has rules c Accumulation inside own = absurd (omega (arith, own.1))
part_ways judged g ps nodata has rules c Label inside own = absurd (omega (arith, own.1))
part_ways judged g ps nodata has rules c SharedLabel inside own = absurd (omega (arith, own.1))
part_ways judged g ps nodata has rules c r inside own = given_fact (has_dir judged) _ has (rules c r inside (omega arith, omega arith))

-- what the rules about judged rasters say at a cell, apart from heights and directions
pub record AreGivenRight (judged : Judged) (g : Grid) (ps : Products) (nodata : NoDataNumbers) (c : Cell) : Type 0 where
  pub blank : IsNone (g.elevation c) → IsBlankPart judged nodata (values_at g ps c)
  pub complete : HasData g c → IsCompletePart judged nodata (values_at g ps c)
  pub counts : IfJudged (has_acc judged) (AccumulationHolds (patch_at g ps c))
  pub label : IfJudged (has_bas judged) (LabelHolds (patch_at g ps c))
  pub own_label : IfJudged (has_bas judged) (SharedLabelHolds g ps c)

module _ (judged : Judged) (g : Grid) (ps : Products) (nodata : NoDataNumbers) (c : Cell) (inside : IsInside g c)
    (right : AreGivenRight judged g ps nodata c) (ways : (r : Rule) → IsBetween 3 12 r → HoldsAt (unranked nodata) g ps c r) where
  pub part_holds : (r : Rule) → IsPartRule judged r → HoldsAt (part_rules judged nodata) g ps c r
  part_holds VoidCell own = λ void. right.blank void
  part_holds Missing own = λ is_data. right.complete (record { inside = inside; is_data = is_data })
  part_holds BelowGround own = ways BelowGround (omega arith, omega arith)
  part_holds OpenRaised own = ways OpenRaised (omega arith, omega arith)
  part_holds NoSpill own = tt
  part_holds SpillHeight own = tt
  part_holds SpillRank own = tt
  part_holds NotLeast own = ways NotLeast (omega arith, omega arith)
  part_holds Accumulation own = right.counts
  part_holds Label own = right.label
  part_holds SharedLabel own = given_fact (has_bas judged) _ own right.own_label
  part_holds r own = if_judged (has_dir judged) _ (ways r (omega arith, omega arith))

-- what a correct set says of judged rasters
from_part : (judged : Judged) (g : Grid) (ps : Products) (nodata : NoDataNumbers) → IsSomeWays judged → IsPartOfCorrect judged g ps nodata →
    ((c : Cell) → HasData g c → RunEnds g ps c) × RulesHold (part_rules judged nodata) (IsPartRule judged) g ps
from_part Con g ps nodata has part = absurd has
from_part All g ps nodata has part = absurd has
from_part AllWithRanks g ps nodata has part = absurd has
from_part ConDir g ps nodata has (rest, numbers, correct) =
    let qs = joined ConDir ps rest in
    let all = joined_numbers ConDir nodata numbers in
    let local = (correct_is_local g qs all).0 correct in (
      (λ c here. RunEnds-alike g qs ps (λ x. refl) c (local.0 c here)),
      (λ c r inside own. part_holds ConDir g ps nodata c inside
          (record {
            blank = λ void. (let b = correct.voids c inside void in record { con_is = b.con; dir_is = b.dir; acc_is = tt; bas_is = tt });
            complete = λ here.
                (let b = correct.complete c here in record { con_differs = b.con; dir_differs = b.dir; acc_differs = tt; bas_differs = tt });
            counts = tt;
            label = tt;
            own_label = tt;
          })
          (λ q between. ways_there g qs ps c inside all nodata q between (local.1 c q inside (omega (arith, between.0), omega (arith, between.1))))
          r own),
    )
from_part ConDirAcc g ps nodata has (rest, numbers, correct) =
    let qs = joined ConDirAcc ps rest in
    let all = joined_numbers ConDirAcc nodata numbers in
    let local = (correct_is_local g qs all).0 correct in (
      (λ c here. RunEnds-alike g qs ps (λ x. refl) c (local.0 c here)),
      (λ c r inside own. part_holds ConDirAcc g ps nodata c inside
          (record {
            blank = λ void. (let b = correct.voids c inside void in record { con_is = b.con; dir_is = b.dir; acc_is = b.acc; bas_is = tt });
            complete = λ here.
                (let b = correct.complete c here in record { con_differs = b.con; dir_differs = b.dir; acc_differs = b.acc; bas_differs = tt });
            counts = counts_there g qs ps c (local.1 c Accumulation inside (omega arith, omega arith));
            label = tt;
            own_label = tt;
          })
          (λ q between. ways_there g qs ps c inside all nodata q between (local.1 c q inside (omega (arith, between.0), omega (arith, between.1))))
          r own),
    )
from_part ConDirBas g ps nodata has (rest, numbers, correct) =
    let qs = joined ConDirBas ps rest in
    let all = joined_numbers ConDirBas nodata numbers in
    let local = (correct_is_local g qs all).0 correct in (
      (λ c here. RunEnds-alike g qs ps (λ x. refl) c (local.0 c here)),
      (λ c r inside own. part_holds ConDirBas g ps nodata c inside
          (record {
            blank = λ void. (let b = correct.voids c inside void in record { con_is = b.con; dir_is = b.dir; acc_is = tt; bas_is = b.bas });
            complete = λ here.
                (let b = correct.complete c here in record { con_differs = b.con; dir_differs = b.dir; acc_differs = tt; bas_differs = b.bas });
            counts = tt;
            label = labels_there g qs ps c (local.1 c Label inside (omega arith, omega arith));
            own_label = local.1 c SharedLabel inside (omega arith, omega arith);
          })
          (λ q between. ways_there g qs ps c inside all nodata q between (local.1 c q inside (omega (arith, between.0), omega (arith, between.1))))
          r own),
    )

-- the same rules hold of products with the same heights and directions
module _ (g : Grid) (ps rest : Products) (nodata numbers : NoDataNumbers) (ways : RulesHold (unranked nodata) (IsBetween 3 12) g ps) where
  heights_on : RulesHold (unranked numbers) IsFillRule g (joined ConDir ps rest)
  heights_on c r inside own =
      ways_there g ps rest c inside nodata numbers r (omega (arith, own.0), omega (arith, own.1))
      (ways c r inside (omega (arith, own.0), omega (arith, own.1)))

  ways_on : RulesHold (unranked numbers) IsWayRule g (joined ConDir ps rest)
  ways_on c r inside own =
      ways_there g ps rest c inside nodata numbers r (omega (arith, own.0), own.1) (ways c r inside (omega (arith, own.0), own.1))

count_rules : (g : Grid) (ps : Products) (nodata : NoDataNumbers) → RulesHold (unranked nodata) IsWayRule g ps →
    ((c : Cell) → IsInside g c → AccumulationHolds (patch_at g ps c)) → RulesHold (unranked nodata) IsCountRule g ps
count_rules g ps nodata ways counts c Accumulation inside own = counts c inside
count_rules g ps nodata ways counts c Slope inside own = ways c Slope inside (omega arith, omega arith)
count_rules g ps nodata ways counts c OutletCode inside own = ways c OutletCode inside (omega arith, omega arith)
count_rules g ps nodata ways counts c FlatStep inside own = ways c FlatStep inside (omega arith, omega arith)
count_rules g ps nodata ways counts c r inside own = absurd (omega (arith, own.0, own.1))

label_rules : (g : Grid) (ps : Products) (nodata : NoDataNumbers) → ((c : Cell) → IsInside g c → LabelHolds (patch_at g ps c)) →
    ((c : Cell) → IsInside g c → SharedLabelHolds g ps c) → RulesHold (unranked nodata) IsLabelRule g ps
label_rules g ps nodata label own_label c Label inside own = label c inside
label_rules g ps nodata label own_label c SharedLabel inside own = own_label c inside
label_rules g ps nodata label own_label c r inside own = absurd (omega (arith, own.0))

-- judged rasters about which the rules hold, with the rasters that directions determine
pub to_part : (judged : Judged) (g : Grid) (ps : Products) (nodata : NoDataNumbers) → IsSomeWays judged →
    ((c : Cell) → HasData g c → RunEnds g ps c) → RulesHold (part_rules judged nodata) (IsPartRule judged) g ps → IsPartOfCorrect judged g ps nodata
to_part Con g ps nodata has ends rules = absurd has
to_part All g ps nodata has ends rules = absurd has
to_part AllWithRanks g ps nodata has ends rules = absurd has
to_part ConDir g ps nodata has ends rules =
    let qs = joined ConDir ps (own_rasters g ps) in
    let all = joined_numbers ConDir nodata own_numbers in
    let same : (c : Cell) → ps.dir c ≡ qs.dir c = λ c. refl in
    let ends_on : (c : Cell) → HasData g c → RunEnds g qs c = λ c here. RunEnds-alike g ps qs same c (ends c here) in
    let ranks : RanksAreSteps g qs all = own_ranks-right g ps qs same all (λ c. refl) refl in
    let ways = part_ways ConDir g ps nodata refl rules in
    let on = ways_on g ps qs nodata all ways in (
      own_rasters g ps,
      own_numbers,
      correct_by_ways g qs all ends_on ranks (heights_on g ps qs nodata all ways) on
          (record {
            voids = λ c inside void.
                (let b : IsBlankPart ConDir nodata (values_at g ps c) = rules c VoidCell inside (omega arith, omega arith) void in
                record { con = b.con_is; dir = b.dir_is; acc = from_counts-void g _ c void; bas = from_counts-void g _ c void });
            complete = λ c here.
                (let b : IsCompletePart ConDir nodata (values_at g ps c) = rules c Missing here.inside (omega arith, omega arith) here.is_data in
                record { con = b.con_differs; dir = b.dir_differs; acc = from_counts-differs g _ c here; bas = from_counts-differs g _ c here });
            counts = own_counts-right g ps qs same (λ c. refl);
            labels = own_labels-right g ps qs same (λ c. refl) (λ c here. (sound g qs all ends_on ranks on c here).at_outlet.0.0);
          }),
    )
to_part ConDirAcc g ps nodata has ends rules =
    let qs = joined ConDirAcc ps (own_rasters g ps) in
    let all = joined_numbers ConDirAcc nodata own_numbers in
    let same : (c : Cell) → ps.dir c ≡ qs.dir c = λ c. refl in
    let ends_on : (c : Cell) → HasData g c → RunEnds g qs c = λ c here. RunEnds-alike g ps qs same c (ends c here) in
    let ranks : RanksAreSteps g qs all = own_ranks-right g ps qs same all (λ c. refl) refl in
    let ways = part_ways ConDirAcc g ps nodata refl rules in
    let on = ways_on g ps qs nodata all ways in (
      own_rasters g ps,
      own_numbers,
      correct_by_ways g qs all ends_on ranks (heights_on g ps qs nodata all ways) on
          (record {
            voids = λ c inside void.
                (let b : IsBlankPart ConDirAcc nodata (values_at g ps c) = rules c VoidCell inside (omega arith, omega arith) void in
                record { con = b.con_is; dir = b.dir_is; acc = b.acc_is; bas = from_counts-void g _ c void });
            complete = λ c here.
                (let b : IsCompletePart ConDirAcc nodata (values_at g ps c) = rules c Missing here.inside (omega arith, omega arith) here.is_data in
                record { con = b.con_differs; dir = b.dir_differs; acc = b.acc_differs; bas = from_counts-differs g _ c here });
            counts = counts_by_rules g qs all ends_on ranks (count_rules g qs all on
                (λ c inside. counts_there g ps (own_rasters g ps) c (rules c Accumulation inside (omega arith, omega arith))));
            labels = own_labels-right g ps qs same (λ c. refl) (λ c here. (sound g qs all ends_on ranks on c here).at_outlet.0.0);
          }),
    )
to_part ConDirBas g ps nodata has ends rules =
    let qs = joined ConDirBas ps (own_rasters g ps) in
    let all = joined_numbers ConDirBas nodata own_numbers in
    let same : (c : Cell) → ps.dir c ≡ qs.dir c = λ c. refl in
    let ends_on : (c : Cell) → HasData g c → RunEnds g qs c = λ c here. RunEnds-alike g ps qs same c (ends c here) in
    let ranks : RanksAreSteps g qs all = own_ranks-right g ps qs same all (λ c. refl) refl in
    let ways = part_ways ConDirBas g ps nodata refl rules in
    let on = ways_on g ps qs nodata all ways in (
      own_rasters g ps,
      own_numbers,
      correct_by_ways g qs all ends_on ranks (heights_on g ps qs nodata all ways) on
          (record {
            voids = λ c inside void.
                (let b : IsBlankPart ConDirBas nodata (values_at g ps c) = rules c VoidCell inside (omega arith, omega arith) void in
                record { con = b.con_is; dir = b.dir_is; acc = from_counts-void g _ c void; bas = b.bas_is });
            complete = λ c here.
                (let b : IsCompletePart ConDirBas nodata (values_at g ps c) = rules c Missing here.inside (omega arith, omega arith) here.is_data in
                record { con = b.con_differs; dir = b.dir_differs; acc = from_counts-differs g _ c here; bas = b.bas_differs });
            counts = own_counts-right g ps qs same (λ c. refl);
            labels = labels_by_rules g qs all ends_on ranks on (label_rules g qs all
                (λ c inside. labels_there g ps (own_rasters g ps) c (rules c Label inside (omega arith, omega arith)))
                (λ c inside. rules c SharedLabel inside refl));
          }),
    )

pub part_is_local : PartIsLocal
part_is_local judged g ps nodata has = (
  (λ part. from_part judged g ps nodata has part),
  (λ h. to_part judged g ps nodata has h.0 h.1),
)
