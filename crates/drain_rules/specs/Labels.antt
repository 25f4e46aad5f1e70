-- The labels of outlets, as the rule SharedLabel compares them: no outlet has the label of an earlier one.
-- Source: that each basin has a label of its own is this project's own.
use Rattle.std.specs.Prelude.{◌≡◌, ◌↔◌}
use Rattle.drain_rules.specs.Names.{ℤ, pos, IsSome, IsAdmitted, LabelSet, Cell, Rule, Rules, IsTried, tried, IsEarlier, Values, Grid, Products, IsInside, HasData, Profile, HoldsAt, SharedLabelHolds}
use Rattle.drain_rules.specs.Compared.{with_labels}

-- the values of a data cell with code 0
pub record IsOutletByCode (v : Values) : Type 0 where
  pub has_data : IsSome v.z
  pub code : v.dir ≡ pos 0

-- they have this label
pub record IsLabelOf (v : Values) (label : ℤ) : Type 0 where
  pub outlet : IsOutletByCode v
  pub label_is : label ≡ v.bas

-- a new label has to be admitted at the cell: it is a data cell with code 0 whose label no earlier one has, and one's own
-- rules hold there and at each earlier cell
pub record IsNewLabelAt (profile : Profile) (IsOwn : Rule → Type 0) (g : Grid) (ps : Products) (c : Cell) : Type 0 where
  pub has_data : HasData g c
  pub code : ps.dir c ≡ pos 0
  pub is_new : SharedLabelHolds g ps c
  pub here : (rule : Rule) → IsOwn rule → HoldsAt profile g ps c rule
  pub before : (b : Cell) (rule : Rule) → IsInside g b → IsEarlier b c → IsOwn rule → HoldsAt profile g ps b rule

-- there is such a cell, by these rules
abbrev pub HasNewLabel : Rules → Grid → Products → Type 0
HasNewLabel rules g ps = (c : Cell) × IsNewLabelAt (tried rules) (IsTried rules.judged) g ps c

-- a data cell with code 0 before this place in row order has the label
pub record IsLabelBefore (g : Grid) (ps : Products) (place : Cell) (label : ℤ) : Type 0 where
  pub cell : Cell
  pub earlier : IsEarlier cell place
  pub has_data : HasData g cell
  pub code : ps.dir cell ≡ pos 0
  pub label_is : label ≡ ps.bas cell

-- the labels that were admitted are exactly those of the cells before this place
abbrev pub AreLabelsBefore : Grid → Products → Cell → LabelSet → Type 0
AreLabelsBefore g ps place labels = (label : ℤ) → IsAdmitted labels label ↔ IsLabelBefore g ps place label

-- an outlet with these values has none of the labels that were admitted
abbrev pub HasNoLabel : LabelSet → Values → Type 0
HasNoLabel labels v = IsOutletByCode v → ¬ IsAdmitted labels v.bas

-- these rules of a patch, and SharedLabel against the labels that were admitted
abbrev pub labelled_profile : Profile → LabelSet → Profile
labelled_profile profile labels = with_labels (HasNoLabel labels) profile
