-- What it means that judged rasters are right: they are part of a correct set.
use Rattle.std.specs.Prelude.{◌≡◌, ◌≢◌, ◌↔◌}
use Rattle.drain_laws.specs.Names.{IsNone, Cell, IsCorrect, Grid, Products, HasData, IsInside, NoDataNumbers, RulesHold, RunEnds}
use Rattle.drain_grid.specs.Path.{IsLeastSurface}
use Rattle.drain_grid.specs.declared.judged.Judged.{Judged}
use Rattle.drain_grid.specs.declared.judged.Judged.TheVariants.{Con, ConDir, ConDirAcc, ConDirBas, All, AllWithRanks}
use Rattle.drain_grid.specs.RulesAbout.{IsPartRule, part_rules}

-- the judged rasters of one set, and the others of another
abbrev pub joined : Judged → Products → Products → Products
joined Con ps rest = record { con = ps.con; dir = rest.dir; acc = rest.acc; bas = rest.bas; spl = rest.spl; rnk = rest.rnk }
joined ConDir ps rest = record { con = ps.con; dir = ps.dir; acc = rest.acc; bas = rest.bas; spl = rest.spl; rnk = rest.rnk }
joined ConDirAcc ps rest = record { con = ps.con; dir = ps.dir; acc = ps.acc; bas = rest.bas; spl = rest.spl; rnk = rest.rnk }
joined ConDirBas ps rest = record { con = ps.con; dir = ps.dir; acc = rest.acc; bas = ps.bas; spl = rest.spl; rnk = rest.rnk }
joined All ps rest = record { con = ps.con; dir = ps.dir; acc = ps.acc; bas = ps.bas; spl = rest.spl; rnk = rest.rnk }
joined AllWithRanks ps rest = ps

-- the same of their no-data numbers
abbrev pub joined_numbers : Judged → NoDataNumbers → NoDataNumbers → NoDataNumbers
joined_numbers Con nodata rest = record { con = nodata.con; dir = rest.dir; acc = rest.acc; bas = rest.bas; spl = rest.spl; rnk = rest.rnk }
joined_numbers ConDir nodata rest = record { con = nodata.con; dir = nodata.dir; acc = rest.acc; bas = rest.bas; spl = rest.spl; rnk = rest.rnk }
joined_numbers ConDirAcc nodata rest = record { con = nodata.con; dir = nodata.dir; acc = nodata.acc; bas = rest.bas; spl = rest.spl; rnk = rest.rnk }
joined_numbers ConDirBas nodata rest = record { con = nodata.con; dir = nodata.dir; acc = rest.acc; bas = nodata.bas; spl = rest.spl; rnk = rest.rnk }
joined_numbers All nodata rest = record { con = nodata.con; dir = nodata.dir; acc = nodata.acc; bas = nodata.bas; spl = rest.spl; rnk = rest.rnk }
joined_numbers AllWithRanks nodata rest = nodata

-- some values of the other rasters make with the given ones a correct set
abbrev pub IsPartOfCorrect : Judged → Grid → Products → NoDataNumbers → Type 0
IsPartOfCorrect judged g ps nodata = (rest : Products) × (numbers : NoDataNumbers) × IsCorrect g (joined judged ps rest) (joined_numbers judged nodata numbers)

-- the heights are the filled surface, and have their no-data number exactly at voids
pub record IsRightSurface (g : Grid) (ps : Products) (nodata : NoDataNumbers) : Type 0 where
  pub voids : (c : Cell) → IsInside g c → IsNone (g.elevation c) → ps.con c ≡ nodata.con
  pub complete : (c : Cell) → HasData g c → ps.con c ≢ nodata.con
  pub least : IsLeastSurface g ps.con

-- directions are judged, and not all four rasters
abbrev pub IsSomeWays : Judged → Type 0
IsSomeWays Con = ⊥
IsSomeWays ConDir = Unit {0}
IsSomeWays ConDirAcc = Unit {0}
IsSomeWays ConDirBas = Unit {0}
IsSomeWays All = ⊥
IsSomeWays AllWithRanks = ⊥

-- the judged rasters are right: all four are correct, or the judged ones are part of a correct set
abbrev pub AreRight : Judged → Grid → Products → NoDataNumbers → Type 0
AreRight Con = IsPartOfCorrect Con
AreRight ConDir = IsPartOfCorrect ConDir
AreRight ConDirAcc = IsPartOfCorrect ConDirAcc
AreRight ConDirBas = IsPartOfCorrect ConDirBas
AreRight All = IsCorrect
AreRight AllWithRanks = IsCorrect

-- What the rules about judged rasters mean together.

-- judged rasters with directions are part of a correct set exactly where every path ends and every rule about them holds
-- at every cell
abbrev pub PartIsLocal : Type 0
PartIsLocal =
    (judged : Judged) (g : Grid) (ps : Products) (nodata : NoDataNumbers) → IsSomeWays judged →
    IsPartOfCorrect judged g ps nodata ↔ (((c : Cell) → HasData g c → RunEnds g ps c) × RulesHold (part_rules judged nodata) (IsPartRule judged) g ps)

-- given heights alone are part of a correct set exactly where they are the filled surface, with their no-data number
-- exactly at voids
abbrev pub SurfaceIsPart : Type 0
SurfaceIsPart = (g : Grid) (ps : Products) (nodata : NoDataNumbers) → IsPartOfCorrect Con g ps nodata ↔ IsRightSurface g ps nodata
