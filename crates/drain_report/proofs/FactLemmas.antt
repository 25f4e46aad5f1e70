-- The numbers of facts fit 64 bits.
use Rattle.drain_report.proofs.Names.{◌≡◌, ◌++◌, ℕ, ℤ, pos, Bool, true, false, List, [], ◌∷◌, arith, refl, sym, ap, ◌∙◌, ◌<◌, ◌^◌, Option, None, Some, IfSome, IsSome, codes, Cell, Values, AreInRange, NoDataNumbers, IsNoData, IsPixel, UnionVerdict, Accepted, Rejected, Place, UnionGrid, Tiles, Dem, line, IsLong, AreLong, IsNarrow, flag_number, CountsFit, VerdictFits, verdict_line, cell_numbers, IsOutlet, outlet_numbers, other_numbers, IsPlace, place_numbers, IsAuditNoData, nodata_numbers, count_numbers, fault_numbers, GridFits, grid_line, IsPart, part_line, part_numbers, w64, fits_signed_from_abs, ints, Outlet}
use Rattle.std.specs.Prelude.{slice_index_or}
use mir.Val.{bool_byte}
use Rattle.drain_grid.specs.Extent.{Extent}
use Rattle.drain_union.specs.declared.verdict.Fault.{Fault}
use Rattle.drain_union.specs.declared.verdict.UnionCounts.{UnionCounts}
use Rattle.drain_union.specs.declared.place.InnerSides.{InnerSides}
use Rattle.drain_union.specs.declared.union_grid.DemPart.{DemPart}
use Rattle.drain_grid.specs.Rule.{rule_number}
use Rattle.drain_grid.proofs.AllRules.{numbered}
use Rattle.drain_union.specs.SeamValues.{AreOfSeam, seam_values}

-- Facts with the same numbers are the same; a verdict is of one kind.

pub if_some : {X : Type 0} {P Q : X → Type 0} (r : Option X) → ((x : X) → P x → Q x) → IfSome r P → IfSome r Q
if_some None f h = h
if_some (Some x) f h = f x h

pub some_of : {X : Type 0} (r : Option X) (v w : X) → IsSome r → IfSome r (λ x. x ≡ w) → w ≡ v → r ≡ Some v
some_of None v w some is same = cc
some_of (Some x) v w some is same = ap (λ y. Some y) (is ∙ same)

pub same_values : (v : Values) (z : Option ℤ) (sink : Bool) (con dir acc bas : ℤ) → AreOfSeam v → z ≡ v.z → sink ≡ v.sink → con ≡ v.con → dir ≡ v.dir → acc ≡ v.acc → bas ≡ v.bas
    → seam_values z sink con dir acc bas ≡ v
same_values v z sink con dir acc bas of a b c d e f =
    λ i. record { z = a i; sink = b i; con = c i; dir = d i; acc = e i; bas = f i; spl = sym of.spl i; rnk = (d ∙ sym of.rnk) i }

pub flag_is : (b : Bool) → pos (bool_byte b) ≡ flag_number b
flag_is true = refl
flag_is false = refl

pub two_same : {a b c d : ℤ} → a ≡ c → b ≡ d → a ∷ b ∷ [] ≡ c ∷ d ∷ []
two_same aa bb = rw (aa, bb) refl

pub five_same : {a b c d e f g h i j : ℤ} → a ≡ f → b ≡ g → c ≡ h → d ≡ i → e ≡ j → a ∷ b ∷ c ∷ d ∷ e ∷ [] ≡ f ∷ g ∷ h ∷ i ∷ j ∷ []
five_same aa bb cc' dd ee = rw (aa, bb, cc', dd, ee) refl

-- a line is of one kind
pub not_both_kinds : (text x y : List ℕ) (ns ms : List ℤ) → text ≡ line (codes "accepted") ns ++ x → text ≡ line (codes "rejected") ms ++ y → ⊥
not_both_kinds text x y ns ms p q = let e : 97 ≡ 114 = ap (λ l. slice_index_or l 0 0) (sym p ∙ q) in absurd (omega (arith, e))

-- what holds of both kinds holds of a verdict
pub by_kind : (Q : UnionVerdict → Type 0) (text rest : List ℕ) → ((c : UnionCounts) → CountsFit c → text ≡ verdict_line (Accepted c) ++ rest → Q (Accepted c))
    → ((f : Fault) → IsNarrow f.cell → text ≡ verdict_line (Rejected f) ++ rest → Q (Rejected f))
    → (v : UnionVerdict) → VerdictFits v → text ≡ verdict_line v ++ rest → Q v
by_kind Q text rest accepted rejected (Accepted c) fit is = accepted c fit is
by_kind Q text rest accepted rejected (Rejected f) fit is = rejected f fit is

pub same_place : (p : Place) (top left : ℕ) (extent : Extent) (inner : InnerSides) → top ≡ p.top → left ≡ p.left → extent ≡ p.extent → inner ≡ p.inner
    → record { top = top; left = left; extent = extent; inner = inner } ≡ p
same_place p top left extent inner a b c d = rw (a, b, c, d) refl

pub same_nodata : (n : NoDataNumbers) (con dir acc bas : ℤ) → con ≡ n.con → dir ≡ n.dir → acc ≡ n.acc → bas ≡ n.bas → n.spl ≡ pos 0 → n.rnk ≡ pos 0
    → record { con = con; dir = dir; acc = acc; bas = bas; spl = pos 0; rnk = pos 0 } ≡ n
same_nodata n con dir acc bas a b c d e f = λ i. record { con = a i; dir = b i; acc = c i; bas = d i; spl = sym e i; rnk = sym f i }

pub narrow_long : (n : ℕ) → n < 2 ^ 32 → IsLong (pos n)
narrow_long n small = fits_signed_from_abs w64 (pos n) (omega arith)

pub outlet_long : (o : Outlet) → IsOutlet o → AreLong (outlet_numbers o)
outlet_long o fit = (fit.label, (narrow_long o.cell.row fit.cell.row, (narrow_long o.cell.col fit.cell.col, tt)))

pub flag_long : (b : Bool) → IsLong (flag_number b)
flag_long true = narrow_long 1 (omega arith)
flag_long false = narrow_long 0 (omega arith)

pub pixel_long : (n : ℤ) → IsPixel n → IsLong n
pixel_long n is = let low = is.low in let high = is.high in fits_signed_from_abs w64 n (omega (arith, ints, low, high))

pub height_long : (z : Option ℤ) → IfSome z IsPixel → IfSome z IsLong
height_long None ok = tt
height_long (Some z) ok = pixel_long z ok

pub others_long : (v : Values) → AreInRange v → AreLong (other_numbers v)
others_long v fit =
    (flag_long v.sink, (pixel_long v.con fit.con_ok, (pixel_long v.dir fit.dir_ok, (pixel_long v.acc fit.acc_ok, (pixel_long v.bas fit.bas_ok, tt)))))

pub narrow_cell_long : (c : Cell) → IsNarrow c → AreLong (cell_numbers c)
narrow_cell_long c fit = (narrow_long c.row fit.row, (narrow_long c.col fit.col, tt))

-- the first cell of a window, and its size
abbrev pub corner_of : Place → Cell
corner_of p = record { row = p.top; col = p.left }

abbrev pub size_of : Place → Cell
size_of p = record { row = p.extent.rows; col = p.extent.cols }

pub corner_narrow : (p : Place) → IsPlace p → IsNarrow (corner_of p)
corner_narrow p fit = record { row = fit.top; col = fit.left }

pub size_narrow : (p : Place) → IsPlace p → IsNarrow (size_of p)
size_narrow p fit = record { row = fit.extent.rows; col = fit.extent.cols }

pub place_long : (p : Place) → IsPlace p → AreLong (place_numbers p)
place_long p fit =
    let size = size_narrow p fit in (
      narrow_long p.top fit.top,
      (
        narrow_long p.left fit.left,
        (
          narrow_long p.extent.rows size.row,
          (
            narrow_long p.extent.cols size.col,
            (flag_long p.inner.north, (flag_long p.inner.south, (flag_long p.inner.west, (flag_long p.inner.east, tt)))),
          ),
        ),
      ),
    )

pub nodata_number_long : (n : ℤ) → IsNoData n → IsLong n
nodata_number_long n is = let low = is.low in let high = is.high in fits_signed_from_abs w64 n (omega (arith, ints, low, high))

pub nodata_long : (n : NoDataNumbers) → IsAuditNoData n → AreLong (nodata_numbers n)
nodata_long n fit =
    (nodata_number_long n.con fit.con, (nodata_number_long n.dir fit.dir, (nodata_number_long n.acc fit.acc, (nodata_number_long n.bas fit.bas, tt))))

pub wide_long : (n : ℕ) → n < 2 ^ 63 → IsLong (pos n)
wide_long n small = fits_signed_from_abs w64 (pos n) (omega arith)

pub counts_long : (c : UnionCounts) → CountsFit c → AreLong (count_numbers c)
counts_long c fit = (
  narrow_long c.rows fit.rows,
  (
    narrow_long c.cols fit.cols,
    (wide_long c.data_cells fit.data_cells, (wide_long c.raised fit.raised, (wide_long c.outlets fit.outlets, tt))),
  ),
)

pub fault_long : (f : Fault) → IsNarrow f.cell → AreLong (fault_numbers f)
fault_long f fit =
    let few = (numbered f.rule).1 in
    (narrow_long (rule_number f.rule) (omega (arith, few)), (narrow_long f.cell.row fit.row, (narrow_long f.cell.col fit.col, tt)))

-- the line of a grid is of one kind

pub part_long : (d : DemPart) → IsPart d → AreLong (part_numbers d)
part_long d fit = (
  narrow_long d.at.row fit.at.row,
  (
    narrow_long d.at.col fit.at.col,
    (
      fit.ulx.units,
      (fit.ulx.parts, (fit.uly.units, (fit.uly.parts, (fit.xdim.units, (fit.xdim.parts, (fit.ydim.units, (fit.ydim.parts, tt))))))),
    ),
  ),
)

pub not_both_grids : (text x y : List ℕ) (ns ms : List ℤ) → text ≡ line (codes "side") ns ++ x → text ≡ line (codes "dem") ms ++ y → ⊥
not_both_grids text x y ns ms p q = let e : 115 ≡ 100 = ap (λ l. slice_index_or l 0 0) (sym p ∙ q) in absurd (omega (arith, e))

-- what holds of both kinds holds of a grid
pub by_grid : (Q : UnionGrid → Type 0) (text rest : List ℕ) → ((n : ℕ) → n < 2 ^ 32 → text ≡ grid_line (Tiles n) ++ rest → Q (Tiles n))
    → ((d : DemPart) → IsPart d → text ≡ part_line d ++ rest → Q (Dem d))
    → (g : UnionGrid) → GridFits g → text ≡ grid_line g ++ rest → Q g
by_grid Q text rest tiles dem (Tiles n) fit is = tiles n fit is
by_grid Q text rest tiles dem (Dem d) fit is = dem d fit is
