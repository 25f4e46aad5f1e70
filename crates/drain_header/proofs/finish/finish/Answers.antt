use Rattle.drain_header.proofs.Names.{sym, ◌∙◌, subst, arith, Option, IfSome, Place, IsCoordinate, IsPixelSizeOf, is_pixel_size_of, IsNoDataOf}
use Rattle.std.proofs.Common.{ℕ, ℤ}
use Rattle.drain_header.proofs.AnswerMeaning.{pixel_size-true}
use Rattle.drain_header.proofs.Bounds.{whole_size, float_size, float_sign, whole_nodata, float_nodata_bound, size_taken}
use Rattle.drain_header.proofs.finish.finish.Goals as goal

pub invariant_of-result : goal.invariant_of-result
invariant_of-result c =
    let kind = c.args.kind in
    let taken = size_taken (is_pixel_size_of kind c.number_or-2.result) c.number_or-2.result c.in-Some.bits (sym c.in-Some.is ∙ c.pixel_size.ensures) in
    let size : IsPixelSizeOf kind c.in-Some.bits = subst (λ (n : ℕ). IsPixelSizeOf kind n) taken.1 (pixel_size-true kind c.number_or-2.result taken.0) in
    let nodata : IfSome c.nodata.result (IsNoDataOf kind) = subst (λ (o : Option ℤ). IfSome o (IsNoDataOf kind)) (sym c.nodata.ensures) c.requires.nodata in
    record {
      some_row = (let low = c.requires.rows.low in omega (arith, c.number_or-3.ensures, low));
      rows_fit = (let high = c.requires.rows.high in omega (arith, c.number_or-3.ensures, high));
      some_col = (let low = c.requires.cols.low in omega (arith, c.number_or-cols.ensures, low));
      cols_fit = (let high = c.requires.cols.high in omega (arith, c.number_or-cols.ensures, high));
      bits_ok = ∣ whole_size kind c.in-Some.bits size ∣₁;
      skip_fits = omega arith;
      row_bytes_fit = omega arith;
      row_holds = omega arith;
      ulx_ok = subst (λ (p : Place). IsCoordinate p.ulx) (sym c.place.ensures) c.requires.ulx;
      uly_ok = subst (λ (p : Place). IsCoordinate p.uly) (sym c.place.ensures) c.requires.uly;
      xdim_ok = subst (λ (p : Place). IsCoordinate p.xdim) (sym c.place.ensures) c.requires.xdim;
      ydim_ok = subst (λ (p : Place). IsCoordinate p.ydim) (sym c.place.ensures) c.requires.ydim;
      nodata_ok = ∣ whole_nodata kind c.nodata.result nodata ∣₁;
      float_bits = float_size kind c.in-Some.bits size;
      float_signed = λ single. c.is_signed.ensures ∙ float_sign kind c.args.seen.now single;
      float_nodata = λ single. ∣ float_nodata_bound kind c.nodata.result nodata single ∣₁;
    }
