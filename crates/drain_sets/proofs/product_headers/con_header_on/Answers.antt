use Rattle.drain_sets.proofs.Names.{rules, ◌*◌, ◌/◌, ◌≤◌, arith, sym, ap, subst, ◌∙◌, to_z-of_z, IsFloatNumber, IsNoData, con_no_data}
use Rattle.std.proofs.Common.{w64}
use Rattle.drain_sets.proofs.HeaderBounds.{con_number, packed_fits, packed_holds}
use Rattle.drain_sets.proofs.HeaderBounds.{con_float}
use Rattle.drain_sets.proofs.product_headers.con_header_on.Goals as goal

pub invariant_of-result : goal.invariant_of-result
invariant_of-result c =
    let h = c.elevations.inside in
    let within = c.elevations.invariant in
    let bytes = c.from.ensures in
    let number = sym (to_z-of_z w64 c.con_no_data.result (search rules) ∙ c.con_no_data.ensures ∙ ap con_no_data (sym c.elevations.view_is)) in
    record {
      some_row = within.some_row;
      rows_fit = within.rows_fit;
      some_col = within.some_col;
      cols_fit = within.cols_fit;
      bits_ok = within.bits_ok;
      skip_fits = omega arith;
      row_bytes_fit = subst (λ n. h.cols * n ≤ 4294967295) (sym bytes) (packed_fits h.bits h.cols within.bits_ok within.cols_fit);
      row_holds = subst (λ n. h.cols * h.bits / 8 ≤ h.cols * n) (sym bytes) (packed_holds h.bits h.cols within.bits_ok);
      ulx_ok = within.ulx_ok;
      uly_ok = within.uly_ok;
      xdim_ok = within.xdim_ok;
      ydim_ok = within.ydim_ok;
      nodata_ok = subst (λ z. ∥ IsNoData z ∥₁) number (con_number h.kind h.nodata within.nodata_ok);
      float_bits = within.float_bits;
      float_signed = within.float_signed;
      float_nodata = λ single. subst (λ z. ∥ IsFloatNumber z ∥₁) number ∣ con_float h.kind h.nodata within.float_nodata single ∣₁;
    }
