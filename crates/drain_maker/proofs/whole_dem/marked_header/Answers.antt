use Rattle.drain_maker.proofs.Names.{rules, sym, ap, subst, ◌∙◌, to_z-of_z, IsFloatNumber, IsNoData, con_no_data, con_number, con_float}
use Rattle.std.proofs.Common.{w64}
use Rattle.drain_maker.proofs.whole_dem.marked_header.Goals as goal

pub invariant_of-result : goal.invariant_of-result
invariant_of-result c =
    let h = c.header.inside in
    let within = c.header.invariant in
    let number = sym (to_z-of_z w64 c.con_no_data.result (search rules) ∙ c.con_no_data.ensures ∙ ap con_no_data (sym c.header.view_is)) in
    record {
      some_row = within.some_row;
      rows_fit = within.rows_fit;
      some_col = within.some_col;
      cols_fit = within.cols_fit;
      bits_ok = within.bits_ok;
      skip_fits = within.skip_fits;
      row_bytes_fit = within.row_bytes_fit;
      row_holds = within.row_holds;
      ulx_ok = within.ulx_ok;
      uly_ok = within.uly_ok;
      xdim_ok = within.xdim_ok;
      ydim_ok = within.ydim_ok;
      nodata_ok = subst (λ z. ∥ IsNoData z ∥₁) number (con_number h.kind h.nodata within.nodata_ok);
      float_bits = within.float_bits;
      float_signed = within.float_signed;
      float_nodata = λ single. subst (λ z. ∥ IsFloatNumber z ∥₁) number ∣ con_float h.kind h.nodata within.float_nodata single ∣₁;
    }
