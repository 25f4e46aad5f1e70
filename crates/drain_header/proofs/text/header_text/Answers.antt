use Rattle.drain_header.proofs.Names.{sym, ◌∙◌, ap, subst, HeightKind, Whole, Single, Fields, nodata_line, IsFloatLine, IsTextOfKind}
use Rattle.std.proofs.Common.{◌≡◌, ℕ, List, [], ◌++◌}
use Rattle.drain_header.specs.Text.{shape_lines, pixel_lines, place_lines}
use Rattle.drain_header.proofs.Bounds.{float_known}
use Rattle.drain_header.proofs.text.header_text.Goals as goal
use Rattle.drain_header.proofs.text.header_text.Goals.{in-Whole+in_ok-push_nodata-in-Whole, in-Single+in_ok-push_float-in-Single}

pub push_float-requires : goal.push_float-requires
push_float-requires c = float_known c.header.inside.nodata (c.header.invariant.float_nodata c.in-Single.is)

-- the parts of a text, one after another
joined : (h : Fields) (t0 t1 t2 t3 t4 end : List ℕ) → t0 ≡ [] → t1 ≡ t0 ++ shape_lines h → t2 ≡ t1 ++ pixel_lines h → t3 ≡ t2 ++ place_lines h.place → t4 ≡ t3 ++ end
    → t4 ≡ shape_lines h ++ pixel_lines h ++ place_lines h.place ++ end
joined h t0 t1 t2 t3 t4 end empty shape pixels place last =
    last
    ∙ ap (λ t. t ++ end) (place ∙ ap (λ t. t ++ place_lines h.place) (pixels ∙ ap (λ t. t ++ pixel_lines h) (shape ∙ ap (λ t. t ++ shape_lines h) empty)))

of_kind : (kind : HeightKind) (h : Fields) (text : List ℕ) → h.kind ≡ kind → IsTextOfKind kind h text → IsTextOfKind h.kind h text
of_kind kind h text is told = subst (λ (k : HeightKind). IsTextOfKind k h text) (sym is) told

pub returns : goal.returns
returns c =
    let h = c.args.header.now in
    let view = c.header.view_is in
    let kind = ap (λ (g : Fields). g.kind) (sym view) in
    let place = c.in_ok-push_place.ensures ∙ ap (λ (g : Fields). c.push_pixels.new.text.items ++ place_lines g.place) view in
    let text = λ (end : List ℕ) (last : c.match-header.text.items ≡ c.push_place.new.text.items ++ end).
    joined h c.new-text.result.items c.push_shape.new.text.items c.push_pixels.new.text.items c.push_place.new.text.items c.match-header.text.items end c.new-text.ensures.items c.in_ok-push_shape.ensures c.in_ok-push_pixels.ensures place last in
    elim c.match-header.branch [
      | in-Whole+in_ok-push_nodata-in-Whole w ↦ of_kind Whole h c.match-header.text.items (kind ∙ w.in-Whole.is)
          (text (nodata_line h.nodata) (rw w.text-is (w.in_ok-push_nodata-in-Whole.ensures ∙ ap (λ (g : Fields). c.push_place.new.text.items ++ nodata_line g.nodata) view)))
      | in-Single+in_ok-push_float-in-Single w ↦
          (let found = w.in_ok-push_float-in-Single.ensures in
          of_kind Single h c.match-header.text.items (kind ∙ w.in-Single.is)
          (found.0, subst (λ (g : Fields). IsFloatLine g.nodata found.0) view found.1, text found.0 (rw w.text-is found.2)))
    ]
