-- The header of a raster that is missing beside another one, whose pixels are a byte each.
-- Source: the Esri description of BIL headers; sizes, byte order and the no-data number are this project's own
use Rattle.std.specs.Prelude.{◌≡◌}
use Rattle.drain_sets.specs.Names.{ℕ, List, Some, pos, false, Result, Ok, Err, Whole, Least, Fields}
use Rattle.drain_header.specs.declared.fault.HeaderFault.{HeaderFault}
use Rattle.drain_header.specs.Faults.{AnswersOf, Describes, DescribesOf}
use Rattle.drain_header.specs.Text.{text_of}
use Rattle.drain_header.specs.Lines.{kind_of}

-- of a raster that lies as one with this header does: a byte without a sign for each pixel, nothing to skip, rows without
-- padding, 255 for no data
abbrev pub map_header : Fields → Fields
map_header h = record {
  rows = h.rows;
  cols = h.cols;
  bits = 8;
  order = Least;
  signed = false;
  skip = 0;
  row_bytes = h.cols;
  place = h.place;
  nodata = Some (pos 255);
  kind = Whole;
}

-- the text of that header beside a text that describes one; beside a text with a fault the same text
abbrev pub missing_text : List ℕ → Result Fields HeaderFault → List ℕ
missing_text there (Ok h) = text_of (map_header h)
missing_text there (Err fault) = there

-- the text is that one, by the answer to the text that is there
pub record IsMissingText (there text : List ℕ) : Type 0 where
  pub answer : Result Fields HeaderFault
  pub answers : AnswersOf (kind_of there) there answer
  pub text_is : text ≡ missing_text there answer

-- beside a text that describes a header, the text describes that of a map
abbrev pub ReadsAsMap : List ℕ → List ℕ → Type 0
ReadsAsMap there text = (h : Fields) → DescribesOf (kind_of there) there h → Describes text (map_header h)
