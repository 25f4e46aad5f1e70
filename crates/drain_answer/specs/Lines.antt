-- The line for the answer of a check. Its words are this project's own.
use Rattle.std.specs.Prelude.{ℕ, List, ◌++◌, Result, Ok, Err, codes, decimal}
use Rattle.drain_grid.specs.declared.rule.Rule.{Rule}
use Rattle.drain_grid.specs.Rule.{rule_number, rule_name}
use Rattle.drain_grid.specs.Product.{product_name}
use Rattle.drain_hgt.specs.Name.{name_of as tile_name}
use Rattle.drain_header.specs.Faults.{fault_text}
use Rattle.drain_grid.specs.declared.verdict.Counts.{Counts}
use Rattle.drain_grid.specs.declared.verdict.Verdict.{Verdict}
use Rattle.drain_grid.specs.declared.verdict.Verdict.TheVariants.{Accepted, Rejected}
use Rattle.drain_answer.specs.declared.refusal.Refusal.{Refusal}
use Rattle.drain_answer.specs.declared.refusal.Refusal.TheVariants.{BadSide, BadName, NoTiles, RepeatedTile, BoxTooLarge, BadHeader, WrongShape, Misplaced, BadTileLength, RasterShort, SeamMismatch, BadSinkLine, SinkNotData, BadSpacingLine, SpacingRows, BadDemHeader, BadPixelSize, DemShort, OutOfMemory, ReadFailed}

-- accepted rows=R cols=C data=D raised=U
abbrev pub counted_line : ℕ → ℕ → ℕ → ℕ → List ℕ
counted_line rows cols data_cells raised =
    codes "accepted rows=" ++ decimal rows ++ codes " cols=" ++ decimal cols ++ codes " data=" ++ decimal data_cells ++ codes " raised=" ++ decimal raised

-- the same, and outlets=O
abbrev pub accepted_line : Counts → List ℕ
accepted_line c = counted_line c.rows c.cols c.data_cells c.raised ++ codes " outlets=" ++ decimal c.outlets

-- rejected rule=N NAME row=R col=C
abbrev pub rejected_line : Rule → ℕ → ℕ → List ℕ
rejected_line rule row col =
    codes "rejected rule=" ++ decimal (rule_number rule) ++ codes " " ++ rule_name rule ++ codes " row=" ++ decimal row ++ codes " col=" ++ decimal col

-- the line of either
abbrev pub verdict_line : Verdict → List ℕ
verdict_line (Accepted counts) = accepted_line counts
verdict_line (Rejected rule row col) = rejected_line rule row col

-- refused WORD, and what it is about; failed WORD if memory ran out or a source failed
abbrev pub refusal_line : Refusal → List ℕ
refusal_line BadSide = codes "refused BadSide"
refusal_line (BadName i) = codes "refused BadName " ++ decimal i
refusal_line NoTiles = codes "refused NoTiles"
refusal_line (RepeatedTile c) = codes "refused RepeatedTile " ++ tile_name c
refusal_line BoxTooLarge = codes "refused BoxTooLarge"
refusal_line (BadHeader p fault) = codes "refused BadHeader " ++ product_name p ++ codes " " ++ fault_text fault
refusal_line (WrongShape p) = codes "refused WrongShape " ++ product_name p
refusal_line (Misplaced p) = codes "refused Misplaced " ++ product_name p
refusal_line (BadTileLength c) = codes "refused BadTileLength " ++ tile_name c
refusal_line (RasterShort p) = codes "refused RasterShort " ++ product_name p
refusal_line (SeamMismatch c) = codes "refused SeamMismatch row=" ++ decimal c.row ++ codes " col=" ++ decimal c.col
refusal_line (BadSinkLine n) = codes "refused BadSinkLine " ++ decimal n
refusal_line (SinkNotData n) = codes "refused SinkNotData " ++ decimal n
refusal_line (BadSpacingLine n) = codes "refused BadSpacingLine " ++ decimal n
refusal_line (SpacingRows n) = codes "refused SpacingRows " ++ decimal n
refusal_line (BadDemHeader fault) = codes "refused BadHeader dem " ++ fault_text fault
refusal_line BadPixelSize = codes "refused BadPixelSize dem"
refusal_line DemShort = codes "refused RasterShort dem"
refusal_line OutOfMemory = codes "failed OutOfMemory"
refusal_line ReadFailed = codes "failed ReadFailed"

-- the line of any answer
abbrev pub report_line : Result Verdict Refusal → List ℕ
report_line (Ok verdict) = verdict_line verdict
report_line (Err refusal) = refusal_line refusal
