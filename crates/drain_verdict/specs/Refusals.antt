-- What each refusal of a check says of the bytes, and the order in which refusals are reported: those of the tiles' ground
-- with its products.
use Rattle.drain_verdict.specs.Names.{ℕ, Refusal, BadTileLength, RasterShort, SeamMismatch, BadSinkLine, SinkNotData, BadSpacingLine, SpacingRows, DemShort, OutOfMemory, ReadFailed, SetProduct}
use Rattle.drain_rows.specs.declared.row_visitor.WalkStop.{WalkStop}
use Rattle.drain_rows.specs.declared.row_visitor.WalkStop.TheVariants as walk_stop
use Rattle.drain_verdict.specs.GroundSets.{HasShapeIn, NoneStandsIn, StandsIn, order_in}
use Rattle.drain_verdict.specs.Inputs.{Inputs}
use Rattle.drain_verdict.specs.TileGround.{set_of}

-- the product's header gives the rows and columns of the mosaic
abbrev pub HasShape : Inputs → SetProduct → Type 0
HasShape i p = HasShapeIn (set_of i) p

-- what each refusal says
abbrev pub Stands : Inputs → Refusal → Type 0
Stands i refusal = StandsIn (set_of i) refusal

-- the order of the refusals
abbrev pub refusal_order : Inputs → Refusal → ℕ × ℕ
refusal_order i refusal = order_in (set_of i) refusal

-- no refusal of a kind before this one applies
abbrev pub NoneStandsBefore : Inputs → ℕ → Type 0
NoneStandsBefore i kind = NoneStandsIn (set_of i) kind

-- a refusal that comes once bodies are read: of bytes, seams, the list of sinks or a spacing by row, or out of memory, or a failed read
abbrev pub IsOfBodies : Refusal → Type 0
IsOfBodies (BadTileLength c) = Unit {0}
IsOfBodies DemShort = Unit {0}
IsOfBodies (RasterShort p) = Unit {0}
IsOfBodies (SeamMismatch c) = Unit {0}
IsOfBodies (BadSinkLine n) = Unit {0}
IsOfBodies (SinkNotData n) = Unit {0}
IsOfBodies (BadSpacingLine n) = Unit {0}
IsOfBodies (SpacingRows n) = Unit {0}
IsOfBodies OutOfMemory = Unit {0}
IsOfBodies ReadFailed = Unit {0}
IsOfBodies refusal = ⊥

-- the refusal if the walk over rows stopped: the source's, or out of memory
abbrev pub refusal_of : WalkStop Refusal → Refusal
refusal_of (walk_stop.Source refusal) = refusal
refusal_of walk_stop.OutOfMemory = OutOfMemory
