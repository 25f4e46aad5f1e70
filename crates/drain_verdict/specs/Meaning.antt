-- What the bytes of a check mean: tiles, a grid, its products, and their no-data numbers.
use Rattle.drain_verdict.specs.Names.{ℤ, List, map, Cell, SetProduct, SinkLine, Whole, NoDataNumbers, Fields, samples_of, first_value, Tiling, extent_of}
use Rattle.drain_grid.specs.Grid as grid
use Rattle.drain_mosaic.specs.Mosaic as mosaic
use Rattle.drain_verdict.specs.Inputs.{Inputs}
use Rattle.drain_verdict.specs.Texts.{SetTexts, grid_on, set_fields, set_listed, set_nodata, set_number, text_numbers, text_products}

-- the named tiles and their samples
abbrev pub tiling_of : Inputs → Tiling
tiling_of i = record { side = i.side; corners = i.corners }

abbrev pub input_tiles : Inputs → List mosaic.Tile
input_tiles i = mosaic.tiles_of i.corners (map samples_of i.tiles)

-- the list of sinks and how far apart cells are, the headers and the rasters
abbrev pub texts_of : Inputs → SetTexts
texts_of i = record { given = i.given; header = i.header; raster = i.raster }

-- the lines that list a cell
abbrev pub listed_in : Inputs → List SinkLine
listed_in i = set_listed (texts_of i)

-- the grid of the elevations and the listed sinks: a cell has the value of the first tile that gives one, its only
-- value if tiles agree
abbrev pub input_grid : Inputs → grid.Grid
input_grid i = grid_on Whole (extent_of (tiling_of i)) (first_value (tiling_of i) (input_tiles i)) (texts_of i)

-- what a product's header says
abbrev pub fields_of : Inputs → SetProduct → Fields
fields_of i p = set_fields Whole (texts_of i) p

-- the number of a product at a cell
abbrev pub input_number : Inputs → SetProduct → Cell → ℤ
input_number i p c = set_number Whole (texts_of i) p c

abbrev pub input_products : Inputs → grid.Products
input_products i = text_products Whole (texts_of i)

-- the no-data number of a product: the header's, or else the product's default
abbrev pub input_nodata : Inputs → SetProduct → ℤ
input_nodata i p = set_nodata Whole (texts_of i) p

abbrev pub nodata_numbers : Inputs → NoDataNumbers
nodata_numbers i = text_numbers Whole (texts_of i)
