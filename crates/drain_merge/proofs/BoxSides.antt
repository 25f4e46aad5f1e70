-- A place lies in a box where its rows and its columns do.
use Rattle.drain_merge.proofs.Names.{Place, LiesInBox}
use Rattle.drain_merge.specs.Boxes.{ColsLieIn, RowsLieIn}

pub in_box : (box p : Place) → RowsLieIn box p → ColsLieIn box p → LiesInBox box p
in_box box p rows cols = record {
  rows_from = rows.from;
  rows_to = rows.to;
  cols_from = cols.from;
  cols_to = cols.to;
  north = rows.north;
  south = rows.south;
  west = cols.west;
  east = cols.east;
}

pub rows_in : (box p : Place) → LiesInBox box p → RowsLieIn box p
rows_in box p lies = record { from = lies.rows_from; to = lies.rows_to; north = lies.north; south = lies.south }

pub cols_in : (box p : Place) → LiesInBox box p → ColsLieIn box p
cols_in box p lies = record { from = lies.cols_from; to = lies.cols_to; west = lies.west; east = lies.east }
