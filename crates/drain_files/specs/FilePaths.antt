-- The paths of products' files, and the name in a tile's path.
use Rattle.std.specs.Prelude.{◌≡◌, ◌≢◌, ◌⊎◌, ◌==◌, ◌∷◌, ◌++◌, if◌then◌else◌}
use Rattle.drain_files.specs.Names.{ℕ, List, [], codes, decimal, All, ends_with, product_name}
use Rattle.drain_args.specs.declared.requests.DemArgs.{DemArgs}
use Rattle.drain_args.specs.declared.requests.DemEnding.{DemEnding}
use Rattle.drain_args.specs.declared.requests.DemEnding.TheVariants.{Lower, Upper}
use Rattle.drain_grid.specs.declared.product.Product.{Product}
use Rattle.drain_grid.specs.declared.product.Product.TheVariants.{Con, Dir, Acc, Bas, Rnk}
use Rattle.drain_grid.specs.SetProduct.{product_of}
use Rattle.drain_sets.specs.declared.set_files.FilePart.{FilePart}
use Rattle.drain_sets.specs.declared.set_files.FilePart.TheVariants.{Header, Raster}
use Rattle.drain_sets.specs.declared.set_files.SetFile.{SetFile}

abbrev pub slash : ℕ
slash = 47

-- what separates the path of a folder from the name of a file in it: a slash, or nothing after a slash
abbrev pub separator : List ℕ → List ℕ
separator folder = if ends_with (λ a b. a == b) folder (slash ∷ []) then [] else slash ∷ []

-- the path of a product's file with this ending, as DIR/con.hdr
abbrev pub product_path : List ℕ → Product → List ℕ → List ℕ
product_path folder product ending = folder ++ separator folder ++ product_name product ++ ending

abbrev pub header_ending : List ℕ
header_ending = codes ".hdr"

abbrev pub raster_ending : List ℕ
raster_ending = codes ".bil"

-- the ending of a file's name, by what of a product it holds
abbrev pub ending_of : FilePart → List ℕ
ending_of Header = header_ending
ending_of Raster = raster_ending

-- the ending of the file of a raster of elevations, in the case of the raster's
abbrev pub dem_file_ending : DemEnding → FilePart → List ℕ
dem_file_ending Lower part = ending_of part
dem_file_ending Upper Header = codes ".HDR"
dem_file_ending Upper Raster = codes ".BIL"

-- its path, the header's next to the raster's
abbrev pub dem_file : DemArgs → FilePart → List ℕ
dem_file dem part = dem.stem.now ++ dem_file_ending dem.ending part

-- the name is the whole path, or follows the path's last slash
pub record IsLastPart (path name : List ℕ) : Type 0 where
  pub ends : (path ≡ name) ⊎ ((folder : List ℕ) × (path ≡ folder ++ slash ∷ name))
  pub has_no_slash : All (λ byte. byte ≢ slash) name

-- the folder in a path: what ends in its last slash, nothing if it has none
pub record IsFolderPart (path folder : List ℕ) : Type 0 where
  pub name : List ℕ
  pub parts : path ≡ folder ++ name
  pub no_slash_behind : All (λ byte. byte ≢ slash) name
  pub ends : (folder ≡ []) ⊎ ((front : List ℕ) × (folder ≡ front ++ slash ∷ []))

-- the path of a file of a product set in this folder
abbrev pub IsPathOf : List ℕ → SetFile → List ℕ → Type 0
IsPathOf folder file path = path ≡ product_path folder (product_of file.product) (ending_of file.part)

-- the name of an output that isn't whole yet, as drain-1.part
abbrev pub part_name : ℕ → List ℕ
part_name number = codes "drain-" ++ decimal number ++ codes ".part"

-- the name of a product that a check reads
abbrev pub IsProductName : List ℕ → Type 0
IsProductName name = (name ≡ product_name Con) ⊎ ((name ≡ product_name Dir) ⊎ ((name ≡ product_name Acc) ⊎ ((name ≡ product_name Bas) ⊎ (name ≡ product_name Rnk))))
