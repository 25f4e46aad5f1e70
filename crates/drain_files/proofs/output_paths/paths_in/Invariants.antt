use Rattle.drain_files.proofs.Names.{◌≡◌, take, vec_len, AllZip, IsPathOf}
use Rattle.std.specs.Prelude.{string_bytes}
use Rattle.drain_files.proofs.output_paths.paths_in.Given as goal

-- the paths so far are those of the files so far
abbrev pub invariant-loop-file : goal.invariant-loop-file
invariant-loop-file l =
    (vec_len l.paths ≡ l.file-index)
    × AllZip (λ file path. IsPathOf l.fn.folder file (string_bytes path)) (take l.file-index l.fn.files) l.paths.items
