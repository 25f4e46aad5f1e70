use Rattle.std.proofs.Common.{Some, None, arith}
use Rattle.std.proofs.lemmas.Str.Pattern.{rfind_char}
use Rattle.drain_files.proofs.PathLemmas.{no_folder, to_last_slash}
use Rattle.drain_files.proofs.file_paths.folder_of.Goals as goal

pub returns-in-Some : goal.returns-in-Some
returns-in-Some c =
    let found = rfind_char 47 c.args.path.now (Some c.in-Some.slash) c.in-Some.ensures.cases (omega arith) in
    to_last_slash c.args.path.now _ c.in-Some.slash c.range.ensures.value found.0 found.1 found.2

pub returns-in-None : goal.returns-in-None
returns-in-None c = no_folder c.args.path.now (rfind_char 47 c.args.path.now None c.in-None.ensures.cases (omega arith))
