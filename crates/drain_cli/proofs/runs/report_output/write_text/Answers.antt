use Rattle.drain_cli.proofs.Names.{List, ℕ, sym, subst, ◌∙◌, WritesFile}
use Rattle.drain_sets.proofs.FileWrites.{no_memory}
use Rattle.drain_cli.proofs.ReadReports.{readable, some_text, text_is}
use Rattle.drain_cli.proofs.runs.report_output.write_text.Goals as goal

pub returns-in_default-clause-written : goal.returns-in_default-clause-written
returns-in_default-clause-written g c = no_memory g.F.ByteSink c.args.file.now _ (some_text c.args.window.now)

pub returns-clause-written : goal.returns-clause-written
returns-clause-written g c =
    subst (λ (text : List ℕ). WritesFile g.F.ByteSink c.args.file.now c.write_bytes.new.to text c.write_bytes.result)
    (c.deref.ensures.value ∙ c.in-Ok.ensures.written ∙ sym (text_is c.args.window.now)) c.write_bytes.ensures

pub returns-clause-readable : goal.returns-clause-readable
returns-clause-readable g c = readable c.args.window.now c.write_bytes.result c.in-Ok.ensures.in_range
