-- What the clauses about the bytes of a call rest on.
use Rattle.drain_c.specs.declared.call.Call.{Call}
use Rattle.drain_c.specs.Calls.{AreOfCall}
use Rattle.drain_c.specs.Given.{CallInputs}

-- whatever the bytes of a call are, there are inputs that are these bytes
abbrev pub BytesAreInputs : Type 0
BytesAreInputs = (call : Call) → (i : CallInputs) × AreOfCall call i
