-- The names that this crate's proofs cite, passed on from one place. Declares nothing.
pub use Rattle.drain_device.specs.Counts.{Answered, counted, stalls_after}
pub use Rattle.drain_device.specs.Failing.{GivesUp, GivesUpWriting, PartFails, ReadFails, full_patience}
pub use Rattle.drain_device.specs.Reads.{TakesAtMost}
pub use Rattle.drain_device.specs.RowSteps.{Coming, EndComes, EndsWithin, Gives, IsNthRow, PartComes, ReadsWithin, RowComes, Steps, after_rows}
pub use Rattle.drain_device.specs.RowSteps.Coming.{End, Next, Wrong}
pub use Rattle.drain_device.specs.declared.counts.FaultCounts.{FaultCounts}
pub use Rattle.drain_device.specs.declared.row_source.ReadFault.{ReadFault}
pub use Rattle.drain_device.specs.declared.row_source.ReadFault.TheVariants.{AlreadyFailed, OutOfMemory, ReadFailed, WrongLength}
pub use Rattle.std.proofs.Common.{Err, IsErrOf, List, None, Ok, Option, Result, Some, [], ap, arith, drop, inl, inr, length, length-append, refl, subst, suc, sym, take, true, vec_capacity, vec_len, zero, ℕ, ℤ, ◌++◌, ◌+◌, ◌-◌, ◌<◌, ◌↔◌, ◌∙◌, ◌∷◌, ◌≡◌, ◌≢◌, ◌≤◌, ◌⊎◌}
pub use Rattle.std.proofs.KnownBytes.{Appends-trans, Consumes-nil, Consumes-trans, Keeps-refl, Keeps-trans}
pub use Rattle.std.proofs.Math.Seq.{take-add, take-append-add}
pub use Rattle.std.proofs.lemmas.List.{length-take, length-take-le, take-append-le, take_rest}
pub use Rattle.std.specs.Io.KnownBytes.{Appends, Consumes, IsAtEnd, Keeps}
