-- The types of the crate table and their cases, under one roof, so that a file here names what it uses in one line.
pub use Rattle.table.specs.declared.Cell.{Cell}
pub use Rattle.table.specs.declared.Record.{Record}
pub use Rattle.table.specs.declared.State.{State}
pub use Rattle.table.specs.declared.State.TheVariants.{InProgress, Committed, Aborted}
pub use Rattle.table.specs.declared.Change.{Change}
pub use Rattle.table.specs.declared.After.{After}
pub use Rattle.table.specs.declared.After.TheVariants.{Own, AtL8, AtL11}
pub use Rattle.table.specs.declared.Place.{Place}
pub use Rattle.table.specs.declared.Place.TheVariants.{Idle, L1, L2, L3, L4, L5, L6, L7, L8, L9, L10, L11}
pub use Rattle.table.specs.declared.Place.TheVariants.{H1, H2, H3, H4, H5, H6, H7, H8, Vlx, Read}
pub use Rattle.table.specs.declared.Operation.{Operation}
pub use Rattle.table.specs.declared.Operation.TheVariants.{Llx as InLlx, Scx as InScx, Vlx as InVlx, Read as InRead}
pub use Rattle.table.specs.declared.Task.{Task}
pub use Rattle.table.specs.declared.Link.{Link}
pub use Rattle.table.specs.declared.Machine.{Machine}
pub use Rattle.table.specs.declared.Ask.{Ask}
pub use Rattle.table.specs.declared.Ask.TheVariants.{Llx as AskLlx, Scx as AskScx, Vlx as AskVlx, Read as AskRead, Step as AskStep}
pub use Rattle.table.specs.declared.Call.{Call}
pub use Rattle.table.specs.declared.Refusal.{Refusal}
pub use Rattle.table.specs.declared.Refusal.TheVariants.{OutOfShape, NoSuchTask, TaskBusy, TaskIdle, ListLength, NoSuchRecord, RecordTwice, PlaceOrField, NoLink, NumbersUsed}
pub use Rattle.table.specs.declared.Refusal.TheVariants.{SheetSize, SheetTag, Counts, Distance, EventKind, BufferShort}
pub use Rattle.table.specs.declared.Answer.{Answer}
pub use Rattle.table.specs.declared.Answer.TheVariants.{Accepted, Snapshot, Finalized, Fail, Yes, No, Value, Refused}
pub use Rattle.table.specs.declared.Out.{Out}
pub use Rattle.table.specs.declared.Access.{Access}
pub use Rattle.table.specs.declared.Access.TheVariants.{Nothing, ReadMark, ReadInfo, ReadCell, ReadState, ReadFrozen, Hold, Close, Write, Freeze, Abort, Commit}
pub use Rattle.table.specs.declared.Seen.{Seen}
pub use Rattle.table.specs.declared.Move.{Move}
pub use Rattle.table.specs.declared.Move.TheVariants.{On, Keep, Done, Store, Unlink}
pub use Rattle.std.specs.Prelude.{Result, Ok, Err}

-- what the refusals of a call come to: none applies, or the lowest that does
abbrev pub Check : Type 0
Check = Result (Unit {0}) Refusal
