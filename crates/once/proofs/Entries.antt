-- The entry points: the fresh table, the comparisons of cells, the test of the shape, and the calls.
use mathlib.Core.Path.{sym, ◌∙◌}
use Rattle.table.proofs.same_cell.Kinds as table-same-cell-kinds
use Rattle.table.proofs.same_cell.Reads as table-same-cell-reads
use Rattle.table.proofs.same_cells.Kinds as table-same-cells-kinds
use Rattle.table.proofs.same_cells.Reads as table-same-cells-reads
use Rattle.table.proofs.Machine.fresh.Kinds as table-fresh-kinds
use Rattle.table.proofs.Machine.fresh.Reads as table-fresh-reads
use Rattle.shape.proofs.in_shape.Kinds as shape-in-shape-kinds
use Rattle.shape.proofs.in_shape.Reads as shape-in-shape-reads
use Rattle.machine.proofs.call.Kinds as machine-call-kinds
use Rattle.machine.proofs.call.Reads as machine-call-reads
use Rattle.machine.proofs.llx.Kinds as machine-llx-kinds
use Rattle.machine.proofs.llx.Reads as machine-llx-reads
use Rattle.machine.proofs.scx.Kinds as machine-scx-kinds
use Rattle.machine.proofs.scx.Reads as machine-scx-reads
use Rattle.machine.proofs.vlx.Kinds as machine-vlx-kinds
use Rattle.machine.proofs.vlx.Reads as machine-vlx-reads
use Rattle.machine.proofs.read.Kinds as machine-read-kinds
use Rattle.machine.proofs.read.Reads as machine-read-reads
use Rattle.machine.proofs.step.Kinds as machine-step-kinds
use Rattle.machine.proofs.step.Reads as machine-step-reads
use Rattle.once.proofs.Once.{Once}

pub table_same_cell : Once 0 table-same-cell-kinds.ps table-same-cell-kinds.r table-same-cell-reads.Post
table_same_cell κs a o p s t e f = e ∙ sym f

pub table_same_cells : Once 0 table-same-cells-kinds.ps table-same-cells-kinds.r table-same-cells-reads.Post
table_same_cells κs a o p s t e f = e ∙ sym f

-- one lifetime: the values are lent
pub table_fresh : Once 1 table-fresh-kinds.ps table-fresh-kinds.r table-fresh-reads.Post
table_fresh κs a o p s t e f = e ∙ sym f

pub shape_in_shape : Once 0 shape-in-shape-kinds.ps shape-in-shape-kinds.r shape-in-shape-reads.Post
shape_in_shape κs a o p s t e f = e ∙ sym f

pub machine_call : Once 0 machine-call-kinds.ps machine-call-kinds.r machine-call-reads.Post
machine_call κs a o p s t e f = e ∙ sym f

pub machine_llx : Once 0 machine-llx-kinds.ps machine-llx-kinds.r machine-llx-reads.Post
machine_llx κs a o p s t e f = e ∙ sym f

pub machine_scx : Once 0 machine-scx-kinds.ps machine-scx-kinds.r machine-scx-reads.Post
machine_scx κs a o p s t e f = e ∙ sym f

pub machine_vlx : Once 0 machine-vlx-kinds.ps machine-vlx-kinds.r machine-vlx-reads.Post
machine_vlx κs a o p s t e f = e ∙ sym f

pub machine_read : Once 0 machine-read-kinds.ps machine-read-kinds.r machine-read-reads.Post
machine_read κs a o p s t e f = e ∙ sym f

pub machine_step : Once 0 machine-step-kinds.ps machine-step-kinds.r machine-step-reads.Post
machine_step κs a o p s t e f = e ∙ sym f
