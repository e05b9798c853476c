-- The tally: one outcome for each of its functions. `count` is lent the tally, so its theorem is of what the lender finds there too.
use mathlib.Core.Path.{refl, sym, ◌∙◌}
use Rattle.tally.proofs.operation_of.Kinds as tally-operation-of-kinds
use Rattle.tally.proofs.operation_of.Reads as tally-operation-of-reads
use Rattle.tally.proofs.none.Kinds as tally-none-kinds
use Rattle.tally.proofs.none.Reads as tally-none-reads
use Rattle.tally.proofs.count.Kinds as tally-count-kinds
use Rattle.tally.proofs.count.Reads as tally-count-reads
use Rattle.once.proofs.Once.{Once, OnceLent}

pub tally_operation_of : Once 0 tally-operation-of-kinds.ps tally-operation-of-kinds.r tally-operation-of-reads.Post
tally_operation_of κs a o p s t e f = e ∙ sym f

pub tally_none : Once 0 tally-none-kinds.ps tally-none-kinds.r tally-none-reads.Post
tally_none κs a o p s t e f = e ∙ sym f

pub tally_count : Once 1 tally-count-kinds.ps tally-count-kinds.r tally-count-reads.Post
tally_count κs a o p s t e f = refl

-- and the lent tally has one content at exit
pub tally_count_lent : OnceLent 1 tally-count-kinds.ps tally-count-kinds.r tally-count-reads.Post (λ κs s. s.0.now)
tally_count_lent κs a o p s t e f = e ∙ sym f
