-- WRITING INTO A LENT BUFFER: a text stands from a position on, as far as it fits; the position after it; and the buffer's length stays.
-- Writing one text and then another is writing both, whether they fit or not, so nobody who writes a line has to ask for room.
use Rattle.std.specs.Prelude.{ℕ, ◌+◌, ◌≡◌, List, leb, length}
use Rattle.std.proofs.lemmas.List.Edits.{sets}
use Rattle.table.specs.Table.{pick}

-- the position k bytes after at, in a buffer of that many bytes: the end where it would lie beyond, and at where even that does
unfoldable pub past : ℕ → ℕ → ℕ → ℕ
past size at k = pick (leb (at + k) size) (at + k) (pick (leb at size) size at)

pub record Put (old : List ℕ) (at : ℕ) (text new : List ℕ) (r : ℕ) : Type 0 where
  pub held : new ≡ sets old at text
  pub next : r ≡ past (length old) at (length text)
  pub kept : length new ≡ length old
