-- From a fresh table, after any calls, the state is in shape.
use Prim.Native.Nat.{ℕ}
use mathlib.Core.Path.{◌≡◌}
use mathlib.Core.Bool.{true}
use mathlib.Core.List.{List, [], ◌∷◌}
use lib.ListN.{length}
use Rattle.rules.specs.Words.{Machine, Call}
use Rattle.table.specs.Fresh.{in_range, fresh}
use Rattle.rules.specs.Shape.{in_shape}
use Rattle.rules.specs.Next.{next, after}
use Rattle.keeps.proofs.Fresh.{fresh_in_shape}
use Rattle.keeps.proofs.Kept.{kept_test}
use Rattle.keeps.proofs.Lengths.{Sized, fresh_sized, kept_sized}

goes_on : (m : Machine) (es : List Call) → Sized m → in_shape m ≡ true → in_shape (after m es) ≡ true
unfolding after
goes_on m [] Z h = h
goes_on m (e ∷ es) Z h = goes_on (next m e).m es (kept_sized m e Z) (kept_test m e Z.changes h)

pub always : (p n : ℕ) (values : List ℕ) (es : List Call) → in_range p n (length values) ≡ true → in_shape (after (fresh p n values).m es) ≡ true
always p n values es h = goes_on (fresh p n values).m es (fresh_sized p n values h) (fresh_in_shape p n values h)
