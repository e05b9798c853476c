-- THE FOURTH SHAM, a tally made up: a text that differs from the whole example's in the first number of `T` alone is not the text of
-- these bytes.
use Prim.Native.Nat.{ℕ}
use native.Mathlib.Omega.{arith}
use mathlib.Core.Path.{◌≡◌, sym, ap, ◌∙◌}
use mathlib.Core.List.{List}
use mathlib.Core.Logic.{◌≢◌}
use lib.ListN.{get_or, set}
use Rattle.runner.specs.Run.{text_of}
use Rattle.back.specs.Example.{example_bytes}
use Rattle.printed.proofs.Example.{printed, example_printed}

-- `T 0 0 0`: no change made
pub made_up : List ℕ
made_up = set printed 120 48

pub made_up_refused : text_of example_bytes ≢ made_up
unfolding made_up printed
made_up_refused e =
    let z : ◌≡◌ {A = ℕ} 49 48 = ap (λ (l : List ℕ). get_or l 120 0) (sym example_printed ∙ e) in
    absurd (omega arith)
