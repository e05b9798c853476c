-- THE WHOLE EXAMPLE of document 01 as bytes: "P 1, N 1, values 5 0 0 0. Events: LLX of record 0, nine STEPs, SCX (n 1, record 0, R empty, place 0,
-- field 0, new 7), four STEPs. 15 events, 196 bytes, trailer 52 53 01 01 0F 00 BC 00."
use Rattle.std.specs.Prelude.{ℕ, zero, suc, List, [], ◌∷◌, ◌++◌, replicate}
use Rattle.rules.specs.Words.{Call}
use Rattle.rules.specs.Next.{llx, scx, stepping}

abbrev pub step_bytes : ℕ → List ℕ
step_bytes zero = []
step_bytes (suc k) = (5 ∷ replicate 11 0) ++ step_bytes k

abbrev pub example_values : List ℕ
example_values = 5 ∷ 0 ∷ 0 ∷ 0 ∷ []

abbrev pub example_events : List ℕ
example_events = (1 ∷ replicate 11 0) ++ step_bytes 9 ++ (2 ∷ 0 ∷ 1 ∷ 0 ∷ 0 ∷ 0 ∷ 0 ∷ 0 ∷ 0 ∷ 0 ∷ 7 ∷ 0 ∷ []) ++ step_bytes 4

abbrev pub example_bytes : List ℕ
example_bytes = (5 ∷ replicate 7 0) ++ example_events ++ (82 ∷ 83 ∷ 1 ∷ 1 ∷ 15 ∷ 0 ∷ 188 ∷ 0 ∷ [])

abbrev pub example_calls : List Call
example_calls = (llx 0 0 ∷ []) ++ replicate 9 (stepping 0) ++ (scx 0 1 (0 ∷ 0 ∷ 0 ∷ 0 ∷ []) 0 0 0 7 ∷ []) ++ replicate 4 (stepping 0)
