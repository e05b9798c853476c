-- The unused bytes of an event added up: the sum is 0 exactly where each of them is (proofs/Unused.antt).
use Rattle.std.specs.Prelude.{ℕ, zero, suc, ◌+◌, List, ltb}
use Rattle.table.specs.Table.{pick}
use Rattle.event.specs.Event.{byte, uses, event_size}

-- f 0 + f 1 + .. + f (n - 1)
unfoldable pub sum_below : ℕ → (ℕ → ℕ) → ℕ
sum_below zero f = 0
sum_below (suc n) f = sum_below n f + f n

unfoldable pub unused_sum : List ℕ → ℕ
unused_sum e = sum_below event_size (λ k. pick (uses (byte e 0) (byte e 2) k) 0 (byte e k))

-- the sum of what is past n of the list; of what only an SCX uses, the set R, the written place and the new value
abbrev pub past_list : ℕ → List ℕ → ℕ
past_list n e = pick (ltb 0 n) 0 (byte e 3) + pick (ltb 1 n) 0 (byte e 4) + pick (ltb 2 n) 0 (byte e 5) + pick (ltb 3 n) 0 (byte e 6)

abbrev pub scx_only : List ℕ → ℕ
scx_only e = byte e 7 + byte e 8 + byte e 10 + byte e 11
