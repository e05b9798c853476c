-- The event's bytes, and what is made of the first twelve: the call, and the test.
use Prim.Native.Nat.{ℕ, ◌+◌, ◌-◌, ◌<◌, ◌≤◌}
use native.Mathlib.Omega.{arith}
use mathlib.Core.Path.{◌≡◌, refl, sym, ◌∙◌}
use mathlib.Core.List.{List}
use lib.ListN.{length, take, drop, length-drop}
use lib.Seq.{ext_get_or, get_or-take, length-take-le, take-length, get_or-drop}
use denote.Ref.{Bor}
use Rattle.std.proofs.Common.{Option, Some, None}
use Rattle.std.specs.Array.{IsFirstChunk}
use Rattle.std.specs.List.{slice_range}
use Rattle.std.specs.Option.{MatchOption, IfSome}
use Rattle.table.specs.Table.{tabulate}
use Rattle.table.proofs.Tabulate.{length_tabulate, get_d_tabulate}
use Rattle.rules.specs.Claim.{all_below}
use Rattle.event.specs.Event.{byte, call_of, event_fine}

-- the first n bytes of a list that has as many
pub first_bytes : (n : ℕ) (s : List ℕ) → n ≤ length s → take n s ≡ tabulate n (byte s)
first_bytes n s l =
    ext_get_or 0 (take n s) (tabulate n (byte s)) (length-take-le n s l ∙ sym (length_tabulate n (byte s)))
    (λ i q. let h : i < n = rw (length-take-le n s l) at q in get_or-take n s i 0 h ∙ sym (get_d_tabulate n (byte s) i 0 h))

-- the part of twelve bytes from j on, taken as an array
pub there : (s p : List ℕ) (j : ℕ) → j + 12 ≤ length s → p ≡ slice_range s j (j + 12) → length p + j ≡ j + 12
    → (r : Option (Bor (List ℕ))) → MatchOption r (length p < 12) (λ y. IsFirstChunk p y.now 12) → IfSome r (λ e. e.now ≡ tabulate 12 (byte (drop j s)))
there s p j l ep n None h = tt
there s p j l ep n (Some y) h =
    let twelve : j + 12 - j ≡ 12 = omega arith in
    let part : p ≡ take 12 (drop j s) = rw twelve at ep in
    let long : length p ≡ 12 = omega arith in
    let whole : take 12 p ≡ p = rw long at (take-length p) in
    h.same ∙ whole ∙ part ∙ first_bytes 12 (drop j s) (omega (arith, length-drop j s))

-- the bytes one by one
pub by_one : (s : List ℕ) (j : ℕ) → tabulate 12 (λ k. byte s (j + k)) ≡ tabulate 12 (byte (drop j s))
unfolding tabulate
by_one s j = simp get_or-drop

pub same_call : (e : List ℕ) → call_of (tabulate 12 (byte e)) ≡ call_of e
unfolding call_of tabulate
same_call e = refl

pub same_fine : (e : List ℕ) → event_fine (tabulate 12 (byte e)) ≡ event_fine e
unfolding event_fine tabulate all_below
same_fine e = refl
