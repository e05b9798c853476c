-- Which place an act comes from: an info is set at H1 alone, a cell is written at H7 alone, and no step takes a number.
use Prim.Native.Nat.{ℕ}
use mathlib.Core.Path.{◌≡◌, refl, ap, subst}
use mathlib.Core.Bool.{Bool, true, false}
use native.Mathlib.Omega.{arith}
use Rattle.rules.specs.Words.{After}
use Rattle.rules.specs.Words.{Place, Idle, L1, L2, L3, L4, L5, L6, L7, L8, L9, L10, L11, H1, H2, H3, H4, H5, H6, H7, H8, Vlx, Read}
use Rattle.table.specs.Table.{pick}
use Rattle.clauses.proofs.Updates.{tf}
use Rattle.clauses.proofs.Memory.{Terms, Shared, Act, nop, hold, abort, freeze, close, write, commit, make}
use Rattle.clauses.proofs.Steps.{is_stored, is_old, act_at}

-- neither sets an info, nor writes a cell, nor takes a number
abbrev plain : Act → Bool
plain nop = true
plain (hold u i) = false
plain (abort u) = true
plain (freeze u) = true
plain (close u i) = true
plain (write u) = false
plain (commit u) = true
plain (make u c) = false

data Origin : Place → Act → Type 0 where
  quiet : {q : Place} {b : Act} → plain b ≡ true → Origin q b
  holds : {u i : ℕ} {after : After} → Origin (H1 u i after) (hold u i)
  writes : {u : ℕ} {after : After} → Origin (H7 u after) (write u)

origin : (S : Shared) (q : Place) → Origin q (act_at S q)
unfolding act_at
origin S Idle = quiet refl
origin S (L1 r) = quiet refl
origin S (L2 r m1) = quiet refl
origin S (L3 r m1 a) = quiet refl
origin S (L4 r m1 a s) = quiet refl
origin S (L5 r m1 a f) = quiet refl
origin S (L6 r m1 a) = quiet refl
origin S (L7 r m1 a) = quiet refl
origin S (L8 r m1 a) = quiet refl
origin S (L9 r) = quiet refl
origin S (L10 r b) = quiet refl
origin S (L11 r) = quiet refl
origin S (H1 u i after) = either (is_stored S u i)
  where
    either : (b : Bool) → Origin (H1 u i after) (pick b (hold u i) nop)
    either true = holds
    either false = quiet refl
origin S (H2 u i after) = quiet refl
origin S (H3 u after) = quiet refl
origin S (H4 u after) = quiet refl
origin S (H5 u after) = quiet refl
origin S (H6 u i after) = quiet refl
origin S (H7 u after) = either (is_old S u)
  where
    either : (b : Bool) → Origin (H7 u after) (pick b (write u) nop)
    either true = writes
    either false = quiet refl
origin S (H8 u after) = quiet refl
origin S (Vlx n i) = quiet refl
origin S (Read r f) = quiet refl

not_plain : {A : Type 0} {b c : Act} → plain b ≡ true → b ≡ c → plain c ≡ false → A
not_plain p e q = tf (subst (λ b. plain b ≡ true) e p) q

by_write : (q : Place) (b : Act) → Origin q b → (u : ℕ) → b ≡ write u → (after : After) × (q ≡ H7 u after)
by_write q b (quiet e) u h = not_plain e h refl
by_write q b holds u h = let z : ◌≡◌ {A = ℕ} 0 1 = cc in absurd (omega arith)
by_write q b (writes {u = x} {after = after}) u h = let z : x ≡ u = cc in (after, ap (λ x. H7 x after) z)

by_hold : (q : Place) (b : Act) → Origin q b → (u i : ℕ) → b ≡ hold u i → (after : After) × (q ≡ H1 u i after)
by_hold q b (quiet e) u i h = not_plain e h refl
by_hold q b (holds {u = x} {i = j} {after = after}) u i h = let z : x ≡ u = cc in let w : j ≡ i = cc in (after, rw (z, w))
by_hold q b writes u i h = let z : ◌≡◌ {A = ℕ} 0 1 = cc in absurd (omega arith)

by_make : {A : Type 0} (q : Place) (b : Act) → Origin q b → (u : ℕ) (c : Terms) → b ≡ make u c → A
by_make q b (quiet e) u c h = not_plain e h refl
by_make q b holds u c h = let z : ◌≡◌ {A = ℕ} 0 1 = cc in absurd (omega arith)
by_make q b writes u c h = let z : ◌≡◌ {A = ℕ} 0 1 = cc in absurd (omega arith)

pub at_h7 : (S : Shared) (q : Place) (u : ℕ) → act_at S q ≡ write u → (after : After) × (q ≡ H7 u after)
at_h7 S q u h = by_write q (act_at S q) (origin S q) u h

pub at_h1 : (S : Shared) (q : Place) (u i : ℕ) → act_at S q ≡ hold u i → (after : After) × (q ≡ H1 u i after)
at_h1 S q u i h = by_hold q (act_at S q) (origin S q) u i h

pub no_start : {A : Type 0} (S : Shared) (q : Place) (u : ℕ) (c : Terms) → act_at S q ≡ make u c → A
no_start S q u c h = by_make q (act_at S q) (origin S q) u c h
