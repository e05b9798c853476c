-- Where the marking goes on: first_from finds the first place of R from i on, and before it there is none.
use Prim.Native.Nat.{ℕ, suc, ◌≤◌, ◌<◌}
use mathlib.Core.Path.{◌≡◌, refl}
use mathlib.Core.Bool.{Bool, true, false}
use mathlib.Core.List.{List}
use native.Mathlib.Omega.{arith}
use native.Mathlib.Decide.{ℕ_discrete}
use lib.ListN.{get_or}
use lib.Dec.{leb}
use borrow.Author.Tests.{leb-false}
use Rattle.table.specs.Table.{pick}
use Rattle.rules.specs.Resume.{is_from, first_from}

-- j is the first place of R from i on, as far as the places from m on tell
pub record First (r : List Bool) (i m j : ℕ) : Type 0 where
  pub found : j < 4 → get_or r j false ≡ true
  pub none : (k : ℕ) → m ≤ k → i ≤ k → k < j → get_or r k false ≡ false

last : (r : List Bool) (i : ℕ) → First r i 4 4
last r i = record { found = λ l. absurd (omega arith); none = λ k p q l. absurd (omega arith) }

one : (r : List Bool) (i m j : ℕ) → First r i (suc m) j → First r i m (pick (is_from i m (get_or r m false)) m j)
one r i m j F = go (leb i m) refl (get_or r m false) refl
  where
    here : (k : ℕ) → get_or r m false ≡ false → m ≤ k → (suc m ≤ k → get_or r k false ≡ false) → Dec (k ≡ m) → get_or r k false ≡ false
    here k f p rest (yes e) = rw e f
    here k f p rest (no n) = rest (omega arith)

    go : (a : Bool) → leb i m ≡ a → (b : Bool) → get_or r m false ≡ b → First r i m (pick (pick a b false) m j)
    go true e true f = record { found = λ l. f; none = λ k p q l. absurd (omega arith) }
    go true e false f = record {
      found = F.found;
      none = λ k p q l. here k f p (λ n. F.none k n q l) (ℕ_discrete k m);
    }
    go false e b f = record {
      found = F.found;
      none = λ k p q l. let z = leb-false i m e in F.none k (omega arith) q l;
    }

pub first_from_lem : (r : List Bool) (i : ℕ) → First r i 0 (first_from r i)
first_from_lem r i = one r i 0 _ (one r i 1 _ (one r i 2 _ (one r i 3 4 (last r i))))
