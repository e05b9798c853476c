-- A call that passes its rules obeys the claim of each.
use Prim.Native.Nat.{ℕ}
use native.Mathlib.Omega.{arith}
use mathlib.Core.Path.{◌≡◌, refl}
use mathlib.Core.Bool.{Bool, true, false}
use mathlib.Core.List.{List, [], ◌∷◌}
use Rattle.rules.specs.Words.{Machine, Ask, Check, Ok, Err}
use Rattle.table.specs.Table.{pick}
use Rattle.rules.specs.Claim.{Says, test}
use Rattle.rules.specs.Refuse.{Rule, check, rules, idle_at, linked_at}
use Rattle.rules.proofs.Exact.{told}

abbrev pub Obeyed : List Rule → Type 0
Obeyed [] = Unit
Obeyed (x ∷ xs) = Says 0 x.unless × Obeyed xs

-- a call of task t obeys its rules, the shape apart
abbrev pub Obeys : Machine → ℕ → Ask → List ℕ → Type 0
Obeys m t ask l = Obeyed (rules m.p m.n m.used (idle_at m t) (linked_at m (record { task = t; ask = ask; list = l })) t ask l)

first : (b : Bool) (x : Rule) (rest : Check) → pick b rest (Err x.why) ≡ Ok tt → (b ≡ true) × (rest ≡ Ok tt)
first true x rest h = (refl, h)
first false x rest h = let z : ◌≡◌ {A = ℕ} 0 1 = cc in absurd (omega arith)

pub passed : (xs : List Rule) → check xs ≡ Ok tt → Obeyed xs
passed [] h = tt
passed (x ∷ xs) h = let f = first (test 0 x.unless) x (check xs) h in (told 0 x.unless f.0, passed xs f.1)
