-- Links dropped: a drop takes the link away and nothing else, and none of another task.
use Prim.Native.Nat.{ℕ, zero, suc, ◌<◌}
use native.Mathlib.Omega.{arith}
use mathlib.Core.Path.{◌≡◌, refl, ◌∙◌}
use mathlib.Core.Logic.{◌≢◌}
use mathlib.Core.List.{List}
use lib.ListN.{get_or}
use lib.Seq.{get_or-set_other}
use Rattle.rules.specs.Words.{Link}
use Rattle.keeps.proofs.Stores.{any}
use Rattle.table.specs.Table.{no_link, slot}
use Rattle.rules.specs.Step.{dropped, drop_first}

-- what a dropped link keeps, every link keeps
pub drop_each : (P : Link → Type 0) → ((k : Link) → P k → P (dropped k))
    → (ls : List Link) (t : ℕ) (l : List ℕ) (n j : ℕ) → P (get_or ls j no_link) → P (get_or (drop_first ls t l n) j no_link)
unfolding drop_first
drop_each P close ls t l zero j h = h
drop_each P close ls t l (suc n) j h =
    let rest = drop_first ls t l n in
    let at = slot t (get_or l n 0) in
    let ih : P (get_or rest j no_link) = drop_each P close ls t l n j h in
    any P rest at (dropped (get_or rest at no_link)) no_link j (λ e. close (get_or rest at no_link) (rw e at ih)) ih

-- the links of two tasks to records below 32 stand apart
pub slots_apart : (t t' r r' : ℕ) → t' ≢ t → r < 32 → r' < 32 → slot t' r' ≢ slot t r
slots_apart t t' r r' d l l' e = omega arith

pub drop_apart : (ls : List Link) (t : ℕ) (l : List ℕ) (n t' r : ℕ) → t' ≢ t → r < 32 → ((k : ℕ) → k < n → get_or l k 0 < 32)
    → get_or (drop_first ls t l n) (slot t' r) no_link ≡ get_or ls (slot t' r) no_link
unfolding drop_first
drop_apart ls t l zero t' r d q h = refl
drop_apart ls t l (suc n) t' r d q h =
    get_or-set_other (drop_first ls t l n) (slot t (get_or l n 0)) (slot t' r) _ no_link (slots_apart t t' (get_or l n 0) r d (h n (omega arith)) q)
    ∙ drop_apart ls t l n t' r d q (λ k p. h k (omega arith))
