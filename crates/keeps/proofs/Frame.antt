-- A call alters one task, the links of that task, and few shared words. What it has to show for the shape is this and no more: the
-- other tasks stay in shape by one law.
use Prim.Native.Nat.{ℕ, ◌<◌, ◌≤◌}
use mathlib.Core.Path.{◌≡◌, subst, sym}
use mathlib.Core.Logic.{◌≢◌}
use mathlib.Core.Bool.{true}
use mathlib.Core.List.{List}
use lib.ListN.{get_or, set}
use Rattle.rules.specs.Words.{Record, Change, Task, Link, Machine}
use Rattle.keeps.proofs.Stores.{stored}
use Rattle.keeps.proofs.Fine.{Fine}
use Rattle.keeps.proofs.Places.{named, stays}
use Rattle.table.specs.Table.{no_record, no_change, no_task, no_link, slot, change_at, task_at, link_at, remade}
use Rattle.rules.specs.Places.{change_of}
use Rattle.rules.specs.Claim.{Claim, Says}
use Rattle.rules.specs.Shape.{record_fine, change_fine, link_fine, place_fine}

-- m with task t, the used count and the shared words put anew
abbrev pub put : Machine → ℕ → ℕ → List Record → List Change → Task → List Link → Machine
put m t used rs xs x ls = remade m used rs xs (set m.tasks t x) ls

-- the claim of task x as task t's, over these changes and links
abbrev pub claim_of : ℕ → List Change → List Link → ℕ → Task → Claim
claim_of N xs ls t x =
    let ch = get_or xs (change_of x.place) no_change in
    place_fine N ch.n ch.r (λ r. (get_or ls (slot t r) no_link).there) x.cells x.list x.place

pub record Put (m : Machine) (t used : ℕ) (rs : List Record) (xs : List Change) (x : Task) (ls : List Link) : Type 0 where
  pub more_used : m.used ≤ used
  pub used<256 : used < 256
  pub records : (r : ℕ) → r < m.n → Says used (record_fine (get_or rs r no_record))
  pub changes : (u : ℕ) → 0 < u → u ≤ used → Says used (change_fine m.n (get_or xs u no_change))
  pub same_n : (u : ℕ) → u ≤ m.used → (get_or xs u no_change).n ≡ (change_at m u).n
  pub same_r : (u : ℕ) → u ≤ m.used → (get_or xs u no_change).r ≡ (change_at m u).r
  pub task : Says used (claim_of m.n xs ls t x)
  pub others : (j : ℕ) → j ≢ t → (r : ℕ) → r < m.n → (link_at m j r).there ≡ true → (get_or ls (slot j r) no_link).there ≡ true
  pub links : (j : ℕ) → j < m.p → (r : ℕ) → r < m.n → Says used (link_fine (get_or ls (slot j r) no_link))

module _ (m : Machine) (F : Fine m) (t used : ℕ) (rs : List Record) (xs : List Change) (x : Task) (ls : List Link) (K : Put m t used rs xs x ls) where
  another : (j : ℕ) → j < m.p → j ≢ t → Says used (claim_of m.n xs ls j (task_at m j))
  another j l d =
      let y = task_at m j in
      let u = change_of y.place in
      let h = F.task_fine_lem j l in
      let ul = named m.used m.n (change_at m u).n (change_at m u).r (λ r. (link_at m j r).there) y.cells y.list y.place h in
      stays m.used m.n (change_at m u).n (change_at m u).r (λ r. (link_at m j r).there) y.cells y.list used
      (get_or xs u no_change).n (get_or xs u no_change).r (λ r. (get_or ls (slot j r) no_link).there)
      K.more_used (K.same_n u ul) (K.same_r u ul) (K.others j d) y.place h

  pub put_fine : Fine (put m t used rs xs x ls)
  put_fine =
      record {
        some_task = F.some_task;
        p<9 = F.p<9;
        some_record = F.some_record;
        n<33 = F.n<33;
        used<256 = K.used<256;
        record_fine_lem = K.records;
        change_fine_lem = K.changes;
        task_fine_lem = λ j l. stored (λ (y : Task). Says used (claim_of m.n xs ls j y)) m.tasks t x no_task j
            (λ e. subst (λ i. Says used (claim_of m.n xs ls i x)) (sym e) K.task) tt (another j l);
        link_fine_lem = K.links;
      }
