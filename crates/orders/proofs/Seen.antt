-- What the access of a STEP sees is what the clauses see there: the words it reads are of records that exist.
use Prim.Native.Nat.{ℕ, ◌<◌}
use mathlib.Core.Path.{◌≡◌, refl, sym, ap}
use mathlib.Core.Bool.{Bool}
use mathlib.Core.List.{List}
use lib.ListN.{get_or}
use lib.Dec.{eqb}
use Rattle.rules.specs.Words.{Cell, Record, Machine}
use Rattle.rules.specs.Words.{Place, Idle, L1, L2, L3, L4, L5, L6, L7, L8, L9, L10, L11, H1, H2, H3, H4, H5, H6, H7, H8, Vlx, Read}
use Rattle.table.specs.Table.{no_record, cell_at, record_at, change_at, task_at, link_at}
use Rattle.rules.specs.Perform.{seen}
use Rattle.rules.specs.Step.{access_at}
use Rattle.keeps.proofs.Fine.{Fine}
use Rattle.keeps.proofs.Acts.{Claimed, seen_from, acts}
use Rattle.clauses.proofs.Steps.{Saw}
use Rattle.orders.proofs.Stored.{entry_is}
use Rattle.orders.proofs.View.{record_in, shared}

module _ (m : Machine) (F : Fine m) where
  -- what a record that exists shows
  here : {B : Type 0} (f : Record → B) (r : ℕ) → r < m.n → f (record_at m r) ≡ f (record_in m r)
  here f r h = ap f (sym (entry_is m.n m.records no_record r h))

  module _ (linked : ℕ → Bool) (cells : List Cell) (l : List ℕ) where
    saw_at : (q : Place) → Claimed m linked cells l q → Saw (shared m) (seen_from m l q) q
    saw_at Idle h = tt
    saw_at (L1 r) h = here (λ x. x.mark) r h
    saw_at (L2 r m1) h = here (λ x. x.info) r h
    saw_at (L3 r m1 a) h = refl
    saw_at (L4 r m1 a s) h = here (λ x. x.mark) r h.0
    saw_at (L5 r m1 a f) h = here (λ x. cell_at x.cells f) r h.0
    saw_at (L6 r m1 a) h = here (λ x. x.info) r h.0
    saw_at (L7 r m1 a) h = refl
    saw_at (L8 r m1 a) h = refl
    saw_at (L9 r) h = here (λ x. x.info) r h
    saw_at (L10 r b) h = refl
    saw_at (L11 r) h = here (λ x. x.info) r h
    saw_at (H1 u i after) h =
        let ch = change_at m u in
        here (λ x. eqb x.info (get_or ch.infos i 0)) (get_or ch.v i 0) (acts m F linked cells l (H1 u i after) h).0
    saw_at (H2 u i after) h = here (λ x. x.info) (get_or (change_at m u).v i 0) (acts m F linked cells l (H2 u i after) h).0
    saw_at (H3 u after) h = refl
    saw_at (H4 u after) h = tt
    saw_at (H5 u after) h = tt
    saw_at (H6 u i after) h = tt
    saw_at (H7 u after) h = tt
    saw_at (H8 u after) h = tt
    saw_at (Vlx n i) h = tt
    saw_at (Read r f) h = tt

  pub saw : (t : ℕ) → t < m.p → Saw (shared m) (seen (access_at m t) m) (task_at m t).place
  unfolding seen access_at
  saw t tl = let x = task_at m t in saw_at (λ r. (link_at m t r).there) x.cells x.list x.place (F.task_fine_lem t tl)
