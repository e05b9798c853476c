-- Every run from a fresh table is a Run (Run.antt): at first nothing is held, linked or busy; the shape and the arrays' lengths stay, and
-- every call is a turn.
use Prim.Native.Nat.{ℕ, zero, suc, ◌≤◌, ◌<◌}
use mathlib.Core.Path.{◌≡◌, refl, sym, ap, ◌∙◌, subst}
use mathlib.Core.Bool.{Bool, true, false, true≢false}
use mathlib.Core.Logic.{inl, ◌≢◌, ⊎_elim}
use mathlib.Core.List.{List}
use native.Mathlib.Omega.{arith}
use native.Mathlib.Nat.{le_refl}
use lib.ListN.{get_or, length, replicate, get_or-replicate, get_or-eq_default}
use lib.Seq.{get_or-set_other}
use lib.Dec.{ltb}
use borrow.Author.Tests.{ltb-true}
use Rattle.rules.specs.Words.{Counts, Accepted, Refused}
use Rattle.rules.specs.Words.{Machine, Record, Task, Link, Idle, AskLlx, AskScx, AskVlx, AskRead, AskStep, Ask, Call, Check, Ok, Err, Out}
use Rattle.table.specs.Table.{pick, max_records, no_record, no_task, no_link, task_at, slot}
use Rattle.table.proofs.Tabulate.{get_d_tabulate}
use Rattle.table.specs.Fresh.{idle_task, fresh_record, empty_record, empty_link, fresh_records, fresh_machine, in_range, fresh}
use Rattle.rules.specs.Perform.{perform, record_of}
use Rattle.rules.specs.Step.{stores_link, settle, access_at, move_at, step}
use Rattle.rules.specs.Start.{start}
use Rattle.rules.specs.Shape.{shape, in_shape, InShape}
use Rattle.rules.specs.Refuse.{check, rules_of}
use Rattle.rules.specs.Next.{refused, started, accepted, answered, next}
use Rattle.rules.proofs.Exact.{told}
use Rattle.keeps.proofs.Fine.{Fine, fine}
use Rattle.keeps.proofs.Fresh.{fresh_in_shape}
use Rattle.keeps.proofs.Kept.{kept}
use Rattle.keeps.proofs.Lengths.{Sized, fresh_sized, kept_sized}
use Rattle.keeps.proofs.Stores.{picked}
use Rattle.clauses.proofs.Updates.{leb_case}
use Rattle.clauses.proofs.History.{none_yet}
use Rattle.clauses.proofs.Clauses.{Live}
use Rattle.clauses.proofs.Clauses.{Fine as Clauses}
use Rattle.orders.specs.Demand.{before}
use Rattle.orders.proofs.View.{record_in, task_in, link_in, view, leads_to}
use Rattle.orders.proofs.Number.{info_known, stamp_known, live_known}
use Rattle.orders.proofs.Linked.{stores}
use Rattle.orders.proofs.Settled.{steps_to, llx_starts, scx_starts, vlx_starts, read_starts}
use Rattle.orders.proofs.Calls.{Passes, next_is, obeyed}
use Rattle.orders.proofs.Run.{Run, task_in_lem}
use Rattle.orders.proofs.Turns.{turn_of_lem}

-- the counts of tasks and records never change
same_counts : (m : Machine) (e : Call) → ((next m e).m.p ≡ m.p) × ((next m e).m.n ≡ m.n)
unfolding next refused started start step settle perform
same_counts m e = go (check (rules_of m e))
  where
    go : (c : Check) → ((answered c m e).m.p ≡ m.p) × ((answered c m e).m.n ≡ m.n)
    go (Ok _) = asked e.ask
      where
        asked : (ask : Ask) → ((accepted m e.task ask e.list).m.p ≡ m.p) × ((accepted m e.task ask e.list).m.n ≡ m.n)
        asked (AskLlx r) = (refl, refl)
        asked (AskScx n r written field new) = (refl, refl)
        asked (AskVlx n) = (refl, refl)
        asked (AskRead r f) = (refl, refl)
        asked AskStep = (refl, refl)
    go (Err why) = (refl, refl)

-- a task past P stays as it is: its own calls are refused
past_stays : (m : Machine) (e : Call) (t : ℕ) → m.p ≤ t → task_at (next m e).m t ≡ task_at m t
unfolding next refused started start step settle perform
past_stays m e t h = go (check (rules_of m e)) refl
  where
    other : e.task < m.p → t ≢ e.task
    other l q = omega arith

    asked : (ask : Ask) → Passes m e ask → task_at (accepted m e.task ask e.list).m t ≡ task_at m t
    asked (AskLlx r) P = get_or-set_other m.tasks e.task t _ no_task (other (obeyed m e _ P).0)
    asked (AskScx n r written field new) P = get_or-set_other m.tasks e.task t _ no_task (other (obeyed m e _ P).0)
    asked (AskVlx n) P = get_or-set_other m.tasks e.task t _ no_task (other (obeyed m e _ P).0)
    asked (AskRead r f) P = get_or-set_other m.tasks e.task t _ no_task (other (obeyed m e _ P).0)
    asked AskStep P = get_or-set_other m.tasks e.task t _ no_task (other (obeyed m e _ P).0)

    go : (c : Check) → check (rules_of m e) ≡ c → task_at (answered c m e).m t ≡ task_at m t
    go (Ok _) q = asked e.ask (record { passed = q; asks = refl })
    go (Err why) q = refl

module _ (p n : ℕ) (values : List ℕ) (ok : in_range p n (length values) ≡ true) where
  abbrev from : Machine
  from = (fresh p n values).m

  fresh_is : from ≡ fresh_machine p n (fresh_records n values)
  unfolding fresh
  fresh_is = ap (λ b. (by b).m) ok
    where
      by : Bool → Out
      by b = pick b (record { m = fresh_machine p n (fresh_records n values); answer = Accepted })
          (record { m = fresh_machine 0 0 (replicate max_records empty_record); answer = Refused Counts })

  fresh_shaped : InShape from
  unfolding in_shape InShape
  fresh_shaped = told from.used (shape from) (fresh_in_shape p n values ok)

  pub unused : from.used ≡ 0
  unfolding fresh_machine
  unused = ap (λ (m : Machine). m.used) fresh_is

  all_idle : (t : ℕ) → (task_at from t).place ≡ Idle
  unfolding fresh_machine
  all_idle t = rw fresh_is (⊎_elim (λ h. ap (λ (x : Task). x.place) (get_or-eq_default (replicate 8 idle_task) no_task h))
      (λ h. ap (λ (x : Task). x.place) (get_or-replicate 8 t idle_task no_task h)) (leb_case 8 t))

  idle : (t : ℕ) → (task_in from t).place ≡ Idle
  idle t = picked (λ (x : Task). x.place ≡ Idle) (ltb t from.p) (task_at from t) no_task (λ e. all_idle t) (λ e. refl)

  unlinked : (t r : ℕ) → (link_in from t r).there ≡ false
  unfolding fresh_machine
  unlinked t r = rw fresh_is (picked (λ (k : Link). k.there ≡ false) (ltb t p)
      (pick (ltb r n) (get_or (replicate 256 empty_link) (slot t r) no_link) no_link) no_link
      (λ e. picked (λ (k : Link). k.there ≡ false) (ltb r n) (get_or (replicate 256 empty_link) (slot t r) no_link) no_link
      (λ q. ap (λ (k : Link). k.there) (get_or-replicate 256 (slot t r) empty_link no_link (inside t r (ltb-true t p e) (ltb-true r n q)))) (λ q. refl))
      (λ e. refl))
    where
      inside : (t r : ℕ) → t < p → r < n → slot t r < 256
      inside t r h l =
          let q : from.p ≡ p = ap (λ (m : Machine). m.p) fresh_is in
          let s : from.n ≡ n = ap (λ (m : Machine). m.n) fresh_is in
          omega (arith, q, s, (fine from fresh_shaped).p<9, (fine from fresh_shaped).n<33)

  unmarked : (r : ℕ) → (record_in from r).mark ≡ false
  unfolding fresh_machine fresh_records
  unmarked r = rw fresh_is (picked (λ (x : Record). x.mark ≡ false) (ltb r n) (get_or (fresh_records n values) r no_record) no_record
      (λ e. let l : r < 32 = few r (ltb-true r n e) in
      ap (λ (x : Record). x.mark) (get_d_tabulate 32 (λ r. pick (ltb r n) (fresh_record values r) empty_record) r no_record l)
      ∙ picked (λ (x : Record). x.mark ≡ false) (ltb r n) (fresh_record values r) empty_record (λ e. refl) (λ e. refl))
      (λ e. refl))
    where
      few : (r : ℕ) → r < n → r < 32
      few r h = let q : from.n ≡ n = ap (λ (m : Machine). m.n) fresh_is in omega (arith, q, (fine from fresh_shaped).n<33)

  nobody : (u : ℕ) → Live (view from) u → ⊥
  nobody u l = let (a, b) = live_known from (fine from fresh_shaped) u l in omega (arith, unused)

  -- no clause speaks of anything yet
  fresh_clauses : Clauses (view from) none_yet
  fresh_clauses = record {
    zero_law = refl;
    past_law = λ r. (le_refl 0, le_refl 0);
    stamp_law = λ r f l. inl (zero_is (stamp_known from F r f l) ∙ sym (zero_is (info_known from F r)));
    changes_law = λ u l. absurd (nobody u l);
    places_law = λ t. rw (idle t) tt;
    links_law = λ t r h. absurd (true≢false (sym h ∙ unlinked t r));
  }
    where
      F : Fine from
      F = fine from fresh_shaped

      zero_is : {k : ℕ} → k ≤ from.used → k ≡ 0
      zero_is h = omega (arith, unused)

  module _ (calls : ℕ → Call) where
    abbrev M : ℕ → Machine
    M k = before next from calls k

    sized : (k : ℕ) → Sized (M k)
    unfolding before
    sized zero = fresh_sized p n values ok
    sized (suc k) = kept_sized (M k) (calls k) (sized k)

    in_shape_lem : (k : ℕ) → InShape (M k)
    unfolding before
    in_shape_lem zero = fresh_shaped
    in_shape_lem (suc k) = kept (M k) (calls k) (sized k).changes (in_shape_lem k)

    counts : (k : ℕ) → ((M k).p ≡ from.p) × ((M k).n ≡ from.n)
    unfolding before
    counts zero = (refl, refl)
    counts (suc k) = let (a, b) = same_counts (M k) (calls k) in let (c, d) = counts k in (a ∙ c, b ∙ d)

    past : (k t : ℕ) → from.p ≤ t → (task_at (M k) t).place ≡ Idle
    unfolding before
    past zero t h = all_idle t
    past (suc k) t h = ap (λ (x : Task). x.place) (past_stays (M k) (calls k) t (subst (λ p. p ≤ t) (sym (counts k).0) h)) ∙ past k t h

    -- where a task's own call leaves it
    place_after : (k : ℕ) (ask : Ask) → Passes (M k) (calls k) ask → (calls k).task < (M k).p
        → (x : Task) → task_in (accepted (M k) (calls k).task ask (calls k).list).m (calls k).task ≡ x
        → (task_at (M (suc k)) (calls k).task).place ≡ x.place
    unfolding before
    place_after k ask P h x e =
        let s = subst (λ q. (calls k).task < q) (sym (same_counts (M k) (calls k)).0) h in
        ap (λ (x : Task). x.place) (sym (task_in_lem (next (M k) (calls k)).m (calls k).task s)
        ∙ ap (λ (o : Out). task_in o.m (calls k).task) (next_is (M k) (calls k) ask P) ∙ e)

    goes_to : (k : ℕ) (ask : Ask) → Passes (M k) (calls k) ask → (task_at (M (suc k)) (calls k).task).place ≡ leads_to (M k) (calls k).task ask
    unfolding started
    goes_to k (AskLlx r) P = let h = (obeyed (M k) (calls k) _ P).0 in
        place_after k _ P h _ (llx_starts (M k) (fine (M k) (in_shape_lem k)) (sized k) (calls k).task h r (calls k).list)
    goes_to k (AskScx n r written field new) P = let h = (obeyed (M k) (calls k) _ P).0 in
        place_after k _ P h _ (scx_starts (M k) (fine (M k) (in_shape_lem k)) (sized k) (calls k).task h n r written field new (calls k).list)
    goes_to k (AskVlx n) P = let h = (obeyed (M k) (calls k) _ P).0 in
        place_after k _ P h _ (vlx_starts (M k) (fine (M k) (in_shape_lem k)) (sized k) (calls k).task h n (calls k).list)
    goes_to k (AskRead r f) P = let h = (obeyed (M k) (calls k) _ P).0 in
        place_after k _ P h _ (read_starts (M k) (fine (M k) (in_shape_lem k)) (sized k) (calls k).task h r f (calls k).list)
    goes_to k AskStep P = let h = (obeyed (M k) (calls k) _ P).0 in
        place_after k _ P h _ (steps_to (M k) (fine (M k) (in_shape_lem k)) (sized k) (calls k).task h)

    snapshots : (k : ℕ) → Passes (M k) (calls k) AskStep → stores_link (move_at (M k) (calls k).task) ≡ true
        → ((link_in (M (suc k)) (calls k).task (record_of (access_at (M k) (calls k).task))).there ≡ true)
        × ((link_in (M (suc k)) (calls k).task (record_of (access_at (M k) (calls k).task))).cells ≡ (task_at (M k) (calls k).task).cells)
    unfolding before step
    snapshots k P e =
        let t = (calls k).task in
        let r = record_of (access_at (M k) t) in
        let q = next_is (M k) (calls k) AskStep P in
        let link = ap (λ (o : Out). link_in o.m t r) q ∙ stores (M k) (fine (M k) (in_shape_lem k)) (sized k) t (obeyed (M k) (calls k) AskStep P).0 e in (
          ap (λ (l : Link). l.there) link,
          ap (λ (l : Link). l.cells) link,
        )

    -- EVERY RUN FROM A FRESH TABLE
    pub run : Run from calls
    unfolding before started
    run = record {
      shaped = λ k. fine (M k) (in_shape_lem k);
      same_p = λ k. (counts k).0;
      same_n = λ k. (counts k).1;
      unmarked = unmarked;
      idle = all_idle;
      past = past;
      snapshots = snapshots;
      begins = fresh_clauses;
      no_changes = nobody;
      no_links = unlinked;
      turns = λ k G K. turn_of_lem (M k) (fine (M k) (in_shape_lem k)) (sized k) G K (calls k);
      goes_to = goes_to;
    }
