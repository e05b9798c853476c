-- Every snapshot ends an LLX: where a task stands on the way of an LLX of r, it started one and has been busy since.
use Prim.Native.Nat.{ℕ, zero, suc, ◌<◌}
use mathlib.Core.Path.{◌≡◌, refl, sym, ap, ◌∙◌, subst}
use mathlib.Core.Bool.{true, false≢true}
use mathlib.Core.Logic.{◌≢◌, ⊎_elim}
use native.Mathlib.Omega.{arith}
use native.Mathlib.Nat.{le_refl}
use mathlib.Core.List.{List}
use Rattle.rules.specs.Words.{Cell, Machine, Task, Out}
use Rattle.rules.specs.Words.{Place, Idle, L1}
use Rattle.rules.specs.Words.{Ask, AskLlx, AskScx, AskVlx, AskRead, AskStep, Call, Check, Ok, Err}
use Rattle.rules.specs.Words.{Snapshot}
use Rattle.table.specs.Table.{cell_at, task_at}
use Rattle.rules.specs.Perform.{record_of}
use Rattle.rules.specs.Step.{access_at, move_at, step}
use Rattle.rules.specs.Places.{is_idle}
use Rattle.rules.specs.Refuse.{check, rules_of}
use Rattle.rules.specs.Next.{refused, started, accepted, answered, next}
use Rattle.clauses.proofs.Updates.{same?, leb_case, tf}
use Rattle.clauses.proofs.Memory.{nop, write}
use Rattle.clauses.proofs.History.{Reading}
use Rattle.clauses.proofs.Steps.{act_at}
use Rattle.clauses.proofs.Course.{Course, S, fine, now_is}
use Rattle.clauses.proofs.Came.{Wrote, alters_by}
use Rattle.clauses.proofs.LinkedReads.{Ends, read_at}
use Rattle.orders.specs.Demand.{before, said, place, Starts, Going, Snap}
use Rattle.orders.proofs.View.{link_in, reading}
use Rattle.orders.proofs.Frames.{tasks_stay}
use Rattle.orders.proofs.Calls.{Passes, next_is, reading_is, obeyed, snapped}
use Rattle.orders.proofs.Run.{Run, course, inside, busy_inside, task_in_lem}
use Rattle.orders.proofs.Busy.{idle_or, longer}
use Rattle.orders.proofs.Changes.{start_passes}
use Rattle.orders.proofs.Effects.{cell_is, passed_steps, act_is}
use Rattle.orders.proofs.Ways.{of, is_snapshot, moves}

module _ (m : Machine) (calls : ℕ → Call) (R : Run m calls) where
  abbrev M : ℕ → Machine
  M k = before next m calls k

  abbrev C : Course
  C = course m calls R

  -- the cells that the task of call e has then, which a snapshot tells
  abbrev told : ℕ → List Cell
  told e = (task_at (M e) (calls e).task).cells

  -- after call e, t has a link to r with them
  abbrev LinkAt : ℕ → ℕ → ℕ → Type 0
  LinkAt e t r = ((link_in (M (suc e)) t r).there ≡ true) × ((link_in (M (suc e)) t r).cells ≡ told e)

  abbrev at : ℕ → ℕ → ℕ
  at k t = of (place next m calls k t)

  -- t started an LLX of r and has been busy since
  abbrev Since : ℕ → ℕ → ℕ → Type 0
  Since k t r = (s : ℕ) × Starts next m calls s t (AskLlx r) × Going next m calls s t k

  busy : (k t r : ℕ) → at k t ≡ suc r → place next m calls k t ≢ Idle
  busy k t r h i = let z : ◌≡◌ {A = ℕ} 0 (suc r) = sym (ap of i) ∙ h in omega arith

  -- a call that takes t to the way of r is its start
  module _ (k t r : ℕ) (h : at (suc k) t ≡ suc r) (d : at k t ≢ suc r) where
    abbrev Began : Type 0
    Began = Starts next m calls k t (AskLlx r)

    tl : t < m.p
    tl = busy_inside m calls R (suc k) t (busy (suc k) t r h)

    others : t ≢ (calls k).task → Began
    unfolding before
    others n = absurd (d (sym (ap (λ (x : Task). of x.place) (sym (task_in_lem (M (suc k)) t (inside m calls R (suc k) t tl))
        ∙ tasks_stay (M k) (calls k) t n ∙ task_in_lem (M k) t (inside m calls R k t tl))) ∙ h))

    is : t ≡ (calls k).task → (q : Place) → (task_at (M (suc k)) (calls k).task).place ≡ q → of q ≡ suc r
    is e q p = sym (subst (λ t. at (suc k) t ≡ of q) (sym e) (ap of p)) ∙ h

    asked : t ≡ (calls k).task → (ask : Ask) → Passes (M k) (calls k) ask → Began
    unfolding started move_at
    asked e (AskLlx x) P = let z : x ≡ r = omega (arith, is e (L1 x) (R.goes_to k (AskLlx x) P)) in record {
      list = (calls k).list;
      asks = λ i. record { task = sym e i; ask = (P.asks ∙ ap AskLlx z) i; list = (calls k).list };
      accepted = ap (λ (o : Out). o.answer) (next_is (M k) (calls k) _ P);
    }
    asked e (AskScx n x w f v) P = absurd (omega (arith, is e _ (R.goes_to k (AskScx n x w f v) P)))
    asked e (AskVlx n) P = absurd (omega (arith, is e _ (R.goes_to k (AskVlx n) P)))
    asked e (AskRead x f) P = absurd (omega (arith, is e _ (R.goes_to k (AskRead x f) P)))
    asked e AskStep P = let q = is e _ (R.goes_to k AskStep P) in ⊎_elim
        (λ w. absurd (d (ap (at k) e ∙ sym w ∙ q))) (λ w. let z : ◌≡◌ {A = ℕ} 0 (suc r) = sym w ∙ q in absurd (omega arith))
        (moves (place next m calls k (calls k).task) _ _ _).0

    own : t ≡ (calls k).task → Began
    unfolding before next refused
    own e = go (check (rules_of (M k) (calls k))) refl refl
      where
        go : (c : Check) → check (rules_of (M k) (calls k)) ≡ c → task_at (answered c (M k) (calls k)).m t ≡ task_at (M (suc k)) t → Began
        go (Ok _) c s = asked e (calls k).ask (record { passed = c; asks = refl })
        go (Err why) c s = absurd (d (ap (λ (x : Task). of x.place) s ∙ h))

    by_start : Began
    by_start = ⊎_elim own others (same? t (calls k).task)

  since : (k t r : ℕ) → at k t ≡ suc r → Since k t r
  since zero t r h = absurd (busy 0 t r h (R.idle t))
  since (suc k) t r h = ⊎_elim
      (λ e. let (s, B, g) = since k t r e in (s, B, longer next m calls s t k g (busy (suc k) t r h)))
      (λ d. (
        k,
        by_start k t r h d,
        record { later = le_refl _; busy = λ j a l. let q : j ≡ suc k = omega arith in rw q (busy (suc k) t r h) },
      ))
      (same? (at k t) (suc r))

  -- a snapshot is answered at L6, where the link is stored
  at_l6 : (k : ℕ) (cs : List Cell) → said next m calls k ≡ Snapshot cs → (reading (M k) (calls k)).ends ≡ true
  unfolding next refused started step move_at
  at_l6 k cs h = go (check (rules_of (M k) (calls k))) refl h
    where
      answers : (ask : Ask) → Passes (M k) (calls k) ask → (accepted (M k) (calls k).task ask (calls k).list).answer ≡ Snapshot cs
      answers ask P = sym (ap (λ (o : Out). o.answer) (next_is (M k) (calls k) ask P)) ∙ h

      asked : (ask : Ask) → Passes (M k) (calls k) ask → (reading (M k) (calls k)).ends ≡ true
      asked (AskLlx r) P = absurd (false≢true (ap is_snapshot (answers _ P)))
      asked (AskScx n r w f v) P = absurd (false≢true (ap is_snapshot (answers _ P)))
      asked (AskVlx n) P = absurd (false≢true (ap is_snapshot (answers _ P)))
      asked (AskRead r f) P = absurd (false≢true (ap is_snapshot (answers _ P)))
      asked AskStep P = ap (λ (x : Reading). x.ends) (reading_is (M k) (calls k) AskStep P)
          ∙ sym ((moves (place next m calls k (calls k).task) _ _ _).1 (told k)) ∙ ap is_snapshot (answers AskStep P)

      go : (c : Check) → check (rules_of (M k) (calls k)) ≡ c → (answered c (M k) (calls k)).answer ≡ Snapshot cs → (reading (M k) (calls k)).ends ≡ true
      go (Ok _) c s = asked (calls k).ask (record { passed = c; asks = refl })
      go (Err why) c s = absurd (false≢true (ap is_snapshot s))

  -- the link that it stores, with the cells that it answers
  stored : (e t r : ℕ) → Ends C e t r → LinkAt e t r
  stored e t r E =
      let (P, at, said) = snapped (M e) (calls e) E.ends in
      let k = reading_is (M e) (calls e) AskStep P in
      let store = sym (ap (λ (k : Reading). k.ends) k) ∙ E.ends in
      let at-r = sym (ap (λ (k : Reading). k.at) k) ∙ E.of in
      subst (λ r. LinkAt e t r) at-r (subst (λ t. LinkAt e t (record_of (access_at (M e) (calls e).task))) E.by (R.snapshots e P store))

  -- nobody has taken hold since, so they are those of the record
  tells : (e t r : ℕ) → Ends C e t r → (f : ℕ) → f < 4 → cell_at (told e) f ≡ (S C (suc e)).cell r f
  tells e t r E f l =
      let (there, cells) = stored e t r E in
      let (j, A) = read_at C (suc e) t r there in
      let now : j ≡ e = ⊎_elim (λ q. q) (λ n. absurd (A.last e (omega (arith, A.before)) (omega arith) E)) (same? j e) in
      let (anchor, snap, ended) = (fine C (suc e)).links_law t r there in
      let stands : (S C (suc e)).info r ≡ (link_in (M (suc e)) t r).info = ⊎_elim (λ q. q)
      (λ n. absurd (omega (arith, anchor.taken_law n, A.time, now, ((fine C (suc e)).past_law r).0, now_is C (suc e))))
      (same? ((S C (suc e)).info r) (link_in (M (suc e)) t r).info) in
      ap (λ cs. cell_at cs f) (sym cells) ∙ sym (snap stands f l)

  -- an L6 alters no cell
  still : (k : ℕ) → (reading (M k) (calls k)).ends ≡ true → (r f : ℕ) → (S C (suc k)).cell r f ≡ (S C k).cell r f
  unfolding act_at
  still k h r f =
      let (P, (x, m1, a, q, e), answer) = snapped (M k) (calls k) h in
      let act : C.act k ≡ nop = act_is m calls R k (calls k).task (passed_steps m calls R k P) ∙ ap (λ q. act_at (S C k) q) q in
      ⊎_elim (λ e. e) (λ (w : Wrote (S C k) (C.act k) r f). none w.0 (sym act ∙ w.1)) (alters_by C k r f)
    where
      none : (u : ℕ) → nop ≡ write u → (S C (suc k)).cell r f ≡ (S C k).cell r f
      none u e = let z : ◌≡◌ {A = ℕ} 0 1 = cc in absurd (omega arith)

  record_inside : (s t r : ℕ) → Starts next m calls s t (AskLlx r) → r < m.n
  record_inside s t r B = subst (λ n. r < n) (R.same_n s)
      (obeyed (M s) (calls s) _ (start_passes m calls R s t (AskLlx r) B)).1.1.0

  -- EVERY SNAPSHOT ENDS AN LLX, and that of the record whose link it stores
  snap_at : (k : ℕ) → (reading (M k) (calls k)).ends ≡ true → Snap next m calls k (calls k).task (reading (M k) (calls k)).at
  snap_at k h =
      let (P, (r, m1, a, q, e), answer) = snapped (M k) (calls k) h in
      let (s, B, g) = since k (calls k).task r (ap of q) in
      subst (λ r. Snap next m calls k (calls k).task r) (sym e)
      (record {
        start = s;
        starts = B;
        going = g;
        steps = passed_steps m calls R k P;
        cells = told k;
        answer = answer;
        tells = λ f l. tells k (calls k).task r (record { by = refl; ends = h; of = e }) f l ∙ still k h r f
            ∙ cell_is m calls R k r f (record_inside s _ r B);
      })

  pub snap_of : (k t r : ℕ) → (calls k).task ≡ t → (reading (M k) (calls k)).ends ≡ true → (reading (M k) (calls k)).at ≡ r → Snap next m calls k t r
  snap_of k t r w h e = subst (λ t. Snap next m calls k t r) w (subst (λ r. Snap next m calls k (calls k).task r) e (snap_at k h))

  pub is_a_read : (k : ℕ) (cells : List Cell) → said next m calls k ≡ Snapshot cells → (r : ℕ) × Snap next m calls k (calls k).task r
  is_a_read k cells h = ((reading (M k) (calls k)).at, snap_at k (at_l6 k cells h))

  -- a task has one LLX at a time: a start is of an idle task
  from_idle : (s t r : ℕ) → Starts next m calls s t (AskLlx r) → is_idle (place next m calls s t) ≡ true
  from_idle s t r B = subst (λ t. is_idle (place next m calls s t) ≡ true) (ap (λ (c : Call). c.task) B.asks)
      (obeyed (M s) (calls s) _ (start_passes m calls R s t (AskLlx r) B)).1.0

  no_later : (k s j t x : ℕ) → Going next m calls s t k → Starts next m calls j t (AskLlx x) → Going next m calls j t k → s < j → ⊥
  no_later k s j t x g B h l = ⊎_elim (λ e. g.busy j l (omega (arith, h.later)) e) (λ b. tf (from_idle j t x B) b) (idle_or (place next m calls j t))

  one_read : (k t r x : ℕ) → Since k t r → Since k t x → r ≡ x
  one_read k t r x (s, A, g) (j, B, h) = ⊎_elim
      (λ (e : s ≡ j). let q : AskLlx r ≡ AskLlx x = ap (λ (c : Call). c.ask) (sym A.asks ∙ ap calls e ∙ B.asks) in cc)
      (λ n. ⊎_elim (λ l. absurd (no_later k s j t x g B h (omega arith))) (λ l. absurd (no_later k j s t r h A g l)) (leb_case s j)) (same? s j)

  pub read_is : (k t r : ℕ) → Snap next m calls k t r → ((calls k).task ≡ t) × ((reading (M k) (calls k)).ends ≡ true) × ((reading (M k) (calls k)).at ≡ r)
  read_is k t r B =
      let h = at_l6 k B.cells B.answer in
      let A = snap_of k t _ B.steps.by h refl in
      (B.steps.by, h, one_read k t _ r (A.start, A.starts, A.going) (B.start, B.starts, B.going))
