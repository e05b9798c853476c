-- EVERY CALL IS A TURN: what the bridge says of the table and what the clauses say of the step, put together, for a step, each start
-- and a refused call.
use Prim.Native.Nat.{ℕ, ◌+◌, ◌≤◌, ◌<◌}
use mathlib.Core.Path.{◌≡◌, refl, sym, ap, ◌∙◌, subst}
use mathlib.Core.Bool.{true, false, not, false≢true}
use mathlib.Core.Logic.{inl, inr, ◌≢◌, ⊎_elim}
use mathlib.Core.List.{List}
use native.Mathlib.Omega.{arith}
use lib.ListN.{get_or}
use lib.Dec.{eqb, ltb}
use borrow.Author.Tests.{eqb-false, not-true, lt-ltb}
use Rattle.rules.specs.Words.{Cell, Place, Task, Link, Machine}
use Rattle.rules.specs.Words.{Ask, AskLlx, AskScx, AskVlx, AskRead, AskStep, Call, Check, Ok, Err}
use Rattle.table.specs.Table.{pick, cell_at, change_at, task_at, link_at}
use Rattle.table.proofs.Tabulate.{get_d_tabulate}
use Rattle.rules.specs.Places.{change_of}
use Rattle.rules.specs.Perform.{record_of, seen}
use Rattle.rules.specs.Step.{access_at, move_at, step}
use Rattle.rules.specs.Start.{filled, start}
use Rattle.rules.specs.Shape.{all_linked}
use Rattle.rules.specs.Refuse.{check, linked_at, rules_of}
use Rattle.rules.specs.Next.{refused, started, accepted, answered, next}
use Rattle.rules.proofs.Exact.{told}
use Rattle.keeps.proofs.Fine.{Fine}
use Rattle.keeps.proofs.Lengths.{Sized}
use Rattle.keeps.proofs.Obeyed.{Obeys, passed}
use Rattle.clauses.proofs.Updates.{upd_hit, same?, leb_case}
use Rattle.clauses.proofs.Memory.{Terms, apply, Act, nop, make}
use Rattle.clauses.proofs.History.{Ghost, Reading}
use Rattle.clauses.proofs.Clauses.{At, Live, Made}
use Rattle.clauses.proofs.Clauses.{Fine as Clauses}
use Rattle.clauses.proofs.Steps.{terms_of}
use Rattle.clauses.proofs.Others.{stay}
use Rattle.clauses.proofs.Turn.{Turn}
use Rattle.clauses.proofs.Advanced.{Advanced, none_below}
use Rattle.clauses.proofs.Advance.{advance}
use Rattle.clauses.proofs.Made.{made}
use Rattle.orders.proofs.View.{task_in, link_in, view, shared, doing, no_reading, ending, done_by, read_by, did, reading}
use Rattle.orders.proofs.Number.{live_known, next_number_lem}
use Rattle.orders.proofs.Shares.{shares}
use Rattle.orders.proofs.Frames.{tasks_stay, links_stay, relinks}
use Rattle.orders.proofs.Seen.{saw}
use Rattle.orders.proofs.Linked.{stores}
use Rattle.orders.proofs.Settled.{steps_to, llx_starts, scx_starts, vlx_starts, read_starts}
use Rattle.orders.proofs.Run.{task_in_lem, link_in_lem}

module _ (m : Machine) (F : Fine m) (Z : Sized m) (G : Ghost) (K : Clauses (view m) G) where
  -- what is known of task t after a call that did b, read k and left the table m'
  abbrev Known : ℕ → Act → Reading → Machine → Type 0
  Known t b k m' = Advanced (view m) G t b k (task_in m' t).cells (task_in m' t).place (link_in m' t k.at)

  -- a call that does nothing, and leaves its task at a place that knows nothing new
  quiet : (t : ℕ) (cs : List Cell) (q : Place) (new : Link) → (change_of q ≢ 0 → Live (view m) (change_of q)) → At (shared m) G cs q
      → Advanced (view m) G t nop no_reading cs q new
  quiet t cs q new live h = record {
    guard = tt;
    room = tt;
    carried = λ z. inl (live z);
    stored = λ e. absurd (false≢true e);
    place = stay (shared m) G t no_reading nop tt cs q tt (λ z. K.changes_law _ (live z)) h;
  }

  refused_known : (t : ℕ) → Known t nop no_reading m
  refused_known t = quiet t _ _ _ (λ z. (z, inr (t, refl))) (K.places_law t)

  -- R names only places below n
  in_list : (u : ℕ) → Live (view m) u → (i : ℕ) → i < 4 → get_or (change_at m u).r i false ≡ true → i < (change_at m u).n
  in_list u l = let (a, b) = live_known m F u l in (F.change_fine_lem u a b).1.0

  step_known : (t : ℕ) → t < m.p → Known t (doing m t AskStep (task_at m t).list) (ending m t AskStep) (step m t).m
  unfolding access_at move_at
  step_known t tl =
      let x = task_at m t in let q = x.place in
      let s = seen (access_at m t) m in
      let live : change_of q ≢ 0 → Live (view m) (change_of q) = λ z. (z, inr (t, ap (λ (x : Task). change_of x.place) (task_in_lem m t tl))) in
      let A = advance (view m) G K t q x.cells s (change_at m (change_of q)) x.list (link_at m t (record_of (access_at m t))).info refl
      (Z.task_cells t (omega (arith, F.p<9))) (λ z. in_list (change_of q) (live z)) (saw m F t tl) live
      (subst (λ (x : Task). At (shared m) G x.cells x.place) (task_in_lem m t tl) (K.places_law t)) in
      subst (λ (y : Task). Advanced (view m) G t (doing m t AskStep x.list) (ending m t AskStep) y.cells y.place
      (link_in (step m t).m t (record_of (access_at m t)))) (sym (steps_to m F Z t tl))
      (record {
        guard = A.guard;
        room = A.room;
        place = A.place;
        carried = A.carried;
        stored = λ e. rw (stores m F Z t tl e) (A.stored e);
      })

  -- the start of an SCX: t < P, and what its rules say of the list, the written place and field, and the links
  module _ (t : ℕ) (tl : t < m.p) (n r written field new : ℕ) (l : List ℕ) (few : n ≤ 4) (exist : (i : ℕ) → i < n → get_or l i 0 < m.n)
      (apart : (j : ℕ) → j < n → (i : ℕ) → i < j → not (eqb (get_or l i 0) (get_or l j 0)) ≡ true) (in-n : written < n) (in-4 : field < 4)
      (there : (i : ℕ) → i < n → (link_at m t (get_or l i 0)).there ≡ true) where
    abbrev c : Terms
    c = terms_of (filled m t n l r written field new)

    link_is : (i : ℕ) → i < n → link_in m t (get_or l i 0) ≡ link_at m t (get_or l i 0)
    link_is i h = link_in_lem m t (get_or l i 0) tl (exist i h)

    distinct : (i j : ℕ) → i < n → j < n → get_or l i 0 ≡ get_or l j 0 → i ≡ j
    distinct i j h k e = ⊎_elim (λ q. q) (λ d. ⊎_elim
        (λ a. absurd (eqb-false _ _ (not-true _ (apart j k i (omega arith))) e))
        (λ a. absurd (eqb-false _ _ (not-true _ (apart i h j a)) (sym e))) (leb_case i j)) (same? i j)

    infos : (i : ℕ) → i < n → c.infos i ≡ (link_in m t (get_or l i 0)).info
    infos i h = get_d_tabulate 4 (λ i. pick (ltb i n) (link_at m t (get_or l i 0)).info 0) i 0 (omega arith)
        ∙ rw (lt-ltb i n h, link_is i h) refl

    fills : Made (shared m) G t (m.used + 1) c
    fills = made (view m) G K t (m.used + 1) c (next_number_lem m F) distinct few in-n in-4
        (λ i h. rw (link_is i h) (there i h)) infos (ap (λ (k : Link). cell_at k.cells field) (sym (link_is written in-n)))

    scx_known : Known t (make (m.used + 1) c) no_reading (start m t (AskScx n r written field new) l)
    unfolding apply
    scx_known = subst (λ (y : Task). Advanced (view m) G t (make (m.used + 1) c) no_reading y.cells y.place
        (link_in (start m t (AskScx n r written field new) l) t 0)) (sym (scx_starts m F Z t tl n r written field new l))
        (record {
          guard = fills;
          room = next_number_lem m F;
          carried = λ z. inr (c, refl);
          stored = λ e. absurd (false≢true e);
          place = (fills.nonzero, rw (upd_hit (shared m).terms (m.used + 1) c {j = m.used + 1} refl) (omega arith), λ j. none_below);
        })

  -- a start that does nothing to the shared words
  start_known : (t : ℕ) (ask : Ask) (l : List ℕ) (y : Task) → task_in (start m t ask l) t ≡ y → change_of y.place ≡ 0
      → At (shared m) G y.cells y.place → Known t nop no_reading (start m t ask l)
  start_known t ask l y e none h =
      subst (λ (y : Task). Advanced (view m) G t nop no_reading y.cells y.place (link_in (start m t ask l) t 0)) (sym e)
      (quiet t y.cells y.place _ (λ z. absurd (z none)) h)

  accepted_known : (t : ℕ) (ask : Ask) (l : List ℕ) → Obeys m t ask l
      → Known t (doing m t ask l) (ending m t ask) (accepted m t ask l).m
  unfolding started linked_at
  accepted_known t (AskLlx r) l h = start_known t (AskLlx r) l _ (llx_starts m F Z t h.0 r l) refl tt
  accepted_known t (AskScx n r written field new) l h =
      let rest = h.1.1 in
      scx_known t h.0 n r written field new l (omega (arith, rest.0.1)) rest.1.0 rest.1.1.0 rest.1.1.1.0.0
      rest.1.1.1.0.1.1 (told 0 (all_linked n l (λ r. (link_at m t r).there)) rest.1.1.1.1.0)
  accepted_known t (AskVlx n) l h = start_known t (AskVlx n) l _ (vlx_starts m F Z t h.0 n l) refl h.1.1.0.0
  accepted_known t (AskRead r f) l h = start_known t (AskRead r f) l _ (read_starts m F Z t h.0 r f l) refl tt
  accepted_known t AskStep l h = step_known t h.0

  known : (e : Call) → Known e.task (did m e) (reading m e) (next m e).m
  unfolding next refused rules_of
  known e = go (check (rules_of m e)) refl
    where
      go : (c : Check) → check (rules_of m e) ≡ c → Known e.task (done_by c m e) (read_by c m e) (answered c m e).m
      go (Ok _) h = accepted_known e.task e.ask e.list (passed (rules_of m e) h).1
      go (Err why) h = refused_known e.task

  pub turn_of_lem : (e : Call) → Turn (view m) (view (next m e).m) G e.task (did m e) (reading m e)
  turn_of_lem e =
      let A = known e in
      record {
        shared = shares m F Z e;
        tasks = tasks_stay m e;
        links = links_stay m F e;
        own_links = relinks m e;
        guard = A.guard;
        room = A.room;
        place = A.place;
        carried = A.carried;
        stored = A.stored;
      }
