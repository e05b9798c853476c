-- The events of a run that is written down, each from tests that the prover computes.
use Prim.Native.Nat.{ℕ, suc, ◌-◌, ◌<◌, ◌≤◌}
use native.Mathlib.Omega.{arith}
use mathlib.Core.Path.{◌≡◌, refl, sym, ap, subst, ◌∙◌}
use mathlib.Core.Logic.{⊎_elim}
use mathlib.Core.Bool.{Bool, true, false, not, true≢false}
use mathlib.Core.List.{List}
use lib.Dec.{eqb, ltb}
use borrow.Author.Tests.{ltb-true, eqb-false, eq-eqb}
use Rattle.rules.specs.Words.{Cell, After, Own, Place, H1, H7, Machine, Ask, Call, Accepted, Snapshot, Out}
use Rattle.table.specs.Table.{pick, cell_at, record_at, change_at, task_at, link_at, same_cell}
use Rattle.rules.specs.Claim.{both, all_below}
use Rattle.rules.proofs.Exact.{both_is, both_on, all_is}
use Rattle.rules.specs.Places.{change_of, is_idle}
use Rattle.rules.specs.Next.{llx, scx, stepping}
use Rattle.orders.specs.Demand.{Brings, at_h3, at_h4, at_h8, leads, answers, before, said, place, cell, info, Steps, Change, named, spot}
use Rattle.orders.specs.Demand.{During, Effect, Holds, Starts, Going, Snap, LinkedRead, Verdict}
use Rattle.keeps.proofs.Refused.{is_refusal}
use Rattle.orders.proofs.Busy.{idle_or}
use Rattle.orders.proofs.Ways.{is_snapshot}
use Rattle.clauses.proofs.Updates.{bool?}
use Rattle.forged.specs.Places.{isH, is_scx, is_llx}
use Rattle.forged.proofs.Through.{scan_on, throughout, throughout_is, silent, silent_is}
use Rattle.forged.proofs.Tests.{not_refused, not_same, same_list, same_list_lem, same_link, same_link_lem}

-- THE TESTS, of a call and the table before it
module _ (next : Machine → Call → Out) (m : Machine) (calls : ℕ → Call) where
  -- call k starts an SCX, and its task then stands at the change u
  abbrev pub takes : ℕ → ℕ → Machine → Bool
  takes u k x = both (is_scx (calls k).ask) (eqb (change_of (task_at (next x (calls k)).m (calls k).task).place) u)

  -- c has started before k, and no start between them takes its number
  abbrev pub within : Change next m calls → ℕ → Bool
  within c k = both (ltb c.start k) (silent next m calls (takes c.number) c.start k)

  -- the cell that c names is after call k what it was before
  abbrev pub kept : Change next m calls → ℕ → Machine → Bool
  kept c k x =
      let r = spot next m calls c in
      same_cell (cell_at (record_at (next x (calls k)).m r).cells c.field) (cell_at (record_at x r).cells c.field)

  -- call k comes from a place of c where work on it may end
  abbrev pub ending : Change next m calls → ℕ → Machine → Bool
  ending c k x =
      let q = (task_at x (calls k).task).place in
      both (eqb (change_of q) c.number) (pick (isH 3 q) true (pick (isH 4 q) true (isH 8 q)))

  -- t is busy after call s, up to call k; call s asks for an LLX of r by t, which then is busy up to call k
  abbrev pub busy : ℕ → ℕ → ℕ → Bool
  busy t s k = throughout next m calls (λ j x. not (is_idle (task_at x t).place)) s (suc k)

  abbrev pub reads : ℕ → ℕ → ℕ → ℕ → Bool
  reads t r k s = both (both (is_llx r (calls s).ask) (eqb (calls s).task t)) (busy t s k)

  -- call k is t's and ends with a snapshot of r
  abbrev pub snaps : ℕ → ℕ → ℕ → Machine → Bool
  snaps t r k x =
      both (both (eqb (calls k).task t) (is_snapshot (next x (calls k)).answer))
      (not (all_below k (λ s. not (reads t r k s))))

  -- t's link to r is as in the table y
  abbrev pub stays : ℕ → ℕ → Machine → ℕ → Machine → Bool
  stays t r y k x = same_link (link_at x t r) (link_at y t r)

  -- call k is a STEP of t that is not refused
  abbrev pub going : ℕ → ℕ → Type 0
  going k t = (calls k ≡ stepping t) × (is_refusal (said next m calls k) ≡ false)

  pub steps : (k t : ℕ) → going k t → Steps next m calls k t
  steps k t g =
      record { step = ap (λ x. x.ask) g.0; by = ap (λ x. x.task) g.0; not_refused = not_refused (said next m calls k) g.1 }

  pub starts : {s t : ℕ} {ask : Ask} {list : List ℕ} → calls s ≡ record { task = t; ask = ask; list = list } → said next m calls s ≡ Accepted
      → Starts next m calls s t ask
  starts {list = list} e a = record { list = list; asks = e; accepted = a }

  pub goes_on : (t s k : ℕ) → ltb s k ≡ true → busy t s k ≡ true → Going next m calls s t k
  goes_on t s k l b =
      record {
        later = ltb-true s k l;
        busy = λ j l1 l2 i. true≢false (sym (throughout_is next m calls _ s (suc k) b j l1 (omega arith)) ∙ ap (λ q. not (is_idle q)) i);
      }

  pub snap : (t r s e : ℕ) {cs : List Cell} → calls s ≡ llx t r → said next m calls s ≡ Accepted → ltb s e ≡ true → busy t s e ≡ true
      → going e t → said next m calls e ≡ Snapshot cs
      → same_list cs (record_at (before next m calls e) r).cells ≡ true
      → Snap next m calls e t r
  snap t r s e {cs} asks acc l b g x same =
      record {
        start = s;
        starts = starts asks acc;
        going = goes_on t s e l b;
        steps = steps e t g;
        cells = cs;
        answer = x;
        tells = λ f l. ap (λ cs. cell_at cs f) (same_list_lem cs (record_at (before next m calls e) r).cells same);
      }

  abbrev pub begun : (start task n : ℕ) (list : List ℕ) (r written field new number : ℕ)
      → calls start ≡ scx task n list r written field new
      → said next m calls start ≡ Accepted → place next m calls (suc start) task ≡ H1 number 0 Own → Change next m calls
  begun start task n list r written field new number e a q =
      record {
        start = start;
        task = task;
        n = n;
        list = list;
        closing = r;
        written = written;
        field = field;
        new = new;
        number = number;
        asks = e;
        accepted = a;
        takes = q;
      }

-- THE EVENTS
module _ {next : Machine → Call → Out} {m : Machine} {calls : ℕ → Call} where
  takes_is : (d : Change next m calls) → takes next m calls d.number d.start (before next m calls d.start) ≡ true
  unfolding before
  takes_is d =
      let k = d.start in
      let q = place next m calls (suc k) (calls k).task in
      let at-u = subst (λ t. place next m calls (suc k) t ≡ H1 d.number 0 Own) (sym (ap (λ x. x.task) d.asks)) d.takes in
      both_on (is_scx (calls k).ask) (eqb (change_of q) d.number) (ap (λ x. is_scx x.ask) d.asks)
      (eq-eqb (change_of q) d.number (ap change_of at-u))

  pub during : (c : Change next m calls) (k : ℕ) → within next m calls c k ≡ true → During next m calls c k
  during c k h =
      let p = both_is (ltb c.start k) (silent next m calls (takes next m calls c.number) c.start k) h in
      record {
        later = ltb-true c.start k p.0;
        alone = λ d l1 l2 e.
            silent_is next m calls (takes next m calls c.number) c.start k p.1 d.start l1 l2
            (subst (λ u. takes next m calls u d.start (before next m calls d.start) ≡ true) e (takes_is d));
      }

  pub effect : (c : Change next m calls) (k t : ℕ) (after : After) → within next m calls c k ≡ true → going next m calls k t
      → place next m calls k t ≡ H7 c.number after → kept next m calls c k (before next m calls k) ≡ false
      → Effect next m calls c k
  unfolding before
  effect c k t after w s q h =
      let r = spot next m calls c in
      record {
        during = during c k w;
        by = t;
        after = after;
        steps = steps next m calls k t s;
        at_h7 = q;
        alters = not_same (cell next m calls (suc k) r c.field) (cell next m calls k r c.field) h;
      }

  pub hold : (c : Change next m calls) (k r t i : ℕ) (after : After) → within next m calls c k ≡ true → going next m calls k t
      → place next m calls k t ≡ H1 c.number i after → ltb i c.n ≡ true → named next m calls c i ≡ r
      → info next m calls (suc k) r ≡ c.number → eqb (info next m calls k r) c.number ≡ false
      → silent next m calls (ending next m calls c) c.start k ≡ true → Holds next m calls c k r
  hold c k r t i after w s q l e took was still =
      record {
        during = during c k w;
        by = t;
        after = after;
        i = i;
        steps = steps next m calls k t s;
        at_h1 = q;
        names = (ltb-true i c.n l, e);
        takes = took;
        alters = eqb-false (info next m calls k r) c.number was;
        unfinished = λ j b l h. silent_is next m calls (ending next m calls c) c.start k still j h.during.later l
            (ends h.brings (ap (λ t. place next m calls j t) (sym h.steps.by)));
      }
    where
      ends : {after : After} {frozen b : Bool} {p q : Place} → Brings c.number after frozen p b → p ≡ q
          → both (eqb (change_of q) c.number) (pick (isH 3 q) true (pick (isH 4 q) true (isH 8 q))) ≡ true
      ends (at_h3 f) e = rw (← e) (both_on (eqb c.number c.number) true (eq-eqb c.number c.number refl) refl)
      ends at_h4 e = rw (← e) (both_on (eqb c.number c.number) true (eq-eqb c.number c.number refl) refl)
      ends at_h8 e = rw (← e) (both_on (eqb c.number c.number) true (eq-eqb c.number c.number refl) refl)

  pub verdict : (c : Change next m calls) (k t : ℕ) (after : After) (b : Bool) → within next m calls c k ≡ true
      → going next m calls k t
      → Brings c.number after (change_at (before next m calls k) c.number).frozen (place next m calls k t) b
      → (place next m calls (suc k) t ≡ leads after b) × (said next m calls k ≡ answers after b)
      → Verdict next m calls c k b
  verdict c k t after b w s h e =
      record { during = during c k w; by = t; after = after; steps = steps next m calls k t s; brings = h; ends = e }

  is_busy : (t s k : ℕ) → Going next m calls s t k → busy next m calls t s k ≡ true
  is_busy t s k g = scan_on next m calls _ (suc s) (suc k - suc s) (λ j l1 l2. ap not (⊎_elim
      (λ i. absurd (g.busy j l1 (omega (arith, g.later)) i)) (λ b. b) (idle_or (place next m calls j t))))

  pub snaps_is : (t r j : ℕ) → Snap next m calls j t r → snaps next m calls t r j (before next m calls j) ≡ true
  snaps_is t r j s =
      let k = s.start in
      let asks = s.starts.asks in
      both_on (both (eqb (calls j).task t) (is_snapshot (said next m calls j))) (not (all_below j (λ i. not (reads next m calls t r j i))))
      (both_on (eqb (calls j).task t) (is_snapshot (said next m calls j)) (eq-eqb (calls j).task t s.steps.by) (ap is_snapshot s.answer))
      (⊎_elim (λ h. absurd (true≢false (sym (all_is j (λ i. not (reads next m calls t r j i)) h k s.going.later) ∙ ap not
      (both_on (both (is_llx r (calls k).ask) (eqb (calls k).task t)) (busy next m calls t k j)
      (both_on (is_llx r (calls k).ask) (eqb (calls k).task t) (ap (λ x. is_llx r x.ask) asks ∙ eq-eqb r r refl)
      (eq-eqb (calls k).task t (ap (λ x. x.task) asks))) (is_busy t k j s.going)))))
      (λ h. ap not h) (bool? (all_below j (λ i. not (reads next m calls t r j i)))))

  pub linked : (c : Change next m calls) (r s e : ℕ) {cs : List Cell} → calls s ≡ llx c.task r → said next m calls s ≡ Accepted → ltb s e ≡ true
      → busy next m calls c.task s e ≡ true → ltb e c.start ≡ true → going next m calls e c.task
      → said next m calls e ≡ Snapshot cs
      → silent next m calls (snaps next m calls c.task r) e c.start ≡ true
      → throughout next m calls (stays next m calls c.task r (before next m calls (suc e))) e (suc c.start) ≡ true
      → same_list cs (record_at (before next m calls e) r).cells ≡ true
      → LinkedRead next m calls c r e
  linked c r s e asks acc f b l g x only stands tells =
      let y = before next m calls (suc e) in
      let link : (j : ℕ) → e < j → j ≤ c.start
      → ((link_at (before next m calls j) c.task r).there ≡ true) × (link_at (before next m calls j) c.task r ≡ link_at y c.task r) =
      λ j l1 l2. same_link_lem (link_at (before next m calls j) c.task r) (link_at y c.task r)
      (throughout_is next m calls (stays next m calls c.task r y) e (suc c.start) stands j l1 (omega arith)) in
      record {
        before_start = ltb-true e c.start l;
        ends = snap next m calls c.task r s e asks acc f b g x tells;
        there = (link (suc e) (omega arith) (ltb-true e c.start l)).0;
        stands = λ j l1 l2. (link j l1 l2).1;
        last = λ j l1 l2 h. silent_is next m calls (snaps next m calls c.task r) e c.start only j l1 l2 (snaps_is c.task r j h);
      }
