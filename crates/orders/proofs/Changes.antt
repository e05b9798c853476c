-- A change of the statement is a number that a call of the course takes, with the terms that the start wrote down. Every SCX is refused or
-- is a change.
use Prim.Native.Nat.{ℕ, suc, ◌+◌, ◌≤◌, ◌<◌}
use mathlib.Core.Path.{◌≡◌, refl, sym, ap, ◌∙◌, subst}
use mathlib.Core.Logic.{◌⊎◌, inl, inr, ◌≢◌}
use Rattle.rules.specs.Words.{Machine, Own, H1, Ask, AskScx, Call, Check, Ok, Err, Refusal, Refused, Out}
use Rattle.table.specs.Table.{task_at}
use Rattle.rules.specs.Start.{filled}
use Rattle.rules.specs.Refuse.{check, rules_of}
use Rattle.rules.specs.Next.{refused, started, answered, next}
use Rattle.clauses.proofs.Memory.{Terms, make}
use Rattle.clauses.proofs.Steps.{terms_of}
use Rattle.clauses.proofs.Clauses.{Live}
use Rattle.clauses.proofs.Course.{Course, X, Starts, Unstarted, born}
use Rattle.orders.specs.Demand.{before, said, Change, During}
use Rattle.orders.specs.Demand.{Starts as Begins}
use Rattle.orders.proofs.Calls.{Passes, accepts, next_is, did_is, Scx, took}
use Rattle.orders.proofs.Run.{Run, course}

module _ (m : Machine) (calls : ℕ → Call) (R : Run m calls) where
  abbrev M : ℕ → Machine
  M k = before next m calls k

  abbrev C : Course
  C = course m calls R

  abbrev Ch : Type 0
  Ch = Change next m calls

  -- an accepted start has passed
  pub start_passes : (s t : ℕ) (ask : Ask) → Begins next m calls s t ask → Passes (M s) (calls s) ask
  start_passes s t ask B = record { passed = accepts (M s) (calls s) B.accepted; asks = ap (λ (e : Call). e.ask) B.asks }

  pub by_task : (c : Ch) → (calls c.start).task ≡ c.task
  by_task c = ap (λ (e : Call). e.task) c.asks

  pub by_list : (c : Ch) → (calls c.start).list ≡ c.list
  by_list c = ap (λ (e : Call). e.list) c.asks

  pub passes : (c : Ch) → Passes (M c.start) (calls c.start) (AskScx c.n c.closing c.written c.field c.new)
  passes c = start_passes c.start c.task _ (record { list = c.list; asks = c.asks; accepted = c.accepted })

  -- it takes the next number, and writes down what it asks for
  pub number_is : (c : Ch) → c.number ≡ (M c.start).used + 1
  number_is c =
      let p = R.goes_to c.start _ (passes c) in
      let q : H1 c.number 0 Own ≡ H1 ((M c.start).used + 1) 0 Own =
      sym c.takes ∙ subst (λ t. (task_at (M (suc c.start)) t).place ≡ H1 ((M c.start).used + 1) 0 Own) (by_task c) p in
      cc

  -- changes with different numbers have different starts
  pub another : (c d : Ch) (x : ℕ) → d.number ≡ x → x ≢ c.number → d.start ≢ c.start
  another c d x q n e = n (sym q ∙ number_is d ∙ ap (λ s. (M s).used + 1) e ∙ sym (number_is c))

  abbrev pub terms : Ch → Terms
  terms c = terms_of (filled (M c.start) c.task c.n c.list c.closing c.written c.field c.new)

  pub makes : (c : Ch) → C.act c.start ≡ make c.number (terms c)
  makes c = did_is (M c.start) (calls c.start) _ (passes c) ∙ rw (number_is c, by_task c, by_list c) refl

  pub starts : (c : Ch) (u : ℕ) → c.number ≡ u → Starts C c.start u
  starts c u e = (terms c, makes c ∙ ap (λ u. make u (terms c)) e)

  -- and whatever takes a number is a change
  pub change_of_lem : (s u : ℕ) → Starts C s u → (c : Ch) × (c.start ≡ s) × (c.number ≡ u)
  unfolding started
  change_of_lem s u (t, e) = go (took (M s) (calls s) u t e)
    where
      go : Scx (M s) (calls s) u t → (c : Ch) × (c.start ≡ s) × (c.number ≡ u)
      go (n, r, written, field, new, P, number, same) = (
        record {
          start = s;
          task = (calls s).task;
          n = n;
          list = (calls s).list;
          closing = r;
          written = written;
          field = field;
          new = new;
          number = u;
          asks = λ k. record { task = (calls s).task; ask = P.asks k; list = (calls s).list };
          accepted = ap (λ (o : Out). o.answer) (next_is (M s) (calls s) _ P);
          takes = R.goes_to s (AskScx n r written field new) P ∙ ap (λ u. H1 u 0 Own) (sym number);
        },
        refl,
        refl,
      )

  pub alone : (c : Ch) (k : ℕ) → During next m calls c k → Unstarted C c.number (suc c.start) k
  alone c k D i a b z = let (d, s, u) = change_of_lem i c.number z in
      D.alone d (subst (λ i. c.start < i) (sym s) a) (subst (λ i. i < k) (sym s) b) u

  pub during : (c : Ch) (k : ℕ) → c.start < k → Unstarted C c.number (suc c.start) k → During next m calls c k
  during c k h W = record { later = h; alone = λ d a b e. W d.start a b (starts d c.number e) }

  -- a live number has its change
  pub change_at_lem : (k u : ℕ) → Live (X C k) u → (c : Ch) × (c.number ≡ u) × During next m calls c k
  change_at_lem k u l =
      let (s, h, B, W) = born C k u l in
      let (c, e, q) = change_of_lem s u B in (
        c,
        q,
        during c k (subst (λ s. s < k) (sym e) h)
            (λ i a b z. W i (subst (λ s. suc s ≤ i) e a) b (subst (λ u. (t : Terms) × (C.act i ≡ make u t)) q z)),
      )

  pub is_a_change : (k n r written field new : ℕ) → (calls k).ask ≡ AskScx n r written field new
      → ((why : Refusal) × (said next m calls k ≡ Refused why)) ⊎ ((c : Ch) × (c.start ≡ k))
  unfolding next refused
  is_a_change k n r written field new e = go (check (rules_of (M k) (calls k))) refl
    where
      go : (x : Check) → check (rules_of (M k) (calls k)) ≡ x
          → ((why : Refusal) × ((answered x (M k) (calls k)).answer ≡ Refused why)) ⊎ ((c : Ch) × (c.start ≡ k))
      go (Ok _) q =
          let (c, s, u) = change_of_lem k ((M k).used + 1) (_, did_is (M k) (calls k) _ (record { passed = q; asks = e })) in
          inr (c, s)
      go (Err why) q = inl (why, refl)
