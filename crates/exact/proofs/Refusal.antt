-- The refusal that a turn finds is the rules' own: what it reads by a clipped index matters only behind the rules that bound the index.
use Prim.Native.Nat.{ℕ, zero, suc, ◌%◌, ◌<◌, ◌≤◌}
use native.Mathlib.Omega.{arith}
use native.Mathlib.Nat.{mod-eq_of_lt, le_trans}
use mathlib.Core.Path.{◌≡◌, refl, ap, ◌∙◌}
use mathlib.Core.Bool.{Bool, true, false}
use mathlib.Core.List.{List}
use lib.ListN.{get_or}
use lib.Dec.{ltb}
use borrow.Author.Tests.{ltb-true}
use Rattle.rules.specs.Words.{Machine, Link, Ask, AskLlx, AskScx, AskVlx, AskRead, AskStep, Call, Check, Ok, Err}
use Rattle.rules.specs.Words.{TaskBusy, ListLength, NoSuchRecord, RecordTwice, PlaceOrField, NoLink, NumbersUsed}
use Rattle.table.specs.Table.{pick, task_at, link_at, no_link}
use Rattle.rules.specs.Claim.{all_below, test}
use Rattle.rules.specs.Shape.{within, exist, apart, InShape}
use Rattle.rules.specs.Places.{is_idle}
use Rattle.rules.specs.Refuse.{inside, check, rules, idle_at, linked_at}
use Rattle.rules.proofs.Exact.{told}
use Rattle.refuse.specs.Linked.{theres, linked_by}
use Rattle.hand.specs.Hand.{links_of}
use Rattle.keeps.proofs.Bounds.{p≤8, n≤32}
use Rattle.exact.proofs.Clip.{pick_same, all_same, near}

-- the refusal that a turn finds, its task and the records of its list clipped
unfoldable pub refusal_in : Machine → Call → Check
refusal_in m e =
    let t = e.task % 8 in
    check
    (rules m.p m.n m.used (is_idle (task_at m t).place) (linked_by e.ask (links_of m.links t e.list)) e.task e.ask e.list)

-- what the links read say of each place
at_there : (ls : List Link) (i : ℕ) → i < 4 → get_or (theres ls) i false ≡ (get_or ls i no_link).there
at_there ls zero q = refl
at_there ls (suc zero) q = refl
at_there ls (suc (suc zero)) q = refl
at_there ls (suc (suc (suc zero))) q = refl
at_there ls (suc (suc (suc (suc i)))) q = absurd (omega arith)

module _ (m : Machine) (few : m.n ≤ 32) where
  linked_same : (t n : ℕ) (l : List ℕ) → test 0 (within 4 n) ≡ true → test 0 (exist m.n n l) ≡ true
      → all_below n (λ i. get_or (theres (links_of m.links t l)) i false) ≡ all_below n (λ i. (link_at m t (get_or l i 0)).there)
  linked_same t n l short here =
      let size = told 0 (within 4 n) short in
      let exists = told 0 (exist m.n n l) here in
      all_same n _ _
      (λ i q. at_there (links_of m.links t l) i (omega arith)
      ∙ ap (λ k. k.there) (near m.links t l i (omega arith) (le_trans (exists i q) few)))

  unclipped : (t : ℕ) → m.p ≤ 8 → ltb t m.p ≡ true → t % 8 ≡ t
  unclipped t small h = mod-eq_of_lt (le_trans (ltb-true t m.p h) small)

  -- a list's rules, behind which the links are read, of a task s that is t
  module _ (n : ℕ) (l : List ℕ) (later : Bool → Check) where
    abbrev on_list : Bool → Bool → Check
    on_list idle linked =
        pick idle
        (pick (test 0 (within 4 n))
        (pick (test 0 (exist m.n n l)) (pick (test 0 (apart n l)) (later linked) (Err RecordTwice)) (Err NoSuchRecord))
        (Err ListLength))
        (Err TaskBusy)

    abbrev as_read : ℕ → Bool
    as_read t = all_below n (λ i. get_or (theres (links_of m.links t l)) i false)

    abbrev as_linked : ℕ → Bool
    as_linked t = all_below n (λ i. (link_at m t (get_or l i 0)).there)

    list_same : (s t : ℕ) → s ≡ t → on_list (idle_at m s) (as_read s) ≡ on_list (idle_at m t) (as_linked t)
    list_same s t e =
        ap (λ (k : ℕ). on_list (idle_at m k) (as_read k)) e
        ∙ pick_same (idle_at m t) _ _ _
        (λ _. pick_same (test 0 (within 4 n)) _ _ _
        (λ short. pick_same (test 0 (exist m.n n l)) _ _ _
        (λ here. pick_same (test 0 (apart n l)) _ _ _ (λ _. ap later (linked_same t n l short here)))))

  refusal_same : m.p ≤ 8 → (t : ℕ) (ask : Ask) (l : List ℕ)
      → let e : Call = record { task = t; ask = ask; list = l } in
      refusal_in m e ≡ check (rules m.p m.n m.used (idle_at m t) (linked_at m e) t ask l)
  unfolding refusal_in linked_at
  refusal_same small t (AskLlx r) l = pick_same (ltb t m.p) _ _ _ (λ h. rw (unclipped t small h) refl)
  refusal_same small t (AskScx n r written field new) l =
      pick_same (ltb t m.p) _ _ _
      (λ h. list_same n l
      (λ linked. pick (test 0 (inside n r written field))
      (pick linked (pick (ltb m.used 255) (Ok tt) (Err NumbersUsed)) (Err NoLink))
      (Err PlaceOrField)) (t % 8) t (unclipped t small h))
  refusal_same small t (AskVlx n) l =
      pick_same (ltb t m.p) _ _ _ (λ h. list_same n l (λ linked. pick linked (Ok tt) (Err NoLink)) (t % 8) t (unclipped t small h))
  refusal_same small t (AskRead r f) l = pick_same (ltb t m.p) _ _ _ (λ h. rw (unclipped t small h) refl)
  refusal_same small t AskStep l = pick_same (ltb t m.p) _ _ _ (λ h. rw (unclipped t small h) refl)

pub refusal_is : (m : Machine) (e : Call) → InShape m
    → refusal_in m e ≡ check (rules m.p m.n m.used (idle_at m e.task) (linked_at m e) e.task e.ask e.list)
refusal_is m e S = refusal_same m (n≤32 m S) (p≤8 m S) e.task e.ask e.list
