-- The start that a turn makes is the rules' own, behind the rules that it passed.
use Prim.Native.Nat.{ℕ, zero, suc, ◌+◌, ◌<◌, ◌≤◌}
use native.Mathlib.Omega.{arith}
use native.Mathlib.Nat.{mod-eq_of_lt, le_trans}
use mathlib.Core.Path.{◌≡◌, refl, ap}
use mathlib.Core.Bool.{false}
use mathlib.Core.List.{List, [], ◌∷◌}
use lib.ListN.{get_or}
use lib.Dec.{ltb}
use borrow.Author.Tests.{ltb-true, lt-ltb}
use Rattle.rules.specs.Words.{Machine, InProgress, Link, Access, AskLlx, AskScx, AskVlx, AskRead}
use Rattle.table.specs.Table.{pick, tabulate, no_link, cell_at, link_at}
use Rattle.rules.specs.Step.{drop_first}
use Rattle.rules.specs.Claim.{Says}
use Rattle.rules.specs.Shape.{exist}
use Rattle.rules.specs.Start.{places, filled, start}
use Rattle.rules.specs.Next.{started}
use Rattle.begin.specs.Begun.{next_number, info_in, infos_in, old_in, filled_by}
use Rattle.hand.specs.Hand.{clip, links_of, put_turn}
use Rattle.exact.proofs.Put.{put_passed, same_records, same_changes, same_links}
use Rattle.exact.proofs.Clip.{pick_same, drop_same, clip_same, near}

module _ (m : Machine) (few : m.n ≤ 32) (t : ℕ) (a : Access) (x : ℕ) where
  -- the change in hand
  abbrev c : ℕ
  c = next_number m.used

  pub llx_is : (r : ℕ) (l : List ℕ) → r < m.n → put_passed m t c a x (AskLlx r) l ≡ started m t (AskLlx r) l
  unfolding put_turn started start
  llx_is r l h =
      rw (same_records m x, same_changes m c, same_links m t x)
      (rw (drop_same m.links t (clip (r ∷ 0 ∷ 0 ∷ 0 ∷ [])) (r ∷ []) 1 same) refl)
    where
      same : (i : ℕ) → i < 1 → get_or (clip (r ∷ 0 ∷ 0 ∷ 0 ∷ [])) i 0 ≡ get_or (r ∷ []) i 0
      same zero q = mod-eq_of_lt (le_trans h few)
      same (suc i) q = absurd (omega arith)

  pub vlx_is : (n : ℕ) (l : List ℕ) → put_passed m t c a x (AskVlx n) l ≡ started m t (AskVlx n) l
  unfolding put_turn started start drop_first
  vlx_is n l = rw (same_records m x, same_changes m c, same_links m t x) refl

  pub read_is : (r f : ℕ) (l : List ℕ) → put_passed m t c a x (AskRead r f) l ≡ started m t (AskRead r f) l
  unfolding put_turn started start drop_first
  read_is r f l = rw (same_records m x, same_changes m c, same_links m t x) refl

  -- an SCX: the number taken, the infos and the old cell read from the links, and the links dropped
  module _ (n r written field new : ℕ) (l : List ℕ)
      (short : n < 5) (exists : Says 0 (exist m.n n l)) (inside : written < n) (left : m.used < 255) where
    below : (i : ℕ) → i < n → get_or l i 0 < 32
    below i q = le_trans (exists i q) few

    here : (i : ℕ) → i < n → get_or (links_of m.links t l) i no_link ≡ link_at m t (get_or l i 0)
    here i q = near m.links t l i (omega arith) (below i q)

    info_same : (i : ℕ) → info_in n i (get_or (links_of m.links t l) i no_link) ≡ pick (ltb i n) (link_at m t (get_or l i 0)).info 0
    info_same i = pick_same (ltb i n) _ _ _ (λ q. ap (λ (k : Link). k.info) (here i (ltb-true i n q)))

    infos_same : infos_in n (links_of m.links t l) ≡ tabulate 4 (λ i. pick (ltb i n) (link_at m t (get_or l i 0)).info 0)
    unfolding tabulate
    infos_same = λ k. info_same 0 k ∷ info_same 1 k ∷ info_same 2 k ∷ info_same 3 k ∷ []

    old_same : old_in (links_of m.links t l) written field ≡ cell_at (link_at m t (get_or l written 0)).cells field
    old_same = ap (λ (k : Link). cell_at k.cells field) (here written inside)

    filled_same : filled_by n l r written field new (links_of m.links t l) ≡ filled m t n l r written field new
    unfolding filled_by
    filled_same =
        λ k. record {
          n = n;
          v = l;
          r = places r;
          written = written;
          field = field;
          new = new;
          old = old_same k;
          state = InProgress;
          frozen = false;
          infos = infos_same k;
        }

    taken : c ≡ m.used + 1
    taken = rw (lt-ltb _ _ left) refl

    pub scx_is : put_passed m t c a x (AskScx n r written field new) l ≡ started m t (AskScx n r written field new) l
    unfolding put_turn started start
    scx_is = rw (same_records m x, same_links m t x, filled_same, taken, drop_same m.links t (clip l) l n (clip_same l n below)) refl
