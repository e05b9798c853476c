-- The start of an SCX keeps the shape: what the refusals leave, and the links that it fills its change from, put the new change in
-- shape; every other claim stands, as one number more is used.
use Prim.Native.Nat.{ℕ, ◌+◌, ◌<◌, ◌≤◌, zero-le}
use native.Mathlib.Omega.{arith}
use native.Mathlib.Nat.{le_refl, le_trans}
use mathlib.Core.Path.{◌≡◌, ap}
use mathlib.Core.Logic.{◌≢◌}
use mathlib.Core.Bool.{true}
use mathlib.Core.List.{List}
use lib.ListN.{get_or, set, length}
use lib.Seq.{get_or-set_same, get_or-set_other}
use lib.Dec.{ltb}
use Rattle.rules.specs.Words.{Own, Change, Task, Link, Machine, H1, AskScx}
use Rattle.keeps.proofs.Stores.{picked, placed}
use Rattle.keeps.proofs.Fine.{Fine}
use Rattle.keeps.proofs.Frame.{Put, put_fine}
use Rattle.keeps.proofs.Starts.{others_stay, links_fine}
use Rattle.table.specs.Table.{pick, no_change, no_link, record_at, change_at, task_at, slot, link_at}
use Rattle.table.proofs.Tabulate.{get_d_tabulate}
use Rattle.rules.specs.Step.{drop_first}
use Rattle.rules.specs.Start.{filled, start}
use Rattle.rules.specs.Claim.{Says}
use Rattle.rules.specs.Shape.{record_fine, stamps_known, change_fine, link_fine, list_fine}
use Rattle.rules.specs.Refuse.{inside}
use Rattle.rules.proofs.Exact.{stands}

module _ (m : Machine) (F : Fine m) (t : ℕ) (tl : t < m.p) (n r written field new : ℕ) (l : List ℕ)
    (list : Says 0 (list_fine m.n n l)) (in_List : Says 0 (inside n r written field))
    (linked : (i : ℕ) → i < n → (link_at m t (get_or l i 0)).there ≡ true) (left : m.used < 255) (room : m.used + 1 < length m.changes) where
  abbrev next_number_lem : ℕ
  next_number_lem = m.used + 1

  abbrev change : Change
  change = filled m t n l r written field new

  one_more : m.used ≤ next_number_lem
  one_more = omega arith

  -- the link to place i of the list is in shape
  link : (i : ℕ) → i < n → ((link_at m t (get_or l i 0)).info ≤ m.used) × Says m.used (stamps_known 4 (link_at m t (get_or l i 0)).cells)
  link i q = F.link_fine_lem t tl (get_or l i 0) (list.1.0 i q) (linked i q)

  infos_known : (i : ℕ) → i < n → get_or change.infos i 0 ≤ next_number_lem
  infos_known i q =
      let four = list.0.1 in
      rw (get_d_tabulate 4 (λ i. pick (ltb i n) (link_at m t (get_or l i 0)).info 0) i 0 (omega arith))
      (picked (λ k. k ≤ next_number_lem) (ltb i n) (link_at m t (get_or l i 0)).info 0 (λ e. le_trans (link i q).0 one_more) (λ e. zero-le))

  change_filled : Says next_number_lem (change_fine m.n change)
  change_filled =
      (list, (in_List.1.0.1, (in_List.0, (in_List.1.1, (le_trans ((link written in_List.0).1 field in_List.1.1) one_more, infos_known)))))

  abbrev changes : List Change
  changes = set m.changes next_number_lem change

  others : (u : ℕ) → u ≢ next_number_lem → get_or changes u no_change ≡ change_at m u
  others u d = get_or-set_other m.changes next_number_lem u change no_change d

  abbrev task : Task
  task = record { place = H1 next_number_lem 0 Own; cells = (task_at m t).cells; list = (task_at m t).list }

  abbrev links : List Link
  links = drop_first m.links t l n

  filled_first : 0 < (get_or changes next_number_lem no_change).n
  filled_first = rw (get_or-set_same m.changes next_number_lem change no_change room) list.0.0

  put_scx : Put m t next_number_lem m.records changes task links
  put_scx =
      record {
        more_used = one_more;
        used<256 = omega arith;
        records = λ r rl. stands m.used next_number_lem one_more (record_fine (record_at m r)) (F.record_fine_lem r rl);
        changes = λ u u0 ul. placed (λ (x : Change). Says next_number_lem (change_fine m.n x)) m.changes next_number_lem change no_change u
            (λ e. change_filled) room
            (λ d. stands m.used next_number_lem one_more (change_fine m.n (change_at m u)) (F.change_fine_lem u u0 (omega arith)));
        same_n = λ u ul. ap (λ (x : Change). x.n) (others u (λ e. omega arith));
        same_r = λ u ul. ap (λ (x : Change). x.r) (others u (λ e. omega arith));
        task = (filled_first, (omega arith, (le_refl next_number_lem, tt)));
        others = λ j d r rl h. rw (others_stay m F t tl l n list.1.0 j d r rl) h;
        links = λ j jl r rl. stands m.used next_number_lem one_more (link_fine (get_or links (slot j r) no_link))
            (links_fine m F t tl l n list.1.0 j jl r rl);
      }

  pub scx_keeps : Fine (start m t (AskScx n r written field new) l)
  unfolding start
  scx_keeps = put_fine m F t next_number_lem m.records changes task links put_scx
