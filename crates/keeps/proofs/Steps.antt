-- A step keeps the shape: the access leaves the shared words in shape, the move the task and its links.
use Prim.Native.Nat.{ℕ, ◌<◌, ◌≤◌}
use native.Mathlib.Omega.{arith}
use native.Mathlib.Nat.{le_refl}
use mathlib.Core.Path.{◌≡◌, refl, subst, ◌∙◌}
use mathlib.Core.Logic.{◌≢◌}
use mathlib.Core.Bool.{Bool, true, false≢true}
use mathlib.Core.List.{List}
use lib.ListN.{get_or, set}
use lib.Seq.{get_or-set_other}
use Rattle.rules.specs.Words.{Record, Change, Task, Link, Machine, Access, Seen, Move}
use Rattle.keeps.proofs.Stores.{any, picked}
use Rattle.keeps.proofs.Fine.{Fine}
use Rattle.keeps.proofs.Places.{stays}
use Rattle.keeps.proofs.Links.{drop_each, slots_apart, drop_apart}
use Rattle.keeps.proofs.Frame.{claim_of, Put, put_fine}
use Rattle.keeps.proofs.Acts.{Leaves, access_from, seen_from, acts}
use Rattle.keeps.proofs.Moves.{MoveFine, moves}
use Rattle.keeps.proofs.Fixed.{Same, by_access}
use Rattle.table.specs.Table.{no_record, no_change, no_link, record_at, change_at, task_at, slot, link_at}
use Rattle.rules.specs.Places.{change_of, resume}
use Rattle.rules.specs.Perform.{record_of, change_in, record_by, change_by, seen, perform}
use Rattle.rules.specs.Step.{place_of, cells_by, stores_link, drop_of, task_by, link_by, drop_first, settle, access_at, move_at, step}
use Rattle.rules.specs.Claim.{Says}
use Rattle.rules.specs.Shape.{record_fine, change_fine, link_fine}

-- task t makes the access a, sees s and moves by v; what the access leaves is in shape, and where the move leads
module _ (m : Machine) (F : Fine m) (t : ℕ) (tl : t < m.p) (a : Access) (s : Seen) (v : Move)
    (A : (record_of a < m.n) × Leaves m.used a)
    (M : MoveFine m (λ r. (link_at m t r).there) (task_at m t).cells (task_at m t).list s v) where
  abbrev x : Task
  x = task_at m t

  abbrev records : List Record
  records = set m.records (record_of a) (record_by a (record_at m (record_of a)))

  abbrev changes : List Change
  changes = set m.changes (change_in a) (change_by a (change_at m (change_in a)))

  abbrev at : ℕ
  at = slot t (record_of a)

  abbrev new : Link
  new = record { there = true; info = s.number; cells = x.cells }

  abbrev link : Link
  link = link_by (link_at m t (record_of a)) x s v

  abbrev links : List Link
  links = drop_first (set m.links at link) t x.list (drop_of v)

  abbrev Linked : Link → Type 0
  Linked k = Says m.used (link_fine k)

  below_32 : (r : ℕ) → r < m.n → r < 32
  below_32 r l = omega (arith, F.n<33)

  link_fine_lem : Linked link
  link_fine_lem = picked Linked (stores_link v) new (link_at m t (record_of a)) (λ e f. M.link_fine_lem e) (λ e. F.link_fine_lem t tl (record_of a) A.0)

  links_fine : (j : ℕ) → j < m.p → (r : ℕ) → r < m.n → Linked (get_or links (slot j r) no_link)
  links_fine j jl r rl =
      drop_each Linked (λ k h e. absurd (false≢true e)) (set m.links at link) t x.list (drop_of v) (slot j r)
      (any Linked m.links at link no_link (slot j r) (λ e. link_fine_lem) (F.link_fine_lem j jl r rl))

  others_stay : (j : ℕ) → j ≢ t → (r : ℕ) → r < m.n → get_or links (slot j r) no_link ≡ link_at m j r
  others_stay j d r rl =
      let r32 = below_32 r rl in
      drop_apart (set m.links at link) t x.list (drop_of v) j r d r32 (λ k q. below_32 (get_or x.list k 0) (M.list_fine_lem k q))
      ∙ get_or-set_other m.links at (slot j r) link no_link (slots_apart t j (record_of a) r d (below_32 (record_of a) A.0) r32)

  -- a link of the task that is there stays so unless links are dropped
  abbrev There : Link → Type 0
  There k = k.there ≡ true

  own_stay : drop_of v ≡ 0 → (r : ℕ) → r < m.n → There (link_at m t r) → There (get_or links (slot t r) no_link)
  unfolding drop_first
  own_stay e r rl h =
      rw e
      (any There m.links at link no_link (slot t r) (λ f. picked There (stores_link v) new (link_at m t (record_of a)) (λ g. refl) (λ g. rw f at h)) h)

  -- what a change wrote down is as it was
  same : (u : ℕ) → Same (get_or changes u no_change) (change_at m u)
  same u = by_access a m.changes (change_in a) u

  records_fine : (r : ℕ) → r < m.n → Says m.used (record_fine (get_or records r no_record))
  records_fine r rl =
      let old = record_at m (record_of a) in
      any (λ (y : Record). Says m.used (record_fine y)) m.records (record_of a) (record_by a old) no_record r
      (λ e. A.1 old (F.record_fine_lem (record_of a) A.0)) (F.record_fine_lem r rl)

  changes_fine : (u : ℕ) → 0 < u → u ≤ m.used → Says m.used (change_fine m.n (get_or changes u no_change))
  changes_fine u u0 ul =
      let h = F.change_fine_lem u u0 ul in
      any (λ (y : Change). Says m.used (change_fine m.n y)) m.changes (change_in a) (change_by a (change_at m (change_in a))) no_change u
      (λ e. subst (λ i. Says m.used (change_fine m.n (change_at m i))) e h) h

  task_fine_lem : Says m.used (claim_of m.n changes links t (task_by x s v))
  task_fine_lem =
      let u = change_of (place_of v) in
      let ch = change_at m u in
      let later = get_or changes u no_change in
      let linked : ℕ → Bool = λ r. (get_or links (slot t r) no_link).there in
      stays m.used m.n ch.n ch.r linked (cells_by x.cells s.cell v) x.list m.used later.n later.r linked
      (le_refl m.used) (same u).n (same u).r (λ r rl e. e) (place_of v) (M.place_fine_lem linked own_stay)

  stepped : Put m t m.used records changes (task_by x s v) links
  stepped =
      record {
        more_used = le_refl m.used;
        used<256 = F.used<256;
        records = records_fine;
        changes = changes_fine;
        same_n = λ u ul. (same u).n;
        same_r = λ u ul. (same u).r;
        task = task_fine_lem;
        others = λ j d r rl h. rw (others_stay j d r rl) h;
        links = links_fine;
      }

  settled : Fine (settle (perform a m) t (record_of a) s v)
  unfolding settle perform
  settled = put_fine m F t m.used records changes (task_by x s v) links stepped

pub step_keeps : (m : Machine) → Fine m → (t : ℕ) → t < m.p → Fine (step m t).m
unfolding step seen access_at move_at
step_keeps m F t tl =
    let x = task_at m t in
    let q = x.place in
    let linked : ℕ → Bool = λ r. (link_at m t r).there in
    let a = access_from m x.list q in
    let s = seen_from m x.list q in
    let info = (link_at m t (record_of a)).info in
    let h = F.task_fine_lem t tl in
    settled m F t tl a s (resume q s (change_at m (change_of q)) info)
    (acts m F linked x.cells x.list q h) (moves m F linked x.cells x.list info q h)
