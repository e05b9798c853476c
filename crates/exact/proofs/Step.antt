-- The step that a turn makes is the rules' own: one access on the record and the change that the place names, and the local work.
use Prim.Native.Nat.{ℕ, ◌%◌, ◌<◌}
use native.Mathlib.Nat.{mod-eq_of_lt}
use mathlib.Core.Path.{◌≡◌, refl, sym, ap, ap₂, ◌∙◌}
use mathlib.Core.List.{List}
use lib.ListN.{get_or, set}
use lib.Seq.{set-get_or}
use Rattle.rules.specs.Words.{Machine, Record, Change, AskStep, Access, Seen, Move, Out}
use Rattle.rules.specs.Words.{Place, Idle, L1, L2, L3, L4, L5, L6, L7, L8, L9, L10, L11, H1, H2, H3, H4, H5, H6, H7, H8, Vlx, Read}
use Rattle.table.specs.Table.{no_change, record_at, change_at, task_at, slot, link_at, remade}
use Rattle.rules.specs.Places.{change_of, access_of, resume}
use Rattle.rules.specs.Perform.{record_of, change_in, seen_by, record_by, change_by, seen, perform}
use Rattle.rules.specs.Step.{task_by, link_by, drop_of, answer_of, drop_first, settle, access_at, move_at, step}
use Rattle.rules.specs.Shape.{InShape}
use Rattle.act.specs.Act.{act_of}
use Rattle.hand.specs.Hand.{clip, put_turn}
use Rattle.exact.proofs.Put.{put_passed}
use Rattle.keeps.proofs.Bounds.{record<32, list<32}
use Rattle.exact.proofs.Clip.{drop_same, clip_same}

-- The access of a place sees, and alters, of the changes only the one that the place names: what it sees there, and the changes after.
pub record Named (cs : List Change) (x : Record) (c : ℕ) (a : Access) : Type 0 where
  pub sees : seen_by a x (get_or cs (change_in a) no_change) ≡ seen_by a x (get_or cs c no_change)
  pub leaves : set cs (change_in a) (change_by a (get_or cs (change_in a) no_change)) ≡ set cs c (change_by a (get_or cs c no_change))

module _ (cs : List Change) (x : Record) (l : List ℕ) where
  stored_back : (c d : ℕ) → set cs c (get_or cs c no_change) ≡ set cs d (get_or cs d no_change)
  stored_back c d = set-get_or cs c no_change ∙ sym (set-get_or cs d no_change)

  named : (q : Place) (ch : Change) → Named cs x (change_of q) (access_of q ch l)
  named Idle ch = record { sees = refl; leaves = refl }
  named (L1 r) ch = record { sees = refl; leaves = refl }
  named (L2 r m1) ch = record { sees = refl; leaves = refl }
  named (L3 r m1 a) ch = record { sees = refl; leaves = refl }
  named (L4 r m1 a s) ch = record { sees = refl; leaves = stored_back 0 a }
  named (L5 r m1 a f) ch = record { sees = refl; leaves = stored_back 0 a }
  named (L6 r m1 a) ch = record { sees = refl; leaves = stored_back 0 a }
  named (L7 r m1 a) ch = record { sees = refl; leaves = refl }
  named (L8 r m1 a) ch = record { sees = refl; leaves = refl }
  named (L9 r) ch = record { sees = refl; leaves = refl }
  named (L10 r b) ch = record { sees = refl; leaves = refl }
  named (L11 r) ch = record { sees = refl; leaves = refl }
  named (H1 u i after) ch = record { sees = refl; leaves = stored_back 0 u }
  named (H2 u i after) ch = record { sees = refl; leaves = stored_back 0 u }
  named (H3 u after) ch = record { sees = refl; leaves = refl }
  named (H4 u after) ch = record { sees = refl; leaves = refl }
  named (H5 u after) ch = record { sees = refl; leaves = refl }
  named (H6 u i after) ch = record { sees = refl; leaves = stored_back 0 u }
  named (H7 u after) ch = record { sees = refl; leaves = stored_back 0 u }
  named (H8 u after) ch = record { sees = refl; leaves = refl }
  named (Vlx n i) ch = record { sees = refl; leaves = refl }
  named (Read r f) ch = record { sees = refl; leaves = refl }

module _ (m : Machine) (t : ℕ) where
  -- the local work of the task's place on what was seen
  work : Seen → Move
  work s =
      let q = (task_at m t).place in
      resume q s (change_at m (change_of q)) (link_at m t (record_of (access_at m t))).info

  -- what a step leaves, by the changes, what was seen, and the list that its links are dropped by
  built : List Change → Seen → List ℕ → Out
  built changes s l =
      let x = task_at m t in
      let a = access_at m t in
      let r = record_of a in
      let v = work s in
      record {
        m = let links = drop_first (set m.links (slot t r) (link_by (link_at m t r) x s v)) t l (drop_of v) in
            remade m m.used (set m.records r (record_by a (record_at m r))) changes (set m.tasks t (task_by x s v)) links;
        answer = answer_of x.cells v;
      }

  -- the same links are dropped by a list that agrees as far as they go
  same_list_lem : (changes : List Change) (s : Seen) (k l : List ℕ)
      → ((i : ℕ) → i < drop_of (work s) → get_or k i 0 ≡ get_or l i 0)
      → built changes s k ≡ built changes s l
  unfolding built
  same_list_lem changes s k l h = rw (drop_same _ t k l (drop_of (work s)) h) refl

  by_turn : (c x : ℕ) (a : Access) (l : List ℕ) → c ≡ change_of (task_at m t).place → a ≡ access_at m t → x ≡ record_of a
      → put_passed m t c a x AskStep l
      ≡ built (set m.changes c (change_by a (change_at m c))) (seen_by a (record_at m x) (change_at m c)) (clip (task_at m t).list)
  unfolding put_turn act_of built work
  by_turn c x a l ec ea ex = rw (ex, ea, ec) refl

  by_rules : (a : Access) → a ≡ access_at m t
      → step m t ≡ built (set m.changes (change_in a) (change_by a (change_at m (change_in a)))) (seen a m) (task_at m t).list
  unfolding step settle perform move_at built work
  by_rules a ea = rw ea refl

  -- THE STEP: its record clipped
  pub step_is : InShape m → t < m.p → (l : List ℕ)
      → put_passed m t (change_of (task_at m t).place) (access_at m t) (record_of (access_at m t) % 32) AskStep l ≡ step m t
  unfolding seen access_at move_at work
  step_is S tl l =
      let x = task_at m t in
      let c = change_of x.place in
      let a = access_at m t in
      let n = named m.changes (record_at m (record_of a)) x.list x.place (change_at m c) in
      ap (λ r. put_passed m t c a r AskStep l) (mod-eq_of_lt (record<32 m S t tl))
      ∙ by_turn c (record_of a) a l refl refl refl
      ∙ ap₂ (λ (changes : List Change) (s : Seen). built changes s (clip x.list)) (sym n.leaves) (sym n.sees)
      ∙ same_list_lem _ (seen a m) (clip x.list) x.list (clip_same x.list (drop_of (move_at m t)) (list<32 m S t tl))
      ∙ sym (by_rules a refl)
