-- The start of an LLX, a VLX or a READ keeps the shape: what the refusals leave is what the new place asks for.
use Prim.Native.Nat.{ℕ, ◌<◌}
use native.Mathlib.Omega.{arith}
use native.Mathlib.Nat.{le_refl, not-suc-le-zero}
use mathlib.Core.Path.{◌≡◌, refl}
use mathlib.Core.Logic.{◌≢◌}
use mathlib.Core.Bool.{true, false≢true}
use mathlib.Core.List.{List, [], ◌∷◌}
use lib.ListN.{get_or}
use Rattle.rules.specs.Words.{Task, Link, Machine, Place, L1, Vlx, Read, AskLlx, AskVlx, AskRead}
use Rattle.keeps.proofs.Fine.{Fine}
use Rattle.keeps.proofs.Links.{drop_each, drop_apart}
use Rattle.keeps.proofs.Frame.{put, claim_of, put_fine}
use Rattle.table.specs.Table.{no_link, task_at, slot, link_at}
use Rattle.rules.specs.Step.{drop_first}
use Rattle.rules.specs.Start.{start}
use Rattle.rules.specs.Claim.{Says}
use Rattle.rules.specs.Shape.{link_fine, list_fine}

module _ (m : Machine) (F : Fine m) (t : ℕ) (tl : t < m.p) where
  -- links dropped, to records that exist
  module _ (d : List ℕ) (n : ℕ) (dl : (k : ℕ) → k < n → get_or d k 0 < m.n) where
    pub others_stay : (j : ℕ) → j ≢ t → (r : ℕ) → r < m.n → get_or (drop_first m.links t d n) (slot j r) no_link ≡ link_at m j r
    others_stay j ne r rl = drop_apart m.links t d n j r ne (omega (arith, F.n<33)) (λ k q. let b = dl k q in omega (arith, F.n<33))

    pub links_fine : (j : ℕ) → j < m.p → (r : ℕ) → r < m.n → Says m.used (link_fine (get_or (drop_first m.links t d n) (slot j r) no_link))
    links_fine j jl r rl =
        drop_each (λ (k : Link). Says m.used (link_fine k)) (λ k h e. absurd (false≢true e)) m.links t d n (slot j r) (F.link_fine_lem j jl r rl)

    -- a start that takes no number
    quiet : (x : Task) → Says m.used (claim_of m.n m.changes (drop_first m.links t d n) t x)
        → Fine (put m t m.used m.records m.changes x (drop_first m.links t d n))
    quiet x h =
        put_fine m F t m.used m.records m.changes x (drop_first m.links t d n)
        (record {
          more_used = le_refl m.used;
          used<256 = F.used<256;
          records = F.record_fine_lem;
          changes = F.change_fine_lem;
          same_n = λ u ul. refl;
          same_r = λ u ul. refl;
          task = h;
          others = λ j ne r rl e. rw (others_stay j ne r rl) e;
          links = links_fine;
        })

  abbrev at : Place → List ℕ → Task
  at q l = record { place = q; cells = (task_at m t).cells; list = l }

  none : (k : ℕ) → k < 0 → get_or [] k 0 < m.n
  none k q = absurd (not-suc-le-zero q)

  pub llx_keeps : (r : ℕ) (l : List ℕ) → r < m.n → Fine (start m t (AskLlx r) l)
  unfolding start
  llx_keeps r l rl = quiet (r ∷ []) 1 one (at (L1 r) (task_at m t).list) rl
    where
      one : (k : ℕ) → k < 1 → get_or (r ∷ []) k 0 < m.n
      one k q = let e : k ≡ 0 = omega arith in rw e rl

  pub vlx_keeps : (n : ℕ) (l : List ℕ) → Says 0 (list_fine m.n n l) → ((i : ℕ) → i < n → (link_at m t (get_or l i 0)).there ≡ true)
      → Fine (start m t (AskVlx n) l)
  unfolding start drop_first
  vlx_keeps n l h k = quiet [] 0 none (at (Vlx n 0) l) (h.0.0, (h, k))

  pub read_keeps : (r f : ℕ) (l : List ℕ) → r < m.n → f < 4 → Fine (start m t (AskRead r f) l)
  unfolding start drop_first
  read_keeps r f l rl fl = quiet [] 0 none (at (Read r f) (task_at m t).list) (rl, fl)
