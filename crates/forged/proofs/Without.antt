-- What is no event of a run that is written down, from tests that the prover computes.
use Prim.Native.Nat.{ℕ, suc, ◌<◌, ◌≤◌}
use native.Mathlib.Omega.{arith}
use mathlib.Core.Path.{◌≡◌, refl, sym, ap, subst, ◌∙◌}
use mathlib.Core.Logic.{◌≢◌, ⊎_elim}
use mathlib.Core.Bool.{Bool, true, false, not, true≢false, false≢true}
use lib.Dec.{eqb}
use borrow.Author.Tests.{eq-eqb, ne_eqb}
use Rattle.rules.specs.Words.{Cell, After, Own, Place, H7, No, Machine, Call, Out}
use Rattle.table.specs.Table.{pick, record_at, task_at, same_cell}
use Rattle.rules.specs.Claim.{both, all_below}
use Rattle.rules.proofs.Exact.{both_on, all_is}
use Rattle.rules.specs.Places.{change_of, is_idle}
use Rattle.orders.specs.Demand.{answers, Brings, at_h3, at_h4, at_h8, Works}
use Rattle.orders.specs.Demand.{before, said, place, cell, info, Change, named, spot, Effect, Holds, LinkedRead, Verdict}
use Rattle.orders.proofs.Working.{works_on}
use Rattle.clauses.proofs.Updates.{leb_case}
use Rattle.clauses.proofs.SameCell.{same_eq}
use Rattle.forged.specs.Places.{isH, after_of}
use Rattle.forged.proofs.Tests.{implied}
use Rattle.forged.proofs.Through.{scan, scan_is, silent, silent_is}
use Rattle.forged.proofs.Events.{kept, snaps, snaps_is}

not_kept : (a b : Cell) → a ≢ b → not (same_cell a b) ≡ true
not_kept a b n = go (same_cell a b) refl
  where
    go : (x : Bool) → same_cell a b ≡ x → not x ≡ true
    go true e = absurd (n (same_eq a b e))
    go false e = refl

module _ (next : Machine → Call → Out) (m : Machine) (calls : ℕ → Call) where
  -- where the task of call k stands
  abbrev pub there : ℕ → Place
  there k = place next m calls k (calls k).task

  -- call k comes from a place of c, and the cell that c names alters
  abbrev pub writes : Change next m calls → ℕ → Machine → Bool
  writes c k x = both (eqb (change_of (task_at x (calls k).task).place) c.number) (not (kept next m calls c k x))

  -- the info of r alters in call k
  abbrev pub moves : ℕ → ℕ → Machine → Bool
  moves r k x = not (eqb (record_at (next x (calls k)).m r).info (record_at x r).info)

  -- if call e ends a linked read of c, the info of the record read does not alter from then to k
  abbrev pub unmoved : Change next m calls → ℕ → ℕ → ℕ → Machine → Bool
  unmoved c k r e x = pick (snaps next m calls c.task r e x) (silent next m calls (moves r) e k) true

-- who works is not idle
pub idle_works : {u : ℕ} {after : After} {q : Place} → Works u after q → is_idle q ≡ true → ⊥
idle_works {u} {after} {q} w e = true≢false (sym e ∙ (works_on u after q w).1)

-- the verdict of an H4 is no
brings_no : {u : ℕ} {after : After} {frozen b : Bool} {q : Place} → Brings u after frozen q b → isH 4 q ≡ true → after_of q ≡ Own
    → answers after b ≡ No
brings_no (at_h3 f) e o = absurd (false≢true e)
brings_no at_h4 e o = ap (λ x. answers x false) o
brings_no at_h8 e o = absurd (false≢true e)

module _ {next : Machine → Call → Out} {m : Machine} {calls : ℕ → Call} where
  -- an effect of c at k comes from its H7
  pub effect_at : (c : Change next m calls) (k : ℕ) (E : Effect next m calls c k) → there next m calls k ≡ H7 c.number E.after
  effect_at c k E = subst (λ t. place next m calls k t ≡ H7 c.number E.after) (sym E.steps.by) E.at_h7

  pub no_effect : (c : Change next m calls) (k : ℕ) → silent next m calls (writes next m calls c) c.start k ≡ true
      → (j : ℕ) → j < k → Effect next m calls c j → ⊥
  unfolding before
  no_effect c k h j l E =
      let r = spot next m calls c in
      let x = before next m calls j in
      silent_is next m calls (writes next m calls c) c.start k h j E.during.later l
      (both_on (eqb (change_of (there next m calls j)) c.number) (not (kept next m calls c j x))
      (eq-eqb (change_of (there next m calls j)) c.number (ap change_of (effect_at c j E)))
      (not_kept (cell next m calls (suc j) r c.field) (cell next m calls j r c.field) E.alters))

  -- the verdict of an SCX at H4 is its answer no
  pub said_no : (c : Change next m calls) (k : ℕ) (b : Bool) → Verdict next m calls c k b
      → isH 4 (there next m calls k) ≡ true → after_of (there next m calls k) ≡ Own → said next m calls k ≡ No
  said_no c k b v e o =
      v.ends.1
      ∙ brings_no v.brings (subst (λ t. isH 4 (place next m calls k t) ≡ true) v.steps.by e)
      (subst (λ t. after_of (place next m calls k t) ≡ Own) v.steps.by o)

  -- a hold alters the info, so where it stays nobody takes hold
  pub hold_moves : (d : Change next m calls) (h r : ℕ) → Holds next m calls d h r → moves next m calls r h (before next m calls h) ≡ true
  unfolding before
  hold_moves d h r H = ap not (ne_eqb (info next m calls (suc h) r) (info next m calls h r) (λ same. H.alters (sym same ∙ H.takes)))

  pub nobody_holds : (r a k : ℕ) → silent next m calls (moves next m calls r) a k ≡ true
      → (d : Change next m calls) (h : ℕ) → a < h → h < k → Holds next m calls d h r → ⊥
  nobody_holds r a k q d h l1 l2 H = silent_is next m calls (moves next m calls r) a k q h l1 l2 (hold_moves d h r H)

  -- nobody takes hold of a record that c names between the linked read of it and k
  abbrev pub settled : Change next m calls → ℕ → ℕ → Bool
  settled c k i = scan next m calls (unmoved next m calls c k (named next m calls c i)) 0 c.start m

  pub no_hold : (c : Change next m calls) (k : ℕ) → all_below c.n (settled c k) ≡ true
      → (d : Change next m calls) (i e h : ℕ) → i < c.n → LinkedRead next m calls c (named next m calls c i) e → e < h → h < k
      → Holds next m calls d h (named next m calls c i) → ⊥
  unfolding before
  no_hold c k u d i e h l R l1 l2 H =
      let r = named next m calls c i in
      let quiet =
      scan_is next m calls (unmoved next m calls c k r) 0 c.start (all_is c.n (settled c k) u i l) e (omega arith)
      (omega (arith, R.before_start)) in
      nobody_holds r e k
      (implied (snaps next m calls c.task r e (before next m calls e)) (silent next m calls (moves next m calls r) e k)
      (snaps_is c.task r e R.ends) quiet)
      d h l1 l2 H

  -- a linked read for c ended no later than k, if none ends between k and the start
  pub read_by : (c : Change next m calls) (r e k : ℕ) → LinkedRead next m calls c r e
      → silent next m calls (snaps next m calls c.task r) k c.start ≡ true → e ≤ k
  read_by c r e k R h = ⊎_elim (λ l. l)
      (λ l. absurd (silent_is next m calls (snaps next m calls c.task r) k c.start h e l R.before_start (snaps_is c.task r e R.ends)))
      (leb_case e k)
