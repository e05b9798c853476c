-- THE LOOP'S MACHINE IS THE RUN: from a table in shape, calls in hand with clipped indices are the rules' own calls, event by event; so
-- are their lines, and the tally of their answers.
use Prim.Native.Nat.{ℕ, zero, suc, ◌+◌, ◌%◌, ◌≤◌}
use native.Mathlib.Nat.{mod-eq_of_lt, le_trans}
use native.Mathlib.Numerals.{add-one}
use native.Mathlib.Omega.{arith}
use mathlib.Core.Path.{◌≡◌, refl, sym, ap, ap₂, ◌∙◌, fun_ext}
use mathlib.Core.Bool.{Bool, true, false}
use mathlib.Core.List.{List}
use lib.Dec.{ltb}
use borrow.Author.Tests.{ltb-true}
use Rattle.table.specs.Table.{task_at}
use Rattle.rules.specs.Words.{Machine, Ask, AskLlx, AskScx, AskVlx, AskRead, AskStep, Refusal, NoSuchTask, Answer, Refused, Out}
use Rattle.rules.specs.Shape.{in_shape}
use Rattle.rules.specs.Refuse.{rules_of}
use Rattle.rules.specs.Next.{refused, next}
use Rattle.keeps.proofs.Lengths.{Sized, kept_sized}
use Rattle.keeps.proofs.Kept.{kept_test}
use Rattle.keeps.proofs.Bounds.{p≤8}
use Rattle.exact.proofs.Turn.{in_shape_lem}
use Rattle.exact.proofs.Hand.{turn_is}
use Rattle.event.specs.Event.{event_at}
use Rattle.hand.specs.Hand.{turn_in}
use Rattle.tally.specs.declared.Tally.{Tally}
use Rattle.std.specs.Prelude.{Option, Some, None}
use Rattle.table.specs.declared.Operation.{Operation}
use Rattle.table.specs.declared.Operation.TheVariants.{Llx, Scx, Vlx, Read}
use Rattle.rules.specs.Places.{operation_of}
use Rattle.tally.specs.Count.{counted_of, tally_of, first_of}
use Rattle.tally.proofs.Counting.{counted_next, first_none}
use Rattle.lines.specs.Lines.{answer_line}
use Rattle.play.specs.Play.{turns_to, turn_at, told_in, line_in}
use Rattle.runner.specs.Run.{machine_at, out_at, told_at, event_line}

-- a call of a task that the table has not is refused
no_task_lem : (m : Machine) (t : ℕ) (ask : Ask) (l : List ℕ) → in_shape m ≡ true → ltb t m.p ≡ false
    → (next m (record { task = t; ask = ask; list = l })).answer ≡ Refused NoSuchTask
unfolding next rules_of refused
no_task_lem m t (AskLlx r) l h f = rw (h, f) refl
no_task_lem m t (AskScx n r written field new) l h f = rw (h, f) refl
no_task_lem m t (AskVlx n) l h f = rw (h, f) refl
no_task_lem m t (AskRead r f) l h g = rw (h, g) refl
no_task_lem m t AskStep l h f = rw (h, f) refl

-- and a refusal counts nowhere, whatever the operation
counts_nowhere : (t : Tally) (x : Option Operation) (why : Refusal) → counted_of t (record { operation = x; answer = Refused why }) ≡ t
unfolding counted_of
counts_nowhere t None why = refl
counts_nowhere t (Some Llx) why = refl
counts_nowhere t (Some Scx) why = refl
counts_nowhere t (Some Vlx) why = refl
counts_nowhere t (Some Read) why = refl

module _ (m : Machine) (es : List ℕ) (Z : Sized m) (h : in_shape m ≡ true) where
  sized : (i : ℕ) → Sized (machine_at m es i)
  unfolding machine_at
  sized zero = Z
  sized (suc i) = kept_sized (machine_at m es i) (event_at es i) (sized i)

  shaped : (i : ℕ) → in_shape (machine_at m es i) ≡ true
  unfolding machine_at
  shaped zero = h
  shaped (suc i) = kept_test (machine_at m es i) (event_at es i) (sized i).changes (shaped i)

  pub same_machine : (i : ℕ) → turns_to m es i ≡ machine_at m es i
  unfolding machine_at turns_to
  same_machine zero = refl
  same_machine (suc i) =
      ap (λ (x : Machine). (turn_in x (event_at es i)).m) (same_machine i)
      ∙ ap (λ (o : Out). o.m) (turn_is (machine_at m es i) (event_at es i) (shaped i))

  same_out : (i : ℕ) → turn_at m es i ≡ out_at m es i
  unfolding out_at
  same_out i =
      ap (λ (x : Machine). turn_in x (event_at es i)) (same_machine i) ∙ turn_is (machine_at m es i) (event_at es i) (shaped i)

  pub same_lines : line_in m es ≡ event_line m es
  unfolding line_in event_line
  same_lines = fun_ext (λ i. ap (λ (o : Out). answer_line (i + 1) (event_at es i).task o.answer) (same_out i))

  -- what an event tells counts the same: the task is not clipped, or the call is refused
  same_count : (t : Tally) (i : ℕ) → counted_of t (told_in m es i) ≡ counted_of t (told_at m es i)
  unfolding told_in told_at out_at
  same_count t i = go (ltb (event_at es i).task (machine_at m es i).p) refl
    where
      said : Machine → ℕ → Answer → Tally
      said x k answer = counted_of t (record { operation = operation_of (task_at x k).place; answer = answer })

      here : said (turns_to m es i) ((event_at es i).task % 8) (turn_at m es i).answer ≡ said (machine_at m es i) ((event_at es i).task % 8) (out_at m es i).answer
      here = ap₂ (λ (x : Machine) (o : Out). said x ((event_at es i).task % 8) o.answer) (same_machine i) (same_out i)

      go : (b : Bool) → ltb (event_at es i).task (machine_at m es i).p ≡ b
          → counted_of t (told_in m es i) ≡ counted_of t (told_at m es i)
      go true f =
          here
          ∙ ap (λ (k : ℕ). said (machine_at m es i) k (out_at m es i).answer)
          (mod-eq_of_lt (le_trans (ltb-true (event_at es i).task (machine_at m es i).p f) (p≤8 (machine_at m es i) (in_shape_lem (machine_at m es i) (shaped i)))))
      go false f =
          let e = no_task_lem (machine_at m es i) (event_at es i).task (event_at es i).ask (event_at es i).list (shaped i) f in
          here
          ∙ ap (said (machine_at m es i) ((event_at es i).task % 8)) e
          ∙ counts_nowhere t _ NoSuchTask
          ∙ sym (ap (said (machine_at m es i) (event_at es i).task) e ∙ counts_nowhere t _ NoSuchTask)

  pub same_tally : (n : ℕ) → n ≤ 65535 → tally_of (first_of (told_in m es) n) ≡ tally_of (first_of (told_at m es) n)
  same_tally zero small = ap tally_of (first_none (told_in m es) ∙ sym (first_none (told_at m es)))
  same_tally (suc n) small =
      rw (← add-one)
      (sym (counted_next (told_in m es) n (omega arith))
      ∙ ap (λ (t : Tally). counted_of t (told_in m es n)) (same_tally n (omega arith))
      ∙ same_count (tally_of (first_of (told_at m es) n)) n
      ∙ counted_next (told_at m es) n (omega arith))
