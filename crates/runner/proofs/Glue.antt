-- From what each part of the runner ensures to the run: laws over plain variables.
use Prim.Native.Nat.{ℕ, ◌+◌, ◌-◌, ◌*◌, ◌≤◌}
use native.Mathlib.Omega.{arith}
use mathlib.Core.Path.{◌≡◌, refl, sym, ap, ap₂, subst, ◌∙◌}
use mathlib.Core.Bool.{true}
use mathlib.Core.List.{List, ◌++◌}
use lib.ListN.{length, take, drop, length-append}
use borrow.Author.Tests.{lt-ltb, le-leb, eq-eqb}
use Rattle.table.proofs.Tabulate.{length_tabulate}
use Rattle.table.specs.Fresh.{in_range, fresh}
use Rattle.rules.specs.Words.{Machine, Out, Ok}
use Rattle.rules.specs.Shape.{in_shape}
use Rattle.keeps.proofs.Lengths.{Sized, fresh_sized}
use Rattle.keeps.proofs.Fresh.{fresh_in_shape}
use Rattle.sheet.specs.declared.Layout.{Layout}
use Rattle.event.specs.Event.{pair}
use Rattle.sheet.specs.Layout.{numbers, values_in, values_part, events_part, parts_of, sheet_of}
use Rattle.sheet.proofs.Laws.{read_inside, take_values}
use Rattle.tally.specs.declared.Tally.{Tally}
use Rattle.tally.specs.Count.{tally_of, first_of}
use Rattle.text.specs.Text.{joined}
use Rattle.text.specs.Put.{Put}
use Rattle.text.proofs.Laws.{◌⟫◌}
use Rattle.lines.specs.Lines.{tally_line}
use Rattle.lines.proofs.Glue.{tally_most}
use Rattle.play.specs.declared.Played.{Played}
use Rattle.play.specs.Play.{turns_to, told_in, line_in, Plays}
use Rattle.runner.specs.Run.{machine_at, event_line, record_line_at, run_text, table_of, run_of}
use Rattle.runner.proofs.Same.{same_machine, same_lines, same_tally}

pub less_first : (a b : ℕ) → a + b - a ≡ b
less_first a b = omega arith

-- as many values as are taken
pub taken : (part vs : List ℕ) (k : ℕ) → vs ≡ values_in part → k ≤ 128 → k ≡ length (take k vs)
unfolding numbers
taken part vs k e h = sym (ap length (ap (take k) e ∙ take_values part k h) ∙ length_tabulate k (λ i. pair part (2 * i)))

-- the fresh table, from the values of the part that begins at `from` and has `size` bytes
pub table_is : (s : List ℕ) (at : Layout) (size : ℕ) (vs : List ℕ) (o : Out) → size ≡ 8 * at.n → at.n ≤ 32
    → vs ≡ values_in (take size (drop at.from s))
    → o ≡ fresh at.p at.n (take (4 * at.n) vs)
    → o.m ≡ table_of s at
unfolding table_of parts_of values_part
table_is s at size vs o es n32 ev eo =
    ap (λ (x : Out). x.m) eo
    ∙ ap (λ (x : List ℕ). (fresh at.p at.n x).m)
    (ap (take (4 * at.n)) (ev ∙ ap (λ (k : ℕ). values_in (take k (drop at.from s))) es)
    ∙ take_values (take (8 * at.n) (drop at.from s)) (4 * at.n) (omega arith))

-- the table of a sheet that was read is in shape
in_range_lem : (p n k : ℕ) → 1 ≤ p → p ≤ 8 → 1 ≤ n → n ≤ 32 → k ≡ 4 * n → in_range p n k ≡ true
in_range_lem p n k p1 p8 n1 n32 e = rw (lt-ltb 0 p p1, le-leb p 8 p8, lt-ltb 0 n n1, le-leb n 32 n32, eq-eqb k (4 * n) e) refl

pub ranged : (s : List ℕ) (at : Layout) → sheet_of s ≡ Ok at → in_range at.p at.n (length (parts_of s at).values) ≡ true
unfolding parts_of numbers
ranged s at e =
    let i = read_inside e in
    in_range_lem at.p at.n _ i.tasks.0 i.tasks.1 i.records.0 i.records.1
    (length_tabulate (4 * at.n) (λ k. pair (values_part s at) (2 * k)))

shaped : (s : List ℕ) (at : Layout) → sheet_of s ≡ Ok at → in_shape (table_of s at) ≡ true
unfolding table_of
shaped s at e = fresh_in_shape at.p at.n (parts_of s at).values (ranged s at e)

sized : (s : List ℕ) (at : Layout) → sheet_of s ≡ Ok at → Sized (table_of s at)
unfolding table_of
sized s at e = fresh_sized at.p at.n (parts_of s at).values (ranged s at e)

-- the events played, then the records, then the tally
module _ (s : List ℕ) (at : Layout) (e : sheet_of s ≡ Ok at) where
  abbrev m : Machine
  m = table_of s at

  abbrev es : List ℕ
  es = events_part s at

  abbrev count : ℕ
  count = at.count

  few : count ≤ 65535
  few = omega (arith, (read_inside e).most_events)

  same_text : joined (line_in m es) count ++ joined (record_line_at (turns_to m es count)) at.n ++ tally_line (tally_of (first_of (told_in m es) count)) ≡ run_of s at
  unfolding run_text
  same_text =
      ap₂ (λ (x : List ℕ) (y : Machine). x ++ joined (record_line_at y) at.n ++ tally_line (tally_of (first_of (told_in m es) count)))
      (ap (λ (f : ℕ → List ℕ). joined f count) (same_lines m es (sized s at e) (shaped s at e))) (same_machine m es (sized s at e) (shaped s at e) count)
      ∙ ap (λ (t : Tally). joined (event_line m es) count ++ joined (record_line_at (machine_at m es count)) at.n ++ tally_line t) (same_tally m es (sized s at e) (shaped s at e) count few)

  -- by what was played from a machine that is the sheet's table, on events that are the sheet's
  by_parts : (o : Played) (old mid end new : List ℕ) (q r : ℕ)
      → Plays m es count old mid o
      → Put mid o.next (joined (record_line_at o.m) at.n) end q × (length (joined (record_line_at o.m) at.n) ≤ 38 * at.n)
      → Put end q (tally_line o.tally) new r
      → Put old 0 (run_of s at) new r × (length (run_of s at) ≤ 42 * at.count + 38 * at.n + 20)
  by_parts o old mid end new q r w records tally = (
    subst (λ (x : List ℕ). Put old 0 x new r) text (w.lines ⟫ records.0 ⟫ tally),
    subst (λ (x : List ℕ). length x ≤ 42 * at.count + 38 * at.n + 20) text long,
  )
    where
      text : joined (line_in m es) count ++ joined (record_line_at o.m) at.n ++ tally_line o.tally ≡ run_of s at
      text =
          ap₂ (λ (x : Machine) (t : Tally). joined (line_in m es) count ++ joined (record_line_at x) at.n ++ tally_line t) w.machine w.tally
          ∙ same_text

      long : length (joined (line_in m es) count ++ joined (record_line_at o.m) at.n ++ tally_line o.tally) ≤ 42 * at.count + 38 * at.n + 20
      long =
          rw (
            length-append (joined (line_in m es) count ++ joined (record_line_at o.m) at.n) (tally_line o.tally),
            length-append (joined (line_in m es) count) (joined (record_line_at o.m) at.n),
          )
          (omega (arith, w.most, records.1, tally_most o.tally))

  pub run_is : (size : ℕ) (first : Machine) (o : Played) (old mid end new : List ℕ) (q r : ℕ)
      → size ≡ 12 * at.count
      → first ≡ m
      → Plays first (take size (drop (at.from + 8 * at.n) s)) count old mid o
      → Put mid o.next (joined (record_line_at o.m) at.n) end q × (length (joined (record_line_at o.m) at.n) ≤ 38 * at.n)
      → Put end q (tally_line o.tally) new r
      → Put old 0 (run_of s at) new r × (length (run_of s at) ≤ 42 * at.count + 38 * at.n + 20)
  unfolding events_part
  run_is size first o old mid end new q r ez ef w records tally =
      by_parts o old mid end new q r
      (subst (λ (x : Machine). Plays x es count old mid o) ef
      (subst (λ (k : ℕ). Plays first (take k (drop (at.from + 8 * at.n) s)) count old mid o) ez w))
      records tally
