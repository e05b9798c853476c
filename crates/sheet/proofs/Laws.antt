-- What callers know of a sheet that was read: its tests were kept, and its parts lie inside it.
use Prim.Native.Nat.{ℕ, ◌+◌, ◌-◌, ◌*◌, ◌≤◌, ◌<◌}
use native.Mathlib.Omega.{arith}
use mathlib.Core.Path.{◌≡◌, refl, sym, ◌∙◌}
use mathlib.Core.Bool.{Bool, true, false}
use mathlib.Core.List.{List}
use lib.ListN.{length, take}
use lib.Seq.{ext_get_or, get_or-take, length-take-le}
use Rattle.std.specs.Result.{result_and}
use Rattle.table.specs.Table.{pick, tabulate}
use Rattle.table.proofs.Tabulate.{length_tabulate, get_d_tabulate}
use Rattle.rules.specs.Words.{Refusal, SheetSize, SheetTag, Counts, Distance, EventKind, Check, Ok, Err}
use Rattle.rules.specs.Refuse.{check}
use Rattle.rules.proofs.Exact.{told}
use Rattle.event.specs.Event.{pair}
use Rattle.sheet.specs.declared.Layout.{Layout}
use Rattle.sheet.specs.Layout.{layout_of, size_fine, counts_fine, sheet_rules, sheet_of, numbers, values_in}
use Rattle.sheet.proofs.Refusals.{size, tag, counts, back, events, accepted, filled, long_enough}

-- a test that does not stop the check was passed
pub kept_on : (b : Bool) (c : Check) (why : Refusal) → pick b c (Err why) ≡ Ok tt → (b ≡ true) × (c ≡ Ok tt)
kept_on true c why h = (refl, h)
kept_on false c why h = let z : ◌≡◌ {A = ℕ} 0 1 = cc in absurd (omega arith)

-- what is answered behind a check that was passed
pub answered : {A : Type 0} (c : Check) {x y : A} → result_and c (Ok x) ≡ Ok y → (c ≡ Ok tt) × (y ≡ x)
answered (Ok _) h = (refl, cc)
answered (Err why) h = let z : ◌≡◌ {A = ℕ} 0 1 = cc in absurd (omega arith)

-- the five tests
pub record Kept (s : List ℕ) (at : Layout) : Type 0 where
  pub layout : at ≡ layout_of s
  pub size_kept : size s ≡ true
  pub tag_kept : tag s ≡ true
  pub counts_kept : counts at ≡ true
  pub back_kept : back s at ≡ true
  pub events_kept : events s at ≡ true

pub read_kept : {s : List ℕ} {at : Layout} → sheet_of s ≡ Ok at → Kept s at
unfolding sheet_of
read_kept {s} {at} e = let (passed, layout) = answered (check (sheet_rules s (layout_of s))) e in rest passed layout
  where
    rest : check (sheet_rules s (layout_of s)) ≡ Ok tt → at ≡ layout_of s → Kept s at
    rest c f =
        let at' = layout_of s in
        let k20 = kept_on (size s) _ SheetSize c in
        let k21 = kept_on (tag s) _ SheetTag k20.1 in
        let k22 = kept_on (counts at') _ Counts k21.1 in
        let k23 = kept_on (back s at') _ Distance k22.1 in
        let k24 = kept_on (events s at') _ EventKind k23.1 in
        record {
          layout = f;
          size_kept = k20.0;
          tag_kept = k21.0;
          counts_kept = rw f k22.0;
          back_kept = rw f k23.0;
          events_kept = rw f k24.0;
        }

pub kept_read : {s : List ℕ} {at : Layout} → Kept s at → sheet_of s ≡ Ok at
kept_read {s} {at} k =
    rw k.layout
    (sym
    (accepted s k.size_kept k.tag_kept (rw k.layout at k.counts_kept) (rw k.layout at k.back_kept) (rw k.layout at k.events_kept)))

-- where the parts lie, and the ranges of the counts
pub record Inside (s : List ℕ) (at : Layout) : Type 0 where
  pub whole : at.from + 8 * at.n + 12 * at.count + 8 ≡ length s
  pub tasks : (1 ≤ at.p) × (at.p ≤ 8)
  pub records : (1 ≤ at.n) × (at.n ≤ 32)
  pub most_events : at.count ≤ 5000
  pub most_bytes : length s ≤ 65000

pub read_inside : {s : List ℕ} {at : Layout} → sheet_of s ≡ Ok at → Inside s at
read_inside {s} {at} e =
    let k = read_kept e in
    let q = told 0 (counts_fine at.p at.n at.count) k.counts_kept in
    let l = long_enough s k.size_kept in
    let f : at.from + 8 * at.n + 12 * at.count ≡ length s - 8 = rw k.layout (filled s (rw k.layout at k.back_kept)) in
    record {
      whole = omega arith;
      tasks = (q.0.0, omega (arith, q.0.1));
      records = (q.1.0.0, omega (arith, q.1.0.1));
      most_events = omega (arith, q.1.1);
      most_bytes = omega (arith, (told 0 (size_fine (length s)) k.size_kept).1);
    }

-- the first values of a part are its numbers
pub take_values : (part : List ℕ) (k : ℕ) → k ≤ 128 → take k (values_in part) ≡ numbers k part
unfolding values_in numbers
take_values part k l =
    let f : ℕ → ℕ = λ i. pair part (2 * i) in
    let e : length (take k (tabulate 128 f)) ≡ k = length-take-le k (tabulate 128 f) (rw length_tabulate l) in
    ext_get_or 0 (take k (tabulate 128 f)) (tabulate k f) (e ∙ sym (length_tabulate k f))
    (λ i q. let h : i < k = rw e at q in get_or-take k (tabulate 128 f) i 0 h ∙ get_d_tabulate 128 f i 0 (omega arith) ∙ sym (get_d_tabulate k f i 0 h))
