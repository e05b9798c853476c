-- HEADING BYTES ARE IGNORED: the trailer is the last eight bytes, and the parts are found back from it.
use Prim.Native.Nat.{ℕ, ◌+◌, ◌-◌, ◌*◌, ◌≤◌}
use native.Mathlib.Omega.{arith}
use mathlib.Core.Path.{◌≡◌, refl, ap}
use mathlib.Core.List.{List, ◌++◌}
use lib.ListN.{length, take, drop, length-append}
use lib.Seq.{drop-append-add}
use Rattle.rules.specs.Words.{Ok}
use Rattle.rules.specs.Claim.{Says}
use Rattle.rules.proofs.Exact.{told, passes}
use Rattle.sheet.specs.declared.Layout.{Layout}
use Rattle.sheet.specs.Layout.{trailer, distance, layout_of, values_part, events_part, size_fine, distance_fine, sheet_of, parts_of}
use Rattle.sheet.proofs.Laws.{Kept, read_kept, kept_read, Inside, read_inside}
use Rattle.back.specs.Back.{ReadAs, Heading}

-- what lies from a position on lies behind the heading
behind : (h s : List ℕ) (k j : ℕ) → j ≡ length h + k → drop j (h ++ s) ≡ drop k s
behind h s k j e = rw e (drop-append-add h s k)

module _ (h s : List ℕ) (at : Layout) (e : sheet_of s ≡ Ok at) (l : length (h ++ s) ≤ 65000) where
  inside : Inside s at
  inside = read_inside e

  kept : Kept s at
  kept = read_kept e

  size_is : length (h ++ s) ≡ length h + length s
  size_is = length-append h s

  -- the layout behind the heading
  abbrev moved : Layout
  moved = record { p = at.p; n = at.n; count = at.count; from = length h + at.from }

  trailer_same : trailer (h ++ s) ≡ trailer s
  trailer_same = behind h s (length s - 8) (length (h ++ s) - 8) (omega (arith, size_is, inside.whole))

  -- what the test of the distance says
  was : Says 0 (distance_fine (distance (trailer s)) at.n at.count (length s - 8))
  was = told 0 (distance_fine (distance (trailer s)) at.n at.count (length s - 8)) kept.back_kept

  from_is : at.from ≡ length s - 8 - distance (trailer s)
  unfolding layout_of
  from_is = ap (λ (x : Layout). x.from) kept.layout

  layout_same : moved ≡ layout_of (h ++ s)
  unfolding layout_of
  layout_same =
      let f : length h + at.from ≡ length (h ++ s) - 8 - distance (trailer s) = omega (arith, size_is, inside.whole, from_is, was.1) in
      rw (trailer_same, ← f) (ap (λ (x : Layout). record { p = x.p; n = x.n; count = x.count; from = length h + at.from }) kept.layout)

  events_same : events_part (h ++ s) moved ≡ events_part s at
  unfolding events_part
  events_same = ap (λ (x : List ℕ). take (12 * at.count) x) (behind h s (at.from + 8 * at.n) (length h + at.from + 8 * at.n) (omega arith))

  values_same : values_part (h ++ s) moved ≡ values_part s at
  unfolding values_part
  values_same = ap (λ (x : List ℕ). take (8 * at.n) x) (behind h s at.from (length h + at.from) refl)

  still_kept : Kept (h ++ s) moved
  still_kept =
      record {
        layout = layout_same;
        size_kept = passes 0 (size_fine (length (h ++ s))) (omega (arith, size_is, inside.whole), omega arith);
        tag_kept = rw trailer_same kept.tag_kept;
        counts_kept = kept.counts_kept;
        back_kept =
            rw trailer_same
            (passes 0 (distance_fine (distance (trailer s)) at.n at.count (length (h ++ s) - 8))
            (was.0, omega (arith, size_is, inside.whole, was.1)));
        events_kept = rw events_same kept.events_kept;
      }

  headed : ReadAs (h ++ s) (parts_of s at) at.count (length h + at.from)
  unfolding parts_of
  headed = record { accepted = kept_read still_kept; parts = rw (values_same, events_same) refl }

pub heading : Heading
heading = headed
