-- THE TWO TRIPS: parts written and read again are the same; a sheet read and written again is the same from its initial values on.
use Prim.Native.Nat.{ℕ, ◌+◌, ◌-◌, ◌*◌, ◌/◌, ◌<◌, ◌≤◌}
use native.Mathlib.Nat.{add-zero}
use native.Mathlib.Omega.{arith}
use mathlib.Core.Path.{◌≡◌, refl, sym, ap, ap₂, ◌∙◌}
use mathlib.Core.List.{List, [], ◌∷◌, ◌++◌, append_assoc}
use lib.ListN.{length, take, drop, length-append, length-drop, take-append-drop}
use lib.Seq.{take_at, drop_at, drop-drop, get_or-drop, get_or-take, length-take-le, ext_get_or}
use borrow.Author.Tests.{eqb-true, eq-eqb}
use Rattle.table.specs.Table.{tabulate}
use Rattle.table.proofs.Tabulate.{length_tabulate, get_d_tabulate}
use Rattle.rules.specs.Words.{Ok}
use Rattle.rules.proofs.Exact.{told, passes}
use Rattle.sheet.specs.declared.Layout.{Layout}
use Rattle.event.specs.Event.{byte, pair}
use Rattle.sheet.specs.Layout.{trailer, distance, layout_of, values_part, events_part, parts_size, sheet_of}
use Rattle.writer.specs.Write.{low_first, sheet_size}
use Rattle.sheet.specs.Layout.{size_fine, tag_fine, counts_fine, distance_fine, numbers, Parts, parts_of}
use Rattle.writer.specs.Write.{given_fine, value_bytes, trailer_bytes, sheet_bytes, bytes_of}
use Rattle.writer.proofs.Stored.{length_value_bytes}
use Rattle.writer.proofs.Writing.{GivenSizes, given_sizes, sheet_length}
use Rattle.sheet.proofs.Laws.{Kept, read_kept, kept_read, Inside, read_inside}
use Rattle.writer.proofs.Laws.{Accepts, written_accepts, accepts_written, accepts_buffer}
use Rattle.back.specs.Back.{AllBelow, writes, leaves, over, WrittenThenRead, ReadThenWritten, Writing, Reading}
use Rattle.back.proofs.Values.{two_bytes, values_back, bytes_back, low_first_lem}
use Rattle.back.proofs.Heading.{heading}

-- WRITTEN, THEN READ
module _ (x : Parts) (count : ℕ) {space : ℕ} (below : AllBelow 65536 x.values) (ok : Accepts x.p x.n count x.values x.events space) where
  sized : GivenSizes x.p x.n count (length x.values) (length x.events)
  sized = given_sizes x.p x.n count x.values x.events ok.given_kept

  abbrev front : List ℕ
  front = value_bytes x.values

  abbrev last : List ℕ
  last = trailer_bytes x.p x.n count

  abbrev at : Layout
  at = record { p = x.p; n = x.n; count = count; from = 0 }

  -- 12E event bytes are accepted alone, so that they tell the count
  bytes_are : bytes_of x ≡ sheet_bytes x.p x.n count x.values x.events
  unfolding bytes_of
  bytes_are =
      let e : length x.events / 12 ≡ count = omega (arith, sized.events_are) in
      ap (λ (k : ℕ). sheet_bytes x.p x.n k x.values x.events) e

  three_are : bytes_of x ≡ front ++ x.events ++ last
  unfolding sheet_bytes
  three_are = bytes_are

  front_size : length front ≡ 8 * x.n
  front_size = omega (arith, length_value_bytes x.values, sized.values_are)

  whole_size : length (bytes_of x) ≡ sheet_size x.n count
  whole_size = rw bytes_are (sheet_length x.p x.n count x.values x.events ok.given_kept)

  trailer_is : trailer (bytes_of x) ≡ last
  trailer_is =
      let k : length (front ++ x.events) ≡ length (bytes_of x) - 8 = omega (arith, whole_size, length-append front x.events, front_size, sized.events_are) in
      ap (λ (l : List ℕ). drop (length (bytes_of x) - 8) l) three_are ∙ drop_at (front ++ x.events) last (length (bytes_of x) - 8) k

  count_back : pair last 4 ≡ count
  count_back = two_bytes count (omega (arith, sized.most))

  distance_back : distance last ≡ parts_size x.n count
  distance_back = two_bytes (parts_size x.n count) (omega (arith, sized.most, sized.records))

  layout_is : at ≡ layout_of (bytes_of x)
  unfolding layout_of
  layout_is =
      let z : 0 ≡ length (bytes_of x) - 8 - parts_size x.n count = omega (arith, whole_size) in
      rw (trailer_is, count_back, distance_back, ← z) refl

  values_part_lem : values_part (bytes_of x) at ≡ front
  unfolding values_part
  values_part_lem = rw (three_are, append_assoc front x.events last) (take_at front (x.events ++ last) (8 * x.n) front_size)

  events_part_lem : events_part (bytes_of x) at ≡ x.events
  unfolding events_part
  events_part_lem =
      rw (three_are, append_assoc front x.events last, drop_at front (x.events ++ last) (0 + 8 * x.n) (omega (arith, front_size)))
      (take_at x.events last (12 * count) sized.events_are)

  kept : Kept (bytes_of x) at
  kept =
      record {
        layout = layout_is;
        size_kept = passes 0 (size_fine (length (bytes_of x))) (omega (arith, whole_size), omega (arith, whole_size, sized.most, sized.records));
        tag_kept = rw trailer_is (passes 0 (tag_fine last) (refl, refl));
        counts_kept =
            passes 0 (counts_fine x.p x.n count) (
              (omega (arith, sized.tasks), omega (arith, sized.tasks)),
              ((omega (arith, sized.records), omega (arith, sized.records)), omega (arith, sized.most)),
            );
        back_kept =
            rw (trailer_is, distance_back)
            (passes 0 (distance_fine (parts_size x.n count) x.n count (length (bytes_of x) - 8))
            (eq-eqb (parts_size x.n count) (parts_size x.n count) refl, omega (arith, whole_size)));
        events_kept = rw events_part_lem ok.events_kept;
      }

  parts_back : parts_of (bytes_of x) at ≡ x
  unfolding parts_of
  parts_back =
      let v : numbers (4 * x.n) (values_part (bytes_of x) at) ≡ x.values = rw (values_part_lem, ← sized.values_are) (values_back x.values below) in
      rw (v, events_part_lem) refl

  buffer_is : (old : List ℕ) → length old ≡ space → leaves x count old ≡ over (bytes_of x) old
  buffer_is old l = rw bytes_are (accepts_buffer old (rw l ok))

  written_read : {size : ℕ} → writes x count space ≡ Ok size → WrittenThenRead x count space size
  written_read {size} e =
      let f = accepts_written ok in
      let size_is : size ≡ sheet_size x.n count = cc in
      record {
        answer = size_is ∙ sym whole_size;
        buffer = buffer_is;
        headed = λ h l. rw parts_back at (rw (add-zero (length h)) at (heading h (bytes_of x) at (kept_read kept) l));
        fits = omega (arith, whole_size, sized.most, sized.records);
      }

pub writing : Writing
writing p n count values events space size below e = written_read (record { p = p; n = n; values = values; events = events }) count below (written_accepts e) e

-- READ, THEN WRITTEN

-- a list of eight is its eight bytes
eight_are : (t : List ℕ) → length t ≡ 8 → ◌≡◌ {A = List ℕ} (byte t 0 ∷ byte t 1 ∷ byte t 2 ∷ byte t 3 ∷ byte t 4 ∷ byte t 5 ∷ byte t 6 ∷ byte t 7 ∷ []) t
unfolding tabulate
eight_are t e =
    ext_get_or 0 (tabulate 8 (byte t)) t (length_tabulate 8 (byte t) ∙ sym e)
    (λ i l. get_d_tabulate 8 (byte t) i 0 (rw length_tabulate at l))

module _ (s : List ℕ) (at : Layout) (below : AllBelow 256 s) (e : sheet_of s ≡ Ok at) where
  inside : Inside s at
  inside = read_inside e

  rules : Kept s at
  rules = read_kept e

  -- the bytes from the initial values on, in three parts
  abbrev rest : List ℕ
  rest = drop at.from s

  cut : rest ≡ values_part s at ++ events_part s at ++ trailer s
  unfolding values_part events_part
  cut =
      let behind-values : drop (8 * at.n) rest ≡ drop (at.from + 8 * at.n) s = drop-drop (8 * at.n) at.from s in
      let k : at.from + 8 * at.n + 12 * at.count ≡ length s - 8 = omega (arith, inside.whole) in
      let behind-events : drop (12 * at.count) (drop (at.from + 8 * at.n) s) ≡ trailer s = drop-drop (12 * at.count) (at.from + 8 * at.n) s ∙ ap (λ (j : ℕ). drop j s) k in
      sym (take-append-drop (8 * at.n) rest)
      ∙ ap (λ (l : List ℕ). take (8 * at.n) rest ++ l)
      (behind-values
      ∙ sym (take-append-drop (12 * at.count) (drop (at.from + 8 * at.n) s))
      ∙ ap (λ (l : List ℕ). take (12 * at.count) (drop (at.from + 8 * at.n) s) ++ l) behind-events)
      ∙ sym (append_assoc (take (8 * at.n) rest) (take (12 * at.count) (drop (at.from + 8 * at.n) s)) (trailer s))

  values_size : length (values_part s at) ≡ 8 * at.n
  unfolding values_part
  values_size = length-take-le (8 * at.n) rest (omega (arith, length-drop at.from s, inside.whole))

  events_size : length (events_part s at) ≡ 12 * at.count
  unfolding events_part
  events_size = length-take-le (12 * at.count) (drop (at.from + 8 * at.n) s) (omega (arith, length-drop (at.from + 8 * at.n) s, inside.whole))

  trailer_size_lem : length (trailer s) ≡ 8
  trailer_size_lem = omega (arith, length-drop (length s - 8) s, inside.whole)

  values_below : AllBelow 256 (values_part s at)
  unfolding values_part
  values_below i l =
      let q : i < 8 * at.n = rw values_size at l in
      rw (get_or-take (8 * at.n) rest i 0 q, get_or-drop at.from s i 0) (below (at.from + i) (omega (arith, inside.whole)))

  trailer_below : (i : ℕ) → i < 8 → byte (trailer s) i < 256
  trailer_below i l = rw (get_or-drop (length s - 8) s i 0) (below (length s - 8 + i) (omega (arith, inside.whole)))

  values_written : value_bytes (numbers (4 * at.n) (values_part s at)) ≡ values_part s at
  values_written = bytes_back (4 * at.n) (values_part s at) (omega (arith, values_size)) values_below

  count_is : length (events_part s at) / 12 ≡ at.count
  count_is = omega (arith, events_size)

  -- the trailer's bytes, by what its tests say
  tag_told : (byte (trailer s) 0 ≡ 82) × (byte (trailer s) 1 ≡ 83)
  tag_told =
      let q = told 0 (tag_fine (trailer s)) rules.tag_kept in
      (eqb-true (byte (trailer s) 0) 82 q.0, eqb-true (byte (trailer s) 1) 83 q.1)

  distance_told : distance (trailer s) ≡ parts_size at.n at.count
  distance_told =
      eqb-true (distance (trailer s)) (parts_size at.n at.count)
      (told 0 (distance_fine (distance (trailer s)) at.n at.count (length s - 8)) rules.back_kept).0

  p_is : at.p ≡ byte (trailer s) 2
  unfolding layout_of
  p_is = ap (λ (y : Layout). y.p) rules.layout

  n_is : at.n ≡ byte (trailer s) 3
  unfolding layout_of
  n_is = ap (λ (y : Layout). y.n) rules.layout

  events_is : at.count ≡ pair (trailer s) 4
  unfolding layout_of
  events_is = ap (λ (y : Layout). y.count) rules.layout

  trailer_written : trailer_bytes at.p at.n at.count ≡ trailer s
  trailer_written =
      let t = trailer s in
      let heads : ◌≡◌ {A = List ℕ} (82 ∷ 83 ∷ at.p ∷ at.n ∷ []) (byte t 0 ∷ byte t 1 ∷ byte t 2 ∷ byte t 3 ∷ []) =
      rw (tag_told.0, tag_told.1, p_is, n_is) refl
      in
      let count : low_first at.count ≡ byte t 4 ∷ byte t 5 ∷ [] =
      ap low_first events_is ∙ low_first_lem (byte t 4) (byte t 5) (trailer_below 4 (omega arith)) (trailer_below 5 (omega arith))
      in
      let back : low_first (parts_size at.n at.count) ≡ byte t 6 ∷ byte t 7 ∷ [] =
      ap low_first (sym distance_told) ∙ low_first_lem (byte t 6) (byte t 7) (trailer_below 6 (omega arith)) (trailer_below 7 (omega arith))
      in
      ap₂ ◌++◌ (ap₂ ◌++◌ heads count) back ∙ eight_are t trailer_size_lem

  sheet_again : sheet_bytes at.p at.n at.count (numbers (4 * at.n) (values_part s at)) (events_part s at) ≡ rest
  unfolding sheet_bytes
  sheet_again = rw (values_written, trailer_written) (sym cut)

  written_again : bytes_of (parts_of s at) ≡ rest
  unfolding bytes_of parts_of
  written_again = rw count_is sheet_again

  -- the writer accepts the parts
  rest_size : length rest ≡ sheet_size at.n at.count
  rest_size = omega (arith, length-drop at.from s, inside.whole)

  accepts : (space : ℕ) → length rest ≤ space
      → Accepts at.p at.n at.count (numbers (4 * at.n) (values_part s at)) (events_part s at) space
  unfolding numbers
  accepts space l =
      let values_are : length (numbers (4 * at.n) (values_part s at)) ≡ 4 * at.n = length_tabulate (4 * at.n) (λ i. pair (values_part s at) (2 * i)) in
      let counts = told 0 (counts_fine at.p at.n at.count) rules.counts_kept in
      record {
        given_kept =
            passes 0 (given_fine at.p at.n at.count (length (numbers (4 * at.n) (values_part s at))) (length (events_part s at)))
            (counts, (eq-eqb (length (numbers (4 * at.n) (values_part s at))) (4 * at.n) values_are, eq-eqb (length (events_part s at)) (12 * at.count) events_size));
        events_kept = rules.events_kept;
        fits = omega (arith, rest_size);
      }

  read_written : ReadThenWritten s at (parts_of s at)
  unfolding parts_of
  read_written =
      record {
        bytes = written_again;
        answer = λ space l. rw rest_size (accepts_written (accepts space l));
        buffer = λ old l. accepts_buffer old (accepts (length old) l) ∙ ap (λ (b : List ℕ). over b old) sheet_again;
      }

pub reading : Reading
reading = read_written
