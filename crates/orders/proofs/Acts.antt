-- What each access does to the shared words, over the lists that hold them: a read leaves them as they are, a write is its act.
use Prim.Native.Nat.{ℕ, ◌<◌}
use native.Mathlib.Omega.{arith}
use mathlib.Core.Path.{◌≡◌, refl, sym, ap, ◌∙◌}
use mathlib.Core.Bool.{Bool, true, false}
use mathlib.Core.List.{List}
use lib.ListN.{get_or, set, length}
use lib.Seq.{get_or-set_same, get_or-set_other, set-get_or}
use lib.Dec.{eqb}
use borrow.Author.Tests.{ne_eqb}
use Rattle.rules.specs.Words.{Cell, Record, InProgress, Change}
use Rattle.rules.specs.Words.{Access, Hold, Close, Write, Freeze, Abort, Commit}
use Rattle.table.specs.Table.{pick, no_cell, no_record, no_change, cell_at, state_of, same_cell}
use Rattle.rules.specs.Perform.{record_of, change_in, record_by, change_by}
use Rattle.clauses.proofs.Updates.{upd, at}
use Rattle.clauses.proofs.Memory.{Shared, nop, hold, abort, freeze, close, write, commit, make, apply}
use Rattle.clauses.proofs.Steps.{terms_of, is_stored, is_old}
use Rattle.orders.proofs.Stored.{shared_in, alike, entry_is, shows, hides, shows_in, hides_in}

module _ (n : ℕ) (rs : List Record) (cs : List Change) where
  abbrev S : Shared
  S = shared_in n rs cs

  -- the shared words after an access
  abbrev pub afterwards : Access → Shared
  afterwards a =
      let i = record_of a in
      let u = change_in a in
      shared_in n (set rs i (record_by a (get_or rs i no_record))) (set cs u (change_by a (get_or cs u no_change)))

  pub reads : (i u : ℕ) → shared_in n (set rs i (get_or rs i no_record)) (set cs u (get_or cs u no_change)) ≡ S
  reads i u k = shared_in n (set-get_or rs i no_record k) (set-get_or cs u no_change k)

  -- a store in the records alone, and in the changes alone
  records_only : (rs' : List Record) (u : ℕ) → shared_in n rs' (set cs u (get_or cs u no_change)) ≡ shared_in n rs' cs
  records_only rs' u k = shared_in n rs' (set-get_or cs u no_change k)

  changes_only : (cs' : List Change) (i : ℕ) → shared_in n (set rs i (get_or rs i no_record)) cs' ≡ shared_in n rs cs'
  changes_only cs' i k = shared_in n (set-get_or rs i no_record k) cs'

  -- H1, H6 and H7 of u, at a record that exists
  module _ (u : ℕ) where
    abbrev ch : Change
    ch = get_or cs u no_change

    -- the record at place i of its list
    abbrev named : ℕ → ℕ
    named i = get_or ch.v i 0

    abbrev found : ℕ → Record
    found i = get_or rs (named i) no_record

    module _ (i : ℕ) (q : named i < n) (h : named i < length rs) where
      pub holds : afterwards (Hold (named i) (get_or ch.infos i 0) u) ≡ apply (pick (is_stored S u i) (hold u i) nop) S
      unfolding apply
      holds = rw (entry_is n rs no_record (named i) q) (go (eqb (found i).info (get_or ch.infos i 0)))
        where
          go : (b : Bool)
              → shared_in n (set rs (named i) (record { cells = (found i).cells; mark = (found i).mark; info = pick b u (found i).info }))
              (set cs 0 (get_or cs 0 no_change))
              ≡ apply (pick b (hold u i) nop) S
          go true =
              let y : Record = record { cells = (found i).cells; mark = (found i).mark; info = u } in
              records_only (set rs (named i) y) 0
              ∙ alike _ _ refl refl refl (λ k j. shows_in (λ (z : Record). z.info) rs (named i) y no_record n q h j k)
              (λ k j. hides_in (λ (z : Record). z.mark) rs (named i) y no_record n refl j k)
              (λ k j f. hides_in (λ (z : Record). cell_at z.cells f) rs (named i) y no_record n refl j k)
          go false = reads (named i) 0

      pub closes : afterwards (Close (named i)) ≡ apply (close u i) S
      unfolding apply
      closes =
          let y : Record = record { cells = (found i).cells; mark = true; info = (found i).info } in
          records_only (set rs (named i) y) 0
          ∙ alike _ _ refl refl refl (λ k j. hides_in (λ (z : Record). z.info) rs (named i) y no_record n refl j k)
          (λ k j. shows_in (λ (z : Record). z.mark) rs (named i) y no_record n q h j k)
          (λ k j f. hides_in (λ (z : Record). cell_at z.cells f) rs (named i) y no_record n refl j k)

    abbrev new : Cell
    new = record { value = ch.new; stamp = u }

    module _ (q : named ch.written < n) (h : named ch.written < length rs) (fl : ch.field < length (found ch.written).cells) where
      abbrev r : ℕ
      r = named ch.written

      abbrev x : Record
      x = found ch.written

      cells_are : (f : ℕ) → cell_at (set x.cells ch.field new) f ≡ upd (S.cell r) ch.field new f
      cells_are f =
          shows (λ (c : Cell). c) x.cells ch.field new no_cell fl f
          ∙ ap (λ (y : Record). upd (λ f. cell_at y.cells f) ch.field new f) (sym (entry_is n rs no_record r q))

      pub writes : afterwards (Write r ch.field ch.old new) ≡ apply (pick (is_old S u) (write u) nop) S
      unfolding apply
      writes = rw (entry_is n rs no_record r q) (go (same_cell (cell_at x.cells ch.field) ch.old))
        where
          go : (b : Bool)
              → shared_in n (set rs r (record { cells = pick b (set x.cells ch.field new) x.cells; mark = x.mark; info = x.info }))
              (set cs 0 (get_or cs 0 no_change))
              ≡ apply (pick b (write u) nop) S
          go true =
              let y : Record = record { cells = set x.cells ch.field new; mark = x.mark; info = x.info } in
              records_only (set rs r y) 0
              ∙ alike _ _ refl refl refl (λ k j. hides_in (λ (z : Record). z.info) rs r y no_record n refl j k)
              (λ k j. hides_in (λ (z : Record). z.mark) rs r y no_record n refl j k)
              ((λ k j. shows_in {B = ℕ → Cell} (λ z f. cell_at z.cells f) rs r y no_record n q h j k)
              ∙ ap (λ (row : ℕ → Cell). upd S.cell r row) (λ k f. cells_are f k))
          go false = reads r 0

    -- H4, H5 and H8 of u, and the start that takes u
    module _ (q : 0 < u) (h : u < length cs) where
      states : (y : Change) (j : ℕ) → state_of j (get_or (set cs u y) j no_change) ≡ upd S.state u y.state j
      states y j = at (λ s. state_of j (get_or (set cs u y) j no_change) ≡ s) S.state u y.state j
          (λ e. rw (e, get_or-set_same cs u y no_change h, ne_eqb u 0 (λ z. omega arith)) refl)
          (λ ne. ap (state_of j) (get_or-set_other cs u j y no_change ne))

      -- y is the change with another state
      set-state : (y : Change) → terms_of y ≡ terms_of ch → y.frozen ≡ ch.frozen → shared_in n (set rs 0 (get_or rs 0 no_record)) (set cs u y)
          ≡ record { terms = S.terms; state = upd S.state u y.state; frozen = S.frozen; info = S.info; mark = S.mark; cell = S.cell }
      set-state y et ef =
          changes_only (set cs u y) 0
          ∙ alike _ _ (λ k j. hides terms_of cs u y no_change et j k) (λ k j. states y j k)
          (λ k j. hides (λ (z : Change). z.frozen) cs u y no_change ef j k) refl refl refl

      pub aborts : afterwards (Abort u) ≡ apply (abort u) S
      unfolding apply
      aborts = set-state (change_by (Abort u) ch) refl refl

      pub commits : afterwards (Commit u) ≡ apply (commit u) S
      unfolding apply
      commits = set-state (change_by (Commit u) ch) refl refl

      pub freezes : afterwards (Freeze u) ≡ apply (freeze u) S
      unfolding apply
      freezes =
          let y : Change = change_by (Freeze u) ch in
          changes_only (set cs u y) 0
          ∙ alike _ _ (λ k j. hides terms_of cs u y no_change refl j k) (λ k j. hides (state_of j) cs u y no_change refl j k)
          (λ k j. shows (λ (z : Change). z.frozen) cs u y no_change h j k) refl refl refl

      pub makes : (y : Change) → y.state ≡ InProgress → y.frozen ≡ false → shared_in n rs (set cs u y) ≡ apply (make u (terms_of y)) S
      unfolding apply
      makes y es ef =
          alike _ _ (λ k j. shows terms_of cs u y no_change h j k) ((λ k j. states y j k) ∙ ap (upd S.state u) es)
          ((λ k j. shows (λ (z : Change). z.frozen) cs u y no_change h j k) ∙ ap (upd S.frozen u) ef) refl refl refl
