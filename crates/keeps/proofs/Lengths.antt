-- Each array has the length of its type, so that what is in range has room: in the fresh table, and after every call.
use Prim.Native.Nat.{ℕ, zero, suc, ◌<◌}
use mathlib.Core.Path.{◌≡◌, refl, ap, ◌∙◌}
use mathlib.Core.Bool.{true}
use mathlib.Core.List.{List}
use lib.ListN.{get_or, set, length, length-set, length-replicate, get_or-replicate}
use lib.Dec.{ltb}
use Rattle.rules.specs.Words.{Cell, Record, Change, Task, Link, Machine, Move, Keep}
use Rattle.rules.specs.Words.{Access, Nothing, ReadMark, ReadInfo, ReadCell, ReadState, ReadFrozen}
use Rattle.rules.specs.Words.{Hold, Close, Write, Freeze, Abort, Commit}
use Rattle.rules.specs.Words.{Ask, AskLlx, AskScx, AskVlx, AskRead, AskStep, Call, Check, Ok, Err}
use Rattle.keeps.proofs.Stores.{any, picked}
use Rattle.keeps.proofs.Frame.{put}
use Rattle.table.specs.Table.{pick, no_record, no_task, cell_at, record_at, task_at, slot, same_cell}
use Rattle.table.specs.Fresh.{fresh_record, empty_record, fresh_records, empty_change, idle_task, empty_link, fresh_machine, in_range, fresh}
use Rattle.table.proofs.Tabulate.{length_tabulate, get_d_tabulate}
use Rattle.rules.specs.Perform.{touch, record_of, record_by, perform}
use Rattle.rules.specs.Step.{cells_by, drop_first, settle, access_at, move_at, step}
use Rattle.rules.specs.Start.{start}
use Rattle.rules.specs.Refuse.{check, rules_of}
use Rattle.rules.specs.Next.{refused, started, accepted, answered, next}

pub record Sized (m : Machine) : Type 0 where
  pub records : length m.records ≡ 32
  pub changes : length m.changes ≡ 256
  pub tasks : length m.tasks ≡ 8
  pub links : length m.links ≡ 256
  pub record_cells : (r : ℕ) → r < 32 → length (record_at m r).cells ≡ 4
  pub task_cells : (t : ℕ) → t < 8 → length (task_at m t).cells ≡ 4

fresh_record_lem : (n : ℕ) (values : List ℕ) (r : ℕ) → r < 32 → length (get_or (fresh_records n values) r no_record).cells ≡ 4
unfolding fresh_records
fresh_record_lem n values r l =
    let f : ℕ → Record = λ r. pick (ltb r n) (fresh_record values r) empty_record in
    ap (λ (x : Record). length x.cells) (get_d_tabulate 32 f r no_record l)
    ∙ picked (λ (x : Record). length x.cells ≡ 4) (ltb r n) (fresh_record values r) empty_record (λ e. refl) (λ e. refl)

pub fresh_sized : (p n : ℕ) (values : List ℕ) → in_range p n (length values) ≡ true → Sized (fresh p n values).m
unfolding fresh fresh_machine fresh_records
fresh_sized p n values e =
    rw e
    (record {
      records = length_tabulate 32 (λ r. pick (ltb r n) (fresh_record values r) empty_record);
      changes = length-replicate 256 empty_change;
      tasks = length-replicate 8 idle_task;
      links = length-replicate 256 empty_link;
      record_cells = fresh_record_lem n values;
      task_cells = λ t l. ap (λ (x : Task). length x.cells) (get_or-replicate 8 t idle_task no_task l);
    })

-- an access and a drop keep the lengths
kept_lem : (cs : List Cell) (c : Cell) (v : Move) → length (cells_by cs c v) ≡ length cs
kept_lem cs c (Keep q f) = length-set cs f c
kept_lem cs c v = refl

same_cells_lem : (a : Access) (cs : List Cell) → length ((touch a).cells cs) ≡ length cs
same_cells_lem Nothing cs = refl
same_cells_lem (ReadMark r) cs = refl
same_cells_lem (ReadInfo r) cs = refl
same_cells_lem (ReadCell r f) cs = refl
same_cells_lem (ReadState u) cs = refl
same_cells_lem (ReadFrozen u) cs = refl
same_cells_lem (Hold r want u) cs = refl
same_cells_lem (Close r) cs = refl
same_cells_lem (Write r f old new) cs =
    picked (λ (x : List Cell). length x ≡ length cs) (same_cell (cell_at cs f) old) (set cs f new) cs (λ e. length-set cs f new) (λ e. refl)
same_cells_lem (Freeze u) cs = refl
same_cells_lem (Abort u) cs = refl
same_cells_lem (Commit u) cs = refl

same_links : (ls : List Link) (t : ℕ) (l : List ℕ) (n : ℕ) → length (drop_first ls t l n) ≡ length ls
unfolding drop_first
same_links ls t l zero = refl
same_links ls t l (suc n) = length-set (drop_first ls t l n) (slot t (get_or l n 0)) _ ∙ same_links ls t l n

module _ (m : Machine) (Z : Sized m) where
  -- what a call has to show of the lengths
  put_sized : (t used : ℕ) (rs : List Record) (xs : List Change) (x : Task) (ls : List Link)
      → length rs ≡ 32 → length xs ≡ 256 → length ls ≡ 256 → ((r : ℕ) → r < 32 → length (get_or rs r no_record).cells ≡ 4)
      → (t < 8 → length x.cells ≡ 4) → Sized (put m t used rs xs x ls)
  put_sized t used rs xs x ls r32 c256 l256 cells own =
      record {
        records = r32;
        changes = c256;
        tasks = length-set m.tasks t x ∙ Z.tasks;
        links = l256;
        record_cells = cells;
        task_cells = λ j l. any (λ (y : Task). length y.cells ≡ 4) m.tasks t x no_task j (λ e. own (rw e at l)) (Z.task_cells j l);
      }

  accepted_sized : (t : ℕ) (ask : Ask) (l : List ℕ) → Sized (accepted m t ask l).m
  unfolding started start step settle perform
  accepted_sized t (AskLlx r) l =
      put_sized t _ m.records m.changes _ _ Z.records Z.changes (same_links m.links t _ 1 ∙ Z.links)
      Z.record_cells (Z.task_cells t)
  accepted_sized t (AskScx n r written field new) l =
      put_sized t _ m.records _ _ _ Z.records (length-set m.changes _ _ ∙ Z.changes) (same_links m.links t l n ∙ Z.links)
      Z.record_cells (Z.task_cells t)
  accepted_sized t (AskVlx n) l =
      put_sized t _ m.records m.changes _ m.links Z.records Z.changes Z.links Z.record_cells (Z.task_cells t)
  accepted_sized t (AskRead r f) l =
      put_sized t _ m.records m.changes _ m.links Z.records Z.changes Z.links Z.record_cells (Z.task_cells t)
  accepted_sized t AskStep l =
      let a = access_at m t in
      let x = record_at m (record_of a) in
      put_sized t _ (set m.records (record_of a) (record_by a x)) _ _ _
      (length-set m.records _ _ ∙ Z.records) (length-set m.changes _ _ ∙ Z.changes)
      (same_links _ t _ _ ∙ length-set m.links _ _ ∙ Z.links)
      (λ j l. any (λ (y : Record). length y.cells ≡ 4) m.records (record_of a) (record_by a x) no_record j
      (λ e. same_cells_lem a x.cells ∙ Z.record_cells (record_of a) (rw e at l)) (Z.record_cells j l))
      (λ l. kept_lem (task_at m t).cells _ (move_at m t) ∙ Z.task_cells t l)

pub kept_sized : (m : Machine) (e : Call) → Sized m → Sized (next m e).m
unfolding next refused
kept_sized m e Z = go (check (rules_of m e))
  where
    go : (c : Check) → Sized (answered c m e).m
    go (Ok _) = accepted_sized m Z e.task e.ask e.list
    go (Err why) = Z
