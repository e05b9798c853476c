-- History that the proof keeps beside the table: functions of the run so far, read by no step. Call k of a run has the time suc k; 0
-- is never.
use Prim.Native.Nat.{ℕ, suc}
use mathlib.Core.Bool.{Bool, true, false}
use Rattle.table.specs.Table.{pick}
use Rattle.clauses.proofs.Updates.{upd, put_all}
use Rattle.clauses.proofs.Memory.{Shared, Act, nop, hold, abort, freeze, close, write, commit, make}

pub record Ghost : Type 0 where
  -- calls so far
  pub now : ℕ
  -- since u was taken, an H7 of u has altered a cell
  pub hap : ℕ → Bool
  -- since u was taken, an H1 of u at place i has set the info
  pub held : ℕ → ℕ → Bool
  -- the end of the linked read of place i of u
  pub since : ℕ → ℕ → ℕ
  -- the last H1 that set the info of r
  pub took : ℕ → ℕ
  -- the last effect of a change that names r
  pub eff : ℕ → ℕ
  -- the last L6 of task t that stored a link to r
  pub read : ℕ → ℕ → ℕ

-- whether a call ends a linked read, and of which record
pub record Reading : Type 0 where
  pub ends : Bool
  pub at : ℕ

unfoldable pub read_by : ℕ → Reading → ℕ → (ℕ → ℕ → ℕ) → ℕ → ℕ → ℕ
read_by t k m R = pick k.ends (upd R t (upd (R t) k.at m)) R

-- a write is an effect; a start has none yet
abbrev hap_by : Act → (ℕ → Bool) → ℕ → Bool
hap_by nop h = h
hap_by (hold u i) h = h
hap_by (abort u) h = h
hap_by (freeze u) h = h
hap_by (close u i) h = h
hap_by (write u) h = upd h u true
hap_by (commit u) h = h
hap_by (make u c) h = upd h u false

-- an H1 that sets an info holds that place; a start holds none
abbrev held_by : Act → (ℕ → ℕ → Bool) → ℕ → ℕ → Bool
held_by nop h = h
held_by (hold u i) h = upd h u (upd (h u) i true)
held_by (abort u) h = h
held_by (freeze u) h = h
held_by (close u i) h = h
held_by (write u) h = h
held_by (commit u) h = h
held_by (make u c) h = upd h u (λ i. false)

-- a start takes over the times of its task's linked reads
abbrev since_by : Act → (ℕ → ℕ) → (ℕ → ℕ → ℕ) → ℕ → ℕ → ℕ
since_by nop read h = h
since_by (hold u i) read h = h
since_by (abort u) read h = h
since_by (freeze u) read h = h
since_by (close u i) read h = h
since_by (write u) read h = h
since_by (commit u) read h = h
since_by (make u c) read h = upd h u (λ i. read (c.rec i))

-- the time m of an H1 that sets an info
abbrev took_by : Act → Shared → ℕ → (ℕ → ℕ) → ℕ → ℕ
took_by nop S m h = h
took_by (hold u i) S m h = upd h ((S.terms u).rec i) m
took_by (abort u) S m h = h
took_by (freeze u) S m h = h
took_by (close u i) S m h = h
took_by (write u) S m h = h
took_by (commit u) S m h = h
took_by (make u c) S m h = h

-- the time m of an effect, for all records that the change names
abbrev eff_by : Act → Shared → ℕ → (ℕ → ℕ) → ℕ → ℕ
eff_by nop S m h = h
eff_by (hold u i) S m h = h
eff_by (abort u) S m h = h
eff_by (freeze u) S m h = h
eff_by (close u i) S m h = h
eff_by (write u) S m h = put_all (S.terms u).n (S.terms u).rec m h
eff_by (commit u) S m h = h
eff_by (make u c) S m h = h

-- the history after a call of task t that did b and read k, over the shared words before it
unfoldable pub note : ℕ → Act → Reading → Shared → Ghost → Ghost
note t b k S G =
    record {
      now = suc G.now;
      hap = hap_by b G.hap;
      held = held_by b G.held;
      since = since_by b (G.read t) G.since;
      took = took_by b S (suc G.now) G.took;
      eff = eff_by b S (suc G.now) G.eff;
      read = read_by t k (suc G.now) G.read;
    }

-- before the first call
abbrev pub none_yet : Ghost
none_yet = record { now = 0; hap = λ u. false; held = λ u i. false; since = λ u i. 0; took = λ r. 0; eff = λ r. 0; read = λ t r. 0 }
