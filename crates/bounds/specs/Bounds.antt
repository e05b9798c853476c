-- OWN-STEP BOUNDS. "From a fresh table an operation ends within its own steps, others doing anything: LLX 39, VLX n, READ 1, SCX 2n + f + 3
-- where R has f records. An undisturbed SCX takes n + f + 3; an undisturbed LLX on an open record nobody holds takes 9." Each stands
-- above the fields that render it, over the runs of demand 3. An operation in progress has made fewer own steps than its bound: it ends
-- with the last of them at the latest.
-- The theorem is `every_bound` in proofs/Every.antt: Bounds next (the fresh table) calls, for all calls.
use Rattle.std.specs.Prelude.{ℕ, zero, suc, ◌+◌, ◌*◌, ◌/◌, ◌%◌, ◌<◌, ◌≡◌, ◌⊎◌, ◌↔◌, ◌≢◌, Bool, true, false, ◌&&◌, List, eqb, ltb}
use Rattle.rules.specs.Words.{Cell, Idle, Machine, Ask, AskLlx, AskScx, AskVlx, AskRead, AskStep, Call, Accepted, Snapshot, Yes, Out}
use Rattle.table.specs.Table.{pick}
use Rattle.orders.specs.Demand.{said, place, Steps, Starts, Going, Change, named, Closes, Effect, Verdict, Holds, LinkedRead}

-- how many records R has: the bits of places 0 to 3
abbrev pub size : ℕ → ℕ
size closing = closing % 2 + closing / 2 % 2 + closing / 4 % 2 + closing / 8 % 2

-- the ask is a STEP
abbrev pub is_step : Ask → Bool
is_step (AskLlx r) = false
is_step (AskScx n r written field new) = false
is_step (AskVlx n) = false
is_step (AskRead r f) = false
is_step AskStep = true

-- the call is a STEP of task t
abbrev pub step_of : ℕ → Call → Bool
step_of t e = is_step e.ask && eqb e.task t

module _ (next : Machine → Call → Out) (m : Machine) (calls : ℕ → Call) where
  -- OWN STEPS: the STEPs of t among the calls after s and before k
  unfoldable pub own : ℕ → ℕ → ℕ → ℕ
  own s t zero = 0
  own s t (suc k) = pick (ltb s k && step_of t (calls k)) (suc (own s t k)) (own s t k)

  -- an undisturbed SCX: from the end of each linked read to the start nobody takes hold of the record, and from then until call k nobody
  -- else does
  pub record UndisturbedScx (c : Change next m calls) (k : ℕ) : Type 0 where
    pub since_read : (d : Change next m calls) (i e j : ℕ) → i < c.n → LinkedRead next m calls c (named next m calls c i) e → e < j → j < c.start
        → Holds next m calls d j (named next m calls c i) → ⊥
    pub since_start : (d : Change next m calls) (i j : ℕ) → i < c.n → c.start < j → j < k → (calls j).task ≢ c.task
        → Holds next m calls d j (named next m calls c i) → ⊥

  -- an undisturbed LLX of r: before its start no change that closes r has taken effect, and each that took hold of r has its verdict;
  -- nobody else takes hold of it until call k
  pub record UndisturbedLlx (s t r k : ℕ) : Type 0 where
    pub not_closed : (c : Change next m calls) (j : ℕ) → j < s → Effect next m calls c j → Closes next m calls c r → ⊥
    pub not_held : (c : Change next m calls) (j : ℕ) → j < s → Holds next m calls c j r
        → (i : ℕ) × (yes : Bool) × (i < s) × Verdict next m calls c i yes
    pub since_start : (c : Change next m calls) (j : ℕ) → s < j → j < k → (calls j).task ≢ t → Holds next m calls c j r → ⊥

  pub record Bounds : Type 0 where
    -- "an operation answers on its last access": a start leaves its task busy, and it is so until a STEP of its own answers; no STEP
    -- before is refused
    pub begins : (s t : ℕ) (ask : Ask) → Starts next m calls s t ask → is_step ask ≡ false → Going next m calls s t (suc s)
    pub ends : (s t k : ℕ) → Going next m calls s t k
        → (Going next m calls s t (suc k) × (step_of t (calls k) ≡ true → said next m calls k ≡ Accepted))
        ⊎ (Steps next m calls k t × (said next m calls k ≢ Accepted) × (place next m calls (suc k) t ≡ Idle))
    -- "LLX 39, VLX n, READ 1, SCX 2n + f + 3 where R has f records"
    pub llx : (s t r k : ℕ) → Starts next m calls s t (AskLlx r) → Going next m calls s t k → own s t k < 39
    pub vlx : (s t n k : ℕ) → Starts next m calls s t (AskVlx n) → Going next m calls s t k → own s t k < n
    pub read : (s t r f k : ℕ) → Starts next m calls s t (AskRead r f) → Going next m calls s t k → own s t k < 1
    pub scx : (s t n closing written field new k : ℕ) → Starts next m calls s t (AskScx n closing written field new) → Going next m calls s t k
        → own s t k < 2 * n + size closing + 3
    -- "An undisturbed SCX takes n + f + 3", and answers yes
    pub undisturbed_scx : (c : Change next m calls) (k : ℕ) → c.start < k → UndisturbedScx c k
        → Going next m calls c.start c.task k ↔ own c.start c.task k < c.n + size c.closing + 3
    pub answers_yes : (c : Change next m calls) (k : ℕ) → UndisturbedScx c k → Going next m calls c.start c.task k
        → place next m calls (suc k) c.task ≡ Idle → said next m calls k ≡ Yes
    -- "an undisturbed LLX on an open record nobody holds takes 9", and answers the snapshot
    pub undisturbed_llx : (s t r k : ℕ) → Starts next m calls s t (AskLlx r) → s < k → UndisturbedLlx s t r k → Going next m calls s t k ↔ own s t k < 9
    pub answers_snapshot : (s t r k : ℕ) → Starts next m calls s t (AskLlx r) → UndisturbedLlx s t r k → Going next m calls s t k
        → place next m calls (suc k) t ≡ Idle → (cells : List Cell) × (said next m calls k ≡ Snapshot cells)
