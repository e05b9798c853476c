-- DEMAND 3. "Take any calls from a fresh table, tasks stopping anywhere": a run is a table and a call for each number, answered one
-- after the other by `next`. A task that stops is one that is called no more; a run that ends is one whose further calls are refused.
-- Below are the events of a run of any machine, then the demand, each of its sentences above the fields that render it. The theorem is
-- `every_order` in proofs/Every.antt: Demand3 next (the fresh table) calls, for all calls.
use Rattle.std.specs.Prelude.{ℕ, zero, suc, ◌/◌, ◌%◌, ◌^◌, ◌≤◌, ◌<◌, ◌≡◌, ◌⊎◌, ◌≢◌, Bool, true, false, List, get_or}
use Rattle.rules.specs.Words.{Cell, After, Own, AtL8, AtL11, Place, Idle, L9, H1, H2, H3, H4, H5, H6, H7, H8, Machine, Out}
use Rattle.rules.specs.Words.{Ask, Call, AskLlx, AskScx, AskStep, Refusal, Answer, Accepted, Snapshot, Finalized, Fail, Yes, No, Refused}
use Rattle.table.specs.Table.{cell_at, record_at, change_at, task_at, link_at}

-- "H3 .. yes gives verdict yes", "H4 .. verdict no", "H8 .. verdict yes": the verdict on u that a step from a place brings
pub data Brings (u : ℕ) (after : After) (frozen : Bool) : Place → Bool → Type 0 where
  at_h3 : frozen ≡ true → Brings u after frozen (H3 u after) true
  at_h4 : Brings u after frozen (H4 u after) false
  at_h8 : Brings u after frozen (H8 u after) true

-- the places of a task that works on the change u, its own or another's
pub data Works (u : ℕ) (after : After) : Place → Type 0 where
  h1 : {i : ℕ} → Works u after (H1 u i after)
  h2 : {i : ℕ} → Works u after (H2 u i after)
  h3 : Works u after (H3 u after)
  h4 : Works u after (H4 u after)
  h5 : Works u after (H5 u after)
  h6 : {i : ℕ} → Works u after (H6 u i after)
  h7 : Works u after (H7 u after)
  h8 : Works u after (H8 u after)

-- what a verdict is to who brings it: the SCX's own answer; "yes with m1 answers Finalized, otherwise L9"; "then Fail". Said here and
-- not taken from the rules, so that rules which answer otherwise fail the demand
abbrev pub leads : After → Bool → Place
leads Own b = Idle
leads (AtL8 r true) true = Idle
leads (AtL8 r true) false = L9 r
leads (AtL8 r false) b = L9 r
leads AtL11 b = Idle

abbrev pub answers : After → Bool → Answer
answers Own true = Yes
answers Own false = No
answers (AtL8 r true) true = Finalized
answers (AtL8 r true) false = Accepted
answers (AtL8 r false) b = Accepted
answers AtL11 b = Fail

-- A RUN of a machine: from the table m, calls 0, 1, 2, ..
module _ (next : Machine → Call → Out) (m : Machine) (calls : ℕ → Call) where
  -- the table before call k, what the call answers, and the words that the demand speaks of
  unfoldable pub before : ℕ → Machine
  before zero = m
  before (suc k) = (next (before k) (calls k)).m

  abbrev pub said : ℕ → Answer
  said k = (next (before k) (calls k)).answer

  abbrev pub place : ℕ → ℕ → Place
  place k t = (task_at (before k) t).place

  abbrev pub cell : ℕ → ℕ → ℕ → Cell
  cell k r f = cell_at (record_at (before k) r).cells f

  abbrev pub mark : ℕ → ℕ → Bool
  mark k r = (record_at (before k) r).mark

  abbrev pub info : ℕ → ℕ → ℕ
  info k r = (record_at (before k) r).info

  -- call k is a STEP of task t that is not refused
  pub record Steps (k t : ℕ) : Type 0 where
    pub step : (calls k).ask ≡ AskStep
    pub by : (calls k).task ≡ t
    pub not_refused : (why : Refusal) → said k ≢ Refused why

  -- call s asks this for task t and is accepted; unless it is a STEP, an operation starts
  pub record Starts (s t : ℕ) (ask : Ask) : Type 0 where
    pub list : List ℕ
    pub asks : calls s ≡ record { task = t; ask = ask; list = list }
    pub accepted : said s ≡ Accepted

  -- t has been busy since call s: the operation that it started there is in progress before call k
  pub record Going (s t k : ℕ) : Type 0 where
    pub later : s < k
    pub busy : (j : ℕ) → s < j → j ≤ k → place j t ≢ Idle

  -- A CHANGE: an accepted start of an SCX, with what it asks for and the number that it takes
  pub record Change : Type 0 where
    pub start : ℕ
    pub task : ℕ
    pub n : ℕ
    pub list : List ℕ
    pub closing : ℕ
    pub written : ℕ
    pub field : ℕ
    pub new : ℕ
    pub number : ℕ
    pub asks : calls start ≡ record { task = task; ask = AskScx n closing written field new; list = list }
    pub accepted : said start ≡ Accepted
    pub takes : place (suc start) task ≡ H1 number 0 Own

  -- the records it names, the one it writes, those it closes: the places whose bits are set
  abbrev pub named : Change → ℕ → ℕ
  named c i = get_or c.list i 0

  abbrev pub Names : Change → ℕ → Type 0
  Names c r = (i : ℕ) × (i < c.n) × (named c i ≡ r)

  abbrev pub spot : Change → ℕ
  spot c = named c c.written

  abbrev pub Closes : Change → ℕ → Type 0
  Closes c r = (i : ℕ) × (i < c.n) × (c.closing / 2 ^ i % 2 ≡ 1) × (named c i ≡ r)

  -- call k comes after the start of c and no other start took its number between; in the base none ever does
  -- (`given_once` in proofs/Given.antt)
  pub record During (c : Change) (k : ℕ) : Type 0 where
    pub later : c.start < k
    pub alone : (d : Change) → c.start < d.start → d.start < k → d.number ≢ c.number

  -- AN EFFECT of c: call k is the H7 of a task that works on c, and the cell that c names alters
  pub record Effect (c : Change) (k : ℕ) : Type 0 where
    pub during : During c k
    pub by : ℕ
    pub after : After
    pub steps : Steps k by
    pub at_h7 : place k by ≡ H7 c.number after
    pub alters : cell (suc k) (spot c) c.field ≢ cell k (spot c) c.field

  -- call k ends an LLX of r by t with a snapshot, and tells what r holds
  pub record Snap (k t r : ℕ) : Type 0 where
    pub start : ℕ
    pub starts : Starts start t (AskLlx r)
    pub going : Going start t k
    pub steps : Steps k t
    pub cells : List Cell
    pub answer : said k ≡ Snapshot cells
    pub tells : (f : ℕ) → f < 4 → cell_at cells f ≡ cell k r f

  -- THE LINKED READ of r for c ended at e: the task's last snapshot of r before the start, whose link stands until then
  pub record LinkedRead (c : Change) (r e : ℕ) : Type 0 where
    pub before_start : e < c.start
    pub ends : Snap e c.task r
    pub last : (j : ℕ) → e < j → j < c.start → Snap j c.task r → ⊥
    pub there : (link_at (before (suc e)) c.task r).there ≡ true
    pub stands : (j : ℕ) → e < j → j ≤ c.start → link_at (before j) c.task r ≡ link_at (before (suc e)) c.task r

  -- A VERDICT on c: call k ends some task's work on c, its owner's or a helper's, with yes or no
  pub record Verdict (c : Change) (k : ℕ) (yes : Bool) : Type 0 where
    pub during : During c k
    pub by : ℕ
    pub after : After
    pub steps : Steps k by
    pub brings : Brings c.number after (change_at (before k) c.number).frozen (place k by) yes
    pub ends : (place (suc k) by ≡ leads after yes) × (said k ≡ answers after yes)

  -- TAKING HOLD: call k is the H1 of a task that works on c, and by it the info of r becomes c's number, which it was not; nobody has
  -- finished work on c
  pub record Holds (c : Change) (k r : ℕ) : Type 0 where
    pub during : During c k
    pub by : ℕ
    pub after : After
    pub i : ℕ
    pub steps : Steps k by
    pub at_h1 : place k by ≡ H1 c.number i after
    pub names : (i < c.n) × (named c i ≡ r)
    pub takes : info (suc k) r ≡ c.number
    pub alters : info k r ≢ c.number
    pub unfinished : (j : ℕ) (yes : Bool) → j < k → Verdict c j yes → ⊥

  -- no cell of r alters in call k
  abbrev pub Still : ℕ → ℕ → Type 0
  Still k r = (f : ℕ) → cell (suc k) r f ≡ cell k r f

  pub record Demand3 : Type 0 where
    -- every call is refused, starts an operation of an idle task, or is a STEP of a busy one
    pub is_a_turn : (k : ℕ) → ((why : Refusal) × (said k ≡ Refused why))
        ⊎ ((((calls k).ask ≢ AskStep) × (said k ≡ Accepted) × (place k (calls k).task ≡ Idle))
        ⊎ (((calls k).ask ≡ AskStep) × (place k (calls k).task ≢ Idle)))
    -- every SCX is refused or is a change
    pub is_a_change : (k n closing written field new : ℕ) → (calls k).ask ≡ AskScx n closing written field new
        → ((why : Refusal) × (said k ≡ Refused why)) ⊎ ((c : Change) × (c.start ≡ k))
    -- every snapshot ends an LLX
    pub is_a_read : (k : ℕ) (cells : List Cell) → said k ≡ Snapshot cells → (r : ℕ) × Snap k (calls k).task r
    -- "A change that takes effect alters its one field exactly once": one effect at most, to the new value with the change's number
    pub once : (c : Change) (j k : ℕ) → Effect c j → Effect c k → j ≡ k
    pub alters_its_field : (c : Change) (k : ℕ) → Effect c k → cell (suc k) (spot c) c.field ≡ record { value = c.new; stamp = c.number }
    -- "From the end of each linked read to that moment, no field of a record it named altered and no other change naming that record
    -- took effect."
    pub untouched : (c : Change) (k : ℕ) → Effect c k → (i : ℕ) → i < c.n
        → (e : ℕ) × LinkedRead c (named c i) e
        × ((j : ℕ) → e < j → j < k → Still j (named c i) × ((d : Change) → Effect d j → Names d (named c i) → ⊥))
    -- "From that moment, records it closes never alter": neither cells nor mark nor info; they are marked, and the change holds them
    pub closed : (c : Change) (k : ℕ) → Effect c k → (r : ℕ) → Closes c r → (j : ℕ) → k < j
        → Still j r × (mark j r ≡ true) × (info j r ≡ c.number)
    -- "A change without effect alters no field": what alters a field of the table is an effect of the change that names it
    pub by_an_effect : (k r f : ℕ) → r < m.n
        → (cell (suc k) r f ≡ cell k r f) ⊎ ((c : Change) × Effect c k × (r ≡ spot c) × (f ≡ c.field))
    -- "All tasks that finish work on one change bring the same verdict"
    pub agree : (c : Change) (j k : ℕ) (a b : Bool) → Verdict c j a → Verdict c k b → a ≡ b
    -- who works on a change goes on, or finishes by a step of its own with a verdict on it ..
    pub finishes : (k t u : ℕ) (after : After) → Works u after (place k t)
        → (Works u after (place (suc k) t) × (Steps k t → said k ≡ Accepted))
        ⊎ (Steps k t × ((c : Change) × (yes : Bool) × (c.number ≡ u) × Verdict c k yes))
    -- .. and always on that one change: no start takes a number that a task works on
    pub not_taken : (c : Change) (t : ℕ) (after : After) → Works c.number after (place c.start t) → ⊥
    -- "yes only after the effect"
    pub yes_after : (c : Change) (k : ℕ) → Verdict c k true → (j : ℕ) × (j < k) × Effect c j
    -- "no only if there never is one"
    pub no_never : (c : Change) (k : ℕ) → Verdict c k false → (j : ℕ) → Effect c j → ⊥
    -- "and another change took hold of a record it named after the linked read"
    pub no_because : (c : Change) (k : ℕ) → Verdict c k false
        → (d : Change) × (i e h : ℕ) × (i < c.n) × LinkedRead c (named c i) e × (e < h) × (h < k) × (d.start ≢ c.start) × Holds d h (named c i)
