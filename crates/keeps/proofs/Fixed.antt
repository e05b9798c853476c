-- What a change wrote down when it started stays: no call alters it, and a number that was given is not given again. So to look at
-- it is no shared access.
use Prim.Native.Nat.{ℕ, ◌+◌, ◌≤◌}
use native.Mathlib.Omega.{arith}
use native.Mathlib.Nat.{le_refl}
use mathlib.Core.Path.{◌≡◌, refl}
use mathlib.Core.List.{List}
use lib.ListN.{get_or, set}
use lib.Seq.{get_or-set_other}
use Rattle.rules.specs.Words.{Change, Machine, Ask, AskLlx, AskScx, AskVlx, AskRead, AskStep, Access, Call, Check, Ok, Err}
use Rattle.keeps.proofs.Stores.{any}
use Rattle.table.specs.Table.{no_change, change_at}
use Rattle.rules.specs.Perform.{change_in, change_by, perform}
use Rattle.rules.specs.Step.{settle, access_at, step}
use Rattle.rules.specs.Start.{filled, start}
use Rattle.rules.specs.Refuse.{check, rules_of}
use Rattle.rules.specs.Next.{refused, started, accepted, answered, next}

-- two changes that wrote down the same
pub record Same (x y : Change) : Type 0 where
  pub n : x.n ≡ y.n
  pub v : x.v ≡ y.v
  pub r : x.r ≡ y.r
  pub written : x.written ≡ y.written
  pub field : x.field ≡ y.field
  pub new : x.new ≡ y.new
  pub old : x.old ≡ y.old
  pub infos : x.infos ≡ y.infos

alike : (x : Change) → Same x x
alike x = record { n = refl; v = refl; r = refl; written = refl; field = refl; new = refl; old = refl; infos = refl }

touched : (a : Access) (x : Change) → Same (change_by a x) x
touched a x = record { n = refl; v = refl; r = refl; written = refl; field = refl; new = refl; old = refl; infos = refl }

-- an access alters a change's state and allFrozen alone
pub by_access : (a : Access) (cs : List Change) (c u : ℕ) → Same (get_or (set cs c (change_by a (get_or cs c no_change))) u no_change) (get_or cs u no_change)
by_access a cs c u =
    any (λ (y : Change). Same y (get_or cs u no_change)) cs c (change_by a (get_or cs c no_change)) no_change u
    (λ e. rw e (touched a (get_or cs c no_change))) (alike (get_or cs u no_change))

by_accepted : (m : Machine) (t : ℕ) (ask : Ask) (l : List ℕ) (u : ℕ) → u ≤ m.used → Same (change_at (accepted m t ask l).m u) (change_at m u)
unfolding started start step settle perform
by_accepted m t (AskLlx r) l u q = alike (change_at m u)
by_accepted m t (AskScx n r written field new) l u q =
    rw (get_or-set_other m.changes (m.used + 1) u (filled m t n l r written field new) no_change (λ e. omega arith)) (alike (change_at m u))
by_accepted m t (AskVlx n) l u q = alike (change_at m u)
by_accepted m t (AskRead r f) l u q = alike (change_at m u)
by_accepted m t AskStep l u q = by_access (access_at m t) m.changes (change_in (access_at m t)) u

-- WRITTEN DOWN FOR GOOD: every number that is used, after any call
pub fixed : (m : Machine) (e : Call) (u : ℕ) → u ≤ m.used → Same (change_at (next m e).m u) (change_at m u)
unfolding next refused
fixed m e u q = go (check (rules_of m e))
  where
    go : (c : Check) → Same (change_at (answered c m e).m u) (change_at m u)
    go (Ok _) = by_accepted m e.task e.ask e.list u q
    go (Err why) = alike (change_at m u)

-- "given in order and never given twice": the used count never falls, and a start takes the number above it
used_accepted : (m : Machine) (t : ℕ) (ask : Ask) (l : List ℕ) → m.used ≤ (accepted m t ask l).m.used
unfolding started start step settle perform
used_accepted m t (AskLlx r) l = le_refl m.used
used_accepted m t (AskScx n r written field new) l = omega arith
used_accepted m t (AskVlx n) l = le_refl m.used
used_accepted m t (AskRead r f) l = le_refl m.used
used_accepted m t AskStep l = le_refl m.used

pub used_rises : (m : Machine) (e : Call) → m.used ≤ (next m e).m.used
unfolding next refused
used_rises m e = go (check (rules_of m e))
  where
    go : (c : Check) → m.used ≤ (answered c m e).m.used
    go (Ok _) = used_accepted m e.task e.ask e.list
    go (Err why) = le_refl m.used
