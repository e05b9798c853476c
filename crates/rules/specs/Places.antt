-- THE PLACES, document 01's list of them: at each one the operation that the task is in, "Each STEP makes one" shared access, and "Local
-- work rides on it". A shared word is a mark, an info, a cell, a change's state or its allFrozen. What a change wrote down when it started
-- is fixed, so to look at it is no access.
use Rattle.std.specs.Prelude.{ℕ, ◌+◌, Bool, true, false, Option, Some, None, List, get_or}
use Rattle.rules.specs.Words.{Change, After, Own, AtL8, AtL11, Operation, InLlx, InScx, InVlx, InRead, Seen, TaskIdle, Value, Refused}
use Rattle.rules.specs.Words.{Place, Idle, L1, L2, L3, L4, L5, L6, L7, L8, L9, L10, L11, H1, H2, H3, H4, H5, H6, H7, H8, Vlx, Read}
use Rattle.rules.specs.Words.{Move, On, Keep, Done}
use Rattle.rules.specs.Words.{Access, Nothing, ReadMark, ReadInfo, ReadCell, ReadState, ReadFrozen, Hold, Close, Write, Freeze, Abort, Commit}
use Rattle.rules.specs.Resume.{verdict, after_l4, after_l5, after_l6, after_l7, after_l8, after_l10, after_l11}
use Rattle.rules.specs.Resume.{after_h1, after_h2, after_h3, first_from, at_mark, after_vlx}

-- what a place is: whether it is the idle one, and the operation, if any; the change that it names, 0 where it names none; the access, by what
-- that change wrote down and by the task's list; where the step leads, by what was seen, by the change, and by the info of the task's link
-- to the record read
pub record Meaning : Type 0 where
  pub idle : Bool
  pub operation : Option Operation
  pub change : ℕ
  pub access : Change → List ℕ → Access
  pub rides : Seen → Change → ℕ → Move

-- a place of an LLX
abbrev pub in_llx : ℕ → Access → (Seen → Move) → Meaning
in_llx a access rides = record { idle = false; operation = Some InLlx; change = a; access = λ ch l. access; rides = λ s ch linked. rides s }

-- a place of who helps: its own change, then it is in an SCX, or another's from L8 or L11, then in an LLX
abbrev pub helping_of : After → Operation
helping_of Own = InScx
helping_of (AtL8 r m1) = InLlx
helping_of AtL11 = InLlx

abbrev pub helps : ℕ → After → (Change → Access) → (Seen → Change → Move) → Meaning
helps u after access rides =
    record { idle = false; operation = Some (helping_of after); change = u; access = λ ch l. access ch; rides = λ s ch linked. rides s ch }

abbrev pub meaning : Place → Meaning
meaning Idle =
    record { idle = true; operation = None; change = 0; access = λ ch l. Nothing; rides = λ s ch linked. Done (Refused TaskIdle) }
-- L1 read mark. L2 read info. L3 read state of a. L4 read mark
meaning (L1 r) = in_llx 0 (ReadMark r) (λ s. On (L2 r s.bit))
meaning (L2 r m1) = in_llx 0 (ReadInfo r) (λ s. On (L3 r m1 s.number))
meaning (L3 r m1 a) = in_llx a (ReadState a) (λ s. On (L4 r m1 a s.state))
meaning (L4 r m1 a state) = in_llx a (ReadMark r) (λ s. On (after_l4 r m1 a state s.bit))
-- L5 read cells 0, 1, 2, 3, one a step. L6 read info
meaning (L5 r m1 a f) = in_llx a (ReadCell r f) (λ s. Keep (after_l5 r m1 a f) f)
meaning (L6 r m1 a) = in_llx a (ReadInfo r) (λ s. after_l6 r m1 a s.number)
-- L7 read state of a. L8 read it again
meaning (L7 r m1 a) = in_llx a (ReadState a) (λ s. after_l7 r m1 a s.state)
meaning (L8 r m1 a) = in_llx a (ReadState a) (λ s. On (after_l8 r m1 a s.state))
-- L9 read info. L10 read state of b. L11 read info
meaning (L9 r) = in_llx 0 (ReadInfo r) (λ s. On (L10 r s.number))
meaning (L10 r b) = in_llx b (ReadState b) (λ s. after_l10 r s.state)
meaning (L11 r) = in_llx 0 (ReadInfo r) (λ s. after_l11 s.number)
-- H1 if info of that record equals the stored info, set it to U. H2 read info
meaning (H1 u i after) =
    helps u after (λ ch. Hold (get_or ch.v i 0) (get_or ch.infos i 0) u) (λ s ch. On (after_h1 u i ch.n after s.bit))
meaning (H2 u i after) = helps u after (λ ch. ReadInfo (get_or ch.v i 0)) (λ s ch. On (after_h2 u i ch.n after s.number))
-- H3 read allFrozen. H4 set Aborted
meaning (H3 u after) = helps u after (λ ch. ReadFrozen u) (λ s ch. after_h3 u after s.bit)
meaning (H4 u after) = helps u after (λ ch. Abort u) (λ s ch. verdict false after)
-- H5 set allFrozen. H6 mark a record of R
meaning (H5 u after) = helps u after (λ ch. Freeze u) (λ s ch. On (at_mark u (first_from ch.r 0) after))
meaning (H6 u i after) = helps u after (λ ch. Close (get_or ch.v i 0)) (λ s ch. On (at_mark u (first_from ch.r (i + 1)) after))
-- H7 if the cell equals the old cell, set it to the new value with stamp U. H8 set Committed
meaning (H7 u after) =
    helps u after (λ ch. Write (get_or ch.v ch.written 0) ch.field ch.old (record { value = ch.new; stamp = u })) (λ s ch. On (H8 u after))
meaning (H8 u after) = helps u after (λ ch. Commit u) (λ s ch. verdict true after)
-- VLX: one read of info for each record in order. READ: one read of one cell
meaning (Vlx n i) =
    record { idle = false; operation = Some InVlx; change = 0; access = λ ch l. ReadInfo (get_or l i 0); rides = λ s ch k. after_vlx n i s.number k }
meaning (Read r f) =
    record { idle = false; operation = Some InRead; change = 0; access = λ ch l. ReadCell r f; rides = λ s ch linked. Done (Value s.cell) }

abbrev pub is_idle : Place → Bool
is_idle q = (meaning q).idle

abbrev pub operation_of : Place → Option Operation
operation_of q = (meaning q).operation

abbrev pub change_of : Place → ℕ
change_of q = (meaning q).change

abbrev pub access_of : Place → Change → List ℕ → Access
access_of q = (meaning q).access

abbrev pub resume : Place → Seen → Change → ℕ → Move
resume q = (meaning q).rides
