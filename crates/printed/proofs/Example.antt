-- THE WHOLE EXAMPLE, computed: the text of its 196 bytes is what document 01 prints, byte for byte.
use Prim.Native.Nat.{ℕ}
use mathlib.Core.Path.{◌≡◌, refl}
use mathlib.Core.List.{List, [], ◌∷◌, ◌++◌}
use Rattle.table.specs.Table.{tabulate, same_cell}
use Rattle.table.specs.Fresh.{fresh_records, fresh_machine, fresh}
use Rattle.rules.specs.Perform.{seen, perform}
use Rattle.rules.specs.Step.{drop_first, settle, access_at, move_at, step}
use Rattle.rules.specs.Claim.{both, given, all_below}
use Rattle.rules.specs.Shape.{shape, in_shape}
use Rattle.rules.specs.Start.{start}
use Rattle.rules.specs.Refuse.{linked_at, rules_of}
use Rattle.rules.specs.Next.{refused, started, next}
use Rattle.event.specs.Event.{uses, call_of, event_fine, event_at, events_fine}
use Rattle.sheet.specs.Layout.{layout_of, events_part, values_part, sheet_of, numbers, parts_of}
use Rattle.tally.specs.Count.{counts, tally_of, first_of}
use Rattle.text.specs.Text.{lead, digits, joined}
use Rattle.lines.specs.Lines.{answer_line, record_line, tally_line}
use Rattle.runner.specs.Run.{machine_at, out_at, told_at, event_line, run_text, table_of, text_of}
use Rattle.back.specs.Example.{example_bytes}

-- document 01's seventeen lines
unfoldable pub printed : List ℕ
printed =
    (49 ∷ 32 ∷ 48 ∷ 32 ∷ 48 ∷ 10 ∷ [])
    ++ (50 ∷ 32 ∷ 48 ∷ 32 ∷ 48 ∷ 10 ∷ [])
    ++ (51 ∷ 32 ∷ 48 ∷ 32 ∷ 48 ∷ 10 ∷ [])
    ++ (52 ∷ 32 ∷ 48 ∷ 32 ∷ 48 ∷ 10 ∷ [])
    ++ (53 ∷ 32 ∷ 48 ∷ 32 ∷ 48 ∷ 10 ∷ [])
    ++ (54 ∷ 32 ∷ 48 ∷ 32 ∷ 48 ∷ 10 ∷ [])
    ++ (55 ∷ 32 ∷ 48 ∷ 32 ∷ 48 ∷ 10 ∷ [])
    ++ (56 ∷ 32 ∷ 48 ∷ 32 ∷ 48 ∷ 10 ∷ [])
    ++ (57 ∷ 32 ∷ 48 ∷ 32 ∷ 48 ∷ 10 ∷ [])
    ++ (49 ∷ 48 ∷ 32 ∷ 48 ∷ 32 ∷ 49 ∷ 32 ∷ 53 ∷ 32 ∷ 48 ∷ 32 ∷ 48 ∷ 32 ∷ 48 ∷ 10 ∷ [])
    ++ (49 ∷ 49 ∷ 32 ∷ 48 ∷ 32 ∷ 48 ∷ 10 ∷ [])
    ++ (49 ∷ 50 ∷ 32 ∷ 48 ∷ 32 ∷ 48 ∷ 10 ∷ [])
    ++ (49 ∷ 51 ∷ 32 ∷ 48 ∷ 32 ∷ 48 ∷ 10 ∷ [])
    ++ (49 ∷ 52 ∷ 32 ∷ 48 ∷ 32 ∷ 48 ∷ 10 ∷ [])
    ++ (49 ∷ 53 ∷ 32 ∷ 48 ∷ 32 ∷ 52 ∷ 10 ∷ [])
    ++ (82 ∷ 32 ∷ 48 ∷ 32 ∷ 48 ∷ 32 ∷ 55 ∷ 32 ∷ 48 ∷ 32 ∷ 48 ∷ 32 ∷ 48 ∷ 10 ∷ [])
    ++ (84 ∷ 32 ∷ 49 ∷ 32 ∷ 48 ∷ 32 ∷ 48 ∷ 10 ∷ [])

pub example_printed : text_of example_bytes ≡ printed
unfolding printed tabulate same_cell fresh_records fresh_machine fresh seen perform drop_first settle access_at move_at step both given all_below shape in_shape start linked_at rules_of refused started next uses call_of event_fine event_at events_fine layout_of events_part values_part sheet_of numbers parts_of counts tally_of first_of lead digits joined answer_line record_line tally_line machine_at out_at told_at event_line run_text table_of text_of
example_printed = refl
