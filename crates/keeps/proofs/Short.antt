-- Why the changes' length counts: over an array of changes that is too short the store of a new change is none, and the shape is
-- lost. No table of the code is so short, and `fresh` makes none.
use mathlib.Core.Path.{◌≡◌, refl, sym, ◌∙◌}
use mathlib.Core.Bool.{true, false, true≢false}
use mathlib.Core.List.{[], ◌∷◌}
use Rattle.rules.specs.Words.{Machine, Call}
use Rattle.table.specs.Table.{tabulate}
use Rattle.rules.specs.Step.{drop_first}
use Rattle.rules.specs.Claim.{both, given, all_below}
use Rattle.rules.specs.Shape.{shape, in_shape, InShape}
use Rattle.rules.specs.Start.{start}
use Rattle.rules.specs.Refuse.{linked_at, rules_of}
use Rattle.rules.specs.Next.{started, next, scx}
use Rattle.rules.proofs.Exact.{told, passes}

-- one task, one record, no room for a change, and a link
short : Machine
short =
    record {
      p = 1;
      n = 1;
      used = 0;
      records = [];
      changes = [];
      tasks = [];
      links = record { there = true; info = 0; cells = [] } ∷ [];
    }

lost : in_shape (next short (scx 0 1 (0 ∷ []) 0 0 0 0)).m ≡ false
unfolding short tabulate drop_first both given all_below shape in_shape start linked_at rules_of started next
lost = refl

no_kept_test : ((m : Machine) (e : Call) → in_shape m ≡ true → in_shape (next m e).m ≡ true) → ⊥
unfolding short both given all_below shape in_shape
no_kept_test h = true≢false (sym (h short (scx 0 1 (0 ∷ []) 0 0 0 0) refl) ∙ lost)

pub no_kept : ((m : Machine) (e : Call) → InShape m → InShape (next m e).m) → ⊥
unfolding in_shape InShape
no_kept h = no_kept_test (λ m e s. passes (next m e).m.used (shape (next m e).m) (h m e (told m.used (shape m) s)))
