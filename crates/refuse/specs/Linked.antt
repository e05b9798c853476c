-- Whether each record that a call names has a link, by the links of its list.
use Rattle.std.specs.Prelude.{Bool, false, List, [], ◌∷◌, get_or}
use Rattle.rules.specs.Words.{Link, Ask}
use Rattle.table.specs.Table.{no_link}
use Rattle.rules.specs.Claim.{all_below}
use Rattle.rules.specs.Refuse.{listed}

abbrev pub theres : List Link → List Bool
theres ls =
    (get_or ls 0 no_link).there ∷ (get_or ls 1 no_link).there ∷ (get_or ls 2 no_link).there ∷ (get_or ls 3 no_link).there ∷ []

abbrev pub linked_by : Ask → List Link → Bool
linked_by ask ls = all_below (listed ask) (λ i. get_or (theres ls) i false)
