-- A call, from the shape's test and the refusal that the turn finds, as the rules say it.
use mathlib.Core.Path.{◌≡◌, refl, sym, ◌∙◌}
use mathlib.Core.Bool.{true, false}
use Rattle.rules.specs.Words.{Machine, Call, OutOfShape, Check}
use Rattle.rules.specs.Shape.{shape, in_shape, InShape}
use Rattle.rules.specs.Refuse.{rules_of}
use Rattle.rules.specs.Next.{refused, answered, next}
use Rattle.rules.proofs.Exact.{told}
use Rattle.exact.proofs.Refusal.{refusal_in, refusal_is}

pub in_shape_lem : (m : Machine) → in_shape m ≡ true → InShape m
unfolding in_shape InShape
in_shape_lem m h = told m.used (shape m) h

-- a state out of shape gets 10
pub out_of_shape : (m : Machine) (e : Call) → in_shape m ≡ false → refused m OutOfShape ≡ next m e
unfolding next rules_of
out_of_shape m e h = rw h refl

-- in shape, the call is what its check from 11 on says
pub by_check : (m : Machine) (e : Call) (c : Check) → in_shape m ≡ true → refusal_in m e ≡ c → answered c m e ≡ next m e
unfolding next rules_of
by_check m e c h f = rw (h, sym (refusal_is m e (in_shape_lem m h)) ∙ f) refl
