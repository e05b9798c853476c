-- `refuse::refusal`: the rules of an SCX do not ask for its new value.
use Rattle.refuse.proofs.refusal.Goals as goal

pub returns-in-Scx : goal.returns-in-Scx
returns-in-Scx c = simp c.in-Scx.is c.scx.ensures
