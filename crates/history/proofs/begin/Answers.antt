-- `begin` meets its contract, by the head's case.
use mathlib.Core.Path.{refl, sym, ◌∙◌}
use Rattle.history.specs.Beginning.{opened}
use Rattle.history.proofs.begin.Goals as goal

pub returns-in-Some : goal.returns-in-Some
unfolding opened
returns-in-Some c = rw (sym c.read_head.ensures.value ∙ c.in-Some.is) c.fresh.ensures

pub returns-in-None : goal.returns-in-None
unfolding opened
returns-in-None c = rw (sym c.read_head.ensures.value ∙ c.in-None.is) refl
