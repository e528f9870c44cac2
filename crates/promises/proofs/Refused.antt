-- THEOREM (demand 1, last sentence, on books). A refused call answers two zeros and no transfer beside its code, and the books stay as they
-- were.
use mathlib.Core.Path.{◌≡◌}
use Rattle.rules.specs.Books.{Books}
use Rattle.rules.specs.Step.{step}
use Rattle.rules.specs.Refusals.{NothingMoved}
use Rattle.rules.proofs.Refusals.{refused-moves-nothing}
use Rattle.promises.specs.Calls.{Call}

pub refused-changes-nothing : (b : Books) (c : Call) → ((step b c).answer.code ≡ 0 → ⊥) → NothingMoved b (step b c)
refused-changes-nothing b c = refused-moves-nothing b c
