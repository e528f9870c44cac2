-- THEOREM. A call on well-formed books leaves well-formed books, and so every history from a fresh set that is not refused is well formed.
use mathlib.Core.Path.{◌≡◌}
use mathlib.Core.Bool.{true}
use mathlib.Core.List.{List}
use Rattle.rules.specs.Books.{Books, Rooms, fresh}
use Rattle.rules.specs.Answers.{fresh_code}
use Rattle.rules.specs.Step.{step}
use Rattle.rules.specs.Formed.{well_formed}
use Rattle.rules.proofs.Decided.{formed-made}
use Rattle.rules.proofs.Kept.{formed-kept}
use Rattle.promises.specs.Calls.{Account, Call}
use Rattle.promises.specs.Histories.{run}
use Rattle.promises.proofs.Along.{fresh-formed, run-formed}

pub stays-well-formed : (b : Books) (c : Call) → well_formed b ≡ true → well_formed (step b c).books ≡ true
stays-well-formed b c = formed-kept b c

pub histories-well-formed : (admin : Account) (rooms : Rooms) → fresh_code admin rooms ≡ 0 → (calls : List Call) → well_formed (run (fresh admin rooms) calls) ≡ true
histories-well-formed admin rooms e calls = formed-made _ (run-formed (fresh admin rooms) calls (fresh-formed admin rooms e))
