-- THEOREM. What lies outside a call's reach (specs/Reach) it leaves alone: other pools' balances, unpaid sums, stake and offer rows;
-- in the same pool the rows of other accounts by a stake or a withdrawal, and of other offers by a reservation or a claim; all
-- offers by calls that neither reserve nor claim; the settings by every call that moves money.
use mathlib.Core.Path.{◌≡◌}
use mathlib.Core.Bool.{true}
use Rattle.rules.specs.Books.{Books}
use Rattle.rules.specs.Answers.{enact}
use Rattle.rules.specs.Step.{step}
use Rattle.rules.specs.Formed.{well_formed}
use Rattle.rules.proofs.Decided.{formed-read}
use Rattle.rules.proofs.Shapes.{step-cases}
use Rattle.promises.specs.Calls.{Call}
use Rattle.promises.specs.Reach.{reach_of, Alone}
use Rattle.promises.proofs.Reached.{same, plan-alone}

pub leaves-alone : (b : Books) → well_formed b ≡ true → (c : Call) → Alone (reach_of c.operation) b (step b c).books
unfolding step
leaves-alone b e c =
    let o = c.operation in
    step-cases b c (λ p. Alone (reach_of o) b (enact b p).books) (λ k. same (reach_of o) b) (λ s. plan-alone b (formed-read b e) c.now c.signer o s.fields)
