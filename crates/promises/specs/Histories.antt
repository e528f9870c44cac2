-- Histories: calls one after the other on a fresh set, their answers, and what these grant and pay an offer.
use Rattle.std.specs.Prelude.{Bool, cond, List, [], ◌∷◌, ℕ, ◌+◌}
use Rattle.whole.specs.Whole.{up}
use Rattle.rules.specs.Books.{Books}
use Rattle.promises.specs.Calls.{Offer, Operation, Call, Answer}
use Rattle.rules.specs.Step.{step}
use Rattle.promises.specs.Reach.{holds}
use Rattle.promises.specs.Roles.{role_of}

-- the books after the calls: "a history of calls begins from" a fresh set
unfoldable pub run : Books → List Call → Books
run b [] = b
run b (c ∷ calls) = run (step b c).books calls

-- and the calls' answers
unfoldable pub answers_of : Books → List Call → List Answer
answers_of b [] = []
answers_of b (c ∷ calls) = (step b c).answer ∷ answers_of (step b c).books calls

-- the first numbers answered to those of the calls that `counts` tells, together
unfoldable pub firsts_of : (Operation → Bool) → List Call → List Answer → ℕ
firsts_of counts [] answers = 0
firsts_of counts (c ∷ calls) [] = 0
firsts_of counts (c ∷ calls) (a ∷ answers) = cond (counts c.operation) (up a.first) 0 + firsts_of counts calls answers

-- what its reservations granted an offer of a pool: one answers "(granted, 0)", and a refused one 0
abbrev pub granted_in : ℕ → Offer → List Call → List Answer → ℕ
granted_in pool offer = firsts_of (λ o. holds (role_of o).grants pool offer.0)

-- what its claims paid the offer: one answers "paid, cover left after", and a refused one 0
abbrev pub paid_in : ℕ → Offer → List Call → List Answer → ℕ
paid_in pool offer = firsts_of (λ o. holds (role_of o).claims pool offer.0)
