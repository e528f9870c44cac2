-- A refused call answers its code, two zeros and no transfer, and leaves the books as they were. A malformed call is refused 1.
use mathlib.Core.Path.{◌≡◌, refl}
use mathlib.Core.Bool.{true}
use Rattle.rules.specs.Books.{Books}
use Rattle.rules.specs.Calls.{Call}
use Rattle.rules.specs.Answers.{Plan, refused, does, outcome, refusal, enact, Malformed, ◌refuses◌else◌}
use Rattle.rules.specs.Refusals.{NothingMoved}
use Rattle.rules.specs.Step.{malformed, plan_of, step}

nothing-enacted : (b : Books) (p : Plan) → ((enact b p).answer.code ≡ 0 → ⊥) → NothingMoved b (enact b p)
nothing-enacted b (refused k) h = record { first = refl; second = refl; one = refl; two = refl; books = refl }
nothing-enacted b (does x y one two after) h = absurd (h refl)

pub refused-moves-nothing : (b : Books) (c : Call) → ((step b c).answer.code ≡ 0 → ⊥) → NothingMoved b (step b c)
unfolding step
refused-moves-nothing b c = nothing-enacted b (malformed c refuses Malformed else plan_of b c.now c.signer c.operation)

-- the same as one equation
enacted : (b : Books) (p : Plan) → ((enact b p).answer.code ≡ 0 → ⊥) → enact b p ≡ outcome (refusal (enact b p).answer.code) b
enacted b (refused k) h = refl
enacted b (does x y one two after) h = absurd (h refl)

pub refused-kept : (b : Books) (c : Call) → ((step b c).answer.code ≡ 0 → ⊥) → step b c ≡ outcome (refusal (step b c).answer.code) b
unfolding step
refused-kept b c = enacted b (malformed c refuses Malformed else plan_of b c.now c.signer c.operation)

pub malformed-first : (b : Books) (c : Call) → malformed c ≡ true → step b c ≡ outcome (refusal Malformed) b
unfolding step
malformed-first b c e = rw e
