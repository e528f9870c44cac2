-- A call on good words is the call on the books that they hold, and leaves good words. Its code, on any words, is one of document 01's.
use mathlib.Core.Path.{◌≡◌, refl, subst}
use mathlib.Core.Bool.{Bool, true, false, cond}
use Prim.Native.Nat.{◌≤◌}
use native.Mathlib.Omega.{arith}
use Rattle.rules.specs.Books.{Books}
use Rattle.rules.specs.Answers.{Answer}
use Rattle.rules.specs.declared.Call.{Call}
use Rattle.rules.specs.Answers.{Plan, refused, does, ◌refuses◌else◌, enact, refusal, Malformed, BadTables}
use Rattle.rules.specs.Step.{malformed, plan_of, step}
use Rattle.rules.specs.inner.Facts.{WellFormed}
use Rattle.rules.proofs.Kept.{step-formed}
use Rattle.rules.proofs.CodeRange.{step-coded}
use Rattle.books.specs.Words.{Tables, Result, books_of, good_tables, result_of, acted, step_words}
use Rattle.books.proofs.Good.{good-formed, words_back, words-good}

-- a result on words is an answer, with words that are good and hold the books b
pub record Carries (r : Result) (a : Answer) (b : Books) : Type 0 where
  pub answer : r.answer ≡ a
  pub books : books_of r.tables ≡ b
  pub good : good_tables r.tables ≡ true

module _ (t : Tables) (g : good_tables t ≡ true) where
  plan-carried : (p : Plan) → WellFormed (enact (books_of t) p).books → Carries (acted t p) (enact (books_of t) p).answer (enact (books_of t) p).books
  plan-carried (refused k) w = record { answer = refl; books = refl; good = g }
  plan-carried (does first second one two after) w = record { answer = refl; books = words_back after w; good = words-good after w }

  tests-carried : (m : Bool) (p : Plan) → WellFormed (enact (books_of t) (m refuses Malformed else p)).books → Carries (cond m (result_of (refusal Malformed) t) (cond (good_tables t) (acted t p) (result_of (refusal BadTables) t))) (enact (books_of t) (m refuses Malformed else p)).answer (enact (books_of t) (m refuses Malformed else p)).books
  tests-carried true p w = record { answer = refl; books = refl; good = g }
  tests-carried false p w = rw g (plan-carried p w)

  pub step-carried : (c : Call) → Carries (step_words t c) (step (books_of t) c).answer (step (books_of t) c).books
  unfolding step_words step
  step-carried c = tests-carried (malformed c) (plan_of (books_of t) c.now c.signer c.operation) (step-formed (books_of t) c (good-formed t g))

-- every answer's code, whatever the words
pub words-coded : (t : Tables) (c : Call) → (step_words t c).answer.code ≤ 11
unfolding step_words step
words-coded t c = go (malformed c) (good_tables t) refl refl
  where
    go : (m g : Bool) → malformed c ≡ m → good_tables t ≡ g → (cond m (result_of (refusal Malformed) t) (cond g (acted t (plan_of (books_of t) c.now c.signer c.operation)) (result_of (refusal BadTables) t))).answer.code ≤ 11
    go true g e f = omega arith
    go false false e f = omega arith
    go false true e f = acted-coded (plan_of (books_of t) c.now c.signer c.operation) (subst (λ (m : Bool). (enact (books_of t) (m refuses Malformed else plan_of (books_of t) c.now c.signer c.operation)).answer.code ≤ 11) e (step-coded (books_of t) c))
      where
        acted-coded : (p : Plan) → (enact (books_of t) p).answer.code ≤ 11 → (acted t p).answer.code ≤ 11
        acted-coded (refused k) h = h
        acted-coded (does first second one two after) h = h
