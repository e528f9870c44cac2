-- THEOREMS of the words that the engine is lent. A refused call leaves every bit, whatever the words. From a fresh set, over any calls, the words
-- stay good, hold the books of the same calls by the rules, and give the same answers: so what is promised of histories holds of the words.
use mathlib.Core.Path.{◌≡◌, refl, ap, ap₂, ◌∙◌, subst}
use mathlib.Core.Bool.{Bool, true, false, cond}
use mathlib.Core.List.{List, [], ◌∷◌}
use Rattle.rules.specs.Books.{Books, fresh}
use Rattle.rules.specs.Answers.{Plan, refused, does, refusal, Malformed, BadTables}
use Rattle.rules.specs.Step.{malformed, plan_of}
use Rattle.books.specs.Words.{Tables, books_of, words_of, good_tables, result_of, acted, step_words}
use Rattle.books.specs.Fresh.{rooms_of, fresh_words}
use Rattle.books.specs.Runs.{run_words}
use Rattle.books.proofs.Carried.{step-carried}
use Rattle.books.proofs.Good.{words_back, words-good}
use Rattle.promises.specs.Calls.{Account, Call, Answer}
use Rattle.promises.specs.Histories.{run, answers_of}
use Rattle.promises.specs.OnWords.{answers_on_words, Follows}
use Rattle.promises.proofs.Along.{fresh_set, fresh-formed}

-- "A refused call answers its code, two zeros and no transfer, and the tables keep every bit"
pub refused-keeps-every-bit : (t : Tables) (c : Call) → ((step_words t c).answer.code ≡ 0 → ⊥) → step_words t c ≡ result_of (refusal (step_words t c).answer.code) t
unfolding step_words
refused-keeps-every-bit t c n = go (malformed c) (good_tables t) (plan_of (books_of t) c.now c.signer c.operation) n
  where
    go : (m g : Bool) (p : Plan) → ((cond m (result_of (refusal Malformed) t) (cond g (acted t p) (result_of (refusal BadTables) t))).answer.code ≡ 0 → ⊥) → cond m (result_of (refusal Malformed) t) (cond g (acted t p) (result_of (refusal BadTables) t)) ≡ result_of (refusal (cond m (result_of (refusal Malformed) t) (cond g (acted t p) (result_of (refusal BadTables) t))).answer.code) t
    go true g p n = refl
    go false false p n = refl
    go false true (refused k) n = refl
    go false true (does first second one two after) n = absurd (n refl)

-- calls on good words: they stay good, hold the books of the same calls, and answer as these do
pub words-follow : (t : Tables) → good_tables t ≡ true → (calls : List Call) → Follows t (books_of t) calls
unfolding run run_words answers_of answers_on_words
words-follow t g [] = record { good = g; books = refl; answers = refl }
words-follow t g (c ∷ calls) =
    let k = step-carried t g c in
    let h = words-follow (step_words t c).tables k.good calls in
    record {
      good = h.good;
      books = h.books ∙ ap (λ b. run b calls) k.books;
      answers = ap₂ {C = List Answer} (λ (a : Answer) (l : List Answer). a ∷ l) k.answer (h.answers ∙ ap (λ b. answers_of b calls) k.books);
    }

-- and so do they from a fresh set that is not refused, whatever words were lent
pub histories-on-words : (t : Tables) (admin : Account) → (fresh_words t admin).code ≡ 0 → (calls : List Call) → Follows (fresh_words t admin).tables (fresh admin (rooms_of t)) calls
histories-on-words t admin e calls =
    let o = fresh_set t admin e in
    let w = fresh-formed admin (rooms_of t) o.code in
    let b = fresh admin (rooms_of t) in
    rw o.tables (subst (λ (x : Books). Follows (words_of b) x calls) (words_back b w) (words-follow (words_of b) (words-good b w) calls))
