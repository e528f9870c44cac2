-- THEOREM (demand 3, last sentence, on words). Whatever words were lent for a fresh set: after a claim or a direct payout, in a history from
-- it, in a pool whose n non-zero stakes are all positive, each of them but the last in row order has lost its exact share rounded down,
-- and the last the rest, which is at most n − 1 more than its own share rounded down. The loss is read off the call's answer, and the
-- stakes off the words before and after it.
use mathlib.Core.Path.{◌≡◌}
use mathlib.Core.Bool.{true}
use mathlib.Core.List.{List, [], ◌∷◌, ◌++◌}
use Prim.Native.Nat.{ℕ, ◌≤◌}
use lib.IntN.{pos}
use lib.Signed.{lt_z}
use Rattle.rules.specs.Table.{each}
use Rattle.rules.specs.Books.{StakeRow}
use Rattle.books.specs.Words.{Tables, books_of, step_words}
use Rattle.books.specs.Fresh.{fresh_words}
use Rattle.books.specs.Runs.{run_words}
use Rattle.books.proofs.Carried.{step-carried}
use Rattle.books.proofs.Good.{good-formed}
use Rattle.promises.specs.Calls.{Account, Call}
use Rattle.promises.specs.Shares.{taken_by, sharing, Fair}
use Rattle.promises.proofs.Words.{histories-on-words}
use Rattle.promises.proofs.Fairly.{step-fair}

pub shared-fairly-on-words : (t : Tables) (admin : Account) → (fresh_words t admin).code ≡ 0 → (calls : List Call) (c : Call) (pool loss : ℕ) (others : List StakeRow) (last : StakeRow)
    → (let w = run_words (fresh_words t admin).tables calls in let b = books_of w in
    taken_by pool c.operation (step_words w c).answer ≡ loss → 1 ≤ loss
    → sharing pool b.stakes ≡ others ++ (last ∷ []) → each (λ r. lt_z (pos 0) r.stake) (sharing pool b.stakes) ≡ true
    → Fair pool loss b (books_of (step_words w c).tables) others last)
shared-fairly-on-words t admin e calls c pool loss others last taken some shares above =
    let w = run_words (fresh_words t admin).tables calls in
    let g = (histories-on-words t admin e calls).good in
    let k = step-carried w g c in
    rw k.books (step-fair (books_of w) (good-formed w g) pool loss others last shares above some c (rw k.answer at taken))
