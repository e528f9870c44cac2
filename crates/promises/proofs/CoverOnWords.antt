-- THEOREM (demand 3, second and third sentence, on words). Whatever words were lent for a fresh set: if at some moment of a history from
-- it the books that the words hold have a pool whose balance covers its unpaid reservations, and from then on no direct payout and no
-- withdrawal there takes effect, then a well-formed claim of 1 to 10^15, while not paused, by the payout caller, on an offer with cover
-- left, answers that the lesser of the claim and the cover is paid, with that one transfer to the lender, and leaves the words of the books
-- after it; its only refusal is OverLimit, where a stake would fall below −10^15, and it leaves every bit.
use mathlib.Core.Path.{◌≡◌, sym, ◌∙◌, subst}
use mathlib.Core.Bool.{true}
use mathlib.Core.List.{List, [], ◌∷◌}
use Prim.Native.Nat.{ℕ, min}
use Rattle.rules.specs.Books.{Books}
use Rattle.rules.specs.Payouts.{cover_of}
use Rattle.books.specs.Words.{Tables, books_of, good_tables, step_words}
use Rattle.books.specs.Fresh.{fresh_words}
use Rattle.books.specs.Runs.{run_words}
use Rattle.books.proofs.Carried.{step-carried}
use Rattle.books.proofs.Good.{good-formed}
use Rattle.promises.specs.Calls.{Account, ClaimCall, Call}
use Rattle.promises.specs.Claims.{Covered, Quiet, claim_by, Claiming}
use Rattle.promises.specs.OnWords.{QuietOnWords, PaidOrOverOnWords}
use Rattle.promises.proofs.Words.{words-follow, histories-on-words}
use Rattle.promises.proofs.Covering.{run-covered}
use Rattle.promises.proofs.Claimed.{claim-step-on-words}

quiet-held : (pool : ℕ) (t : Tables) → good_tables t ≡ true → (calls : List Call) → QuietOnWords pool t calls → Quiet pool (books_of t) calls
quiet-held pool t g [] q = tt
quiet-held pool t g (c ∷ calls) q =
    let k = step-carried t g c in
    (λ e. sym k.books ∙ q.0 e, subst (λ (b : Books). Quiet pool b calls) k.books (quiet-held pool (step_words t c).tables k.good calls q.1))

pub cover-pays-on-words : (t : Tables) (admin : Account) → (fresh_words t admin).code ≡ 0 → (before after : List Call) (now : ℕ) (signer : Account) (c : ClaimCall) (n : ℕ)
    → (let moment = run_words (fresh_words t admin).tables before in let end = run_words moment after in
    Covered (books_of moment) c.pool → QuietOnWords c.pool moment after → Claiming (books_of end) now signer c n
    → PaidOrOverOnWords end c (min n (cover_of (books_of end) c)) (step_words end (claim_by now signer c)))
cover-pays-on-words t admin e before after now signer c n covered quiet h =
    let moment = run_words (fresh_words t admin).tables before in
    let g = (histories-on-words t admin e before).good in
    let f = words-follow moment g after in
    claim-step-on-words now signer c n (run_words moment after) f.good (rw f.books (run-covered c.pool (books_of moment) after (good-formed moment g) (quiet-held c.pool moment g after quiet) covered)) h
