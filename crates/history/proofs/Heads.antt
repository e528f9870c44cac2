-- The tables that a head begins are good.
use mathlib.Core.Path.{◌≡◌, refl, sym}
use mathlib.Core.Bool.{Bool, true, false, cond, true≢false}
use mathlib.Core.List.{List}
use Rattle.std.specs.Prelude.{Option, Some, None, Result, Ok, Err}
use Rattle.std.specs.Result.{is_ok}
use Prim.Native.Nat.{ℕ, ◌≤◌}
use native.Mathlib.Omega.{arith}
use Rattle.rules.specs.Limits.{is_number}
use Rattle.rules.specs.declared.Account.{Account}
use Rattle.rules.specs.declared.refusal.Refusal.{Refusal}
use Rattle.rules.specs.declared.refusal.Refusal.TheVariants as reason
use Rattle.rules.specs.Answers.{Malformed, BadTables, code_of, told_code}
use Rattle.rules.specs.Books.{fresh}
use Rattle.rules.proofs.Tests.{number_read}
use Rattle.books.specs.Words.{Tables, words_of, good_tables}
use Rattle.books.specs.Fresh.{rooms_of, lent, renewed, fresh_words}
use Rattle.books.proofs.Opened.{fresh-good}
use Rattle.log_file.specs.Opening.{head_of}
use Rattle.history.specs.Beginning.{opened_by, opened}

fresh-done : (t : Tables) (admin : Account) → lent t ≡ true → (fresh_words t admin).code ≡ 0 → good_tables (fresh_words t admin).tables ≡ true
unfolding fresh_words
fresh-done t admin l done = rw l (go (is_number admin.0) refl (rw l at done))
  where
    go : (n : Bool) → is_number admin.0 ≡ n → (cond n (renewed 0 (words_of (fresh admin (rooms_of t)))) (renewed Malformed t)).code ≡ 0
        → good_tables (cond n (renewed 0 (words_of (fresh admin (rooms_of t)))) (renewed Malformed t)).tables ≡ true
    go true e done = fresh-good t admin (number_read admin.0 e) l
    go false e done = absurd (omega (arith, done))

pub opened-good : (t : Tables) (head : List ℕ) → lent t ≡ true → (opened t head).code ≡ 0 → good_tables (opened t head).tables ≡ true
unfolding opened
opened-good t head l done = go (head_of head) done
  where
    go : (h : Option Account) → (opened_by t h).code ≡ 0 → good_tables (opened_by t h).tables ≡ true
    go (Some admin) done = fresh-done t admin l done
    go None done = absurd (omega (arith, done))

-- ---- its code

pub fresh-coded : (t : Tables) (admin : Account) → (fresh_words t admin).code ≤ 2
unfolding fresh_words
fresh-coded t admin = go (is_number admin.0) (lent t)
  where
    go : (n l : Bool) → (cond n (cond l (renewed 0 (words_of (fresh admin (rooms_of t)))) (renewed BadTables t)) (renewed Malformed t)).code ≤ 2
    go true true = omega arith
    go true false = omega arith
    go false l = omega arith

pub opened-coded : (t : Tables) (head : List ℕ) → (opened t head).code ≤ 2
unfolding opened
opened-coded t head = go (head_of head)
  where
    go : (h : Option Account) → (opened_by t h).code ≤ 2
    go (Some admin) = fresh-coded t admin
    go None = omega arith

-- a refusal's code is not 0

refusal-coded : (r : Refusal) → 1 ≤ code_of r
refusal-coded reason.Malformed = omega arith
refusal-coded reason.BadTables = omega arith
refusal-coded reason.Paused = omega arith
refusal-coded reason.NoPayer = omega arith
refusal-coded reason.NotAllowed = omega arith
refusal-coded reason.InvalidInput = omega arith
refusal-coded reason.NoRegistry = omega arith
refusal-coded reason.InvalidTransition = omega arith
refusal-coded reason.InsufficientBalance = omega arith
refusal-coded reason.OverLimit = omega arith
refusal-coded reason.TableFull = omega arith

pub refused-coded : {A : Type 0} (r : Result A Refusal) → is_ok r ≡ false → told_code r ≡ 0 → ⊥
refused-coded (Ok x) h z = true≢false h
refused-coded (Err e) h z = let k = refusal-coded e in omega (arith, z)

pub done-coded : {A : Type 0} (r : Result A Refusal) → is_ok r ≡ true → told_code r ≡ 0
done-coded (Ok x) h = refl
done-coded (Err e) h = absurd (true≢false (sym h))
