-- A fresh set that is not refused is well formed, and so is every history from it; on words it is the rules' own.
use mathlib.Core.Path.{◌≡◌, refl}
use mathlib.Core.Bool.{Bool, true, false, cond}
use mathlib.Core.List.{List, [], ◌∷◌}
use Prim.Native.Nat.{ℕ}
use native.Mathlib.Omega.{arith}
use Rattle.rules.specs.Limits.{is_number}
use Rattle.rules.specs.Books.{Books, Rooms, fresh, rooms_lent}
use Rattle.rules.specs.Answers.{fresh_code, Malformed, BadTables}
use Rattle.rules.specs.Step.{step}
use Rattle.rules.proofs.Tests.{number_read}
use Rattle.rules.specs.inner.Facts.{WellFormed}
use Rattle.rules.proofs.Kept.{step-formed}
use Rattle.books.specs.Words.{Tables, words_of}
use Rattle.books.specs.Fresh.{rooms_of, lent, renewed, fresh_words}
use Rattle.books.proofs.Opened as lending
use Rattle.promises.specs.Calls.{Account, Call}
use Rattle.promises.specs.Histories.{run}

pub fresh-formed : (admin : Account) (rooms : Rooms) → fresh_code admin rooms ≡ 0 → WellFormed (fresh admin rooms)
unfolding fresh_code
fresh-formed admin rooms e = go (is_number admin.0) (rooms_lent rooms) refl refl e
  where
    go : (t u : Bool) → is_number admin.0 ≡ t → rooms_lent rooms ≡ u → ◌≡◌ {A = ℕ} (cond t (cond u 0 2) 1) 0 → WellFormed (fresh admin rooms)
    go false u a r e = absurd (omega arith)
    go true false a r e = absurd (omega arith)
    go true true a r e = lending.fresh-formed admin rooms (number_read admin.0 a) r

pub run-formed : (b : Books) (calls : List Call) → WellFormed b → WellFormed (run b calls)
unfolding run
run-formed b [] w = w
run-formed b (c ∷ calls) w = run-formed (step b c).books calls (step-formed b c w)

-- a fresh set on lent words that is not refused
pub record FreshSet (t : Tables) (admin : Account) : Type 0 where
  pub code : fresh_code admin (rooms_of t) ≡ 0
  pub tables : (fresh_words t admin).tables ≡ words_of (fresh admin (rooms_of t))

pub fresh_set : (t : Tables) (admin : Account) → (fresh_words t admin).code ≡ 0 → FreshSet t admin
unfolding fresh_words fresh_code
fresh_set t admin e = go (is_number admin.0) (lent t) refl refl e
  where
    go : (n l : Bool) → is_number admin.0 ≡ n → lent t ≡ l → (cond n (cond l (renewed 0 (words_of (fresh admin (rooms_of t)))) (renewed BadTables t)) (renewed Malformed t)).code ≡ 0 → FreshSet t admin
    go false l a b e = absurd (omega (arith, e))
    go true false a b e = absurd (omega (arith, e))
    go true true a b e = record { code = rw (a, (lending.lent-parts t b).rooms); tables = rw (a, b) }
