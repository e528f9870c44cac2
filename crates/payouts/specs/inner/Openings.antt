-- What pay, reserve and claim begin with: their first tests as one code, and the amount.
use Rattle.std.specs.Prelude.{cond, List, [], ℕ, eqb, ℤ, Result, Ok, Err}
use Rattle.whole.specs.Whole.{up}
use Rattle.rules.specs.Books.{Books}
use Rattle.rules.specs.declared.refusal.Refusal.{Refusal}
use Rattle.rules.specs.declared.Account.{Account}
use Rattle.rules.specs.Answers.{Plan, refused, does, code_of}
use Rattle.rules.specs.Payouts.{as_caller}
use Rattle.books.specs.Words.{tables, books_of}

-- a result, its refusal as a code
abbrev pub coded : {A : Type 0} → Result A Refusal → Result A ℕ
coded (Ok x) = Ok x
coded (Err r) = Err (code_of r)

-- the code that a plan answers
abbrev pub code_in : Plan → ℕ
code_in (refused code) = code
code_in (does first second one two after) = 0

-- the code of the first of the rules' tests (`as_caller`) that refuses, 0 where none does
unfoldable pub caller_code : Books → Account → ℤ → ℕ
caller_code b signer amount = code_in (as_caller b signer amount (refused 0))

-- books of which the settings alone are read
abbrev pub settings_alone : List ℕ → Books
settings_alone words = books_of (tables [] [] words)

-- past the first tests: what follows, or their code
abbrev pub past_tests : {A : Type 0} → Books → Account → ℤ → Result A ℕ → Result A ℕ
past_tests b signer amount next = cond (eqb (caller_code b signer amount) 0) next (Err (caller_code b signer amount))

-- past them the amount, which is above 0
abbrev pub opening : Books → Account → ℤ → Result ℕ ℕ
opening b signer amount = past_tests b signer amount (Ok (up amount))
