-- Where each figure lies in the lent words: widths of rows, and the place of each word. Code has the same names in src/layout.rt.
use Rattle.std.specs.Prelude.{List, [], ◌∷◌, ℕ}
-- a row of either table begins with its key: the pool, then the number of an account or an offer
pub use Rattle.rows.specs.Rows.{pool_word, number_word}
pub use Rattle.rules.specs.Limits.{pools}

-- a stake row: pool, account, stake (signed), since, accrual
abbrev pub stake_width : ℕ
stake_width = 5

-- an offer row: pool, offer, reserved, paid
abbrev pub offer_width : ℕ
offer_width = 4

abbrev pub stake_word : ℕ
stake_word = 2

abbrev pub since_word : ℕ
since_word = 3

abbrev pub accrual_word : ℕ
accrual_word = 4

abbrev pub reserved_word : ℕ
reserved_word = 2

abbrev pub paid_word : ℕ
paid_word = 3

-- the books: a balance (signed) and an unpaid sum for each of the four pools, then admin, payout caller, paused, rate

-- a figure of each pool, in order
abbrev pub each_pool : {A : Type 0} → (ℕ → A) → List A
each_pool figure = figure 0 ∷ figure 1 ∷ figure 2 ∷ figure 3 ∷ []

abbrev pub books_words : ℕ
books_words = 12

abbrev pub balance_words : ℕ
balance_words = 0

abbrev pub unpaid_words : ℕ
unpaid_words = 4

abbrev pub admin_word : ℕ
admin_word = 8

abbrev pub caller_word : ℕ
caller_word = 9

abbrev pub paused_word : ℕ
paused_word = 10

abbrev pub rate_word : ℕ
rate_word = 11
