-- Request W-204 in one statement: its sentences as laws of any row, and figures on its edges.
use Rattle.std.specs.Prelude.{◌≡◌, [], ◌∷◌, ℕ, suc, ◌*◌, ◌/◌, ℤ, pos, negsuc, ◌-ℤ◌}
use Rattle.rules.specs.Limits.{limit, last_time, year_divisor, balanced}
use Rattle.rules.specs.Terms.{elapsed, bank_accrued_yield, accrued_sum}
use Rattle.rules.specs.Calls.{account_no}
use Rattle.rules.specs.Books.{StakeRow, books}
use Rattle.rules.specs.Answers.{OverLimit}
use Rattle.rules.specs.Queries.{accrued_yield}
use Rattle.rules.specs.Samples.{roomy, summary}

-- code and numbers of the query at `now`, of a row in the Balanced pool, "at 500": any `since`, of a stake of 0 too
abbrev pub shown_at : ℕ → ℤ → ℕ → ℕ → ℕ × ℤ × ℤ
shown_at now stake since banked =
    let row : StakeRow = record { pool = balanced; account = 7; stake = stake; since = since; accrual = banked } in
    summary (accrued_yield (books (row ∷ []) roomy.offers roomy.pools roomy.settings roomy.rooms) now balanced (account_no 7))

pub record AccruedShown : Type 0 where
  -- "The Rust adds the running yield there too, negative and truncated toward zero": of a stake of -(n + 1) the quotient is taken off
  pub below-zero : (rate now since banked n : ℕ) → accrued_sum rate now (negsuc n) since banked ≡ pos banked -ℤ pos (suc n * (rate * elapsed since now) / year_divisor)
  -- "Banking still adds only positive yields": what is shown there is not what a call banks
  pub banks-nothing-below-zero : (rate now since banked n : ℕ) → bank_accrued_yield rate now (negsuc n) since banked ≡ banked
  -- of any other stake it is, as it was before
  pub shows-what-is-banked : (rate now since banked n : ℕ) → accrued_sum rate now (pos n) since banked ≡ pos (bank_accrued_yield rate now (pos n) since banked)
  -- "A zero stake still shows the banked sum alone"
  pub zero-stake-alone : (rate now since banked : ℕ) → accrued_sum rate now (pos 0) since banked ≡ pos banked
  -- a stake of -1,000,000 over 630 s and 631 s, with 0 banked and with 5
  pub a-unit-less : (shown_at 630 (negsuc 999_999) 0 0 ≡ (0, pos 0, pos 0)) × (shown_at 631 (negsuc 999_999) 0 0 ≡ (0, negsuc 0, pos 0))
  pub banked-five : (shown_at 630 (negsuc 999_999) 0 5 ≡ (0, pos 5, pos 0)) × (shown_at 631 (negsuc 999_999) 0 5 ≡ (0, pos 4, pos 0))
  -- `now` before `since`
  pub clock-back : shown_at 400 (negsuc 999_999) 1_000 5 ≡ (0, pos 5, pos 0)
  -- a stake of 0 with its old `since`
  pub old-since : shown_at last_time (pos 0) 400 5 ≡ (0, pos 5, pos 0)
  -- "within plus or minus 10^15, else OverLimit": a stake of -10^15 is shown -10^15 after twenty years, and a second later if that second's yield of
  -- 1,585,489 was banked; with 1 less it is past the limit
  pub least : (shown_at 630_720_000 (negsuc 999_999_999_999_999) 0 0 ≡ (0, negsuc 999_999_999_999_999, pos 0)) × (shown_at 630_720_001 (negsuc 999_999_999_999_999) 0 1_585_489 ≡ (0, negsuc 999_999_999_999_999, pos 0)) × (shown_at 630_720_001 (negsuc 999_999_999_999_999) 0 1_585_488 ≡ (OverLimit, pos 0, pos 0))
  pub most : (shown_at 630_720_000 (pos limit) 0 0 ≡ (0, pos limit, pos 0)) × (shown_at 630_720_000 (pos limit) 0 1 ≡ (OverLimit, pos 0, pos 0))
