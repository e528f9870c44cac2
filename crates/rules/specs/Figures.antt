-- Document 01's figures on each edge, K1 to K12, as one statement. The proof is by computation.
use Rattle.std.specs.Prelude.{◌≡◌, List, [], ◌∷◌, map, ℕ, ℤ, pos, negsuc}
use Rattle.rules.specs.Limits.{conservative, balanced, aggressive, flat}
use Rattle.rules.specs.Terms.{yield_rate, assess_risk, compute_yield, bank_accrued_yield}
use Rattle.rules.specs.Calls.{Call, account_no}
use Rattle.rules.specs.Books.{StakeRow, stake_at, stake_row}
use Rattle.rules.specs.Sharing.{reductions, shared}
use Rattle.rules.specs.Samples.{at, hire, to_stake, to_pay, to_reserve, to_claim, roomy, books_after, summaries}

-- ---- yields at a pool's own rate, the flat pool's set to 0: "at 200" is the Conservative pool's

-- of a principal over some seconds
abbrev pub earned : ℕ → ℤ → ℕ → ℤ
earned pool principal seconds = compute_yield principal (yield_rate 0 pool) seconds

-- the accrual of a stake of 1,000,000 when it is banked
abbrev pub banked : ℕ → ℕ → ℕ → ℕ → ℕ
banked pool since now accrual = bank_accrued_yield (yield_rate 0 pool) now (pos 1_000_000) since accrual

-- ---- a pool of three stakes, and what is left of each row

abbrev pub three : ℤ → ℤ → ℤ → List StakeRow
three x y z = stake_row balanced 1 x 9 0 ∷ stake_row balanced 2 y 9 0 ∷ stake_row balanced 3 z 9 0 ∷ []

abbrev pub stakes_left : List StakeRow → List (ℕ × ℤ)
stakes_left rows = map (λ (r : StakeRow). (r.account, r.stake)) rows

-- ---- answers after a payout caller is set and 7 has staked 10,000,000 in the pool

abbrev pub answers_in : ℕ → List Call → List (ℕ × ℤ × ℤ)
answers_in pool calls = summaries (books_after roomy (hire ∷ at 0 7 (to_stake pool 7 (pos 10_000_000)) ∷ [])) calls

-- the calls of K10
abbrev pub short : ℕ → List Call
short pool = at 0 2 (to_reserve pool 1 (pos 6_000_000)) ∷ at 0 2 (to_reserve pool 2 (pos 4_000_000)) ∷ at 0 2 (to_pay pool 2 (pos 5_000_000)) ∷ at 0 2 (to_claim pool 1 (pos 6_000_000)) ∷ []

pub record Figures : Type 0 where
  -- "K1 10,000,000 Conservative for 31,536,000 s yields 200,000"
  pub k1 : earned conservative (pos 10_000_000) 31_536_000 ≡ pos 200_000
  -- "K2 1,000,000 at 200: 1,576 s yields 0, 1,577 s yields 1"
  pub k2 : (earned conservative (pos 1_000_000) 1_576 ≡ pos 0) × (earned conservative (pos 1_000_000) 1_577 ≡ pos 1)
  -- "K3 banked twice after 1,576 s: 0; once after 3,152 s: 1"
  pub k3 : (banked conservative 1_576 3_152 (banked conservative 0 1_576 0) ≡ 0) × (banked conservative 0 3_152 0 ≡ 1)
  -- "K4 stakes 1, 1, 1, loss 2: reductions 0, 0, 2; left 1, 1, -1"
  pub k4 : (reductions 2 3 (pos 2) (pos 1 ∷ pos 1 ∷ pos 1 ∷ []) ≡ pos 0 ∷ pos 0 ∷ pos 2 ∷ []) × (stakes_left (shared balanced 2 3 (three (pos 1) (pos 1) (pos 1))) ≡ (1, pos 1) ∷ (2, pos 1) ∷ (3, negsuc 0) ∷ [])
  -- "K5 stakes 5, -5, 1, loss 1: reductions 1, -5, 5; left 4, none, -4"
  pub k5 : (reductions 1 1 (pos 1) (pos 5 ∷ negsuc 4 ∷ pos 1 ∷ []) ≡ pos 1 ∷ negsuc 4 ∷ pos 5 ∷ []) × (stakes_left (shared balanced 1 1 (three (pos 5) (negsuc 4) (pos 1))) ≡ (1, pos 4) ∷ (3, negsuc 3) ∷ [])
  -- "K6 stakes 3,000,000, 2,000,000, 1,000,001, loss 1,000,000: 499,999, 333,333, 166,668"
  pub k6 : reductions 1_000_000 6_000_001 (pos 1_000_000) (pos 3_000_000 ∷ pos 2_000_000 ∷ pos 1_000_001 ∷ []) ≡ pos 499_999 ∷ pos 333_333 ∷ pos 166_668 ∷ []
  -- "K7 Conservative pay 1: 0"
  pub k7 : answers_in conservative (at 0 2 (to_pay conservative 2 (pos 1)) ∷ []) ≡ (0, pos 0, pos 0) ∷ []
  -- "K8 Balanced reserve 1,000,000, again 1,000,000, then 2,000,000, with room: 750,000, 0, 750,000"
  pub k8 : answers_in balanced (at 0 2 (to_reserve balanced 4 (pos 1_000_000)) ∷ at 0 2 (to_reserve balanced 4 (pos 1_000_000)) ∷ at 0 2 (to_reserve balanced 4 (pos 2_000_000)) ∷ []) ≡ (0, pos 750_000, pos 0) ∷ (0, pos 0, pos 0) ∷ (0, pos 750_000, pos 0) ∷ []
  -- "K9 flat reserve 1,000,000 twice: both granted"
  pub k9 : answers_in flat (at 0 2 (to_reserve flat 4 (pos 1_000_000)) ∷ at 0 2 (to_reserve flat 4 (pos 1_000_000)) ∷ []) ≡ (0, pos 1_000_000, pos 0) ∷ (0, pos 1_000_000, pos 0) ∷ []
  -- "K10 one stake 10,000,000, offers 6,000,000 and 4,000,000, direct pay 5,000,000, claim 6,000,000 on the first: Aggressive (5,000,000, 1,000,000),"
  pub k10-aggressive : answers_in aggressive (short aggressive) ≡ (0, pos 6_000_000, pos 0) ∷ (0, pos 4_000_000, pos 0) ∷ (0, pos 5_000_000, pos 0) ∷ (0, pos 5_000_000, pos 1_000_000) ∷ []
  -- "flat (1,000,000, 5,000,000)"
  pub k10-flat : answers_in flat (short flat) ≡ (0, pos 6_000_000, pos 0) ∷ (0, pos 4_000_000, pos 0) ∷ (0, pos 5_000_000, pos 0) ∷ (0, pos 1_000_000, pos 5_000_000) ∷ []
  -- "K11 risk (2,592,000 s, 0, 0, 1) Balanced; (2,591,999 s, 0, 0, 999,999,999) Conservative"
  pub k11 : (assess_risk 2_592_000 0 0 (pos 1) ≡ balanced) × (assess_risk 2_591_999 0 0 (pos 999_999_999) ≡ conservative)
  -- "K12 `since` 1,000, `now` 400: earns 0, `since` 400"
  pub k12 : stake_at (books_after roomy (at 1_000 7 (to_stake balanced 7 (pos 2_000_000)) ∷ at 400 7 (to_stake balanced 7 (pos 1)) ∷ [])) balanced (account_no 7) ≡ stake_row balanced 7 (pos 2_000_001) 400 0
