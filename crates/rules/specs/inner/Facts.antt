-- Well-formed books as facts, for the contracts of inner functions and for proofs: no reader needs to believe them. `Decided` (proofs) shows
-- that they say what the test `well_formed` computes.
use Rattle.std.specs.Prelude.{◌≡◌, false, List, [], ◌∷◌, ℕ, ◌≤◌, ◌<◌, ℤ, pos, nat_abs, length}
use Rattle.rules.specs.Limits.{limit, last_time, greatest_rate, most_stakes, most_offers, pools, flat, two_to64}
use Rattle.rules.specs.Books.{Books, StakeRow, OfferRow, stake_key, stake_gone, offer_key, balance_of, unpaid_of}
use Rattle.rules.specs.Table.{sum_of}
use Rattle.rules.specs.Formed.{stake_in, cover_in}

-- a number that is not 0 and fits a word
pub record Number (n : ℕ) : Type 0 where
  pub some : 0 < n
  pub word : n < two_to64

pub record StakeOk (r : StakeRow) : Type 0 where
  pub pool : r.pool ≤ flat
  pub number : Number r.account
  pub kept : stake_gone r ≡ false
  pub no-since : nat_abs r.stake ≡ 0 → r.since ≡ 0
  pub time : r.since ≤ last_time
  pub size : nat_abs r.stake ≤ limit
  pub accrued : r.accrual ≤ limit

pub record OfferOk (r : OfferRow) : Type 0 where
  pub pool : r.pool ≤ flat
  pub number : Number r.offer
  pub some : 1 ≤ r.reserved
  pub most : r.reserved ≤ limit
  pub covered : r.paid ≤ r.reserved

-- rows that are each in order, and ascend strictly by key, from above `low`
module _ {A : Type 0} (key : A → ℕ) (Ok : A → Type 0) where
  abbrev pub Rows : ℕ → List A → Type 0
  Rows low [] = Unit {0}
  Rows low (x ∷ rows) = (low < key x) × Ok x × Rows (key x) rows

-- a pool's stakes, and its offers' covers, summed
abbrev pub stake_sum : ℕ → List StakeRow → ℤ
stake_sum pool rows = sum_of (stake_in pool) rows

abbrev pub cover_sum : ℕ → List OfferRow → ℤ
cover_sum pool rows = sum_of (cover_in pool) rows

pub record Room (rows room most : ℕ) : Type 0 where
  pub some : 1 ≤ room
  pub lent : room ≤ most
  pub enough : rows ≤ room

pub record WellFormed (b : Books) : Type 0 where
  pub stake-rows : Rows stake_key StakeOk 0 b.stakes
  pub offer-rows : Rows offer_key OfferOk 0 b.offers
  pub stake-room : Room (length b.stakes) b.rooms.stakes most_stakes
  pub offer-room : Room (length b.offers) b.rooms.offers most_offers
  pub four-pools : length b.pools ≡ pools
  pub balance-is : (pool : ℕ) → pool < pools → balance_of b pool ≡ stake_sum pool b.stakes
  pub unpaid-is : (pool : ℕ) → pool < pools → pos (unpaid_of b pool) ≡ cover_sum pool b.offers
  pub admin : Number b.settings.admin.0
  pub caller : b.settings.caller.0 < two_to64
  pub rate-most : b.settings.rate ≤ greatest_rate
