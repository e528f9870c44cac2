-- The books: what is remembered between calls, row by row and figure by figure.
use Rattle.std.specs.Prelude.{Bool, false, cond, ◌&&◌, List, [], ◌∷◌, ℕ, ◌-◌, leb, eqb, ℤ, pos, nat_abs, get_or, set, replicate}
use Rattle.rules.specs.Limits.{pools, most_stakes, most_offers}
use Rattle.rules.specs.Terms.{yield_rate, bank_accrued_yield}
use Rattle.rules.specs.Table.{key_of, find, put, all}
use Rattle.rules.specs.Calls.{Account, Offer, no_account}

-- "stake rows (account, pool, stake, since, accrual)": the Rust's maps stakes, stk_ts and yld_acc, and their tier forms, side by side
pub record StakeRow : Type 0 where
  pub pool : ℕ
  pub account : ℕ
  pub stake : ℤ
  pub since : ℕ
  pub accrual : ℕ

-- "offer rows (offer, pool, reserved, paid)": the maps resrvd and paid, and their tier forms
pub record OfferRow : Type 0 where
  pub pool : ℕ
  pub offer : ℕ
  pub reserved : ℕ
  pub paid : ℕ

-- "for each pool a balance and the unpaid reserved sum"
pub record Pool : Type 0 where
  pub balance : ℤ
  pub unpaid : ℕ

-- "settings (admin, payout caller, paused, rate)"
pub record Settings : Type 0 where
  pub admin : Account
  pub caller : Account
  pub paused : Bool
  pub rate : ℕ

-- how many rows of each kind were lent
pub record Rooms : Type 0 where
  pub stakes : ℕ
  pub offers : ℕ

-- the k-th of pools is pool k
pub record Books : Type 0 where
  pub stakes : List StakeRow
  pub offers : List OfferRow
  pub pools : List Pool
  pub settings : Settings
  pub rooms : Rooms

-- a maker, as the next, so that books with some figures anew are one line
abbrev pub settings : Account → Account → Bool → ℕ → Settings
settings admin caller paused rate = record { admin = admin; caller = caller; paused = paused; rate = rate }

-- the books of their parts
abbrev pub books : List StakeRow → List OfferRow → List Pool → Settings → Rooms → Books
books stakes offers pools s rooms = record { stakes = stakes; offers = offers; pools = pools; settings = s; rooms = rooms }

-- ---- stake rows

-- a stake that is none
abbrev pub is_zero : ℤ → Bool
is_zero z = eqb (nat_abs z) 0

-- tier_key: a row's place, "by pool then number"
abbrev pub stake_key : StakeRow → ℕ
stake_key r = key_of r.pool r.account

-- "A row whose stake and accrual become 0 is removed"
abbrev pub stake_gone : StakeRow → Bool
stake_gone r = is_zero r.stake && eqb r.accrual 0

-- a row with these figures; "`since` is 0 where stake is 0"
abbrev pub stake_row : ℕ → ℕ → ℤ → ℕ → ℕ → StakeRow
stake_row pool account stake since accrual = record { pool = pool; account = account; stake = stake; since = cond (is_zero stake) 0 since; accrual = accrual }

-- the row of an account that has none
abbrev pub no_stake : ℕ → Account → StakeRow
no_stake pool account = record { pool = pool; account = account.0; stake = pos 0; since = 0; accrual = 0 }

-- load_stakes, load_stake_ts, load_yield_acc and their tier forms, at an account
abbrev pub stake_at : Books → ℕ → Account → StakeRow
stake_at b pool account = find stake_key (no_stake pool account) (key_of pool account.0) b.stakes

-- save_stakes and the others: the rows with r in its place
abbrev pub put_stake : Books → StakeRow → List StakeRow
put_stake b r = put stake_key stake_gone r b.stakes

-- a row's accrual banked at `now`, at its pool's rate
abbrev pub banked_at : Books → ℕ → ℕ → StakeRow → ℕ
banked_at b pool now r = bank_accrued_yield (yield_rate b.settings.rate pool) now r.stake r.since r.accrual

-- ---- offer rows

-- tier_offer_key: a row's place, "by pool then number"
abbrev pub offer_key : OfferRow → ℕ
offer_key r = key_of r.pool r.offer

-- an offer's row stands as long as something was reserved: "an offer's reserved sum within 1 to 10^15"
abbrev pub offer_gone : OfferRow → Bool
offer_gone r = eqb r.reserved 0

-- a row with these figures
abbrev pub offer_row : ℕ → ℕ → ℕ → ℕ → OfferRow
offer_row pool offer reserved paid = record { pool = pool; offer = offer; reserved = reserved; paid = paid }

-- the row of an offer that has none
abbrev pub no_offer : ℕ → Offer → OfferRow
no_offer pool offer = offer_row pool offer.0 0 0

-- load_reserved, load_paid, load_tier_reservations, load_tier_paid, at an offer
abbrev pub offer_at : Books → ℕ → Offer → OfferRow
offer_at b pool offer = find offer_key (no_offer pool offer) (key_of pool offer.0) b.offers

-- save_reserved, save_paid, save_tier_reservations, save_tier_paid
abbrev pub put_offer : Books → OfferRow → List OfferRow
put_offer b r = put offer_key offer_gone r b.offers

-- "Cover left is reserved minus paid"
abbrev pub cover : OfferRow → ℕ
cover r = r.reserved - r.paid

-- ---- the pools' figures

-- a pool with nothing in it
abbrev pub no_figures : Pool
no_figures = record { balance = pos 0; unpaid = 0 }

-- load_tier_pool
abbrev pub pool_of : Books → ℕ → Pool
pool_of b pool = get_or b.pools pool no_figures

-- load_pool_total, and balance of load_tier_pool
abbrev pub balance_of : Books → ℕ → ℤ
balance_of b pool = (pool_of b pool).balance

-- load_total_outstanding, and reserved of load_tier_pool: "the unpaid reserved sum"
abbrev pub unpaid_of : Books → ℕ → ℕ
unpaid_of b pool = (pool_of b pool).unpaid

-- a pool's figures with another balance, and with another unpaid sum
abbrev pub with_balance : Pool → ℤ → Pool
with_balance p balance = record { balance = balance; unpaid = p.unpaid }

abbrev pub with_unpaid : Pool → ℕ → Pool
with_unpaid p unpaid = record { balance = p.balance; unpaid = unpaid }

-- the pools with one pool's figures anew
abbrev pub put_pool : Books → ℕ → Pool → List Pool
put_pool b pool figures = set b.pools pool figures

-- ---- the books anew

-- with other stake rows, and a pool's balance
abbrev pub with_stakes : Books → List StakeRow → ℕ → ℤ → Books
with_stakes b rows pool balance = books rows b.offers (put_pool b pool (with_balance (pool_of b pool) balance)) b.settings b.rooms

-- with other offer rows, and a pool's unpaid sum
abbrev pub with_offers : Books → List OfferRow → ℕ → ℕ → Books
with_offers b rows pool unpaid = books b.stakes rows (put_pool b pool (with_unpaid (pool_of b pool) unpaid)) b.settings b.rooms

-- with other stake rows of the same balances, and settings
abbrev pub with_settings : Books → List StakeRow → Settings → Books
with_settings b rows s = books rows b.offers b.pools s b.rooms

-- ---- a fresh set

-- __constructor: "clears every row and figure, with the given admin, no payout caller, unpaused, rate 0"
abbrev pub fresh : Account → Rooms → Books
fresh admin rooms = books [] [] (replicate pools no_figures) (settings admin no_account false 0) rooms

-- "1 to 1,024 stake rows", "1 to 512 offer rows"
unfoldable pub rooms_lent : Rooms → Bool
rooms_lent rooms = all (leb 1 rooms.stakes ∷ leb rooms.stakes most_stakes ∷ leb 1 rooms.offers ∷ leb rooms.offers most_offers ∷ [])
