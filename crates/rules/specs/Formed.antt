-- When books are well formed. The order of words, used rows first and unused rows all zero, is of the layer that reads words.
use Rattle.std.specs.Prelude.{Bool, true, not, cond, ◌||◌, List, [], ◌∷◌, ℕ, ltb, leb, eqb, ℤ, pos, nat_abs, ◌-ℤ◌, length}
use Rattle.rules.specs.Limits.{limit, last_time, greatest_rate, two_to64, pools, is_pool, is_number}
use Rattle.rules.specs.Table.{sum_of, all, each_below}
use Rattle.rules.specs.Books.{Books, StakeRow, OfferRow, is_zero, stake_key, stake_gone, offer_key, cover, balance_of, unpaid_of, rooms_lent}

-- "no stake row with stake and accrual both zero; `since` is 0 where stake is 0"; "every figure within its limit"
unfoldable pub stake_test : StakeRow → Bool
stake_test r =
    all
    (is_pool r.pool ∷ is_number r.account ∷ not (stake_gone r) ∷ (not (is_zero r.stake) || eqb r.since 0)
    ∷ leb r.since last_time ∷ leb (nat_abs r.stake) limit ∷ leb r.accrual limit ∷ [])

-- "an offer's reserved sum within 1 to 10^15"; "paid is 0 to reserved"
unfoldable pub offer_test : OfferRow → Bool
offer_test r =
    all (is_pool r.pool ∷ is_number r.offer ∷ leb 1 r.reserved ∷ leb r.reserved limit ∷ leb r.paid r.reserved ∷ [])

module _ {A : Type 0} (key : A → ℕ) (ok : A → Bool) where
  -- each row in order, and "strictly ascending by pool then number", from above low
  unfoldable pub rows_test : ℕ → List A → Bool
  rows_test low [] = true
  rows_test low (x ∷ rows) = all (ltb low (key x) ∷ ok x ∷ rows_test (key x) rows ∷ [])

-- a row's part in a pool's "signed sum"
abbrev pub stake_in : ℕ → StakeRow → ℤ
stake_in pool r = cond (eqb r.pool pool) r.stake (pos 0)

-- and in its "reserved minus paid"
abbrev pub cover_in : ℕ → OfferRow → ℤ
cover_in pool r = cond (eqb r.pool pool) (pos (cover r)) (pos 0)

-- "each balance is its stakes' signed sum; each reserved sum is its offers' reserved minus paid"
unfoldable pub sums_test : Books → ℕ → Bool
sums_test b pool =
    all (is_zero (balance_of b pool -ℤ sum_of (stake_in pool) b.stakes) ∷ is_zero (pos (unpaid_of b pool) -ℤ sum_of (cover_in pool) b.offers) ∷ [])

-- "Well formed"
unfoldable pub well_formed : Books → Bool
well_formed b =
    all
    (rows_test stake_key stake_test 0 b.stakes
    ∷ rows_test offer_key offer_test 0 b.offers
    ∷ rooms_lent b.rooms ∷ leb (length b.stakes) b.rooms.stakes ∷ leb (length b.offers) b.rooms.offers
    ∷ eqb (length b.pools) pools ∷ each_below pools (sums_test b)
    ∷ is_number b.settings.admin.0 ∷ ltb b.settings.caller.0 two_to64 ∷ leb b.settings.rate greatest_rate
    ∷ [])
