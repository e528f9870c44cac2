-- What each operation may change, as one table: all that lies outside its reach it leaves alone.
use Rattle.std.specs.Prelude.{◌≡◌, Bool, true, false, ◌&&◌, ℕ, eqb}
use Rattle.rules.specs.Limits.{flat, is_number}
use Rattle.rules.specs.Books.{Books, stake_at, offer_at, balance_of, unpaid_of}
use Rattle.promises.specs.Calls.{Account, Offer, Operation, Stake, Withdraw, Pay, Reserve, Claim, Rate, Pause, Unpause, PayoutCaller, Unknown}

-- of a table or of the pools' figures: nothing, one number's in a pool, or all of a pool's
pub data Part : Type 0 where
  nothing : Part
  row_of : ℕ → ℕ → Part
  all_of : ℕ → Part

-- whether the part holds the number in the pool
abbrev pub holds : Part → ℕ → ℕ → Bool
holds nothing p n = false
holds (row_of q m) p n = eqb q p && eqb m n
holds (all_of q) p n = eqb q p

-- what an operation may change, table by table and figure by figure
pub record Reach : Type 0 where
  pub stakes : Part
  pub offers : Part
  pub balance : Part
  pub unpaid : Part
  pub settings : Bool

-- its maker
abbrev pub reach : Part → Part → Part → Part → Bool → Reach
reach stakes offers balance unpaid settings = record { stakes = stakes; offers = offers; balance = balance; unpaid = unpaid; settings = settings }

-- columns: stake rows, offer rows, balance, unpaid sum, settings
abbrev pub reach_of : Operation → Reach
reach_of (Stake c) = reach (row_of c.pool c.staker.0) nothing (all_of c.pool) nothing false
reach_of (Withdraw c) = reach (row_of c.pool c.staker.0) nothing (all_of c.pool) nothing false
reach_of (Pay c) = reach (all_of c.pool) nothing (all_of c.pool) nothing false
reach_of (Reserve c) = reach nothing (row_of c.pool c.offer.0) nothing (all_of c.pool) false
reach_of (Claim c) = reach (all_of c.pool) (row_of c.pool c.offer.0) (all_of c.pool) (all_of c.pool) false
reach_of (Rate c) = reach (all_of flat) nothing nothing nothing true
reach_of Pause = reach nothing nothing nothing nothing true
reach_of Unpause = reach nothing nothing nothing nothing true
reach_of (PayoutCaller a) = reach nothing nothing nothing nothing true
reach_of Unknown = reach nothing nothing nothing nothing false

-- two books agree in all that lies outside a reach
pub record Alone (r : Reach) (b after : Books) : Type 0 where
  pub stakes : (pool : ℕ) (account : Account) → is_number account.0 ≡ true → holds r.stakes pool account.0 ≡ false → stake_at after pool account ≡ stake_at b pool account
  pub offers : (pool : ℕ) (offer : Offer) → is_number offer.0 ≡ true → holds r.offers pool offer.0 ≡ false → offer_at after pool offer ≡ offer_at b pool offer
  pub balance : (pool : ℕ) → holds r.balance pool 0 ≡ false → balance_of after pool ≡ balance_of b pool
  pub unpaid : (pool : ℕ) → holds r.unpaid pool 0 ≡ false → unpaid_of after pool ≡ unpaid_of b pool
  pub settings : r.settings ≡ false → after.settings ≡ b.settings
  pub rooms : after.rooms ≡ b.rooms
