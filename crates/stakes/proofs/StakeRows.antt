-- A staker's row on good tables, over plain variables: what is known of the row that is read, and the row that is written.
use mathlib.Core.Path.{◌≡◌, sym, ap, ap₂, ◌∙◌, subst⁻¹}
use mathlib.Core.Bool.{false, true, cond}
use Prim.Native.Nat.{ℕ, ◌*◌, ◌≤◌, ◌<◌}
use native.Mathlib.Omega.{arith}
use borrow.Author.Tests.{ltb-false, eq-eqb, lt-leb}
use lib.Dec.{ltb, eqb}
use lib.IntN.{ℤ, pos, nat_abs, ◌+ℤ◌, ◌-ℤ◌}
use lib.ListN.{length, get_or}
use lib.Signed.{lt_z, le_z}
use mir.Syntax.{w64}
use mir.Val.{to_z, SFits}
use Rattle.std.specs.Prelude.{Ok}
use Rattle.whole.specs.Whole.{up, Within}
use Rattle.whole.proofs.Linear.{whole, abs, dif, one, within-abs}
use Rattle.rules.specs.Limits.{limit, most_stakes, last_time}
use Rattle.rules.specs.Terms.{yield_rate, bank_accrued_yield}
use Rattle.rules.specs.Books.{Books, StakeRow, stake_key, stake_gone, is_zero, no_stake, stake_row, put_stake, balance_of, with_stakes}
use Rattle.rules.specs.declared.StakeCall.{StakeCall}
use Rattle.rules.specs.Answers.{Plan, Transfer, does, due, no_transfer, transfer_in, transfer_out}
use Rattle.rules.specs.Stakes.{old_stake, staked_row, yield_due, unstaked_row, no_stake_room, overdrawn}
use Rattle.rules.specs.inner.Passed.{StakeDone, UnstakeDone}
use Rattle.rules.proofs.Tests.{cases, or_left, or_right}
use Rattle.rules.proofs.Kept.{room_for, room-found}
use Rattle.rules.proofs.Writes.{OldStake, old-stake}
use Rattle.books.specs.Layout.{stake_width, pools, rate_word}
use Rattle.books.specs.Tables.{used_of}
use Rattle.books.specs.Words.{Tables, books_of, good_tables}
use Rattle.books.specs.inner.Held.{stake_of, HeldStakes}
use Rattle.books.proofs.Good.{good-formed, good-balance, stakes-held}
use Rattle.books.proofs.Writing.{balance-is, rate-is}
use Rattle.books.specs.inner.Banking.{Bankable}
use Rattle.stakes.specs.Staking.{StakeAsked}
use Rattle.stakes.specs.declared.staker.Change.{Change}
use Rattle.stakes.specs.inner.Changes.{AmountOf, Writable, SettledTo}
use Rattle.stakes.proofs.StakeWords.{sum_fits, dif-fits, part-within}
use Rattle.stakes.proofs.StakeRungs.{staking, unstaking}

-- the row that is read may be
pub held : (t : Tables) → good_tables t ≡ true → (n : ℕ) → n ≡ used_of stake_width t.stakes → HeldStakes t.stakes n
held t good n e = subst⁻¹ (HeldStakes t.stakes) e (stakes-held t good)

-- a call with an amount n, and the staker's row r as it is read
pub record Read (t : Tables) (time : ℕ) (c : StakeCall) (n : ℕ) (r : StakeRow) : Type 0 where
  pub good : good_tables t ≡ true
  pub asked : StakeAsked time c
  pub amount : AmountOf c.amount n
  pub row-is : r ≡ old_stake (books_of t) c

module _ {t : Tables} {time : ℕ} {c : StakeCall} {n : ℕ} {r : StakeRow} (k : Read t time c n r) where
  abbrev b : Books
  b = books_of t

  abbrev a : AmountOf c.amount n
  a = k.amount

  -- ---- the row that is read

  old : OldStake c.pool c.staker (old_stake b c)
  old = old-stake b (good-formed t k.good) c.pool c.staker k.asked.staker-is.word

  pub bankable : Bankable t.books c.pool time r.accrual
  bankable = record {
    rate = omega (arith, rate-is t, (good-formed t k.good).rate-most);
    pool-is = k.asked.pool-is;
    time-is = k.asked.time-is;
    accrued = omega (arith, ap (λ (x : StakeRow). x.accrual) k.row-is, old.accrued);
  }

  pub due-is : bank_accrued_yield (yield_rate (get_or t.books rate_word 0) c.pool) time r.stake r.since r.accrual ≡ yield_due b time c
  due-is = ap₂ (λ (rate : ℕ) (x : StakeRow). bank_accrued_yield (yield_rate rate c.pool) time x.stake x.since x.accrual) (rate-is t) k.row-is

  stake-within : Within limit r.stake
  stake-within = subst⁻¹ (λ (x : StakeRow). Within limit x.stake) k.row-is (within-abs old.size)

  -- ---- the stake after a stake, and after a withdrawal

  pub add-fits : n ≤ limit → SFits w64 (r.stake +ℤ to_z w64 n)
  add-fits h = rw (a.word, a.is) (sum_fits limit r.stake (pos n) (omega arith) stake-within (omega (arith, whole)))

  pub added : (w : ℕ) → to_z w64 w ≡ r.stake +ℤ to_z w64 n → to_z w64 w ≡ (staked_row b time c).stake
  added w s = s ∙ ap₂ (λ (x : StakeRow) (z : ℤ). x.stake +ℤ z) k.row-is a.word

  -- the amount is part of the stake
  module _ (enough : overdrawn b c ≡ false) where
    part : lt_z (old_stake b c).stake c.amount ≡ false
    unfolding overdrawn
    part = enough

    amount-within : Within limit c.amount
    amount-within = rw a.is (part-within (old_stake b c).stake n (within-abs old.size) (rw a.is at part))

  pub taken-off : (w : ℕ) → to_z w64 w ≡ r.stake -ℤ to_z w64 n → to_z w64 w ≡ (unstaked_row b time c).stake
  taken-off w s = s ∙ ap₂ (λ (x : StakeRow) (z : ℤ). x.stake -ℤ z) k.row-is a.word

  -- ---- the balance

  pub balance-asks : c.pool < pools
  balance-asks = omega (arith, k.asked.pool-is)

  module _ (v : ℕ) (e : v ≡ get_or t.books c.pool 0) where
    now-is : to_z w64 v ≡ balance_of b c.pool
    now-is = ap (to_z w64) e ∙ balance-is t c.pool balance-asks

    now-within : Within (most_stakes * limit) (to_z w64 v)
    now-within = subst⁻¹ (Within (most_stakes * limit)) now-is (good-balance t k.good c.pool balance-asks)

    pub balance-add-fits : n ≤ limit → SFits w64 (to_z w64 v +ℤ to_z w64 n)
    balance-add-fits h = rw (a.word, a.is) (sum_fits (most_stakes * limit) (to_z w64 v) (pos n) (omega arith) now-within (omega (arith, whole)))

    pub balance-sub-fits : overdrawn b c ≡ false → SFits w64 (to_z w64 v -ℤ to_z w64 n)
    balance-sub-fits enough = rw a.word (dif-fits (most_stakes * limit) (to_z w64 v) c.amount (omega arith) now-within (amount-within enough))

  -- ---- the row that is written, of its stake and accrual

  module _ (z : ℤ) (m : ℕ) where
    abbrev row : StakeRow
    row = stake_row c.pool c.staker.0 z time m

    writable : (used : ℕ) → used ≡ used_of stake_width t.stakes → nat_abs z ≤ limit → m ≤ limit → length (put_stake b row) ≤ b.rooms.stakes → Writable t used row
    writable used u h l q = record {
      good = k.good;
      used-is = u;
      pool-is = balance-asks;
      account-is = k.asked.staker-is.some;
      fine = λ g. record {
        pool = k.asked.pool-is;
        number = k.asked.staker-is;
        kept = g;
        no-since = λ e. rw (eq-eqb (nat_abs z) 0 e);
        time = cases (is_zero z) 0 time (λ (since : ℕ). since ≤ last_time) (λ e. omega arith) (λ e. k.asked.time-is);
        size = h;
        accrued = l;
      };
      room = q;
    }

  -- a change that writes a row, a balance and two transfers
  carried : (w : Change) (plan : Plan) (r : StakeRow) (v : ℤ) (one two : Transfer) → Writable t w.used r → stake_of w.row ≡ r → to_z w64 w.balance ≡ v → due w.one ≡ one → due w.two ≡ two
      → plan ≡ does (pos 0) (pos 0) one two (with_stakes b (put_stake b r) r.pool v) → SettledTo t plan r (Ok w)
  carried w plan r v one two h er ev e1 e2 p = record { plan-is = go _ _ _ _ er ev e1 e2 ∙ sym p; row_is = er; ready = subst⁻¹ (Writable t w.used) er h }
    where
      go : (r' : StakeRow) (v' : ℤ) (one' two' : Transfer) → r' ≡ r → v' ≡ v → one' ≡ one → two' ≡ two
          → does (pos 0) (pos 0) one' two' (with_stakes b (put_stake b r') r'.pool v') ≡ does (pos 0) (pos 0) one two (with_stakes b (put_stake b r) r.pool v)
      go r' v' one' two' p q i j = rw (p, q, i, j)

  -- ---- a stake that passes every rung, and a withdrawal

  pub some-is : le_z c.amount (pos 0) ≡ false
  some-is = rw a.is (lt-leb n 0 a.some)

  module _ (v : ℕ) (e : v ≡ get_or t.books c.pool 0) (w : ℕ) where
    balance-added : to_z w64 w ≡ to_z w64 v +ℤ to_z w64 n → to_z w64 w ≡ balance_of b c.pool +ℤ c.amount
    balance-added s = s ∙ ap₂ (λ (x z : ℤ). x +ℤ z) (now-is v e) a.word

    balance-taken-off : to_z w64 w ≡ to_z w64 v -ℤ to_z w64 n → to_z w64 w ≡ balance_of b c.pool -ℤ c.amount
    balance-taken-off s = s ∙ ap₂ (λ (x z : ℤ). x -ℤ z) (now-is v e) a.word

  pub staked : StakeDone b time c → (w : Change) (plan : Plan) → plan ≡ staking b time c → w.used ≡ used_of stake_width t.stakes → stake_of w.row ≡ staked_row b time c → (v : ℕ) → v ≡ get_or t.books c.pool 0 → to_z w64 w.balance ≡ to_z w64 v +ℤ to_z w64 n
      → due w.one ≡ transfer_in c.staker n → due w.two ≡ no_transfer → SettledTo t plan (staked_row b time c) (Ok w)
  unfolding no_stake_room
  staked h w plan p used row-is v e balance one two =
      let s = staked_row b time c in
      let top = or_left (lt_z (pos limit) s.stake) (ltb limit s.accrual) h.limits in
      let low = h.least in
      carried w plan s _ _ _
      (writable s.stake s.accrual w.used used (omega (arith, whole, top, low, abs s.stake))
      (ltb-false limit s.accrual (or_right (lt_z (pos limit) s.stake) (ltb limit s.accrual) h.limits))
      (room_for stake_key stake_gone s b.stakes b.rooms.stakes (good-formed t k.good).stake-room.enough h.room))
      row-is (balance-added v e w.balance balance) (one ∙ ap (λ (m : ℕ). transfer_in c.staker m) (sym (ap up a.is))) two p

  pub unstaked : UnstakeDone b time c → (w : Change) (plan : Plan) → plan ≡ unstaking b time c → w.used ≡ used_of stake_width t.stakes → stake_of w.row ≡ unstaked_row b time c → (v : ℕ) → v ≡ get_or t.books c.pool 0 → to_z w64 w.balance ≡ to_z w64 v -ℤ to_z w64 n
      → due w.one ≡ transfer_out c.staker n → due w.two ≡ cond (eqb (yield_due b time c) 0) no_transfer (transfer_out c.staker (yield_due b time c)) → SettledTo t plan (unstaked_row b time c) (Ok w)
  unstaked h w plan p used row-is v e balance one two =
      let x = (old_stake b c).stake in
      let some = h.some in
      let enough = part h.enough in
      carried w plan (unstaked_row b time c) _ _ _
      (writable (x -ℤ c.amount) 0 w.used used
      (omega (arith, whole, some, enough, old.size, abs x, abs (x -ℤ c.amount), dif x c.amount)) (omega arith)
      (room-found stake_key stake_gone (unstaked_row b time c) b.stakes b.rooms.stakes (good-formed t k.good).stake-room.enough (no_stake c.pool c.staker)
      (λ (q : old_stake b c ≡ no_stake c.pool c.staker). let z = ap (λ (y : StakeRow). y.stake) q in omega (arith, whole, some, enough, z))))
      row-is (balance-taken-off v e w.balance balance) (one ∙ ap (λ (m : ℕ). transfer_out c.staker m) (sym (ap up a.is))) two p
