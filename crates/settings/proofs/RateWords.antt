-- The rate of a call as a word, and what good tables give to banking.
use mathlib.Core.Path.{◌≡◌, ap, ◌∙◌, subst⁻¹}
use mathlib.Core.Bool.{true, false}
use Prim.Native.Nat.{ℕ, ◌≤◌, ◌<◌}
use native.Mathlib.Omega.{arith}
use borrow.Author.Tests.{lt-ltb, le-ltb}
use lib.IntN.{pos, nat_abs}
use lib.Signed.{lt_z}
use Rattle.whole.specs.Whole.{up}
use Rattle.whole.proofs.Linear.{whole, abs, one}
use Rattle.rules.specs.declared.RateCall.{RateCall}
use Rattle.rules.specs.Limits.{last_time, greatest_rate, flat}
use Rattle.books.specs.Layout.{stake_width}
use Rattle.books.specs.Tables.{used_of}
use Rattle.books.specs.Words.{Tables, good_tables}
use Rattle.books.specs.inner.Held.{HeldStakes}
use Rattle.books.specs.inner.Pool.{PoolStart}
use Rattle.books.proofs.Good.{good-formed, stakes-held}
use Rattle.books.proofs.Writing.{rate-is}
use Rattle.settings.specs.Rates.{RateAsked}
use Rattle.settings.specs.inner.Banking.{CanBank}

module _ {time : ℕ} {c : RateCall} (asked : RateAsked time c) {w : ℕ} (q : w ≡ nat_abs c.rate) where
  pub word-is : w ≡ up c.rate
  word-is = omega (arith, whole, q, abs c.rate, asked.rate-is, one c.rate)

  number_is : c.rate ≡ pos w
  number_is = omega (arith, whole, word-is, asked.rate-is, one c.rate)

  pub above : greatest_rate < w → lt_z (pos greatest_rate) c.rate ≡ true
  above l = ap (lt_z (pos greatest_rate)) number_is ∙ lt-ltb greatest_rate w l

  pub within : w ≤ greatest_rate → lt_z (pos greatest_rate) c.rate ≡ false
  within l = ap (lt_z (pos greatest_rate)) number_is ∙ le-ltb greatest_rate w l

module _ (t : Tables) (g : good_tables t ≡ true) {n : ℕ} (e : n ≡ used_of stake_width t.stakes) where
  pub used-held : HeldStakes t.stakes n
  used-held = subst⁻¹ (λ (m : ℕ). HeldStakes t.stakes m) e (stakes-held t g)

  pub can-bank : {from time : ℕ} → PoolStart t.stakes n flat from → time ≤ last_time → CanBank t.stakes t.books from n time
  can-bank f h = record {
    held = used-held;
    most = f.most;
    below = f.below;
    rate = omega (arith, rate-is t, (good-formed t g).rate-most);
    time-is = h;
  }
