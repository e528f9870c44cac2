-- What one row loses: its cases, and its bounds.
use mathlib.Core.Path.{◌≡◌, sym, ◌∙◌}
use mathlib.Core.Bool.{Bool, true, false, cond}
use Prim.Native.Nat.{ℕ, ◌+◌, ◌^◌, ◌≤◌, ◌<◌}
use native.Mathlib.Omega.{arith}
use borrow.Author.Tests.{ne_eqb}
use lib.IntN.{ℤ, pos, nat_abs, ◌-ℤ◌}
use mir.Syntax.{w64}
use mir.Val.{to_z}
use Rattle.whole.specs.Whole.{up, dn, min_z}
use Rattle.whole.specs.Shares.{share}
use Rattle.whole.proofs.Linear.{one, abs, dif, lesser-is}
use Rattle.whole.proofs.Shares.{share-le}
use Rattle.rules.specs.Books.{is_zero}
use Rattle.books.proofs.Signs.{zero_same}
use Rattle.losses.specs.inner.Settling.{lowered_by}

-- ---- a word is 0 exactly where its number is

pub word-zero : (w : ℕ) → w ≡ 0 → is_zero (to_z w64 w) ≡ true
word-zero w e = rw e

pub word_some : (w : ℕ) → w < 2 ^ 64 → (w ≡ 0 → ⊥) → is_zero (to_z w64 w) ≡ false
word_some w h n = sym (zero_same w h) ∙ ne_eqb w 0 n

-- ---- the cases

module _ (loss balance : ℕ) (rest s : ℤ) where
  pub cut-zero : (last : Bool) → is_zero s ≡ true → lowered_by loss balance last rest s ≡ pos 0
  unfolding lowered_by
  cut-zero last z = rw z

  pub cut-last : is_zero s ≡ false → lowered_by loss balance true rest s ≡ rest
  unfolding lowered_by
  cut-last z = rw z

  pub cut-mid : is_zero s ≡ false → lowered_by loss balance false rest s ≡ min_z (share s loss balance) rest
  unfolding lowered_by
  cut-mid z = rw z

-- ---- the bounds: what is left of the loss is not below 0, and grows by at most the size of a stake below 0

pub record Taken (rest s d : ℤ) : Type 0 where
  pub above : up d ≤ up s + up rest
  pub below : dn d ≤ dn s
  pub nonneg : dn (rest -ℤ d) ≡ 0
  pub most : up (rest -ℤ d) ≤ up rest + dn s

module _ (loss balance : ℕ) (h : loss ≤ balance) (rest s : ℤ) (p : dn rest ≡ 0) where
  pub cut-taken : (last : Bool) → Taken rest s (lowered_by loss balance last rest s)
  unfolding lowered_by
  cut-taken last = go (is_zero s) last
    where
      go : (z e : Bool) → Taken rest s (cond z (pos 0) (cond e rest (min_z (share s loss balance) rest)))
      go true e = omega (arith, dif rest (pos 0), one (rest -ℤ pos 0))
      go false true = omega (arith, dif rest rest, one (rest -ℤ rest))
      go false false =
          let m = min_z (share s loss balance) rest in
          omega (arith, lesser-is (share s loss balance) rest, share-le s loss balance h, one s, one m, dif rest m, one (rest -ℤ m))

  -- a sharer that is not the last is left with no more than it had, of the same sign
  pub cut-shrinks : nat_abs (s -ℤ lowered_by loss balance false rest s) ≤ nat_abs s
  unfolding lowered_by
  cut-shrinks = go (is_zero s)
    where
      go : (z : Bool) → nat_abs (s -ℤ cond z (pos 0) (min_z (share s loss balance) rest)) ≤ nat_abs s
      go true = omega (arith, dif s (pos 0), one (s -ℤ pos 0), abs s, abs (s -ℤ pos 0))
      go false =
          let m = min_z (share s loss balance) rest in
          omega (arith, lesser-is (share s loss balance) rest, share-le s loss balance h, one s, one m, one (share s loss balance), dif s m, one (s -ℤ m), abs s, abs (s -ℤ m))
