-- What is shown as accrued: the cases of `accrued_answer`, and W-204's statement.
use mathlib.Core.Bool.{Bool, true, false, cond}
use mathlib.Core.Path.{◌≡◌, refl, sym, ◌∙◌, ap}
use Prim.Native.Nat.{ℕ, suc, ◌-◌, ◌*◌, ◌/◌, ◌^◌, ◌≤◌, ◌<◌}
use native.Mathlib.Nat.{zero-div, zero-mul}
use native.Mathlib.Omega.{arith}
use lib.Dec.{ltb, leb}
use lib.IntN.{ℤ, pos, negsuc, nat_abs, ◌+ℤ◌, ◌-ℤ◌}
use lib.Signed.{lt_z}
use borrow.Author.Tests.{le-leb, lt-leb, leb-true, ltb-true, ltb-false}
use mir.Syntax.{w64}
use mir.Val.{SFits, to_z, of_z}
use mir.ValLaws.{to_z_pos}
use Rattle.whole.proofs.Linear.{whole, sum, dif, abs, range, lt-true, lt-false}
use Rattle.whole.proofs.Words.{low, number-back, word_fits, word_of}
use Rattle.whole.proofs.Shares.{share-is}
use Rattle.rules.specs.Limits.{limit, year_divisor, is_pool, is_number}
use Rattle.rules.specs.Terms.{elapsed, compute_yield, yield_answer, bank_accrued_yield, accrued_sum}
use Rattle.rules.specs.Table.{find, each}
use Rattle.rules.specs.Queries.{accrued_yield}
use Rattle.rules.specs.AccruedShown.{AccruedShown}
use Rattle.rules.specs.inner.Accrued.{accrued_answer}
use Rattle.std.specs.Prelude.{Some, None, Ok, Err}
use Rattle.rules.specs.declared.refusal.Refusal.TheVariants.{OverLimit}

-- a number within the limit has a word
limit-fits : (z : ℤ) → nat_abs z ≤ limit → SFits w64 z
limit-fits z h = omega (arith, whole, abs z)

within : (z : ℤ) → nat_abs z ≤ limit → Ok (of_z w64 z) ≡ accrued_answer z
within z h = sym (ap (λ (t : Bool). cond t (Ok (of_z w64 z)) (Err OverLimit)) (le-leb (nat_abs z) limit h))

beyond : (z : ℤ) → limit < nat_abs z → Err OverLimit ≡ accrued_answer z
beyond z h = sym (ap (λ (t : Bool). cond t (Ok (of_z w64 z)) (Err OverLimit)) (lt-leb (nat_abs z) limit h))

-- ---- a caller's cases

pub sum-read : (z : ℤ) (n : ℕ) → Ok n ≡ accrued_answer z → (leb (nat_abs z) limit ≡ true) × (to_z w64 n ≡ z)
sum-read z n = go (leb (nat_abs z) limit) refl
  where
    go : (t : Bool) → leb (nat_abs z) limit ≡ t → Ok n ≡ cond t (Ok (of_z w64 z)) (Err OverLimit) → (leb (nat_abs z) limit ≡ true) × (to_z w64 n ≡ z)
    go true e q = let w : n ≡ of_z w64 z = cc in (e, ap (to_z w64) w ∙ number-back z (limit-fits z (leb-true (nat_abs z) limit e)))
    go false e q = absurd (let k : ◌≡◌ {A = ℕ} 0 1 = cc in omega arith)

pub beyond-read : (z : ℤ) → Err OverLimit ≡ accrued_answer z → leb (nat_abs z) limit ≡ false
beyond-read z = go (leb (nat_abs z) limit) refl
  where
    go : (t : Bool) → leb (nat_abs z) limit ≡ t → Err OverLimit ≡ cond t (Ok (of_z w64 z)) (Err OverLimit) → leb (nat_abs z) limit ≡ false
    go true e q = absurd (let k : ◌≡◌ {A = ℕ} 0 1 = cc in omega arith)
    go false e q = e

-- ---- an accrual and a signed word added up

module _ (accrual : ℕ) (small : accrual ≤ limit) (running : ℕ) (word : running < 2 ^ 64) where
  abbrev run : ℤ
  run = to_z w64 running

  own : to_z w64 accrual ≡ pos accrual
  own = to_z_pos w64 accrual (omega arith)

  pub too_much : lt_z (to_z w64 (limit - accrual)) run ≡ true → Err OverLimit ≡ accrued_answer (pos accrual +ℤ run)
  too_much t =
      let room = to_z w64 (limit - accrual) in
      beyond (pos accrual +ℤ run) (omega (arith, lt-true room run t, low (limit - accrual) (omega arith), sum (pos accrual) run, abs (pos accrual +ℤ run)))

  pub sum_fits : lt_z (to_z w64 (limit - accrual)) run ≡ false → SFits w64 (to_z w64 accrual +ℤ run)
  sum_fits f =
      let room = to_z w64 (limit - accrual) in
      omega (arith, whole, lt-false room run f, low (limit - accrual) (omega arith), low accrual (omega arith), range run, word_fits running word)

  module _ (s : ℕ) (k : s < 2 ^ 64) (e : to_z w64 s ≡ to_z w64 accrual +ℤ run) where
    sum_is : to_z w64 s ≡ pos accrual +ℤ run
    sum_is = e ∙ ap (λ (z : ℤ). z +ℤ run) own

    pub sum-beyond : limit < nat_abs (to_z w64 s) → Err OverLimit ≡ accrued_answer (pos accrual +ℤ run)
    sum-beyond h = beyond (to_z w64 s) h ∙ ap accrued_answer sum_is

    pub sum-within : nat_abs (to_z w64 s) ≤ limit → Ok s ≡ accrued_answer (pos accrual +ℤ run)
    sum-within h = ap Ok (word_of s (to_z w64 s) k refl) ∙ within (to_z w64 s) h ∙ ap accrued_answer sum_is

-- ---- the yield's answer

pub yield-word : (z : ℤ) (e : ℕ) → Some e ≡ yield_answer z → to_z w64 e ≡ z
yield-word z e = go (ltb (nat_abs z) (2 ^ 63)) refl
  where
    go : (t : Bool) → ltb (nat_abs z) (2 ^ 63) ≡ t → Some e ≡ cond t (Some (of_z w64 z)) None → to_z w64 e ≡ z
    go true k q = let w : e ≡ of_z w64 z = cc in ap (to_z w64) w ∙ number-back z (omega (arith, whole, abs z, ltb-true (nat_abs z) (2 ^ 63) k))
    go false k q = absurd (let n : ◌≡◌ {A = ℕ} 0 1 = cc in omega arith)

pub yield-beyond : (accrual : ℕ) (z : ℤ) → accrual ≤ limit → None ≡ yield_answer z → Err OverLimit ≡ accrued_answer (pos accrual +ℤ z)
yield-beyond accrual z small = go (ltb (nat_abs z) (2 ^ 63)) refl
  where
    go : (t : Bool) → ltb (nat_abs z) (2 ^ 63) ≡ t → None ≡ cond t (Some (of_z w64 z)) None → Err OverLimit ≡ accrued_answer (pos accrual +ℤ z)
    go true k q = absurd (let n : ◌≡◌ {A = ℕ} 0 1 = cc in omega arith)
    go false k q = beyond (pos accrual +ℤ z) (omega (arith, ltb-false (nat_abs z) (2 ^ 63) k, abs z, sum (pos accrual) z, abs (pos accrual +ℤ z)))

-- ---- W-204's statement

module _ (rate now since banked n : ℕ) where
  abbrev times : ℕ
  times = rate * elapsed since now

  none : 0 * times / year_divisor ≡ 0
  none = ap (λ (x : ℕ). x / year_divisor) (zero-mul times) ∙ zero-div year_divisor

  below : accrued_sum rate now (negsuc n) since banked ≡ pos banked -ℤ pos (suc n * times / year_divisor)
  below =
      let z = compute_yield (negsuc n) rate (elapsed since now) in
      let i = share-is (negsuc n) times year_divisor in
      omega (arith, whole, i, none, sum (pos banked) z, dif (pos banked) (pos (suc n * times / year_divisor)))

  not-banked : bank_accrued_yield rate now (negsuc n) since banked ≡ banked
  unfolding bank_accrued_yield
  not-banked = omega (arith, share-is (negsuc n) times year_divisor, none)

  as-banked : accrued_sum rate now (pos n) since banked ≡ pos (bank_accrued_yield rate now (pos n) since banked)
  unfolding bank_accrued_yield
  as-banked =
      let z = compute_yield (pos n) rate (elapsed since now) in
      omega (arith, whole, share-is (pos n) times year_divisor, none, sum (pos banked) z)

zero-alone : (rate now since banked : ℕ) → accrued_sum rate now (pos 0) since banked ≡ pos banked
zero-alone rate now since banked =
    let z = compute_yield (pos 0) rate (elapsed since now) in
    omega (arith, whole, share-is (pos 0) (rate * elapsed since now) year_divisor, none rate now since banked 0, sum (pos banked) z)

pub accrued-shown : AccruedShown
unfolding is_pool is_number find each accrued_yield
accrued-shown = record {
  below-zero = below;
  banks-nothing-below-zero = not-banked;
  shows-what-is-banked = as-banked;
  zero-stake-alone = zero-alone;
  a-unit-less = (refl, refl);
  banked-five = (refl, refl);
  clock-back = refl;
  old-since = refl;
  least = (refl, refl, refl);
  most = (refl, refl);
}
