-- The cases of `banked_answer`, from those of the yield.
use mathlib.Core.Bool.{Bool, true, false, cond}
use mathlib.Core.Path.{◌≡◌, refl, sym, ◌∙◌, ap}
use Prim.Native.Nat.{ℕ, ◌+◌, ◌-◌, ◌*◌, ◌/◌, ◌^◌, ◌≤◌, ◌<◌}
use native.Mathlib.Nat.{zero-div, zero-mul}
use native.Mathlib.Omega.{arith}
use lib.Dec.{ltb}
use lib.IntN.{ℤ, pos, nat_abs}
use lib.Signed.{lt_z}
use borrow.Author.Tests.{le-leb, lt-leb, ltb-false}
use mir.Syntax.{w64}
use mir.Val.{of_z}
use Rattle.whole.specs.Whole.{up, dn}
use Rattle.whole.proofs.Linear.{one, abs, lt-true, lt-false}
use Rattle.whole.proofs.Words.{bits-low}
use Rattle.whole.proofs.Shares.{share-is}
use Rattle.rules.specs.Limits.{limit, year_divisor}
use Rattle.rules.specs.Terms.{elapsed, compute_yield, bank_accrued_yield, yield_answer, banked_answer}
use Rattle.std.specs.Prelude.{Some, None, Ok, Err}
use Rattle.rules.specs.declared.refusal.Refusal.TheVariants.{OverLimit}

-- what a yield's answer says of a yield that is not negative
word_read : (z : ℤ) (e : ℕ) → dn z ≡ 0 → Some e ≡ yield_answer z → e ≡ up z
word_read z e h = go (ltb (nat_abs z) (2 ^ 63))
  where
    go : (t : Bool) → Some e ≡ cond t (Some (of_z w64 z)) None → e ≡ up z
    go true q = let w : e ≡ of_z w64 z = cc in w ∙ bits-low z h
    go false q = absurd (let n : ◌≡◌ {A = ℕ} 0 1 = cc in omega arith)

large-read : (z : ℤ) → dn z ≡ 0 → None ≡ yield_answer z → 2 ^ 63 ≤ up z
large-read z h = go (ltb (nat_abs z) (2 ^ 63)) refl
  where
    go : (t : Bool) → ltb (nat_abs z) (2 ^ 63) ≡ t → None ≡ cond t (Some (of_z w64 z)) None → 2 ^ 63 ≤ up z
    go true k q = absurd (let n : ◌≡◌ {A = ℕ} 0 1 = cc in omega arith)
    go false k q = omega (arith, ltb-false (nat_abs z) (2 ^ 63) k, abs z)

module _ (rate time : ℕ) (stake : ℤ) (since accrual : ℕ) where
  abbrev earned : ℤ
  earned = compute_yield stake rate (elapsed since time)

  -- a negative stake earns nothing
  pub none-banked : lt_z stake (pos 0) ≡ true → accrual ≤ limit → Ok accrual ≡ banked_answer (bank_accrued_yield rate time stake since accrual)
  unfolding bank_accrued_yield
  none-banked n h =
      let l : ℕ = rate * elapsed since time in
      let z : up stake ≡ 0 = omega (arith, lt-true stake (pos 0) n, one stake) in
      let y : up earned ≡ 0 = (share-is stake l year_divisor).0 ∙ ap (λ (x : ℕ). x * l / year_divisor) z ∙ ap (λ (x : ℕ). x / year_divisor) (zero-mul l) ∙ zero-div year_divisor in
      let s : accrual + up earned ≡ accrual = omega arith in
      rw (s, le-leb accrual limit h)

  -- and of another the yield is not negative
  not-below : lt_z stake (pos 0) ≡ false → dn earned ≡ 0
  not-below n =
      let l : ℕ = rate * elapsed since time in
      let z : dn stake ≡ 0 = omega (arith, lt-false stake (pos 0) n, one stake) in
      (share-is stake l year_divisor).1 ∙ ap (λ (x : ℕ). x * l / year_divisor) z ∙ ap (λ (x : ℕ). x / year_divisor) (zero-mul l) ∙ zero-div year_divisor

  pub banked-to : (e : ℕ) → lt_z stake (pos 0) ≡ false → Some e ≡ yield_answer earned → accrual ≤ limit → e ≤ limit - accrual → Ok (accrual + e) ≡ banked_answer (bank_accrued_yield rate time stake since accrual)
  unfolding bank_accrued_yield
  banked-to e n q a h =
      let w = word_read earned e (not-below n) q in
      rw (sym w) (sym (ap (λ (t : Bool). cond t (Ok (accrual + e)) (Err OverLimit)) (le-leb (accrual + e) limit (omega arith))))

  pub banked-over : (e : ℕ) → lt_z stake (pos 0) ≡ false → Some e ≡ yield_answer earned → accrual ≤ limit → limit - accrual < e → Err OverLimit ≡ banked_answer (bank_accrued_yield rate time stake since accrual)
  unfolding bank_accrued_yield
  banked-over e n q a h =
      let w = word_read earned e (not-below n) q in
      rw (sym w) (sym (ap (λ (t : Bool). cond t (Ok (accrual + e)) (Err OverLimit)) (lt-leb (accrual + e) limit (omega arith))))

  pub banked-large : lt_z stake (pos 0) ≡ false → None ≡ yield_answer earned → Err OverLimit ≡ banked_answer (bank_accrued_yield rate time stake since accrual)
  unfolding bank_accrued_yield
  banked-large n q =
      let w = large-read earned (not-below n) q in
      sym (ap (λ (t : Bool). cond t (Ok (accrual + up earned)) (Err OverLimit)) (lt-leb (accrual + up earned) limit (omega arith)))
