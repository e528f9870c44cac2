-- The cases of `mul_div`, from a product of two limbs h and l, and of `signed_mul_div`, from those of `mul_div`.
use Rattle.std.proofs.Common.{◌≡◌, Some, None, ℕ, zero, suc, ◌+◌, ◌*◌, ◌/◌, ◌%◌, ◌^◌, ◌<◌, ◌≤◌, Bool, true, false, cond, ◌&&◌, ltb, ◌⊎◌, ℤ, pos, nat_abs, sym, refl, ap, ◌∙◌, ap₂, inl, inr, ⊎_elim, mod-lt, zero-lt-suc, le-div_iff_mul-le, arith, w64, to_z, of_z, ltb-false, ltb-true, le-ltb, lt-ltb}
use Rattle.std.proofs.lemmas.Option.{cond_some}
use Rattle.std.proofs.lemmas.Bool.Decides.{nat_tests}
use lib.Signed.{lt_z}
use Rattle.whole.specs.Whole.{signed_z}
use Rattle.whole.specs.Shares.{share, dropped}
use Rattle.whole.proofs.Shares.{share-size, dropped-size, share-signed, dropped-signed}
use Rattle.whole.proofs.Words.{word_of}
use Rattle.limbs.specs.MulDiv.{mul_div, signed_mul_div}
use Rattle.limbs.specs.declared.Divided.{Divided}

abbrev pub divided : ℕ → ℕ → Divided
divided q r = record { quotient = q; remainder = r }

-- ---- of words

-- the upper limb is not below d: d is 0, or the quotient has more than 64 bits
pub too_large : (a b d h l : ℕ) → h * 2 ^ 64 + l ≡ a * b → d ≤ h → None ≡ mul_div a b d
too_large a b zero h l e hh = refl
too_large a b (suc d) h l e hh =
    let large : 2 ^ 64 ≤ a * b / suc d = (le-div_iff_mul-le (zero-lt-suc d)).1 (omega arith) in
    simp (lt-ltb 0 (suc d) (zero-lt-suc d), le-ltb (a * b / suc d) (2 ^ 64) large)

-- what an answer says
pub record Exactly (a b d : ℕ) (v : Divided) : Type 0 where
  pub some : 0 < d
  pub quotient : v.quotient ≡ a * b / d
  pub remainder : v.remainder ≡ a * b % d

-- of a number n that is a, as a callee told it
pub exact_read : (n a b d : ℕ) (v : Divided) → n ≡ a → Some v ≡ mul_div n b d → Exactly a b d v
exact_read n a b d v h e =
    let s = cond_some _ _ _ (sym (e ∙ ap (λ (n : ℕ). mul_div n b d) h)) in
    record {
      some = grind (arith, nat_tests);
      quotient = sym (ap (λ (v : Divided). v.quotient) s.1);
      remainder = sym (ap (λ (v : Divided). v.remainder) s.1);
    }

pub large-read : (a b d : ℕ) → None ≡ mul_div a b d → (d ≡ 0) ⊎ ((0 < d) × (2 ^ 64 ≤ a * b / d))
large-read a b d = go (ltb 0 d) (ltb (a * b / d) (2 ^ 64)) refl refl
  where
    go : (s t : Bool) → ltb 0 d ≡ s → ltb (a * b / d) (2 ^ 64) ≡ t → None ≡ cond (s && t) (Some (divided (a * b / d) (a * b % d))) None → (d ≡ 0) ⊎ ((0 < d) × (2 ^ 64 ≤ a * b / d))
    go true true h k e = absurd (let z : ◌≡◌ {A = ℕ} 0 1 = cc in omega arith)
    go true false h k e = inr (ltb-true 0 d h, ltb-false (a * b / d) (2 ^ 64) k)
    go false t h k e = inl (omega (arith, ltb-false 0 d h))

-- ---- of signed numbers

module _ (x : ℤ) (m d : ℕ) where
  -- for a caller who knows that the quotient fits
  pub signed-exact : 0 < d → d ≤ 2 ^ 63 → nat_abs (share x m d) < 2 ^ 63 → signed_mul_div x m d ≡ Some (divided (of_z w64 (share x m d)) (of_z w64 (dropped x m d)))
  signed-exact some most small =
      simp (lt-ltb 0 d some, lt-ltb (nat_abs (share x m d)) (2 ^ 63) small, lt-ltb (nat_abs (dropped x m d)) (2 ^ 63) (omega (arith, dropped-size x m d, mod-lt (nat_abs x * m) some)))

  -- and for one who knows that it does not
  pub signed-large : 0 < d → 2 ^ 63 ≤ nat_abs (share x m d) → signed_mul_div x m d ≡ None
  signed-large some large = simp (lt-ltb 0 d some, le-ltb (nat_abs (share x m d)) (2 ^ 63) large)

  -- of the magnitude's quotient and remainder v and the sign n: both fit
  pub signed-made : (v : Divided) (n : Bool) (q r : ℕ) → Exactly (nat_abs x) m d v → v.quotient < 2 ^ 63 → v.remainder < 2 ^ 63 → q < 2 ^ 64 → r < 2 ^ 64
      → n ≡ lt_z x (pos 0) → to_z w64 q ≡ signed_z n v.quotient → to_z w64 r ≡ signed_z n v.remainder → Some (divided q r) ≡ signed_mul_div x m d
  signed-made v n q r e hq hr fq fr en eq er =
      let s = share-size x m d in
      let t = dropped-size x m d in
      let quotient : q ≡ of_z w64 (share x m d) = word_of q _ fq (eq ∙ ap₂ signed_z en e.quotient ∙ share-signed x m d) in
      let remainder : r ≡ of_z w64 (dropped x m d) = word_of r _ fr (er ∙ ap₂ signed_z en e.remainder ∙ dropped-signed x m d) in
      ap₂ (λ (q r : ℕ). Some (divided q r)) quotient remainder
      ∙ sym (simp (lt-ltb 0 d e.some, lt-ltb (nat_abs (share x m d)) (2 ^ 63) (omega arith), lt-ltb (nat_abs (dropped x m d)) (2 ^ 63) (omega arith)))

  -- one of them does not
  pub quotient-over : (v : Divided) → Exactly (nat_abs x) m d v → 2 ^ 63 ≤ v.quotient → None ≡ signed_mul_div x m d
  quotient-over v e h = sym (signed-large e.some (omega (arith, share-size x m d)))

  pub remainder-over : (v : Divided) → Exactly (nat_abs x) m d v → v.quotient < 2 ^ 63 → 2 ^ 63 ≤ v.remainder → None ≡ signed_mul_div x m d
  remainder-over v k g h =
      sym (simp (lt-ltb 0 d k.some, lt-ltb (nat_abs (share x m d)) (2 ^ 63) (omega (arith, share-size x m d)), le-ltb (nat_abs (dropped x m d)) (2 ^ 63) (omega (arith, dropped-size x m d))))

  -- the magnitude has no quotient
  pub none_over : (n : ℕ) → n ≡ nat_abs x → None ≡ mul_div n m d → None ≡ signed_mul_div x m d
  none_over n h e =
      ⊎_elim (λ z. sym (simp (le-ltb 0 d (omega arith)))) (λ l. sym (signed-large l.0 (omega (arith, share-size x m d, l.1))))
      (large-read (nat_abs x) m d (e ∙ ap (λ (n : ℕ). mul_div n m d) h))
