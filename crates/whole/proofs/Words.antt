-- Words and the numbers that they hold, in two's complement: a word's two halves, the bits of a number, and round trips.
use Rattle.std.proofs.Common.{◌≡◌, ℕ, suc, ◌+◌, ◌-◌, ◌^◌, ◌<◌, ◌≤◌, Bool, true, false, ltb, ◌⊎◌, ℤ, pos, negsuc, sym, refl, ap, ◌∙◌, inl, inr, arith, w64, SFits, to_z, of_z, ltb-false, ltb-true}
use mir.ValLaws.{to_z-of_z, of_z-to_z, to_z_pos, to_z-neg, to_z-Fits}
use Rattle.whole.specs.Whole.{up, dn}

-- a word below 2 ^ 63 is its own number, and one from there up is that number less 2 ^ 64
pub low : (w : ℕ) → w < 2 ^ 63 → (up (to_z w64 w) ≡ w) × (dn (to_z w64 w) ≡ 0)
low w h = (ap up (to_z_pos w64 w h), ap dn (to_z_pos w64 w h))

pub high : (w : ℕ) → 2 ^ 63 ≤ w → w < 2 ^ 64 → (up (to_z w64 w) ≡ 0) × (dn (to_z w64 w) + w ≡ 2 ^ 64)
high w h k =
    let v : 2 ^ 64 - suc (2 ^ 64 - suc w) ≡ w = omega arith in
    let e : to_z w64 w ≡ negsuc (2 ^ 64 - suc w) = rw v at (to_z-neg w64 (2 ^ 64 - suc w) (omega arith)) in
    (ap up e, omega (arith, ap dn e))

-- and the bits of a number
pub bits-low : (x : ℤ) → dn x ≡ 0 → of_z w64 x ≡ up x
bits-low (pos n) h = refl
bits-low (negsuc n) h = absurd (omega arith)

-- the round trips
pub word_back : (w : ℕ) → w < 2 ^ 64 → of_z w64 (to_z w64 w) ≡ w
word_back w h = of_z-to_z w64 w (record { fits = h })

pub number-back : (x : ℤ) → SFits w64 x → to_z w64 (of_z w64 x) ≡ x
number-back x f = to_z-of_z w64 x f

-- a word is the bits of what it reads as: from `to_z w64 r ≡ z`, as the functions on words ensure it, to an equation of words
pub word_of : (r : ℕ) (z : ℤ) → r < 2 ^ 64 → to_z w64 r ≡ z → r ≡ of_z w64 z
word_of r z h e = sym (word_back r h) ∙ ap (of_z w64) e

-- a word's number fits
pub word_fits : (w : ℕ) → w < 2 ^ 64 → SFits w64 (to_z w64 w)
word_fits w h = to_z-Fits w64 w (record { fits = h })

-- which half a word lies in, and the parts of its number there
pub record Low (w : ℕ) : Type 0 where
  pub half : w < 2 ^ 63
  pub above : up (to_z w64 w) ≡ w
  pub below : dn (to_z w64 w) ≡ 0

pub record High (w : ℕ) : Type 0 where
  pub half : 2 ^ 63 ≤ w
  pub above : up (to_z w64 w) ≡ 0
  pub below : dn (to_z w64 w) + w ≡ 2 ^ 64

pub halves : (w : ℕ) → w < 2 ^ 64 → Low w ⊎ High w
halves w h = go (ltb w (2 ^ 63)) refl
  where
    go : (t : Bool) → ltb w (2 ^ 63) ≡ t → Low w ⊎ High w
    go true e = let l = low w (ltb-true _ _ e) in inl (record { half = ltb-true _ _ e; above = l.0; below = l.1 })
    go false e = let l = high w (ltb-false _ _ e) h in inr (record { half = ltb-false _ _ e; above = l.0; below = l.1 })
