-- A head's tests as a reader makes them: the mark and the eight bytes behind it.
use Rattle.std.proofs.Common.{◌≡◌, refl, sym, ◌∙◌, Bool, true, false, not, cond, ◌&&◌, Option, Some, None, List, [], ◌∷◌, ℕ, length, take, arith}
use mathlib.Core.Bool.{true≢false}
use borrow.Author.Tests.{eqb-true, eq-eqb, ne_eqb}
use lib.Dec.{eqb}
use lib.Pointwise.{pointwise}
use Rattle.rules.specs.declared.Account.{Account}
use Rattle.log_file.specs.Bytes.{word_at}
use Rattle.log_file.specs.Opening.{head_bytes, named, versioned, head_of}

-- "`POL`, 16-bit version 1, three zero bytes"
abbrev mark : List ℕ
mark = 80 ∷ 79 ∷ 76 ∷ 1 ∷ 0 ∷ 0 ∷ 0 ∷ 0 ∷ []

in_turn : (a b c d e f g h : Bool) → ((a && b && c) && (d && e && f && g && h)) ≡ (a && (b && (c && (d && (e && (f && (g && (h && true))))))))
in_turn false b c d e f g h = refl
in_turn true false c d e f g h = refl
in_turn true true false d e f g h = refl
in_turn true true true false e f g h = refl
in_turn true true true true false f g h = refl
in_turn true true true true true false g h = refl
in_turn true true true true true true false h = refl
in_turn true true true true true true true false = refl
in_turn true true true true true true true true = refl

marked : (s : List ℕ) → length s ≡ head_bytes → (named s && versioned s) ≡ pointwise eqb (take 8 s) mark
marked (a ∷ b ∷ c ∷ d ∷ e ∷ f ∷ g ∷ h ∷ s) l = in_turn (eqb a 80) (eqb b 79) (eqb c 76) (eqb d 1) (eqb e 0) (eqb f 0) (eqb g 0) (eqb h 0)
marked s l = absurd (omega arith)

neither : (n v x : Bool) → (n && v) ≡ false → (n && v && x) ≡ false
neither false v x e = refl
neither true false x e = refl
neither true true x e = absurd (true≢false e)

both : (n v x : Bool) → (n && v) ≡ true → (n && v && x) ≡ x
both true true x e = refl
both true false x e = absurd (true≢false (sym e))
both false v x e = absurd (true≢false (sym e))

module _ (s : List ℕ) where
  -- another length, another mark, or admin 0
  pub other-length : (length s ≡ head_bytes → ⊥) → None ≡ head_of s
  unfolding head_of
  other-length n = rw (ne_eqb (length s) head_bytes n) refl

  pub other-mark : pointwise eqb (take 8 s) mark ≡ false → None ≡ head_of s
  unfolding head_of
  other-mark e = go (eqb (length s) head_bytes) refl
    where
      go : (t : Bool) → eqb (length s) head_bytes ≡ t → ◌≡◌ {A = Option Account} None (cond (t && named s && versioned s && not (eqb (word_at s 8) 0)) (Some (record { 0 = word_at s 8 })) None)
      go false l = refl
      go true l = rw (neither (named s) (versioned s) (not (eqb (word_at s 8) 0)) (marked s (eqb-true (length s) head_bytes l) ∙ e)) refl

  module _ (e : pointwise eqb (take 8 s) mark ≡ true) (l : length s ≡ head_bytes) where
    good : head_of s ≡ cond (not (eqb (word_at s 8) 0)) (Some (record { 0 = word_at s 8 })) None
    unfolding head_of
    good = rw (eq-eqb (length s) head_bytes l, both (named s) (versioned s) (not (eqb (word_at s 8) 0)) (marked s l ∙ e)) refl

    pub no-admin : word_at s 8 ≡ 0 → None ≡ head_of s
    no-admin z = rw (good, eq-eqb (word_at s 8) 0 z) refl

    pub some-admin : (w : ℕ) → w ≡ word_at s 8 → (w ≡ 0 → ⊥) → Some (record { 0 = w }) ≡ head_of s
    some-admin w p n = rw (good, sym p, ne_eqb w 0 n) refl
