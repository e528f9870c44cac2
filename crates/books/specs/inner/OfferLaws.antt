-- Offer rows keep the laws of a kind of rows.
use mathlib.Core.Path.{◌≡◌, refl, sym, ap, ◌∙◌}
use mathlib.Core.Logic.{◌≢◌}
use mathlib.Core.List.{List, [], ◌∷◌, ◌++◌}
use Prim.Native.Nat.{ℕ, ◌+◌, ◌*◌, ◌≤◌}
use native.Mathlib.Omega.{arith}
use lib.ListN.{length, get_or, take, drop, length-drop}
use lib.Seq.{get_or-drop, get_or-append-add}
use borrow.Author.Tests.{leb-true, eq-eqb, ne_eqb}
use Rattle.rows.specs.Rows.{word}
use Rattle.rules.specs.Books.{OfferRow}
use Rattle.rules.specs.Limits.{limit}
use Rattle.rules.specs.Formed.{offer_test}
use Rattle.rules.proofs.Tests.{nth, pool-read}
use Rattle.rules.specs.inner.Facts.{OfferOk}
use Rattle.books.specs.Layout.{offer_width, number_word}
use Rattle.books.specs.Words.{offer_row_at, offer_words}
use Rattle.books.specs.inner.Kinds.{offer_kind}
use Rattle.books.specs.inner.KindLaws.{KindLaws}

-- a row read and written again is its words
four : (l : List ℕ) → offer_width ≤ length l → take offer_width l ≡ get_or l 0 0 ∷ get_or l 1 0 ∷ get_or l 2 0 ∷ get_or l 3 0 ∷ []
four [] h = absurd (omega arith)
four (a ∷ []) h = absurd (omega arith)
four (a ∷ b ∷ []) h = absurd (omega arith)
four (a ∷ b ∷ c ∷ []) h = absurd (omega arith)
four (a ∷ b ∷ c ∷ d ∷ l) h = refl

pub same-words : (s : List ℕ) (i : ℕ) → i * offer_width + offer_width ≤ length s → offer_words (offer_row_at s i) ≡ take offer_width (drop (i * offer_width) s)
same-words s i h =
    let at : (k : ℕ) → get_or (drop (i * offer_width) s) k 0 ≡ get_or s (i * offer_width + k) 0 = λ k. get_or-drop (i * offer_width) s k 0 in
    sym (four (drop (i * offer_width) s) (omega (arith, length-drop (i * offer_width) s)) ∙ cc (at 0, at 1, at 2, at 3))

-- rows of equal figures
same_row : (r : OfferRow) (p a s c : ℕ) → p ≡ r.pool → a ≡ r.offer → s ≡ r.reserved → c ≡ r.paid → record { pool = p; offer = a; reserved = s; paid = c } ≡ r
same_row r p a s c e f g h = rw (e, f, g, h)

-- a row in order, written and read back
pub offer-back : (p t : List ℕ) (i : ℕ) (r : OfferRow) → OfferOk r → length p ≡ i * offer_width → (offer_row_at (p ++ (offer_words r ++ t)) i ≡ r) × (word (p ++ (offer_words r ++ t)) offer_width i number_word ≢ 0)
offer-back p t i r o h =
    let at : (k : ℕ) → get_or (p ++ (offer_words r ++ t)) (i * offer_width + k) 0 ≡ get_or (offer_words r ++ t) k 0 = λ k. ap (λ (m : ℕ). get_or (p ++ (offer_words r ++ t)) (m + k) 0) (sym h) ∙ get_or-append-add p (offer_words r ++ t) k 0 in
    (same_row r _ _ _ _ (at 0) (at 1) (at 2) (at 3), λ e. omega (arith, at 1, o.number.some))

pub offer_laws : KindLaws offer_kind offer_width
unfolding offer_test
offer_laws = record {
  wide = omega arith;
  narrow = omega arith;
  length_is = λ r. refl;
  key_is = λ r. refl;
  key_words = λ r. refl;
  key_read = λ s i. refl;
  number_read = λ s i. refl;
  same = λ s f. same-words s;
  back = offer-back;
  pooled = λ r e. omega (arith, pool-read r.pool (nth _ e 0));
  small = λ r e. rw (eq-eqb r.pool r.pool refl) (record { above = omega (arith, leb-true r.reserved limit (nth _ e 3)); below = omega arith });
  elsewhere = λ r pool d. rw (ne_eqb r.pool pool (λ e. d (sym e)));
  none = refl;
}
