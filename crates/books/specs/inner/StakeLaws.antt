-- Stake rows keep the laws of a kind of rows. (What an `impl` proves of its members stands in specs.)
use mathlib.Core.Path.{◌≡◌, refl, sym, ap, ◌∙◌}
use mathlib.Core.Logic.{◌≢◌}
use mathlib.Core.List.{List, [], ◌∷◌, ◌++◌}
use Prim.Native.Nat.{ℕ, ◌+◌, ◌*◌, ◌≤◌}
use native.Mathlib.Omega.{arith}
use lib.IntN.{ℤ, nat_abs}
use lib.ListN.{length, get_or, take, drop, length-drop}
use lib.Seq.{get_or-drop, get_or-append-add}
use mir.Syntax.{w64}
use mir.Val.{to_z, SFits}
use borrow.Author.Tests.{leb-true, eq-eqb, ne_eqb}
use Rattle.whole.proofs.Linear.{whole, abs, within-abs}
use Rattle.whole.proofs.Words.{word_back, number-back}
use Rattle.rows.specs.Rows.{word}
use Rattle.rules.specs.Limits.{limit}
use Rattle.rules.specs.Books.{StakeRow}
use Rattle.rules.specs.Formed.{stake_test}
use Rattle.rules.proofs.Tests.{nth, pool-read}
use Rattle.rules.specs.inner.Facts.{StakeOk}
use Rattle.books.specs.Layout.{stake_width, number_word, stake_word}
use Rattle.books.specs.Words.{stake_row_at, stake_words}
use Rattle.books.specs.inner.Kinds.{stake_kind}
use Rattle.books.specs.inner.KindLaws.{KindLaws}
use Rattle.books.specs.inner.Held.{Fit}

-- a row read and written again is its words
five : (l : List ℕ) → stake_width ≤ length l → take stake_width l ≡ get_or l 0 0 ∷ get_or l 1 0 ∷ get_or l 2 0 ∷ get_or l 3 0 ∷ get_or l 4 0 ∷ []
five [] h = absurd (omega arith)
five (a ∷ []) h = absurd (omega arith)
five (a ∷ b ∷ []) h = absurd (omega arith)
five (a ∷ b ∷ c ∷ []) h = absurd (omega arith)
five (a ∷ b ∷ c ∷ d ∷ []) h = absurd (omega arith)
five (a ∷ b ∷ c ∷ d ∷ e ∷ l) h = refl

pub same-words : (s : List ℕ) → Fit s → (i : ℕ) → i * stake_width + stake_width ≤ length s → stake_words (stake_row_at s i) ≡ take stake_width (drop (i * stake_width) s)
same-words s f i h =
    let at : (k : ℕ) → get_or (drop (i * stake_width) s) k 0 ≡ get_or s (i * stake_width + k) 0 = λ k. get_or-drop (i * stake_width) s k 0 in
    sym (five (drop (i * stake_width) s) (omega (arith, length-drop (i * stake_width) s)) ∙ cc (at 0, at 1, at 2, at 3, at 4, word_back (word s stake_width i stake_word) (f (i * stake_width + stake_word))))

small-fits : (z : ℤ) → nat_abs z ≤ limit → SFits w64 z
small-fits z h = omega (arith, whole, abs z)

-- rows of equal figures
same_row : (r : StakeRow) (p a s c : ℕ) (z : ℤ) → p ≡ r.pool → a ≡ r.account → z ≡ r.stake → s ≡ r.since → c ≡ r.accrual
    → record { pool = p; account = a; stake = z; since = s; accrual = c } ≡ r
same_row r p a s c z e f g h i = rw (e, f, g, h, i)

-- a row in order, written and read back
pub stake-back : (p t : List ℕ) (i : ℕ) (r : StakeRow) → StakeOk r → length p ≡ i * stake_width → (stake_row_at (p ++ (stake_words r ++ t)) i ≡ r) × (word (p ++ (stake_words r ++ t)) stake_width i number_word ≢ 0)
stake-back p t i r o h =
    let at : (k : ℕ) → get_or (p ++ (stake_words r ++ t)) (i * stake_width + k) 0 ≡ get_or (stake_words r ++ t) k 0 = λ k. ap (λ (m : ℕ). get_or (p ++ (stake_words r ++ t)) (m + k) 0) (sym h) ∙ get_or-append-add p (stake_words r ++ t) k 0 in
    (same_row r _ _ _ _ _ (at 0) (at 1) (ap (to_z w64) (at 2) ∙ number-back r.stake (small-fits r.stake o.size)) (at 3) (at 4), λ e. omega (arith, at 1, o.number.some))

pub stake_laws : KindLaws stake_kind stake_width
unfolding stake_test
stake_laws = record {
  wide = omega arith;
  narrow = omega arith;
  length_is = λ r. refl;
  key_is = λ r. refl;
  key_words = λ r. refl;
  key_read = λ s i. refl;
  number_read = λ s i. refl;
  same = same-words;
  back = stake-back;
  pooled = λ r e. omega (arith, pool-read r.pool (nth _ e 0));
  small = λ r e. rw (eq-eqb r.pool r.pool refl) (within-abs (leb-true (nat_abs r.stake) limit (nth _ e 5)));
  elsewhere = λ r pool d. rw (ne_eqb r.pool pool (λ e. d (sym e)));
  none = refl;
}
