-- A loss taken on good tables: what the callees ask, and the words after it.
use mathlib.Core.Path.{◌≡◌, refl, sym, ap, ap₂, ◌∙◌, subst⁻¹}
use mathlib.Core.Bool.{Bool, true, false, cond}
use mathlib.Core.List.{List}
use Prim.Native.Nat.{ℕ, ◌-◌, ◌^◌, ◌≤◌, ◌<◌}
use native.Mathlib.Omega.{arith}
use lib.IntN.{pos, ◌-ℤ◌}
use lib.ListN.{length, get_or, set}
use mir.Syntax.{w64}
use mir.Val.{of_z}
use Rattle.std.specs.Prelude.{Result, Ok, Err}
use Rattle.whole.specs.Whole.{up, dn}
use Rattle.whole.proofs.Linear.{whole, one, dif}
use Rattle.whole.proofs.Words.{bits-low, word_of}
use Rattle.rules.specs.Books.{Books, balance_of}
use Rattle.rules.specs.Sharing.{stakes_fit}
use Rattle.rules.specs.declared.refusal.Refusal.{Refusal}
use Rattle.rules.specs.declared.refusal.Refusal.TheVariants as reason
use Rattle.rules.specs.Answers.{Plan, ◌refuses◌else◌, refusal, code_of, OverLimit}
use Rattle.rules.specs.Payouts.{after_loss, loss_over}
use Rattle.rules.specs.inner.Facts.{WellFormed}
use Rattle.rules.proofs.Kept.{loss-formed}
use Rattle.books.specs.Layout.{stake_width}
use Rattle.books.specs.Tables.{room_of, used_of, table_of, table_words}
use Rattle.books.specs.Words.{Tables, tables, stake_row_at, stake_words, books_of, words_of, good_tables, result_of, acted}
use Rattle.books.specs.inner.Held.{Fit, HeldStakes}
use Rattle.books.proofs.Good.{good-formed, stakes-held, words_back, words-good}
use Rattle.books.proofs.Writing.{balance-is, write-stakes}
use Rattle.losses.specs.Loss.{Shareable, after, answer, left}
use Rattle.payouts.specs.inner.Losses.{CanLose, LossTaken}
use Rattle.payouts.proofs.Openings.{code-some}

ok-fits : (v : Bool) (y x : ℕ) → ◌≡◌ {A = Result ℕ Refusal} (Ok y) (cond v (Ok x) (Err reason.OverLimit)) → v ≡ true
ok-fits true y x e = refl
ok-fits false y x e = cc

err-fits : (v : Bool) (r : Refusal) (x : ℕ) → ◌≡◌ {A = Result ℕ Refusal} (Err r) (cond v (Ok x) (Err reason.OverLimit)) → (v ≡ false) × (r ≡ reason.OverLimit)
err-fits true r x e = cc
err-fits false r x e = (refl, cc)

-- ---- what the callees ask of a loss that a pool can take

module _ {s o b : List ℕ} {pool loss : ℕ} (h : CanLose (tables s o b) pool loss) where
  abbrev t : Tables
  t = tables s o b

  abbrev k : Books
  k = books_of t

  abbrev balance : ℕ
  balance = up (balance_of k pool)

  formed : WellFormed k
  formed = good-formed t h.good

  pub held : (n : ℕ) → n ≡ used_of stake_width s → HeldStakes s n
  held n e = subst⁻¹ (HeldStakes s) e (stakes-held t h.good)

  above : (loss ≤ balance) × (dn (balance_of k pool) ≡ 0)
  above = let m = h.most in let n = h.some in (omega (arith, whole, m, n, one (balance_of k pool)), omega (arith, whole, m, n, one (balance_of k pool)))

  balance-whole : pos balance ≡ balance_of k pool
  balance-whole = omega (arith, whole, above.1)

  rows-sum : Shareable pool loss balance (table_of stake_row_at stake_width s)
  unfolding books_of
  rows-sum = record { few = omega (arith, formed.stake-room.lent, formed.stake-room.enough); pool-is = h.pool-is; some = h.some; within = h.within; most = above.0; sum = balance-whole ∙ formed.balance-is pool h.pool-is }

  -- w is the balance as the books' word has it
  module _ {w : ℕ} (fw : w < 2 ^ 64) (e : w ≡ get_or b pool 0) where
    balance-word : w ≡ balance
    balance-word = e ∙ word_of (get_or b pool 0) (balance_of k pool) (let f = e in omega (arith, fw)) (balance-is t pool h.pool-is) ∙ bits-low (balance_of k pool) above.1

    pub shareable : Shareable pool loss w (table_of stake_row_at stake_width s)
    shareable = rw balance-word rows-sum

    pub enough : loss ≤ w
    enough = omega (arith, balance-word, above.0)

    rows-after : after s pool loss w ≡ (after_loss k pool loss).stakes
    unfolding books_of
    rows-after = rw balance-word

    abbrev fits : Bool
    fits = stakes_fit (after_loss k pool loss).stakes

    abbrev lowered : List ℕ
    lowered = table_words stake_words stake_width (room_of stake_width s) (after_loss k pool loss).stakes

    answered : (r : Result ℕ Refusal) → r ≡ answer (after s pool loss w) → r ≡ cond fits (Ok (length (after_loss k pool loss).stakes)) (Err reason.OverLimit)
    answered r e = e ∙ ap answer rows-after

    left_is : {s' : List ℕ} → s' ≡ left s (after s pool loss w) → s' ≡ cond fits lowered s
    left_is f = f ∙ ap (left s) rows-after

    pub loss-taken : {y : ℕ} {s' b' : List ℕ} → Fit s → Fit b → Ok y ≡ answer (after s pool loss w) → s' ≡ left s (after s pool loss w) → b' ≡ set b pool (w - loss) → LossTaken t (tables s' o b') pool loss 0
    unfolding loss_over
    loss-taken {y} {s'} {b'} fs fb e f g =
        let v : fits ≡ true = ok-fits fits y _ (answered (Ok y) e) in
        let z : balance_of k pool -ℤ pos loss ≡ pos (w - loss) = omega (arith, whole, above.0, above.1, balance-word, dif (balance_of k pool) (pos loss)) in
        let x : w - loss ≡ of_z w64 (balance_of k pool -ℤ pos loss) = sym (ap (of_z w64) z) in
        let words : s' ≡ lowered = rw v at (left_is f) in
        record {
          fits = rw v;
          words = rw v (ap₂ (λ (l m : List ℕ). tables l o m) words (g ∙ ap (set b pool) x) ∙ write-stakes s o b h.good fs fb (after_loss k pool loss).stakes pool (balance_of k pool -ℤ pos loss) h.pool-is);
        }

    pub loss-over : (r : Refusal) {s' : List ℕ} → Err r ≡ answer (after s pool loss w) → s' ≡ left s (after s pool loss w) → LossTaken t (tables s' o b) pool loss (code_of r)
    unfolding loss_over
    loss-over r {s'} e f =
        let v = err-fits fits r _ (answered (Err r) e) in
        let words : s' ≡ s = rw v.0 at (left_is f) in
        record { fits = rw (v.0, v.1); words = rw v.0 (ap (λ (l : List ℕ). tables l o b) words) }

-- ---- what a loss that was taken, or was not, comes to

-- one that was taken: the words after it, which are good tables
pub record Taken (t u : Tables) (pool loss : ℕ) : Type 0 where
  pub fits : loss_over (books_of t) pool loss ≡ false
  pub words : u ≡ words_of (after_loss (books_of t) pool loss)
  pub good : good_tables u ≡ true
  pub back : books_of u ≡ after_loss (books_of t) pool loss

pub taken : {t u : Tables} {pool loss : ℕ} → CanLose t pool loss → LossTaken t u pool loss 0 → Taken t u pool loss
taken {t} {u} {pool} {loss} h e =
    let x = go (loss_over (books_of t) pool loss) refl e.fits e.words in
    let m = h.most in
    let n = h.some in
    let f = loss-formed (books_of t) pool loss h.pool-is (omega (arith, whole, m, n)) x.0 (good-formed t h.good) in
    record {
      fits = x.0;
      words = x.1;
      good = subst⁻¹ (λ (v : Tables). good_tables v ≡ true) x.1 (words-good (after_loss (books_of t) pool loss) f);
      back = ap books_of x.1 ∙ words_back (after_loss (books_of t) pool loss) f;
    }
  where
    go : (v : Bool) → loss_over (books_of t) pool loss ≡ v → 0 ≡ cond v OverLimit 0 → u ≡ cond v t (words_of (after_loss (books_of t) pool loss))
        → (loss_over (books_of t) pool loss ≡ false) × (u ≡ words_of (after_loss (books_of t) pool loss))
    go true d f w = absurd (omega (arith, f))
    go false d f w = (d, w)

-- one that was refused, as the last test of a plan
pub loss-refused : {t u : Tables} {pool loss : ℕ} (r : Refusal) → LossTaken t u pool loss (code_of r) → (p : Plan) → result_of (refusal (code_of r)) u ≡ acted t (loss_over (books_of t) pool loss refuses OverLimit else p)
loss-refused {t} {u} {pool} {loss} r e p = go (loss_over (books_of t) pool loss) e.fits e.words
  where
    go : (v : Bool) → code_of r ≡ cond v OverLimit 0 → u ≡ cond v t (words_of (after_loss (books_of t) pool loss)) → result_of (refusal (code_of r)) u ≡ acted t (v refuses OverLimit else p)
    go true f w = ap₂ (λ (n : ℕ) (x : Tables). result_of (refusal n) x) f w
    go false f w = absurd (code-some r f)
