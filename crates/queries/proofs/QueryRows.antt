-- What the queries read of good tables, and what is told of it.
use mathlib.Core.Path.{◌≡◌, refl, sym, ap, ap₂, ◌∙◌, subst⁻¹}
use mathlib.Core.Bool.{Bool, true, false, cond}
use mathlib.Core.List.{List, [], ◌∷◌}
use Prim.Native.Nat.{ℕ, zero, suc, ◌+◌, ◌^◌, ◌≤◌, ◌<◌}
use native.Mathlib.Omega.{arith}
use Rattle.std.proofs.Common.{add-one}
use lib.Dec.{leb}
use lib.IntN.{ℤ, pos, nat_abs}
use lib.ListN.{length, get_or}
use mir.Syntax.{w64}
use mir.Val.{to_z, of_z}
use mir.ValLaws.{to_z_pos}
use Rattle.rules.specs.Limits.{limit, last_time, greatest_rate, two_to64}
use Rattle.rules.specs.Terms.{yield_rate, accrued_sum}
use Rattle.rules.specs.inner.Accrued.{accrued_answer}
use Rattle.std.specs.Prelude.{Result, Ok, Err}
use Rattle.std.specs.List.{filter, range_with_len}
use Rattle.rules.specs.declared.refusal.Refusal.{Refusal}
use Rattle.rules.specs.declared.refusal.Refusal.TheVariants as reason
use Rattle.rules.specs.Table.{count}
use Rattle.rules.specs.Books.{StakeRow, OfferRow, balance_of, unpaid_of, stake_at, offer_at}
use Rattle.rules.specs.Sharing.{sharer}
use Rattle.rules.specs.declared.Account.{Account}
use Rattle.rules.specs.declared.Offer.{Offer}
use Rattle.rules.specs.Answers.{refusal, code_of, OverLimit}
use Rattle.rules.specs.Queries.{told}
use Rattle.rules.proofs.AccruedLaws.{sum-read}
use Rattle.rules.proofs.Tests.{cases}
use Rattle.rules.proofs.Ranges.{rate-most}
use Rattle.rules.proofs.Writes.{old-stake, old-offer}
use Rattle.books.specs.Layout.{stake_width, offer_width, pools, unpaid_words, rate_word}
use Rattle.books.specs.Tables.{rows_from, used_of}
use Rattle.books.specs.Words.{Tables, stake_row_at, books_of, good_tables}
use Rattle.books.specs.inner.Held.{stake_of, stake_for, offer_of, offer_for, HeldStakes, HeldOffers}
use Rattle.books.specs.declared.stakes.Stake.{Stake}
use Rattle.books.specs.declared.offers.OfferLine.{OfferLine}
use Rattle.books.proofs.Good.{good-formed, stakes-held, offers-held, good-unpaid}
use Rattle.books.proofs.Writing.{balance-is, unpaid-is, rate-is, stake-is, offer-is, stakes-are}

-- ---- a count

one-more : (v : Bool) (i : ℕ) (l : List ℕ) (m : ℕ) → length l ≡ m → length (cond v (i ∷ l) l) ≡ cond v (1 + m) m
one-more true i l m e = omega arith
one-more false i l m e = e

-- of the rows from row i on that pass a test, by their indices
pub count-rows : {A : Type 0} (f : A → Bool) (row_at : List ℕ → ℕ → A) (s : List ℕ) (i n : ℕ) → length (filter (λ k. f (row_at s k)) (range_with_len i n)) ≡ count f (rows_from row_at s i n)
unfolding count rows_from
count-rows f row_at s i zero = refl
count-rows f row_at s i (suc n) = one-more (f (row_at s i)) i _ _ (count-rows f row_at s (i + 1) n ∙ ap (λ (k : ℕ). count f (rows_from row_at s k n)) (add-one i))

count_most : {A : Type 0} (f : A → Bool) (l : List A) → count f l ≤ length l
unfolding count
count_most f [] = omega arith
count_most f (x ∷ l) = cases (f x) (1 + count f l) (count f l) (λ n. n ≤ suc (length l)) (λ e. omega (arith, count_most f l)) (λ e. omega (arith, count_most f l))

-- ---- on good tables

module _ (t : Tables) (g : good_tables t ≡ true) where
  pub stakes-found : (n : ℕ) → n ≡ used_of stake_width t.stakes → HeldStakes t.stakes n
  stakes-found n e = subst⁻¹ (λ (m : ℕ). HeldStakes t.stakes m) e (stakes-held t g)

  pub offers-found : (n : ℕ) → n ≡ used_of offer_width t.offers → HeldOffers t.offers n
  offers-found n e = subst⁻¹ (λ (m : ℕ). HeldOffers t.offers m) e (offers-held t g)

  pub stake-told : (pool : ℕ) (account : Account) (row : Stake) → stake_of row ≡ stake_for pool account t.stakes → told (to_z w64 row.stake) (pos 0) ≡ told (stake_at (books_of t) pool account).stake (pos 0)
  stake-told pool account row e = ap (λ (r : StakeRow). told r.stake (pos 0)) (e ∙ stake-is t pool account)

  -- a pool's figures
  module _ (pool : ℕ) (h : pool < pools) (balance unpaid : ℕ) (e : balance ≡ get_or t.books pool 0) (f : unpaid ≡ get_or t.books (unpaid_words + pool) 0) where
    pub unpaid-small : unpaid < 2 ^ 63
    unpaid-small = omega (arith, f, unpaid-is t pool h, good-unpaid t g pool h)

    pub pool-told : told (to_z w64 balance) (pos unpaid) ≡ told (balance_of (books_of t) pool) (pos (unpaid_of (books_of t) pool))
    pool-told = ap₂ (λ (z : ℤ) (n : ℕ). told z (pos n)) (ap (to_z w64) e ∙ balance-is t pool h) (f ∙ unpaid-is t pool h)

  -- the stakers
  pub count-told : (pool used n : ℕ) → used ≡ used_of stake_width t.stakes → n ≡ count (sharer pool) (rows_from stake_row_at t.stakes 0 used)
      → told (to_z w64 n) (pos 0) ≡ told (pos (count (sharer pool) (books_of t).stakes)) (pos 0)
  count-told pool used n e f =
      let c : n ≡ count (sharer pool) (books_of t).stakes = f ∙ ap (λ (m : ℕ). count (sharer pool) (rows_from stake_row_at t.stakes 0 m)) e ∙ ap (count (sharer pool)) (sym (stakes-are t)) in
      let r = (good-formed t g).stake-room in
      ap (λ (z : ℤ). told z (pos 0)) (to_z_pos w64 n (omega (arith, c, count_most (sharer pool) (books_of t).stakes, r.lent, r.enough)) ∙ ap pos c)

  -- an offer's figures
  module _ (pool : ℕ) (offer : Offer) (word : offer.0 < two_to64) (row : OfferLine) (e : offer_of row ≡ offer_for pool offer t.offers) where
    row_is : offer_of row ≡ offer_at (books_of t) pool offer
    row_is = e ∙ offer-is t pool offer

    reserved-is : row.reserved ≡ (offer_at (books_of t) pool offer).reserved
    reserved-is = ap (λ (r : OfferRow). r.reserved) row_is

    paid-is : row.paid ≡ (offer_at (books_of t) pool offer).paid
    paid-is = ap (λ (r : OfferRow). r.paid) row_is

    pub paid-small : row.paid < 2 ^ 63
    paid-small = let o = old-offer (books_of t) (good-formed t g).offer-rows pool offer word in omega (arith, paid-is, o.most, o.covered)

    pub offer-told : told (to_z w64 row.reserved) (pos row.paid) ≡ told (pos (offer_at (books_of t) pool offer).reserved) (pos (offer_at (books_of t) pool offer).paid)
    offer-told =
        let o = old-offer (books_of t) (good-formed t g).offer-rows pool offer word in
        ap₂ (λ (z : ℤ) (n : ℕ). told z (pos n)) (to_z_pos w64 row.reserved (omega (arith, reserved-is, o.most)) ∙ ap pos reserved-is) paid-is

  -- what a row that is read shows as accrued, at the rate that it earns at
  module _ (time pool : ℕ) (account : Account) (row : Stake) (found : stake_of row ≡ stake_for pool account t.stakes)
      (flat rate : ℕ) (of_books : flat ≡ get_or t.books rate_word 0) (of_pool : rate ≡ yield_rate flat pool) where
    row_of : stake_of row ≡ stake_at (books_of t) pool account
    row_of = found ∙ stake-is t pool account

    pub summable : account.0 < two_to64 → time ≤ last_time → (rate ≤ greatest_rate) × (time ≤ last_time) × (row.accrual ≤ limit)
    summable word h =
        let accrued = ap (λ (r : StakeRow). r.accrual) row_of in
        (omega (arith, of_pool, rate-most flat pool (omega (arith, of_books, rate-is t, (good-formed t g).rate-most))), h, omega (arith, accrued, (old-stake (books_of t) (good-formed t g) pool account word).accrued))

    abbrev shown : ℤ
    shown = let r = stake_at (books_of t) pool account in accrued_sum (yield_rate (books_of t).settings.rate pool) time r.stake r.since r.accrual

    module _ (sum : Result ℕ Refusal) (is : sum ≡ accrued_answer (accrued_sum rate time (to_z w64 row.stake) row.since row.accrual)) where
      sum-is : sum ≡ accrued_answer shown
      sum-is = is ∙ ap₂ (λ (n : ℕ) (r : StakeRow). accrued_answer (accrued_sum n time r.stake r.since r.accrual)) (of_pool ∙ ap (λ (n : ℕ). yield_rate n pool) (of_books ∙ rate-is t)) row_of

      -- what is told of it: the sum where it is within its limits
      pub accrued-told : (n : ℕ) → sum ≡ Ok n → told (to_z w64 n) (pos 0) ≡ cond (leb (nat_abs shown) limit) (told shown (pos 0)) (refusal OverLimit)
      accrued-told n e = let p = sum-read shown n (sym e ∙ sum-is) in rw (p.0, p.1)

      pub accrued-over : (r : Refusal) → sum ≡ Err r → refusal (code_of r) ≡ cond (leb (nat_abs shown) limit) (told shown (pos 0)) (refusal OverLimit)
      accrued-over r e = go (leb (nat_abs shown) limit) (sym e ∙ sum-is)
        where
          go : (within : Bool) → Err r ≡ cond within (Ok (of_z w64 shown)) (Err reason.OverLimit) → refusal (code_of r) ≡ cond within (told shown (pos 0)) (refusal OverLimit)
          go true q = absurd (let k : ◌≡◌ {A = ℕ} 0 1 = cc in omega arith)
          go false q = let e : r ≡ reason.OverLimit = cc in ap (λ (y : Refusal). refusal (code_of y)) e
