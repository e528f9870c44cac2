-- A claim on a covered pool, rung by rung: its plan, on which the books and the words act alike.
use mathlib.Core.Path.{◌≡◌, refl, ap}
use mathlib.Core.Bool.{Bool, true, false, cond}
use Prim.Native.Nat.{ℕ, ◌-◌, ◌≤◌, min}
use native.Mathlib.Omega.{arith}
use borrow.Author.Tests.{eq-eqb, ne_eqb, le-ltb, lt-leb, not-true}
use lib.Dec.{eqb}
use lib.IntN.{pos, ◌-ℤ◌}
use lib.Signed.{lt_z, le_z, ◌≤ℤ◌}
use Rattle.whole.specs.Whole.{up, min_z}
use Rattle.whole.proofs.Linear.{whole, dif, lesser-is}
use Rattle.rules.specs.Limits.{limit, flat}
use Rattle.rules.specs.Books.{Books, balance_of, unpaid_of}
use Rattle.rules.specs.Answers.{Plan, refused, does, ◌refuses◌else◌, enact, not_by, no_transfer, transfer_out, Paused, OverLimit}
use Rattle.rules.specs.Payouts.{cover_of, available, claimable, after_loss, loss_over, after_claim, claim_payout}
use Rattle.rules.specs.Step.{step}
use Rattle.rules.proofs.Tests.{nth, pool-read, number_read}
use Rattle.rules.specs.inner.Facts.{WellFormed}
use Rattle.rules.proofs.Shapes.{shaped}
use Rattle.rules.proofs.Payable.{cover-part}
use Rattle.books.specs.Words.{Tables, books_of, good_tables, acted, step_words}
use Rattle.books.proofs.Good.{good-formed}
use Rattle.promises.specs.Calls.{Account, ClaimCall}
use Rattle.promises.specs.Claims.{Covered, claim_by, Claiming, none_below, PaidOrOver, pays, over}
use Rattle.promises.specs.OnWords.{PaidOrOverOnWords, pays-on-words, over-on-words}
use Rattle.promises.proofs.Falls.{falls_below}

-- the plan pays n, or is refused for a stake that would fall below −10^15
data PaysOrFalls (b : Books) (c : ClaimCall) (n : ℕ) (p : Plan) : Type 0 where
  plan-pays : p ≡ does (pos n) (pos (cover_of b c - n)) (transfer_out c.lender n) no_transfer (after_claim b c n) → PaysOrFalls b c n p
  plan-falls : p ≡ refused OverLimit → none_below (after_loss b c.pool n).stakes ≡ false → PaysOrFalls b c n p

-- the pause is a part of the books, so its rung is passed and not rewritten
pass : (Q : Plan → Type 0) (t : Bool) (k : ℕ) (p : Plan) → t ≡ false → Q p → Q (t refuses k else p)
pass Q t k p e q = rw e q

module _ (b : Books) (w : WellFormed b) (now : ℕ) (signer : Account) (c : ClaimCall) (n : ℕ) (covered : Covered b c.pool) (h : Claiming b now signer c n) where
  -- the offer's cover is part of the unpaid sum, and so of the balance
  part : cover_of b c ≤ unpaid_of b c.pool
  part =
      let s = shaped (claim_by now signer c) h.formed in
      let pool = pool-read c.pool (nth _ s.fields 0) in
      cover-part b w c.pool c.offer (omega arith) (number_read c.offer.0 (nth _ s.fields 1)).word

  enough : (t : Bool) → pos (cover_of b c) ≤ℤ cond t (balance_of b c.pool -ℤ pos (unpaid_of b c.pool - cover_of b c)) (balance_of b c.pool)
  enough true = omega (arith, whole, covered, part, dif (balance_of b c.pool) (pos (unpaid_of b c.pool - cover_of b c)))
  enough false = omega (arith, whole, covered, part)

  -- what is payable: the lesser of the claim and the cover
  abbrev due : ℕ
  due = min n (cover_of b c)

  payable-is : claimable b c ≡ pos due
  payable-is =
      let x = min_z c.amount (pos (cover_of b c)) in
      let a = h.amount in
      let u = enough (eqb c.pool flat) in
      omega (arith, whole, a, u, lesser-is x (available b c), lesser-is c.amount (pos (cover_of b c)))

  loss-most : due ≤ up (balance_of b c.pool)
  loss-most = omega (arith, whole, part)

  last : (t : Bool) → loss_over b c.pool due ≡ t → PaysOrFalls b c due (t refuses OverLimit else does (pos due) (pos (cover_of b c - due)) (transfer_out c.lender due) no_transfer (after_claim b c due))
  unfolding loss_over
  last false f = plan-pays refl
  last true f = plan-falls refl (falls_below c.pool due (up (balance_of b c.pool)) b.stakes loss-most w.stake-rows (not-true _ f))

  claim-plan : PaysOrFalls b c due (claim_payout b signer c)
  unfolding claim_payout not_by
  claim-plan =
      let s = (shaped (claim_by now signer c) h.formed).signer in
      let a = h.amount in
      let by : signer.0 ≡ b.settings.caller.0 = ap (λ (x : Account). x.0) h.by-caller in
      let above : le_z c.amount (pos 0) ≡ false = rw a (lt-leb n 0 (omega (arith, h.some))) in
      let within : lt_z (pos limit) c.amount ≡ false = rw a (le-ltb limit n h.most) in
      pass (PaysOrFalls b c due) b.settings.paused Paused _ h.running
      (rw (ne_eqb b.settings.caller.0 0 (λ z. omega (arith, z, by, s.some)), eq-eqb signer.0 b.settings.caller.0 by, above, within, ne_eqb (cover_of b c) 0 (λ z. omega (arith, z, h.left)))
      (rw (payable-is, ne_eqb due 0 (λ z. omega (arith, z, h.some, h.left))) (last (loss_over b c.pool due) refl)))

-- the call, on books and on good words
on-books : (b : Books) (c : ClaimCall) (n : ℕ) {p : Plan} → PaysOrFalls b c n p → PaidOrOver b c n (enact b p)
on-books b c n (plan-pays e) = pays (rw e)
on-books b c n (plan-falls e f) = over (rw e) f

on-words : (t : Tables) (c : ClaimCall) (n : ℕ) {p : Plan} → PaysOrFalls (books_of t) c n p → PaidOrOverOnWords t c n (acted t p)
on-words t c n (plan-pays e) = pays-on-words (rw e)
on-words t c n (plan-falls e f) = over-on-words (rw e) f

module _ (now : ℕ) (signer : Account) (c : ClaimCall) (n : ℕ) where
  pub claim-step : (b : Books) → WellFormed b → Covered b c.pool → Claiming b now signer c n → PaidOrOver b c (min n (cover_of b c)) (step b (claim_by now signer c))
  unfolding step
  claim-step b w covered h = rw h.formed (on-books b c _ (claim-plan b w now signer c n covered h))

  pub claim-step-on-words : (t : Tables) → good_tables t ≡ true → Covered (books_of t) c.pool → Claiming (books_of t) now signer c n → PaidOrOverOnWords t c (min n (cover_of (books_of t) c)) (step_words t (claim_by now signer c))
  unfolding step_words
  claim-step-on-words t g covered h = rw (h.formed, g) (on-words t c _ (claim-plan (books_of t) (good-formed t g) now signer c n covered h))
