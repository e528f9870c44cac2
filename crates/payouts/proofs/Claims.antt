-- Claim: the plan of what is settled is the rules', a settled payment can be written, and what the code settles is `claim_settled`.
use mathlib.Core.Path.{◌≡◌, refl, sym, ap, ap₂, ◌∙◌, subst⁻¹}
use mathlib.Core.Bool.{Bool, true, false, cond}
use mathlib.Core.List.{List}
use Prim.Native.Nat.{ℕ, ◌+◌, ◌-◌, ◌^◌, ◌≤◌, ◌<◌}
use native.Mathlib.Omega.{arith}
use borrow.Author.Tests.{eq-eqb, ne_eqb, eqb-true}
use lib.Dec.{eqb}
use lib.IntN.{ℤ, pos, ◌-ℤ◌}
use lib.ListN.{length}
use lib.Signed.{mag}
use mir.Syntax.{w64}
use mir.Val.{to_z, of_z}
use Rattle.std.specs.Prelude.{Result, Ok, Err, IsErrAnd}
use Rattle.whole.specs.Whole.{up, min_z}
use Rattle.whole.proofs.Linear.{whole, one, dif, lesser-is}
use Rattle.rules.specs.Limits.{limit, flat}
use Rattle.rules.specs.Books.{Books, OfferRow, offer_key, offer_gone, no_offer, offer_at, put_offer, cover, balance_of, unpaid_of}
use Rattle.rules.specs.declared.Account.{Account}
use Rattle.rules.specs.declared.refusal.Refusal.{Refusal}
use Rattle.rules.specs.declared.answers.Done.{Done}
use Rattle.rules.specs.declared.ClaimCall.{ClaimCall}
use Rattle.rules.specs.Answers.{Plan, refused, does, Answer, answer_of, answers, ◌refuses◌else◌, code_of, done, no_transfer, transfer_out, InsufficientBalance, OverLimit}
use Rattle.rules.specs.Payouts.{after_loss, loss_over, cover_of, claimable, claimed_row, after_claim, claim_payout}
use Rattle.rules.specs.inner.Facts.{WellFormed}
use Rattle.rules.proofs.Tests.{cases}
use Rattle.rules.proofs.Kept.{room-found}
use Rattle.rules.proofs.Writes.{OldOffer, old-offer}
use Rattle.rules.proofs.Payable.{cover-part}
use Rattle.books.specs.Layout.{offer_width, pools}
use Rattle.books.specs.Tables.{used_of}
use Rattle.books.specs.inner.Held.{offer_of}
use Rattle.books.specs.Words.{Tables, tables, balance_in, unpaid_in, books_of, words_of, good_tables, result_of, acted}
use Rattle.books.proofs.Good.{good-formed}
use Rattle.books.proofs.Writing.{balance-is, unpaid-is}
use Rattle.payouts.specs.Payouts.{ClaimAsked}
use Rattle.payouts.specs.declared.offer.OfferState.{OfferState}
use Rattle.payouts.specs.declared.offer.OfferChange.{OfferChange}
use Rattle.payouts.specs.inner.Openings.{caller_code, opening, settings_alone}
use Rattle.payouts.specs.inner.Offers.{found_in, state_of, change_of, CanWriteOffer, offer_written}
use Rattle.payouts.specs.inner.Losses.{CanLose, LossTaken}
use Rattle.payouts.specs.inner.Amounts.{Claimable, claimable_of}
use Rattle.payouts.specs.inner.Settled.{claim_settled}
use Rattle.payouts.proofs.Openings.{Past, passed-answer, by_code, past-opened, goes-on}
use Rattle.payouts.proofs.OfferWrites.{found-is}
use Rattle.payouts.proofs.LossWrites.{loss-refused, taken}
use Rattle.payouts.proofs.PoolFigures.{pool-figures}

-- the plan of what is settled, and what its answer and its writing ask
abbrev pub claimed_plan : Books → ClaimCall → Result OfferChange ℕ → Plan
claimed_plan b c (Err k) = refused k
claimed_plan b c (Ok p) =
    let left = cover (offer_of p.offer.row) in
    cond (eqb p.amount 0) (answers (pos 0) (pos left) b)
    (loss_over b c.pool p.amount refuses OverLimit else
    does (pos p.amount) (pos left) (transfer_out c.lender p.amount) no_transfer (offer_written (after_loss b c.pool p.amount) p.offer))

pub record ClaimFits (t : Tables) (pool : ℕ) (p : OfferChange) : Type 0 where
  pub covered : p.offer.row.paid ≤ p.offer.row.reserved
  pub most : p.offer.row.reserved ≤ limit
  pub lose : (p.amount ≡ 0 → ⊥) → CanLose t pool p.amount
  pub write : (p.amount ≡ 0 → ⊥) → CanWriteOffer t p.offer

abbrev pub ClaimReady : Tables → ℕ → Result OfferChange ℕ → Type 0
ClaimReady t pool (Err k) = Unit {0}
ClaimReady t pool (Ok p) = ClaimFits t pool p

module _ (stakes offers words : List ℕ) (g : good_tables (tables stakes offers words) ≡ true) (signer : Account) (c : ClaimCall) (q : ClaimAsked c) where
  abbrev t : Tables
  t = tables stakes offers words

  abbrev b : Books
  b = books_of t

  abbrev old : OfferRow
  old = offer_at b c.pool c.offer

  abbrev n : ℕ
  n = up (claimable b c)

  abbrev code : ℕ
  code = caller_code b signer c.amount

  -- what is paid
  abbrev payment : OfferChange
  payment = change_of t n (claimed_row b c n) (unpaid_of b c.pool - n)

  formed : WellFormed b
  formed = good-formed t g

  pub pool-is : c.pool < pools
  pool-is = omega (arith, q.pool)

  old-is : OldOffer c.pool c.offer old
  old-is = old-offer b formed.offer-rows c.pool c.offer q.offer.word

  part : cover_of b c ≤ unpaid_of b c.pool
  part = cover-part b formed c.pool c.offer pool-is q.offer.word

  left : cover (claimed_row b c n) ≡ cover_of b c - n
  left = omega arith

  plan-is : claimed_plan b c (claim_settled t signer c) ≡ claim_payout b signer c
  unfolding claim_settled claim_payout
  plan-is = go (eqb code 0) (eqb (cover_of b c) 0) ∙ sym (by_code b signer c.amount _)
    where
      paying : (v : Bool) → (v ≡ true → n ≡ 0) → cond v (answers (pos 0) (pos (cover (claimed_row b c n))) b)
          (loss_over b c.pool n refuses OverLimit else does (pos n) (pos (cover (claimed_row b c n))) (transfer_out c.lender n) no_transfer (after_claim b c n))
          ≡ cond v (answers (pos 0) (pos (cover_of b c)) b) (loss_over b c.pool n refuses OverLimit else does (pos n) (pos (cover_of b c - n)) (transfer_out c.lender n) no_transfer (after_claim b c n))
      paying true z = let m = z refl in ap (λ (x : ℕ). answers (pos 0) (pos x) b) (left ∙ omega (arith, m))
      paying false z = ap (λ (x : ℕ). loss_over b c.pool n refuses OverLimit else does (pos n) (pos x) (transfer_out c.lender n) no_transfer (after_claim b c n)) left

      go : (z u : Bool) → claimed_plan b c (cond z (cond u (Err InsufficientBalance) (Ok payment)) (Err code))
          ≡ cond z (u refuses InsufficientBalance else cond (eqb n 0) (answers (pos 0) (pos (cover_of b c)) b)
          (loss_over b c.pool n refuses OverLimit else does (pos n) (pos (cover_of b c - n)) (transfer_out c.lender n) no_transfer (after_claim b c n))) (refused code)
      go true true = refl
      go true false = paying (eqb n 0) (eqb-true n 0)
      go false u = refl

  -- ---- what a claim that pays comes to

  below-balance : (v : ℤ) (m : ℕ) (u : Bool) → up (cond u (v -ℤ pos m) v) ≤ up v
  below-balance v m true = omega (arith, dif v (pos m), one v, one (v -ℤ pos m))
  below-balance v m false = omega arith

  record Least : Type 0 where
    pub cover : n ≤ cover_of b c
    pub balance : n ≤ up (balance_of b c.pool)

  least : Least
  least =
      let v : ℤ = balance_of b c.pool in
      let m : ℕ = unpaid_of b c.pool - cover_of b c in
      let x : ℤ = min_z c.amount (pos (cover_of b c)) in
      let y : ℤ = cond (eqb c.pool flat) (v -ℤ pos m) v in
      let f = lesser-is x y in
      let k = lesser-is c.amount (pos (cover_of b c)) in
      let h = below-balance v m (eqb c.pool flat) in
      record { cover = omega (arith, f, k, one (claimable b c), one x, one c.amount); balance = omega (arith, f, h, one (claimable b c), one x, one y) }

  can-lose : (n ≡ 0 → ⊥) → CanLose t c.pool n
  can-lose some =
      let l = least in
      let h : 0 < n = omega (arith, some) in
      record { good = g; pool-is = pool-is; some = h; within = omega (arith, l.cover, old-is.most); most = omega (arith, whole, l.balance, h, one (balance_of b c.pool)) }

  can_write : (n ≡ 0 → ⊥) → CanWriteOffer t payment.offer
  can_write some =
      let l = least in
      let o = old-is in
      let h : 0 < n = omega (arith, some) in
      record {
        good = g;
        used-is = refl;
        fine = record { pool = q.pool; number = q.offer; some = omega (arith, h, l.cover); most = o.most; covered = omega (arith, l.cover, o.covered) };
        room = room-found offer_key offer_gone (claimed_row b c n) b.offers b.rooms.offers formed.offer-room.enough (no_offer c.pool c.offer)
            (λ f. let z = ap (λ (x : OfferRow). x.reserved) f in omega (arith, z, h, l.cover));
      }

  ready : ClaimReady t c.pool (claim_settled t signer c)
  unfolding claim_settled
  ready =
      cases (eqb code 0) _ _ (ClaimReady t c.pool)
      (λ z. cases (eqb (cover_of b c) 0) _ _ (ClaimReady t c.pool) (λ e. tt)
      (λ e. record { covered = omega (arith, least.cover, old-is.covered); most = old-is.most; lose = can-lose; write = can_write }))
      (λ z. tt)

  -- and so of an answer that is what is settled
  pub settled : (x : Result OfferChange ℕ) → x ≡ claim_settled t signer c → (claimed_plan b c x ≡ claim_payout b signer c) × ClaimReady t c.pool x
  settled x e = (ap (claimed_plan b c) e ∙ plan-is, subst⁻¹ (ClaimReady t c.pool) e ready)

  -- ---- a claim p that was settled

  module _ {p : OfferChange} (e : Ok p ≡ claim_settled t signer c) where
    plan : claimed_plan b c (Ok p) ≡ claim_payout b signer c
    plan = (settled (Ok p) e).0

    pub fits : ClaimFits t c.pool p
    fits = (settled (Ok p) e).1

    pub nothing : {k : ℕ} → k ≡ cover (offer_of p.offer.row) → p.amount ≡ 0 → answers (pos 0) (pos k) b ≡ claim_payout b signer c
    nothing e z = rw e (rw (eq-eqb p.amount 0 z) at plan)

    module _ (some : p.amount ≡ 0 → ⊥) where
      pays : (loss_over b c.pool p.amount refuses OverLimit else
          does (pos p.amount) (pos (cover (offer_of p.offer.row))) (transfer_out c.lender p.amount) no_transfer (offer_written (after_loss b c.pool p.amount) p.offer)) ≡ claim_payout b signer c
      pays = rw (ne_eqb p.amount 0 some) at plan

      -- once its loss was refused or taken: the words are u then, and v when the offer is written
      pub over-limit : {u : Tables} (r : Refusal) → LossTaken t u c.pool p.amount (code_of r) → (out : Result Done Refusal) → IsErrAnd out (λ x. x ≡ r) → result_of (answer_of out) u ≡ acted t (claim_payout b signer c)
      over-limit {u} r l out d =
          ap (λ (x : Answer). result_of x u) (passed-answer r out d) ∙ loss-refused r l _ ∙ ap (acted t) pays

      pub still_writes : {u : Tables} → LossTaken t u c.pool p.amount 0 → u.offers ≡ t.offers → CanWriteOffer u p.offer
      still_writes l same =
          let h = fits.write some in
          let x = taken (fits.lose some) l in
          record {
            good = x.good;
            used-is = h.used-is ∙ ap (used_of offer_width) (sym same);
            fine = h.fine;
            room = subst⁻¹ (λ (k : Books). length (put_offer k (offer_of p.offer.row)) ≤ k.rooms.offers) x.back h.room;
          }

      pub claim_done : {u v : Tables} → LossTaken t u c.pool p.amount 0 → v ≡ words_of (offer_written (books_of u) p.offer) → {k : ℕ} → k ≡ cover (offer_of p.offer.row) → (a : Answer)
          → a ≡ done (pos p.amount) (pos k) (transfer_out c.lender p.amount) no_transfer → result_of a v ≡ acted t (claim_payout b signer c)
      claim_done l w ek a d =
          let x = taken (fits.lose some) l in
          ap₂ result_of (d ∙ ap (λ (y : ℕ). done (pos p.amount) (pos y) (transfer_out c.lender p.amount) no_transfer) ek) (w ∙ ap (λ (y : Books). words_of (offer_written y p.offer)) x.back)
          ∙ ap (acted t) (rw x.fits at pays)

  -- ---- what the code settles: w is the amount, once the first tests are past, f the offer that was found, and k its cover

  module _ (small : mag c.amount < 2 ^ 63) {w : ℕ} (e : Ok w ≡ opening (settings_alone words) signer (to_z w64 (of_z w64 c.amount))) {f : OfferState} (ef : f ≡ found_in offers words c.pool c.offer) where
    past : Past b signer c.amount w
    past = past-opened t signer c.amount small w e

    held : f ≡ state_of t old (unpaid_of b c.pool)
    held = ef ∙ found-is t c.pool c.offer pool-is

    pub covered : f.row.paid ≤ f.row.reserved
    covered = rw held old-is.covered

    module _ {k : ℕ} (ek : k ≡ cover (offer_of f.row)) where
      cover-is : k ≡ cover_of b c
      cover-is = ek ∙ ap (λ (x : OfferState). cover (offer_of x.row)) held

      on : (u : Bool) → eqb (cover_of b c) 0 ≡ u → cond u (Err InsufficientBalance) (Ok payment) ≡ claim_settled t signer c
      unfolding claim_settled
      on u eu = rw (sym eu) (goes-on b signer c.amount w past _)

      pub no_cover : k ≡ 0 → Err InsufficientBalance ≡ claim_settled t signer c
      no_cover z = on true (eq-eqb (cover_of b c) 0 (sym cover-is ∙ z))

      pub can_claim : Claimable words c.pool w k
      can_claim = rw cover-is (record { figures = pool-figures t g c.pool w pool-is past.most; part = omega (arith, unpaid-is t c.pool pool-is, part); small = omega (arith, old-is.most) })

      -- m is what is paid
      module _ {m : ℕ} (em : m ≡ up (claimable_of words c.pool w k)) where
        paid : m ≡ n
        paid =
            let v : ℤ = cond (eqb c.pool flat) (balance_in words c.pool -ℤ pos (unpaid_in words c.pool - cover_of b c)) (balance_in words c.pool) in
            em ∙ rw cover-is (ap (λ (x : ℤ). up (min_z (min_z x (pos (cover_of b c))) v)) past.whole_is ∙ rw (balance-is t c.pool pool-is, unpaid-is t c.pool pool-is))

        pub enough : m ≤ f.unpaid
        enough = let x = ap (λ (y : OfferState). y.unpaid) held in omega (arith, paid, x, least.cover, part)

        pub settles : (k ≡ 0 → ⊥) → Ok (record {
          amount = m;
          offer = record { used = f.used; row = record { pool = f.row.pool; offer = f.row.offer; reserved = f.row.reserved; paid = f.row.paid + m }; unpaid = f.unpaid - m };
        }) ≡ claim_settled t signer c
        settles some = rw (held, paid, old-is.its-pool, old-is.its-offer) (on false (ne_eqb (cover_of b c) 0 (λ z. some (cover-is ∙ z))))
