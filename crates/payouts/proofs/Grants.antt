-- Reserve: the plan of what is settled is the rules', a settled grant can be written, and what the code settles is `reserve_settled`.
use mathlib.Core.Path.{◌≡◌, refl, sym, ap, ap₂, ◌∙◌, subst⁻¹}
use mathlib.Core.Bool.{Bool, true, false, cond, ◌&&◌}
use mathlib.Core.List.{List}
use Prim.Native.Nat.{ℕ, ◌+◌, ◌-◌, ◌^◌, ◌≤◌, ◌<◌}
use native.Mathlib.Omega.{arith}
use borrow.Author.Tests.{eq-eqb, ne_eqb, eqb-false, le-ltb, lt-ltb, ltb-false}
use lib.Dec.{ltb, leb, eqb}
use lib.IntN.{pos}
use lib.ListN.{length}
use lib.Signed.{mag}
use mir.Syntax.{w64}
use mir.Val.{to_z, of_z}
use Rattle.std.specs.Prelude.{Option, Some, None, Result, Ok, Err}
use Rattle.whole.specs.Whole.{up}
use Rattle.rules.specs.Limits.{limit}
use Rattle.rules.specs.Table.{key_of}
use Rattle.rules.specs.Books.{Books, OfferRow, offer_key, offer_gone, no_offer, offer_at, unpaid_of}
use Rattle.rules.specs.declared.Account.{Account}
use Rattle.rules.specs.declared.ReserveCall.{ReserveCall}
use Rattle.rules.specs.Answers.{Plan, refused, Answer, answers, ◌refuses◌else◌, done, no_transfer, OverLimit, TableFull}
use Rattle.rules.specs.Payouts.{grantable, granted_row, after_grant, no_offer_room, reserve_payout}
use Rattle.rules.specs.inner.Facts.{OfferOk, WellFormed}
use Rattle.rules.proofs.Tests.{cases}
use Rattle.rules.proofs.Rooms.{has-gone}
use Rattle.rules.proofs.Kept.{room_for}
use Rattle.rules.proofs.Writes.{OldOffer, old-offer}
use Rattle.books.specs.Layout.{offer_width, pools}
use Rattle.books.specs.Tables.{room_of, used_of}
use Rattle.books.specs.Words.{Tables, tables, offer_row_at, books_of, words_of, good_tables, result_of, acted}
use Rattle.books.proofs.Lists.{rows-length}
use Rattle.books.proofs.Good.{good-formed}
use Rattle.books.proofs.Writing.{balance-is, unpaid-is, offer-room-is}
use Rattle.payouts.specs.Payouts.{ReserveAsked}
use Rattle.payouts.specs.declared.offer.OfferState.{OfferState}
use Rattle.payouts.specs.declared.offer.OfferChange.{OfferChange}
use Rattle.payouts.specs.inner.Openings.{caller_code, opening, settings_alone}
use Rattle.payouts.specs.inner.Offers.{found_in, state_of, change_of, CanWriteOffer, offer_written}
use Rattle.payouts.specs.inner.Amounts.{Grantable, grantable_of}
use Rattle.payouts.specs.inner.Settled.{reserve_settled}
use Rattle.payouts.proofs.Openings.{Past, by_code, past-opened, goes-on}
use Rattle.payouts.proofs.OfferWrites.{found-is}
use Rattle.payouts.proofs.PoolFigures.{pool-figures}

-- the plan of what is settled, and what its writing asks
abbrev pub reserved_plan : Books → Result (Option OfferChange) ℕ → Plan
reserved_plan b (Err k) = refused k
reserved_plan b (Ok None) = answers (pos 0) (pos 0) b
reserved_plan b (Ok (Some p)) = answers (pos p.amount) (pos 0) (offer_written b p.offer)

abbrev pub ReserveReady : Tables → Result (Option OfferChange) ℕ → Type 0
ReserveReady t (Err k) = Unit {0}
ReserveReady t (Ok None) = Unit {0}
ReserveReady t (Ok (Some p)) = CanWriteOffer t p.offer × (p.amount < 2 ^ 63)

module _ (stakes offers words : List ℕ) (g : good_tables (tables stakes offers words) ≡ true) (signer : Account) (c : ReserveCall) (q : ReserveAsked c) where
  abbrev t : Tables
  t = tables stakes offers words

  abbrev b : Books
  b = books_of t

  abbrev old : OfferRow
  old = offer_at b c.pool c.offer

  abbrev n : ℕ
  n = up (grantable b c)

  abbrev code : ℕ
  code = caller_code b signer c.amount

  -- what is granted
  abbrev grant : OfferChange
  grant = change_of t n (granted_row b c n) (unpaid_of b c.pool + n)

  formed : WellFormed b
  formed = good-formed t g

  old-is : OldOffer c.pool c.offer old
  old-is = old-offer b formed.offer-rows c.pool c.offer q.offer.word

  pub pool-is : c.pool < pools
  pool-is = omega (arith, q.pool)

  -- past the first tests, of what the next ones come to
  abbrev next : Bool → Bool → Bool → Result (Option OfferChange) ℕ
  next u v w = cond u (Ok None) (cond v (Err OverLimit) (cond w (Err TableFull) (Ok (Some grant))))

  plan-is : reserved_plan b (reserve_settled t signer c) ≡ reserve_payout b signer c
  unfolding reserve_settled reserve_payout
  plan-is = go (eqb code 0) (eqb n 0) (ltb limit (old.reserved + n)) (no_offer_room b c) ∙ sym (by_code b signer c.amount _)
    where
      go : (z u v w : Bool) → reserved_plan b (cond z (next u v w) (Err code))
          ≡ cond z (cond u (answers (pos 0) (pos 0) b) (v refuses OverLimit else w refuses TableFull else answers (pos n) (pos 0) (after_grant b c n))) (refused code)
      go true true v w = refl
      go true false true w = refl
      go true false false true = refl
      go true false false false = refl
      go false u v w = refl

  can_write : (n ≡ 0 → ⊥) → old.reserved + n ≤ limit → no_offer_room b c ≡ false → CanWriteOffer t grant.offer
  unfolding no_offer_room
  can_write some fits e = record {
    good = g;
    used-is = refl;
    fine = record { pool = q.pool; number = q.offer; some = omega (arith, some); most = fits; covered = omega (arith, old-is.covered) };
    room = room_for offer_key offer_gone (granted_row b c n) b.offers b.rooms.offers formed.offer-room.enough e;
  }

  ready : ReserveReady t (reserve_settled t signer c)
  unfolding reserve_settled
  ready =
      cases (eqb code 0) _ _ (ReserveReady t)
      (λ z. cases (eqb n 0) _ _ (ReserveReady t) (λ e. tt)
      (λ e. cases (ltb limit (old.reserved + n)) _ _ (ReserveReady t) (λ e. tt)
      (λ f. cases (no_offer_room b c) _ _ (ReserveReady t) (λ e. tt)
      (λ r. let l = ltb-false limit (old.reserved + n) f in (can_write (eqb-false n 0 e) l r, omega (arith, l))))))
      (λ z. tt)

  -- and so of an answer that is what is settled
  pub settled : (x : Result (Option OfferChange) ℕ) → x ≡ reserve_settled t signer c → (reserved_plan b x ≡ reserve_payout b signer c) × ReserveReady t x
  settled x e = (ap (reserved_plan b) e ∙ plan-is, subst⁻¹ (ReserveReady t) e ready)

  -- of a grant that was settled and written: the words are u then
  pub grant_done : {p : OfferChange} → Ok (Some p) ≡ reserve_settled t signer c → {u : Tables} → u ≡ words_of (offer_written b p.offer) → (a : Answer) → a ≡ done (pos p.amount) (pos 0) no_transfer no_transfer
      → result_of a u ≡ acted t (reserve_payout b signer c)
  grant_done e w a d = ap₂ result_of d w ∙ ap (acted t) (settled _ e).0

  -- ---- what the code settles: w is the amount, once the first tests are past, and f the offer that was found

  offers-count : length b.offers ≡ used_of offer_width t.offers
  unfolding books_of
  offers-count = rows-length offer_row_at t.offers 0 (used_of offer_width t.offers)

  room-is : (eqb old.reserved 0 && leb (room_of offer_width offers) (used_of offer_width offers)) ≡ no_offer_room b c
  unfolding no_offer_room
  room-is =
      let x = has-gone offer_key OfferOk offer_gone (no_offer c.pool c.offer) (key_of c.pool c.offer.0) refl (λ y ok. ne_eqb y.reserved 0 (λ z. omega (arith, ok.some))) 0 b.offers formed.offer-rows in
      ap₂ (λ (k l : Bool). k && l) (sym x) (ap₂ leb (offer-room-is t) (sym offers-count))

  module _ (small : mag c.amount < 2 ^ 63) {w : ℕ} (e : Ok w ≡ opening (settings_alone words) signer (to_z w64 (of_z w64 c.amount))) {f : OfferState} (ef : f ≡ found_in offers words c.pool c.offer) where
    past : Past b signer c.amount w
    past = past-opened t signer c.amount small w e

    held : f ≡ state_of t old (unpaid_of b c.pool)
    held = ef ∙ found-is t c.pool c.offer pool-is

    pub most : f.row.reserved ≤ limit
    most = rw held old-is.most

    pub can_grant : Grantable words c.pool w f.row.reserved
    can_grant = record { figures = pool-figures t g c.pool w pool-is past.most; granted-most = most }

    -- m is what is granted
    module _ {m : ℕ} (k : m ≡ up (grantable_of words c.pool w f.row.reserved)) where
      granted : m ≡ n
      granted = k ∙ rw (held, past.whole_is, past.word, balance-is t c.pool pool-is, unpaid-is t c.pool pool-is)

      on : (u v z : Bool) → eqb n 0 ≡ u → ltb limit (old.reserved + n) ≡ v → no_offer_room b c ≡ z → next u v z ≡ reserve_settled t signer c
      unfolding reserve_settled
      on u v z eu ev ez = rw (sym eu, sym ev, sym ez) (goes-on b signer c.amount w past _)

      pub nothing : m ≡ 0 → Ok None ≡ reserve_settled t signer c
      nothing z = on true _ _ (eq-eqb n 0 (sym granted ∙ z)) refl refl

      module _ (some : m ≡ 0 → ⊥) where
        some-granted : eqb n 0 ≡ false
        some-granted = ne_eqb n 0 (λ z. some (granted ∙ z))

        reserved-is : f.row.reserved ≡ old.reserved
        reserved-is = ap (λ (x : OfferState). x.row.reserved) held

        pub over : limit - f.row.reserved < m → Err OverLimit ≡ reserve_settled t signer c
        over h = on false true _ some-granted (lt-ltb limit (old.reserved + n) (omega (arith, h, reserved-is, granted, most))) refl

        module _ (h : m ≤ limit - f.row.reserved) {r : Bool} (er : r ≡ (eqb f.row.reserved 0 && leb (room_of offer_width offers) f.used)) where
          fits : ltb limit (old.reserved + n) ≡ false
          fits = le-ltb limit (old.reserved + n) (omega (arith, h, reserved-is, granted, most))

          room : r ≡ no_offer_room b c
          room = er ∙ ap (λ (x : OfferState). eqb x.row.reserved 0 && leb (room_of offer_width offers) x.used) held ∙ room-is

          pub full : r ≡ true → Err TableFull ≡ reserve_settled t signer c
          full z = on false false true some-granted fits (sym room ∙ z)

          pub settles : r ≡ false → Ok (Some (record {
            amount = m;
            offer = record { used = f.used; row = record { pool = f.row.pool; offer = f.row.offer; reserved = f.row.reserved + m; paid = f.row.paid }; unpaid = f.unpaid + m };
          })) ≡ reserve_settled t signer c
          settles z = rw (held, granted, old-is.its-pool, old-is.its-offer) (on false false false some-granted fits (sym room ∙ z))
