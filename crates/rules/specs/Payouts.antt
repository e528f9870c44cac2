-- The payout caller's three: pay, reserve, claim. `up z` is z where z is above 0, and 0 elsewhere.
use Rattle.std.specs.Prelude.{Bool, not, cond, ◌&&◌, ℕ, ◌+◌, ◌-◌, ltb, leb, eqb, ℤ, pos, ◌-ℤ◌, length}
use Rattle.std.specs.Int.Signed.{lt_z, le_z}
use Rattle.whole.specs.Whole.{up, min_z}
use Rattle.rules.specs.Limits.{limit, flat, not_configured, not_defaulted}
use Rattle.rules.specs.Terms.{capped}
use Rattle.rules.specs.Table.{key_of, has}
use Rattle.rules.specs.Books.{Books, OfferRow, offer_key, offer_row, offer_at, put_offer, cover, balance_of, unpaid_of, with_stakes, with_offers}
use Rattle.rules.specs.Sharing.{shared, stakes_fit}
use Rattle.rules.specs.Calls.{Account, PayCall, ReserveCall, ClaimCall}
use Rattle.rules.specs.Answers.{Plan, does, answers, ◌refuses◌else◌, not_by, no_transfer, transfer_out, Paused, NoPayer, NotAllowed, InvalidInput, NoRegistry, InvalidTransition, InsufficientBalance, OverLimit, TableFull}

-- the first tests of all three
abbrev pub as_caller : Books → Account → ℤ → Plan → Plan
as_caller b signer amount p =
    b.settings.paused refuses Paused else
    eqb b.settings.caller.0 0 refuses NoPayer else
    not_by b.settings.caller signer refuses NotAllowed else
    le_z amount (pos 0) refuses InvalidInput else
    lt_z (pos limit) amount refuses OverLimit else
    p

-- the books after the pool's stakes share a loss, and its balance falls by it
abbrev pub after_loss : Books → ℕ → ℕ → Books
after_loss b pool loss =
    with_stakes b (shared pool loss (up (balance_of b pool)) b.stakes) pool (balance_of b pool -ℤ pos loss)

-- "a stake .. that would pass its limit"
unfoldable pub loss_over : Books → ℕ → ℕ → Bool
loss_over b pool loss = not (stakes_fit (after_loss b pool loss).stakes)

-- ---- pay

-- "Tier: amount times cap divided by 10,000, rounded down, then at most the balance. Flat: at most the balance. Reservations don't count"
abbrev pub payable : Books → PayCall → ℤ
payable b c = min_z (pos (capped c.pool (up c.amount))) (balance_of b c.pool)

-- pay_out, pay_out_tier: "If the result is 0 or less, answer 0 and change nothing"
unfoldable pub pay_out : Books → Account → PayCall → Plan
pay_out b signer c =
    let paid = up (payable b c) in
    as_caller b signer c.amount
    (eqb c.reply not_configured refuses NoRegistry else
    eqb c.reply not_defaulted refuses InvalidTransition else
    cond (eqb paid 0) (answers (pos 0) (pos 0) b)
    (loss_over b c.pool paid refuses OverLimit else
    does (pos paid) (pos 0) (transfer_out c.beneficiary paid) no_transfer (after_loss b c.pool paid)))

-- ---- reserve

-- "Tier: capped amount minus what this offer was ever granted"; "Flat: amount"; both "at most balance minus reserved"
abbrev pub grantable : Books → ReserveCall → ℤ
grantable b c =
    let granted = (offer_at b c.pool c.offer).reserved in
    min_z
    (cond (eqb c.pool flat) c.amount (pos (capped c.pool (up c.amount)) -ℤ pos granted))
    (balance_of b c.pool -ℤ pos (unpaid_of b c.pool))

-- the offer's row with n more reserved: "calls add up"
abbrev pub granted_row : Books → ReserveCall → ℕ → OfferRow
granted_row b c n =
    let old = offer_at b c.pool c.offer in
    offer_row c.pool c.offer.0 (old.reserved + n) old.paid

-- the books after n is reserved
abbrev pub after_grant : Books → ReserveCall → ℕ → Books
after_grant b c n = with_offers b (put_offer b (granted_row b c n)) c.pool (unpaid_of b c.pool + n)

-- "a row must be added and none is free"
unfoldable pub no_offer_room : Books → ReserveCall → Bool
no_offer_room b c = not (has offer_key (key_of c.pool c.offer.0) b.offers) && leb b.rooms.offers (length b.offers)

-- reserve_payout, reserve_payout_tier: "A result of 0 or less grants 0 and needs no row"
unfoldable pub reserve_payout : Books → Account → ReserveCall → Plan
reserve_payout b signer c =
    let granted = up (grantable b c) in
    as_caller b signer c.amount
    (cond (eqb granted 0) (answers (pos 0) (pos 0) b)
    (ltb limit (granted_row b c granted).reserved refuses OverLimit else
    no_offer_room b c refuses TableFull else
    answers (pos granted) (pos 0) (after_grant b c granted)))

-- ---- claim

-- "Cover left is reserved minus paid"
abbrev pub cover_of : Books → ClaimCall → ℕ
cover_of b c = cover (offer_at b c.pool c.offer)

-- "Tier: .. balance. Flat: .. balance minus other offers' unpaid reservations"
abbrev pub available : Books → ClaimCall → ℤ
available b c =
    cond (eqb c.pool flat) (balance_of b c.pool -ℤ pos (unpaid_of b c.pool - cover_of b c)) (balance_of b c.pool)

-- "lesser of amount, cover and balance"
abbrev pub claimable : Books → ClaimCall → ℤ
claimable b c = min_z (min_z c.amount (pos (cover_of b c))) (available b c)

-- the offer's row with n more paid
abbrev pub claimed_row : Books → ClaimCall → ℕ → OfferRow
claimed_row b c n =
    let old = offer_at b c.pool c.offer in
    offer_row c.pool c.offer.0 old.reserved (old.paid + n)

-- the books after n is paid on the offer: stakes, balance, the offer's row and the unpaid sum
abbrev pub after_claim : Books → ClaimCall → ℕ → Books
after_claim b c n =
    with_offers (after_loss b c.pool n) (put_offer b (claimed_row b c n)) c.pool (unpaid_of b c.pool - n)

-- claim_payout, claim_payout_tier: "Answer: paid, cover left after. If nothing can be paid, answer 0 and the cover, and change nothing"
unfoldable pub claim_payout : Books → Account → ClaimCall → Plan
claim_payout b signer c =
    let paid = up (claimable b c) in
    as_caller b signer c.amount
    (eqb (cover_of b c) 0 refuses InsufficientBalance else
    cond (eqb paid 0) (answers (pos 0) (pos (cover_of b c)) b)
    (loss_over b c.pool paid refuses OverLimit else
    does (pos paid) (pos (cover_of b c - paid)) (transfer_out c.lender paid) no_transfer (after_claim b c paid)))
