-- What each call comes to before anything is written, as the code answers it: one answer for each call on each tables.
use Rattle.std.specs.Prelude.{cond, ℕ, ◌+◌, ◌-◌, ltb, eqb, Option, Some, None, Result, Ok, Err}
use Rattle.whole.specs.Whole.{up}
use Rattle.rules.specs.Limits.{limit, not_configured, not_defaulted}
use Rattle.rules.specs.Books.{unpaid_of}
use Rattle.rules.specs.declared.Account.{Account}
use Rattle.rules.specs.declared.PayCall.{PayCall}
use Rattle.rules.specs.declared.ReserveCall.{ReserveCall}
use Rattle.rules.specs.declared.ClaimCall.{ClaimCall}
use Rattle.rules.specs.Answers.{NoRegistry, InvalidTransition, InsufficientBalance, OverLimit, TableFull}
use Rattle.rules.specs.Payouts.{payable, grantable, granted_row, no_offer_room, cover_of, claimable, claimed_row}
use Rattle.books.specs.Words.{Tables, books_of}
use Rattle.payouts.specs.declared.offer.OfferChange.{OfferChange}
use Rattle.payouts.specs.inner.Openings.{past_tests}
use Rattle.payouts.specs.inner.Offers.{change_of}

-- the code of a reply to which nothing is paid, 0 for the others
abbrev pub reply_code : ℕ → ℕ
reply_code reply = cond (eqb reply not_configured) NoRegistry (cond (eqb reply not_defaulted) InvalidTransition 0)

unfoldable pub pay_settled : Tables → Account → PayCall → Result (Option ℕ) ℕ
pay_settled t signer c =
    let b = books_of t in
    let paid = up (payable b c) in
    past_tests b signer c.amount
    (cond (eqb c.reply not_configured) (Err NoRegistry)
    (cond (eqb c.reply not_defaulted) (Err InvalidTransition)
    (cond (eqb paid 0) (Ok None)
    (Ok (Some paid)))))

unfoldable pub reserve_settled : Tables → Account → ReserveCall → Result (Option OfferChange) ℕ
reserve_settled t signer c =
    let b = books_of t in
    let granted = up (grantable b c) in
    let row = granted_row b c granted in
    past_tests b signer c.amount
    (cond (eqb granted 0) (Ok None)
    (cond (ltb limit row.reserved) (Err OverLimit)
    (cond (no_offer_room b c) (Err TableFull)
    (Ok (Some (change_of t granted row (unpaid_of b c.pool + granted)))))))

-- a claim to which nothing can be paid is one of 0, that leaves the offer as it was
unfoldable pub claim_settled : Tables → Account → ClaimCall → Result OfferChange ℕ
claim_settled t signer c =
    let b = books_of t in
    let paid = up (claimable b c) in
    past_tests b signer c.amount
    (cond (eqb (cover_of b c) 0) (Err InsufficientBalance)
    (Ok (change_of t paid (claimed_row b c paid) (unpaid_of b c.pool - paid))))
