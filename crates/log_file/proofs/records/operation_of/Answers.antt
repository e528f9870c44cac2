-- `operation_of` meets its contract: each arm is the definition's case of its number.
use Rattle.std.proofs.Common.{◌≡◌, Bool, cond, ℕ, ◌<◌, ◌^◌, w64, to_z, of_z, sym, ap, ◌∙◌, arith}
use lib.Signed.{mag}
use Rattle.whole.proofs.Words.{number-back}
use Rattle.rules.specs.Table.{each}
use Rattle.rules.specs.Operations.{line_of, entry}
use Rattle.rules.specs.declared.Operation.{Operation}
use Rattle.rules.specs.declared.Operation.TheVariants.{Stake, Withdraw, Pay, Reserve, Claim, Rate, Pause, Unpause, PayoutCaller, Unknown}
use Rattle.rules.specs.declared.Entry.{Entry}
use Rattle.log_file.specs.Records.{by_number, spares_nil}
use Rattle.log_file.proofs.Numbered.{numbered, not-numbered}
use Rattle.log_file.proofs.records.operation_of.Goals as goal

-- an amount that was handed on is the same
amount-back : (k : ℕ) (e : Entry) → mag e.amount < 2 ^ 63 → spares_nil (line_of k) (entry e.number e.pool e.subject e.other e.reply (to_z w64 (of_z w64 e.amount))) ≡ spares_nil (line_of k) e
amount-back k e small = rw (number-back e.amount (record { sfits = small }))

-- a case under its test, both by their equations
only_if : {X : Type 0} (o : X → Operation) {t u : Bool} {x y : X} → t ≡ u → x ≡ y → cond t (o x) Unknown ≡ cond u (o y) Unknown
only_if o p q = cc

pub returns-in-1 : goal.returns-in-1
unfolding by_number each
returns-in-1 c =
    c.known_if.ensures ∙ only_if Stake c.are_nil-subject_only.ensures c.stake_call.ensures ∙ sym (numbered c.args.e 1 c.in-1.is)

pub returns-in-2 : goal.returns-in-2
unfolding by_number each
returns-in-2 c =
    c.known_if-in-2.ensures ∙ only_if Withdraw c.are_nil-subject_only.ensures c.stake_call-in-2.ensures ∙ sym (numbered c.args.e 2 c.in-2.is)

pub returns-in-3 : goal.returns-in-3
unfolding by_number each
returns-in-3 c =
    ap Pay c.pay_call.ensures ∙ sym (numbered c.args.e 3 c.in-3.is)

pub returns-in-4 : goal.returns-in-4
unfolding by_number each
returns-in-4 c =
    c.known_if-in-4.ensures ∙ only_if Reserve c.are_nil-subject_only.ensures c.reserve_call.ensures ∙ sym (numbered c.args.e 4 c.in-4.is)

pub returns-in-5 : goal.returns-in-5
unfolding by_number each
returns-in-5 c =
    c.known_if-in-5.ensures ∙ only_if Claim c.are_nil-no_reply.ensures c.claim_call.ensures ∙ sym (numbered c.args.e 5 c.in-5.is)

pub returns-in-6 : goal.returns-in-6
unfolding by_number each
returns-in-6 c =
    c.known_if-in-6.ensures ∙ only_if Rate c.are_nil-amount_only.ensures c.rate_call.ensures ∙ sym (numbered c.args.e 6 c.in-6.is)

pub returns-in-7 : goal.returns-in-7
unfolding by_number each
returns-in-7 c =
    let small : mag c.args.e.amount < 2 ^ 63 = search in
    c.known_if-in-7.ensures
    ∙ ap (λ (t : Bool). cond t Pause Unknown) (c.are_nil-nothing.ensures ∙ amount-back 7 c.args.e small)
    ∙ sym (numbered c.args.e 7 c.in-7.is)

pub returns-in-8 : goal.returns-in-8
unfolding by_number each
returns-in-8 c =
    let small : mag c.args.e.amount < 2 ^ 63 = search in
    c.known_if-in-8.ensures
    ∙ ap (λ (t : Bool). cond t Unpause Unknown) (c.are_nil-nothing.ensures ∙ amount-back 8 c.args.e small)
    ∙ sym (numbered c.args.e 8 c.in-8.is)

pub returns-in-9 : goal.returns-in-9
unfolding by_number each
returns-in-9 c =
    let small : mag c.args.e.amount < 2 ^ 63 = search in
    c.known_if-in-9.ensures
    ∙ ap (λ (t : Bool). cond t (PayoutCaller (record { 0 = c.args.e.subject })) Unknown) (c.are_nil-account_only.ensures ∙ amount-back 9 c.args.e small)
    ∙ sym (numbered c.args.e 9 c.in-9.is)

pub returns-in_default : goal.returns-in_default
returns-in_default c = sym (not-numbered c.args.e (omega arith))
