-- `read_head` meets its contract: each test is one of the definition's.
use Rattle.std.proofs.Common.{◌≡◌, length, ◌∙◌, sym, arith}
use Rattle.log_file.specs.Bytes.{word_at}
use Rattle.log_file.specs.Opening.{head_bytes}
use Rattle.log_file.proofs.ByteWords.{word-place}
use Rattle.log_file.proofs.HeadRead.{other-mark, other-length, no-admin, some-admin}
use Rattle.log_file.proofs.HeadBack.{head-written}
use Rattle.log_file.proofs.header.read_head.Goals as goal
use Rattle.log_file.proofs.header.read_head.Goals.{After-from_le_bytes}

pub returns-in_err-strip_prefix-clause-value : goal.returns-in_err-strip_prefix-clause-value
returns-in_err-strip_prefix-clause-value c = c.from_residual.ensures ∙ other-mark c.args.bytes.now c.in_err-strip_prefix.ensures.cases

pub returns-in_err-admin-clause-value : goal.returns-in_err-admin-clause-value
returns-in_err-admin-clause-value c =
    c.from_residual-in_err-admin.ensures ∙ other-length c.args.bytes.now (λ e. c.in_err-admin.ensures.cases (omega (arith, c.in_ok-strip_prefix.ensures.cases.2)))

-- the word that was read is the definition's, and what was read is a head's
module _ (c : After-from_le_bytes) where
  word : c.from_le_bytes.result ≡ word_at c.args.bytes.now 8
  word =
      let e = rw (c.in_ok-admin.ensures.cases.same, c.in_ok-strip_prefix.ensures.cases.1) at c.from_le_bytes.ensures in
      omega (arith, e, word-place c.args.bytes.now 8 0)

  long : length c.args.bytes.now ≡ head_bytes
  long = omega (arith, c.in_ok-admin.ensures.cases.long, c.in_ok-strip_prefix.ensures.cases.2)

pub returns-in-0-clause-value : goal.returns-in-0-clause-value
returns-in-0-clause-value c =
    let r = (goal.at.returns-in-0-clause-value c).After-from_le_bytes in
    no-admin c.args.bytes.now c.in_ok-strip_prefix.ensures.cases.0 (long r) (sym (word r) ∙ c.in-0.is)

pub returns-in_default-clause-value : goal.returns-in_default-clause-value
returns-in_default-clause-value c =
    let r = (goal.at.returns-in_default-clause-value c).After-from_le_bytes in
    some-admin c.args.bytes.now c.in_ok-strip_prefix.ensures.cases.0 (long r) _ (word r) (λ z. omega arith)

pub returns-in_default-clause-written_back : goal.returns-in_default-clause-written_back
returns-in_default-clause-written_back c =
    let r = (goal.at.returns-in_default-clause-written_back c).After-from_le_bytes in
    λ admin e. head-written c.args.bytes.now admin (λ i. (c.type_inv.bytes i).fits) (sym (some-admin c.args.bytes.now c.in_ok-strip_prefix.ensures.cases.0 (long r) _ (word r) (λ z. omega arith)) ∙ e)
