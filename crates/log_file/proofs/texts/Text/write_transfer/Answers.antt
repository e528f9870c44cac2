-- `write_transfer` meets its contract: the text is that of the transfer's direction, and none where no transfer is due.
use Rattle.std.proofs.Common.{sym, ◌∙◌, ap, arith, Option}
use Rattle.rules.specs.declared.answers.Transfer as money
use Rattle.rules.specs.Answers.{due}
use Rattle.log_file.specs.Written.{Wrote}
use Rattle.log_file.specs.Lines.{transfer_text}
use Rattle.log_file.proofs.Writing.{wrote_as, wrote_none, wrote-more}
use Rattle.log_file.proofs.Transfers.{word_of, placed-text}
use Rattle.log_file.proofs.texts.Text.write_transfer.Goals as goal
use Rattle.log_file.proofs.texts.Text.write_transfer.Goals.{After-put_pair, in-In, in-Out}

pub returns-in_default-clause-wrote : goal.returns-in_default-clause-wrote
unfolding transfer_text
returns-in_default-clause-wrote c = rw c.in_default.is (wrote_none c.args.self.now)

word : (c : After-put_pair) → Wrote c.args.self.now (word_of c.in-Some.transfer.direction) c.match-transfer-2.self
word c =
    elim c.match-transfer-2.branch [
      | in-In w ↦ rw (w.in-In.is, w.self-is) w.put_bytes.ensures
      | in-Out w ↦ rw (w.in-Out.is, w.self-is) w.put_bytes-in-Out.ensures
    ]

pub returns-clause-wrote : goal.returns-clause-wrote
returns-clause-wrote c =
    let t = c.in-Some.transfer in
    wrote_as
    (sym (ap (λ (o : Option money.Transfer). transfer_text (due o)) c.in-Some.is ∙ placed-text t.direction t.account t.amount))
    (wrote-more (omega arith) (word (goal.at.returns-clause-wrote c).After-put_pair) c.put_pair.ensures.wrote)
