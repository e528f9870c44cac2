-- `take_loss` meets its contract: the facts are those of good tables (`LossWrites`), the code's part is what each call ensures.
use native.Mathlib.Omega.{arith}
use borrow.Author.Rules.{rules}
use Rattle.payouts.proofs.Openings.{passed-code}
use Rattle.payouts.proofs.LossWrites as writes
use Rattle.payouts.proofs.loss.take_loss.Goals as goal

pub share_loss-requires-clause-held_stakes : goal.share_loss-requires-clause-held_stakes
share_loss-requires-clause-held_stakes c = writes.held c.requires _ c.used_in-used.ensures

pub share_loss-requires-clause-shareable : goal.share_loss-requires-clause-shareable
share_loss-requires-clause-shareable c = writes.shareable c.requires (omega arith) c.balance-balance.ensures

pub returns-in_err-share_loss : goal.returns-in_err-share_loss
returns-in_err-share_loss c =
    rw (passed-code _ _ c.from_residual.ensures.1)
    (writes.loss-over c.requires (omega arith) c.balance-balance.ensures _ c.in_err-share_loss.ensures.value c.in_err-share_loss.ensures.stakes_after)

pub overflow_sub-balance : goal.overflow_sub-balance
overflow_sub-balance c = writes.enough c.requires (omega arith) c.balance-balance.ensures

pub returns : goal.returns
returns c =
    writes.loss-taken c.requires (omega arith) c.balance-balance.ensures (search rules) (search rules)
    c.in_ok-share_loss.ensures.value c.in_ok-share_loss.ensures.stakes_after c.set_balance.ensures
