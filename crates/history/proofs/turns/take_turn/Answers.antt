-- `take_turn` meets its contract: the log ends, or a part of it runs.
use Rattle.std.proofs.Common.{rules, arith}
use Rattle.books.specs.Words.{tables}
use Rattle.history.proofs.Turning.{turn_last, turn-part}
use Rattle.history.proofs.turns.take_turn.Goals as goal

pub returns-then-there-lt-RECORD-clause-text_after : goal.returns-then-there-lt-RECORD-clause-text_after
returns-then-there-lt-RECORD-clause-text_after c =
    turn_last (tables c.args.stakes.now c.args.offers.now c.args.books.now) c.args.bytes.now c.args.there c.args.text.now c.args.number c.if-there-lt-RECORD.true _ _ (search rules) (omega (arith, c.write_ending.ensures.wrote.place))

pub returns-clause-text_after : goal.returns-clause-text_after
returns-clause-text_after c =
    turn-part (tables c.args.stakes.now c.args.offers.now c.args.books.now) c.args.bytes.now c.args.there c.args.text.now c.args.number c.if-there-lt-RECORD.false _ _ _ _ c.advance-done.ensures.text_after c.advance-done.ensures.bytes_after
