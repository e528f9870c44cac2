-- `replay_log`: the head, and the records behind a good one.
use Rattle.std.proofs.lemmas.Result.{on_ok_weaker}
use Rattle.books.specs.Words.{tables}
use Rattle.replay.proofs.Heads.{bad-read, good-read}
use Rattle.replay.proofs.replay_log.Goals as goal

pub returns-then-is_none : goal.returns-then-is_none
returns-then-is_none g c =
    let s = c.start-first.new in
    bad-read
    (tables c.args.stakes.now c.args.offers.now c.args.books.now)
    c.fill.new.bytes
    c.in_ok-there.there
    c.in_ok-there.ensures.filled.most
    c.fill.auto.bytes
    c.args.text.now
    c.start-first.result
    (tables s.stakes s.offers s.books)
    s.text
    c.start-first.ensures.text_after
    (g.R.Read.remaining c.args.log.now)
    (g.R.Read.remaining c.fill.new.log)
    (g.W.Write.contents c.args.answers.now)
    (g.W.Write.contents c.print.new.answers)
    c.in_ok-there.ensures.came.0
    c.in_ok-there.ensures.came.1
    c.in_ok-print.ensures
    c.if-is_none.ensures

pub returns : goal.returns
returns g c =
    let s = c.start-first.new in
    let r = c.run.new in
    let done = good-read
    (tables c.args.stakes.now c.args.offers.now c.args.books.now)
    c.fill.new.bytes
    c.in_ok-there.there
    c.in_ok-there.ensures.filled.most
    c.fill.auto.bytes
    c.args.text.now
    c.start-first.result
    (tables s.stakes s.offers s.books)
    s.text
    c.start-first.ensures.text_after
    (g.R.Read.remaining c.args.log.now)
    (g.R.Read.remaining c.fill.new.log)
    (g.W.Write.contents c.args.answers.now)
    (g.W.Write.contents c.print.new.answers)
    c.in_ok-there.ensures.came.0
    c.in_ok-there.ensures.came.1
    c.in_ok-print.ensures
    (tables r.stakes r.offers r.books)
    (g.R.Read.remaining r.log)
    (g.W.Write.contents r.answers)
    c.if-is_none.ensures in
    on_ok_weaker c.run.result done c.run.ensures.ran
