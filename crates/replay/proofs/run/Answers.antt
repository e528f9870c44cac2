-- `run`: each turn goes on from the last.
use Rattle.std.proofs.Common.{arith, refl, ◌∙◌}
use Rattle.books.specs.Words.{Tables, tables}
use Rattle.replay.proofs.Logs.{gone-none, took-gone, took-finished, failed-finished}
use Rattle.replay.proofs.Passed.{passed-none, passed-on, told-ran}
use Rattle.replay.proofs.run.Goals as goal

pub loop-place-init : goal.loop-place-init
loop-place-init g c =
    let t : Tables = tables c.args.stakes.now c.args.offers.now c.args.books.now in (
      c.requires.tables_good,
      refl,
      refl,
      omega arith,
      gone-none t,
      passed-none t (g.R.Read.remaining c.args.log.now) (g.W.Write.contents c.args.answers.now) c.args.bytes.now,
    )

pub loop-place-preserved : goal.loop-place-preserved
loop-place-preserved g c =
    let l = c.loop-place in
    let n = c.turn.new in
    let t₀ : Tables = tables c.args.stakes.now c.args.offers.now c.args.books.now in
    let t : Tables = tables l.stakes l.offers l.books in
    let t₁ : Tables = tables n.stakes n.offers n.books in
    let goes = (rw c.in-Some.is at c.in_ok-next.ensures.turning) in (
      goes.took.onward.good,
      c.turn.auto.bytes ∙ l.invariant.1,
      c.turn.auto.text ∙ l.invariant.2,
      omega (arith, goes.within, c.turn.auto.bytes),
      took-gone t₀ t l.bytes l.text l.place.number l.place.there t₁ n.bytes n.text l.invariant.4 c.in-Some.next goes.took,
      passed-on
          t₀
          (g.R.Read.remaining c.args.log.now)
          (g.W.Write.contents c.args.answers.now)
          l.place.number
          t
          l.bytes
          l.text
          l.place.there
          t₁
          n.bytes
          n.text
          (g.R.Read.remaining l.log)
          (g.R.Read.remaining n.log)
          (g.W.Write.contents l.answers)
          (g.W.Write.contents n.answers)
          l.invariant.5
          c.in-Some.next
          (rw c.in-Some.is at c.in_ok-next.ensures.telling),
    )

pub returns-in-None-clause-finished : goal.returns-in-None-clause-finished
returns-in-None-clause-finished g c =
    let l = c.loop-place in
    let n = c.turn.new in
    let t₀ : Tables = tables c.args.stakes.now c.args.offers.now c.args.books.now in
    let t : Tables = tables l.stakes l.offers l.books in
    let t₁ : Tables = tables n.stakes n.offers n.books in
    took-finished t₀ t l.bytes l.text l.place.number l.place.there t₁ n.bytes n.text l.invariant.4 (rw c.in-None.is at c.in_ok-next.ensures.turning)

pub returns-in-None-clause-ran : goal.returns-in-None-clause-ran
returns-in-None-clause-ran g c =
    let l = c.loop-place in
    let n = c.turn.new in
    let t₀ : Tables = tables c.args.stakes.now c.args.offers.now c.args.books.now in
    let t : Tables = tables l.stakes l.offers l.books in
    let t₁ : Tables = tables n.stakes n.offers n.books in
    told-ran
    t₀
    (g.R.Read.remaining c.args.log.now)
    (g.W.Write.contents c.args.answers.now)
    l.place.number
    t
    l.bytes
    l.text
    l.place.there
    t₁
    n.bytes
    n.text
    (g.R.Read.remaining l.log)
    (g.R.Read.remaining n.log)
    (g.W.Write.contents l.answers)
    (g.W.Write.contents n.answers)
    l.invariant.5
    (rw c.in-None.is at c.in_ok-next.ensures.telling)

pub returns-in_err-next-clause-finished : goal.returns-in_err-next-clause-finished
returns-in_err-next-clause-finished g c =
    let l = c.loop-place in
    let n = c.turn.new in
    let t₀ : Tables = tables c.args.stakes.now c.args.offers.now c.args.books.now in
    let t : Tables = tables l.stakes l.offers l.books in
    let t₁ : Tables = tables n.stakes n.offers n.books in
    failed-finished t₀ t l.bytes l.text l.place.number l.place.there t₁ n.bytes n.text l.invariant.4 c.in_err-next.ensures.turning _ c.from_residual.ensures.0
