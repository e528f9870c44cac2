-- `cut_of` meets its contract, by the cases of `lowered_by`.
use mathlib.Core.Path.{sym, ◌∙◌, ap}
use borrow.Author.Tests.{eq-eqb, ne_eqb}
use lib.IntN.{ℤ}
use mir.Syntax.{w64}
use mir.Val.{to_z}
use Rattle.whole.specs.Whole.{min_z}
use Rattle.losses.proofs.Cuts.{word-zero, word_some, cut-zero, cut-last, cut-mid}
use Rattle.losses.proofs.Loss.cut_of.Goals as goal

pub returns-then-stake-eq0 : goal.returns-then-stake-eq0
returns-then-stake-eq0 c =
    let a = c.args in
    sym (cut-zero a.self.amount a.self.balance (to_z w64 a.rest) (to_z w64 a.stake) _ (word-zero a.stake c.if-stake-eq0.true))

pub returns-then-i-self : goal.returns-then-i-self
returns-then-i-self c =
    let a = c.args in
    rw (eq-eqb a.i a.self.last c.if-i-self.true) (sym (cut-last a.self.amount a.self.balance (to_z w64 a.rest) (to_z w64 a.stake) (word_some a.stake c.ranges.stake.fits c.if-stake-eq0.false)))

pub returns : goal.returns
returns c =
    let a = c.args in
    rw (ne_eqb a.i a.self.last c.if-i-self.false)
    (c.lesser.ensures ∙ ap (λ (z : ℤ). min_z z (to_z w64 a.rest)) c.share_of.ensures ∙ sym (cut-mid a.self.amount a.self.balance (to_z w64 a.rest) (to_z w64 a.stake) (word_some a.stake c.ranges.stake.fits c.if-stake-eq0.false)))
