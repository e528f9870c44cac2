-- `lower` meets its contract. The loop's invariant (`Midway`): the words of the rows kept so far, and then those of what the rows from here
-- on become, are the words of the rows after the loss; the rows from here on are as they were.
use Rattle.std.proofs.Common.{◌≡◌, ◌∙◌, subst, ℕ, pos, w64, to_z, arith, rules}
use mathlib.Core.Path.{subst⁻¹}
use mir.ValLaws.{to_z_pos}
use Rattle.losses.proofs.Writes.{Midway, begins, divisible, rest-word, stake-word, next-row, ends-count, ends_words}
use Rattle.losses.proofs.Loss.lower.Goals as goal

pub loop-i-init : goal.loop-i-init
loop-i-init c =
    let a = c.args in
    let e : to_z w64 a.self.amount ≡ pos a.self.amount = to_z_pos w64 a.self.amount (omega (arith, c.requires.loss-is.within)) in
    subst⁻¹ (Midway a.stakes.now a.used a.self a.stakes.now a.self.from a.self.from) e (begins c.requires (search rules))

pub cut_of-cut-requires : goal.cut_of-cut-requires
cut_of-cut-requires c = divisible c.requires (search rules) c.loop-i.invariant (omega arith) c.at-row.ensures

pub sub-rest-requires : goal.sub-rest-requires
sub-rest-requires c = rest-word c.requires (search rules) c.loop-i.invariant (omega arith) c.at-row.ensures c.cut_of-cut.ensures

pub cut_row-requires : goal.cut_row-requires
cut_row-requires c = stake-word c.requires (search rules) c.loop-i.invariant (omega arith) c.at-row.ensures c.cut_of-cut.ensures

pub loop-i-preserved : goal.loop-i-preserved
loop-i-preserved c =
    next-row c.requires (search rules) c.loop-i.invariant (omega arith) c.at-row.ensures c.cut_of-cut.ensures
    c.cut_row.ensures c.sub-rest.ensures c.keep_row-at.ensures.value c.keep_row-at.ensures.stakes_after

pub returns-clause-value : goal.returns-clause-value
returns-clause-value c =
    let a = c.args in
    let l = c.loop-i in
    let done : l.i ≡ a.self.to = omega (arith, l.invariant.most) in
    ends-count c.requires (search rules) (subst (λ (k : ℕ). Midway a.stakes.now a.used a.self l.stakes k l.at (to_z w64 l.rest)) done l.invariant)

pub returns-clause-stakes_after : goal.returns-clause-stakes_after
returns-clause-stakes_after c =
    let a = c.args in
    let l = c.loop-i in
    let done : l.i ≡ a.self.to = omega (arith, l.invariant.most) in
    c.close.ensures ∙ ends_words c.requires (search rules) (subst (λ (k : ℕ). Midway a.stakes.now a.used a.self l.stakes k l.at (to_z w64 l.rest)) done l.invariant)
