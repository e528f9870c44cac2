-- `rest_for` meets its contract. The loop's invariant: what is left to do makes the rest that the whole is to make, and the rest so far is
-- bounded (`Resting`).
use Rattle.std.proofs.Common.{◌≡◌, ◌∙◌, ap, sym, ◌-◌, ℕ, to_z, arith}
use mir.Syntax.{w64}
use Rattle.losses.specs.inner.Settling.{rest_after}
use Rattle.losses.proofs.Rest.{rest-word, rest-next, rest-done}
use Rattle.losses.proofs.Loss.rest_for.Goals as goal

pub sub-rest-requires : goal.sub-rest-requires
sub-rest-requires c = rest-word c.requires c.loop-i.auto.i (omega arith) c.loop-i.invariant.0 (ap (to_z w64) c.get-stake.ensures) c.cut_of.ensures

pub loop-i-preserved : goal.loop-i-preserved
loop-i-preserved c =
    let n = rest-next c.requires c.loop-i.auto.i (omega arith) c.loop-i.invariant.0 (ap (to_z w64) c.get-stake.ensures) c.cut_of.ensures c.sub-rest.ensures in
    (n.0, n.1 ∙ c.loop-i.invariant.1)

pub returns : goal.returns
returns c =
    let l = c.loop-i in
    let a = c.args in
    let e : l.i ≡ a.self.last = omega arith in
    sym (rest-done a.stakes.now a.self.amount a.self.balance (to_z w64 l.rest) l.i) ∙ ap (λ (k : ℕ). rest_after a.stakes.now a.self.amount a.self.balance (to_z w64 l.rest) l.i (k - l.i)) e ∙ l.invariant.1
