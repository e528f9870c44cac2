-- `blank` meets its contract: a part that is not all zero decides it (`zero-split`), and behind the last one the rest does.
use Rattle.std.proofs.Common.{rules, sym, ap, ◌∙◌, ◌&&◌, Bool, arith}
use Rattle.std.proofs.lemmas.Slice.{between_to_end}
use Rattle.rows.specs.Rows.{all_zero}
use Rattle.rows.proofs.Zeros.{zero-split}
use Rattle.rows.proofs.scan.blank.Goals as goal

pub loop-part-init : goal.loop-part-init
loop-part-init c = search (rules, between_to_end)

pub returns-then-not-is_zero : goal.returns-then-not-is_zero
returns-then-not-is_zero c =
    let p = c.in-Some.ensures.cases in
    sym (c.loop-part.invariant ∙ zero-split c.loop-part.rest.now 32 _ _ p.0 p.1 ∙ ap (λ (b : Bool). b && all_zero c.in-Some.behind.now) (sym c.is_zero.ensures ∙ c.if-not-is_zero.true))

pub loop-part-smaller : goal.loop-part-smaller
loop-part-smaller c = omega (arith, c.in-Some.ensures.cases.2)

pub loop-part-preserved : goal.loop-part-preserved
loop-part-preserved c =
    let p = c.in-Some.ensures.cases in
    c.loop-part.invariant ∙ zero-split c.loop-part.rest.now 32 _ _ p.0 p.1 ∙ ap (λ (b : Bool). b && all_zero c.in-Some.behind.now) (sym c.is_zero.ensures ∙ c.if-not-is_zero.false)

pub returns : goal.returns
returns c = c.is_zero-2.ensures ∙ sym c.loop-part.invariant
