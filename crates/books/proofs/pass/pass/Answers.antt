-- `pass` meets its contract. The loop's invariant, `Walked`: the test of the rows that are left is the test of all, and the four words hold the sums
-- of the rows passed.
use Rattle.std.proofs.Common.{rules, sym, ◌∙◌}
use Rattle.books.proofs.Walks.{Turn, walk_end, walk-stop, walk-order, walk-bad, walk_turn}
use Rattle.books.proofs.pass.pass.Goals as goal
use Rattle.books.proofs.pass.pass.Goals.{then-le-via-then-le, then-le-via-else-le+then-not-is_in_order}

pub returns-then-key-eq0 : goal.returns-then-key-eq0
returns-then-key-eq0 g c =
    walk-stop g.R.Row.kind g.row.WIDTH c.args.table.now g.met.R.Row.laws
    (record { inv = c.loop-i.invariant.1; more = c.loop-i-test.true; read = c.at-row.ensures; pool-is = c.key-key.ensures.pool; number-is = c.key-key.ensures.number })
    c.if-key-eq0.true

pub returns-then-le : goal.returns-then-le
returns-then-le g c =
    let turn : Turn g.R.Row.kind g.row.WIDTH c.args.table.now _ _ _ _ _ _ = record { inv = c.loop-i.invariant.1; more = c.loop-i-test.true; read = c.at-row.ensures; pool-is = c.key-key.ensures.pool; number-is = c.key-key.ensures.number } in
    elim c.then-le.branch [
      | then-le-via-then-le w ↦ walk-order g.R.Row.kind g.row.WIDTH c.args.table.now g.met.R.Row.laws turn c.if-key-eq0.false (search rules)
      | then-le-via-else-le+then-not-is_in_order w ↦ walk-bad g.R.Row.kind g.row.WIDTH c.args.table.now g.met.R.Row.laws turn c.if-key-eq0.false (sym w.is_in_order.ensures ∙ w.if-not-is_in_order.true)
    ]

pub loop-i-preserved : goal.loop-i-preserved
loop-i-preserved g c = (
  search rules,
  walk_turn g.R.Row.kind g.row.WIDTH c.args.table.now g.met.R.Row.laws
      (record { inv = c.loop-i.invariant.1; more = c.loop-i-test.true; read = c.at-row.ensures; pool-is = c.key-key.ensures.pool; number-is = c.key-key.ensures.number })
      c.if-key-eq0.false (search rules) (sym c.is_in_order.ensures ∙ c.if-not-is_in_order.false) c.added_to.result c.added_to.type_inv c.added_to.ensures,
)

pub returns : goal.returns
returns g c = walk_end g.R.Row.kind g.row.WIDTH c.args.table.now g.met.R.Row.laws c.loop-i.invariant.1 c.loop-i-test.false
