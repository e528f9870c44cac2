-- `used_rows` meets its contract. The loop's invariant: the rows in question hold the number of used rows (`Counts`), which a turn keeps.
use Rattle.std.proofs.Common.{arith, length, ◌+◌, ◌-◌, ◌/◌}
use native.Mathlib.Nat.{div-mul-le_self}
use Rattle.rows.proofs.Order.{row_in}
use Rattle.rows.proofs.search.used_rows.Goals as goal

pub get-requires : goal.get-requires
get-requires c =
    let a = c.args in
    omega (arith, row_in a.width {i = c.loop-used.used + (c.loop-used.unused - c.loop-used.used) / 2} {n = length a.s.now / a.width} (omega (arith, c.loop-used.invariant.1.fits)) (div-mul-le_self (length a.s.now) a.width))
