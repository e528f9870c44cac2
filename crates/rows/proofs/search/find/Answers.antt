-- `find` meets its contract. The loop's invariant: the rows in question hold the place of the key, and the reads so far with those still to come among
-- them are all that the definition names (`Reading`), which a turn keeps (`reading-up`, `reading-down`).
use Rattle.std.proofs.Common.{rules, arith, ℕ, Result, ap₂}
use Rattle.rows.specs.Rows.{key_of}
use Rattle.rows.specs.declared.Lookup.{Lookup}
use Rattle.rows.proofs.Order.{row_in}
use Rattle.rows.proofs.Halves.{holds_at, holds-gap}
use Rattle.rows.proofs.RowsRead.{reading-up, reading-down, reading-done}
use Rattle.rows.proofs.search.find.Goals as goal

pub key_at-here-requires-clause-width_in_bounds : goal.key_at-here-requires-clause-width_in_bounds
key_at-here-requires-clause-width_in_bounds c = row_in c.args.width (omega (arith, c.loop-low.invariant.1.holds.fits)) c.requires.width_in_bounds

pub loop-low-preserved-then-lt : goal.loop-low-preserved-then-lt
loop-low-preserved-then-lt c = (
  omega arith,
  reading-up c.args.s.now c.args.width c.args.used (key_of c.args.key.pool c.args.key.number) c.requires.sorted c.loop-low.low c.loop-low.high c.loop-low.reads c.loop-low.found (omega arith) c.loop-low.invariant.1 (search rules),
)

pub loop-low-preserved : goal.loop-low-preserved
loop-low-preserved c = (
  omega arith,
  reading-down c.args.s.now c.args.width c.args.used (key_of c.args.key.pool c.args.key.number) c.requires.sorted c.loop-low.low c.loop-low.high c.loop-low.reads c.loop-low.found (omega arith) c.loop-low.invariant.1 c.eq-found.result (search rules) (search rules),
)

-- the answer by its two parts
abbrev told : Result ℕ ℕ → ℕ → Lookup
told place reads = record { place = place; reads = reads }

pub returns-then-found : goal.returns-then-found
returns-then-found c =
    let k : ℕ = key_of c.args.key.pool c.args.key.number in
    ap₂ told
    (holds_at c.args.s.now c.args.width c.args.used k c.requires.sorted _ (omega arith) c.loop-low.invariant.1.holds c.if-found.true)
    (reading-done c.args.s.now c.args.width c.args.used k _ c.loop-low.reads (omega arith) c.loop-low.invariant.1)

pub returns-else-found : goal.returns-else-found
returns-else-found c =
    let k : ℕ = key_of c.args.key.pool c.args.key.number in
    ap₂ told
    (holds-gap c.args.s.now c.args.width c.args.used k c.requires.sorted _ (omega arith) c.loop-low.invariant.1.holds c.if-found.false)
    (reading-done c.args.s.now c.args.width c.args.used k _ c.loop-low.reads (omega arith) c.loop-low.invariant.1)
