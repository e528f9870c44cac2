-- What a read gave stands behind what was there, and is the input's next.
use Rattle.std.proofs.Common.{rules, ◌≡◌, ◌-◌, ◌≤◌, length, take, subst, sym, ◌∙◌}
use Rattle.std.proofs.KnownBytes.{Consumes-trans}
use Rattle.std.proofs.lemmas.Slice.{take-put_mid_below}
use Rattle.std.specs.Io.KnownBytes.{Consumes}
use Rattle.replay.proofs.Reading.{more, room-behind}
use Rattle.replay.proofs.input.fill.Goals as goal

pub loop-there-preserved : goal.loop-there-preserved
loop-there-preserved g c =
    let l = c.loop-there in
    let room = c.read.new.buf in
    let size : length room ≡ length l.bytes - l.there = c.read.auto.buf ∙ room-behind l.bytes l.there in
    let some : c.in_ok-got.got ≤ length room = search rules in
    let came : Consumes (g.R.Read.remaining l.log) (g.R.Read.remaining c.read.new.self) (take c.in_ok-got.got room) = search rules in (
      search rules,
      search rules,
      search rules,
      take-put_mid_below l.there (length l.bytes - l.there) l.bytes room c.args.have l.invariant.0 l.invariant.1 ∙ l.invariant.3,
      subst
          (Consumes (g.R.Read.remaining c.args.log.now) (g.R.Read.remaining c.read.new.self))
          (sym (more l.bytes room c.args.have l.there c.in_ok-got.got l.invariant.0 l.invariant.1 some))
          (Consumes-trans (g.R.Read.remaining c.args.log.now) (g.R.Read.remaining l.log) (g.R.Read.remaining c.read.new.self) _ _ l.invariant.4 came),
    )
