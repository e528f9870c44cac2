-- `share_loss` meets its contract: what it settles is what the rules ask (`refused`, `shared`), and what it then writes is `lower`'s.
use Rattle.std.proofs.Common.{ap, sym, ◌∙◌, Ok, rules}
use Rattle.losses.proofs.Sharer.{some-sharer}
use Rattle.losses.proofs.Sizes.{sharers-of}
use Rattle.losses.proofs.Limits.{refused, shared}
use Rattle.losses.proofs.share_loss.Goals as goal

pub last_sharer-requires-clause-some_sharer : goal.last_sharer-requires-clause-some_sharer
last_sharer-requires-clause-some_sharer c = some-sharer c.requires.held_stakes c.pool_rows-rows.ensures c.requires.shareable

pub over_limit-requires : goal.over_limit-requires
over_limit-requires c =
    sharers-of (record { held = c.requires.held_stakes; loss-is = c.requires.shareable; span = c.pool_rows-rows.ensures; ends = c.last_sharer.ensures })

pub returns-then-over_limit : goal.returns-then-over_limit
returns-then-over_limit c =
    let told = refused (record { held = c.requires.held_stakes; loss-is = c.requires.shareable; span = c.pool_rows-rows.ensures; ends = c.last_sharer.ensures }) (search rules) c.over_limit.ensures c.if-over_limit.true in
    record { value = sym told.0; stakes_after = sym told.1 }

pub returns : goal.returns
returns c =
    let told = shared (record { held = c.requires.held_stakes; loss-is = c.requires.shareable; span = c.pool_rows-rows.ensures; ends = c.last_sharer.ensures }) (search rules) c.over_limit.ensures c.if-over_limit.false in
    record { value = ap Ok c.lower.ensures.value ∙ sym told.0; stakes_after = c.lower.ensures.stakes_after ∙ sym told.1 }
