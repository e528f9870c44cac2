-- `pay_fields` meets its contract.
use mathlib.Core.Path.{ap₂, ◌∙◌}
use mathlib.Core.Bool.{Bool, ◌&&◌}
use mathlib.Core.List.{[], ◌∷◌}
use lib.Dec.{leb}
use Rattle.rules.specs.Limits.{last_reply, is_pool, is_number}
use Rattle.rules.specs.Table.{each}
use Rattle.rules.proofs.Conditions.{all-joined}
use Rattle.rules.proofs.malformed.pay_fields.Goals as goal

abbrev both : Bool → Bool → Bool
both x y = x && y

pub returns : goal.returns
unfolding each
returns c =
    let a = c.args.c in
    ap₂ both (ap₂ both (ap₂ both c.is_pool.ensures c.is_number.ensures) c.is_number-2.ensures) c.is_reply.ensures
    ∙ all-joined (is_pool a.pool) (is_number a.invoice.0 ∷ is_number a.beneficiary.0 ∷ leb a.reply last_reply ∷ [])
