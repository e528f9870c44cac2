-- `claim_fields` meets its contract.
use mathlib.Core.Path.{ap₂, ◌∙◌}
use mathlib.Core.Bool.{Bool, ◌&&◌}
use mathlib.Core.List.{[], ◌∷◌}
use Rattle.rules.specs.Limits.{is_pool, is_number}
use Rattle.rules.specs.Table.{each}
use Rattle.rules.proofs.Conditions.{all-joined}
use Rattle.rules.proofs.malformed.claim_fields.Goals as goal

abbrev both : Bool → Bool → Bool
both x y = x && y

pub returns : goal.returns
unfolding each
returns c =
    let a = c.args.c in
    ap₂ both (ap₂ both c.is_pool.ensures c.is_number.ensures) c.is_number-2.ensures
    ∙ all-joined (is_pool a.pool) (is_number a.offer.0 ∷ is_number a.lender.0 ∷ [])
