-- `is_key` meets its contract.
use mathlib.Core.Path.{ap₂, ◌∙◌}
use mathlib.Core.Bool.{Bool, ◌&&◌}
use mathlib.Core.List.{[], ◌∷◌}
use Rattle.rules.proofs.Conditions.{all-joined}
use Rattle.rules.proofs.fields.is_key.Goals as goal

pub returns : goal.returns
returns c = ap₂ (λ (x y : Bool). x && y) c.is_pool.ensures c.is_number.ensures ∙ all-joined _ (_ ∷ [])
