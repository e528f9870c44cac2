-- `is_malformed` meets its contract.
use mathlib.Core.Path.{ap, ap₂, ◌∙◌}
use mathlib.Core.Bool.{Bool, not, ◌&&◌}
use Rattle.rules.specs.Step.{field_tests, malformed}
use Rattle.rules.proofs.Conditions.{all-last}
use Rattle.rules.proofs.malformed.is_malformed.Goals as goal

abbrev both : Bool → Bool → Bool
both x y = x && y

pub returns : goal.returns
unfolding malformed
returns c =
    ap not
    (ap₂ both (ap₂ both c.is_time.ensures c.is_number.ensures) c.fields_fit.ensures
    ∙ all-last _ _ (field_tests c.args.call.operation))
