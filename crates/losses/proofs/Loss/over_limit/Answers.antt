-- `over_limit` meets its contract: where no stake is below 0 the rest is no more than the loss (`none-over`), else it is computed.
use Rattle.std.proofs.Common.{sym, ap, ap₂, ℤ, ◌-ℤ◌, to_z}
use mathlib.Core.Path.{subst⁻¹}
use mir.Syntax.{w64}
use mir.Val.{SFits}
use Rattle.losses.proofs.Rest.{none-over, left-word}
use Rattle.losses.proofs.Loss.over_limit.Goals as goal

pub returns-then-not-any_negative : goal.returns-then-not-any_negative
returns-then-not-any_negative c = sym (none-over c.requires (c.any_negative.ensures.0 c.if-not-any_negative.true))

pub sub-left-requires : goal.sub-left-requires
sub-left-requires c =
    subst⁻¹ (SFits w64) (ap₂ (λ (x y : ℤ). x -ℤ y) (ap (to_z w64) c.get.ensures) c.rest_for-rest.ensures) (left-word c.requires)
