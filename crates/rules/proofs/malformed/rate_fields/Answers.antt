-- `rate_fields` meets its contract.
use mathlib.Core.List.{[], ◌∷◌}
use mir.Syntax.{w64}
use lib.Dec.{eqb}
use lib.IntN.{pos}
use lib.Signed.{mag, le_z}
use mir.ValLaws.{to_z-of_z}
use Prim.Native.Nat.{◌<◌, ◌^◌}
use Rattle.rules.specs.Limits.{flat}
use Rattle.rules.specs.Table.{each}
use Rattle.rules.proofs.Conditions.{all-joined}
use Rattle.rules.proofs.malformed.rate_fields.Goals as goal

pub returns : goal.returns
unfolding each
returns c =
    let a = c.args.c in
    let small : mag a.rate < 2 ^ 63 = search in
    rw (to_z-of_z w64 a.rate record { sfits = small }) (all-joined (eqb a.pool flat) (le_z (pos 0) a.rate ∷ []))
