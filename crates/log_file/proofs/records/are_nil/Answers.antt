-- `are_nil` meets its contract.
use mathlib.Core.List.{[], ◌∷◌}
use Prim.Native.Nat.{◌<◌, ◌^◌}
use lib.Signed.{mag}
use Rattle.rules.proofs.Conditions.{all-joined}
use Rattle.log_file.proofs.Zeros.{bits-zero}
use Rattle.log_file.proofs.records.are_nil.Goals as goal

pub returns : goal.returns
returns c =
    let amount = c.args.amount in
    let small : mag amount < 2 ^ 63 = search in
    rw (bits-zero amount record { sfits = small }) (all-joined _ (_ ∷ _ ∷ _ ∷ _ ∷ []))
