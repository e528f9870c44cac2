-- `share_of` meets its contract: the share is at most the stake in size, so that its quotient fits (`signed-exact`).
use mathlib.Core.Path.{◌∙◌, ap}
use Prim.Native.Nat.{◌^◌, ◌<◌}
use Rattle.std.proofs.Common.{arith, rules}
use lib.IntN.{ℤ, nat_abs}
use mir.Syntax.{w64}
use mir.Val.{to_z}
use Rattle.whole.specs.Shares.{share}
use Rattle.whole.proofs.Linear.{whole, abs}
use Rattle.whole.proofs.Shares.{share-le}
use Rattle.whole.proofs.Words.{number-back}
use Rattle.std.proofs.lemmas.Option.{MatchOption-at_some}
use Rattle.limbs.proofs.Cases.{signed-exact}
use Rattle.losses.proofs.share.share_of.Goals as goal

pub returns : goal.returns
returns c =
    let x : ℤ = to_z w64 c.args.stake in
    let part : ℤ = share x c.args.loss c.args.balance in
    let small : nat_abs part < 2 ^ 63 = omega (arith, share-le x c.args.loss c.args.balance c.requires.most, abs part, c.requires.small) in
    let exact = signed-exact x c.args.loss c.args.balance c.requires.some (omega (arith, c.requires.large)) small in
    let taken = MatchOption-at_some _ _ _ (c.signed_mul_div.ensures ∙ exact) c.map_or.ensures in
    ap (to_z w64) (search rules) ∙ number-back part (omega (arith, whole, small, abs part))
