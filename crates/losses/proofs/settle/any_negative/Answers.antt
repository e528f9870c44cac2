use Rattle.std.proofs.Common.{rules, ◌≡◌, ℕ, Bool, true, false, refl, get_or, pos, ◌≤◌, ◌<◌, arith}
use lib.Signed.{lt_z}
use Rattle.std.proofs.iter.runs.Sources.{ranges}
use Rattle.whole.proofs.Linear.{lt-true, lt-false, one}
use Rattle.whole.specs.Whole.{dn}
use lib.IntN.{ℤ}
use Rattle.losses.specs.inner.Settling.{stake_at_row}
use Rattle.losses.proofs.settle.any_negative.Goals as goal

not-below : (z : ℤ) → dn z ≡ 0 → lt_z z (pos 0) ≡ false
not-below z h = go (lt_z z (pos 0)) refl
  where
    go : (t : Bool) → lt_z z (pos 0) ≡ t → t ≡ false
    go true e = absurd (omega (arith, h, one z, lt-true z (pos 0) e))
    go false e = refl

pub returns : goal.returns
returns c =
    let s = c.args.stakes.now in (
      λ e. record {
        none = λ k p q.
            let t : get_or s k 0 ≡ get_or s k 0 = refl in
            let n : lt_z (stake_at_row s k) (pos 0) ≡ false = search (rules, ranges) in
            omega (arith, lt-false (stake_at_row s k) (pos 0) n, one (stake_at_row s k));
      },
      λ h. let none : (k : ℕ) → c.args.from ≤ k → k < c.args.to → lt_z (stake_at_row s k) (pos 0) ≡ false = λ k p q. not-below (stake_at_row s k) (h.none k p q) in
          search (rules, ranges, none),
    )
