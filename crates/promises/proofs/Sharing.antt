-- THEOREM (demand 3, last sentence). After a claim or a direct payout, in a history from a fresh set, in a pool whose n non-zero
-- stakes are all positive, each of them but the last in row order has lost its exact share rounded down, and the last the rest, which
-- is at most n − 1 more than its own share rounded down. Losses are read off the books before and after the call.
use mathlib.Core.Path.{◌≡◌}
use mathlib.Core.Bool.{true}
use mathlib.Core.List.{List, [], ◌∷◌, ◌++◌}
use Prim.Native.Nat.{ℕ, ◌≤◌}
use lib.IntN.{pos}
use lib.Signed.{lt_z}
use Rattle.rules.specs.Table.{each}
use Rattle.rules.specs.Books.{StakeRow, Rooms, fresh}
use Rattle.rules.specs.Answers.{fresh_code}
use Rattle.rules.specs.Step.{step}
use Rattle.promises.specs.Calls.{Account, Call}
use Rattle.promises.specs.Histories.{run}
use Rattle.promises.specs.Shares.{taken_by, sharing, Fair}
use Rattle.promises.proofs.Along.{fresh-formed, run-formed}
use Rattle.promises.proofs.Fairly.{step-fair}

pub shared-fairly : (admin : Account) (rooms : Rooms) → fresh_code admin rooms ≡ 0 → (calls : List Call) (c : Call) (pool loss : ℕ) (others : List StakeRow) (last : StakeRow)
    → (let b = run (fresh admin rooms) calls in
    taken_by pool c.operation (step b c).answer ≡ loss → 1 ≤ loss
    → sharing pool b.stakes ≡ others ++ (last ∷ []) → each (λ r. lt_z (pos 0) r.stake) (sharing pool b.stakes) ≡ true
    → Fair pool loss b (step b c).books others last)
shared-fairly admin rooms e calls c pool loss others last taken some shares above =
    let b = run (fresh admin rooms) calls in
    step-fair b (run-formed (fresh admin rooms) calls (fresh-formed admin rooms e)) pool loss others last shares above some c taken
