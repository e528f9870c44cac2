-- THEOREM (demand 3, first sentence). In every history from a fresh set, no offer is ever paid more than it was granted. Grants and
-- payments are read off the calls' answers, and a refused call answers 0.
use mathlib.Core.Path.{◌≡◌, refl}
use mathlib.Core.Bool.{Bool, true, false}
use mathlib.Core.List.{List}
use Prim.Native.Nat.{ℕ, ◌+◌, ◌≤◌}
use native.Mathlib.Omega.{arith}
use Rattle.rules.specs.Limits.{is_number}
use Rattle.rules.specs.Table.{find}
use Rattle.rules.specs.Books.{Rooms, offer_at, fresh}
use Rattle.rules.specs.Answers.{fresh_code}
use Rattle.rules.proofs.Tests.{number_read}
use Rattle.rules.proofs.Writes.{old-offer}
use Rattle.promises.specs.Calls.{Account, Offer, Call}
use Rattle.promises.specs.Histories.{run, answers_of, granted_in, paid_in}
use Rattle.promises.proofs.Along.{fresh-formed, run-formed}
use Rattle.promises.proofs.Offers.{run-told, never-paid}

pub never-overpaid : (admin : Account) (rooms : Rooms) → fresh_code admin rooms ≡ 0 → (calls : List Call) (pool : ℕ) (offer : Offer) → paid_in pool offer calls (answers_of (fresh admin rooms) calls) ≤ granted_in pool offer calls (answers_of (fresh admin rooms) calls)
unfolding find
never-overpaid admin rooms e calls pool offer = go (is_number offer.0) refl
  where
    go : (t : Bool) → is_number offer.0 ≡ t → paid_in pool offer calls (answers_of (fresh admin rooms) calls) ≤ granted_in pool offer calls (answers_of (fresh admin rooms) calls)
    go true n =
        let b = fresh admin rooms in
        let w = fresh-formed admin rooms e in
        let t = run-told pool offer n b calls w in
        let r : (offer_at (run b calls) pool offer).reserved ≡ 0 + granted_in pool offer calls (answers_of b calls) = t.reserved in
        let s : (offer_at (run b calls) pool offer).paid ≡ 0 + paid_in pool offer calls (answers_of b calls) = t.paid in
        let f = old-offer (run b calls) (run-formed b calls w).offer-rows pool offer (number_read offer.0 n).word in
        omega (arith, r, s, f.covered)
    go false n = omega (arith, never-paid pool offer n (fresh admin rooms) calls)
