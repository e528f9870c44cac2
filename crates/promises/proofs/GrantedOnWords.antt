-- THEOREM (demand 3, first sentence, on words). Whatever words were lent for a fresh set: over any calls from it, no offer is ever paid more
-- than it was granted, both read off the answers that the calls on the words give.
use mathlib.Core.Path.{◌≡◌}
use mathlib.Core.List.{List}
use Prim.Native.Nat.{ℕ, ◌≤◌}
use Rattle.books.specs.Words.{Tables}
use Rattle.books.specs.Fresh.{rooms_of, fresh_words}
use Rattle.promises.specs.Calls.{Account, Offer, Call}
use Rattle.promises.specs.Histories.{granted_in, paid_in}
use Rattle.promises.specs.OnWords.{answers_on_words}
use Rattle.promises.proofs.Along.{fresh_set}
use Rattle.promises.proofs.Granted.{never-overpaid}
use Rattle.promises.proofs.Words.{histories-on-words}

pub never-overpaid-on-words : (t : Tables) (admin : Account) → (fresh_words t admin).code ≡ 0 → (calls : List Call) (pool : ℕ) (offer : Offer)
    → (let answers = answers_on_words (fresh_words t admin).tables calls in paid_in pool offer calls answers ≤ granted_in pool offer calls answers)
never-overpaid-on-words t admin e calls pool offer = rw (histories-on-words t admin e calls).answers (never-overpaid admin (rooms_of t) (fresh_set t admin e).code calls pool offer)
