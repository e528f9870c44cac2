-- `turn`: the bytes that came, the turn that `history` takes over them, and its text.
use Rattle.std.proofs.Common.{◌≡◌, refl, inr, ◌⊎◌, List, ℕ, Option, Result, Ok, Err}
use mathlib.Core.Bool.{false≢true}
use Rattle.std.specs.Prelude.{IsErr}
use Rattle.history.specs.declared.turns.Position.{Position}
use Rattle.books.specs.Words.{Tables, tables}
use Rattle.replay.specs.Turns.{Took, Turning}
use Rattle.replay.proofs.turn.Goals as goal
use Rattle.replay.proofs.turn.Goals.{After-print}

-- the turn that was taken
abbrev took : (g : _) (c : After-print g) → Took (tables c.args.stakes.now c.args.offers.now c.args.books.now) c.args.bytes.now c.args.text.now c.args.place.number c.args.place.there (tables c.take_turn-done.new.stakes c.take_turn-done.new.offers c.take_turn-done.new.books) c.take_turn-done.new.bytes c.take_turn-done.new.text c.take_turn-done.result.next
took g c =
    record {
      came = c.fill.new.bytes;
      count = c.in_ok-there.there;
      grown = c.in_ok-there.ensures.filled;
      done = c.take_turn-done.result;
      is = c.take_turn-done.ensures.text_after;
      goes = refl;
      onward = c.take_turn-done.ensures.onward;
    }

failed : (t : Tables) (bytes text : List ℕ) (number there : ℕ) (t₁ : Tables) (bytes₁ text₁ : List ℕ) → {E : Type 0} (r : Result (Option Position) E) → IsErr r → (t₁ ≡ t) ⊎ ((next : Option Position) × Took t bytes text number there t₁ bytes₁ text₁ next) → Turning t bytes text number there t₁ bytes₁ text₁ r
failed t bytes text number there t₁ bytes₁ text₁ (Ok x) f why = absurd (false≢true f)
failed t bytes text number there t₁ bytes₁ text₁ (Err e) f why = why

pub returns-in_err-print-clause-turning : goal.returns-in_err-print-clause-turning
returns-in_err-print-clause-turning g c = failed _ _ _ _ _ _ _ _ _ c.from_residual-in_err-print.ensures.0 (inr (_, took g (goal.at.returns-in_err-print-clause-turning g c).After-print))

pub returns-clause-telling : goal.returns-clause-telling
returns-clause-telling g c =
    record {
      took = took g (goal.at.returns-clause-telling g c).After-print;
      came = c.in_ok-there.ensures.came.0;
      all = c.in_ok-there.ensures.came.1;
      printed = c.in_ok-print.ensures;
    }
