-- What a refused call leaves: "Codes 1 to 11 answer 0, 0, no transfer, all tables as before".
use Rattle.std.specs.Prelude.{◌≡◌, pos}
use Rattle.rules.specs.Books.{Books}
use Rattle.rules.specs.Answers.{Outcome}

-- no money moves, and nothing is written
pub record NothingMoved (b : Books) (o : Outcome) : Type 0 where
  pub first : o.answer.first ≡ pos 0
  pub second : o.answer.second ≡ pos 0
  pub one : o.answer.one ≡ record { kind = 0; account = record { 0 = 0 }; amount = 0 }
  pub two : o.answer.two ≡ record { kind = 0; account = record { 0 = 0 }; amount = 0 }
  pub books : o.books ≡ b
