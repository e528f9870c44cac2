-- A transfer's text by its direction.
use Rattle.std.proofs.Common.{◌≡◌, refl, List, [], ◌∷◌, ◌++◌, ℕ}
use Rattle.rules.specs.declared.Account.{Account}
use Rattle.rules.specs.declared.answers.Direction.{Direction}
use Rattle.rules.specs.declared.answers.Direction.TheVariants.{In, Out}
use Rattle.rules.specs.Answers.{placed}
use Rattle.log_file.specs.Lines.{pair_text, transfer_text}

abbrev pub word_of : Direction → List ℕ
word_of In = 105 ∷ 110 ∷ 32 ∷ []
word_of Out = 111 ∷ 117 ∷ 116 ∷ 32 ∷ []

pub placed-text : (d : Direction) (a : Account) (n : ℕ) → transfer_text (placed d a n) ≡ word_of d ++ pair_text a.0 n
unfolding transfer_text
placed-text In a n = refl
placed-text Out a n = refl
