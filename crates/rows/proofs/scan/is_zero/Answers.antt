-- `is_zero` meets its contract: the fold has the bits of all its words.
use Rattle.std.proofs.Common.{rules, ◌≡◌, ◌∙◌, ap, ℕ, fold, bit_or, eqb}
use Rattle.std.proofs.lemmas.Iterator.{YieldsList-from_slice}
use Rattle.std.proofs.lemmas.Iterator.Consumers.{fold_from_yields_List}
use Rattle.rows.proofs.Zeros.{no-bits}
use Rattle.rows.proofs.scan.is_zero.Goals as goal

pub returns : goal.returns
returns c =
    let words = c.args.part.now in
    let bits : c.fold.result ≡ fold bit_or 0 words = fold_from_yields_List _ bit_or 0 c.fold.result c.fold.ensures.ran (YieldsList-from_slice words (search rules)) (λ a x b q k. search rules) in
    ap (λ (n : ℕ). eqb n 0) bits ∙ no-bits words
