-- THEOREM. Document 01's figures K1 to K12, all together. The statement and its proof by computation stand in the rules, where an edit of a
-- definition meets them.
use Rattle.rules.specs.Figures.{Figures}
use Rattle.rules.proofs.Figures.{figures}

pub k1-to-k12 : Figures
k1-to-k12 = figures
