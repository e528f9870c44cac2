-- `same_sums` meets its contract: two slices of four words are the same where each word is.
use Rattle.std.proofs.Common.{◌≡◌, ℕ, ◌+◌, ◌-◌, ◌≤◌, ◌<◌, Bool, true, false, ◌&&◌, List, [], ◌∷◌, length, get_or, take, drop, refl, ap, ap₂, ◌∙◌, sym, arith, length-drop}
use Rattle.std.proofs.lemmas.List.{get_or-take}
use lib.Pointwise.{pointwise}
use lib.Dec.{eqb}
use lib.ListN.{length-take}
use lib.Seq.{get_or-drop}
use Rattle.rules.specs.Table.{each, all}
use Rattle.books.specs.Layout.{pools, each_pool}
use Rattle.books.proofs.Good.{four-of}
use Rattle.books.proofs.test.same_sums.Goals as goal

words_from : (b : List ℕ) (from : ℕ) → from + pools ≤ length b → take pools (drop from b) ≡ each_pool (λ p. get_or b (from + p) 0)
words_from b from h =
    let at : (k : ℕ) → k < pools → get_or (take pools (drop from b)) k 0 ≡ get_or b (from + k) 0 = λ k l. get_or-take pools (drop from b) k 0 l ∙ get_or-drop from b k 0 in
    sym (four-of 0 (take pools (drop from b)) (omega (arith, length-take pools (drop from b), length-drop from b)))
    ∙ cc (at 0 (omega arith), at 1 (omega arith), at 2 (omega arith), at 3 (omega arith))

four-joined : (a b c d : Bool) → (a && (b && (c && (d && true)))) ≡ all (a ∷ b ∷ c ∷ d ∷ [])
unfolding each
four-joined false b c d = refl
four-joined true false c d = refl
four-joined true true false d = refl
four-joined true true true false = refl
four-joined true true true true = refl

pub returns : goal.returns
returns c =
    let b = c.args.books.now in
    let from = c.args.from in
    let sums = c.args.sums in
    let e : from + pools - from ≡ pools = omega arith in
    c.eq.ensures
    ∙ ap₂ (pointwise eqb) (ap (λ (n : ℕ). take n (drop from b)) e ∙ words_from b from c.requires) (sym (four-of 0 sums (omega arith)))
    ∙ four-joined (eqb (get_or b (from + 0) 0) (get_or sums 0 0)) (eqb (get_or b (from + 1) 0) (get_or sums 1 0)) (eqb (get_or b (from + 2) 0) (get_or sums 2 0)) (eqb (get_or b (from + 3) 0) (get_or sums 3 0))
