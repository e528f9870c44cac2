-- The order of an answer: the fields, then the tables, then what the rules answer.
use mathlib.Core.Path.{◌≡◌, refl, ap, ◌∙◌}
use mathlib.Core.Bool.{Bool, true, false, cond, ◌&&◌}
use mathlib.Core.List.{List, ◌∷◌}
use Prim.Native.Nat.{ℕ}
use native.Mathlib.Omega.{arith}
use lib.Dec.{eqb}
use lib.IntN.{ℤ, pos}
use Rattle.std.specs.Prelude.{Result, IsErrAnd}
use Rattle.std.proofs.lemmas.Result.{err_from_is_err_and}
use Rattle.rules.specs.declared.refusal.Refusal.{Refusal}
use Rattle.rules.specs.declared.answers.Done.{Done}
use Rattle.rules.specs.Table.{each, all}
use Rattle.rules.specs.Answers.{Answer, answer_of, code_of, refusal, Malformed, BadTables, OverLimit}
use Rattle.rules.specs.Queries.{asked, told}
use Rattle.books.specs.Words.{Tables, good_tables}
use Rattle.queries.specs.inner.Gate.{gate_code}
use Rattle.queries.specs.Queries.{query_words}

-- a question that the gate lets through
pub record Open (t : Tables) (fields : Bool) : Type 0 where
  pub met : fields ≡ true
  pub good : good_tables t ≡ true

pub open-read : (t : Tables) (fields : Bool) → 0 ≡ gate_code t fields → Open t fields
open-read t false e = absurd (omega arith)
open-read t true e = go (good_tables t) refl e
  where
    go : (g : Bool) → good_tables t ≡ g → 0 ≡ cond g 0 BadTables → Open t true
    go true f e = record { met = refl; good = f }
    go false f e = absurd (omega arith)

some-code : (r : Refusal) → code_of r ≡ 0 → ⊥
some-code r e = grind arith

-- ---- an answer behind the gate, of a query or a lookup

module _ {A : Type 0} (refused : ℕ → A) (answer : A) (t : Tables) (fields : Bool) where
  abbrev pub gated : A
  gated = cond fields (cond (good_tables t) answer (refused BadTables)) (refused Malformed)

  pub let-through : 0 ≡ gate_code t fields → answer ≡ gated
  let-through e = let o = open-read t fields e in rw (o.met, o.good)

  pub turned-away : (r : Refusal) → code_of r ≡ gate_code t fields → refused (code_of r) ≡ gated
  turned-away r = go fields (good_tables t)
    where
      go : (f g : Bool) → code_of r ≡ cond f (cond g 0 BadTables) Malformed → refused (code_of r) ≡ cond f (cond g answer (refused BadTables)) (refused Malformed)
      go false g e = ap refused e
      go true false e = ap refused e
      go true true e = absurd (some-code r e)

-- ---- a query's, whose own answer is never Malformed

module _ (t : Tables) (fields : List Bool) (a : Answer) (n : eqb a.code Malformed ≡ false) where
  in_order : gated refusal a t (all fields) ≡ query_words t (asked fields a)
  unfolding query_words
  in_order = go (all fields) (good_tables t)
    where
      go : (f g : Bool) → cond f (cond g a (refusal BadTables)) (refusal Malformed) ≡ cond (eqb (cond f a (refusal Malformed)).code Malformed) (cond f a (refusal Malformed)) (cond g (cond f a (refusal Malformed)) (refusal BadTables))
      go false g = refl
      go true true = rw n
      go true false = rw n

  module _ (met : Bool) (is : met ≡ all fields) where
    pub gate-answers : 0 ≡ gate_code t met → a ≡ query_words t (asked fields a)
    gate-answers e = let-through refusal a t met e ∙ ap (gated refusal a t) is ∙ in_order

    pub gate-refuses : (r : Refusal) → code_of r ≡ gate_code t met → (out : Result Done Refusal) → IsErrAnd out (λ x. x ≡ r) → answer_of out ≡ query_words t (asked fields a)
    gate-refuses r e out x =
        let p = err_from_is_err_and out x in
        ap answer_of p.1 ∙ ap (λ (y : Refusal). refusal (code_of y)) p.2 ∙ turned-away refusal a t met r e ∙ ap (gated refusal a t) is ∙ in_order

-- ---- fields

-- one more in front
pub with_first : (x : Bool) (fields : List Bool) → (x && all fields) ≡ all (x ∷ fields)
unfolding each
with_first true fields = refl
with_first false fields = refl

-- an accrual is never told as malformed
pub accrued-code : (within : Bool) (z : ℤ) → eqb (cond within (told z (pos 0)) (refusal OverLimit)).code Malformed ≡ false
accrued-code true z = refl
accrued-code false z = refl
