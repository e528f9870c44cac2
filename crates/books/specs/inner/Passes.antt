-- What one pass over a table answers, and what the table test asks of the books.
use Rattle.std.specs.Prelude.{◌≡◌, Bool, true, false, not, List, [], ◌∷◌, ℕ, ◌+◌, ◌^◌, ◌<◌, eqb, leb, get_or, Option, MatchOption}
use Rattle.rules.specs.Limits.{greatest_rate}
use Rattle.rules.specs.Table.{all, sum_of}
use Rattle.rules.specs.Formed.{rows_test}
use Rattle.books.specs.Layout.{pools, each_pool, admin_word, paused_word, rate_word}
use Rattle.books.specs.Tables.{used_of, table_of}
use Rattle.books.specs.inner.Kinds.{Kind}
use Rattle.books.specs.declared.pass.Passed.{Passed}

module _ (k : Kind) (w : ℕ) where
  -- the rows of s are in order, and p says how many are used and what each pool's rows come to
  pub record IsPassed (s : List ℕ) (p : Passed) : Type 0 where
    pub tests : rows_test k.key k.test 0 (table_of k.row_at w s) ≡ true
    pub used : p.used ≡ used_of w s
    pub words : (pool : ℕ) → get_or p.sums pool 0 < 2 ^ 64
    pub sums : (pool : ℕ) → pool < pools → k.value (get_or p.sums pool 0) ≡ sum_of (k.part pool) (table_of k.row_at w s)

  -- and no answer is one that they are not
  abbrev pub PassedOr : List ℕ → Option Passed → Type 0
  PassedOr s r = MatchOption r (rows_test k.key k.test 0 (table_of k.row_at w s) ≡ false) (IsPassed s)

-- ---- what the table test asks of the books' own words

-- a word for each pool, from an index on
abbrev pub same_sums : List ℕ → ℕ → List ℕ → Bool
same_sums b from sums = all (each_pool (λ pool. eqb (get_or b (from + pool) 0) (get_or sums pool 0)))

-- an admin, a flag, and a rate within its limit
abbrev pub settings_test : List ℕ → Bool
settings_test b = all (not (eqb (get_or b admin_word 0) 0) ∷ leb (get_or b paused_word 0) 1 ∷ leb (get_or b rate_word 0) greatest_rate ∷ [])
