-- A sorted table as a list of rows, and sums and tests over lists. A table is the Rust's `Map`: "sorted lent rows".
use Rattle.std.specs.Prelude.{Bool, true, false, cond, List, [], ◌∷◌, ℕ, zero, suc, ◌+◌, ltb, eqb, ℤ, pos, ◌+ℤ◌}
-- tier_key, tier_offer_key: rows ascend "by pool then number", which is the order of this one number
pub use Rattle.rows.specs.Rows.{key_of}

module _ {A : Type 0} (key : A → ℕ) where
  -- Map::get(k).unwrap_or(d)
  unfoldable pub find : A → ℕ → List A → A
  find d k [] = d
  find d k (x ∷ rows) = cond (ltb (key x) k) (find d k rows) (cond (eqb (key x) k) x d)

  -- Map::contains_key(k)
  unfoldable pub has : ℕ → List A → Bool
  has k [] = false
  has k (x ∷ rows) = cond (ltb (key x) k) (has k rows) (eqb (key x) k)

-- a row at the front, unless it is gone: a row with nothing in it "is removed"
abbrev pub keep : {A : Type 0} → (A → Bool) → A → List A → List A
keep gone r rows = cond (gone r) rows (r ∷ rows)

module _ {A : Type 0} (key : A → ℕ) (gone : A → Bool) where
  -- Map::set, and Map::remove where r is gone: r stands in its place, and no other row has its key
  unfoldable pub put : A → List A → List A
  put r [] = keep gone r []
  put r (x ∷ rows) = cond (ltb (key x) (key r)) (x ∷ put r rows) (keep gone r (cond (eqb (key x) (key r)) rows (x ∷ rows)))

-- the sum of a figure over the rows: "each balance is its stakes' signed sum"
unfoldable pub sum_of : {A : Type 0} → (A → ℤ) → List A → ℤ
sum_of f [] = pos 0
sum_of f (x ∷ rows) = f x +ℤ sum_of f rows

-- whether each row passes a test: "every figure within its limit"
unfoldable pub each : {A : Type 0} → (A → Bool) → List A → Bool
each f [] = true
each f (x ∷ rows) = cond (f x) (each f rows) false

-- whether all of some tests hold
abbrev pub all : List Bool → Bool
all tests = each (λ t. t) tests

-- whether each number below n passes a test
unfoldable pub each_below : ℕ → (ℕ → Bool) → Bool
each_below zero f = true
each_below (suc n) f = cond (f n) (each_below n f) false

-- Map::len of the rows that pass a test
unfoldable pub count : {A : Type 0} → (A → Bool) → List A → ℕ
count f [] = 0
count f (x ∷ rows) = cond (f x) (1 + count f rows) (count f rows)
