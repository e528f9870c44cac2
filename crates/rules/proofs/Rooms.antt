-- Whether a key has a row, told by the row that is found.
use mathlib.Core.Path.{◌≡◌, sym}
use mathlib.Core.Bool.{Bool, true, false, not, cond}
use mathlib.Core.List.{List, [], ◌∷◌}
use Prim.Native.Nat.{ℕ}
use lib.Dec.{ltb, eqb}
use Rattle.rules.specs.Table.{find, has}
use Rattle.rules.specs.inner.Facts.{Rows}

module _ {A : Type 0} (key : A → ℕ) (Ok : A → Type 0) (gone : A → Bool) (d : A) (k : ℕ) (none : gone d ≡ true) (kept : (x : A) → Ok x → gone x ≡ false) where
  -- a key has no row where what is found is gone
  pub has-gone : (low : ℕ) (rows : List A) → Rows key Ok low rows → not (has key k rows) ≡ gone (find key d k rows)
  unfolding has find
  has-gone low [] r = sym none
  has-gone low (x ∷ rows) r = go (ltb (key x) k) (eqb (key x) k) (has-gone (key x) rows r.2)
    where
      go : (t u : Bool) → not (has key k rows) ≡ gone (find key d k rows) → not (cond t (has key k rows) u) ≡ gone (cond t (find key d k rows) (cond u x d))
      go true u ih = ih
      go false true ih = sym (kept x r.1)
      go false false ih = sym none
