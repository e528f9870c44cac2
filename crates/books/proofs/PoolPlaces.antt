-- A pool's rows lie between the places of account 0 of it and of the next pool, since no account is 0, and in one place only.
use Rattle.std.proofs.Common.{Ok, Err}
use mathlib.Core.Path.{◌≡◌, sym}
use mathlib.Core.Logic.{◌⊎◌, inl, inr, ⊎_elim}
use mathlib.Core.List.{List}
use Prim.Native.Nat.{ℕ, ◌+◌, ◌<◌}
use native.Mathlib.Omega.{arith}
use Rattle.rows.specs.Rows.{key_of}
use Rattle.rows.specs.Lookup.{place_of}
use Rattle.rows.proofs.Order.{found_at, found-gap, lt-or-le, le-cases}
use Rattle.books.specs.Layout.{stake_width}
use Rattle.books.specs.inner.Held.{HeldStakes}
use Rattle.books.specs.inner.Pool.{PoolStart, PoolAt}
use Rattle.books.proofs.StakeRows.{held-ok}

pub start_is : (s : List ℕ) (n : ℕ) → HeldStakes s n → (pool i : ℕ) → (place_of s stake_width n (key_of pool 0) ≡ Ok i) ⊎ (place_of s stake_width n (key_of pool 0) ≡ Err i) → PoolStart s n pool i
start_is s n h pool i (inl e) =
    let p = found_at s stake_width n (key_of pool 0) i h.table.sorted e in
    let ok = (held-ok s n h i p.0).number in
    absurd (omega (arith, p.1, ok.some, ok.word))
start_is s n h pool i (inr e) =
    let p = found-gap s stake_width n (key_of pool 0) i h.table.sorted e in
    record {
      most = p.hi-le;
      below = λ j l. omega (arith, p.below j l);
      above = λ j l m. let ok = (held-ok s n h j m).number in omega (arith, p.above j l m, ok.word);
    }

pub pool-at : {s : List ℕ} {n pool from to : ℕ} → PoolStart s n pool from → PoolStart s n (pool + 1) to → PoolAt s n pool from to
pool-at {from = from} {to = to} a b = record {
  order = ⊎_elim (λ l. absurd (omega (arith, a.below to l, b.above to (omega arith) (omega (arith, l, a.most))))) (λ l. l) (lt-or-le to from);
  most = b.most;
  below = a.below;
  mine = λ j l m. omega (arith, a.above j l (omega (arith, b.most)), b.below j m);
  above = λ j l m. omega (arith, b.above j l m);
}

-- one answer only
pub start-one : {s : List ℕ} {n pool a b : ℕ} → PoolStart s n pool a → PoolStart s n pool b → a ≡ b
start-one {a = a} {b = b} x y = ⊎_elim (λ l. absurd (clash x y l)) (λ l. ⊎_elim (λ e. sym e) (λ m. absurd (clash y x m)) (le-cases b a l)) (lt-or-le a b)
  where
    clash : {s : List ℕ} {n pool a b : ℕ} → PoolStart s n pool a → PoolStart s n pool b → a < b → ⊥
    clash {a = a} x y l = omega (arith, x.above a (omega arith) (omega (arith, l, y.most)), y.below a l)

pub pool-one : {s : List ℕ} {n pool a b c d : ℕ} → PoolAt s n pool a b → PoolAt s n pool c d → (a ≡ c) × (b ≡ d)
pool-one {a = a} {b = b} {c = c} {d = d} x y = (
  ⊎_elim (λ l. absurd (starts x y l)) (λ l. ⊎_elim (λ e. sym e) (λ m. absurd (starts y x m)) (le-cases c a l)) (lt-or-le a c),
  ⊎_elim (λ l. absurd (stops x y l)) (λ l. ⊎_elim (λ e. sym e) (λ m. absurd (stops y x m)) (le-cases d b l)) (lt-or-le b d),
)
  where
    starts : {s : List ℕ} {n pool a b c d : ℕ} → PoolAt s n pool a b → PoolAt s n pool c d → a < c → ⊥
    starts {a = a} {b = b} x y l =
        ⊎_elim (λ m. omega (arith, x.mine a (omega arith) m, y.below a l)) (λ m. omega (arith, x.above a m (omega (arith, y.order, y.most)), y.below a l)) (lt-or-le a b)

    stops : {s : List ℕ} {n pool a b c d : ℕ} → PoolAt s n pool a b → PoolAt s n pool c d → b < d → ⊥
    stops {b = b} {c = c} x y l =
        ⊎_elim (λ m. omega (arith, x.above b (omega arith) (omega (arith, y.most)), y.below b m)) (λ m. omega (arith, x.above b (omega arith) (omega (arith, y.most)), y.mine b m l)) (lt-or-le b c)
