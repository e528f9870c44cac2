-- What the code that writes a row, puts one in or takes one out makes of the words, and the number of used rows.
use mathlib.Core.Path.{◌≡◌, sym, ap, ap₂, ◌∙◌}
use mathlib.Core.Logic.{⊎_elim}
use mathlib.Core.List.{List, ◌++◌, append_assoc}
use Prim.Native.Nat.{ℕ, ◌+◌, ◌-◌, ◌*◌, ◌≤◌, ◌<◌}
use native.Mathlib.Nat.{le_refl, mul-le-mul_right, lt_of_lt_of_le, le-div_iff_mul-le}
use native.Mathlib.Omega.{arith}
use lib.ListN.{length, take, drop, length-append, length-drop}
use lib.Seq.{paste, length-take-le, drop-drop, drop_at, take-take, take-append-le, take-paste, drop-paste}
use borrow.Rule.Slice.PartMut.{put_mid}
use Rattle.rows.specs.Rows.{zeros, number_word}
use Rattle.rows.specs.inner.Order.{Blank, Used, Packed}
use Rattle.rows.specs.inner.Moves.{closed, row_written, inserted, removed}
use Rattle.rows.proofs.Order.{row_in, le-cases, lt-or-le}

-- rows i .. n - 1 after the first i rows: the one law on products that an insertion and a removal need
pub rows_split : (w i n : ℕ) → i ≤ n → i * w + (n - i) * w ≡ n * w
rows_split w i n h =
    let e : i + (n - i) ≡ n = omega arith in
    omega (arith, ap (λ (k : ℕ). k * w) e)

pub rows-after : (w i n : ℕ) → i < n → i * w + w + (n - i - 1) * w ≡ n * w
rows-after w i n h =
    let e : i + 1 + (n - i - 1) ≡ n = omega arith in
    omega (arith, ap (λ (k : ℕ). k * w) e)

-- a row below row n ends before it
pub row_ends : (w i n : ℕ) → i < n → i * w + w ≤ n * w
row_ends w i n h = row_in w h (le_refl (n * w))

-- ---- a row written

pub written-length : (s : List ℕ) (w i : ℕ) (row : List ℕ) → i * w + w ≤ length s → length row ≡ w → length (row_written s w i row) ≡ length s
written-length s w i row l e =
    omega (arith, length-append (take (i * w) s) (row ++ drop (i * w + w) s), length-append row (drop (i * w + w) s), length-drop (i * w + w) s, length-take-le (i * w) s (omega arith))

-- ---- a row put in: what the code of `insert` makes

pub inserted-made : (s : List ℕ) (w n at : ℕ) (row : List ℕ) → at ≤ n → n * w + w ≤ length s → (d : List ℕ) → d ≡ paste s (at * w + w) (drop (at * w) s) (n * w - at * w) → row_written d w at row ≡ inserted s w n at row
inserted-made s w n at row h l d e =
    let a : ℕ = at * w in
    let k : ℕ = n * w - a in
    let m : List ℕ = take k (drop a s) ++ drop (a + w + k) s in
    let rs : a + (n - at) * w ≡ n * w = rows_split w at n h in
    let i : k ≡ (n - at) * w = omega arith in
    let f : a + w + k ≡ n * w + w = omega arith in
    let g : length (take (a + w) s) ≡ a + w = length-take-le (a + w) s (omega arith) in
    let p : d ≡ take (a + w) s ++ m = e ∙ append_assoc (take (a + w) s) (take k (drop a s)) (drop (a + w + k) s) in
    let q = take-append-le a (take (a + w) s) m (omega arith) in
    let t = take-take a (a + w) s (omega arith) in
    let r = drop_at (take (a + w) s) m (a + w) g in
    cc

-- ---- words and rows taken out

-- what the code of `close` makes, a copy and then zeros written after it
pub closed-made : (s d z : List ℕ) (a b n : ℕ) → a ≤ b → b ≤ n → n ≤ length s → d ≡ paste s a (drop b s) (n - b) → z ≡ zeros (b - a)
    → put_mid (a + (n - b)) (n - (a + (n - b))) d z ≡ closed s a b n
closed-made s d z a b n h k l e f =
    let p : n - b ≤ length (drop b s) = omega (arith, length-drop b s) in
    let m : a + (n - b) + (n - (a + (n - b))) ≡ n = omega arith in
    let q = take-paste s a (drop b s) (n - b) (omega arith) p in
    let r = drop-paste s a (drop b s) (n - b) (omega arith) p in
    let t = drop-drop (n - (a + (n - b))) (a + (n - b)) s in
    cc (append_assoc (take a s) (take (n - b) (drop b s)) (zeros (b - a) ++ drop n s))

-- a row taken out is its words taken out
pub removed-closed : (s : List ℕ) (w n at : ℕ) → at < n → closed s (at * w) (at * w + w) (n * w) ≡ removed s w n at
removed-closed s w n at h =
    let e : n * w - (at * w + w) ≡ (n - at - 1) * w = omega (arith, rows-after w at n h) in
    let f : at * w + w - at * w ≡ w = omega arith in
    ap₂ (λ (m k : ℕ). take (at * w) s ++ (take m (drop (at * w + w) s) ++ (zeros k ++ drop (n * w) s))) e f

-- ---- the number of used rows

-- the number of leading used rows is one number
pub used-one : (s : List ℕ) (w n m : ℕ) → 0 < w → Used s w n → Used s w m → n ≡ m
used-one s w n m h u v = ⊎_elim (λ l. absurd (clash u v l)) (λ l. ⊎_elim sym (λ q. absurd (clash v u q)) (le-cases m n l)) (lt-or-le n m)
  where
    clash : {i j : ℕ} → Used s w i → Used s w j → i < j → ⊥
    clash {i} {j} a b l = b.used i l (a.stop (lt_of_lt_of_le l ((le-div_iff_mul-le h).1 b.fits)))

-- the used rows of a table come first where all the words after its leading ones are 0
pub used-packed : (s : List ℕ) (w n : ℕ) → Used s w n → Blank s (n * w) → Packed s w
used-packed s w n u b = record {
  rows = n;
  fits = u.fits;
  used = u.used;
  unused = λ i p q. b (i * w + number_word) (omega (arith, mul-le-mul_right w p));
}
