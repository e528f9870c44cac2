-- Keys tell pools and numbers apart: what is found in the rows of a pool that a loss or a banking does not concern.
use mathlib.Core.Path.{◌≡◌, refl, sym, ◌∙◌}
use mathlib.Core.Bool.{Bool, true, false, cond, ◌&&◌, true≢false}
use mathlib.Core.List.{List, [], ◌∷◌, map}
use Prim.Native.Nat.{ℕ, ◌<◌}
use native.Mathlib.Omega.{arith}
use borrow.Author.Tests.{eqb-true, eq-eqb}
use lib.Dec.{eqb}
use lib.IntN.{ℤ}
use Rattle.rules.specs.Limits.{flat, two_to64}
use Rattle.rules.specs.Table.{key_of, find, keep}
use Rattle.rules.specs.Books.{Books, StakeRow, stake_key, stake_gone, stake_row, banked_at}
use Rattle.rules.specs.Sharing.{sharer, cut_row, lowered}
use Rattle.rules.specs.Settings.{banked_row}
use Rattle.rules.proofs.Tests.{cases, and_left}
use Rattle.rules.specs.inner.Facts.{StakeOk, Rows}
use Rattle.rules.proofs.Tables.{Order, less, same, more, order, find_past, find-here, find_none, find-below}

-- one key, one pool and one number
key_one : (p q m n : ℕ) → m < two_to64 → n < two_to64 → key_of p m ≡ key_of q n → (p ≡ q) × (m ≡ n)
key_one p q m n hm hn e = let s : p ≡ q = omega arith in (s, omega arith)

other-pool : (p q m n : ℕ) → m < two_to64 → n < two_to64 → (p ≡ q → ⊥) → key_of p m ≡ key_of q n → ⊥
other-pool p q m n hm hn d e = d (key_one p q m n hm hn e).0

pub other_row : (p q m n : ℕ) → m < two_to64 → n < two_to64 → (eqb p q && eqb m n) ≡ false → key_of p m ≡ key_of q n → ⊥
other_row p q m n hm hn f e =
    let k = key_one p q m n hm hn e in
    true≢false (rw (eq-eqb p q k.0, eq-eqb m n k.1) at f)

-- a sharer is of the pool
pub sharer-pool : (pool : ℕ) (r : StakeRow) → sharer pool r ≡ true → r.pool ≡ pool
unfolding sharer
sharer-pool pool r e = eqb-true r.pool pool (and_left _ _ e)

-- a row found alike in two lists is found alike behind one more row
module _ (d : StakeRow) (k : ℕ) (x : StakeRow) (l m : List StakeRow) where
  pub find-behind : find stake_key d k l ≡ find stake_key d k m → find stake_key d k (x ∷ l) ≡ find stake_key d k (x ∷ m)
  find-behind e = go (order (stake_key x) k)
    where
      go : Order (stake_key x) k → find stake_key d k (x ∷ l) ≡ find stake_key d k (x ∷ m)
      go (less h) = find_past stake_key d k x l h ∙ e ∙ sym (find_past stake_key d k x m h)
      go (same h) = find-here stake_key d k x l h ∙ sym (find-here stake_key d k x m h)
      go (more h) = find_none stake_key d k x l h ∙ sym (find_none stake_key d k x m h)

-- no row of the pool has this key
abbrev pub Away : ℕ → ℕ → Type 0
Away pool k = (r : StakeRow) → StakeOk r → r.pool ≡ pool → stake_key r ≡ k → ⊥

pub away : (pool p account : ℕ) → account < two_to64 → (p ≡ pool → ⊥) → Away pool (key_of p account)
away pool p account h n r ok e = other-pool r.pool p r.account account ok.number.word h (λ s. n (sym s ∙ e))

module _ (pool k : ℕ) (off : Away pool k) (d : StakeRow) where
  -- a row of the pool, changed with its key, or gone, hides nothing
  passed : (r s : StakeRow) (l rows : List StakeRow) → StakeOk r → r.pool ≡ pool → stake_key s ≡ stake_key r → find stake_key d k l ≡ find stake_key d k rows → find stake_key d k (s ∷ l) ≡ find stake_key d k (r ∷ rows)
  passed r s l rows ok e q i = go (order (stake_key r) k)
    where
      go : Order (stake_key r) k → find stake_key d k (s ∷ l) ≡ find stake_key d k (r ∷ rows)
      go (less h) = find_past stake_key d k s l (omega arith) ∙ i ∙ sym (find_past stake_key d k r rows h)
      go (same h) = absurd (off r ok e h)
      go (more h) = find_none stake_key d k s l (omega arith) ∙ sym (find_none stake_key d k r rows h)

  dropped : (r : StakeRow) (l rows : List StakeRow) → StakeOk r → r.pool ≡ pool → Rows stake_key StakeOk (stake_key r) rows → find stake_key d k l ≡ find stake_key d k rows → find stake_key d k l ≡ find stake_key d k (r ∷ rows)
  dropped r l rows ok e w i = go (order (stake_key r) k)
    where
      go : Order (stake_key r) k → find stake_key d k l ≡ find stake_key d k (r ∷ rows)
      go (less h) = i ∙ sym (find_past stake_key d k r rows h)
      go (same h) = absurd (off r ok e h)
      go (more h) = i ∙ find-below stake_key StakeOk d k (stake_key r) rows (omega arith) w ∙ sym (find_none stake_key d k r rows h)

  -- a loss of the pool
  pub lowered-find : (low : ℕ) (rows : List StakeRow) (cuts : List ℤ) → Rows stake_key StakeOk low rows → find stake_key d k (lowered pool rows cuts) ≡ find stake_key d k rows
  unfolding lowered
  lowered-find low [] cuts h = refl
  lowered-find low (r ∷ rows) [] h = refl
  lowered-find low (r ∷ rows) (c ∷ cs) h = go (sharer pool r) refl (lowered-find (stake_key r) rows cs h.2) (lowered-find (stake_key r) rows (c ∷ cs) h.2)
    where
      go : (t : Bool) → sharer pool r ≡ t → find stake_key d k (lowered pool rows cs) ≡ find stake_key d k rows → find stake_key d k (lowered pool rows (c ∷ cs)) ≡ find stake_key d k rows
          → find stake_key d k (cond t (keep stake_gone (cut_row r c) (lowered pool rows cs)) (r ∷ lowered pool rows (c ∷ cs))) ≡ find stake_key d k (r ∷ rows)
      go true e i j =
          cases (stake_gone (cut_row r c)) (lowered pool rows cs) (cut_row r c ∷ lowered pool rows cs) (λ (z : List StakeRow). find stake_key d k z ≡ find stake_key d k (r ∷ rows))
          (λ g. dropped r (lowered pool rows cs) rows h.1 (sharer-pool pool r e) h.2 i)
          (λ g. passed r (cut_row r c) (lowered pool rows cs) rows h.1 (sharer-pool pool r e) refl i)
      go false e i j = find-behind d k r (lowered pool rows (c ∷ cs)) rows j

-- a banking of the flat pool
module _ (b : Books) (now k : ℕ) (off : Away flat k) (d : StakeRow) where
  pub banked-find : (low : ℕ) (rows : List StakeRow) → Rows stake_key StakeOk low rows → find stake_key d k (map (banked_row b now) rows) ≡ find stake_key d k rows
  banked-find low [] h = refl
  banked-find low (r ∷ rows) h = go (sharer flat r) refl (banked-find (stake_key r) rows h.2)
    where
      go : (t : Bool) → sharer flat r ≡ t → find stake_key d k (map (banked_row b now) rows) ≡ find stake_key d k rows → find stake_key d k (cond t (stake_row r.pool r.account r.stake now (banked_at b flat now r)) r ∷ map (banked_row b now) rows) ≡ find stake_key d k (r ∷ rows)
      go true e i = passed flat k off d r (stake_row r.pool r.account r.stake now (banked_at b flat now r)) (map (banked_row b now) rows) rows h.1 (sharer-pool flat r e) refl i
      go false e i = find-behind d k r (map (banked_row b now) rows) rows i
