-- What a loss does to the stake rows: the sums, the order and the length.
use mathlib.Core.Path.{◌≡◌, refl, sym, ◌∙◌, ap}
use mathlib.Core.Bool.{Bool, true, false, not, cond, ◌&&◌, true≢false}
use mathlib.Core.List.{List, [], ◌∷◌}
use Prim.Native.Nat.{ℕ, suc, ◌≤◌}
use native.Mathlib.Omega.{arith}
use borrow.Author.Tests.{eqb-true, eq-eqb, ne_eqb, leb-true}
use lib.Dec.{eqb, leb}
use lib.IntN.{ℤ, pos, negsuc, nat_abs, ◌+ℤ◌, ◌-ℤ◌}
use lib.Signed.{◌<ℤ◌}
use lib.ListN.{length}
use Rattle.whole.proofs.Linear.{whole, sum, dif}
use Rattle.whole.specs.Sums.{sum_z}
use Rattle.rules.specs.Limits.{limit, last_time}
use Rattle.rules.specs.Table.{keep, sum_of}
use Rattle.rules.specs.Books.{StakeRow, is_zero, stake_key, stake_gone, stake_row}
use Rattle.rules.specs.Sharing.{sharer, sharers, reductions, cut_row, lowered, shared, stakes_fit}
use Rattle.rules.specs.Formed.{stake_in}
use Rattle.rules.proofs.Tests.{cases, and_left, each_first}
use Rattle.rules.specs.inner.Facts.{StakeOk, Rows, stake_sum}
use Rattle.rules.proofs.Tables.{rows-low}
use Rattle.rules.proofs.Cuts.{cuts-length, cuts-sum}

-- ---- one row

module _ (pool : ℕ) (r : StakeRow) (rows : List StakeRow) where
  pub sharers-in : sharer pool r ≡ true → sharers pool (r ∷ rows) ≡ r.stake ∷ sharers pool rows
  unfolding sharers
  sharers-in e = rw e

  pub sharers-out : sharer pool r ≡ false → sharers pool (r ∷ rows) ≡ sharers pool rows
  unfolding sharers
  sharers-out e = rw e

  pub lowered-in : (c : ℤ) (cs : List ℤ) → sharer pool r ≡ true → lowered pool (r ∷ rows) (c ∷ cs) ≡ keep stake_gone (cut_row r c) (lowered pool rows cs)
  unfolding lowered
  lowered-in c cs e = rw e

  pub lowered-out : (c : ℤ) (cs : List ℤ) → sharer pool r ≡ false → lowered pool (r ∷ rows) (c ∷ cs) ≡ r ∷ lowered pool rows (c ∷ cs)
  unfolding lowered
  lowered-out c cs e = rw e

-- a sharer is of the pool
in-pool : (pool : ℕ) (r : StakeRow) → sharer pool r ≡ true → r.pool ≡ pool
unfolding sharer
in-pool pool r e = eqb-true r.pool pool (and_left _ _ e)

zero_is : (z : ℤ) → is_zero z ≡ true → z ≡ pos 0
zero_is (pos n) e = ap pos (eqb-true n 0 e)
zero_is (negsuc n) e = let z = eqb-true (suc n) 0 e in absurd (omega arith)

-- a row of the pool that is no sharer has no stake
no-share : (pool : ℕ) (r : StakeRow) → sharer pool r ≡ false → stake_in pool r ≡ pos 0
unfolding sharer
no-share pool r e = go (eqb r.pool pool) (is_zero r.stake) refl e
  where
    go : (t u : Bool) → is_zero r.stake ≡ u → (t && not u) ≡ false → cond t r.stake (pos 0) ≡ pos 0
    go true true f e = zero_is r.stake f
    go true false f e = absurd (true≢false e)
    go false u f e = refl

-- ---- sums

-- a pool's stakes are its sharers'
pub sharers-sum : (pool : ℕ) (rows : List StakeRow) → stake_sum pool rows ≡ sum_z (sharers pool rows)
unfolding sharers sum_of sum_z
sharers-sum pool [] = refl
sharers-sum pool (r ∷ rows) = go (sharer pool r) refl (sharers-sum pool rows)
  where
    go : (t : Bool) → sharer pool r ≡ t → stake_sum pool rows ≡ sum_z (sharers pool rows) → stake_in pool r +ℤ stake_sum pool rows ≡ sum_z (sharers pool (r ∷ rows))
    go true e ih = rw (sharers-in pool r rows e, eq-eqb r.pool pool (in-pool pool r e)) (ap (λ (z : ℤ). r.stake +ℤ z) ih)
    go false e ih =
        let z = no-share pool r e in
        rw (sharers-out pool r rows e) (omega (arith, whole, ih, z, sum (stake_in pool r) (stake_sum pool rows)))

-- the pool's stakes fall by the reductions
pub lowered-sum : (pool : ℕ) (rows : List StakeRow) (cuts : List ℤ) → length cuts ≡ length (sharers pool rows) → stake_sum pool (lowered pool rows cuts) +ℤ sum_z cuts ≡ stake_sum pool rows
unfolding lowered sum_of sum_z sharers
lowered-sum pool [] [] h = refl
lowered-sum pool [] (c ∷ cs) h = absurd (omega arith)
lowered-sum pool (r ∷ rows) [] h = omega (arith, whole, sum (stake_in pool r +ℤ stake_sum pool rows) (pos 0))
lowered-sum pool (r ∷ rows) (c ∷ cs) h = go (sharer pool r) refl (lowered-sum pool rows cs) (lowered-sum pool rows (c ∷ cs)) h
  where
    go : (t : Bool) → sharer pool r ≡ t
        → (length cs ≡ length (sharers pool rows) → stake_sum pool (lowered pool rows cs) +ℤ sum_z cs ≡ stake_sum pool rows)
        → (suc (length cs) ≡ length (sharers pool rows) → stake_sum pool (lowered pool rows (c ∷ cs)) +ℤ (c +ℤ sum_z cs) ≡ stake_sum pool rows)
        → suc (length cs) ≡ length (sharers pool (r ∷ rows))
        → stake_sum pool (lowered pool (r ∷ rows) (c ∷ cs)) +ℤ (c +ℤ sum_z cs) ≡ stake_in pool r +ℤ stake_sum pool rows
    go true e ih no-ih h =
        let l = ap length (sharers-in pool r rows e) in
        let i = ih (omega arith) in
        let s = stake_sum pool (lowered pool rows cs) in
        let t = stake_sum pool rows in
        let q = eq-eqb r.pool pool (in-pool pool r e) in
        rw (lowered-in pool r rows c cs e, q)
        (cases (stake_gone (cut_row r c)) (lowered pool rows cs) (cut_row r c ∷ lowered pool rows cs) (λ (z : List StakeRow). stake_sum pool z +ℤ (c +ℤ sum_z cs) ≡ r.stake +ℤ t)
        (λ g. let z = zero_is (r.stake -ℤ c) (and_left _ _ g) in omega (arith, whole, i, z, dif r.stake c, sum s (sum_z cs), sum c (sum_z cs), sum s (c +ℤ sum_z cs), sum r.stake t))
        (λ g. rw q (omega (arith, whole, i, dif r.stake c, sum s (sum_z cs), sum c (sum_z cs), sum (r.stake -ℤ c) s, sum (r.stake -ℤ c +ℤ s) (c +ℤ sum_z cs), sum r.stake t))))
    go false e no-ih ih h =
        let l = ap length (sharers-out pool r rows e) in
        let i = ih (omega arith) in
        let s = stake_sum pool (lowered pool rows (c ∷ cs)) in
        let x = stake_in pool r in
        rw (lowered-out pool r rows c cs e) (omega (arith, whole, i, sum s (c +ℤ sum_z cs), sum x s, sum (x +ℤ s) (c +ℤ sum_z cs), sum x (stake_sum pool rows)))

-- another pool's stay
pub lowered-other : (pool p : ℕ) (rows : List StakeRow) (cuts : List ℤ) → (p ≡ pool → ⊥) → stake_sum p (lowered pool rows cuts) ≡ stake_sum p rows
unfolding lowered sum_of
lowered-other pool p [] cuts n = refl
lowered-other pool p (r ∷ rows) [] n = refl
lowered-other pool p (r ∷ rows) (c ∷ cs) n = go (sharer pool r) refl (lowered-other pool p rows cs n) (lowered-other pool p rows (c ∷ cs) n)
  where
    go : (t : Bool) → sharer pool r ≡ t → stake_sum p (lowered pool rows cs) ≡ stake_sum p rows → stake_sum p (lowered pool rows (c ∷ cs)) ≡ stake_sum p rows
        → stake_sum p (lowered pool (r ∷ rows) (c ∷ cs)) ≡ stake_in p r +ℤ stake_sum p rows
    go true e i j =
        let q = ne_eqb r.pool p (λ (z : r.pool ≡ p). n (sym z ∙ in-pool pool r e)) in
        rw (lowered-in pool r rows c cs e, q)
        (cases (stake_gone (cut_row r c)) (lowered pool rows cs) (cut_row r c ∷ lowered pool rows cs) (λ (z : List StakeRow). stake_sum p z ≡ pos 0 +ℤ stake_sum p rows)
        (λ g. omega (arith, whole, i, sum (pos 0) (stake_sum p rows)))
        (λ g. rw q (ap (λ (z : ℤ). pos 0 +ℤ z) i)))
    go false e i j = rw (lowered-out pool r rows c cs e) (ap (λ (z : ℤ). stake_in p r +ℤ z) j)

-- ---- order and length

pub lowered-length : (pool : ℕ) (rows : List StakeRow) (cuts : List ℤ) → length (lowered pool rows cuts) ≤ length rows
unfolding lowered
lowered-length pool [] cuts = omega arith
lowered-length pool (r ∷ rows) [] = omega arith
lowered-length pool (r ∷ rows) (c ∷ cs) =
    let i = lowered-length pool rows cs in
    let j = lowered-length pool rows (c ∷ cs) in
    cases (sharer pool r) (keep stake_gone (cut_row r c) (lowered pool rows cs)) (r ∷ lowered pool rows (c ∷ cs)) (λ (z : List StakeRow). length z ≤ suc (length rows))
    (λ e. cases (stake_gone (cut_row r c)) (lowered pool rows cs) (cut_row r c ∷ lowered pool rows cs) (λ (z : List StakeRow). length z ≤ suc (length rows)) (λ g. omega arith) (λ g. omega arith))
    (λ e. omega arith)

lowered-ok : (r : StakeRow) (s : ℤ) → StakeOk r → stake_gone (stake_row r.pool r.account s r.since r.accrual) ≡ false → nat_abs s ≤ limit → StakeOk (stake_row r.pool r.account s r.since r.accrual)
lowered-ok r s ok g h = record {
  pool = ok.pool;
  number = ok.number;
  kept = g;
  no-since = λ e. rw (eq-eqb (nat_abs s) 0 e);
  time = cases (is_zero s) 0 r.since (λ (n : ℕ). n ≤ last_time) (λ e. omega arith) (λ e. ok.time);
  size = h;
  accrued = ok.accrued;
}

-- the order is kept, where no stake passes its limit
pub lowered-rows : (pool low : ℕ) (rows : List StakeRow) (cuts : List ℤ) → Rows stake_key StakeOk low rows → stakes_fit (lowered pool rows cuts) ≡ true → Rows stake_key StakeOk low (lowered pool rows cuts)
unfolding lowered stakes_fit
lowered-rows pool low [] cuts h f = tt
lowered-rows pool low (r ∷ rows) [] h f = h
lowered-rows pool low (r ∷ rows) (c ∷ cs) h f = go (sharer pool r) refl f (lowered-rows pool (stake_key r) rows cs h.2) (lowered-rows pool (stake_key r) rows (c ∷ cs) h.2)
  where
    put_in : (u : Bool) → stake_gone (cut_row r c) ≡ u → stakes_fit (cond u (lowered pool rows cs) (cut_row r c ∷ lowered pool rows cs)) ≡ true
        → (stakes_fit (lowered pool rows cs) ≡ true → Rows stake_key StakeOk (stake_key r) (lowered pool rows cs))
        → Rows stake_key StakeOk low (cond u (lowered pool rows cs) (cut_row r c ∷ lowered pool rows cs))
    put_in true g f i = rows-low stake_key StakeOk low (stake_key r) (lowered pool rows cs) (omega (arith, h.0)) (i f)
    put_in false g f i =
        let p = each_first (λ x. leb (nat_abs x.stake) limit) (cut_row r c) (lowered pool rows cs) f in
        (h.0, lowered-ok r (r.stake -ℤ c) h.1 g (leb-true _ _ p.0), i p.1)

    go : (t : Bool) → sharer pool r ≡ t → stakes_fit (lowered pool (r ∷ rows) (c ∷ cs)) ≡ true
        → (stakes_fit (lowered pool rows cs) ≡ true → Rows stake_key StakeOk (stake_key r) (lowered pool rows cs))
        → (stakes_fit (lowered pool rows (c ∷ cs)) ≡ true → Rows stake_key StakeOk (stake_key r) (lowered pool rows (c ∷ cs)))
        → Rows stake_key StakeOk low (lowered pool (r ∷ rows) (c ∷ cs))
    go true e f i j = rw (lowered-in pool r rows c cs e) (put_in (stake_gone (cut_row r c)) refl (rw (lowered-in pool r rows c cs e) at f) i)
    go false e f i j =
        let p = each_first (λ x. leb (nat_abs x.stake) limit) r (lowered pool rows (c ∷ cs)) (rw (lowered-out pool r rows c cs e) at f) in
        rw (lowered-out pool r rows c cs e) (h.0, h.1, j p.1)

-- ---- the loss as a whole

-- a pool with something in it has a sharer, so the reductions are together the loss
pub loss-sum : (pool loss balance : ℕ) (rows : List StakeRow) → pos 0 <ℤ stake_sum pool rows → sum_z (reductions loss balance (pos loss) (sharers pool rows)) ≡ pos loss
unfolding sum_z
loss-sum pool loss balance rows h = go (sharers pool rows) (sharers-sum pool rows)
  where
    go : (ss : List ℤ) → stake_sum pool rows ≡ sum_z ss → sum_z (reductions loss balance (pos loss) ss) ≡ pos loss
    go [] e = absurd (omega (arith, whole, e, h))
    go (s ∷ ss) e = cuts-sum loss balance (pos loss) s ss

pub shared-sum : (pool loss balance : ℕ) (rows : List StakeRow) → pos 0 <ℤ stake_sum pool rows → stake_sum pool (shared pool loss balance rows) ≡ stake_sum pool rows -ℤ pos loss
unfolding shared
shared-sum pool loss balance rows h =
    let cuts = reductions loss balance (pos loss) (sharers pool rows) in
    let a = lowered-sum pool rows cuts (cuts-length loss balance (pos loss) (sharers pool rows)) in
    let b = loss-sum pool loss balance rows h in
    omega (arith, whole, a, b, sum (stake_sum pool (lowered pool rows cuts)) (sum_z cuts))

pub shared-other : (pool loss balance p : ℕ) (rows : List StakeRow) → (p ≡ pool → ⊥) → stake_sum p (shared pool loss balance rows) ≡ stake_sum p rows
unfolding shared
shared-other pool loss balance p rows n = lowered-other pool p rows _ n

pub shared-length : (pool loss balance : ℕ) (rows : List StakeRow) → length (shared pool loss balance rows) ≤ length rows
unfolding shared
shared-length pool loss balance rows = lowered-length pool rows _

pub shared-rows : (pool loss balance : ℕ) (rows : List StakeRow) → Rows stake_key StakeOk 0 rows → stakes_fit (shared pool loss balance rows) ≡ true → Rows stake_key StakeOk 0 (shared pool loss balance rows)
unfolding shared
shared-rows pool loss balance rows h f = lowered-rows pool 0 rows _ h f
