-- What is left of a loss after some rows that share it, none of them the last: one row more, and its bounds.
use mathlib.Core.Path.{◌≡◌, refl, sym, ap, ap₂, ◌∙◌}
use mathlib.Core.Bool.{Bool, true, false}
use mathlib.Core.List.{List}
use Prim.Native.Nat.{ℕ, zero, suc, ◌+◌, ◌-◌, ◌*◌, ◌≤◌, ◌<◌}
use native.Mathlib.Omega.{arith}
use borrow.Author.Tests.{ne_eqb}
use lib.Dec.{eqb}
use lib.IntN.{ℤ, pos, ◌-ℤ◌}
use lib.Signed.{lt_z}
use mir.Syntax.{w64}
use mir.Val.{SFits}
use Rattle.whole.specs.Whole.{up, dn, Within}
use Rattle.whole.proofs.Linear.{whole, one, dif}
use Rattle.rules.specs.Limits.{limit, most_stakes}
use Rattle.losses.specs.inner.Settling.{NoneBelow, Sharers, stake_at_row, lowered_by, least, left_last, rest_after}
use Rattle.losses.specs.declared.Loss.{Loss}
use Rattle.losses.proofs.Cuts.{cut-taken}

module _ (s : List ℕ) (loss balance : ℕ) where
  pub rest-done : (rest : ℤ) (i : ℕ) → rest_after s loss balance rest i (i - i) ≡ rest
  unfolding rest_after
  rest-done rest i = let e : i - i ≡ 0 = omega arith in rw e

  pub rest-step : (rest : ℤ) (i last : ℕ) → i < last
      → rest_after s loss balance rest i (last - i) ≡ rest_after s loss balance (rest -ℤ lowered_by loss balance false rest (stake_at_row s i)) (i + 1) (last - (i + 1))
  unfolding rest_after
  rest-step rest i last h =
      let e : last - i ≡ suc (last - (i + 1)) = omega arith in
      let f : suc i ≡ i + 1 = omega arith in
      ap (λ (n : ℕ). rest_after s loss balance rest i n) e ∙ ap (λ (k : ℕ). rest_after s loss balance (rest -ℤ lowered_by loss balance false rest (stake_at_row s i)) k (last - (i + 1))) f

  -- where no stake is below 0 it never grows
  pub rest-falls : loss ≤ balance → (rest : ℤ) (i n : ℕ) → dn rest ≡ 0 → NoneBelow s i (i + n) → (up (rest_after s loss balance rest i n) ≤ up rest) × (dn (rest_after s loss balance rest i n) ≡ 0)
  unfolding rest_after
  rest-falls h rest i zero p none = (omega arith, p)
  rest-falls h rest i (suc n) p none =
      let t = cut-taken loss balance h rest (stake_at_row s i) p false in
      let z = none.none i (omega arith) (omega arith) in
      let ih = rest-falls h (rest -ℤ lowered_by loss balance false rest (stake_at_row s i)) (suc i) n t.nonneg (record { none = λ k a b. none.none k (omega arith) (omega arith) }) in
      (omega (arith, ih.0, t.most, z), ih.1)

  -- and in any case by at most a limit for each row
  pub rest-bound : loss ≤ balance → (rest : ℤ) (i n : ℕ) → dn rest ≡ 0 → ((k : ℕ) → i ≤ k → k < i + n → Within limit (stake_at_row s k))
      → (up (rest_after s loss balance rest i n) ≤ up rest + n * limit) × (dn (rest_after s loss balance rest i n) ≡ 0)
  unfolding rest_after
  rest-bound h rest i zero p small = (omega arith, p)
  rest-bound h rest i (suc n) p small =
      let t = cut-taken loss balance h rest (stake_at_row s i) p false in
      let z = small i (omega arith) (omega arith) in
      let ih = rest-bound h (rest -ℤ lowered_by loss balance false rest (stake_at_row s i)) (suc i) n t.nonneg (λ k a b. small k (omega arith) (omega arith)) in
      (omega (arith, ih.0, t.most, z), ih.1)

-- ---- a turn of a loop over the sharers: what it may ask, and what it leaves

-- the rest, after the rows from `from` to row i
pub record Resting (loss from i : ℕ) (rest : ℤ) : Type 0 where
  pub nonneg : dn rest ≡ 0
  pub most : up rest ≤ loss + (i - from) * limit

module _ {loss balance : ℕ} (h : loss ≤ balance) {from i : ℕ} {rest s : ℤ} (small : Within limit s) (q : Resting loss from i rest) (order : from ≤ i) where
  pub rest-on : (last : Bool) → Resting loss from (i + 1) (rest -ℤ lowered_by loss balance last rest s)
  rest-on last = let t = cut-taken loss balance h rest s q.nonneg last in record { nonneg = t.nonneg; most = omega (arith, t.most, small, q.most) }

  -- both differences fit
  pub rest-fits : (last : Bool) → i ≤ from + most_stakes → loss ≤ limit → SFits w64 (rest -ℤ lowered_by loss balance last rest s)
  rest-fits last few l = let t = cut-taken loss balance h rest s q.nonneg last in omega (arith, whole, t, small, q)

  pub left-fits : (last : Bool) → i ≤ from + most_stakes → loss ≤ limit → SFits w64 (s -ℤ lowered_by loss balance last rest s)
  left-fits last few l = let t = cut-taken loss balance h rest s q.nonneg last in omega (arith, whole, t, small, q)

-- ---- a turn of the loop that finds the rest

module _ {s : List ℕ} {l : Loss} (p : Sharers s l) {i : ℕ} {rest stake cut : ℤ} (order : l.from ≤ i) (more : i < l.last) (q : Resting l.amount l.from i rest)
    (read : stake ≡ stake_at_row s i) (lowers : cut ≡ lowered_by l.amount l.balance (eqb i l.last) rest stake)
  where
    cut-is : cut ≡ lowered_by l.amount l.balance false rest (stake_at_row s i)
    cut-is = lowers ∙ ap₂ (λ (b : Bool) (z : ℤ). lowered_by l.amount l.balance b rest z) (ne_eqb i l.last (λ e. omega arith)) read

    pub rest-word : SFits w64 (rest -ℤ cut)
    rest-word = rw cut-is (rest-fits p.most (p.small i order (omega arith)) q order false (omega (arith, p.few)) p.within)

    pub rest-next : {next : ℤ} → next ≡ rest -ℤ cut
        → Resting l.amount l.from (i + 1) next × (rest_after s l.amount l.balance next (i + 1) (l.last - (i + 1)) ≡ rest_after s l.amount l.balance rest i (l.last - i))
    rest-next e = rw (e, cut-is) (rest-on p.most (p.small i order (omega arith)) q order false, sym (rest-step s l.amount l.balance rest i l.last more))

-- ---- the last sharer

-- a stake that is not below 0 bears a rest within the limit
pub not-over : (s rest : ℤ) → dn s ≡ 0 → up rest ≤ limit → dn rest ≡ 0 → lt_z (s -ℤ rest) least ≡ false
not-over s rest p m n = go (lt_z (s -ℤ rest) least) refl
  where
    go : (t : Bool) → lt_z (s -ℤ rest) least ≡ t → t ≡ false
    go true e = absurd (omega (arith, whole, e, dif s rest, one (s -ℤ rest)))
    go false e = refl

module _ {s : List ℕ} {l : Loss} (p : Sharers s l) where
  -- where no stake is below 0, the last sharer bears the rest
  pub none-over : NoneBelow s l.from (l.last + 1) → lt_z (left_last s l) least ≡ false
  none-over none =
      let n : ℕ = l.last - l.from in
      let f = rest-falls s l.amount l.balance p.most (pos l.amount) l.from n refl (record { none = λ k a b. none.none k a (omega (arith, b, p.order)) }) in
      not-over (stake_at_row s l.last) (rest_after s l.amount l.balance (pos l.amount) l.from n) (none.none l.last p.order (omega arith)) (omega (arith, f.0, p.within)) f.1

  -- what is left of its stake has a word
  pub left-word : SFits w64 (left_last s l)
  left-word =
      let b = rest-bound s l.amount l.balance p.most (pos l.amount) l.from (l.last - l.from) refl (λ k x y. p.small k x (omega (arith, y, p.order))) in
      omega (arith, whole, b, p.small l.last p.order (omega arith), p.few, p.order, p.within)
