-- A loss raises no stake, so only a fall below −10^15 can pass the limit.
use mathlib.Core.Path.{◌≡◌, refl, sym, ◌∙◌}
use mathlib.Core.Bool.{Bool, true, false, cond, true≢false}
use mathlib.Core.List.{List, [], ◌∷◌}
use Prim.Native.Nat.{ℕ, ◌≤◌}
use native.Mathlib.Omega.{arith}
use borrow.Author.Tests.{leb-true, le-leb}
use lib.Dec.{leb}
use lib.IntN.{ℤ, pos, nat_abs, ◌-ℤ◌}
use lib.Signed.{◌≤ℤ◌}
use Rattle.whole.specs.Whole.{up, dn, min_z}
use Rattle.whole.specs.Shares.{share}
use Rattle.whole.proofs.Linear.{whole, dif, abs, one, lesser-is}
use Rattle.whole.proofs.Shares.{share-le}
use Rattle.rules.specs.Limits.{limit}
use Rattle.rules.specs.Table.{keep, each}
use Rattle.rules.specs.Books.{StakeRow, stake_key, stake_gone}
use Rattle.rules.specs.Sharing.{sharer, sharers, cut_of, reductions, cut_row, lowered, shared, stakes_fit}
use Rattle.rules.proofs.Tests.{cases, each_first, each_more}
use Rattle.rules.specs.inner.Facts.{StakeOk, Rows}
use Rattle.promises.specs.Claims.{none_below}

-- each stake, less its reduction, is no higher above 0
abbrev Gentle : List ℤ → List ℤ → Type 0
Gentle [] cuts = Unit {0}
Gentle (s ∷ ss) [] = Unit {0}
Gentle (s ∷ ss) (c ∷ cuts) = (up (s -ℤ c) ≤ up s) × Gentle ss cuts

gentle : (l t : ℕ) → l ≤ t → (r : ℤ) → pos 0 ≤ℤ r → (ss : List ℤ) → Gentle ss (reductions l t r ss)
unfolding reductions cut_of
gentle l t h r n [] = tt
gentle l t h r n (s ∷ []) = (omega (arith, whole, n, dif s r, one s, one (s -ℤ r)), tt)
gentle l t h r n (s ∷ u ∷ more) =
    let m = min_z (share s l t) r in
    let e = lesser-is (share s l t) r in
    let f = share-le s l t h in (
      omega (arith, whole, n, e, f, dif s m, one s, one (s -ℤ m), one (share s l t), one m),
      gentle l t h (r -ℤ m) (omega (arith, whole, e, dif r m)) (u ∷ more),
    )

-- rows as they stand fit
ok-fits : (low : ℕ) (rows : List StakeRow) → Rows stake_key StakeOk low rows → stakes_fit rows ≡ true
unfolding each stakes_fit
ok-fits low [] h = refl
ok-fits low (r ∷ rows) h = each_more (λ x. leb (nat_abs x.stake) limit) r rows (le-leb (nat_abs r.stake) limit h.1.size) (ok-fits (stake_key r) rows h.2)

-- rows of which none is below fit
abbrev FitUnlessBelow : List StakeRow → Type 0
FitUnlessBelow z = none_below z ≡ true → stakes_fit z ≡ true

-- a row that is no higher than an old one, and not below, fits before rows that fit
fits-before : (x : StakeRow) (s : ℤ) (rows : List StakeRow) → nat_abs s ≤ limit → up x.stake ≤ up s → FitUnlessBelow rows → FitUnlessBelow (x ∷ rows)
unfolding stakes_fit
fits-before x s rows h g i d =
    let y = each_first (λ r. leb (dn r.stake) limit) x rows d in
    each_more (λ r. leb (nat_abs r.stake) limit) x rows (le-leb (nat_abs x.stake) limit (omega (arith, h, g, leb-true (dn x.stake) limit y.0, abs x.stake, abs s))) (i y.1)

lowered-fits : (pool low : ℕ) (rows : List StakeRow) (cuts : List ℤ) → Rows stake_key StakeOk low rows → Gentle (sharers pool rows) cuts → FitUnlessBelow (lowered pool rows cuts)
unfolding lowered sharers
lowered-fits pool low [] cuts h g d = ok-fits low [] h
lowered-fits pool low (r ∷ rows) [] h g d = ok-fits low (r ∷ rows) h
lowered-fits pool low (r ∷ rows) (c ∷ cs) h g d = go (sharer pool r) (lowered-fits pool (stake_key r) rows cs h.2) (lowered-fits pool (stake_key r) rows (c ∷ cs) h.2) g d
  where
    go : (t : Bool) → (Gentle (sharers pool rows) cs → FitUnlessBelow (lowered pool rows cs)) → (Gentle (sharers pool rows) (c ∷ cs) → FitUnlessBelow (lowered pool rows (c ∷ cs)))
        → Gentle (cond t (r.stake ∷ sharers pool rows) (sharers pool rows)) (c ∷ cs)
        → FitUnlessBelow (cond t (keep stake_gone (cut_row r c) (lowered pool rows cs)) (r ∷ lowered pool rows (c ∷ cs)))
    go true i j g = cases (stake_gone (cut_row r c)) (lowered pool rows cs) (cut_row r c ∷ lowered pool rows cs) FitUnlessBelow (λ e. i g.1) (λ e. fits-before (cut_row r c) r.stake (lowered pool rows cs) h.1.size g.0 (i g.1))
    go false i j g = fits-before r r.stake (lowered pool rows (c ∷ cs)) h.1.size (omega arith) (j g)

pub falls_below : (pool loss balance : ℕ) (rows : List StakeRow) → loss ≤ balance → Rows stake_key StakeOk 0 rows → stakes_fit (shared pool loss balance rows) ≡ false → none_below (shared pool loss balance rows) ≡ false
unfolding shared
falls_below pool loss balance rows h w f = go (none_below (shared pool loss balance rows)) refl
  where
    go : (t : Bool) → none_below (shared pool loss balance rows) ≡ t → t ≡ false
    go true e = absurd (true≢false (sym (lowered-fits pool 0 rows _ w (gentle loss balance h (pos loss) (omega (arith, whole)) (sharers pool rows)) e) ∙ f))
    go false e = refl
