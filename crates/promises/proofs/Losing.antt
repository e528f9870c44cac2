-- The sharing rows' losses, read off the books before and after, are the reductions.
use mathlib.Core.Path.{◌≡◌, refl, sym, ◌∙◌, ap, ap₂}
use mathlib.Core.Bool.{Bool, true, false, cond}
use mathlib.Core.List.{List, [], ◌∷◌, map}
use Prim.Native.Nat.{ℕ, suc, ◌<◌}
use native.Mathlib.Omega.{arith}
use borrow.Author.Tests.{eqb-true}
use lib.IntN.{ℤ, pos, nat_abs, ◌-ℤ◌}
use lib.ListN.{length}
use Rattle.whole.proofs.Linear.{whole, dif, abs}
use Rattle.rules.specs.Table.{key_of, find, keep}
use Rattle.rules.specs.Books.{StakeRow, is_zero, stake_key, stake_gone, no_stake}
use Rattle.rules.specs.Calls.{account_no}
use Rattle.rules.specs.Sharing.{sharer, sharers, cut_row, lowered}
use Rattle.rules.proofs.Tests.{cases, and_left}
use Rattle.rules.specs.inner.Facts.{StakeOk, Rows}
use Rattle.rules.proofs.Tables.{rows-low, find_past, find-here, find-below}
use Rattle.promises.specs.Shares.{sharing}
use Rattle.promises.proofs.Rows.{sharer-pool}

-- the stakes of the sharing rows
pub sharers-are : (pool : ℕ) (rows : List StakeRow) → sharers pool rows ≡ map (λ (r : StakeRow). r.stake) (sharing pool rows)
unfolding sharers sharing
sharers-are pool [] = refl
sharers-are pool (r ∷ rows) = go (sharer pool r) (sharers-are pool rows)
  where
    go : (t : Bool) → sharers pool rows ≡ map (λ (x : StakeRow). x.stake) (sharing pool rows) → cond t (r.stake ∷ sharers pool rows) (sharers pool rows) ≡ map (λ (x : StakeRow). x.stake) (cond t (r ∷ sharing pool rows) (sharing pool rows))
    go true e = ap (λ (l : List ℤ). r.stake ∷ l) e
    go false e = e

-- ---- a loss keeps the order of the keys

abbrev Any : StakeRow → Type 0
Any r = Unit {0}

keys : (low : ℕ) (rows : List StakeRow) → Rows stake_key StakeOk low rows → Rows stake_key Any low rows
keys low [] h = tt
keys low (r ∷ rows) h = (h.0, tt, keys (stake_key r) rows h.2)

lowered-keys : (pool low : ℕ) (rows : List StakeRow) (cuts : List ℤ) → Rows stake_key StakeOk low rows → Rows stake_key Any low (lowered pool rows cuts)
unfolding lowered
lowered-keys pool low [] cuts h = tt
lowered-keys pool low (r ∷ rows) [] h = keys low (r ∷ rows) h
lowered-keys pool low (r ∷ rows) (c ∷ cs) h =
    let i = lowered-keys pool (stake_key r) rows cs h.2 in
    cases (sharer pool r) (keep stake_gone (cut_row r c) (lowered pool rows cs)) (r ∷ lowered pool rows (c ∷ cs)) (Rows stake_key Any low)
    (λ e. cases (stake_gone (cut_row r c)) (lowered pool rows cs) (cut_row r c ∷ lowered pool rows cs) (Rows stake_key Any low) (λ g. rows-low stake_key Any low (stake_key r) (lowered pool rows cs) (omega (arith, h.0)) i) (λ g. (h.0, tt, i)))
    (λ e. (h.0, tt, lowered-keys pool (stake_key r) rows (c ∷ cs) h.2))

-- ---- what is found for the sharing rows

zero_is : (z : ℤ) → is_zero z ≡ true → z ≡ pos 0
zero_is z e = let n = eqb-true (nat_abs z) 0 e in omega (arith, whole, n, abs z)

module _ (pool : ℕ) where
  -- the stake found for a row's account
  abbrev stake_in : List StakeRow → StakeRow → ℤ
  stake_in l r = (find stake_key (no_stake pool (account_no r.account)) (key_of pool r.account) l).stake

  abbrev place : StakeRow → ℕ
  place r = key_of pool r.account

  sharing-above : (low : ℕ) (rows : List StakeRow) → Rows stake_key StakeOk low rows → Rows place Any low (sharing pool rows)
  unfolding sharing
  sharing-above low [] h = tt
  sharing-above low (r ∷ rows) h = go (sharer pool r) refl (sharing-above (stake_key r) rows h.2)
    where
      go : (t : Bool) → sharer pool r ≡ t → Rows place Any (stake_key r) (sharing pool rows) → Rows place Any low (cond t (r ∷ sharing pool rows) (sharing pool rows))
      go true e a = let s = sharer-pool pool r e in (omega (arith, h.0), tt, rows-low place Any (place r) (stake_key r) (sharing pool rows) (omega arith) a)
      go false e a = rows-low place Any low (stake_key r) (sharing pool rows) (omega (arith, h.0)) a

  past : (x : StakeRow) (l : List StakeRow) (r : StakeRow) → stake_key x < key_of pool r.account → stake_in (x ∷ l) r ≡ stake_in l r
  past x l r h = ap (λ (z : StakeRow). z.stake) (find_past stake_key (no_stake pool (account_no r.account)) (key_of pool r.account) x l h)

  -- two functions that agree on rows above a key
  same-on : (low : ℕ) (f g : StakeRow → ℤ) (rows : List StakeRow) → Rows place Any low rows → ((r : StakeRow) → low < place r → f r ≡ g r) → map f rows ≡ map g rows
  same-on low f g [] a e = refl
  same-on low f g (x ∷ rows) a e = ap₂ {C = List ℤ} (λ (z : ℤ) (l : List ℤ). z ∷ l) (e x a.0) (same-on low f g rows (rows-low place Any low (place x) rows (omega (arith, a.0)) a.2) e)

  none : (f : StakeRow → ℤ) (rows : List StakeRow) → 0 ≡ length rows → map f rows ≡ []
  none f [] e = refl
  none f (x ∷ rows) e = absurd (omega arith)

  -- one row that shares, kept or gone
  module _ (r : StakeRow) (c : ℤ) (rows lower : List StakeRow) (e : sharer pool r ≡ true) (w : Rows stake_key StakeOk (stake_key r) rows) (v : Rows stake_key Any (stake_key r) lower) where
    here : stake_in (r ∷ rows) r ≡ r.stake
    here = ap (λ (x : StakeRow). x.stake) (find-here stake_key (no_stake pool (account_no r.account)) (key_of pool r.account) r rows (ap (λ (p : ℕ). key_of p r.account) (sharer-pool pool r e)))

    cut-here : stake_in (keep stake_gone (cut_row r c) lower) r ≡ r.stake -ℤ c
    cut-here =
        let q = ap (λ (p : ℕ). key_of p r.account) (sharer-pool pool r e) in
        cases (stake_gone (cut_row r c)) lower (cut_row r c ∷ lower) (λ (z : List StakeRow). stake_in z r ≡ r.stake -ℤ c)
        (λ g. ap (λ (x : StakeRow). x.stake) (find-below stake_key Any (no_stake pool (account_no r.account)) (key_of pool r.account) (stake_key r) lower (omega (arith, q)) v)
        ∙ sym (zero_is (r.stake -ℤ c) (and_left _ _ g)))
        (λ g. ap (λ (x : StakeRow). x.stake) (find-here stake_key (no_stake pool (account_no r.account)) (key_of pool r.account) (cut_row r c) lower q))

    loss-here : stake_in (r ∷ rows) r -ℤ stake_in (keep stake_gone (cut_row r c) lower) r ≡ c
    loss-here = rw (here, cut-here) (omega (arith, whole, dif r.stake c, dif r.stake (r.stake -ℤ c)))

    past-cut : (x : StakeRow) → stake_key r < key_of pool x.account → stake_in (keep stake_gone (cut_row r c) lower) x ≡ stake_in lower x
    past-cut x h =
        cases (stake_gone (cut_row r c)) lower (cut_row r c ∷ lower) (λ (z : List StakeRow). stake_in z x ≡ stake_in lower x) (λ g. refl)
        (λ g. past (cut_row r c) lower x h)

  -- the losses are the cuts
  pub lost-list : (low : ℕ) (rows : List StakeRow) (cuts : List ℤ) → Rows stake_key StakeOk low rows → length cuts ≡ length (sharing pool rows) → map (λ (r : StakeRow). stake_in rows r -ℤ stake_in (lowered pool rows cuts) r) (sharing pool rows) ≡ cuts
  unfolding sharing lowered
  lost-list low [] [] h l = refl
  lost-list low [] (c ∷ cs) h l = absurd (omega arith)
  lost-list low (r ∷ rows) [] h l = none _ (sharing pool (r ∷ rows)) l
  lost-list low (r ∷ rows) (c ∷ cs) h l = go (sharer pool r) refl l (lost-list (stake_key r) rows cs h.2) (lost-list (stake_key r) rows (c ∷ cs) h.2)
    where
      go : (t : Bool) → sharer pool r ≡ t → suc (length cs) ≡ length (cond t (r ∷ sharing pool rows) (sharing pool rows))
          → (length cs ≡ length (sharing pool rows) → map (λ (x : StakeRow). stake_in rows x -ℤ stake_in (lowered pool rows cs) x) (sharing pool rows) ≡ cs)
          → (suc (length cs) ≡ length (sharing pool rows) → map (λ (x : StakeRow). stake_in rows x -ℤ stake_in (lowered pool rows (c ∷ cs)) x) (sharing pool rows) ≡ c ∷ cs)
          → map (λ (x : StakeRow). stake_in (r ∷ rows) x -ℤ stake_in (cond t (keep stake_gone (cut_row r c) (lowered pool rows cs)) (r ∷ lowered pool rows (c ∷ cs))) x) (cond t (r ∷ sharing pool rows) (sharing pool rows)) ≡ c ∷ cs
      go true e l i j =
          let v = lowered-keys pool (stake_key r) rows cs h.2 in
          ap₂ {C = List ℤ} (λ (z : ℤ) (l : List ℤ). z ∷ l) (loss-here r c rows (lowered pool rows cs) e h.2 v)
          (same-on (stake_key r) _ _ (sharing pool rows) (sharing-above (stake_key r) rows h.2) (λ x a. ap₂ ◌-ℤ◌ (past r rows x a) (past-cut r c rows (lowered pool rows cs) e h.2 v x a)) ∙ i (omega arith))
      go false e l i j =
          same-on (stake_key r) _ _ (sharing pool rows) (sharing-above (stake_key r) rows h.2) (λ x a. ap₂ ◌-ℤ◌ (past r rows x a) (past r (lowered pool rows (c ∷ cs)) x a)) ∙ j l
