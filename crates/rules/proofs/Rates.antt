-- Setting the rate banks every flat stake: the order, the sums and the length of the rows stay.
use mathlib.Core.Path.{◌≡◌, refl, ap}
use mathlib.Core.Bool.{Bool, true, false, cond}
use mathlib.Core.List.{List, [], ◌∷◌, map}
use Prim.Native.Nat.{ℕ, suc, ◌≤◌}
use native.Mathlib.Omega.{arith}
use borrow.Author.Tests.{leb-true, eq-eqb, not-false, not-true}
use lib.Dec.{leb, eqb}
use lib.IntN.{nat_abs}
use lib.ListN.{length}
use Rattle.whole.specs.Whole.{up}
use Rattle.whole.proofs.Linear.{whole, one}
use Rattle.rules.specs.Limits.{limit, last_time, flat}
use Rattle.rules.specs.Table.{sum_of}
use Rattle.rules.specs.Books.{Books, StakeRow, is_zero, settings, stake_key, stake_row, banked_at}
use Rattle.rules.specs.Sharing.{sharer}
use Rattle.rules.specs.Calls.{Account, RateCall}
use Rattle.rules.specs.Answers.{enact}
use Rattle.rules.specs.Settings.{banked_row, bank_all, accruals_fit, set_yield_rate}
use Rattle.rules.specs.Formed.{stake_in}
use Rattle.rules.proofs.Tests.{cases, and_right, each_first}
use Rattle.rules.specs.inner.Facts.{StakeOk, Rows, WellFormed, stake_sum}
use Rattle.rules.proofs.Ladders.{rate-cases}
use Rattle.rules.proofs.Writes.{settings-formed}

module _ (b : Books) (now : ℕ) where
  one_ok : (r : StakeRow) → now ≤ last_time → StakeOk r → (banked_row b now r).accrual ≤ limit → StakeOk (banked_row b now r)
  unfolding sharer
  one_ok r t ok a = go (sharer flat r) refl a
    where
      go : (u : Bool) → sharer flat r ≡ u → (cond u (stake_row r.pool r.account r.stake now (banked_at b flat now r)) r).accrual ≤ limit → StakeOk (cond u (stake_row r.pool r.account r.stake now (banked_at b flat now r)) r)
      go true e a = record {
        pool = ok.pool;
        number = ok.number;
        kept = rw (not-true (is_zero r.stake) (and_right (eqb r.pool flat) _ e));
        no-since = λ z. rw (eq-eqb (nat_abs r.stake) 0 z);
        time = cases (is_zero r.stake) 0 now (λ (n : ℕ). n ≤ last_time) (λ z. omega arith) (λ z. t);
        size = ok.size;
        accrued = a;
      }
      go false e a = ok

  one_key : (r : StakeRow) → stake_key (banked_row b now r) ≡ stake_key r
  one_key r = cases (sharer flat r) (stake_row r.pool r.account r.stake now (banked_at b flat now r)) r (λ (x : StakeRow). stake_key x ≡ stake_key r) (λ e. refl) (λ e. refl)

  one-sum : (p : ℕ) (r : StakeRow) → stake_in p (banked_row b now r) ≡ stake_in p r
  one-sum p r = cases (sharer flat r) (stake_row r.pool r.account r.stake now (banked_at b flat now r)) r (λ (x : StakeRow). stake_in p x ≡ stake_in p r) (λ e. refl) (λ e. refl)

  bank-sum : (p : ℕ) (rows : List StakeRow) → stake_sum p (map (banked_row b now) rows) ≡ stake_sum p rows
  unfolding sum_of
  bank-sum p [] = refl
  bank-sum p (r ∷ rows) = let i = bank-sum p rows in let j = one-sum p r in cc

  bank-length : (rows : List StakeRow) → length (map (banked_row b now) rows) ≡ length rows
  bank-length [] = refl
  bank-length (r ∷ rows) = ap suc (bank-length rows)

  bank-rows : (low : ℕ) (rows : List StakeRow) → now ≤ last_time → Rows stake_key StakeOk low rows → accruals_fit (map (banked_row b now) rows) ≡ true → Rows stake_key StakeOk low (map (banked_row b now) rows)
  unfolding accruals_fit
  bank-rows low [] t h f = tt
  bank-rows low (r ∷ rows) t h f =
      let p = each_first (λ x. leb x.accrual limit) (banked_row b now r) (map (banked_row b now) rows) f in (
        rw (one_key r) h.0,
        one_ok r t h.1 (leb-true _ _ p.0),
        rw (one_key r) (bank-rows (stake_key r) rows t h.2 p.1),
      )

pub rate-formed : (b : Books) (now : ℕ) (signer : Account) (c : RateCall) → now ≤ last_time → WellFormed b → WellFormed (enact b (set_yield_rate b now signer c)).books
rate-formed b now signer c time w =
    rate-cases b now signer c (λ p. WellFormed (enact b p).books) (λ k. w) (λ h.
    let most = h.most in
    settings-formed b w (bank_all b now) (settings b.settings.admin b.settings.caller b.settings.paused (up c.rate))
    (bank-rows b now 0 b.stakes time w.stake-rows (not-false _ h.limits))
    (bank-length b now b.stakes)
    (λ p. bank-sum b now p b.stakes)
    w.admin w.caller (omega (arith, whole, most, one c.rate)))
