-- A loss is shared fairly, where all non-zero stakes of the pool are positive.
use mathlib.Core.Path.{◌≡◌, refl, sym, ◌∙◌, ap, ap₂}
use mathlib.Core.Bool.{Bool, true, false, cond}
use mathlib.Core.List.{List, [], ◌∷◌, ◌++◌, map, map-append, map-map}
use Prim.Native.Nat.{ℕ, ◌+◌, ◌≤◌}
use native.Mathlib.Omega.{arith}
use borrow.Author.Tests.{eqb-true}
use lib.Dec.{eqb}
use lib.IntN.{ℤ, pos, ◌+ℤ◌}
use lib.ListN.{length, length-map}
use lib.Signed.{lt_z, ◌≤ℤ◌}
use Rattle.whole.specs.Whole.{up}
use Rattle.whole.specs.Sums.{sum_z}
use Rattle.whole.proofs.Linear.{whole, one}
use Rattle.rules.specs.Limits.{is_pool}
use Rattle.rules.specs.Table.{each, all}
use Rattle.rules.specs.Books.{Books, StakeRow, balance_of}
use Rattle.rules.specs.Sharing.{sharers, reductions, shared}
use Rattle.rules.specs.Answers.{enact}
use Rattle.rules.specs.Payouts.{payable, claimable}
use Rattle.rules.specs.Step.{field_tests, plan_of, step}
use Rattle.rules.proofs.Tests.{each_first, nth, pool-read}
use Rattle.rules.specs.inner.Facts.{WellFormed}
use Rattle.rules.proofs.Ladders.{pay-cases, claim-cases}
use Rattle.rules.proofs.Shapes.{step-cases}
use Rattle.rules.proofs.Payable.{paying, claimed-is}
use Rattle.rules.proofs.Cuts.{cuts-length}
use Rattle.rules.proofs.Losses.{sharers-sum}
use Rattle.promises.specs.Calls.{Account, Operation, Call, Stake, Withdraw, Pay, Reserve, Claim, Rate, Pause, Unpause, PayoutCaller, Unknown}
use Rattle.promises.specs.Reach.{holds}
use Rattle.promises.specs.Roles.{role_of}
use Rattle.promises.specs.Shares.{taken_by, sharing, lost, sum_n, Fair}
use Rattle.promises.proofs.Rounding.{part, rest_of, Sentence, sentence}
use Rattle.promises.proofs.Losing.{sharers-are, lost-list}

-- ---- positive stakes as numbers

abbrev size : StakeRow → ℕ
size r = up r.stake

abbrev positive : StakeRow → Bool
positive r = lt_z (pos 0) r.stake

sizes : (rows : List StakeRow) → each positive rows ≡ true → map (λ (r : StakeRow). r.stake) rows ≡ map pos (map size rows)
sizes [] e = refl
sizes (r ∷ rows) e =
    let f = each_first positive r rows e in
    let g = f.0 in
    let s : r.stake ≡ pos (up r.stake) = omega (arith, whole, g, one r.stake) in
    ap₂ {C = List ℤ} (λ (z : ℤ) (l : List ℤ). z ∷ l) s (sizes rows f.1)

sum-pos : (ns : List ℕ) → sum_z (map pos ns) ≡ pos (sum_n ns)
unfolding sum_z
sum-pos [] = refl
sum-pos (n ∷ ns) = ap (λ (z : ℤ). pos n +ℤ z) (sum-pos ns)

-- ---- the losses of all but the last, and of the last

split : (f : StakeRow → ℤ) (h : ℕ → ℕ) (others : List StakeRow) (last : StakeRow) (z : ℕ) → map f (others ++ (last ∷ [])) ≡ map pos (map h (map size others) ++ (z ∷ [])) → (map f others ≡ map (λ (r : StakeRow). pos (h (size r))) others) × (f last ≡ pos z)
split f h [] last z e = (refl, cc)
split f h (r ∷ others) last z e =
    let head : f r ≡ pos (h (size r)) = cc in
    let tail : map f (others ++ (last ∷ [])) ≡ map pos (map h (map size others) ++ (z ∷ [])) = cc in
    let s = split f h others last z tail in
    (ap₂ {C = List ℤ} (λ (x : ℤ) (l : List ℤ). x ∷ l) head s.0, s.1)

module _ (b : Books) (w : WellFormed b) (pool loss : ℕ) (small : is_pool pool ≡ true) (after : Books) (rows : after.stakes ≡ shared pool loss (up (balance_of b pool)) b.stakes) (others : List StakeRow) (last : StakeRow) (shares : sharing pool b.stakes ≡ others ++ (last ∷ [])) (above : each positive (sharing pool b.stakes) ≡ true) (some : 1 ≤ loss) (most : pos loss ≤ℤ balance_of b pool) where
  stakes-are : sharers pool b.stakes ≡ map pos (map size others ++ (size last ∷ []))
  stakes-are = sharers-are pool b.stakes ∙ sizes (sharing pool b.stakes) above ∙ ap (λ (l : List StakeRow). map pos (map size l)) shares ∙ ap (map pos) (map-append size others (last ∷ []))

  balance-is : balance_of b pool ≡ pos (sum_n (map size others ++ (size last ∷ [])))
  balance-is = w.balance-is pool (omega (arith, pool-read pool small)) ∙ sharers-sum pool b.stakes ∙ ap sum_z stakes-are ∙ sum-pos (map size others ++ (size last ∷ []))

  told : Sentence loss (up (balance_of b pool)) (map size others) (size last) (reductions loss (up (balance_of b pool)) (pos loss) (sharers pool b.stakes))
  told = let f = balance-is in rw (stakes-are, f) (sentence loss (map size others) (size last) (omega (arith, whole, f, most, some)) (omega (arith, whole, f, most)))

  losses : map (lost pool b after) (sharing pool b.stakes) ≡ reductions loss (up (balance_of b pool)) (pos loss) (sharers pool b.stakes)
  unfolding shared
  losses = rw rows (lost-list pool 0 b.stakes _ w.stake-rows (cuts-length loss (up (balance_of b pool)) (pos loss) (sharers pool b.stakes) ∙ ap length (sharers-are pool b.stakes) ∙ length-map (sharing pool b.stakes) (λ (r : StakeRow). r.stake)))

  pub fair : Fair pool loss b after others last
  fair =
      let t = up (balance_of b pool) in
      let s = split (lost pool b after) (part loss t) others last (rest_of loss t (map size others)) (ap (map (lost pool b after)) (sym shares) ∙ losses ∙ told.each) in
      record {
        rest = rest_of loss t (map size others);
        others-lose = s.0;
        last-loses = s.1;
        together = ap (λ (l : List ℕ). sum_n l + rest_of loss t (map size others)) (sym (map-map (part loss t) size others)) ∙ told.together;
        least = told.least;
        most = omega (arith, told.most, length-map others size);
      }

-- ---- by a direct payout or a claim

module _ (b : Books) (w : WellFormed b) (pool loss : ℕ) (others : List StakeRow) (last : StakeRow) (shares : sharing pool b.stakes ≡ others ++ (last ∷ [])) (above : each positive (sharing pool b.stakes) ≡ true) (some : 1 ≤ loss) where
  nothing-taken : (t : Bool) → cond t 0 0 ≡ loss → Fair pool loss b b others last
  nothing-taken true e = absurd (omega arith)
  nothing-taken false e = absurd (omega arith)

  -- n taken from the pool p: where p is the pool, n is the loss
  taken : (p n : ℕ) (after : Books) → is_pool p ≡ true → after.stakes ≡ shared p n (up (balance_of b p)) b.stakes → pos n ≤ℤ balance_of b p → cond (eqb p pool) n 0 ≡ loss → Fair pool loss b after others last
  taken p n after small rows most e = go (eqb p pool) refl e
    where
      go : (t : Bool) → eqb p pool ≡ t → cond t n 0 ≡ loss → Fair pool loss b after others last
      go true f e =
          let s = eqb-true p pool f in
          fair b w pool loss (rw s at small) after (rw (s, e) at rows) others last shares above some (rw (s, e) at most)
      go false f e = absurd (omega arith)

  plan-fair : (now : ℕ) (signer : Account) (o : Operation) → all (field_tests o) ≡ true → taken_by pool o (enact b (plan_of b now signer o)).answer ≡ loss → Fair pool loss b (enact b (plan_of b now signer o)).books others last
  plan-fair now signer (Pay c) t =
      pay-cases b signer c (λ pl. taken_by pool (Pay c) (enact b pl).answer ≡ loss → Fair pool loss b (enact b pl).books others last) (λ k. nothing-taken (eqb c.pool pool)) (nothing-taken (eqb c.pool pool))
      (λ d. taken c.pool (up (payable b c)) _ (nth _ t 0) refl (paying b signer c d).most)
  plan-fair now signer (Claim c) t =
      claim-cases b signer c (λ pl. taken_by pool (Claim c) (enact b pl).answer ≡ loss → Fair pool loss b (enact b pl).books others last) (λ k. nothing-taken (eqb c.pool pool)) (nothing-taken (eqb c.pool pool))
      (λ d. taken c.pool (up (claimable b c)) _ (nth _ t 0) refl (claimed-is b signer c d).balance-most)
  plan-fair now signer (Stake c) t = λ e. absurd (omega arith)
  plan-fair now signer (Withdraw c) t = λ e. absurd (omega arith)
  plan-fair now signer (Reserve c) t = λ e. absurd (omega arith)
  plan-fair now signer (Rate c) t = λ e. absurd (omega arith)
  plan-fair now signer Pause t = λ e. absurd (omega arith)
  plan-fair now signer Unpause t = λ e. absurd (omega arith)
  plan-fair now signer (PayoutCaller a) t = λ e. absurd (omega arith)
  plan-fair now signer Unknown t = λ e. absurd (omega arith)

  pub step-fair : (c : Call) → taken_by pool c.operation (step b c).answer ≡ loss → Fair pool loss b (step b c).books others last
  unfolding step
  step-fair c =
      step-cases b c (λ pl. taken_by pool c.operation (enact b pl).answer ≡ loss → Fair pool loss b (enact b pl).books others last)
      (λ k. nothing-taken (holds (role_of c.operation).shares pool 0))
      (λ s. plan-fair c.now c.signer c.operation s.fields)
