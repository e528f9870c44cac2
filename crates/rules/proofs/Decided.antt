-- The test `well_formed` holds exactly where the facts `WellFormed` do.
use mathlib.Core.Path.{◌≡◌, refl}
use mathlib.Core.Bool.{Bool, true, false, not, ◌||◌}
use mathlib.Core.List.{List, [], ◌∷◌}
use Prim.Native.Nat.{ℕ, ◌≤◌, ◌<◌}
use native.Mathlib.Omega.{arith}
use borrow.Author.Tests.{ltb-true, leb-true, eqb-true, lt-ltb, le-leb, eq-eqb, not-true}
use lib.Dec.{eqb}
use lib.IntN.{ℤ, pos, nat_abs, ◌-ℤ◌}
use lib.ListN.{length}
use Rattle.whole.proofs.Linear.{whole, dif, abs}
use Rattle.rules.specs.Limits.{limit, last_time, greatest_rate, most_stakes, most_offers, pools, two_to64}
use Rattle.rules.specs.Books.{Books, StakeRow, OfferRow, Rooms, is_zero, stake_key, stake_gone, offer_key, balance_of, unpaid_of, rooms_lent}
use Rattle.rules.specs.Formed.{stake_test, offer_test, rows_test, sums_test, well_formed}
use Rattle.rules.proofs.Tests.{nth, held, below-read, below-made, pool-read, pool-made, number_read, number-made}
use Rattle.rules.specs.inner.Facts.{StakeOk, OfferOk, Rows, WellFormed, stake_sum, cover_sum}

-- ---- rows

not_made : (t : Bool) → t ≡ false → not t ≡ true
not_made t e = rw e

module _ (r : StakeRow) where
  since-read : (not (is_zero r.stake) || eqb r.since 0) ≡ true → nat_abs r.stake ≡ 0 → r.since ≡ 0
  since-read e z = eqb-true r.since 0 (rw (eq-eqb (nat_abs r.stake) 0 z) at e)

  since-made : (nat_abs r.stake ≡ 0 → r.since ≡ 0) → (not (is_zero r.stake) || eqb r.since 0) ≡ true
  since-made h = go (is_zero r.stake) refl
    where
      go : (t : Bool) → is_zero r.stake ≡ t → (not t || eqb r.since 0) ≡ true
      go true e = eq-eqb r.since 0 (h (eqb-true (nat_abs r.stake) 0 e))
      go false e = refl

  stake-read : stake_test r ≡ true → StakeOk r
  unfolding stake_test
  stake-read e =
      let t = nth _ e in
      record {
        pool = pool-read r.pool (t 0);
        number = number_read r.account (t 1);
        kept = not-true (stake_gone r) (t 2);
        no-since = since-read (t 3);
        time = leb-true r.since last_time (t 4);
        size = leb-true (nat_abs r.stake) limit (t 5);
        accrued = leb-true r.accrual limit (t 6);
      }

  stake-made : StakeOk r → stake_test r ≡ true
  unfolding stake_test
  stake-made h =
      held _ (pool-made r.pool h.pool, (number-made r.account h.number, (not_made (stake_gone r) h.kept, (since-made h.no-since, (le-leb r.since last_time h.time, (le-leb (nat_abs r.stake) limit h.size, (le-leb r.accrual limit h.accrued, tt)))))))

module _ (r : OfferRow) where
  offer-read : offer_test r ≡ true → OfferOk r
  unfolding offer_test
  offer-read e =
      let t = nth _ e in
      record {
        pool = pool-read r.pool (t 0);
        number = number_read r.offer (t 1);
        some = leb-true 1 r.reserved (t 2);
        most = leb-true r.reserved limit (t 3);
        covered = leb-true r.paid r.reserved (t 4);
      }

  offer-made : OfferOk r → offer_test r ≡ true
  unfolding offer_test
  offer-made h =
      held _ (pool-made r.pool h.pool, (number-made r.offer h.number, (le-leb 1 r.reserved h.some, (le-leb r.reserved limit h.most, (le-leb r.paid r.reserved h.covered, tt)))))

module _ {A : Type 0} (key : A → ℕ) (ok : A → Bool) (Ok : A → Type 0) where
  rows-read : ((x : A) → ok x ≡ true → Ok x) → (low : ℕ) (rows : List A) → rows_test key ok low rows ≡ true → Rows key Ok low rows
  unfolding rows_test
  rows-read f low [] e = tt
  rows-read f low (x ∷ rows) e = let t = nth _ e in (ltb-true low (key x) (t 0), f x (t 1), rows-read f (key x) rows (t 2))

  rows_made : ((x : A) → Ok x → ok x ≡ true) → (low : ℕ) (rows : List A) → Rows key Ok low rows → rows_test key ok low rows ≡ true
  unfolding rows_test
  rows_made f low [] h = refl
  rows_made f low (x ∷ rows) h = held _ (lt-ltb low (key x) h.0, (f x h.1, (rows_made f (key x) rows h.2, tt)))

-- ---- rooms and sums

pub record LentRooms (rooms : Rooms) : Type 0 where
  pub some-stakes : 1 ≤ rooms.stakes
  pub most-stakes : rooms.stakes ≤ most_stakes
  pub some-offers : 1 ≤ rooms.offers
  pub most-offers : rooms.offers ≤ most_offers

pub lent-read : (rooms : Rooms) → rooms_lent rooms ≡ true → LentRooms rooms
unfolding rooms_lent
lent-read rooms e =
    let t = nth _ e in
    record { some-stakes = leb-true 1 rooms.stakes (t 0); most-stakes = leb-true rooms.stakes most_stakes (t 1); some-offers = leb-true 1 rooms.offers (t 2); most-offers = leb-true rooms.offers most_offers (t 3) }

lent-made : (rooms : Rooms) → LentRooms rooms → rooms_lent rooms ≡ true
unfolding rooms_lent
lent-made rooms h =
    held _ (le-leb 1 rooms.stakes h.some-stakes, (le-leb rooms.stakes most_stakes h.most-stakes, (le-leb 1 rooms.offers h.some-offers, (le-leb rooms.offers most_offers h.most-offers, tt))))

same_read : (x y : ℤ) → is_zero (x -ℤ y) ≡ true → x ≡ y
same_read x y e = let z = eqb-true (nat_abs (x -ℤ y)) 0 e in omega (arith, whole, z, abs (x -ℤ y), dif x y)

same-made : (x y : ℤ) → x ≡ y → is_zero (x -ℤ y) ≡ true
same-made x y e = eq-eqb (nat_abs (x -ℤ y)) 0 (omega (arith, whole, e, abs (x -ℤ y), dif x y))

module _ (b : Books) where
  abbrev Sums : ℕ → Type 0
  Sums p = (balance_of b p ≡ stake_sum p b.stakes) × (pos (unpaid_of b p) ≡ cover_sum p b.offers)

  sums-read : (p : ℕ) → sums_test b p ≡ true → Sums p
  unfolding sums_test
  sums-read p e =
      let t = nth _ e in
      (same_read (balance_of b p) (stake_sum p b.stakes) (t 0), same_read (pos (unpaid_of b p)) (cover_sum p b.offers) (t 1))

  sums-made : WellFormed b → (p : ℕ) → p < pools → sums_test b p ≡ true
  unfolding sums_test
  sums-made w p h =
      held _ (same-made (balance_of b p) (stake_sum p b.stakes) (w.balance-is p h), (same-made (pos (unpaid_of b p)) (cover_sum p b.offers) (w.unpaid-is p h), tt))

  -- ---- the whole

  pub formed-read : well_formed b ≡ true → WellFormed b
  unfolding well_formed
  formed-read e =
      let t = nth _ e in
      let l = lent-read b.rooms (t 2) in
      let sums = below-read (sums_test b) pools (t 6) in
      record {
        stake-rows = rows-read stake_key stake_test StakeOk stake-read 0 b.stakes (t 0);
        offer-rows = rows-read offer_key offer_test OfferOk offer-read 0 b.offers (t 1);
        stake-room = record { some = l.some-stakes; lent = l.most-stakes; enough = leb-true (length b.stakes) b.rooms.stakes (t 3) };
        offer-room = record { some = l.some-offers; lent = l.most-offers; enough = leb-true (length b.offers) b.rooms.offers (t 4) };
        four-pools = eqb-true (length b.pools) pools (t 5);
        balance-is = λ p h. (sums-read p (sums p h)).0;
        unpaid-is = λ p h. (sums-read p (sums p h)).1;
        admin = number_read b.settings.admin.0 (t 7);
        caller = ltb-true b.settings.caller.0 two_to64 (t 8);
        rate-most = leb-true b.settings.rate greatest_rate (t 9);
      }

  pub formed-made : WellFormed b → well_formed b ≡ true
  unfolding well_formed
  formed-made w =
      let rooms : LentRooms b.rooms = record { some-stakes = w.stake-room.some; most-stakes = w.stake-room.lent; some-offers = w.offer-room.some; most-offers = w.offer-room.lent } in
      held _ (
        rows_made stake_key stake_test StakeOk stake-made 0 b.stakes w.stake-rows,
        (
          rows_made offer_key offer_test OfferOk offer-made 0 b.offers w.offer-rows,
          (
            lent-made b.rooms rooms,
            (
              le-leb (length b.stakes) b.rooms.stakes w.stake-room.enough,
              (
                le-leb (length b.offers) b.rooms.offers w.offer-room.enough,
                (
                  eq-eqb (length b.pools) pools w.four-pools,
                  (
                    below-made (sums_test b) pools (sums-made w),
                    (
                      number-made b.settings.admin.0 w.admin,
                      (
                        lt-ltb b.settings.caller.0 two_to64 w.caller,
                        (le-leb b.settings.rate greatest_rate w.rate-most, tt),
                      ),
                    ),
                  ),
                ),
              ),
            ),
          ),
        ),
      )
