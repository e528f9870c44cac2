-- Laws of tables in general: what `put` does to the order, to what `find` finds, to sums, and to the length.
use mathlib.Core.Path.{◌≡◌, refl, sym, ◌∙◌}
use mathlib.Core.Bool.{Bool, true, false, cond, true≢false}
use mathlib.Core.List.{List, [], ◌∷◌}
use Prim.Native.Nat.{ℕ, suc, ◌≤◌, ◌<◌}
use native.Mathlib.Omega.{arith}
use borrow.Author.Tests.{ltb-true, ltb-false, eqb-true, eqb-false, lt-ltb, le-ltb, eq-eqb, ne_eqb}
use lib.Dec.{ltb, eqb}
use lib.IntN.{ℤ, pos, ◌+ℤ◌}
use lib.ListN.{length}
use Rattle.whole.proofs.Linear.{whole, sum}
use Rattle.rules.specs.Table.{find, has, put, keep, sum_of}
use Rattle.rules.proofs.Tests.{cases}
use Rattle.rules.specs.inner.Facts.{Rows}

-- how two numbers compare
pub data Order (m n : ℕ) : Type 0 where
  less : m < n → Order m n
  same : m ≡ n → Order m n
  more : n < m → Order m n

pub order : (m n : ℕ) → Order m n
order m n = go (ltb m n) refl (eqb m n) refl
  where
    go : (t : Bool) → ltb m n ≡ t → (u : Bool) → eqb m n ≡ u → Order m n
    go true e u f = less (ltb-true m n e)
    go false e true f = same (eqb-true m n f)
    go false e false f = let a = ltb-false m n e in let b = eqb-false m n f in more (omega arith)

module _ {A : Type 0} (key : A → ℕ) (Ok : A → Type 0) where
  pub rows-low : (low high : ℕ) (rows : List A) → low ≤ high → Rows key Ok high rows → Rows key Ok low rows
  rows-low low high [] h r = tt
  rows-low low high (x ∷ rows) h r = (omega (arith, r.0), r.1, r.2)

module _ {A : Type 0} (key : A → ℕ) (d : A) (k : ℕ) (x : A) (rows : List A) where
  pub find_past : key x < k → find key d k (x ∷ rows) ≡ find key d k rows
  unfolding find
  find_past h = rw (lt-ltb (key x) k h)

  pub find-here : key x ≡ k → find key d k (x ∷ rows) ≡ x
  unfolding find
  find-here h = rw (le-ltb (key x) k (omega arith), eq-eqb (key x) k h)

  pub find_none : k < key x → find key d k (x ∷ rows) ≡ d
  unfolding find
  find_none h = rw (le-ltb (key x) k (omega arith), ne_eqb (key x) k (λ e. omega arith))

module _ {A : Type 0} (key : A → ℕ) (Ok : A → Type 0) where
  -- nothing is found below the rows
  pub find-below : (d : A) (k low : ℕ) (rows : List A) → k ≤ low → Rows key Ok low rows → find key d k rows ≡ d
  unfolding find
  find-below d k low [] h r = refl
  find-below d k low (x ∷ rows) h r = find_none key d k x rows (omega (arith, r.0))

  -- what is found is a row with the key, in order, or the row given for none
  pub find-is : (d : A) (k low : ℕ) (rows : List A) (Q : A → Type 0) → Rows key Ok low rows → Q d → ((y : A) → Ok y → key y ≡ k → Q y) → Q (find key d k rows)
  unfolding find
  find-is d k low [] Q r q f = q
  find-is d k low (x ∷ rows) Q r q f =
      cases (ltb (key x) k) (find key d k rows) (cond (eqb (key x) k) x d) Q
      (λ e. find-is d k (key x) rows Q r.2 q f)
      (λ e. cases (eqb (key x) k) x d Q (λ g. f x r.1 (eqb-true (key x) k g)) (λ g. q))

  -- a key without a row
  pub has-none : (d : A) (k : ℕ) (rows : List A) → has key k rows ≡ false → find key d k rows ≡ d
  unfolding find has
  has-none d k [] e = refl
  has-none d k (x ∷ rows) e = go (ltb (key x) k) (has-none d k rows) e
    where
      go : (t : Bool) → (has key k rows ≡ false → find key d k rows ≡ d) → cond t (has key k rows) (eqb (key x) k) ≡ false → cond t (find key d k rows) (cond (eqb (key x) k) x d) ≡ d
      go true ih e = ih e
      go false ih e = rw e

module _ {A : Type 0} (key : A → ℕ) (gone : A → Bool) (r x : A) (rows : List A) where
  put-past : key x < key r → put key gone r (x ∷ rows) ≡ x ∷ put key gone r rows
  unfolding put
  put-past h = rw (lt-ltb (key x) (key r) h)

  put-here : key x ≡ key r → put key gone r (x ∷ rows) ≡ keep gone r rows
  unfolding put
  put-here h = rw (le-ltb (key x) (key r) (omega arith), eq-eqb (key x) (key r) h)

  put-before : key r < key x → put key gone r (x ∷ rows) ≡ keep gone r (x ∷ rows)
  unfolding put
  put-before h = rw (le-ltb (key x) (key r) (omega arith), ne_eqb (key x) (key r) (λ e. omega arith))

module _ {A : Type 0} (key : A → ℕ) (gone : A → Bool) (Ok : A → Type 0) where
  kept-rows : (low : ℕ) (r : A) (rows : List A) → low < key r → (gone r ≡ false → Ok r) → Rows key Ok (key r) rows → Rows key Ok low (keep gone r rows)
  kept-rows low r rows l ok h = cases (gone r) rows (r ∷ rows) (Rows key Ok low) (λ e. rows-low key Ok low (key r) rows (omega arith) h) (λ e. (l, ok e, h))

  -- the order is kept, where the row put is one to keep or is gone
  pub put-rows : (low : ℕ) (r : A) (rows : List A) → Rows key Ok low rows → low < key r → (gone r ≡ false → Ok r) → Rows key Ok low (put key gone r rows)
  unfolding put
  put-rows low r [] h l ok = kept-rows low r [] l ok tt
  put-rows low r (x ∷ rows) h l ok =
      cases (ltb (key x) (key r)) (x ∷ put key gone r rows) (keep gone r (cond (eqb (key x) (key r)) rows (x ∷ rows))) (Rows key Ok low)
      (λ e. (h.0, h.1, put-rows (key x) r rows h.2 (ltb-true (key x) (key r) e) ok))
      (λ e. kept-rows low r (cond (eqb (key x) (key r)) rows (x ∷ rows)) l ok
      (cases (eqb (key x) (key r)) rows (x ∷ rows) (Rows key Ok (key r))
      (λ f. let same = eqb-true (key x) (key r) f in rows-low key Ok (key r) (key x) rows (omega arith) h.2)
      (λ f. let a = ltb-false (key x) (key r) e in let b = eqb-false (key x) (key r) f in (omega arith, h.1, h.2))))

  -- a row put and not gone is found
  pub find-put : (d r : A) (rows : List A) → gone r ≡ false → find key d (key r) (put key gone r rows) ≡ r
  unfolding put
  find-put d r [] g = rw g (find-here key d (key r) r [] refl)
  find-put d r (x ∷ rows) g = go (order (key x) (key r)) (find-put d r rows g)
    where
      go : Order (key x) (key r) → find key d (key r) (put key gone r rows) ≡ r → find key d (key r) (put key gone r (x ∷ rows)) ≡ r
      go (less h) ih = rw (put-past key gone r x rows h) (find_past key d (key r) x (put key gone r rows) h ∙ ih)
      go (same h) ih = rw (put-here key gone r x rows h, g) (find-here key d (key r) r rows refl)
      go (more h) ih = rw (put-before key gone r x rows h, g) (find-here key d (key r) r (x ∷ rows) refl)

  -- and nothing else is found otherwise than before
  pub find-other : (d r : A) (k low : ℕ) (rows : List A) → Rows key Ok low rows → (key r ≡ k → ⊥) → find key d k (put key gone r rows) ≡ find key d k rows
  unfolding put find
  find-other d r k low [] h n = cases (gone r) [] (r ∷ []) (λ (z : List A). find key d k z ≡ find key d k []) (λ e. refl) (λ e. lone (order (key r) k))
    where
      lone : Order (key r) k → find key d k (r ∷ []) ≡ find key d k []
      lone (less l) = find_past key d k r [] l
      lone (same l) = absurd (n l)
      lone (more l) = find_none key d k r [] l
  find-other d r k low (x ∷ rows) h n = go (order (key x) (key r)) (find-other d r k (key x) rows h.2 n)
    where
      past : find key d k (put key gone r rows) ≡ find key d k rows → Order (key x) k → find key d k (x ∷ put key gone r rows) ≡ find key d k (x ∷ rows)
      past ih (less l) = find_past key d k x (put key gone r rows) l ∙ ih ∙ sym (find_past key d k x rows l)
      past ih (same l) = find-here key d k x (put key gone r rows) l ∙ sym (find-here key d k x rows l)
      past ih (more l) = find_none key d k x (put key gone r rows) l ∙ sym (find_none key d k x rows l)

      -- x goes, and r is there or not
      dropped : key x ≡ key r → Order (key x) k → find key d k rows ≡ find key d k (x ∷ rows)
      dropped e (less l) = sym (find_past key d k x rows l)
      dropped e (same l) = absurd (n (sym e ∙ l))
      dropped e (more l) = find-below key Ok d k (key x) rows (omega arith) h.2 ∙ sym (find_none key d k x rows l)

      front : (rest : List A) → Rows key Ok (key r) rest → Order (key r) k → find key d k (r ∷ rest) ≡ find key d k rest
      front rest w (less l) = find_past key d k r rest l
      front rest w (same l) = absurd (n l)
      front rest w (more l) = find_none key d k r rest l ∙ sym (find-below key Ok d k (key r) rest (omega arith) w)

      go : Order (key x) (key r) → find key d k (put key gone r rows) ≡ find key d k rows → find key d k (put key gone r (x ∷ rows)) ≡ find key d k (x ∷ rows)
      go (less l) ih = rw (put-past key gone r x rows l) (past ih (order (key x) k))
      go (same l) ih = rw (put-here key gone r x rows l) (cases (gone r) rows (r ∷ rows) (λ (z : List A). find key d k z ≡ find key d k (x ∷ rows)) (λ e. dropped l (order (key x) k)) (λ e. front rows (rows-low key Ok (key r) (key x) rows (omega arith) h.2) (order (key r) k) ∙ dropped l (order (key x) k)))
      go (more l) ih = rw (put-before key gone r x rows l) (cases (gone r) (x ∷ rows) (r ∷ x ∷ rows) (λ (z : List A). find key d k z ≡ find key d k (x ∷ rows)) (λ e. refl) (λ e. front (x ∷ rows) (omega arith, h.1, h.2) (order (key r) k)))

module _ {A : Type 0} (key : A → ℕ) (gone : A → Bool) (f : A → ℤ) (d r : A) (fd : f d ≡ pos 0) (fr : gone r ≡ true → f r ≡ pos 0) where
  kept-sum : (rows : List A) → sum_of f (keep gone r rows) ≡ sum_of f rows +ℤ f r
  unfolding sum_of
  kept-sum rows = cases (gone r) rows (r ∷ rows) (λ (z : List A). sum_of f z ≡ sum_of f rows +ℤ f r) (λ e. let z = fr e in omega (arith, whole, sum (sum_of f rows) (f r))) (λ e. omega (arith, whole, sum (f r) (sum_of f rows), sum (sum_of f rows) (f r)))

  -- a sum changes by what the row put has more than the row that was there
  pub put-sum : (rows : List A) → sum_of f (put key gone r rows) +ℤ f (find key d (key r) rows) ≡ sum_of f rows +ℤ f r
  unfolding put find sum_of
  put-sum [] = rw fd (omega (arith, whole, kept-sum [], sum (sum_of f (keep gone r [])) (pos 0), sum (pos 0) (f r)))
  put-sum (x ∷ rows) = go (order (key x) (key r)) (put-sum rows)
    where
      s : ℤ
      s = sum_of f rows

      go : Order (key x) (key r) → sum_of f (put key gone r rows) +ℤ f (find key d (key r) rows) ≡ sum_of f rows +ℤ f r → sum_of f (put key gone r (x ∷ rows)) +ℤ f (find key d (key r) (x ∷ rows)) ≡ (f x +ℤ sum_of f rows) +ℤ f r
      go (less h) ih = rw (put-past key gone r x rows h, find_past key d (key r) x rows h) (omega (arith, whole, sum (f x) (sum_of f (put key gone r rows)), sum (f x) (sum_of f rows), sum (sum_of f (put key gone r rows)) (f (find key d (key r) rows)), sum (sum_of f rows) (f r), sum (f x +ℤ sum_of f (put key gone r rows)) (f (find key d (key r) rows)), sum (f x +ℤ sum_of f rows) (f r)))
      go (same h) ih = rw (put-here key gone r x rows h, find-here key d (key r) x rows h) (omega (arith, whole, kept-sum rows, sum (sum_of f rows) (f r), sum (sum_of f (keep gone r rows)) (f x), sum (f x) (sum_of f rows), sum (f x +ℤ sum_of f rows) (f r)))
      go (more h) ih = rw (put-before key gone r x rows h, find_none key d (key r) x rows h, fd) (omega (arith, whole, kept-sum (x ∷ rows), sum (sum_of f (keep gone r (x ∷ rows))) (pos 0), sum (f x) (sum_of f rows), sum (f x +ℤ sum_of f rows) (f r)))

module _ {A : Type 0} (key : A → ℕ) (gone : A → Bool) (r : A) where
  kept-length : (rows : List A) → length (keep gone r rows) ≤ suc (length rows)
  kept-length rows = cases (gone r) rows (r ∷ rows) (λ (z : List A). length z ≤ suc (length rows)) (λ e. omega arith) (λ e. omega arith)

  -- at most one row more
  pub put-length : (rows : List A) → length (put key gone r rows) ≤ suc (length rows)
  unfolding put
  put-length [] = kept-length []
  put-length (x ∷ rows) =
      cases (ltb (key x) (key r)) (x ∷ put key gone r rows) (keep gone r (cond (eqb (key x) (key r)) rows (x ∷ rows))) (λ (z : List A). length z ≤ suc (suc (length rows)))
      (λ e. omega (arith, put-length rows))
      (λ e. cases (eqb (key x) (key r)) rows (x ∷ rows) (λ (z : List A). length (keep gone r z) ≤ suc (suc (length rows))) (λ g. omega (arith, kept-length rows)) (λ g. kept-length (x ∷ rows)))

  -- and none where the key has its row
  pub put-length-has : (rows : List A) → has key (key r) rows ≡ true → length (put key gone r rows) ≤ length rows
  unfolding put has
  put-length-has [] e = absurd (true≢false (sym e))
  put-length-has (x ∷ rows) e = go (ltb (key x) (key r)) (eqb (key x) (key r)) (put-length-has rows) e
    where
      go : (t u : Bool) → (has key (key r) rows ≡ true → length (put key gone r rows) ≤ length rows) → cond t (has key (key r) rows) u ≡ true → length (cond t (x ∷ put key gone r rows) (keep gone r (cond u rows (x ∷ rows)))) ≤ suc (length rows)
      go true u ih e = omega (arith, ih e)
      go false true ih e = kept-length rows
      go false false ih e = absurd (true≢false (sym e))
