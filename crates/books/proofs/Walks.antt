-- A walk over the used rows of any words, from the first: the rows that are left, and what a turn of the walk keeps.
use mathlib.Core.Path.{◌≡◌, refl, sym, ap, ◌∙◌, subst}
use mathlib.Core.Logic.{◌≢◌, ⊎_elim}
use mathlib.Core.Bool.{Bool, true, false, cond}
use mathlib.Core.List.{List, [], ◌∷◌}
use Prim.Native.Nat.{ℕ, suc, ◌+◌, ◌-◌, ◌*◌, ◌^◌, ◌≤◌, ◌<◌}
use native.Mathlib.Omega.{arith}
use lib.Dec.{ltb}
use lib.IntN.{ℤ, pos, ◌+ℤ◌, +ℤ_assoc}
use lib.ListN.{length, get_or, set, length-set}
use lib.Seq.{get_or-set_same, get_or-set_other}
use borrow.Author.Tests.{eq-eqb, ne_eqb, lt-ltb, le-ltb}
use Rattle.whole.specs.Whole.{Within}
use Rattle.whole.proofs.Linear.{whole, sum, one}
use Rattle.rows.specs.Rows.{word, key_of}
use Rattle.rows.proofs.Order.{same_or_not}
use Rattle.rules.specs.Limits.{limit}
use Rattle.rules.specs.Table.{each, all, sum_of}
use Rattle.rules.specs.Formed.{rows_test}
use Rattle.books.specs.Layout.{number_word, pools, each_pool}
use Rattle.books.specs.Tables.{room_of, used_from, used_of, rows_from, table_of}
use Rattle.books.specs.inner.Kinds.{Kind}
use Rattle.books.specs.inner.KindLaws.{KindLaws}
use Rattle.books.specs.inner.Passes.{IsPassed}
use Rattle.books.proofs.Pools.{each_same}

alone : (t : Bool) → cond t true false ≡ t
alone true = refl
alone false = refl

module _ (k : Kind) (w : ℕ) (s : List ℕ) where
  -- the used rows from row i on
  abbrev pub left : ℕ → List k.Row
  left i = rows_from k.row_at s i (used_from w s i (room_of w s - i))

  -- the row that a turn takes
  left-next : (i : ℕ) → i < room_of w s → word s w i number_word ≢ 0 → left i ≡ k.row_at s i ∷ left (i + 1)
  unfolding rows_from used_from
  left-next i h n =
      let e : room_of w s - i ≡ suc (room_of w s - (i + 1)) = omega arith in
      let f : suc i ≡ i + 1 = omega arith in
      ap (λ (m : ℕ). rows_from k.row_at s i (used_from w s i m)) e
      ∙ rw (ne_eqb (word s w i number_word) 0 n) (ap (λ (j : ℕ). k.row_at s i ∷ rows_from k.row_at s j (used_from w s j (room_of w s - (i + 1)))) f)

  count_next : (i : ℕ) → i < room_of w s → word s w i number_word ≢ 0 → used_from w s i (room_of w s - i) ≡ suc (used_from w s (i + 1) (room_of w s - (i + 1)))
  unfolding used_from
  count_next i h n =
      let e : room_of w s - i ≡ suc (room_of w s - (i + 1)) = omega arith in
      let f : suc i ≡ i + 1 = omega arith in
      ap (used_from w s i) e ∙ rw (ne_eqb (word s w i number_word) 0 n) (ap (λ (j : ℕ). suc (used_from w s j (room_of w s - (i + 1)))) f)

  -- none is left: at a row that is not used, and after the last
  none-stop : (i : ℕ) → i < room_of w s → word s w i number_word ≡ 0 → used_from w s i (room_of w s - i) ≡ 0
  unfolding used_from
  none-stop i h z =
      let e : room_of w s - i ≡ suc (room_of w s - (i + 1)) = omega arith in
      ap (used_from w s i) e ∙ rw (eq-eqb (word s w i number_word) 0 z)

  none_end : (i : ℕ) → room_of w s ≤ i → used_from w s i (room_of w s - i) ≡ 0
  unfolding used_from
  none_end i h =
      let e : room_of w s - i ≡ 0 = omega arith in
      ap (used_from w s i) e

  -- i rows are passed, the last of them with the key `low`, and the four words l hold the sums so far
  pub record Walked (i low : ℕ) (l : List ℕ) : Type 0 where
    pub few : i ≤ room_of w s
    pub tests : rows_test k.key k.test low (left i) ≡ rows_test k.key k.test 0 (table_of k.row_at w s)
    pub count : i + used_from w s i (room_of w s - i) ≡ used_of w s
    pub four : length l ≡ pools
    pub words : (p : ℕ) → get_or l p 0 < 2 ^ 64
    pub small : (p : ℕ) → p < pools → Within (i * limit) (k.value (get_or l p 0))
    pub sums : (p : ℕ) → p < pools → k.value (get_or l p 0) +ℤ sum_of (k.part p) (left i) ≡ sum_of (k.part p) (table_of k.row_at w s)

  pub walk_start : KindLaws k w → Walked 0 0 (each_pool (λ pool. 0))
  walk_start laws =
      let e : room_of w s - 0 ≡ room_of w s = omega arith in
      let word-0 : (p : ℕ) → k.value (get_or (each_pool (λ pool. 0)) p 0) ≡ pos 0 = λ p. ap k.value (each_same 0 p) ∙ laws.none in
      record {
        few = omega arith;
        tests = ap (λ (m : ℕ). rows_test k.key k.test 0 (rows_from k.row_at s 0 (used_from w s 0 m))) e;
        count = omega (arith, ap (used_from w s 0) e);
        four = refl;
        words = λ p. omega (arith, each_same {A = ℕ} 0 p);
        small = λ p h. rw (word-0 p) (record { above = omega arith; below = omega arith });
        sums = λ p h. rw (word-0 p, e) (omega (arith, whole));
      }

  -- row i is read: `row` as the rules have it, with its pool and number
  pub record Turn (i low : ℕ) (l : List ℕ) (row : k.Row) (pool number : ℕ) : Type 0 where
    pub inv : Walked i low l
    pub more : i < room_of w s
    pub read : row ≡ k.row_at s i
    pub pool-is : pool ≡ k.pool row
    pub number-is : number ≡ k.number row

  module _ (laws : KindLaws k w) where
    module _ {i low : ℕ} {l : List ℕ} (v : Walked i low l) where
      walk-done : used_from w s i (room_of w s - i) ≡ 0 → IsPassed k w s (record { used = i; sums = l })
      unfolding rows_from rows_test sum_of
      walk-done z =
          let e : left i ≡ [] = ap (rows_from k.row_at s i) z in
          record {
            tests = sym v.tests ∙ ap (rows_test k.key k.test low) e;
            used = omega (arith, v.count);
            words = v.words;
            sums = λ p h. let f = v.sums p h in let g = ap (sum_of (k.part p)) e in omega (arith, whole, f, g, sum (k.value (get_or l p 0)) (sum_of (k.part p) (left i)));
          }

      -- after the last row
      pub walk_end : room_of w s ≤ i → IsPassed k w s (record { used = room_of w s; sums = l })
      walk_end h =
          let e : i ≡ room_of w s = omega (arith, v.few) in
          subst (λ (n : ℕ). IsPassed k w s (record { used = n; sums = l })) e (walk-done (none_end i h))

    module _ {i low : ℕ} {l : List ℕ} {row : k.Row} {pool number : ℕ} (t : Turn i low l row pool number) where
      numbered : number ≡ word s w i number_word
      numbered = t.number-is ∙ ap k.number t.read ∙ laws.number_read s i

      key-is : k.key row ≡ key_of pool number
      key-is = rw (t.pool-is, t.number-is) (laws.key_is row)

      -- at a row that is not used
      pub walk-stop : number ≡ 0 → IsPassed k w s (record { used = i; sums = l })
      walk-stop z = walk-done t.inv (none-stop i t.more (sym numbered ∙ z))

      module _ (n : number ≢ 0) where
        some : word s w i number_word ≢ 0
        some e = n (numbered ∙ e)

        left_is : left i ≡ row ∷ left (i + 1)
        left_is = left-next i t.more some ∙ ap (λ (x : k.Row). x ∷ left (i + 1)) (sym t.read)

        tests-next : rows_test k.key k.test 0 (table_of k.row_at w s) ≡ all (ltb low (k.key row) ∷ k.test row ∷ rows_test k.key k.test (k.key row) (left (i + 1)) ∷ [])
        unfolding rows_test
        tests-next = sym t.inv.tests ∙ ap (rows_test k.key k.test low) left_is

        -- a row that does not ascend, and one that is not in order
        pub walk-order : key_of pool number ≤ low → rows_test k.key k.test 0 (table_of k.row_at w s) ≡ false
        unfolding each
        walk-order h = tests-next ∙ rw (key-is, le-ltb low (key_of pool number) h)

        pub walk-bad : k.test row ≡ false → rows_test k.key k.test 0 (table_of k.row_at w s) ≡ false
        unfolding each
        walk-bad e = tests-next ∙ go (ltb low (k.key row))
          where
            go : (v : Bool) → all (v ∷ k.test row ∷ rows_test k.key k.test (k.key row) (left (i + 1)) ∷ []) ≡ false
            go true = rw e
            go false = refl

        -- a turn: the row's part is added to the word v of its pool
        module _ (ascends : low < key_of pool number) (ok : k.test row ≡ true) where
          pub pool-in : pool < pools
          pool-in = omega (arith, t.pool-is, laws.pooled row ok)

          tests-turn : rows_test k.key k.test (k.key row) (left (i + 1)) ≡ rows_test k.key k.test 0 (table_of k.row_at w s)
          unfolding each
          tests-turn =
              let above : ltb low (k.key row) ≡ true = ap (ltb low) key-is ∙ lt-ltb low (key_of pool number) ascends in
              sym (tests-next ∙ rw (above, ok) (alone (rows_test k.key k.test (k.key row) (left (i + 1)))))

          part-other : (q : ℕ) → q ≢ pool → k.part q row ≡ pos 0
          part-other q d = laws.elsewhere row q (λ e. d (e ∙ sym t.pool-is))

          part_small : (q : ℕ) → Within limit (k.part q row)
          part_small q =
              ⊎_elim (λ f. let g : q ≡ k.pool row = f ∙ t.pool-is in rw g (laws.small row ok)) (λ d. rw (part-other q d) (record { above = omega arith; below = omega arith })) (same_or_not q pool)

          module _ (v : ℕ) (hv : v < 2 ^ 64) (e : k.value v ≡ k.value (get_or l pool 0) +ℤ k.part (k.pool row) row) where
            -- the words after it
            new_word : (q : ℕ) → k.value (get_or (set l pool v) q 0) ≡ k.value (get_or l q 0) +ℤ k.part q row
            new_word q =
                ⊎_elim
                (λ f. rw (f, get_or-set_same l pool v 0 (omega (arith, t.inv.four, pool-in))) (e ∙ ap (λ (p : ℕ). k.value (get_or l pool 0) +ℤ k.part p row) (sym t.pool-is)))
                (λ d. rw (part-other q d, get_or-set_other l pool q v 0 d) (omega (arith, whole)))
                (same_or_not q pool)

            words-next : (q : ℕ) → get_or (set l pool v) q 0 < 2 ^ 64
            words-next q =
                ⊎_elim (λ f. rw (f, get_or-set_same l pool v 0 (omega (arith, t.inv.four, pool-in))) hv) (λ d. rw (get_or-set_other l pool q v 0 d) (t.inv.words q)) (same_or_not q pool)

            small-next : (q : ℕ) → q < pools → Within ((i + 1) * limit) (k.value (get_or (set l pool v) q 0))
            small-next q hq =
                let x = k.value (get_or l q 0) in
                let y = k.part q row in
                rw (new_word q) (record { above = omega (arith, (t.inv.small q hq).above, (part_small q).above, sum x y, one (x +ℤ y)); below = omega (arith, (t.inv.small q hq).below, (part_small q).below, sum x y, one (x +ℤ y)) })

            sums_next : (q : ℕ) → q < pools → k.value (get_or (set l pool v) q 0) +ℤ sum_of (k.part q) (left (i + 1)) ≡ sum_of (k.part q) (table_of k.row_at w s)
            unfolding sum_of
            sums_next q hq =
                let x = k.value (get_or l q 0) in
                let y = k.part q row in
                let z = sum_of (k.part q) (left (i + 1)) in
                let f : sum_of (k.part q) (left i) ≡ y +ℤ z = ap (sum_of (k.part q)) left_is in
                rw (new_word q, +ℤ_assoc) (ap (λ (u : ℤ). x +ℤ u) (sym f) ∙ t.inv.sums q hq)

            pub walk_turn : Walked (i + 1) (key_of pool number) (set l pool v)
            walk_turn = record {
              few = omega (arith, t.more);
              tests = ap (λ (m : ℕ). rows_test k.key k.test m (left (i + 1))) (sym key-is) ∙ tests-turn;
              count = omega (arith, t.inv.count, count_next i t.more some);
              four = simp length-set t.inv.four;
              words = words-next;
              small = small-next;
              sums = sums_next;
            }
