-- The table test, part by part: the facts that the code tests are those that `good_tables` says.
use mathlib.Core.Path.{◌≡◌, refl, sym, ap, ◌∙◌}
use mathlib.Core.Bool.{true, false, not}
use mathlib.Core.List.{List}
use Prim.Native.Nat.{ℕ, ◌+◌, ◌*◌, ◌<◌}
use native.Mathlib.Nat.{zero-add}
use native.Mathlib.Omega.{arith}
use lib.Dec.{eqb, leb}
use lib.IntN.{pos}
use lib.ListN.{length, get_or, drop}
use mir.Syntax.{w64}
use mir.Val.{to_z}
use borrow.Author.Tests.{eqb-true, eq-eqb, le-leb, lt-ltb}
use Rattle.whole.specs.Whole.{up}
use Rattle.rows.specs.Rows.{all_zero}
use Rattle.rows.proofs.Order.{false-true}
use Rattle.rules.specs.Limits.{is_number, two_to64}
use Rattle.rules.specs.Table.{sum_of}
use Rattle.rules.specs.Books.{stake_key, offer_key, balance_of, unpaid_of}
use Rattle.rules.specs.Formed.{rows_test, stake_test, offer_test, stake_in, cover_in, sums_test, well_formed}
use Rattle.rules.proofs.Tests.{nth, held, below-made, and_left, and_right, word_number}
use Rattle.rules.proofs.Decided.{formed-read}
use Rattle.rules.proofs.Conditions.{bool_same, refuted}
use Rattle.books.specs.Layout.{stake_width, offer_width, pools, balance_words, unpaid_words, admin_word, caller_word}
use Rattle.books.specs.Tables.{room_of, used_of, table_of}
use Rattle.books.specs.Words.{tables, stake_row_at, offer_row_at, balance_in, unpaid_in, books_of, good_tables}
use Rattle.books.specs.inner.Held.{Fit}
use Rattle.books.specs.Fresh.{whole_rows, lent}
use Rattle.books.specs.inner.Kinds.{stake_kind, offer_kind}
use Rattle.books.specs.inner.Passes.{IsPassed, same_sums, settings_test}
use Rattle.books.specs.declared.pass.Passed.{Passed}
use Rattle.books.proofs.Pools.{pool-cases}
use Rattle.books.proofs.Lists.{rows-length}
use Rattle.books.proofs.Counts.{used-most}
use Rattle.books.proofs.Signs.{no-dif, same_word}
use Rattle.books.proofs.Writing.{balance-is, unpaid-is}

-- ---- a word for each pool

module _ (b : List ℕ) (from : ℕ) (sums : List ℕ) where
  sums-read : same_sums b from sums ≡ true → (p : ℕ) → p < pools → get_or b (from + p) 0 ≡ get_or sums p 0
  sums-read e =
      let at : (p : ℕ) → eqb (get_or b (from + p) 0) (get_or sums p 0) ≡ true → get_or b (from + p) 0 ≡ get_or sums p 0 = λ p. eqb-true (get_or b (from + p) 0) (get_or sums p 0) in
      let q = nth _ e in
      pool-cases (λ (p : ℕ). get_or b (from + p) 0 ≡ get_or sums p 0) (at 0 (q 0)) (at 1 (q 1)) (at 2 (q 2)) (at 3 (q 3))

  sums_same : ((p : ℕ) → p < pools → get_or b (from + p) 0 ≡ get_or sums p 0) → same_sums b from sums ≡ true
  sums_same e =
      let at : (p : ℕ) → p < pools → eqb (get_or b (from + p) 0) (get_or sums p 0) ≡ true = λ p h. eq-eqb (get_or b (from + p) 0) (get_or sums p 0) (e p h) in
      held _ (at 0 (omega arith), (at 1 (omega arith), (at 2 (omega arith), (at 3 (omega arith), tt))))

-- ---- the parts

module _ (s o b : List ℕ) where
  pub record Parts : Type 0 where
    pub lengths : lent (tables s o b) ≡ true
    pub stake-tests : rows_test stake_key stake_test 0 (table_of stake_row_at stake_width s) ≡ true
    pub offer-tests : rows_test offer_key offer_test 0 (table_of offer_row_at offer_width o) ≡ true
    pub balances : (p : ℕ) → p < pools → balance_in b p ≡ sum_of (stake_in p) (table_of stake_row_at stake_width s)
    pub unpaid : (p : ℕ) → p < pools → pos (unpaid_in b p) ≡ sum_of (cover_in p) (table_of offer_row_at offer_width o)
    pub figures : settings_test b ≡ true
    pub stakes-end : all_zero (drop (used_of stake_width s * stake_width) s) ≡ true
    pub offers-end : all_zero (drop (used_of offer_width o * offer_width) o) ≡ true

  module _ (fit : Fit b) where
    number_is : is_number (get_or b admin_word 0) ≡ not (eqb (get_or b admin_word 0) 0)
    number_is = word_number (get_or b admin_word 0) (fit admin_word)

    -- the sums that a pass answers, and the books' words
    module _ (r : Passed) where
      pub balances-read : IsPassed stake_kind stake_width s r → same_sums b balance_words r.sums ≡ true → (p : ℕ) → p < pools → balance_in b p ≡ sum_of (stake_in p) (table_of stake_row_at stake_width s)
      balances-read d e p h = ap (balance_in b) (sym (zero-add p)) ∙ ap (to_z w64) (sums-read b balance_words r.sums e p h) ∙ d.sums p h

      pub balances-made : IsPassed stake_kind stake_width s r → ((p : ℕ) → p < pools → balance_in b p ≡ sum_of (stake_in p) (table_of stake_row_at stake_width s)) → same_sums b balance_words r.sums ≡ true
      balances-made d e = sums_same b balance_words r.sums (λ p h. same_word (get_or b (balance_words + p) 0) (get_or r.sums p 0) (fit (balance_words + p)) (d.words p) (ap (balance_in b) (zero-add p) ∙ e p h ∙ sym (d.sums p h)))

      pub unpaid-read : IsPassed offer_kind offer_width o r → same_sums b unpaid_words r.sums ≡ true → (p : ℕ) → p < pools → pos (unpaid_in b p) ≡ sum_of (cover_in p) (table_of offer_row_at offer_width o)
      unpaid-read d e p h = ap pos (sums-read b unpaid_words r.sums e p h) ∙ d.sums p h

      pub unpaid-made : IsPassed offer_kind offer_width o r → ((p : ℕ) → p < pools → pos (unpaid_in b p) ≡ sum_of (cover_in p) (table_of offer_row_at offer_width o)) → same_sums b unpaid_words r.sums ≡ true
      unpaid-made d e = sums_same b unpaid_words r.sums (λ p h. ap up (e p h ∙ sym (d.sums p h)))

    -- from the definition
    pub parts-read : good_tables (tables s o b) ≡ true → Parts
    unfolding good_tables well_formed books_of lent
    parts-read e =
        let p = nth _ e in
        let q = nth _ (p 4) in
        let f = formed-read (books_of (tables s o b)) (p 4) in
        record {
          lengths = held _ (and_left (whole_rows stake_width s) _ (p 0), (and_left (whole_rows offer_width o) _ (p 1), (p 2, (q 2, tt))));
          stake-tests = q 0;
          offer-tests = q 1;
          balances = λ k h. balance-is (tables s o b) k h ∙ f.balance-is k h;
          unpaid = λ k h. ap pos (unpaid-is (tables s o b) k h) ∙ f.unpaid-is k h;
          figures = held _ (sym number_is ∙ q 7, (p 3, (q 9, tt)));
          stakes-end = and_right (whole_rows stake_width s) _ (p 0);
          offers-end = and_right (whole_rows offer_width o) _ (p 1);
        }

    -- and back to it
    sums-made : Parts → (k : ℕ) → k < pools → sums_test (books_of (tables s o b)) k ≡ true
    unfolding sums_test books_of
    sums-made x k h =
        held _
        (no-dif (balance_of (books_of (tables s o b)) k) _ (sym (balance-is (tables s o b) k h) ∙ x.balances k h), (no-dif (pos (unpaid_of (books_of (tables s o b)) k)) _ (sym (ap pos (unpaid-is (tables s o b) k h)) ∙ x.unpaid k h), tt))

    few-stakes : leb (length (table_of stake_row_at stake_width s)) (room_of stake_width s) ≡ true
    few-stakes = le-leb _ (room_of stake_width s) (omega (arith, rows-length stake_row_at s 0 (used_of stake_width s), used-most stake_width s 0 (room_of stake_width s)))

    few-offers : leb (length (table_of offer_row_at offer_width o)) (room_of offer_width o) ≡ true
    few-offers = le-leb _ (room_of offer_width o) (omega (arith, rows-length offer_row_at o 0 (used_of offer_width o), used-most offer_width o 0 (room_of offer_width o)))

    formed-made : Parts → well_formed (books_of (tables s o b)) ≡ true
    unfolding well_formed books_of lent
    formed-made x =
        let l = nth _ x.lengths in
        let f = nth _ x.figures in
        held _
        (x.stake-tests, (x.offer-tests, (l 3, (few-stakes, (few-offers, (refl, (below-made (sums_test (books_of (tables s o b))) pools (sums-made x), (number_is ∙ f 0, (lt-ltb (get_or b caller_word 0) two_to64 (fit caller_word), (f 2, tt))))))))))

    pub parts-made : Parts → good_tables (tables s o b) ≡ true
    unfolding good_tables lent
    parts-made x =
        let l = nth _ x.lengths in
        held _ (rw (l 0, x.stakes-end), (rw (l 1, x.offers-end), (l 2, (nth _ x.figures 1, (formed-made x, tt)))))

    -- a test that fails refuses
    module _ (r : Passed) where
      pub balances-refused : IsPassed stake_kind stake_width s r → same_sums b balance_words r.sums ≡ false → false ≡ good_tables (tables s o b)
      balances-refused d e = refuted (good_tables (tables s o b)) (λ g. false-true (sym e ∙ balances-made r d (parts-read g).balances))

      pub unpaid-refused : IsPassed offer_kind offer_width o r → same_sums b unpaid_words r.sums ≡ false → false ≡ good_tables (tables s o b)
      unpaid-refused d e = refuted (good_tables (tables s o b)) (λ g. false-true (sym e ∙ unpaid-made r d (parts-read g).unpaid))

      pub stakes-end-refused : IsPassed stake_kind stake_width s r → all_zero (drop (r.used * stake_width) s) ≡ false → false ≡ good_tables (tables s o b)
      stakes-end-refused d e = refuted (good_tables (tables s o b)) (λ g. false-true (sym e ∙ rw d.used (parts-read g).stakes-end))

    pub settings-refused : settings_test b ≡ false → false ≡ good_tables (tables s o b)
    settings-refused e = refuted (good_tables (tables s o b)) (λ g. false-true (sym e ∙ (parts-read g).figures))

    -- of words of the lent lengths whose rows are in order, the tests of the code in a row are all that is left to test: where the others are passed,
    -- the last decides
    pub tests-are : lent (tables s o b) ≡ true → (p q : Passed) → IsPassed stake_kind stake_width s p → IsPassed offer_kind offer_width o q
        → same_sums b balance_words p.sums ≡ true → same_sums b unpaid_words q.sums ≡ true → settings_test b ≡ true → all_zero (drop (p.used * stake_width) s) ≡ true
        → all_zero (drop (q.used * offer_width) o) ≡ good_tables (tables s o b)
    tests-are l p q staked offered balances unpaid figures stakes-end =
        bool_same _ (good_tables (tables s o b))
        (λ e.
        parts-made (record {
          lengths = l;
          stake-tests = staked.tests;
          offer-tests = offered.tests;
          balances = balances-read p staked balances;
          unpaid = unpaid-read q offered unpaid;
          figures = figures;
          stakes-end = rw staked.used at stakes-end;
          offers-end = rw offered.used at e;
        }))
        (λ g. rw offered.used (parts-read g).offers-end)

  -- and what refuses: other lengths, stake rows and offer rows that are not in order
  pub not-lent : lent (tables s o b) ≡ false → Fit b → false ≡ good_tables (tables s o b)
  not-lent e fit = refuted (good_tables (tables s o b)) (λ g. false-true (sym e ∙ (parts-read fit g).lengths))

  pub stakes-refused : rows_test stake_key stake_test 0 (table_of stake_row_at stake_width s) ≡ false → false ≡ good_tables (tables s o b)
  unfolding good_tables well_formed books_of
  stakes-refused e = refuted (good_tables (tables s o b)) (λ g. false-true (sym e ∙ nth _ (nth _ g 4) 0))

  pub offers-refused : rows_test offer_key offer_test 0 (table_of offer_row_at offer_width o) ≡ false → false ≡ good_tables (tables s o b)
  unfolding good_tables well_formed books_of
  offers-refused e = refuted (good_tables (tables s o b)) (λ g. false-true (sym e ∙ nth _ (nth _ g 4) 1))
