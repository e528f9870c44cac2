-- The loop that writes a settled loss, in words and rows: one row more, its begin and its end. Throughout, s₀ are the words at its begin.
use mathlib.Core.Path.{◌≡◌, refl, sym, ap, ap₂, subst⁻¹, ◌∙◌}
use mathlib.Core.Bool.{Bool, true, false, cond}
use mathlib.Core.List.{List, ◌∷◌, ◌++◌, append_assoc}
use Prim.Native.Nat.{ℕ, ◌+◌, ◌-◌, ◌*◌, ◌≤◌, ◌<◌}
use native.Mathlib.Omega.{arith}
use lib.Dec.{eqb}
use lib.IntN.{ℤ, pos, ◌-ℤ◌}
use lib.ListN.{length, get_or, take, drop, length-append, replicate-append-replicate}
use lib.Seq.{drop-drop, drop_at, take_at, length-take-le, get_or-drop}
use mir.Syntax.{w64}
use mir.Val.{SFits}
use Rattle.whole.specs.Whole.{Within}
use Rattle.rows.specs.Rows.{word, zeros}
use Rattle.rows.specs.inner.Moves.{row_written, closed}
use Rattle.rows.proofs.Table.{written-length}
use Rattle.rules.specs.Limits.{limit, most_stakes}
use Rattle.rules.specs.Table.{keep}
use Rattle.rules.specs.Books.{StakeRow, stake_gone}
use Rattle.rules.specs.Sharing.{cut_row}
use Rattle.books.specs.Layout.{stake_width, pool_word, number_word, stake_word, since_word, accrual_word}
use Rattle.books.specs.Tables.{room_of, words_of_rows, table_words}
use Rattle.books.specs.Words.{stake_row_at, stake_words}
use Rattle.books.specs.inner.Held.{Fit}
use Rattle.books.proofs.Lists.{rows-length}
use Rattle.books.proofs.Flat.{flat_append, flat_rows, blank-zeros}
use Rattle.books.proofs.StakeRows.{same-words}
use Rattle.losses.specs.inner.Settling.{Ready, Divisible, lowered_by, stake_at_row}
use Rattle.losses.specs.declared.Loss.{Loss}
use Rattle.losses.proofs.Walk.{rows, onward-none, sharers-none}
use Rattle.losses.proofs.Rest.{Resting, rest-on, rest-fits, left-fits}
use Rattle.losses.proofs.Sizes.{few-rows, stake-small, part_of}
use Rattle.losses.proofs.Turns.{after_loss, todo, cut_at, after_none, after_is, turn}

-- ---- a row written below the rows that are still to be read

module _ (s row : List ℕ) (at : ℕ) (width : length row ≡ stake_width) (room : at * stake_width + stake_width ≤ length s) where
  head : length (take (at * stake_width) s ++ row) ≡ (at + 1) * stake_width
  head = omega (arith, length-append (take (at * stake_width) s) row, length-take-le (at * stake_width) s (omega arith))

  spread : row_written s stake_width at row ≡ (take (at * stake_width) s ++ row) ++ drop (at * stake_width + stake_width) s
  spread = sym (append_assoc (take (at * stake_width) s) row (drop (at * stake_width + stake_width) s))

  written-take : take ((at + 1) * stake_width) (row_written s stake_width at row) ≡ take (at * stake_width) s ++ row
  written-take = ap (take ((at + 1) * stake_width)) spread ∙ take_at (take (at * stake_width) s ++ row) (drop (at * stake_width + stake_width) s) ((at + 1) * stake_width) head

  written-drop : (i : ℕ) → at ≤ i → drop ((i + 1) * stake_width) (row_written s stake_width at row) ≡ drop ((i + 1) * stake_width) s
  written-drop i h =
      let e : (at + 1) * stake_width + (i - at) * stake_width ≡ (i + 1) * stake_width = omega arith in
      let f : at * stake_width + stake_width + (i - at) * stake_width ≡ (i + 1) * stake_width = omega arith in
      ap (λ (k : ℕ). drop k (row_written s stake_width at row)) (sym e)
      ∙ sym (drop-drop ((i - at) * stake_width) ((at + 1) * stake_width) (row_written s stake_width at row))
      ∙ ap (drop ((i - at) * stake_width)) (ap (drop ((at + 1) * stake_width)) spread ∙ drop_at (take (at * stake_width) s ++ row) (drop (at * stake_width + stake_width) s) ((at + 1) * stake_width) head)
      ∙ drop-drop ((i - at) * stake_width) (at * stake_width + stake_width) s
      ∙ ap (λ (k : ℕ). drop k s) f

-- the rows before row i are passed, and those of them that are kept lie below row `at`
pub record Midway (s₀ : List ℕ) (used : ℕ) (l : Loss) (s : List ℕ) (i at : ℕ) (rest : ℤ) : Type 0 where
  pub low : l.from ≤ at
  pub order : at ≤ i
  pub most : i ≤ l.to
  pub same : length s ≡ length s₀
  pub ahead : drop (i * stake_width) s ≡ drop (i * stake_width) s₀
  pub words : take (at * stake_width) s ++ words_of_rows stake_words (todo s₀ used l i rest) ≡ words_of_rows stake_words (after_loss s₀ l)
  pub count : at + length (todo s₀ used l i rest) ≡ length (after_loss s₀ l)
  pub resting : Resting l.amount l.from i rest

module _ {s₀ : List ℕ} {used : ℕ} {l : Loss} (h : Ready s₀ used l) (fit : Fit s₀) where
  abbrev Mid : List ℕ → ℕ → ℕ → ℤ → Type 0
  Mid s i at rest = Midway s₀ used l s i at rest

  -- rows read and written again
  words_of : (i n : ℕ) → i * stake_width + n * stake_width ≤ length s₀ → words_of_rows stake_words (rows s₀ i n) ≡ take (n * stake_width) (drop (i * stake_width) s₀)
  words_of i n q = flat_rows stake_row_at stake_words s₀ stake_width (same-words s₀ fit) i n q

  pub begins : Mid s₀ l.from l.from (pos l.amount)
  begins =
      let first = rows s₀ 0 l.from in
      let rest = todo s₀ used l l.from (pos l.amount) in
      record {
        low = omega arith;
        order = omega arith;
        most = h.span.order;
        same = refl;
        ahead = refl;
        words = sym (ap (words_of_rows stake_words) (after_is h) ∙ flat_append stake_words first rest ∙ ap (λ (x : List ℕ). x ++ words_of_rows stake_words rest) (words_of 0 l.from (omega (arith, h.held.table.fits, h.span.order, h.span.most))));
        count = sym (ap length (after_is h) ∙ length-append first rest ∙ ap (λ (n : ℕ). n + length rest) (rows-length stake_row_at s₀ 0 l.from));
        resting = record { nonneg = refl; most = omega arith };
      }

  module _ {s : List ℕ} {i at : ℕ} {rest : ℤ} (m : Mid s i at rest) (q : i < l.to) where
    -- a row that is still to be read is as it was
    same_word : (k : ℕ) → word s stake_width i k ≡ word s₀ stake_width i k
    same_word k = sym (get_or-drop (i * stake_width) s k 0) ∙ ap (λ (x : List ℕ). get_or x k 0) m.ahead ∙ get_or-drop (i * stake_width) s₀ k 0

    pub same_row : stake_row_at s i ≡ stake_row_at s₀ i
    same_row = rw (same_word pool_word, same_word number_word, same_word stake_word, same_word since_word, same_word accrual_word)

    next : drop ((i + 1) * stake_width) s ≡ drop ((i + 1) * stake_width) s₀
    next =
        let e : i * stake_width + stake_width ≡ (i + 1) * stake_width = omega arith in
        ap (λ (k : ℕ). drop k s) (sym e) ∙ sym (drop-drop stake_width (i * stake_width) s) ∙ ap (drop stake_width) m.ahead ∙ drop-drop stake_width (i * stake_width) s₀ ∙ ap (λ (k : ℕ). drop k s₀) e

    -- a row more: the row less what it loses is written as row `at`, unless it is gone
    pub row_on : {s' : List ℕ} {at' : ℕ} {rest' : ℤ} (line : StakeRow) → line ≡ cut_row (stake_row_at s₀ i) (cut_at s₀ l i rest) → rest' ≡ rest -ℤ cut_at s₀ l i rest → Resting l.amount l.from (i + 1) rest'
        → at' ≡ cond (stake_gone line) at (at + 1) → s' ≡ cond (stake_gone line) s (row_written s stake_width at (stake_words line)) → Mid s' (i + 1) at' rest'
    unfolding words_of_rows
    row_on {s'} {at'} {rest'} line e f rests =
        go (stake_gone line)
        (turn h fit i rest (omega (arith, m.low, m.order)) q
        ∙ ap₂ (λ (x : StakeRow) (y : ℤ). keep stake_gone x (todo s₀ used l (i + 1) y)) (sym e) (sym f))
      where
        fits : at * stake_width + stake_width ≤ length s
        fits = omega (arith, m.order, m.same, h.span.most, h.held.table.fits)

        go : (g : Bool) → todo s₀ used l i rest ≡ cond g (todo s₀ used l (i + 1) rest') (line ∷ todo s₀ used l (i + 1) rest') → at' ≡ cond g at (at + 1) → s' ≡ cond g s (row_written s stake_width at (stake_words line)) → Mid s' (i + 1) at' rest'
        go true t e f = record {
          low = omega (arith, m.low);
          order = omega (arith, m.order);
          most = omega arith;
          same = ap length f ∙ m.same;
          ahead = ap (drop ((i + 1) * stake_width)) f ∙ next;
          words = rw (e, f) (rw t at m.words);
          count = omega (arith, ap length t, m.count);
          resting = rests;
        }
        go false t e f = record {
          low = omega (arith, m.low);
          order = omega (arith, m.order);
          most = omega arith;
          same = ap length f ∙ written-length s stake_width at (stake_words line) fits refl ∙ m.same;
          ahead = ap (drop ((i + 1) * stake_width)) f ∙ written-drop s (stake_words line) at refl fits i m.order ∙ next;
          words = rw (e, f, written-take s (stake_words line) at refl fits) (append_assoc (take (at * stake_width) s) (stake_words line) (words_of_rows stake_words (todo s₀ used l (i + 1) rest')) ∙ (rw t at m.words));
          count = omega (arith, ap length t, m.count);
          resting = rests;
        }

  -- the same of a turn of the code: the row that is read, what it loses, and what may be asked of both
  module _ {s : List ℕ} {i at : ℕ} {rest : ℤ} (m : Mid s i at rest) (q : i < l.to) {row : StakeRow} (read : row ≡ stake_row_at s i) where
    row_is : row ≡ stake_row_at s₀ i
    row_is = read ∙ same_row m q

    small : Within limit (stake_at_row s₀ i)
    small = stake-small h i (omega (arith, h.span.most))

    passed : l.from ≤ i
    passed = omega (arith, m.low, m.order)

    few : i ≤ l.from + most_stakes
    few = omega (arith, m.most, h.span.most, few-rows h)

    pub divisible : Divisible row.stake l.amount l.balance
    divisible = part_of h (subst⁻¹ (λ (r : StakeRow). Within limit r.stake) row_is small)

    module _ {cut : ℤ} (lowers : cut ≡ lowered_by l.amount l.balance (eqb i l.last) rest row.stake) where
      cut-is : cut ≡ cut_at s₀ l i rest
      cut-is = lowers ∙ ap (λ (r : StakeRow). lowered_by l.amount l.balance (eqb i l.last) rest r.stake) row_is

      pub rest-word : SFits w64 (rest -ℤ cut)
      rest-word = rw cut-is (rest-fits h.loss-is.most small m.resting passed (eqb i l.last) few h.loss-is.within)

      pub stake-word : SFits w64 (row.stake -ℤ cut)
      stake-word = rw (row_is, cut-is) (left-fits h.loss-is.most small m.resting passed (eqb i l.last) few h.loss-is.within)

      pub next-row : {line : StakeRow} {left : ℤ} {s' : List ℕ} {at' : ℕ} → line ≡ cut_row row cut → left ≡ rest -ℤ cut
          → at' ≡ cond (stake_gone line) at (at + 1) → s' ≡ cond (stake_gone line) s (row_written s stake_width at (stake_words line)) → Mid s' (i + 1) at' left
      next-row {line} lowered less =
          let less-is = less ∙ ap (λ (z : ℤ). rest -ℤ z) cut-is in
          row_on m q line (lowered ∙ ap₂ cut_row row_is cut-is) less-is
          (subst⁻¹ (Resting l.amount l.from (i + 1)) less-is (rest-on h.loss-is.most small m.resting passed (eqb i l.last)))

  -- all rows of the pool are passed: those after them go down, and zeros follow
  module _ {s : List ℕ} {at : ℕ} {rest : ℤ} (m : Mid s l.to at rest) where
    rest-is : todo s₀ used l l.to rest ≡ rows s₀ l.to (used - l.to)
    rest-is = onward-none l.pool l.amount l.balance rest (rows s₀ l.to (used - l.to)) (sharers-none l.pool s₀ l.to (used - l.to) (after_none h))

    pub ends-count : at + (used - l.to) ≡ length (after_loss s₀ l)
    ends-count = sym (ap (λ (n : ℕ). at + n) (ap length rest-is ∙ rows-length stake_row_at s₀ l.to (used - l.to))) ∙ m.count

    moved : take (used * stake_width - l.to * stake_width) (drop (l.to * stake_width) s) ≡ words_of_rows stake_words (todo s₀ used l l.to rest)
    moved =
        let e : used * stake_width - l.to * stake_width ≡ (used - l.to) * stake_width = omega (arith, h.span.most) in
        ap₂ (λ (n : ℕ) (x : List ℕ). take n x) e m.ahead ∙ sym (ap (words_of_rows stake_words) rest-is ∙ words_of l.to (used - l.to) (omega (arith, h.held.table.fits, h.span.most)))

    tail : drop (used * stake_width) s ≡ zeros (length s₀ - used * stake_width)
    tail =
        let d = (used - l.to) * stake_width in
        let e : l.to * stake_width + d ≡ used * stake_width = omega (arith, h.span.most) in
        ap (λ (k : ℕ). drop k s) (sym e) ∙ sym (drop-drop d (l.to * stake_width) s) ∙ ap (drop d) m.ahead ∙ drop-drop d (l.to * stake_width) s₀ ∙ ap (λ (k : ℕ). drop k s₀) e
        ∙ blank-zeros s₀ (used * stake_width) h.held.table.blank

    pub ends_words : closed s (at * stake_width) (l.to * stake_width) (used * stake_width) ≡ table_words stake_words stake_width (room_of stake_width s₀) (after_loss s₀ l)
    ends_words =
        let gap = l.to * stake_width - at * stake_width in
        let blank = length s₀ - used * stake_width in
        let e : gap + blank ≡ room_of stake_width s₀ * stake_width - length (after_loss s₀ l) * stake_width = omega (arith, ends-count, h.held.table.even, h.held.table.fits, h.span.most, m.order) in
        ap₂ (λ (a b : List ℕ). take (at * stake_width) s ++ (a ++ (zeros gap ++ b))) moved tail
        ∙ sym (append_assoc (take (at * stake_width) s) (words_of_rows stake_words (todo s₀ used l l.to rest)) (zeros gap ++ zeros blank))
        ∙ ap₂ (λ (a b : List ℕ). a ++ b) m.words (replicate-append-replicate gap blank 0 ∙ ap zeros e)
