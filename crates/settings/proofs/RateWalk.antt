-- The walk that writes the rows as they are banked. Throughout, s₀ are the words at its begin.
use mathlib.Core.Path.{◌≡◌, refl, sym, ap, ap₂, ◌∙◌, subst}
use mathlib.Core.List.{List, [], ◌++◌, map, append_assoc, append-nil}
use Prim.Native.Nat.{ℕ, zero, suc, ◌+◌, ◌-◌, ◌*◌, ◌≤◌, ◌<◌}
use native.Mathlib.Omega.{arith}
use lib.ListN.{length, get_or, take, drop, length-append, length-map}
use lib.Seq.{length-take-le, take_at, drop-drop, drop_at, get_or-drop}
use Rattle.std.proofs.lemmas.List.{take-append-drop}
use Rattle.rows.specs.Rows.{word, zeros}
use Rattle.rows.specs.inner.Moves.{row_written}
use Rattle.rows.proofs.Table.{written-length}
use Rattle.rules.specs.Books.{StakeRow}
use Rattle.books.specs.Layout.{stake_width, pool_word, number_word, stake_word, since_word, accrual_word}
use Rattle.books.specs.Tables.{room_of, used_of, rows_from, words_of_rows, table_words}
use Rattle.books.specs.Words.{stake_row_at, stake_words}
use Rattle.books.specs.inner.Held.{Fit, HeldStakes}
use Rattle.books.proofs.Lists.{rows-length, rows_next, rows-done}
use Rattle.books.proofs.Flat.{blank-zeros}
use Rattle.books.proofs.StakeRows.{rewritten}
use Rattle.settings.specs.inner.Banking.{banked_by, banked_rows}

-- the rows of s₀ from row i on, as they are banked
abbrev banked_from : List ℕ → ℕ → List ℕ → ℕ → ℕ → List StakeRow
banked_from b time s₀ n i = map (banked_by b time) (rows_from stake_row_at s₀ i (n - i))

-- the rows before row i are written, and those from there on as they were
pub record Banking (b : List ℕ) (time : ℕ) (s₀ : List ℕ) (n : ℕ) (s : List ℕ) (i : ℕ) : Type 0 where
  pub most : i ≤ n
  pub same : length s ≡ length s₀
  pub ahead : drop (i * stake_width) s ≡ drop (i * stake_width) s₀
  pub done : take (i * stake_width) s ++ words_of_rows stake_words (banked_from b time s₀ n i) ≡ words_of_rows stake_words (banked_from b time s₀ n 0)

module _ {b : List ℕ} {time : ℕ} {s₀ : List ℕ} {n : ℕ} (held : HeldStakes s₀ n) where
  module _ {s : List ℕ} {i : ℕ} (m : Banking b time s₀ n s i) where
    -- a row that is still to be read is as it was
    same_word : (k : ℕ) → word s stake_width i k ≡ word s₀ stake_width i k
    same_word k = sym (get_or-drop (i * stake_width) s k 0) ∙ ap (λ (x : List ℕ). get_or x k 0) m.ahead ∙ get_or-drop (i * stake_width) s₀ k 0

    pub same_row : stake_row_at s i ≡ stake_row_at s₀ i
    same_row = rw (same_word pool_word, same_word number_word, same_word stake_word, same_word since_word, same_word accrual_word)

    -- a row more
    pub turn : {s' : List ℕ} → i < n → s' ≡ row_written s stake_width i (stake_words (banked_by b time (stake_row_at s i))) → Banking b time s₀ n s' (i + 1)
    unfolding words_of_rows
    turn {s'} more e =
        let row : List ℕ = stake_words (banked_by b time (stake_row_at s₀ i)) in
        let front : List ℕ = take (i * stake_width) s in
        let f : s' ≡ row_written s stake_width i row = e ∙ ap (λ (r : StakeRow). row_written s stake_width i (stake_words (banked_by b time r))) same_row in
        let spread : s' ≡ (front ++ row) ++ drop (i * stake_width + stake_width) s = f ∙ sym (append_assoc front row (drop (i * stake_width + stake_width) s)) in
        let room : i * stake_width + stake_width ≤ length s = omega (arith, m.same, held.table.fits) in
        let wide : length (front ++ row) ≡ (i + 1) * stake_width = omega (arith, length-append front row, length-take-le (i * stake_width) s (omega arith)) in
        let next : i * stake_width + stake_width ≡ (i + 1) * stake_width = omega arith in
        record {
          most = omega arith;
          same = ap length f ∙ written-length s stake_width i row room refl ∙ m.same;
          ahead =
              ap (drop ((i + 1) * stake_width)) spread
              ∙ drop_at (front ++ row) (drop (i * stake_width + stake_width) s) ((i + 1) * stake_width) wide
              ∙ sym (drop-drop stake_width (i * stake_width) s) ∙ ap (drop stake_width) m.ahead ∙ drop-drop stake_width (i * stake_width) s₀ ∙ ap (λ (k : ℕ). drop k s₀) next;
          done =
              ap (λ (x : List ℕ). x ++ words_of_rows stake_words (banked_from b time s₀ n (i + 1)))
              (ap (take ((i + 1) * stake_width)) spread ∙ take_at (front ++ row) (drop (i * stake_width + stake_width) s) ((i + 1) * stake_width) wide)
              ∙ append_assoc front row (words_of_rows stake_words (banked_from b time s₀ n (i + 1)))
              ∙ sym (ap (λ (l : List StakeRow). front ++ words_of_rows stake_words (map (banked_by b time) l)) (rows_next stake_row_at s₀ i n more))
              ∙ m.done;
        }

  -- the rows before row `from` stay as they are
  pub begins : Fit s₀ → (from : ℕ) → from ≤ n → ((j : ℕ) → j < from → banked_by b time (stake_row_at s₀ j) ≡ stake_row_at s₀ j) → Banking b time s₀ n s₀ from
  begins fit zero most h = record { most = most; same = refl; ahead = refl; done = refl }
  begins fit (suc i) most h =
      let e : i + 1 ≡ suc i = omega arith in
      let own = ap (λ (r : StakeRow). row_written s₀ stake_width i (stake_words r)) (h i (omega arith)) ∙ rewritten s₀ fit i (omega (arith, held.table.fits)) in
      subst (Banking b time s₀ n s₀) e (turn (begins fit i (omega arith) (λ j l. h j (omega arith))) (omega arith) (sym own))

  -- all rows are written
  pub ends : {s : List ℕ} → Banking b time s₀ n s n → s ≡ table_words stake_words stake_width (room_of stake_width s₀) (banked_rows s₀ b time)
  unfolding words_of_rows
  ends {s} m =
      let t = held.table in
      let e : n - 0 ≡ used_of stake_width s₀ = omega (arith, t.used) in
      let all : banked_from b time s₀ n 0 ≡ banked_rows s₀ b time = ap (λ (k : ℕ). map (banked_by b time) (rows_from stake_row_at s₀ 0 k)) e in
      let none : words_of_rows stake_words (banked_from b time s₀ n n) ≡ [] = ap (λ (l : List StakeRow). words_of_rows stake_words (map (banked_by b time) l)) (rows-done stake_row_at s₀ n n (omega arith)) in
      let front : take (n * stake_width) s ≡ words_of_rows stake_words (banked_rows s₀ b time) = sym (append-nil (take (n * stake_width) s)) ∙ ap (λ (x : List ℕ). take (n * stake_width) s ++ x) (sym none) ∙ m.done ∙ ap (words_of_rows stake_words) all in
      let many : length (banked_rows s₀ b time) ≡ used_of stake_width s₀ = length-map (rows_from stake_row_at s₀ 0 (used_of stake_width s₀)) (banked_by b time) ∙ rows-length stake_row_at s₀ 0 (used_of stake_width s₀) in
      let z : length s₀ - n * stake_width ≡ room_of stake_width s₀ * stake_width - length (banked_rows s₀ b time) * stake_width = omega (arith, t.even, t.used, many) in
      sym (take-append-drop (n * stake_width) s) ∙ ap₂ (λ (a x : List ℕ). a ++ x) front (m.ahead ∙ blank-zeros s₀ (n * stake_width) t.blank ∙ ap zeros z)
