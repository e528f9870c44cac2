-- A kind of rows in lent words: found, put, written and read back. Stake rows and offer rows are its two instances.
use mathlib.Core.Path.{◌≡◌, ap, ◌∙◌, subst⁻¹}
use mathlib.Core.List.{List}
use Prim.Native.Nat.{ℕ, ◌+◌, ◌*◌, ◌≤◌, ◌<◌}
use native.Mathlib.Nat.{mul-le-mul_right}
use native.Mathlib.Omega.{arith}
use lib.ListN.{length, take, drop}
use Rattle.rows.specs.Lookup.{place_of}
use Rattle.rules.specs.inner.Facts.{Rows}
use Rattle.rules.proofs.Tables.{put-rows}
use Rattle.books.specs.Tables.{room_of, used_of, table_of, table_words}
use Rattle.books.specs.inner.Put.{put_words, put_count, place_for}
use Rattle.books.specs.inner.Kinds.{Kind}
use Rattle.books.specs.inner.KindLaws.{KindLaws}
use Rattle.books.specs.inner.Held.{Table, Held, row_for, with_row, CanPut, PutDone}
use Rattle.books.proofs.Lists.{find-place, row_or, put_count_lem, rows-length}
use Rattle.books.proofs.Flat.{put-words, table-words}
use Rattle.books.proofs.Back.{Written, written, rows_ok}

-- the room in rows is a room in words
pub room-words : (w : ℕ) (s : List ℕ) (n m : ℕ) → Table w s n → m ≤ room_of w s → m * w ≤ length s
room-words w s n m t h = omega (arith, mul-le-mul_right w h, t.even)

module _ (k : Kind) (w : ℕ) (laws : KindLaws k w) where
  -- each row of a table is in order
  pub row-ok : (s : List ℕ) (n : ℕ) → Held k w s n → (j : ℕ) → j < n → k.Ok (k.row_at s j)
  row-ok s n h j l = rows_ok k s 0 0 (used_of w s) h.rows j (omega arith) (omega (arith, h.table.used))

  module _ (s : List ℕ) (n : ℕ) (t : Table w s n) where
    -- what a search finds
    pub find-held : (d : k.Row) (key : ℕ) → row_for k w d key s ≡ row_or k.row_at s d (place_of s w n key)
    find-held d key = rw t.used (find-place k.row_at k.key s w (laws.key_read s) d key n t.sorted)

    -- the count of rows after a row is put
    pub count-held : (r : k.Row) → length (with_row k w r s) ≡ put_count n (k.gone r) (place_for s w n (k.words r))
    count-held r = rw (t.used, laws.key_words) (put_count_lem k.row_at k.key s w (laws.key_read s) k.gone r n t.sorted)

    module _ (same : (i : ℕ) → i * w + w ≤ length s → k.words (k.row_at s i) ≡ take w (drop (i * w) s)) where
      -- the words of a table are those of the rows that they hold
      pub words-held : table_words k.words w (room_of w s) (table_of k.row_at w s) ≡ s
      words-held = rw (t.used, t.even, rows-length k.row_at s 0 n) (table-words k.row_at k.words s w same n t.fits t.blank)

      -- the words after a row is put
      pub put-held : (r : k.Row) → length (with_row k w r s) ≤ room_of w s
          → put_words w s n (k.words r) (k.gone r) (place_for s w n (k.words r)) ≡ table_words k.words w (room_of w s) (with_row k w r s)
      put-held r room =
          let fits = room-words w s n _ t room in
          rw (laws.key_words, t.used, t.even)
          (put-words k.row_at k.words s w same n t.fits t.blank r (laws.length_is r) k.key k.gone (laws.key_read s) t.sorted (rw t.used at fits))

  -- rows in order are kept in order where a row is put (`put-rows` of the rules), so the words after it are a table that reads as them
  pub put-done : (s : List ℕ) (n : ℕ) (r : k.Row) (t : List ℕ) (q : ℕ) → CanPut k w r s n
      → t ≡ table_words k.words w (room_of w s) (with_row k w r s) → q ≡ length (with_row k w r s) → PutDone k w r s t q
  put-done s n r t q p e f =
      let new = with_row k w r s in
      let rows : Rows k.key k.Ok 0 new = put-rows k.key k.gone k.Ok 0 r _ p.held.rows p.some p.fine in
      let wr : Written k w laws (room_of w s) new = written k w laws (room_of w s) new rows p.room in
      let reads = subst⁻¹ (λ (l : List ℕ). table_of k.row_at w l ≡ new) e wr.reads in
      record {
        rows = reads;
        held = record {
          table = subst⁻¹ (λ (m : ℕ). Table w t m) f (subst⁻¹ (λ (l : List ℕ). Table w l (length new)) e wr.table);
          rows = subst⁻¹ (Rows k.key k.Ok 0) reads rows;
        };
        words = e;
        rooms = ap (room_of w) e ∙ wr.rooms;
      }
