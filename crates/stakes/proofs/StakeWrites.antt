-- A staker's row on good tables: what is read of it, whether it has room, and the words after it is written.
use mathlib.Core.Path.{◌≡◌, refl, sym, ap, ap₂, ◌∙◌, subst⁻¹}
use mathlib.Core.Bool.{Bool, true, not, ◌&&◌}
use mathlib.Core.List.{List}
use Prim.Native.Nat.{ℕ, ◌^◌, ◌<◌}
use native.Mathlib.Omega.{arith}
use lib.Dec.{leb}
use lib.ListN.{length, set}
use mir.Syntax.{w64}
use mir.Val.{to_z}
use Rattle.whole.proofs.Words.{word_back}
use Rattle.rules.specs.Table.{key_of, has, put}
use Rattle.rules.specs.Books.{Books, StakeRow, stake_key, stake_gone, no_stake, put_stake, with_stakes}
use Rattle.rules.specs.declared.StakeCall.{StakeCall}
use Rattle.rules.specs.Stakes.{old_stake, no_stake_room}
use Rattle.rules.specs.inner.Facts.{StakeOk}
use Rattle.rules.proofs.Rooms.{has-gone}
use Rattle.books.specs.Layout.{stake_width}
use Rattle.books.specs.Tables.{room_of, used_of, table_of, table_words}
use Rattle.books.specs.Words.{Tables, tables, stake_row_at, stake_words, books_of, words_of, good_tables}
use Rattle.books.specs.inner.Held.{Fit, HeldStakes, CanPutStake}
use Rattle.books.proofs.Lists.{rows-length}
use Rattle.books.proofs.Good.{same_tables, good-formed, stakes-held}
use Rattle.books.proofs.Writing.{stakes-are, stake-room-is, write-stakes}
use Rattle.stakes.specs.inner.Changes.{Writable}

-- ---- room

module _ (t : Tables) (g : good_tables t ≡ true) where
  rows-count : length (books_of t).stakes ≡ used_of stake_width t.stakes
  rows-count = ap length (stakes-are t) ∙ rows-length stake_row_at t.stakes 0 (used_of stake_width t.stakes)

  -- the test of room as the code makes it
  pub room-is : (c : StakeCall) (row : StakeRow) (used : ℕ) → row ≡ old_stake (books_of t) c → used ≡ used_of stake_width t.stakes
      → (stake_gone row && leb (room_of stake_width t.stakes) used) ≡ no_stake_room (books_of t) c
  unfolding no_stake_room
  room-is c row used e u =
      let b = books_of t in
      let h : not (has stake_key (key_of c.pool c.staker.0) b.stakes) ≡ stake_gone (old_stake b c) = has-gone stake_key StakeOk stake_gone (no_stake c.pool c.staker) (key_of c.pool c.staker.0) refl (λ x ok. ok.kept) 0 b.stakes (good-formed t g).stake-rows in
      ap₂ (λ (x y : Bool). x && y) (ap (λ (r : StakeRow). stake_gone r) e ∙ sym h) (ap₂ leb (stake-room-is t) (u ∙ sym rows-count))

-- ---- written

module _ (s o b : List ℕ) (n : ℕ) (r : StakeRow) (h : Writable (tables s o b) n r) where
  abbrev k : Books
  k = books_of (tables s o b)

  rows_are : put stake_key stake_gone r (table_of stake_row_at stake_width s) ≡ put_stake k r
  rows_are = ap (put stake_key stake_gone r) (sym (stakes-are (tables s o b)))

  pub can-put : CanPutStake r s n
  can-put = record {
    held = subst⁻¹ (HeldStakes s) h.used-is (stakes-held (tables s o b) h.good);
    some = omega (arith, h.account-is);
    fine = h.fine;
    room = omega (arith, h.room, ap length rows_are, stake-room-is (tables s o b));
  }

  pub change_plan : Fit s → Fit b → (s' b' : List ℕ) (v : ℕ) → v < 2 ^ 64
      → s' ≡ table_words stake_words stake_width (room_of stake_width s) (put stake_key stake_gone r (table_of stake_row_at stake_width s)) → b' ≡ set b r.pool v
      → tables s' o b' ≡ words_of (with_stakes k (put_stake k r) r.pool (to_z w64 v))
  change_plan fs fb s' b' v small es eb =
      same_tables (es ∙ ap (table_words stake_words stake_width (room_of stake_width s)) rows_are) refl (eb ∙ ap (set b r.pool) (sym (word_back v small)))
      ∙ write-stakes s o b h.good fs fb (put_stake k r) r.pool (to_z w64 v) h.pool-is
