-- What a turn's contract rests on, case by case.
use mathlib.Core.Path.{◌≡◌, refl, sym}
use Rattle.std.specs.Prelude.{Some, None}
use mathlib.Core.List.{List}
use Prim.Native.Nat.{ℕ, ◌-◌, ◌≤◌, ◌<◌}
use borrow.Author.Tests.{eq-eqb, ne_eqb, lt-ltb, le-ltb}
use lib.ListN.{length, take}
use Rattle.books.specs.Words.{Tables}
use Rattle.books.specs.Fresh.{renewed}
use Rattle.log_file.specs.Records.{record_bytes}
use Rattle.log_file.specs.Lines.{opening_text, bad_head_text, ending_text}
use Rattle.log_file.specs.Written.{written}
use Rattle.history.specs.declared.Progress.{Progress}
use Rattle.history.specs.Beginning.{opened}
use Rattle.history.specs.Replays.{part_run, replayed}
use Rattle.history.specs.Buffers.{at_front}
use Rattle.history.specs.Turns.{beginning, started, start_of, turned, turn_of}

-- ---- at the head

module _ (t : Tables) (head room : List ℕ) (code : ℕ) (u : Tables) (e : renewed code u ≡ opened t head) (text : List ℕ) (end : ℕ) where
  pub start-bad : (code ≡ 0 → ⊥) → text ≡ written room 0 bad_head_text → end ≡ length bad_head_text → started (record { place = beginning; printed = end; next = None }) u text ≡ start_of t head room
  unfolding start_of
  start-bad n w place = rw (sym e, ne_eqb code 0 n, w, place) refl

  pub start-good : code ≡ 0 → text ≡ written room 0 opening_text → end ≡ length opening_text → started (record { place = beginning; printed = end; next = Some beginning }) u text ≡ start_of t head room
  unfolding start_of
  start-good z w place = rw (sym e, eq-eqb code 0 z, w, place) refl

-- ---- at a part

module _ (t : Tables) (bytes : List ℕ) (there : ℕ) (room : List ℕ) (number : ℕ) where
  module _ (short : there < record_bytes) (text : List ℕ) (end : ℕ) (w : text ≡ written room 0 (ending_text number there)) (place : end ≡ length (ending_text number there)) where
    pub turn_last : turned (record { place = record { number = number; there = there }; printed = end; next = None }) t bytes text ≡ turn_of t bytes there room number
    unfolding turn_of
    turn_last = rw (lt-ltb there record_bytes short, w, place) refl

  module _ (whole : record_bytes ≤ there) (p : Progress) (u : Tables) where
    pub turn-part : (text after : List ℕ) → part_run p u text ≡ replayed t (take there bytes) room number → after ≡ at_front bytes p.taken (there - p.taken)
        → turned (record { place = record { number = p.number; there = there - p.taken }; printed = p.printed; next = Some (record { number = p.number; there = there - p.taken }) }) u after text ≡ turn_of t bytes there room number
    unfolding turn_of
    turn-part text after e moved = rw (le-ltb there record_bytes whole, sym e, moved) refl
