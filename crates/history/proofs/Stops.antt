-- Where a replay stops: no whole record is left, or no room for the longest text.
use mathlib.Core.Path.{◌≡◌, refl, ap}
use mathlib.Core.Bool.{Bool, true, false, cond}
use mathlib.Core.List.{List, [], ◌∷◌}
use mathlib.Core.Logic.{◌⊎◌, inl, inr}
use Prim.Native.Nat.{ℕ, suc, ◌+◌, ◌-◌, ◌*◌, ◌/◌, ◌≤◌, ◌<◌}
use native.Mathlib.Omega.{arith}
use borrow.Author.Tests.{ltb-true}
use lib.Dec.{ltb}
use lib.ListN.{length, take, length-append}
use Rattle.rules.specs.declared.Call.{Call}
use Rattle.books.specs.Words.{Tables, step_words}
use Rattle.log_file.specs.Records.{record_bytes}
use Rattle.log_file.specs.Lines.{longest}
use Rattle.history.specs.Replays.{calls_of, text_of, texts_of, fitting, replayed}
use Rattle.history.proofs.Bytes.{calls_count}

-- of n calls that are run in a room, all there are, or the room behind their texts is short
abbrev Most : ℕ → Tables → ℕ → List Call → ℕ → Type 0
Most room t number calls n = (n ≡ length calls) ⊎ (room - length (texts_of t number (take n calls)) < longest)

module _ (room : ℕ) (t : Tables) (number : ℕ) (c : Call) (calls : List Call) where
  most-more : (n : ℕ) → Most (room - length (text_of t number c)) (step_words t c).tables (number + 1) calls n → Most room t number (c ∷ calls) (suc n)
  unfolding texts_of
  most-more n (inl e) = inl (ap suc e)
  most-more n (inr e) = inr (omega (arith, length-append (text_of t number c) (texts_of (step_words t c).tables (number + 1) (take n calls))))

  most-test : (full : Bool) → ltb room longest ≡ full → (n : ℕ) → Most (room - length (text_of t number c)) (step_words t c).tables (number + 1) calls n → Most room t number (c ∷ calls) (cond full 0 (suc n))
  unfolding texts_of
  most-test true e n h = let low = ltb-true room longest e in inr (omega arith)
  most-test false e n h = most-more n h

most : (room : ℕ) (t : Tables) (number : ℕ) (calls : List Call) → Most room t number calls (fitting room t number calls)
unfolding fitting
most room t number [] = inl refl
most room t number (c ∷ calls) =
    most-test room t number c calls (ltb room longest) refl (fitting (room - length (text_of t number c)) (step_words t c).tables (number + 1) calls)
    (most (room - length (text_of t number c)) (step_words t c).tables (number + 1) calls)

-- no more run than there are
fits-test : (full : Bool) (n most : ℕ) → n ≤ most → cond full 0 (suc n) ≤ suc most
fits-test true n most h = omega arith
fits-test false n most h = omega arith

pub fits-within : (room : ℕ) (t : Tables) (number : ℕ) (calls : List Call) → fitting room t number calls ≤ length calls
unfolding fitting
fits-within room t number [] = omega arith
fits-within room t number (c ∷ calls) =
    fits-test (ltb room longest) (fitting (room - length (text_of t number c)) (step_words t c).tables (number + 1) calls) (length calls)
    (fits-within (room - length (text_of t number c)) (step_words t c).tables (number + 1) calls)

-- fewer bytes than a record's are left of the log, or fewer than the longest text's of the room
pub replay-stops : (t : Tables) (records room : List ℕ) (number : ℕ)
    → (length records - (replayed t records room number).progress.taken < record_bytes) ⊎ (length room - (replayed t records room number).progress.printed < longest)
unfolding replayed calls_of
replay-stops t records room number = stops (fitting (length room) t number (calls_of records)) (most (length room) t number (calls_of records))
  where
    stops : (n : ℕ) → Most (length room) t number (calls_of records) n → (length records - record_bytes * n < record_bytes) ⊎ (length room - length (texts_of t number (take n (calls_of records))) < longest)
    stops n (inl e) = inl (omega (arith, calls_count (length records / record_bytes) records 0))
    stops n (inr e) = inr e
