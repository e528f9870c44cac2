-- The log that a run has come through: each turn goes on from the last.
use mathlib.Core.Path.{◌≡◌, refl, sym, ap, ap₂, ◌∙◌}
use mathlib.Core.Bool.{Bool, true, false, cond, false≢true}
use Rattle.std.specs.Prelude.{Option, Some, None, Result, Ok, Err, IsErr}
use Rattle.std.proofs.lemmas.Option.{none-some}
use mathlib.Core.List.{List, [], ◌++◌, append-nil}
use mathlib.Core.Logic.{◌⊎◌, inl, inr}
use Prim.Native.Nat.{ℕ, ◌+◌, ◌*◌, ◌/◌, ◌%◌, ◌≤◌, ◌<◌}
use native.Mathlib.Omega.{arith}
use borrow.Author.Tests.{ltb-true}
use lib.Dec.{ltb}
use lib.ListN.{length, take, drop, length-append}
use lib.Seq.{length-take-le, take-append_seam}
use Rattle.books.specs.Words.{Tables}
use Rattle.books.specs.Runs.{run_words}
use Rattle.log_file.specs.Records.{record_bytes}
use Rattle.log_file.specs.Lines.{ending_text}
use Rattle.history.specs.Replays.{calls_from, calls_of, fitting, replayed}
use Rattle.history.specs.Turns.{Turned, last_turn, part_turn, turn_of}
use Rattle.history.proofs.Parts.{words-parts}
use Rattle.history.proofs.Bytes.{calls-parts, calls-front, records-within}
use Rattle.history.proofs.Stops.{fits-within}
use Rattle.history.specs.declared.turns.Position.{Position}
use Rattle.replay.specs.Turns.{Took, Finished}

-- whole records ran, from the tables t₀ on
pub record Gone (t₀ : Tables) (number : ℕ) (t : Tables) : Type 0 where
  pub log : List ℕ
  pub counted : length log ≡ record_bytes * number
  pub words : t ≡ run_words t₀ (calls_of log)

pub gone-none : (t : Tables) → Gone t 0 t
unfolding calls_of calls_from run_words
gone-none t = record { log = []; counted = refl; words = refl }

place_or : Position → Option Position → Position
place_or q (Some p) = p
place_or q None = q

pub same-place : {p q : Position} → Some p ≡ Some q → p ≡ q
unfolding place_or
same-place {p} e = ap (place_or p) e

-- a run that failed there
pub gone-failed : {E : Type 0} (t₀ : Tables) (number : ℕ) (t : Tables) (text : List ℕ) (e : E) → Gone t₀ number t → Finished t₀ t text (Err e)
gone-failed t₀ number t text e h = record { log = h.log; words = h.words; ending = tt }

module _ (t₀ : Tables) (number : ℕ) (t : Tables) (h : Gone t₀ number t) where
  -- a part behind them
  gone-more : (part room : List ℕ) → let o = replayed t part room number in Gone t₀ o.progress.number o.tables
  unfolding replayed
  gone-more part room =
      let n : ℕ = fitting (length room) t number (calls_of part) in
      let within : n ≤ length (calls_of part) = fits-within (length room) t number (calls_of part) in
      let front = take (record_bytes * n) part in
      let size : length front ≡ record_bytes * n = length-take-le (record_bytes * n) part (records-within part n within) in
      record {
        log = h.log ++ front;
        counted = length-append h.log front ∙ (omega (arith, size, h.counted));
        words =
            ap₂ run_words h.words (calls-front part n within)
            ∙ sym (words-parts t₀ (calls_of h.log) (calls_of front))
            ∙ ap (run_words t₀) (sym (calls-parts h.log front number h.counted));
      }

  module _ (bytes : List ℕ) (there : ℕ) (within : there ≤ length bytes) (room : List ℕ) where
    -- bytes that are no whole record are left over
    finished-last : {E : Type 0} → there < record_bytes → Finished {E = E} t₀ t (last_turn t bytes there room number).text (Ok tt)
    unfolding calls_of calls_from
    finished-last short =
        let over = take there bytes in
        let size : length over ≡ there = length-take-le there bytes within in
        let none : length over / record_bytes ≡ 0 = omega (arith, size) in
        let all : length (h.log ++ over) ≡ record_bytes * number + there = length-append h.log over ∙ (omega (arith, size, h.counted)) in
        let records : length (h.log ++ over) / record_bytes ≡ number = omega (arith, all) in
        let left : length (h.log ++ over) % record_bytes ≡ there = omega (arith, all) in
        let last = ending_text number there in
        record {
          log = h.log ++ over;
          words =
              h.words
              ∙ ap (run_words t₀) (sym (append-nil (calls_of h.log)) ∙ ap (λ (k : ℕ). calls_of h.log ++ calls_from k over 0) (sym none) ∙ sym (calls-parts h.log over number h.counted));
          ending = rw (records, left) (take-append_seam last (drop (0 + length last) room));
        }

    -- a turn that is the last, and one that is not
    turn-finished : {E : Type 0} (r : Turned) → r ≡ turn_of t bytes there room number → r.turn.next ≡ None → Finished {E = E} t₀ r.tables r.text (Ok tt)
    unfolding turn_of
    turn-finished {E = E} r e stop = go (ltb there record_bytes) refl e
      where
        go : (b : Bool) → ltb there record_bytes ≡ b → r ≡ cond b (last_turn t bytes there room number) (part_turn t bytes there room number) → Finished {E = E} t₀ r.tables r.text (Ok tt)
        go true short e = rw e (finished-last (ltb-true there record_bytes short))
        go false short e = absurd (none-some _ (sym stop ∙ ap (λ (x : Turned). x.turn.next) e))

    turn-gone : (r : Turned) (p : Position) → r ≡ turn_of t bytes there room number → r.turn.next ≡ Some p → Gone t₀ p.number r.tables
    unfolding turn_of
    turn-gone r p e on = go (ltb there record_bytes) e
      where
        go : (b : Bool) → r ≡ cond b (last_turn t bytes there room number) (part_turn t bytes there room number) → Gone t₀ p.number r.tables
        go true e = absurd (none-some p (sym (ap (λ (x : Turned). x.turn.next) e) ∙ on))
        go false e = rw (same-place (sym on ∙ ap (λ (x : Turned). x.turn.next) e), e) (gone-more (take there bytes) room)

-- ---- the program's turns

module _ (t₀ t : Tables) (bytes text : List ℕ) (number there : ℕ) (t₁ : Tables) (bytes₁ text₁ : List ℕ) (h : Gone t₀ number t) where
  pub took-gone : (p : Position) → Took t bytes text number there t₁ bytes₁ text₁ (Some p) → Gone t₀ p.number t₁
  took-gone p k = turn-gone t₀ number t h k.came k.count k.grown.most text _ p k.is k.goes

  pub took-finished : {E : Type 0} → Took t bytes text number there t₁ bytes₁ text₁ None → Finished {E = E} t₀ t₁ text₁ (Ok tt)
  took-finished k = turn-finished t₀ number t h k.came k.count k.grown.most text _ k.is k.goes

  pub failed-finished : {E : Type 0} → (t₁ ≡ t) ⊎ ((next : Option Position) × Took t bytes text number there t₁ bytes₁ text₁ next) → (r : Result Unit E) → IsErr r → Finished t₀ t₁ text₁ r
  failed-finished why (Ok x) f = absurd (false≢true f)
  failed-finished (inl same) (Err x) f = rw same (gone-failed t₀ number t text₁ x h)
  failed-finished (inr (Some p, k)) (Err x) f = gone-failed t₀ p.number t₁ text₁ x (took-gone p k)
  failed-finished {E = E} (inr (None, k)) (Err x) f = let g : Finished {E = E} t₀ t₁ text₁ (Ok tt) = took-finished k in record { log = g.log; words = g.words; ending = tt }
