-- How far a replay has come: some records ran, and what is left to run from here is what is left of the whole.
use mathlib.Core.Path.{◌≡◌, refl, sym, ap, ◌∙◌}
use mathlib.Core.Bool.{true}
use mathlib.Core.List.{List, [], ◌∷◌, ◌++◌, append-nil}
use mathlib.Core.Logic.{◌⊎◌, inl, inr}
use Prim.Native.Nat.{ℕ, suc, ◌+◌, ◌-◌, ◌*◌, ◌/◌, ◌≤◌, ◌<◌}
use native.Mathlib.Omega.{arith}
use lib.ListN.{length, take, length-append}
use lib.Seq.{take-append_seam, append_snoc}
use borrow.Author.Tests.{lt-ltb, le-ltb}
use Rattle.rules.specs.declared.Call.{Call}
use Rattle.rules.specs.Answers.{Answer}
use Rattle.books.specs.Words.{Tables, Result, good_tables, result_of, step_words}
use Rattle.books.specs.Runs.{run_words}
use Rattle.books.proofs.Carried.{step-carried}
use Rattle.log_file.specs.Records.{record_bytes, record_of}
use Rattle.log_file.specs.Lines.{answer_text, longest}
use Rattle.log_file.specs.Written.{written}
use Rattle.log_file.proofs.Writing.{written-more}
use Rattle.history.specs.Replays.{calls_from, calls_of, text_of, texts_of, fitting, part_run, replayed}
use Rattle.history.specs.Bounds.{Bounded}
use Rattle.history.proofs.Parts.{words-parts, texts-parts}

-- ---- how many calls fit, by the room

none-fits : (room : ℕ) (t : Tables) (number : ℕ) (calls : List Call) → room < longest → fitting room t number calls ≡ 0
unfolding fitting
none-fits room t number [] e = refl
none-fits room t number (c ∷ calls) e = rw (lt-ltb room longest e)

one-fits : (room : ℕ) (t : Tables) (number : ℕ) (c : Call) (calls : List Call) → longest ≤ room
    → fitting room t number (c ∷ calls) ≡ suc (fitting (room - length (text_of t number c)) (step_words t c).tables (number + 1) calls)
unfolding fitting
one-fits room t number c calls e = rw (le-ltb room longest e)

-- ----

module _ (t₀ : Tables) (records text₀ : List ℕ) (number₀ : ℕ) where
  -- `ran` ran, and `left` whole records are left
  pub record Reached (t : Tables) (text : List ℕ) (number taken at : ℕ) : Type 0 where
    pub ran : List Call
    pub left : ℕ
    pub split : calls_of records ≡ ran ++ calls_from left records taken
    pub fits : fitting (length text₀) t₀ number₀ (calls_of records) ≡ length ran + fitting (length text₀ - at) t number (calls_from left records taken)
    pub words : t ≡ run_words t₀ ran
    pub wrote : text ≡ written text₀ 0 (texts_of t₀ number₀ ran)
    pub end : at ≡ length (texts_of t₀ number₀ ran)
    pub numbered : number ≡ number₀ + length ran
    pub placed : taken ≡ record_bytes * length ran
    pub least : taken + record_bytes * left ≤ length records
    pub most : length records < taken + record_bytes * left + record_bytes
    pub room : at ≤ length text₀
    pub good : good_tables t ≡ true

  pub reached-start : good_tables t₀ ≡ true → Reached t₀ text₀ number₀ 0 0
  unfolding calls_of run_words texts_of
  reached-start g =
      let none : length text₀ - 0 ≡ length text₀ = omega arith in
      record {
        ran = [];
        left = length records / record_bytes;
        split = refl;
        fits = rw none (omega arith);
        words = refl;
        wrote = refl;
        end = refl;
        numbered = omega arith;
        placed = refl;
        least = omega arith;
        most = omega arith;
        room = omega arith;
        good = g;
      }

  module _ (t : Tables) (text : List ℕ) (number taken at : ℕ) (h : Reached t text number taken at) where
    -- nothing more runs from here: this is what the part comes to
    stopped : fitting (length text₀ - at) t number (calls_from h.left records taken) ≡ 0
        → part_run (record { number = number; taken = taken; printed = at }) t text ≡ replayed t₀ records text₀ number₀
    unfolding replayed
    stopped none =
        let n : fitting (length text₀) t₀ number₀ (calls_of records) ≡ length h.ran = rw none at h.fits ∙ (omega arith) in
        let front : take (length h.ran) (calls_of records) ≡ h.ran =
        ap (take (length h.ran)) h.split ∙ take-append_seam h.ran (calls_from h.left records taken) in
        rw (n, front, h.words, h.numbered, h.placed, h.wrote, h.end)

    -- no whole record is left
    stopped-short : length records - taken < record_bytes → part_run (record { number = number; taken = taken; printed = at }) t text ≡ replayed t₀ records text₀ number₀
    unfolding calls_from fitting
    stopped-short e =
        let z : h.left ≡ 0 = omega arith in
        stopped (ap (λ (k : ℕ). fitting (length text₀ - at) t number (calls_from k records taken)) z)

    -- no room is left
    stopped-full : length text₀ - at < longest → part_run (record { number = number; taken = taken; printed = at }) t text ≡ replayed t₀ records text₀ number₀
    stopped-full e = stopped (none-fits (length text₀ - at) t number (calls_from h.left records taken) e)

    -- what a caller goes on with, stopped for either reason
    bounded : (length records - taken < record_bytes) ⊎ (length text₀ - at < longest) → Bounded t records text₀ number₀ (record { number = number; taken = taken; printed = at })
    unfolding texts_of
    bounded why =
        record {
          good = h.good;
          taken = omega (arith, h.least);
          printed = h.room;
          counted = omega (arith, h.numbered, h.placed);
          some = λ whole room. some whole room h.ran refl why;
        }
      where
        some : record_bytes ≤ length records → longest ≤ length text₀ → (ran : List Call) → h.ran ≡ ran → (length records - taken < record_bytes) ⊎ (length text₀ - at < longest) → number₀ < number
        some whole room [] e (inl short) = omega (arith, h.placed, ap length e)
        some whole room [] e (inr full) = omega (arith, rw e at h.end)
        some whole room (c ∷ ran) e why = omega (arith, h.numbered, ap length e)

    -- so the contract holds there
    pub stops-here : (length records - taken < record_bytes) ⊎ (length text₀ - at < longest)
        → (part_run (record { number = number; taken = taken; printed = at }) t text ≡ replayed t₀ records text₀ number₀) × Bounded t records text₀ number₀ (record { number = number; taken = taken; printed = at })
    stops-here (inl short) = (stopped-short short, bounded (inl short))
    stops-here (inr full) = (stopped-full full, bounded (inr full))

    -- a record runs
    pub reached-next : taken + record_bytes ≤ length records → at + longest ≤ length text₀
        → (a : Answer) (t₁ : Tables) (text₁ : List ℕ) (next : ℕ) → result_of a t₁ ≡ step_words t (record_of records taken) → text₁ ≡ written text at (answer_text (number + 1) a) → next ≡ at + length (answer_text (number + 1) a) → next ≤ at + longest
        → Reached t₁ text₁ (number + 1) (taken + record_bytes) next
    unfolding calls_from run_words texts_of
    reached-next whole room a t₁ text₁ next e w place short =
        let c = record_of records taken in
        let k : ℕ = h.left - 1 in
        let rest = calls_from k records (taken + record_bytes) in
        let more : h.left ≡ suc k = omega arith in
        let front : calls_from h.left records taken ≡ c ∷ rest = ap (λ (n : ℕ). calls_from n records taken) more in
        let answer : a ≡ (step_words t c).answer = ap (λ (r : Result). r.answer) e in
        let after : t₁ ≡ (step_words t c).tables = ap (λ (r : Result). r.tables) e in
        let line : text₁ ≡ written text at (text_of t number c) = rw answer at w in
        let behind : at ≡ 0 + length (texts_of t₀ number₀ h.ran) = omega (arith, h.end) in
        let line-end : next ≡ at + length (text_of t number c) = rw answer at place in
        let count : length (h.ran ++ (c ∷ [])) ≡ length h.ran + 1 = simp length-append in
        let smaller : length text₀ - at - length (text_of t number c) ≡ length text₀ - next = omega (arith, line-end) in
        let text-end : texts_of t₀ number₀ (h.ran ++ (c ∷ [])) ≡ texts_of t₀ number₀ h.ran ++ text_of t number c =
        texts-parts t₀ number₀ h.ran (c ∷ []) ∙ rw (← h.words, ← h.numbered, append-nil) in
        record {
          ran = h.ran ++ (c ∷ []);
          left = k;
          split = h.split ∙ ap (λ (calls : List Call). h.ran ++ calls) front ∙ sym (append_snoc h.ran c rest);
          fits = h.fits ∙ rw (front, one-fits (length text₀ - at) t number c rest (omega arith), smaller, after, count) (omega arith);
          words = after ∙ rw (words-parts t₀ h.ran (c ∷ []), ← h.words);
          wrote = line ∙ rw (h.wrote, behind, text-end) (written-more text₀ (texts_of t₀ number₀ h.ran) (text_of t number c) 0 (omega arith));
          end = rw text-end (omega (arith, line-end, h.end, length-append (texts_of t₀ number₀ h.ran) (text_of t number c)));
          numbered = omega (arith, count, h.numbered);
          placed = omega (arith, count, h.placed);
          least = omega (arith, h.least);
          most = omega (arith, h.most);
          room = omega arith;
          good = rw after (step-carried t h.good c).good;
        }
