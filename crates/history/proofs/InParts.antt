-- A log that comes in parts is run as the whole is: the text of a part, and behind it what the rest prints from the tables that the part left, is
-- what the whole prints; and the tables after the rest are those after the whole.
use mathlib.Core.Path.{◌≡◌, sym, ap, ◌∙◌}
use mathlib.Core.List.{List, ◌++◌, append_assoc}
use Prim.Native.Nat.{ℕ, ◌+◌, ◌*◌, ◌≤◌}
use lib.ListN.{length, take, drop, take-append-drop}
use lib.Seq.{length-take-le, take-append_seam}
use Rattle.rules.specs.declared.Call.{Call}
use Rattle.books.specs.Words.{Tables}
use Rattle.books.specs.Runs.{run_words}
use Rattle.log_file.specs.Records.{record_bytes}
use Rattle.history.specs.Replays.{calls_of, texts_of, fitting, PartRun, replayed}
use Rattle.history.proofs.Parts.{words-parts, texts-parts}
use Rattle.history.proofs.Bytes.{calls-parts, calls-front, records-within}
use Rattle.history.proofs.Stops.{fits-within}

-- what a part leaves of a log of which more comes behind it
abbrev pub left : List ℕ → List ℕ → PartRun → List ℕ
left part behind o = drop o.progress.taken part ++ behind

pub record InParts (t : Tables) (part behind : List ℕ) (number : ℕ) (o : PartRun) : Type 0 where
  pub words : run_words t (calls_of (part ++ behind)) ≡ run_words o.tables (calls_of (left part behind o))
  pub text : texts_of t number (calls_of (part ++ behind)) ≡ take o.progress.printed o.text ++ texts_of o.tables o.progress.number (calls_of (left part behind o))

-- the whole log's calls, where n records of the part ran
records : (part behind : List ℕ) (n : ℕ) → n ≤ length (calls_of part) → calls_of (part ++ behind) ≡ take n (calls_of part) ++ calls_of (drop (record_bytes * n) part ++ behind)
records part behind n within =
    let front = take (record_bytes * n) part in
    let rest = drop (record_bytes * n) part in
    let size : length front ≡ record_bytes * n = length-take-le (record_bytes * n) part (records-within part n within) in
    ap (λ (s : List ℕ). calls_of (s ++ behind)) (sym (take-append-drop (record_bytes * n) part))
    ∙ ap calls_of (append_assoc front rest behind)
    ∙ calls-parts front (rest ++ behind) n size
    ∙ ap (λ (calls : List Call). calls ++ calls_of (rest ++ behind)) (sym (calls-front part n within))

pub in_parts : (t : Tables) (part behind room : List ℕ) (number : ℕ) → InParts t part behind number (replayed t part room number)
unfolding replayed
in_parts t part behind room number =
    let n : ℕ = fitting (length room) t number (calls_of part) in
    let within : n ≤ length (calls_of part) = fits-within (length room) t number (calls_of part) in
    let ran = take n (calls_of part) in
    let later = calls_of (drop (record_bytes * n) part ++ behind) in
    let text = texts_of t number ran in
    let whole = records part behind n within in
    let count : length ran ≡ n = length-take-le n (calls_of part) within in
    record {
      words = ap (run_words t) whole ∙ words-parts t ran later;
      text =
          ap (texts_of t number) whole
          ∙ texts-parts t number ran later
          ∙ rw (count, take-append_seam text (drop (0 + length text) room));
    }
