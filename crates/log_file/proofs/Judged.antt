-- A record is Malformed exactly where one of document 01's tests of code 1 fails: the case that is read keeps the fields in use, and the
-- others, which it has no more, were tested before.
use mathlib.Core.Path.{◌≡◌, refl, sym, ap, ◌∙◌}
use mathlib.Core.Bool.{Bool, true, false, not, cond, ◌&&◌, and-true, and-false}
use mathlib.Core.List.{List, [], ◌∷◌, map}
use Prim.Native.Nat.{ℕ}
use lib.Dec.{leb, eqb}
use lib.IntN.{pos}
use lib.ListN.{get_or}
use Rattle.rules.specs.Limits.{last_time, is_number}
use Rattle.rules.specs.Table.{each, all}
use Rattle.rules.specs.Books.{is_zero}
use Rattle.rules.specs.Operations.{Need, unused, used, meets, Line, none, operations, line_of, entry, line_tests, entry_tests}
use Rattle.rules.specs.Step.{field_tests, malformed}
use Rattle.rules.specs.declared.Operation.{Operation}
use Rattle.rules.specs.declared.Operation.TheVariants.{Unknown}
use Rattle.rules.specs.declared.Entry.{Entry}
use Rattle.log_file.specs.Records.{record_at, by_number, spare, spares_nil, operation_of, record_of}
use Rattle.log_file.specs.Malformed.{record_tests}
use Rattle.log_file.proofs.SideBySide.{side-at}

-- ---- a field: its need is that it is 0 where it is not in use, and what the case that is read meets

abbrev pub kept : {A : Type 0} → A → Need A → A → A
kept o unused x = o
kept o (used test) x = x

met : {A : Type 0} (nil : A → Bool) (o : A) → nil o ≡ true → (n : Need A) (x : A) → meets nil n x ≡ (spare nil n x && meets nil n (kept o n x))
met nil o z unused x = rw z (sym (and-true (nil x)))
met nil o z (used test) x = refl

-- ---- an entry: the same, of its five fields

abbrev pub kept_by : ℕ → Line → Entry → Entry
kept_by number l e = entry number (kept 0 l.pool e.pool) (kept 0 l.subject e.subject) (kept 0 l.other e.other) (kept 0 l.reply e.reply) (kept (pos 0) l.amount e.amount)

both : (pairs : List (Bool × Bool)) → all (map (λ (p : Bool × Bool). p.0 && p.1) pairs) ≡ (all (map (λ (p : Bool × Bool). p.0) pairs) && all (map (λ (p : Bool × Bool). p.1) pairs))
unfolding each
both [] = refl
both ((true, true) ∷ pairs) = both pairs
both ((true, false) ∷ pairs) = sym (and-false (all (map (λ (p : Bool × Bool). p.0) pairs)))
both ((false, t) ∷ pairs) = refl

abbrev nil : ℕ → Bool
nil n = eqb n 0

line-met : (l : Line) (e : Entry) → all (line_tests l e) ≡ (spares_nil l e && all (line_tests l (kept_by e.number l e)))
line-met l e =
    let k = kept_by e.number l e in
    (λ i. all (met nil 0 refl l.pool e.pool i ∷ met nil 0 refl l.subject e.subject i ∷ met nil 0 refl l.other e.other i ∷ met nil 0 refl l.reply e.reply i ∷ met is_zero (pos 0) refl l.amount e.amount i ∷ []))
    ∙ both
    ((spare nil l.pool e.pool, meets nil l.pool k.pool)
    ∷ (spare nil l.subject e.subject, meets nil l.subject k.subject)
    ∷ (spare nil l.other e.other, meets nil l.other k.other)
    ∷ (spare nil l.reply e.reply, meets nil l.reply k.reply)
    ∷ (spare is_zero l.amount e.amount, meets is_zero l.amount k.amount)
    ∷ [])

-- ---- each line and its case

-- the case has the line's fields in use, and 0 for the others
case-met : (e : Entry) (n : ℕ) → all (line_tests (line_of n) (kept_by n (line_of n) e)) ≡ all (field_tests (get_or (by_number e) n Unknown))
unfolding by_number each
case-met e n = side-at (λ (k : ℕ) (l : Line) (o : Operation). all (line_tests l (kept_by k l e)) ≡ all (field_tests o)) none Unknown (λ k. refl) operations (by_number e) (refl, (refl, (refl, (refl, (refl, (refl, (refl, (refl, (refl, (refl, tt)))))))))) n

-- ---- a record

only_if : (t : Bool) (o : Operation) → all (field_tests (cond t o Unknown)) ≡ (t && all (field_tests o))
unfolding each
only_if true o = refl
only_if false o = refl

pub operation-met : (e : Entry) → all (field_tests (operation_of e)) ≡ all (entry_tests e)
unfolding operation_of
operation-met e =
    let l = line_of e.number in
    let o = get_or (by_number e) e.number Unknown in
    only_if (spares_nil l e) o ∙ ap (λ (t : Bool). spares_nil l e && t) (sym (case-met e e.number)) ∙ sym (line-met l e)

-- z: the five bytes are 0; n, s: the tests of time and signer
pub in_all : (z n s : Bool) (o : Operation) (tests : List Bool) → all (field_tests o) ≡ all tests → all (n ∷ s ∷ field_tests (cond z o Unknown)) ≡ all (z ∷ n ∷ s ∷ tests)
unfolding each
in_all true n s o tests h = ap (λ (t : Bool). cond n (cond s t false) false) h
in_all false true true o tests h = refl
in_all false true false o tests h = refl
in_all false false s o tests h = refl

-- "unknown operation, pool or registry reply; `now` too large; number 0 where one is needed ..; an unused field not 0; a rate negative
-- or not of pool 3"
pub judged : (s : List ℕ) (i : ℕ) → malformed (record_of s i) ≡ not (all (record_tests (record_at s i)))
unfolding malformed record_of record_tests
judged s i =
    let r = record_at s i in
    ap not (in_all (eqb r.zeros 0) (leb r.now last_time) (is_number r.signer) (operation_of r.fields) (entry_tests r.fields) (operation-met r.fields))
