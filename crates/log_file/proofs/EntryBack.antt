-- An operation and its entry of the log, both ways, where the operation's fields meet their needs.
use mathlib.Core.Path.{◌≡◌, refl, sym, ◌∙◌}
use mathlib.Core.Bool.{Bool, true, false, cond, true≢false}
use mathlib.Core.List.{[], ◌∷◌}
use Prim.Native.Nat.{ℕ, suc, ◌^◌, ◌<◌}
use native.Mathlib.Omega.{arith}
use borrow.Author.Tests.{leb-true, eqb-true}
use lib.Dec.{eqb}
use lib.IntN.{ℤ, pos, negsuc}
use lib.ListN.{get_or}
use Rattle.rules.specs.Limits.{flat, last_reply, is_pool, is_number}
use Rattle.rules.specs.Table.{each, all}
use Rattle.rules.specs.Books.{is_zero}
use Rattle.rules.specs.Operations.{Need, unused, used, Line, none, operations, line_of, entry_of}
use Rattle.rules.specs.Step.{field_tests}
use Rattle.rules.specs.declared.Operation.{Operation}
use Rattle.rules.specs.declared.Operation.TheVariants.{Stake, Withdraw, Pay, Reserve, Claim, Rate, Pause, Unpause, PayoutCaller, Unknown}
use Rattle.rules.specs.declared.Entry.{Entry}
use Rattle.rules.proofs.Tests.{nth, pool-read, number_read}
use Rattle.log_file.specs.Records.{by_number, spare, spares_nil, operation_of}
use Rattle.log_file.proofs.SideBySide.{side-at}
use Rattle.log_file.proofs.Judged.{kept, kept_by}

-- Unknown meets nothing
never : {X : Type 0} → all (field_tests Unknown) ≡ true → X
never h = absurd (true≢false (sym (nth (field_tests Unknown) h 0)))

-- ---- an operation from its entry

pub operation-back : (o : Operation) → all (field_tests o) ≡ true → operation_of (entry_of o) ≡ o
unfolding operation_of by_number each
operation-back (Stake c) h = refl
operation-back (Withdraw c) h = refl
operation-back (Pay c) h = refl
operation-back (Reserve c) h = refl
operation-back (Claim c) h = refl
operation-back (Rate c) h = refl
operation-back Pause h = refl
operation-back Unpause h = refl
operation-back (PayoutCaller a) h = refl
operation-back Unknown h = never h

-- ---- an entry from its operation: the case has the fields in use, and those that are not in use were 0

kept_whole : {A : Type 0} (nil : A → Bool) (o : A) → ((x : A) → nil x ≡ true → o ≡ x) → (n : Need A) (x : A) → spare nil n x ≡ true → kept o n x ≡ x
kept_whole nil o z unused x h = z x h
kept_whole nil o z (used test) x h = refl

nil_is : (n : ℕ) → eqb n 0 ≡ true → 0 ≡ n
nil_is n h = sym (eqb-true n 0 h)

zero_is : (z : ℤ) → is_zero z ≡ true → pos 0 ≡ z
zero_is (pos n) h = let e = eqb-true n 0 h in rw e refl
zero_is (negsuc n) h = let e = eqb-true (suc n) 0 h in absurd (omega arith)

whole : (l : Line) (e : Entry) → spares_nil l e ≡ true → kept_by e.number l e ≡ e
whole l e h =
    let nil : ℕ → Bool = λ n. eqb n 0 in
    let test = nth (spare nil l.pool e.pool ∷ spare nil l.subject e.subject ∷ spare nil l.other e.other ∷ spare nil l.reply e.reply ∷ spare is_zero l.amount e.amount ∷ []) h in
    λ i.
    record {
      number = e.number;
      pool = kept_whole nil 0 nil_is l.pool e.pool (test 0) i;
      subject = kept_whole nil 0 nil_is l.subject e.subject (test 1) i;
      other = kept_whole nil 0 nil_is l.other e.other (test 2) i;
      reply = kept_whole nil 0 nil_is l.reply e.reply (test 3) i;
      amount = kept_whole is_zero (pos 0) zero_is l.amount e.amount (test 4) i;
    }

-- each case has its number and the fields that its line uses
case-entry : (e : Entry) (n : ℕ) → all (field_tests (get_or (by_number e) n Unknown)) ≡ true → entry_of (get_or (by_number e) n Unknown) ≡ kept_by n (line_of n) e
unfolding by_number
case-entry e n = side-at (λ (k : ℕ) (l : Line) (o : Operation). all (field_tests o) ≡ true → entry_of o ≡ kept_by k l e) none Unknown (λ k. never) operations (by_number e) (never, (same, (same, (same, (same, (same, (same, (same, (same, (same, tt)))))))))) n
  where
    same : {x : Entry} {A : Type 0} → A → x ≡ x
    same h = refl

pub entry-back : (e : Entry) → all (field_tests (operation_of e)) ≡ true → entry_of (operation_of e) ≡ e
unfolding operation_of
entry-back e = go (spares_nil (line_of e.number) e) refl
  where
    go : (t : Bool) → spares_nil (line_of e.number) e ≡ t → all (field_tests (cond t (get_or (by_number e) e.number Unknown) Unknown)) ≡ true → entry_of (cond t (get_or (by_number e) e.number Unknown) Unknown) ≡ e
    go true z h = case-entry e e.number h ∙ whole (line_of e.number) e z
    go false z h = never h

-- ---- a record has room for an operation's fields

pub record Room (e : Entry) : Type 0 where
  pub number : e.number < 256
  pub pool : e.pool < 256
  pub reply : e.reply < 256
  pub subject : e.subject < 2 ^ 64
  pub other : e.other < 2 ^ 64

pool-room : (n : ℕ) → is_pool n ≡ true → n < 256
pool-room n h = let p = pool-read n h in omega arith

number-room : (n : ℕ) → is_number n ≡ true → n < 2 ^ 64
number-room n h = (number_read n h).word

-- an entry with a pool and a number
keyed : (e : Entry) → e.number < 256 → is_pool e.pool ≡ true → is_number e.subject ≡ true → e.other < 2 ^ 64 → e.reply < 256 → Room e
keyed e n p s o r = record { number = n; pool = pool-room e.pool p; reply = r; subject = number-room e.subject s; other = o }

pub roomy : (o : Operation) → all (field_tests o) ≡ true → Room (entry_of o)
roomy (Stake c) h = keyed (entry_of (Stake c)) (omega arith) (nth (field_tests (Stake c)) h 0) (nth (field_tests (Stake c)) h 1) (omega arith) (omega arith)
roomy (Withdraw c) h = keyed (entry_of (Withdraw c)) (omega arith) (nth (field_tests (Withdraw c)) h 0) (nth (field_tests (Withdraw c)) h 1) (omega arith) (omega arith)
roomy (Pay c) h =
    let test = nth (field_tests (Pay c)) h in
    let reply = leb-true c.reply last_reply (test 3) in
    keyed (entry_of (Pay c)) (omega arith) (test 0) (test 1) (number-room c.beneficiary.0 (test 2)) (omega arith)
roomy (Reserve c) h = keyed (entry_of (Reserve c)) (omega arith) (nth (field_tests (Reserve c)) h 0) (nth (field_tests (Reserve c)) h 1) (omega arith) (omega arith)
roomy (Claim c) h =
    let test = nth (field_tests (Claim c)) h in
    keyed (entry_of (Claim c)) (omega arith) (test 0) (test 1) (number-room c.lender.0 (test 2)) (omega arith)
roomy (Rate c) h = let p = eqb-true c.pool flat (nth (field_tests (Rate c)) h 0) in record { number = omega arith; pool = omega arith; reply = omega arith; subject = omega arith; other = omega arith }
roomy Pause h = record { number = omega arith; pool = omega arith; reply = omega arith; subject = omega arith; other = omega arith }
roomy Unpause h = record { number = omega arith; pool = omega arith; reply = omega arith; subject = omega arith; other = omega arith }
roomy (PayoutCaller a) h = record { number = omega arith; pool = omega arith; reply = omega arith; subject = number-room a.0 (nth (field_tests (PayoutCaller a)) h 1); other = omega arith }
roomy Unknown h = never h
