-- The first tests of pay, reserve and claim as one code, and what is known of a call that passes them.
use mathlib.Core.Path.{◌≡◌, refl, sym, ap, ap₂, ◌∙◌}
use mathlib.Core.Bool.{Bool, true, false, cond}
use Prim.Native.Nat.{ℕ, ◌^◌, ◌≤◌, ◌<◌}
use native.Mathlib.Omega.{arith}
use borrow.Author.Tests.{eq-eqb, eqb-true}
use lib.Dec.{eqb}
use lib.IntN.{ℤ, pos}
use lib.Signed.{lt_z, le_z, mag}
use mir.Syntax.{w64}
use mir.Val.{to_z, of_z}
use Rattle.std.specs.Prelude.{Result, Ok, Err, IsErrAnd}
use Rattle.std.proofs.lemmas.Result.{err_from_is_err_and}
use Rattle.whole.specs.Whole.{up, dn}
use Rattle.whole.proofs.Linear.{whole, one}
use Rattle.whole.proofs.Words.{number-back}
use Rattle.rules.specs.Limits.{limit}
use Rattle.rules.specs.Books.{Books}
use Rattle.rules.specs.declared.Account.{Account}
use Rattle.rules.specs.declared.refusal.Refusal.{Refusal}
use Rattle.rules.specs.declared.refusal.Refusal.TheVariants as reason
use Rattle.rules.specs.declared.answers.Done.{Done}
use Rattle.rules.specs.Answers.{Plan, refused, ◌refuses◌else◌, answers, code_of, told_code, answer_of, refusal, done, no_transfer, Answer, not_by, Paused, NoPayer, NotAllowed, InvalidInput, OverLimit}
use Rattle.rules.specs.Payouts.{as_caller}
use Rattle.rules.proofs.PassedOn.{code-passed, passed-on}
use Rattle.books.specs.Words.{Tables, books_of, good_tables, result_of, acted}
use Rattle.books.specs.inner.Held.{Fit}
use Rattle.books.proofs.Good.{good-back}
use Rattle.payouts.specs.inner.Openings.{coded, code_in, caller_code, past_tests, opening, settings_alone}

-- a refusal's code is not 0
pub code-some : (r : Refusal) → code_of r ≡ 0 → ⊥
code-some reason.Malformed z = omega arith
code-some reason.BadTables z = omega arith
code-some reason.Paused z = omega arith
code-some reason.NoPayer z = omega arith
code-some reason.NotAllowed z = omega arith
code-some reason.InvalidInput z = omega arith
code-some reason.NoRegistry z = omega arith
code-some reason.InvalidTransition z = omega arith
code-some reason.InsufficientBalance z = omega arith
code-some reason.OverLimit z = omega arith
code-some reason.TableFull z = omega arith

-- ---- what `?` returns of a refusal r

module _ (r : Refusal) where
  pub passed-code : {A : Type 0} (out : Result A Refusal) → IsErrAnd out (λ x. x ≡ r) → told_code out ≡ code_of r
  passed-code out e = code-passed {A = ℕ} (Err r) r refl out e

  pub passed-answer : (out : Result Done Refusal) → IsErrAnd out (λ x. x ≡ r) → answer_of out ≡ refusal (code_of r)
  passed-answer out e = passed-on {A = ℕ} (Err r) r refl out e

  pub passed-coded : {A : Type 0} (out : Result A Refusal) → IsErrAnd out (λ x. x ≡ r) → coded out ≡ Err (code_of r)
  passed-coded out e =
      let p = err_from_is_err_and out e in
      ap coded p.1 ∙ ap (λ (x : Refusal). Err (code_of x)) p.2

-- ---- the first tests

-- the ladder of the first tests, of what they come to
abbrev ladder : Bool → Bool → Bool → Bool → Bool → Plan → Plan
ladder t1 t2 t3 t4 t5 p = t1 refuses Paused else t2 refuses NoPayer else t3 refuses NotAllowed else t4 refuses InvalidInput else t5 refuses OverLimit else p

-- past the first tests: the code is 0, and the amount is above 0, within its limit and its own word w
pub record Past (b : Books) (signer : Account) (amount : ℤ) (w : ℕ) : Type 0 where
  pub none : caller_code b signer amount ≡ 0
  pub some : 0 < w
  pub most : w ≤ limit
  pub word : w ≡ up amount
  pub whole_is : pos w ≡ amount

module _ (b : Books) (signer : Account) (amount : ℤ) where
  -- the rules' tests by their code
  pub by_code : (p : Plan) → as_caller b signer amount p ≡ cond (eqb (caller_code b signer amount) 0) p (refused (caller_code b signer amount))
  unfolding caller_code
  by_code p = go b.settings.paused (eqb b.settings.caller.0 0) (not_by b.settings.caller signer) (le_z amount (pos 0)) (lt_z (pos limit) amount)
    where
      go : (t1 t2 t3 t4 t5 : Bool) → let k = code_in (ladder t1 t2 t3 t4 t5 (refused 0)) in ladder t1 t2 t3 t4 t5 p ≡ cond (eqb k 0) p (refused k)
      go true t2 t3 t4 t5 = refl
      go false true t3 t4 t5 = refl
      go false false true t4 t5 = refl
      go false false false true t5 = refl
      go false false false false true = refl
      go false false false false false = refl

  passed : caller_code b signer amount ≡ 0 → (le_z amount (pos 0) ≡ false) × (lt_z (pos limit) amount ≡ false)
  unfolding caller_code
  passed = go b.settings.paused (eqb b.settings.caller.0 0) (not_by b.settings.caller signer) (le_z amount (pos 0)) (lt_z (pos limit) amount)
    where
      go : (t1 t2 t3 t4 t5 : Bool) → code_in (ladder t1 t2 t3 t4 t5 (refused 0)) ≡ 0 → (t4 ≡ false) × (t5 ≡ false)
      go true t2 t3 t4 t5 z = absurd (omega arith)
      go false true t3 t4 t5 z = absurd (omega arith)
      go false false true t4 t5 z = absurd (omega arith)
      go false false false true t5 z = absurd (omega arith)
      go false false false false true z = absurd (omega arith)
      go false false false false false z = (refl, refl)

  abbrev code : ℕ
  code = caller_code b signer amount

  -- what an opening says of its amount, and of its refusal
  opened : (w : ℕ) → Ok w ≡ opening b signer amount → (code ≡ 0) × (w ≡ up amount)
  opened w e = go (eqb code 0) refl e
    where
      go : (t : Bool) → eqb code 0 ≡ t → Ok w ≡ cond t (Ok (up amount)) (Err code) → (code ≡ 0) × (w ≡ up amount)
      go true z q = (eqb-true code 0 z, cc)
      go false z q = cc

  stopped : {A : Type 0} (k : ℕ) → (k ≡ 0 → ⊥) → Err k ≡ opening b signer amount → (next : Result A ℕ) → Err k ≡ past_tests b signer amount next
  stopped {A} k some e next = go (eqb code 0) refl e
    where
      go : (t : Bool) → eqb code 0 ≡ t → Err k ≡ cond t (Ok (up amount)) (Err code) → Err k ≡ cond t next (Err code)
      go true z q = cc
      go false z q = let f : k ≡ code = cc in ap Err f

  pub past-none : code ≡ 0 → (w : ℕ) → w ≡ up amount → Past b signer amount w
  past-none none r w =
      let p = passed none in
      let low = p.0 in
      let high = p.1 in
      let d : dn amount ≡ 0 = omega (arith, whole, low, one amount) in
      record { none = none; some = omega (arith, whole, w, low, d); most = omega (arith, whole, w, high, d); word = w; whole_is = omega (arith, whole, w, d) }

  -- a call that is past them goes on
  pub goes-on : {A : Type 0} (w : ℕ) → Past b signer amount w → (next : Result A ℕ) → next ≡ past_tests b signer amount next
  goes-on w a next = rw (eq-eqb code 0 a.none)

-- ---- what `open_call` answers, of the books that the words hold

module _ (t : Tables) (signer : Account) (x : ℤ) (small : mag x < 2 ^ 63) where
  opening-back : opening (settings_alone t.books) signer (to_z w64 (of_z w64 x)) ≡ opening (books_of t) signer x
  unfolding caller_code books_of
  opening-back = ap (opening (books_of t) signer) (number-back x (record { sfits = small }))

  pub past-opened : (w : ℕ) → Ok w ≡ opening (settings_alone t.books) signer (to_z w64 (of_z w64 x)) → Past (books_of t) signer x w
  past-opened w e = let o = opened (books_of t) signer x w (e ∙ opening-back) in past-none (books_of t) signer x o.0 w o.1

  pub stopped-opened : {A : Type 0} (r : Refusal) → Err (code_of r) ≡ opening (settings_alone t.books) signer (to_z w64 (of_z w64 x)) → (out : Result A Refusal) → IsErrAnd out (λ y. y ≡ r)
      → (next : Result A ℕ) → coded out ≡ past_tests (books_of t) signer x next
  stopped-opened r e out d next = passed-coded r out d ∙ stopped (books_of t) signer x (code_of r) (code-some r) (e ∙ opening-back) next

-- ---- answers that change nothing

module _ (t : Tables) {p : Plan} where
  pub refused-is : (r : Refusal) (out : Result Done Refusal) → IsErrAnd out (λ x. x ≡ r) → refused (code_of r) ≡ p → result_of (answer_of out) t ≡ acted t p
  refused-is r out d e = ap (λ (x : Answer). result_of x t) (passed-answer r out d) ∙ ap (acted t) e

  pub told_is : good_tables t ≡ true → Fit t.stakes → Fit t.books → (a : Answer) {x y : ℤ} → a ≡ done x y no_transfer no_transfer → answers x y (books_of t) ≡ p → result_of a t ≡ acted t p
  told_is g fs fb a d e = ap₂ result_of d (sym (good-back t g fs fb)) ∙ ap (acted t) e
