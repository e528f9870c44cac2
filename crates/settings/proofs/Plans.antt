-- The admin's operations on words: which rung of its plan each answer is, and the words after it.
use mathlib.Core.Path.{◌≡◌, refl, sym, ap, ap₂, ◌∙◌}
use mathlib.Core.Bool.{Bool, true, false, not, cond}
use mathlib.Core.List.{List}
use Prim.Native.Nat.{ℕ}
use lib.Dec.{eqb}
use lib.IntN.{pos}
use lib.ListN.{get_or, set}
use lib.Signed.{lt_z}
use Rattle.std.specs.Prelude.{Result, Ok, Err, IsErrAnd}
use Rattle.whole.specs.Whole.{up}
use Rattle.rules.specs.declared.Account.{Account}
use Rattle.rules.specs.declared.answers.Done.{Done}
use Rattle.rules.specs.declared.refusal.Refusal.{Refusal}
use Rattle.rules.specs.declared.RateCall.{RateCall}
use Rattle.rules.specs.Limits.{greatest_rate}
use Rattle.rules.specs.Books.{settings, with_settings}
use Rattle.rules.specs.Calls.{account_no}
use Rattle.rules.specs.Answers.{Plan, Answer, answers, answer_of, told_code, refusal, refused, done, no_transfer, not_by, ◌refuses◌else◌, OverLimit}
use Rattle.rules.specs.Settings.{accruals_fit, bank_all, set_paused, set_payout_caller, set_yield_rate}
use Rattle.books.specs.Layout.{admin_word, caller_word, paused_word, rate_word, stake_width}
use Rattle.books.specs.Tables.{room_of, table_words}
use Rattle.books.specs.Words.{Tables, tables, stake_words, books_of, good_tables, result_of, acted}
use Rattle.books.specs.inner.Held.{Fit}
use Rattle.books.proofs.Good.{same_tables}
use Rattle.books.proofs.Writing.{write-paused, write-caller, write-rate}
use Rattle.settings.specs.inner.Admin.{admin_code}
use Rattle.settings.specs.inner.Banking.{banked_rows}
use Rattle.settings.proofs.Opening.{opening-refuses, opening-passes, fit-refuses, fit-passes}

-- what a check of the first rungs tells of words; `stopped`: a pause is on, and stops the operation
abbrev pub Told : List ℕ → Account → Bool → Result (Unit {0}) Refusal → Type 0
Told b signer stopped asked = told_code asked ≡ admin_code stopped (not_by (account_no (get_or b admin_word 0)) signer)

abbrev paused-in : List ℕ → Bool
paused-in b = not (eqb (get_or b paused_word 0) 0)

abbrev plainly : Answer
plainly = done (pos 0) (pos 0) no_transfer no_transfer

module _ (s o b : List ℕ) (g : good_tables (tables s o b) ≡ true) (signer : Account) where
  abbrev t : Tables
  t = tables s o b

  -- ---- pause and unpause

  module _ (p : Bool) {asked : Result (Unit {0}) Refusal} (told : Told b signer false asked) where
    pub paused-refused : (r : Refusal) → asked ≡ Err r → (out : Result Done Refusal) → IsErrAnd out (λ x. x ≡ r) → result_of (answer_of out) t ≡ acted t (set_paused (books_of t) signer p)
    unfolding set_paused books_of
    paused-refused = opening-refuses false _ _ told t

    pub paused-stored : Fit s → Fit b → (u : Unit {0}) → asked ≡ Ok u → (r : Answer) (b' : List ℕ) → r ≡ plainly → b' ≡ set b paused_word (cond p 1 0)
        → result_of r (tables s o b') ≡ acted t (set_paused (books_of t) signer p)
    unfolding set_paused books_of
    paused-stored fit-s fit-b u was r b' x y = ap₂ result_of x (ap (tables s o) y ∙ write-paused s o b g fit-s fit-b p) ∙ ap (acted t) (opening-passes false _ _ told u was)

  -- ---- the payout caller

  module _ (caller : Account) {asked : Result (Unit {0}) Refusal} (told : Told b signer (paused-in b) asked) where
    pub caller-refused : (r : Refusal) → asked ≡ Err r → (out : Result Done Refusal) → IsErrAnd out (λ x. x ≡ r) → result_of (answer_of out) t ≡ acted t (set_payout_caller (books_of t) signer caller)
    unfolding set_payout_caller books_of
    caller-refused = opening-refuses (paused-in b) _ _ told t

    pub caller-stored : Fit s → Fit b → (u : Unit {0}) → asked ≡ Ok u → (r : Answer) (b' : List ℕ) → r ≡ plainly → b' ≡ set b caller_word caller.0
        → result_of r (tables s o b') ≡ acted t (set_payout_caller (books_of t) signer caller)
    unfolding set_payout_caller books_of
    caller-stored fit-s fit-b u was r b' x y = ap₂ result_of x (ap (tables s o) y ∙ write-caller s o b g fit-s fit-b caller) ∙ ap (acted t) (opening-passes (paused-in b) _ _ told u was)

  -- ---- the yield rate

  module _ (time : ℕ) (c : RateCall) where
    -- the rows as they are banked are those of the rules
    banked-are : bank_all (books_of t) time ≡ banked_rows s b time
    unfolding books_of
    banked-are = refl

    -- what follows the first rungs
    abbrev further : Plan
    further =
        let k = books_of t in
        lt_z (pos greatest_rate) c.rate refuses OverLimit else
        not (accruals_fit (bank_all k time)) refuses OverLimit else
        answers (pos 0) (pos 0) (with_settings k (bank_all k time) (settings k.settings.admin k.settings.caller k.settings.paused (up c.rate)))

    module _ {asked : Result (Unit {0}) Refusal} (told : Told b signer (paused-in b) asked) where
      pub rate-refused : (r : Refusal) → asked ≡ Err r → (out : Result Done Refusal) → IsErrAnd out (λ x. x ≡ r) → result_of (answer_of out) t ≡ acted t (set_yield_rate (books_of t) time signer c)
      unfolding set_yield_rate books_of
      rate-refused = opening-refuses (paused-in b) _ _ told t

      module _ (u : Unit {0}) (was : asked ≡ Ok u) where
        passed : further ≡ set_yield_rate (books_of t) time signer c
        unfolding set_yield_rate books_of
        passed = opening-passes (paused-in b) _ _ told u was

        pub rate-above : lt_z (pos greatest_rate) c.rate ≡ true → result_of (refusal OverLimit) t ≡ acted t (set_yield_rate (books_of t) time signer c)
        rate-above h = let f : refused OverLimit ≡ further = rw h in ap (acted t) (f ∙ passed)

        module _ (h : lt_z (pos greatest_rate) c.rate ≡ false) {fitting : Result (Unit {0}) Refusal} (fits : told_code fitting ≡ cond (accruals_fit (banked_rows s b time)) 0 OverLimit) where
          pub rate-unfit : (r : Refusal) → fitting ≡ Err r → (out : Result Done Refusal) → IsErrAnd out (λ x. x ≡ r) → result_of (answer_of out) t ≡ acted t (set_yield_rate (books_of t) time signer c)
          rate-unfit r over out e =
              let i = fit-refuses _ fits r over out e in
              let f : refused OverLimit ≡ further = rw (h, ap accruals_fit banked-are ∙ i.0) in
              ap (λ (a : Answer). result_of a t) i.1 ∙ ap (acted t) (f ∙ passed)

          -- the answer and the words, as the code leaves them
          pub rate-stored : Fit s → Fit b → (v : Unit {0}) → fitting ≡ Ok v → (r : Answer) (s' b' : List ℕ) → r ≡ plainly
              → s' ≡ table_words stake_words stake_width (room_of stake_width s) (banked_rows s b time) → b' ≡ set b rate_word (up c.rate)
              → result_of r (tables s' o b') ≡ acted t (set_yield_rate (books_of t) time signer c)
          rate-stored fit-s fit-b v fit r s' b' x y w =
              let k = books_of t in
              let f : answers (pos 0) (pos 0) (with_settings k (bank_all k time) (settings k.settings.admin k.settings.caller k.settings.paused (up c.rate))) ≡ further = rw (h, ap accruals_fit banked-are ∙ fit-passes _ fits v fit) in
              ap₂ result_of x (same_tables (y ∙ ap (table_words stake_words stake_width (room_of stake_width s)) (sym banked-are)) refl w ∙ write-rate s o b g fit-s fit-b (bank_all k time) (up c.rate))
              ∙ ap (acted t) (f ∙ passed)
