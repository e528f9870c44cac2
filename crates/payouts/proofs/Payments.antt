-- Pay: the plan of what is settled is the rules', a settled payment can be written, and what the code settles is `pay_settled`.
use mathlib.Core.Path.{◌≡◌, refl, sym, ap, ap₂, ◌∙◌, subst⁻¹}
use mathlib.Core.Bool.{Bool, true, false, not, cond}
use mathlib.Core.List.{List}
use Prim.Native.Nat.{ℕ, ◌^◌, ◌<◌}
use native.Mathlib.Omega.{arith}
use borrow.Author.Tests.{eqb-true, eqb-false}
use lib.Dec.{eqb}
use lib.IntN.{pos}
use lib.Signed.{mag}
use mir.Syntax.{w64}
use mir.Val.{to_z, of_z}
use Rattle.std.specs.Bool.{then_some}
use Rattle.std.specs.Prelude.{Option, Some, None, Result, Ok, Err, IsErrAnd}
use Rattle.whole.specs.Whole.{up}
use Rattle.whole.proofs.Linear.{whole, one, lesser-is}
use Rattle.rules.specs.Terms.{capped}
use Rattle.rules.specs.Books.{Books, balance_of}
use Rattle.rules.specs.declared.Account.{Account}
use Rattle.rules.specs.declared.answers.Done.{Done}
use Rattle.rules.specs.declared.PayCall.{PayCall}
use Rattle.rules.specs.declared.refusal.Refusal.{Refusal}
use Rattle.rules.specs.Answers.{Plan, refused, does, answers, ◌refuses◌else◌, code_of, Answer, answer_of, done, no_transfer, transfer_out, NoRegistry, InvalidTransition, OverLimit}
use Rattle.rules.specs.Payouts.{after_loss, loss_over, payable, pay_out}
use Rattle.rules.proofs.Tests.{cases}
use Rattle.rules.proofs.Ranges.{capped-most}
use Rattle.books.specs.Layout.{pools}
use Rattle.books.specs.Words.{Tables, tables, books_of, good_tables, result_of, acted}
use Rattle.books.proofs.Writing.{balance-is}
use Rattle.payouts.specs.Payouts.{PayAsked}
use Rattle.payouts.specs.inner.Openings.{caller_code, opening, settings_alone}
use Rattle.payouts.specs.inner.Losses.{CanLose, LossTaken}
use Rattle.payouts.specs.inner.Amounts.{Payable, payable_of}
use Rattle.payouts.specs.inner.Settled.{reply_code, pay_settled}
use Rattle.payouts.proofs.Openings.{Past, passed-answer, by_code, code-some, past-none, past-opened, goes-on}
use Rattle.payouts.proofs.LossWrites.{loss-refused, taken}
use Rattle.payouts.proofs.PoolFigures.{pool-figures}

-- the plan of what is settled, and what its writing asks
abbrev pub paid_plan : Books → PayCall → Result (Option ℕ) ℕ → Plan
paid_plan b c (Err k) = refused k
paid_plan b c (Ok None) = answers (pos 0) (pos 0) b
paid_plan b c (Ok (Some n)) =
    loss_over b c.pool n refuses OverLimit else
    does (pos n) (pos 0) (transfer_out c.beneficiary n) no_transfer (after_loss b c.pool n)

abbrev pub PayReady : Tables → PayCall → Result (Option ℕ) ℕ → Type 0
PayReady t c (Err k) = Unit {0}
PayReady t c (Ok None) = Unit {0}
PayReady t c (Ok (Some n)) = CanLose t c.pool n

module _ (stakes offers words : List ℕ) (g : good_tables (tables stakes offers words) ≡ true) (signer : Account) (c : PayCall) (q : PayAsked c) where
  abbrev t : Tables
  t = tables stakes offers words

  abbrev b : Books
  b = books_of t

  abbrev n : ℕ
  n = up (payable b c)

  abbrev code : ℕ
  code = caller_code b signer c.amount

  pool-is : c.pool < pools
  pool-is = omega (arith, q.pool)

  -- past the first tests, of what the next ones come to
  abbrev next : Bool → Bool → Bool → Result (Option ℕ) ℕ
  next u v w = cond u (Err NoRegistry) (cond v (Err InvalidTransition) (cond w (Ok None) (Ok (Some n))))

  plan-is : paid_plan b c (pay_settled t signer c) ≡ pay_out b signer c
  unfolding pay_settled pay_out
  plan-is = go (eqb code 0) (eqb c.reply 0) (eqb c.reply 1) (eqb n 0) ∙ sym (by_code b signer c.amount _)
    where
      go : (z u v w : Bool) → paid_plan b c (cond z (next u v w) (Err code))
          ≡ cond z (u refuses NoRegistry else v refuses InvalidTransition else cond w (answers (pos 0) (pos 0) b) (paid_plan b c (Ok (Some n)))) (refused code)
      go true true v w = refl
      go true false true w = refl
      go true false false true = refl
      go true false false false = refl
      go false u v w = refl

  can-lose : code ≡ 0 → (n ≡ 0 → ⊥) → CanLose t c.pool n
  can-lose z some =
      let a = past-none b signer c.amount z _ refl in
      let x = capped c.pool (up c.amount) in
      let f = lesser-is (pos x) (balance_of b c.pool) in
      let h : 0 < n = omega (arith, some) in
      record {
        good = g;
        pool-is = pool-is;
        some = h;
        within = omega (arith, f, one (payable b c), one (balance_of b c.pool), capped-most c.pool (up c.amount), a.most, a.word);
        most = omega (arith, whole, h, f, one (payable b c), one (balance_of b c.pool));
      }

  ready : PayReady t c (pay_settled t signer c)
  unfolding pay_settled
  ready =
      cases (eqb code 0) _ _ (PayReady t c)
      (λ z. cases (eqb c.reply 0) _ _ (PayReady t c) (λ e. tt)
      (λ e. cases (eqb c.reply 1) _ _ (PayReady t c) (λ e. tt)
      (λ e. cases (eqb n 0) _ _ (PayReady t c) (λ e. tt) (λ e. can-lose (eqb-true code 0 z) (eqb-false n 0 e)))))
      (λ z. tt)

  -- and so of an answer that is what is settled
  pub settled : (x : Result (Option ℕ) ℕ) → x ≡ pay_settled t signer c → (paid_plan b c x ≡ pay_out b signer c) × PayReady t c x
  settled x e = (ap (paid_plan b c) e ∙ plan-is, subst⁻¹ (PayReady t c) e ready)

  -- ---- a payment of m that was settled, once its loss was taken or refused: the words are u then

  module _ {m : ℕ} (e : Ok (Some m) ≡ pay_settled t signer c) {u : Tables} where
    pub over-limit : (r : Refusal) → LossTaken t u c.pool m (code_of r) → (out : Result Done Refusal) → IsErrAnd out (λ x. x ≡ r) → result_of (answer_of out) u ≡ acted t (pay_out b signer c)
    over-limit r l out d =
        ap (λ (x : Answer). result_of x u) (passed-answer r out d) ∙ loss-refused r l _ ∙ ap (acted t) (settled _ e).0

    pub loss-taken : LossTaken t u c.pool m 0 → (a : Answer) → a ≡ done (pos m) (pos 0) (transfer_out c.beneficiary m) no_transfer → result_of a u ≡ acted t (pay_out b signer c)
    loss-taken l a d =
        let s = settled _ e in
        let x = taken s.1 l in
        ap₂ result_of d x.words ∙ ap (acted t) (rw x.fits at s.0)

  -- ---- what the code settles: w is the amount, once the first tests are past

  module _ (small : mag c.amount < 2 ^ 63) {w : ℕ} (e : Ok w ≡ opening (settings_alone words) signer (to_z w64 (of_z w64 c.amount))) where
    past : Past b signer c.amount w
    past = past-opened t signer c.amount small w e

    pub figures : Payable words c.pool w
    figures = pool-figures t g c.pool w pool-is past.most

    pub reply_refused : (r : Refusal) → code_of r ≡ reply_code c.reply → Err (code_of r) ≡ pay_settled t signer c
    unfolding pay_settled
    reply_refused r f = go (eqb c.reply 0) (eqb c.reply 1) f ∙ goes-on b signer c.amount w past _
      where
        go : (u v : Bool) → code_of r ≡ cond u NoRegistry (cond v InvalidTransition 0) → Err (code_of r) ≡ next u v (eqb n 0)
        go true v f = ap Err f
        go false true f = ap Err f
        go false false f = absurd (code-some r f)

    pub settles : {m : ℕ} → 0 ≡ reply_code c.reply → m ≡ up (payable_of words c.pool w) → {r : Option ℕ} → r ≡ then_some (not (eqb m 0)) m → Ok r ≡ pay_settled t signer c
    unfolding pay_settled
    settles {m} f k {r} h =
        let e : m ≡ n = k ∙ rw (past.word, balance-is t c.pool pool-is) in
        ap Ok h ∙ rw e (go (eqb c.reply 0) (eqb c.reply 1) (eqb n 0) f) ∙ goes-on b signer c.amount w past _
      where
        go : (u v z : Bool) → 0 ≡ cond u NoRegistry (cond v InvalidTransition 0) → Ok (then_some (not z) n) ≡ next u v z
        go true v z f = absurd (omega (arith, f))
        go false true z f = absurd (omega (arith, f))
        go false false true f = refl
        go false false false f = refl
