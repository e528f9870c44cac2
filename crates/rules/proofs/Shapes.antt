-- A call that is not malformed, and the one way from a plan's law to a call's.
use mathlib.Core.Path.{◌≡◌}
use mathlib.Core.Bool.{Bool, true, false}
use mathlib.Core.List.{◌∷◌}
use Prim.Native.Nat.{◌≤◌}
use borrow.Author.Tests.{leb-true, not-false}
use lib.Dec.{leb}
use Rattle.rules.specs.Limits.{last_time, is_number}
use Rattle.rules.specs.Table.{all}
use Rattle.rules.specs.Books.{Books}
use Rattle.rules.specs.Calls.{Call}
use Rattle.rules.specs.Answers.{Plan, Malformed, ◌refuses◌else◌}
use Rattle.rules.specs.Step.{field_tests, malformed, plan_of}
use Rattle.rules.proofs.Tests.{each_first, number_read}
use Rattle.rules.specs.inner.Facts.{Number}
use Rattle.rules.proofs.Ladders.{Refusals, rung}

-- its time, and its operation's own fields
pub record Shaped (c : Call) : Type 0 where
  pub time : c.now ≤ last_time
  pub signer : Number c.signer.0
  pub fields : all (field_tests c.operation) ≡ true

pub shaped : (c : Call) → malformed c ≡ false → Shaped c
unfolding malformed
shaped c e =
    let tests = not-false _ e in
    let t = each_first (λ (x : Bool). x) (leb c.now last_time) (is_number c.signer.0 ∷ field_tests c.operation) tests in
    let u = each_first (λ (x : Bool). x) (is_number c.signer.0) (field_tests c.operation) t.1 in
    record { time = leb-true c.now last_time t.0; signer = number_read c.signer.0 u.0; fields = u.1 }

-- a law of a call, from that of its plan
pub step-cases : (b : Books) (c : Call) (Q : Plan → Type 0) → Refusals Q → (Shaped c → Q (plan_of b c.now c.signer c.operation)) → Q (malformed c refuses Malformed else plan_of b c.now c.signer c.operation)
step-cases b c Q r f = rung Q r (malformed c) Malformed _ (λ e. f (shaped c e))
