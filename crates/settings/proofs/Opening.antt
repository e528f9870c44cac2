-- The first rungs of the admin's operations: where their check refuses, so does a ladder that begins with them, and where it passes the ladder is what
-- follows.
use mathlib.Core.Path.{◌≡◌, refl, sym, ap, ◌∙◌}
use mathlib.Core.Bool.{Bool, true, false, cond}
use native.Mathlib.Omega.{arith}
use Rattle.std.specs.Prelude.{Result, Ok, Err, IsErrAnd}
use Rattle.rules.specs.declared.answers.Done.{Done}
use Rattle.rules.specs.declared.refusal.Refusal.{Refusal}
use Rattle.rules.specs.declared.refusal.Refusal.TheVariants as reason
use Rattle.rules.specs.Answers.{Plan, refused, Answer, refusal, code_of, told_code, answer_of, Paused, NotAllowed, OverLimit}
use Rattle.rules.proofs.PassedOn.{passed-on}
use Rattle.books.specs.Words.{Tables, result_of, acted}
use Rattle.settings.specs.inner.Admin.{admin_code}

-- a refusal's code is not 0
code-some : (r : Refusal) → code_of r ≡ 0 → ⊥
code-some reason.Malformed z = omega arith
code-some reason.BadTables z = omega arith
code-some reason.Paused z = omega arith
code-some reason.NoPayer z = omega arith
code-some reason.NotAllowed z = omega arith
code-some reason.InvalidInput z = omega arith
code-some reason.NoRegistry z = omega arith
code-some reason.InvalidTransition z = omega arith
code-some reason.InsufficientBalance z = omega arith
code-some reason.OverLimit z = omega arith
code-some reason.TableFull z = omega arith

module _ (paused other : Bool) (rest : Plan) where
  abbrev ladder : Plan
  ladder = cond paused (refused Paused) (cond other (refused NotAllowed) rest)

  module _ {asked : Result (Unit {0}) Refusal} (told : told_code asked ≡ admin_code paused other) where
    -- what `?` passes on of the check is what the ladder comes to
    pub opening-refuses : (t : Tables) (r : Refusal) → asked ≡ Err r → (out : Result Done Refusal) → IsErrAnd out (λ x. x ≡ r) → result_of (answer_of out) t ≡ acted t ladder
    opening-refuses t r was out e =
        ap (λ (a : Answer). result_of a t) (passed-on asked r was out e ∙ ap (λ (x : Result (Unit {0}) Refusal). refusal (told_code x)) was)
        ∙ ap (acted t) (go paused other (sym (ap told_code was) ∙ told))
      where
        go : (p o : Bool) → code_of r ≡ admin_code p o → refused (code_of r) ≡ cond p (refused Paused) (cond o (refused NotAllowed) rest)
        go true o e = ap refused e
        go false true e = ap refused e
        go false false e = absurd (code-some r e)

    pub opening-passes : (u : Unit {0}) → asked ≡ Ok u → rest ≡ ladder
    opening-passes u was = go paused other (sym (ap told_code was) ∙ told)
      where
        go : (p o : Bool) → 0 ≡ admin_code p o → rest ≡ cond p (refused Paused) (cond o (refused NotAllowed) rest)
        go true o e = absurd (omega arith)
        go false true e = absurd (omega arith)
        go false false e = refl

-- a check that refuses what does not fit
module _ (fit : Bool) {asked : Result (Unit {0}) Refusal} (told : told_code asked ≡ cond fit 0 OverLimit) where
  pub fit-refuses : (r : Refusal) → asked ≡ Err r → (out : Result Done Refusal) → IsErrAnd out (λ x. x ≡ r) → (fit ≡ false) × (answer_of out ≡ refusal OverLimit)
  fit-refuses r was out e = let f = go fit (sym (ap told_code was) ∙ told) in (f, passed-on asked r was out e ∙ ap refusal told ∙ rw f)
    where
      go : (t : Bool) → code_of r ≡ cond t 0 OverLimit → t ≡ false
      go true e = absurd (code-some r e)
      go false e = refl

  pub fit-passes : (u : Unit {0}) → asked ≡ Ok u → fit ≡ true
  fit-passes u was = go fit (sym (ap told_code was) ∙ told)
    where
      go : (t : Bool) → 0 ≡ cond t 0 OverLimit → t ≡ true
      go true e = refl
      go false e = absurd (omega arith)
