-- What `?` passes on: the refusal of the call before it, by its code.
use mathlib.Core.Path.{◌≡◌, sym, ◌∙◌, ap}
use Rattle.std.specs.Prelude.{Result, Err, IsErrAnd}
use Rattle.std.proofs.lemmas.Result.{err_from_is_err_and}
use Rattle.rules.specs.declared.refusal.Refusal.{Refusal}
use Rattle.rules.specs.declared.answers.Done.{Done}
use Rattle.rules.specs.Answers.{told_code, code_of, refusal, answer_of}

module _ {A : Type 0} (asked : Result A Refusal) (r : Refusal) (refused : asked ≡ Err r) where
  -- as what a check or a settling answers
  pub code-passed : {B : Type 0} (out : Result B Refusal) → IsErrAnd out (λ x. x ≡ r) → told_code out ≡ told_code asked
  code-passed {B} out e =
      let p = err_from_is_err_and out e in
      ap told_code p.1 ∙ ap code_of p.2 ∙ sym (ap told_code refused)

  -- as what a call answers
  pub passed-on : (out : Result Done Refusal) → IsErrAnd out (λ x. x ≡ r) → answer_of out ≡ refusal (told_code asked)
  passed-on out e =
      let p = err_from_is_err_and out e in
      ap answer_of p.1 ∙ ap (λ (x : Refusal). refusal (code_of x)) p.2 ∙ sym (ap (λ (x : Result A Refusal). refusal (told_code x)) refused)
