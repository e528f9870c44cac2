-- `put_digits` meets its contract: the digits end behind as many places as they are, so that they begin at their place.
use Rattle.std.proofs.Common.{◌≡◌, ◌∙◌, ◌++◌, ◌+◌, ap, ap₂, sym, refl, List, ℕ, take, drop, length, arith}
use mathlib.Core.List.{append_assoc}
use Rattle.std.specs.Fmt.{decimal}
use Rattle.std.proofs.lemmas.List.{take-append-drop}
use Rattle.log_file.specs.Written.{written}
use Rattle.log_file.proofs.texts.Text.put_digits.Goals as goal

pub write_digits-requires : goal.write_digits-requires
write_digits-requires c = (omega (arith, c.digits.ensures.count), omega (arith, c.digits.ensures.most))

-- a text that begins at its place, with what was before it and behind it
placed : (old new text : List ℕ) (start at end : ℕ) → start ≡ at → end ≡ at + length text → drop start new ≡ text ++ drop end old → take start new ≡ take start old → new ≡ written old at text
placed old new text start at end s e behind before =
    sym (take-append-drop start new)
    ∙ ap₂ (λ (a b : List ℕ). a ++ b) (before ∙ ap (λ (k : ℕ). take k old) s) (behind ∙ ap (λ (k : ℕ). text ++ drop k old) e)
    ∙ sym (append_assoc (take at old) text (drop (at + length text) old))

pub returns-clause-wrote : goal.returns-clause-wrote
returns-clause-wrote c =
    let a = c.args in
    let start : c.write_digits.result ≡ a.self.now.at = omega (arith, c.write_digits.ensures.start, c.digits.ensures.count) in
    let end : a.self.now.at + c.digits.result ≡ a.self.now.at + length (decimal a.number) = omega (arith, c.digits.ensures.count) in
    record {
      bytes = placed a.self.now.bytes.now c.write_digits.new.buf (decimal a.number) c.write_digits.result a.self.now.at (a.self.now.at + c.digits.result) start end c.write_digits.ensures.written c.write_digits.ensures.before;
      place = end;
      same_buffer = refl;
    }
