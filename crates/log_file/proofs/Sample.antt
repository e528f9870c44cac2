-- Document 01's sample comes out as stated, by computation.
use Rattle.std.proofs.Common.{◌≡◌, refl, ap, ◌∙◌, List, [], ◌∷◌, ◌++◌, ℕ, ◌+◌, ◌/◌, ◌%◌, ◌^◌, ◌≤◌, ◌<◌, arith}
use Rattle.std.specs.Fmt.{decimal}
use Rattle.std.proofs.lemmas.Fmt.{decimal_digit, decimal_step}
use Rattle.rules.specs.Table.{each}
use Rattle.log_file.specs.Opening.{head_of}
use Rattle.log_file.specs.Records.{by_number, operation_of, record_of}
use Rattle.log_file.specs.Writer.{head_text, record_text}
use Rattle.log_file.specs.Lines.{transfer_text}
use Rattle.log_file.specs.Sample.{Sample}

-- a number of more than one digit
longer : (n : ℕ) {tens : List ℕ} → 10 ≤ n → n < 2 ^ 64 → decimal (n / 10) ≡ tens → decimal n ≡ tens ++ ((48 + n % 10) ∷ [])
longer n h k e = decimal_step n h k ∙ ap (λ (l : List ℕ). l ++ ((48 + n % 10) ∷ [])) e

digit : (n : ℕ) → n < 10 → decimal n ≡ (48 + n) ∷ []
digit = decimal_digit

two-million : decimal 2_000_000 ≡ 50 ∷ 48 ∷ 48 ∷ 48 ∷ 48 ∷ 48 ∷ 48 ∷ []
two-million =
    longer 2_000_000 (omega arith) (omega arith)
    (longer 200_000 (omega arith) (omega arith)
    (longer 20_000 (omega arith) (omega arith)
    (longer 2_000 (omega arith) (omega arith) (longer 200 (omega arith) (omega arith) (longer 20 (omega arith) (omega arith) (digit 2 (omega arith)))))))

pub sample : Sample
unfolding each head_of record_of operation_of by_number head_text record_text transfer_text
sample =
    record {
      head = refl;
      first = refl;
      head-written = refl;
      first-written = refl;
      printed =
          rw (
            two-million,
            digit 0 (omega arith),
            digit 1 (omega arith),
            digit 2 (omega arith),
            digit 3 (omega arith),
            digit 6 (omega arith),
            digit 7 (omega arith),
            digit 9 (omega arith),
          ) refl;
      negative = ap (λ (l : List ℕ). 45 ∷ l) (longer 12 (omega arith) (omega arith) (digit 1 (omega arith)));
    }
