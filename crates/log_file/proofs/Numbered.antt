-- What an operation number stands for.
use mathlib.Core.Path.{◌≡◌, refl}
use mathlib.Core.Bool.{Bool, true, false, cond}
use Prim.Native.Nat.{ℕ, zero, suc, ◌<◌}
use native.Mathlib.Omega.{arith}
use lib.ListN.{get_or, get_or-eq_default}
use Rattle.rules.specs.Operations.{line_of}
use Rattle.rules.specs.declared.Operation.TheVariants.{Unknown}
use Rattle.rules.specs.declared.Entry.{Entry}
use Rattle.log_file.specs.Records.{by_number, spares_nil, operation_of}

pub numbered : (e : Entry) (k : ℕ) → e.number ≡ k → operation_of e ≡ cond (spares_nil (line_of k) e) (get_or (by_number e) k Unknown) Unknown
unfolding operation_of
numbered e k p = rw p

unknown : (t : Bool) → cond t Unknown Unknown ≡ Unknown
unknown true = refl
unknown false = refl

case-none : (e : Entry) (n : ℕ) → (0 < n → 9 < n) → get_or (by_number e) n Unknown ≡ Unknown
unfolding by_number
case-none e zero h = refl
case-none e (suc n) h = get_or-eq_default (by_number e) Unknown (h (omega arith))

pub not-numbered : (e : Entry) → (0 < e.number → 9 < e.number) → operation_of e ≡ Unknown
unfolding operation_of
not-numbered e h = rw (case-none e e.number h) (unknown (spares_nil (line_of e.number) e))
