-- A write by what its tests told, and what stands in the buffer after it.
use mathlib.Core.Path.{◌≡◌, sym, ap, ◌∙◌}
use mathlib.Core.Bool.{Bool, true, false}
use mathlib.Core.List.{List, ◌++◌, append_assoc}
use Prim.Native.Nat.{ℕ, ◌+◌, ◌-◌, ◌≤◌, ◌<◌}
use native.Mathlib.Omega.{arith}
use borrow.Author.Tests.{lt-ltb, le-ltb}
use lib.ListN.{length, take, drop, length-drop, take-append-drop}
use lib.Seq.{length-take-le, drop_at, take-add}
use Rattle.rules.specs.declared.refusal.Refusal.TheVariants.{Malformed, TableFull}
use Rattle.std.specs.Prelude.{Ok, Err}
use Rattle.log_file.specs.Written.{written}
use Rattle.log_file.specs.Writer.{after, room_left, writes}

module _ {bad : Bool} (s : List ℕ) (at : ℕ) (text : List ℕ) where
  pub writes-bad : bad ≡ true → after (Err Malformed) s ≡ writes bad s at text
  unfolding writes
  writes-bad e = rw e

  module _ (good : bad ≡ false) where
    pub writes-full : room_left s at < length text → after (Err TableFull) s ≡ writes bad s at text
    unfolding writes
    writes-full h = rw (good, lt-ltb (length s - at) (length text) h)

    pub writes-done : length text ≤ room_left s at → after (Ok (length text)) (written s at text) ≡ writes bad s at text
    unfolding writes
    writes-done h = rw (good, le-ltb (length s - at) (length text) h)

-- what is written stands from its place on
pub written_from : (s : List ℕ) (at : ℕ) (text : List ℕ) → at ≤ length s → drop at (written s at text) ≡ text ++ drop (at + length text) s
written_from s at text h =
    let rest = drop (at + length text) s in
    ap (drop at) (append_assoc (take at s) text rest) ∙ drop_at (take at s) (text ++ rest) at (length-take-le at s h)

-- what stands there already changes nothing
pub written_same : (s : List ℕ) (at k : ℕ) → at + k ≤ length s → written s at (take k (drop at s)) ≡ s
written_same s at k h =
    let long : length (take k (drop at s)) ≡ k = length-take-le k (drop at s) (omega (arith, length-drop at s)) in
    ap (λ (n : ℕ). take at s ++ take k (drop at s) ++ drop (at + n) s) long ∙ ap (λ (l : List ℕ). l ++ drop (at + k) s) (sym (take-add at k s)) ∙ take-append-drop (at + k) s
