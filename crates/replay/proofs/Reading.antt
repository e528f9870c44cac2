-- Bytes read behind the first ones.
use Rattle.std.proofs.Common.{◌≡◌, ℕ, ◌+◌, ◌-◌, ◌≤◌, List, ◌++◌, length, take, drop, ap, ap₂, ◌∙◌, arith}
use borrow.Rule.Slice.PartMut.{mid_of, put_mid}
use Rattle.std.proofs.Math.Seq.{take-add}
use Rattle.std.proofs.lemmas.List.{drop_at, drop-append-le, take-append-le, length-take, length-take-le, length-drop}
use Rattle.std.proofs.lemmas.Slice.{take-put_mid_below}

module _ (bytes room : List ℕ) (have there got : ℕ) (before : have ≤ there) (within : there ≤ length bytes) (some : got ≤ length room) where
  -- what came stands behind them
  pub more : drop have (take (there + got) (put_mid there (length bytes - there) bytes room)) ≡ drop have (take there bytes) ++ take got room
  more =
      let after = put_mid there (length bytes - there) bytes room in
      let size : length (take there bytes) ≡ there = length-take-le there bytes within in
      let first : take there after ≡ take there bytes = take-put_mid_below there (length bytes - there) bytes room there (omega arith) within in
      let behind : take got (drop there after) ≡ take got room = ap (take got) (drop_at (take there bytes) _ there size) ∙ take-append-le got room _ some in
      ap (drop have) (take-add there got after ∙ ap₂ ◌++◌ first behind) ∙ drop-append-le have (take there bytes) (take got room) (omega (arith, size))

-- the room behind them
pub room-behind : (bytes : List ℕ) (there : ℕ) → length (mid_of there (length bytes - there) bytes) ≡ length bytes - there
room-behind bytes there = simp (length-take, length-drop) (omega arith)
