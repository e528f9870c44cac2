-- A head's admin and its bytes, both ways.
use mathlib.Core.Path.{◌≡◌, refl, sym, ap, ◌∙◌}
use mathlib.Core.Bool.{Bool, true, false, not, cond, ◌&&◌}
use Rattle.std.specs.Prelude.{Option, Some, None}
use Rattle.std.proofs.lemmas.Option.{none-some}
use mathlib.Core.List.{List, [], ◌∷◌, ◌++◌}
use Prim.Native.Nat.{ℕ}
use native.Mathlib.Omega.{arith}
use borrow.Author.Tests.{eqb-true, ne_eqb}
use lib.Dec.{eqb}
use lib.ListN.{length}
use lib.Seq.{take_all}
use Rattle.rules.specs.Limits.{is_number}
use Rattle.rules.specs.declared.Account.{Account}
use Rattle.rules.proofs.Tests.{and_left, and_right, number_read}
use Rattle.log_file.specs.Bytes.{byte_at, word_at, bytes_of, AreBytes}
use Rattle.log_file.specs.Opening.{head_bytes, named, versioned, head_of}
use Rattle.log_file.specs.Writer.{head_text}
use Rattle.log_file.proofs.ByteWords.{of-its-bytes, bytes_at, bytes-taken, bytes_back}

pub head_read : (admin : Account) → is_number admin.0 ≡ true → head_of (head_text admin) ≡ Some admin
unfolding head_of head_text
head_read admin h =
    let n = number_read admin.0 h in
    ap (λ (w : ℕ). cond (not (eqb w 0)) (Some (record { 0 = w })) None) (of-its-bytes 8 admin.0 n.word) ∙ rw (ne_eqb admin.0 0 (omega arith))

abbrev admin_in : Option Account → ℕ
admin_in (Some a) = a.0
admin_in None = 0

pub head-written : (s : List ℕ) (admin : Account) → AreBytes s → head_of s ≡ Some admin → head_text admin ≡ s
unfolding head_of head_text
head-written s admin are h = go (eqb (length s) head_bytes && named s && versioned s && not (eqb (word_at s 8) 0)) refl h
  where
    go : (t : Bool) → (eqb (length s) head_bytes && named s && versioned s && not (eqb (word_at s 8) 0)) ≡ t → cond t (Some (record { 0 = word_at s 8 })) None ≡ Some admin → (80 ∷ 79 ∷ 76 ∷ 1 ∷ 0 ∷ 0 ∷ 0 ∷ 0 ∷ []) ++ bytes_of 8 admin.0 ≡ s
    go true e h =
        let long : length s ≡ head_bytes = search (and_left, and_right, eqb-true) in
        let e0 : byte_at s 0 ≡ 80 = search (and_left, and_right, eqb-true) in
        let e1 : byte_at s 1 ≡ 79 = search (and_left, and_right, eqb-true) in
        let e2 : byte_at s 2 ≡ 76 = search (and_left, and_right, eqb-true) in
        let e3 : byte_at s 3 ≡ 1 = search (and_left, and_right, eqb-true) in
        let e4 : byte_at s 4 ≡ 0 = search (and_left, and_right, eqb-true) in
        let e5 : byte_at s 5 ≡ 0 = search (and_left, and_right, eqb-true) in
        let e6 : byte_at s 6 ≡ 0 = search (and_left, and_right, eqb-true) in
        let e7 : byte_at s 7 ≡ 0 = search (and_left, and_right, eqb-true) in
        let word = ap (bytes_of 8) (sym (ap admin_in h)) ∙ bytes_back s are 8 8 in
        let path : (80 ∷ 79 ∷ 76 ∷ 1 ∷ 0 ∷ 0 ∷ 0 ∷ 0 ∷ []) ++ bytes_of 8 admin.0 ≡ bytes_at 16 0 s =
        λ i. (sym e0 i ∷ sym e1 i ∷ sym e2 i ∷ sym e3 i ∷ sym e4 i ∷ sym e5 i ∷ sym e6 i ∷ sym e7 i ∷ []) ++ word i in
        path ∙ bytes-taken 16 0 s (omega arith) ∙ take_all 16 s (omega arith)
    go false e h = absurd (none-some admin h)
