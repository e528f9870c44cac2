-- Texts written one behind the other are one text.
use mathlib.Core.Path.{◌≡◌, refl, sym, ap, subst, ◌∙◌}
use mathlib.Core.List.{List, [], ◌++◌, append_assoc}
use Prim.Native.Nat.{ℕ, ◌+◌, ◌≤◌}
use native.Mathlib.Omega.{arith}
use lib.ListN.{length, take, drop, length-append, length-drop}
use lib.Seq.{length-take-le, take_at, drop-append-add, drop-drop, paste-zero}
use Rattle.log_file.specs.declared.texts.Text.{Text}
use Rattle.log_file.specs.Written.{written, Wrote}

module _ (s t u : List ℕ) (at : ℕ) (room : at ≤ length s) where
  up_to : length (take at s ++ t) ≡ at + length t
  up_to = simp length-append (rw (length-take-le at s room) refl)

  pub written-more : written (written s at t) (at + length t) u ≡ written s at (t ++ u)
  written-more =
      let p = take at s ++ t in
      let rest = drop (at + length t) s in
      let end : at + length t + length u ≡ at + length (t ++ u) = simp length-append (omega arith) in
      let behind : drop (at + length t + length u) (p ++ rest) ≡ drop (at + length t + length u) s =
      ap (λ (n : ℕ). drop (n + length u) (p ++ rest)) (sym up_to) ∙ drop-append-add p rest (length u) ∙ drop-drop (length u) (at + length t) s in
      rw (take_at p rest (at + length t) up_to, behind, append_assoc (take at s) t u, end)

-- the same text
pub wrote_as : {t u : List ℕ} {before after : Text} → t ≡ u → Wrote before t after → Wrote before u after
wrote_as {t} {u} {before} {after} e w = subst (λ (x : List ℕ). Wrote before x after) e w

-- nothing
pub wrote_none : (text : Text) → Wrote text [] text
wrote_none text = record { bytes = paste-zero text.bytes.now text.at []; place = omega arith; same_buffer = refl }

pub wrote-more : {t u : List ℕ} {before between after : Text} → before.at ≤ length before.bytes.now → Wrote before t between → Wrote between u after → Wrote before (t ++ u) after
wrote-more {t} {u} {before} {between} {after} room w v =
    record {
      bytes = v.bytes ∙ rw (w.bytes, w.place) (written-more before.bytes.now t u before.at room);
      place = omega (arith, w.place, v.place, length-append t u);
      same_buffer = v.same_buffer ∙ w.same_buffer;
    }

-- the buffer is as long as it was
pub wrote-length : {text : List ℕ} {before after : Text} → Wrote before text after → before.at + length text ≤ length before.bytes.now → length after.bytes.now ≡ length before.bytes.now
wrote-length {text} {before} {after} w room =
    let s = before.bytes.now in
    rw w.bytes (omega (arith, length-append (take before.at s ++ text) (drop (before.at + length text) s), length-append (take before.at s) text, length-take-le before.at s (omega arith), length-drop (before.at + length text) s))
