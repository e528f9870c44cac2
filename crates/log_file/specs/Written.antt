-- A text in a lent buffer.
use Rattle.std.specs.Prelude.{◌≡◌, List, ◌++◌, ℕ, ◌+◌, length, take, drop}
use Rattle.log_file.specs.declared.texts.Text.{Text}

-- the buffer with a text from `at` on, and every other byte as it was
abbrev pub written : List ℕ → ℕ → List ℕ → List ℕ
written before at text = take at before ++ text ++ drop (at + length text) before

-- a text was written into the same buffer, from the place on that it was written up to
pub record Wrote (before : Text) (text : List ℕ) (after : Text) : Type 0 where
  pub bytes : after.bytes.now ≡ written before.bytes.now before.at text
  -- and now it is written up to the place behind the text
  pub place : after.at ≡ before.at + length text
  pub same_buffer : after.bytes.ghost_name ≡ before.bytes.ghost_name
