-- The log's head: "16 bytes: `POL`, 16-bit version 1, three zero bytes, admin (64 bits)".
use Rattle.std.specs.Prelude.{Bool, not, cond, ◌&&◌, Option, Some, None, List, ℕ, eqb, length}
use Rattle.rules.specs.declared.Account.{Account}
use Rattle.log_file.specs.Bytes.{byte_at, word_at}

-- "Head, 16 bytes"
abbrev pub head_bytes : ℕ
head_bytes = 16

-- "`POL`"
abbrev pub named : List ℕ → Bool
named s = eqb (byte_at s 0) 80 && eqb (byte_at s 1) 79 && eqb (byte_at s 2) 76

-- "16-bit version 1, three zero bytes"
abbrev pub versioned : List ℕ → Bool
versioned s = eqb (byte_at s 3) 1 && eqb (byte_at s 4) 0 && eqb (byte_at s 5) 0 && eqb (byte_at s 6) 0 && eqb (byte_at s 7) 0

-- its admin; "A short or wrong head, admin 0 included", has none
unfoldable pub head_of : List ℕ → Option Account
head_of s =
    cond (eqb (length s) head_bytes && named s && versioned s && not (eqb (word_at s 8) 0))
    (Some (record { 0 = word_at s 8 }))
    None
