-- A table of rows of w words each in a list s of words: row i is the words i * w .. i * w + w - 1. A row is used where its number is not 0.
use Rattle.std.specs.Prelude.{Bool, true, ◌&&◌, List, [], ◌∷◌, ℕ, ◌+◌, ◌*◌, ◌^◌, ◌<◌, eqb, get_or, replicate}

-- a row begins with its key: the pool, then the number
abbrev pub pool_word : ℕ
pool_word = 0

abbrev pub number_word : ℕ
number_word = 1

-- n words, each 0
abbrev pub zeros : ℕ → List ℕ
zeros n = replicate n 0

-- word k of row i
abbrev pub word : List ℕ → ℕ → ℕ → ℕ → ℕ
word s w i k = get_or s (i * w + k) 0

-- a row's key as one number: the pool, then the number, each 64 bits. The order of keys is the order of the pairs.
abbrev pub key_of : ℕ → ℕ → ℕ
key_of pool number = pool * 2 ^ 64 + number

-- the key of row i
abbrev pub key_at : List ℕ → ℕ → ℕ → ℕ
key_at s w i = key_of (word s w i pool_word) (word s w i number_word)

-- the first n rows ascend strictly by key
abbrev pub Sorted : List ℕ → ℕ → ℕ → Type 0
Sorted s w n = (i j : ℕ) → i < j → j < n → key_at s w i < key_at s w j

-- whether every word is 0
abbrev pub all_zero : List ℕ → Bool
all_zero [] = true
all_zero (x ∷ s) = eqb x 0 && all_zero s
