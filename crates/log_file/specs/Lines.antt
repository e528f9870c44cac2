-- The lines that a replay prints.
use Rattle.std.specs.Prelude.{List, [], ◌∷◌, ◌++◌, ℕ, ℤ, get_or}
use Rattle.std.specs.Fmt.{decimal, signed_decimal}
use Rattle.rules.specs.Answers.{Transfer, Answer}

abbrev pub space : ℕ
space = 32

abbrev pub newline : ℕ
newline = 10

-- a text and the byte behind it
abbrev pub followed : List ℕ → ℕ → List ℕ
followed text byte = text ++ (byte ∷ [])

-- two numbers, and the end of the line
abbrev pub pair_text : ℕ → ℕ → List ℕ
pair_text a b = followed (decimal a) space ++ followed (decimal b) newline

-- "`POL` and the version": `POL 1`
abbrev pub opening_text : List ℕ
opening_text = 80 ∷ 79 ∷ 76 ∷ 32 ∷ 49 ∷ 10 ∷ []

-- "A short or wrong head, admin 0 included, prints only `bad header`"
abbrev pub bad_head_text : List ℕ
bad_head_text = 98 ∷ 97 ∷ 100 ∷ 32 ∷ 104 ∷ 101 ∷ 97 ∷ 100 ∷ 101 ∷ 114 ∷ 10 ∷ []

-- "per record its number, code and two numbers"
abbrev pub figures_text : ℕ → ℕ → ℤ → ℤ → List ℕ
figures_text number code first second =
    followed (decimal number) space ++ followed (decimal code) space ++ followed (signed_decimal first) space ++ followed (signed_decimal second) newline

abbrev pub line_text : ℕ → Answer → List ℕ
line_text number a = figures_text number a.code a.first a.second

-- a transfer's: by its kind none, `in` or `out`, with account and amount. "Money paid out prints `out`."
unfoldable pub transfer_text : Transfer → List ℕ
transfer_text t =
    get_or
    ([]
    ∷ ((105 ∷ 110 ∷ 32 ∷ []) ++ pair_text t.account.0 t.amount)
    ∷ ((111 ∷ 117 ∷ 116 ∷ 32 ∷ []) ++ pair_text t.account.0 t.amount)
    ∷ [])
    t.kind
    []

-- of any code and numbers, "then its transfers"
abbrev pub told_text : ℕ → ℕ → ℤ → ℤ → Transfer → Transfer → List ℕ
told_text number code first second one two = figures_text number code first second ++ transfer_text one ++ transfer_text two

abbrev pub answer_text : ℕ → Answer → List ℕ
answer_text number a = line_text number a ++ transfer_text a.one ++ transfer_text a.two

-- "The last line gives records and left-over bytes": `end RECORDS LEFT`
abbrev pub ending_text : ℕ → ℕ → List ℕ
ending_text records left = (101 ∷ 110 ∷ 100 ∷ 32 ∷ []) ++ pair_text records left

-- room for any of them: two numbers of at most 21 bytes with what is behind each, two signed ones of 22, two transfers of 46
abbrev pub longest : ℕ
longest = 178
