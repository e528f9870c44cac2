-- Calls in two parts: the tables and the text of the second go on from the first.
use mathlib.Core.Path.{◌≡◌, refl, ap}
use mathlib.Core.List.{List, [], ◌∷◌, ◌++◌, append_assoc}
use Prim.Native.Nat.{ℕ, suc, ◌+◌}
use native.Mathlib.Omega.{arith}
use lib.ListN.{length}
use Rattle.rules.specs.declared.Call.{Call}
use Rattle.books.specs.Words.{Tables, step_words}
use Rattle.books.specs.Runs.{run_words}
use Rattle.history.specs.Replays.{text_of, texts_of}

pub words-parts : (t : Tables) (a b : List Call) → run_words t (a ++ b) ≡ run_words (run_words t a) b
unfolding run_words
words-parts t [] b = refl
words-parts t (c ∷ a) b = words-parts (step_words t c).tables a b

pub texts-parts : (t : Tables) (number : ℕ) (a b : List Call) → texts_of t number (a ++ b) ≡ texts_of t number a ++ texts_of (run_words t a) (number + length a) b
unfolding run_words texts_of
texts-parts t number [] b =
    let e : number ≡ number + 0 = omega arith in
    ap (λ (n : ℕ). texts_of t n b) e
texts-parts t number (c ∷ a) b =
    let e : number + 1 + length a ≡ number + suc (length a) = omega arith in
    rw (texts-parts (step_words t c).tables (number + 1) a b, e, append_assoc (text_of t number c) (texts_of (step_words t c).tables (number + 1) a))
