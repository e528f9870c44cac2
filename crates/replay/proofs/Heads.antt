-- A log's head: where it begins a set it is whole, where it begins none the tables stay; and what is printed from it on.
use Rattle.std.proofs.Common.{◌≡◌, refl, sym, ap, subst, ◌∙◌, Bool, true, false, cond, not, ◌&&◌, Option, Some, None, List, ◌++◌, ℕ, ◌+◌, ◌≤◌, ◌<◌, length, take, drop, arith}
use mathlib.Core.Bool.{false≢true, true≢false}
use Rattle.std.specs.Option.{is_some}
use borrow.Author.Tests.{eqb-true}
use lib.Dec.{eqb}
use lib.Seq.{take-append_seam, take_at}
use Rattle.std.proofs.lemmas.List.{drop_at, take_all, length-take-le}
use Rattle.std.specs.Io.KnownBytes.{Appends, Consumes, IsAtEnd}
use Rattle.std.proofs.KnownBytes.{Consumes-trans, Appends-trans}
use Rattle.rules.specs.Limits.{is_number}
use Rattle.rules.specs.declared.Account.{Account}
use Rattle.rules.specs.Answers.{Malformed, BadTables}
use Rattle.rules.specs.Books.{fresh}
use Rattle.books.specs.Words.{Tables, words_of}
use Rattle.books.specs.Runs.{run_words}
use Rattle.books.specs.Fresh.{rooms_of, lent, renewed, fresh_words}
use Rattle.log_file.specs.Bytes.{word_at}
use Rattle.log_file.specs.Opening.{head_bytes, named, versioned, head_of}
use Rattle.log_file.specs.Lines.{opening_text, bad_head_text}
use Rattle.history.specs.declared.turns.Turn.{Turn}
use Rattle.history.specs.Beginning.{opened_by, opened}
use Rattle.history.specs.Replays.{calls_of}
use Rattle.history.specs.Turns.{Started, beginning, started, start_of}
use Rattle.replay.specs.Printed.{records_text, Replayed}
use Rattle.replay.specs.Telling.{Ran}

-- a short head is bad
opened-whole : (t : Tables) (head : List ℕ) → (opened t head).code ≡ 0 → length head ≡ head_bytes
unfolding opened head_of
opened-whole t head done = go (eqb (length head) head_bytes) refl done
  where
    go : (b : Bool) → eqb (length head) head_bytes ≡ b
        → (opened_by t (cond (b && named head && versioned head && not (eqb (word_at head 8) 0)) (Some (record { 0 = word_at head 8 })) None)).code ≡ 0 → length head ≡ head_bytes
    go true e done = eqb-true (length head) head_bytes e
    go false e done = absurd (omega (arith, done))

-- a bad one leaves the tables
fresh-kept : (t : Tables) (admin : Account) → eqb (fresh_words t admin).code 0 ≡ false → (fresh_words t admin).tables ≡ t
unfolding fresh_words
fresh-kept t admin = go (is_number admin.0) (lent t)
  where
    go : (n l : Bool) → eqb (cond n (cond l (renewed 0 (words_of (fresh admin (rooms_of t)))) (renewed BadTables t)) (renewed Malformed t)).code 0 ≡ false
        → (cond n (cond l (renewed 0 (words_of (fresh admin (rooms_of t)))) (renewed BadTables t)) (renewed Malformed t)).tables ≡ t
    go true true bad = absurd (true≢false bad)
    go true false bad = refl
    go false l bad = refl

opened-kept : (t : Tables) (head : List ℕ) → eqb (opened t head).code 0 ≡ false → (opened t head).tables ≡ t
unfolding opened
opened-kept t head = go (head_of head)
  where
    go : (h : Option Account) → eqb (opened_by t h).code 0 ≡ false → (opened_by t h).tables ≡ t
    go (Some admin) bad = fresh-kept t admin bad
    go None bad = refl

module _ (t : Tables) (head room : List ℕ) (within : length head ≤ head_bytes) (first : Turn) (t₁ : Tables) (text₁ : List ℕ) (is : started first t₁ text₁ ≡ start_of t head room)
    (known left out out₁ : Option (List ℕ)) (came : Consumes known left head) (short : length head < head_bytes → IsAtEnd left) (printed : Appends out out₁ (take first.printed text₁)) where
  front : take head_bytes head ≡ head
  front = take_all head_bytes head within

  -- what the head's text leaves in the room
  shown : (text : List ℕ) → take (length text) (text ++ drop (0 + length text) room) ≡ text
  shown text = take-append_seam text (drop (0 + length text) room)

  bad-head : is_some first.next ≡ false → Replayed t t₁ known left out out₁
  unfolding start_of
  bad-head stop = go (eqb (opened t head).code 0) refl is
    where
      go : (b : Bool) → eqb (opened t head).code 0 ≡ b
          → started first t₁ text₁
          ≡ started (record { place = beginning; printed = length (cond b opening_text bad_head_text); next = cond b (Some beginning) None }) (opened t head).tables (cond b opening_text bad_head_text ++ drop (0 + length (cond b opening_text bad_head_text)) room)
          → Replayed t t₁ known left out out₁
      go true code e = absurd (true≢false (sym (ap (λ (x : Started). is_some x.turn.next) e) ∙ stop))
      go false code e =
          let told : Appends out out₁ bad_head_text = subst (Appends out out₁) (ap (λ (x : Started). take x.turn.printed x.text) e ∙ shown bad_head_text) printed in
          let bad : (opened t (take head_bytes head)).code ≡ 0 → ⊥ =
          λ done. false≢true (sym code ∙ ap (λ (s : List ℕ). eqb (opened t s).code 0) (sym front) ∙ ap (λ (n : ℕ). eqb n 0) done) in
          record {
            log = head;
            came = came;
            all = λ done. absurd (bad done);
            head_alone = λ none. within;
            short = short;
            words = rw (front, code) (ap (λ (x : Started). x.tables) e ∙ opened-kept t head code);
            printed = subst (Appends out out₁) (sym (ap (λ (s : List ℕ). cond (eqb (opened t s).code 0) (opening_text ++ records_text (opened t s).tables (drop head_bytes head)) bad_head_text) front ∙ ap (λ (b : Bool). cond b (opening_text ++ records_text (opened t head).tables (drop head_bytes head)) bad_head_text) code)) told;
          }

  good-head : (t₂ : Tables) (left₂ out₂ : Option (List ℕ)) → is_some first.next ≡ true → Ran t₁ t₂ left left₂ out₁ out₂ → Replayed t t₂ known left₂ out out₂
  unfolding start_of
  good-head t₂ left₂ out₂ on r = go (eqb (opened t head).code 0) refl is
    where
      go : (b : Bool) → eqb (opened t head).code 0 ≡ b
          → started first t₁ text₁
          ≡ started (record { place = beginning; printed = length (cond b opening_text bad_head_text); next = cond b (Some beginning) None }) (opened t head).tables (cond b opening_text bad_head_text ++ drop (0 + length (cond b opening_text bad_head_text)) room)
          → Replayed t t₂ known left₂ out out₂
      go false code e = absurd (false≢true (sym (ap (λ (x : Started). is_some x.turn.next) e) ∙ on))
      go true code e =
          let told : Appends out out₁ opening_text = subst (Appends out out₁) (ap (λ (x : Started). take x.turn.printed x.text) e ∙ shown opening_text) printed in
          let begun : t₁ ≡ (opened t head).tables = ap (λ (x : Started). x.tables) e in
          let whole : length head ≡ head_bytes = opened-whole t head (eqb-true (opened t head).code 0 code) in
          let head-is : take head_bytes (head ++ r.log) ≡ head = take_at head r.log head_bytes whole in
          let rest-is : drop head_bytes (head ++ r.log) ≡ r.log = drop_at head r.log head_bytes whole in
          record {
            log = head ++ r.log;
            came = Consumes-trans known left left₂ head r.log came r.came;
            all = λ done. r.all;
            head_alone = λ none. absurd (true≢false (sym code ∙ ap (λ (s : List ℕ). eqb (opened t s).code 0) (sym head-is) ∙ none));
            short = λ few. r.all;
            words = rw (head-is, rest-is, code) (r.words ∙ ap (λ (u : Tables). run_words u (calls_of r.log)) begun);
            printed = rw (head-is, rest-is, code) (subst (λ (u : Tables). Appends out out₂ (opening_text ++ records_text u r.log)) begun (Appends-trans out out₁ out₂ opening_text (records_text t₁ r.log) told r.printed));
          }

-- the head as it was read: the first bytes of its buffer
module _ (t : Tables) (bytes : List ℕ) (there : ℕ) (most : there ≤ length bytes) (long : length bytes ≡ head_bytes) (room : List ℕ) (first : Turn) (t₁ : Tables) (text₁ : List ℕ)
    (is : started first t₁ text₁ ≡ start_of t (take there bytes) room) (known left out out₁ : Option (List ℕ)) (came : Consumes known left (take there bytes)) (short : there < head_bytes → IsAtEnd left)
    (printed : Appends out out₁ (take first.printed text₁)) where
  size : length (take there bytes) ≡ there
  size = length-take-le there bytes most

  pub bad-read : is_some first.next ≡ false → Replayed t t₁ known left out out₁
  bad-read = bad-head t (take there bytes) room (omega (arith, size)) first t₁ text₁ is known left out out₁ came (λ few. short (omega (arith, size, few))) printed

  pub good-read : (t₂ : Tables) (left₂ out₂ : Option (List ℕ)) → is_some first.next ≡ true → Ran t₁ t₂ left left₂ out₁ out₂ → Replayed t t₂ known left₂ out out₂
  good-read = good-head t (take there bytes) room (omega (arith, size)) first t₁ text₁ is known left out out₁ came (λ few. short (omega (arith, size, few))) printed
