-- The log that a run has come through, where its bytes are known: they are those that it took from the reader, and what they print is printed.
use Rattle.std.proofs.Common.{◌≡◌, refl, sym, ap, ap₂, subst, ◌∙◌, Bool, true, false, cond, Option, Some, None, List, [], ◌++◌, ℕ, ◌+◌, ◌-◌, ◌*◌, ◌/◌, ◌%◌, ◌≤◌, ◌<◌, length, take, drop, arith}
use Rattle.std.proofs.lemmas.Option.{none-some}
use mathlib.Core.List.{append-nil, append_assoc}
use borrow.Author.Tests.{ltb-true}
use lib.Dec.{ltb}
use lib.ListN.{length-append, length-drop, take-append-drop}
use lib.Seq.{length-take-le, take-append_seam, take-take, take_at}
use Rattle.std.proofs.lemmas.List.{drop-take}
use Rattle.std.specs.Io.KnownBytes.{Appends, Consumes, IsAtEnd}
use Rattle.std.proofs.KnownBytes.{Consumes-nil, Consumes-trans, Appends-nil, Appends-trans}
use Rattle.books.specs.Words.{Tables}
use Rattle.books.specs.Runs.{run_words}
use Rattle.log_file.specs.Records.{record_bytes}
use Rattle.log_file.specs.Lines.{ending_text}
use Rattle.history.specs.Replays.{calls_from, calls_of, texts_of, fitting, replayed}
use Rattle.history.specs.Buffers.{at_front}
use Rattle.history.specs.Turns.{Turned, turned, last_turn, part_turn, turn_of}
use Rattle.history.proofs.Parts.{words-parts, texts-parts}
use Rattle.history.proofs.Bytes.{calls-parts, calls-front, calls_count, records-within}
use Rattle.history.proofs.Stops.{fits-within}
use Rattle.history.specs.declared.turns.Position.{Position}
use Rattle.replay.specs.Buffers.{Grown}
use Rattle.replay.specs.Telling.{Told, Ran}
use Rattle.replay.proofs.Logs.{same-place}

-- whole records ran, from the tables t₀ on, and `rest` is read and not yet run
pub record Passed (t₀ : Tables) (known₀ out₀ : Option (List ℕ)) (number : ℕ) (t : Tables) (rest : List ℕ) (known out : Option (List ℕ)) : Type 0 where
  pub log : List ℕ
  pub counted : length log ≡ record_bytes * number
  pub words : t ≡ run_words t₀ (calls_of log)
  pub came : Consumes known₀ known (log ++ rest)
  pub printed : Appends out₀ out (texts_of t₀ 0 (calls_of log))

pub passed-none : (t : Tables) (known out : Option (List ℕ)) (bytes : List ℕ) → Passed t known out 0 t (take 0 bytes) known out
unfolding calls_of calls_from run_words texts_of
passed-none t known out bytes = record { log = []; counted = refl; words = refl; came = Consumes-nil known; printed = Appends-nil out }

-- ---- a part of the log: the first `count` bytes of a buffer, behind what ran

module _ (t₀ : Tables) (known₀ out₀ : Option (List ℕ)) (number : ℕ) (t : Tables) (log : List ℕ) (counted : length log ≡ record_bytes * number) (words : t ≡ run_words t₀ (calls_of log))
    (bytes : List ℕ) (count : ℕ) (within : count ≤ length bytes) (room : List ℕ) (left out out₁ : Option (List ℕ)) (came : Consumes known₀ left (log ++ take count bytes))
    (printed : Appends out₀ out (texts_of t₀ 0 (calls_of log))) where
  -- as many calls as records were counted
  calls : length (calls_of log) ≡ number
  unfolding calls_of
  calls = calls_count (length log / record_bytes) log 0 ∙ omega (arith, counted)

  size : length (take count bytes) ≡ count
  size = length-take-le count bytes within

  -- what records behind those print
  texts-behind : (more : List ℕ) → texts_of t₀ 0 (calls_of (log ++ more)) ≡ texts_of t₀ 0 (calls_of log) ++ texts_of t number (calls_of more)
  texts-behind more =
      let next : 0 + length (calls_of log) ≡ number = omega (arith, calls) in
      ap (texts_of t₀ 0) (calls-parts log more number counted)
      ∙ texts-parts t₀ 0 (calls_of log) (calls_of more)
      ∙ ap₂ (λ (u : Tables) (k : ℕ). texts_of t₀ 0 (calls_of log) ++ texts_of u k (calls_of more)) (sym words) next

  words-behind : (more : List ℕ) → run_words t (calls_of more) ≡ run_words t₀ (calls_of (log ++ more))
  words-behind more = ap (λ (u : Tables). run_words u (calls_of more)) words ∙ sym (words-parts t₀ (calls_of log) (calls_of more)) ∙ ap (run_words t₀) (sym (calls-parts log more number counted))

  -- what the buffer's front keeps of a part
  front-kept : (taken : ℕ) → taken ≤ count → take (count - taken) (at_front bytes taken (count - taken)) ≡ drop taken (take count bytes)
  front-kept taken fits =
      let m : ℕ = count - taken in
      let whole : taken + m ≡ count = omega (arith, fits) in
      let rest : length (drop taken bytes) ≡ length bytes - taken = length-drop taken bytes in
      let long : length (take m (drop taken bytes)) ≡ m = length-take-le m (drop taken bytes) (omega (arith, rest, within, fits)) in
      take_at (take m (drop taken bytes)) (drop m bytes) m long ∙ sym (drop-take taken m bytes) ∙ ap (λ (k : ℕ). drop taken (take k bytes)) whole

  -- a part in which records ran
  passed-part : (r : Turned) (p : Position) → r ≡ part_turn t bytes count room number → r.turn.next ≡ Some p → Appends out out₁ (take r.turn.printed r.text) → Passed t₀ known₀ out₀ p.number r.tables (take p.there r.bytes) left out₁
  unfolding replayed
  passed-part r p e on told =
      let part = take count bytes in
      let n : ℕ = fitting (length room) t number (calls_of part) in
      let fits : n ≤ length (calls_of part) = fits-within (length room) t number (calls_of part) in
      let front = take (record_bytes * n) part in
      let long : length front ≡ record_bytes * n = length-take-le (record_bytes * n) part (records-within part n fits) in
      let ran : take n (calls_of part) ≡ calls_of front = calls-front part n fits in
      let text = texts_of t number (take n (calls_of part)) in
      let shown : take (length text) (text ++ drop (0 + length text) room) ≡ text = take-append_seam text (drop (0 + length text) room) in
      let told' : Appends out out₁ text = subst (Appends out out₁) (ap (λ (x : Turned). take x.turn.printed x.text) e ∙ shown) told in
      rw (same-place (sym on ∙ ap (λ (x : Turned). x.turn.next) e), e) (record {
        log = log ++ front;
        counted = length-append log front ∙ omega (arith, counted, long);
        words = ap (run_words t) ran ∙ words-behind front;
        came =
            subst
            (Consumes known₀ left)
            (ap (λ (s : List ℕ). log ++ s) (sym (take-append-drop (record_bytes * n) part))
            ∙ sym (append_assoc log front (drop (record_bytes * n) part))
            ∙ ap (λ (s : List ℕ). (log ++ front) ++ s) (sym (front-kept (record_bytes * n) (omega (arith, records-within part n fits, size)))))
            came;
        printed =
            subst
            (Appends out₀ out₁)
            (ap (λ (c : _). texts_of t₀ 0 (calls_of log) ++ texts_of t number c) ran ∙ sym (texts-behind front))
            (Appends-trans out₀ out out₁ (texts_of t₀ 0 (calls_of log)) text printed told');
      })

  -- bytes that are no whole record end the log
  ran-last : count < record_bytes → IsAtEnd left → (r : Turned) → r ≡ last_turn t bytes count room number → Appends out out₁ (take r.turn.printed r.text) → Ran t₀ r.tables known₀ left out₀ out₁
  unfolding calls_of calls_from
  ran-last short all r e told =
      let part = take count bytes in
      let none : length part / record_bytes ≡ 0 = omega (arith, size, short) in
      let whole : length (log ++ part) ≡ record_bytes * number + count = length-append log part ∙ omega (arith, size, counted) in
      let records : length (log ++ part) / record_bytes ≡ number = omega (arith, whole, short) in
      let over : length (log ++ part) % record_bytes ≡ count = omega (arith, whole, short) in
      let last = ending_text number count in
      let shown : take (length last) (last ++ drop (0 + length last) room) ≡ last = take-append_seam last (drop (0 + length last) room) in
      let told' : Appends out out₁ last = subst (Appends out out₁) (ap (λ (x : Turned). take x.turn.printed x.text) e ∙ shown) told in
      let empty : calls_of part ≡ [] = ap (λ (k : ℕ). calls_from k part 0) none in
      let same : calls_of (log ++ part) ≡ calls_of log = calls-parts log part number counted ∙ ap (λ (c : _). calls_of log ++ c) empty ∙ append-nil (calls_of log) in
      rw e (record {
        log = log ++ part;
        came = came;
        all = all;
        words = words ∙ ap (run_words t₀) (sym same);
        printed =
            subst
            (Appends out₀ out₁)
            (ap₂ ◌++◌ (ap (texts_of t₀ 0) (sym same)) (ap₂ ending_text (sym records) (sym over)))
            (Appends-trans out₀ out out₁ (texts_of t₀ 0 (calls_of log)) last printed told');
      })

-- ---- a turn of the program

-- what was there, and behind it what came
came-parts : (before : List ℕ) (there : ℕ) (came : List ℕ) (count : ℕ) → Grown before there came count → take there before ++ drop there (take count came) ≡ take count came
came-parts before there came count g =
    ap (λ (front : List ℕ). front ++ drop there (take count came)) (sym g.kept ∙ sym (take-take there count came g.least)) ∙ take-append-drop there (take count came)

module _ (t₀ : Tables) (known₀ out₀ : Option (List ℕ)) (number : ℕ) (t : Tables) (bytes text : List ℕ) (there : ℕ) (t₁ : Tables) (bytes₁ text₁ : List ℕ) (known left out out₁ : Option (List ℕ))
    (h : Passed t₀ known₀ out₀ number t (take there bytes) known out) where
  -- all that was read, with what this turn read
  read : {next : Option Position} (k : Told t bytes text number there t₁ bytes₁ text₁ known left out out₁ next) → Consumes known₀ left (h.log ++ take k.took.count k.took.came)
  read k =
      let front = take there bytes in
      let back = drop there (take k.took.count k.took.came) in
      subst
      (Consumes known₀ left)
      (append_assoc h.log front back ∙ ap (λ (s : List ℕ). h.log ++ s) (came-parts bytes there k.took.came k.took.count k.took.grown))
      (Consumes-trans known₀ known left (h.log ++ front) back h.came k.came)

  pub passed-on : (p : Position) → Told t bytes text number there t₁ bytes₁ text₁ known left out out₁ (Some p) → Passed t₀ known₀ out₀ p.number t₁ (take p.there bytes₁) left out₁
  unfolding turn_of
  passed-on p w = go (ltb w.took.count record_bytes) w.took.is
    where
      go : (b : Bool) → turned w.took.done t₁ bytes₁ text₁ ≡ cond b (last_turn t w.took.came w.took.count text number) (part_turn t w.took.came w.took.count text number)
          → Passed t₀ known₀ out₀ p.number t₁ (take p.there bytes₁) left out₁
      go true e = absurd (none-some p (sym (ap (λ (x : Turned). x.turn.next) e) ∙ w.took.goes))
      go false e =
          let k = w.took in
          passed-part t₀ known₀ out₀ number t h.log h.counted h.words k.came k.count k.grown.most text left out out₁ (read w) h.printed _ p e k.goes w.printed

  pub told-ran : Told t bytes text number there t₁ bytes₁ text₁ known left out out₁ None → Ran t₀ t₁ known₀ left out₀ out₁
  unfolding turn_of
  told-ran w = go (ltb w.took.count record_bytes) refl w.took.is
    where
      go : (b : Bool) → ltb w.took.count record_bytes ≡ b → turned w.took.done t₁ bytes₁ text₁ ≡ cond b (last_turn t w.took.came w.took.count text number) (part_turn t w.took.came w.took.count text number) → Ran t₀ t₁ known₀ left out₀ out₁
      go true short e =
          let k = w.took in
          let less = ltb-true k.count record_bytes short in
          ran-last t₀ known₀ out₀ number t h.log h.counted h.words k.came k.count k.grown.most text left out out₁ (read w) h.printed less (w.all less) _ e w.printed
      go false short e = absurd (none-some _ (sym w.took.goes ∙ ap (λ (x : Turned). x.turn.next) e))
