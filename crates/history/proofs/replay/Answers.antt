-- `replay` meets its contract. The loop's invariant: how far it has come (`Reached`), and each slice as long as it was.
use Rattle.std.proofs.Common.{rules, List, ◌≡◌, ◌+◌, ◌-◌, ◌*◌, ◌/◌, ◌<◌, ℕ, refl, ap, ◌∙◌, inl, inr, ◌⊎◌, length, arith}
use Rattle.rules.specs.Answers.{answer_of}
use Rattle.books.specs.Words.{Tables, tables, step_words}
use Rattle.log_file.specs.Records.{record_bytes}
use Rattle.log_file.specs.Lines.{longest}
use Rattle.history.specs.declared.Progress.{Progress}
use Rattle.history.specs.Replays.{PartRun, part_run, replayed}
use Rattle.history.specs.Bounds.{Bounded}
use Rattle.log_file.proofs.Writing.{wrote-length}
use Rattle.history.proofs.Bytes.{chunk-record}
use Rattle.history.proofs.Reached.{reached-start, reached-next, stops-here}
use Rattle.history.proofs.replay.Goals as goal
use Rattle.history.proofs.replay.Goals.{Left-loop-record, else-loop-record-test, then-loop-record-test+then-text-lt-LONGEST}

pub loop-record-init : goal.loop-record-init
loop-record-init c = (reached-start (tables c.args.stakes.now c.args.offers.now c.args.books.now) c.args.records.now c.args.text.now c.args.number c.requires.tables_good, refl, refl, refl, refl)

pub loop-record-preserved : goal.loop-record-preserved
loop-record-preserved c =
    let l = c.loop-record in
    let i = l.invariant in
    let t₀ : Tables = tables c.args.stakes.now c.args.offers.now c.args.books.now in
    let t : Tables = tables l.stakes l.offers l.books in
    let m : ℕ = length c.args.records.now / record_bytes in
    let here : l.record-index < m = omega (arith, c.loop-record-test.true, c.as_chunks.ensures.front_len) in
    let call = (rw c.as_chunks.ensures.front at c.read_record-call.ensures.value) ∙ chunk-record m c.args.records.now l.record-index here (omega arith) in
    let next : record_bytes * l.record-index + record_bytes ≡ record_bytes * (l.record-index + 1) = omega arith in (
      rw (← next) (reached-next t₀ c.args.records.now c.args.text.now c.args.number t l.text.bytes.now l.done (record_bytes * l.record-index) l.text.at i.0
          (omega (arith, here))
          (omega (arith, c.if-text-lt-LONGEST, i))
          (answer_of c.act-answer.result) _ _ _ (c.act-answer.ensures ∙ ap (step_words t) call) c.write_answer.ensures.wrote.bytes c.write_answer.ensures.wrote.place c.write_answer.ensures.upper_bound),
      c.act-answer.auto.stakes ∙ i.1,
      c.act-answer.auto.offers ∙ i.2,
      wrote-length c.write_answer.ensures.wrote (omega (arith, c.write_answer.ensures.wrote.place, c.write_answer.ensures.upper_bound, c.if-text-lt-LONGEST, i)) ∙ i.3,
      c.write_answer.ensures.wrote.same_buffer ∙ i.4,
    )

-- where it stopped, for want of a record or of room
module _ (c : Left-loop-record) where
  stopped : (length c.args.records.now - record_bytes * c.loop-record.record-index < record_bytes) ⊎ (length c.args.text.now - c.loop-record.text.at < longest)
  stopped =
      elim c.loop-record-test.branch [
        | else-loop-record-test w ↦ inl (omega (arith, w.loop-record-test.false, c.as_chunks.ensures.front_len))
        | then-loop-record-test+then-text-lt-LONGEST w ↦ inr (omega (arith, w.if-text-lt-LONGEST, c.loop-record.invariant))
      ]

  counted : record_bytes * c.loop-record.record-index ≡ 48 * (c.loop-record.done - c.args.number)
  counted = omega (arith, c.loop-record.invariant.0.numbered, c.loop-record.invariant.0.placed)

  here : let l = c.loop-record in
      let p : Progress = record { number = l.done; taken = 48 * (l.done - c.args.number); printed = l.text.at } in
      let t : Tables = tables l.stakes l.offers l.books in
      (part_run p t l.text.bytes.now ≡ replayed (tables c.args.stakes.now c.args.offers.now c.args.books.now) c.args.records.now c.args.text.now c.args.number) × Bounded t c.args.records.now c.args.text.now c.args.number p
  here =
      let l = c.loop-record in
      rw (← counted) (stops-here (tables c.args.stakes.now c.args.offers.now c.args.books.now) c.args.records.now c.args.text.now c.args.number (tables l.stakes l.offers l.books) l.text.bytes.now l.done (record_bytes * l.record-index) l.text.at l.invariant.0 stopped)

-- the lent buffer is left as the text's
left : {p : Progress} {t : Tables} {text after : List ℕ} {r : PartRun} → after ≡ text → part_run p t text ≡ r → part_run p t after ≡ r
left {p} {t} e h = ap (part_run p t) e ∙ h

pub returns-clause-text_after : goal.returns-clause-text_after
returns-clause-text_after c = left (search rules) (here (goal.at.returns-clause-text_after c).Left-loop-record).0

pub returns-clause-bounded : goal.returns-clause-bounded
returns-clause-bounded c = (here (goal.at.returns-clause-bounded c).Left-loop-record).1
