-- `start` meets its contract, by whether a set was begun.
use Rattle.std.proofs.Common.{rules, ◌≡◌, sym, ap, ◌∙◌, subst, true}
use Rattle.books.specs.Words.{tables, good_tables}
use Rattle.books.specs.Fresh.{Renewed}
use Rattle.history.proofs.Heads.{opened-good, refused-coded, done-coded}
use Rattle.history.proofs.Turning.{start-bad, start-good}
use Rattle.history.proofs.turns.start.Goals as goal

pub returns-then-is_err-clause-text_after : goal.returns-then-is_err-clause-text_after
returns-then-is_err-clause-text_after c =
    start-bad (tables c.args.stakes.now c.args.offers.now c.args.books.now) c.args.head.now c.args.text.now _ _ c.begin.ensures _ _ (refused-coded c.begin.result c.if-is_err.ensures.negation) (search rules) c.write_bad_head.ensures.wrote.place

pub returns-clause-text_after : goal.returns-clause-text_after
returns-clause-text_after c =
    start-good (tables c.args.stakes.now c.args.offers.now c.args.books.now) c.args.head.now c.args.text.now _ _ c.begin.ensures _ _ (done-coded c.begin.result c.if-is_err.ensures.negation) (search rules) c.write_opening.ensures.wrote.place

pub returns-clause-good_to_go_on : goal.returns-clause-good_to_go_on
returns-clause-good_to_go_on c =
    let coded = sym (ap (λ (r : Renewed). r.code) c.begin.ensures) ∙ done-coded c.begin.result c.if-is_err.ensures.negation in
    subst (λ (r : Renewed). good_tables r.tables ≡ true) (sym c.begin.ensures) (opened-good (tables c.args.stakes.now c.args.offers.now c.args.books.now) c.args.head.now c.requires.tables_lent coded)
