-- `fresh` meets its contract, refusal by refusal and then as it is done (`Opened`).
use Rattle.std.proofs.Common.{ℕ, ◌^◌, ◌<◌, List, length, sym, ap, ◌∙◌, arith}
use lib.ListN.{set, length-replicate}
use Rattle.books.specs.Layout.{admin_word}
use Rattle.books.specs.Words.{Tables, tables}
use Rattle.books.specs.Fresh.{renewed}
use Rattle.books.proofs.Good.{same_tables}
use Rattle.books.proofs.Opened.{lent-known, fresh-no-admin, fresh-not-lent, fresh-done}
use Rattle.books.proofs.opening.fresh.Goals as goal

pub returns-then-admin-eq0 : goal.returns-then-admin-eq0
returns-then-admin-eq0 c = fresh-no-admin (tables c.args.stakes.now c.args.offers.now c.args.books.now) c.args.admin c.if-admin-eq0.true

pub returns-then-not-is_lent : goal.returns-then-not-is_lent
returns-then-not-is_lent c =
    let word : c.args.admin.0 < 2 ^ 64 = omega arith in
    fresh-not-lent (tables c.args.stakes.now c.args.offers.now c.args.books.now) c.args.admin c.if-admin-eq0.false word (sym c.is_lent.ensures ∙ c.if-not-is_lent.true)

pub bounds-books-8 : goal.bounds-books-8
bounds-books-8 c =
    omega (arith, ap length (c.fill-3.ensures.after (λ y e. e)), length-replicate {A = ℕ} (length c.args.books.now) 0, (lent-known c.is_lent.ensures c.if-not-is_lent.false).sized)

pub returns : goal.returns
returns c =
    let word : c.args.admin.0 < 2 ^ 64 = omega arith in
    let w = ap (λ (l : List ℕ). set l admin_word c.args.admin.0) (c.fill-3.ensures.after (λ y e. e)) in
    ap (λ (x : Tables). renewed 0 x) (same_tables (c.fill.ensures.after (λ y e. e)) (c.fill-2.ensures.after (λ y e. e)) w)
    ∙ fresh-done (tables c.args.stakes.now c.args.offers.now c.args.books.now) c.args.admin c.if-admin-eq0.false word (sym c.is_lent.ensures ∙ c.if-not-is_lent.false)
