use Rattle.std.proofs.Common.{rules, ◌≡◌, get_or, refl}
use Rattle.std.proofs.iter.runs.Sources.{ranges}
use Rattle.losses.proofs.settle.last_sharer.Goals as goal

pub unwrap-requires : goal.unwrap-requires
unwrap-requires c =
    let s = c.args.stakes.now in
    let k = c.requires.some_sharer.row in
    let n = c.requires.some_sharer.some in
    let t : get_or s k 0 ≡ get_or s k 0 = refl in search (rules, ranges)

pub returns : goal.returns
returns c = record {
  inside = search (rules, ranges);
  before = search (rules, ranges);
  some = search (rules, ranges);
  after = λ j p q. let s = c.args.stakes.now in let t : get_or s j 0 ≡ get_or s j 0 = refl in search (rules, ranges);
}
