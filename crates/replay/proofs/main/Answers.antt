-- `main`: its rooms are within the limits.
use Rattle.std.proofs.Common.{refl, sym}
use Rattle.replay.proofs.Rooms.{rooms-lent}
use Rattle.replay.proofs.main.Goals as goal

pub replay_log-replayed-requires-clause-tables_lent : goal.replay_log-replayed-requires-clause-tables_lent
replay_log-replayed-requires-clause-tables_lent c = rooms-lent _ _ _ (sym c.array_of-stakes.ensures) (sym c.array_of-offers.ensures) refl
