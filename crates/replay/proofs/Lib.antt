-- `Reading`: bytes read behind the first ones. `Logs`: the log that a run has come through; `Passed`: the same where its bytes are known.
-- `Heads`: a log from its head on. `Rooms`: the program's tables.
pub mod Reading
pub mod Logs
pub mod Passed
pub mod Heads
pub mod Rooms
