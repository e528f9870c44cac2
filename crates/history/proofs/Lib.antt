-- `Parts`: calls in two parts. `Bytes`: a log's records in two parts. `Reached`: how far a replay has come, for its loop.
-- `Stops`: where a replay stops. `InParts`: a log that comes in parts is run as the whole is.
-- `Heads`: the tables that a head begins. `Turning`: a turn, case by case.
pub mod Parts
pub mod Bytes
pub mod Reached
pub mod Stops
pub mod InParts
pub mod Heads
pub mod Turning
