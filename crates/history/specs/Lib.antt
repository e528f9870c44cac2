-- What a log's head begins; what a part of its records comes to: the tables after them, and the text that they print; and what the replay
-- program does at each.
pub mod Beginning
pub mod Replays
pub mod Buffers
pub mod Turns
pub mod Bounds
