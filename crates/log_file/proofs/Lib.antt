-- `Judged`: a record's code 1 is document 01's list. `Sample`: its sample. `FirstWord`, `Zeros`, `Numbered`: a record's first word, an
-- amount that is 0, and an operation number. `Digits`, `Transfers`, `Writing`: texts of numbers and transfers, and texts one behind the
-- other. `ByteWords`: numbers and their bytes. `SideBySide`, `EntryBack`: an operation and its entry of the log. `RecordBack`, `HeadBack`: records and
-- heads and their bytes. `Writes`: a write by what its tests told. `RoundTrip`: what is written reads back, and what is read writes back.
-- `Told`: what a write of a head or a record comes to, by each of its tests.
pub mod Zeros
pub mod Numbered
pub mod SideBySide
pub mod Judged
pub mod Transfers
pub mod Writing
pub mod ByteWords
pub mod EntryBack
pub mod RecordBack
pub mod HeadBack
pub mod HeadRead
pub mod Writes
pub mod RoundTrip
pub mod Told
pub mod Sample
pub mod Digits
