-- What a log is, how it is written, and what a replay prints.
pub mod Bytes
pub mod Opening
pub mod Records
pub mod Malformed
pub mod Written
pub mod Lines
pub mod Writer
pub mod RoundTrips
pub mod Sample
