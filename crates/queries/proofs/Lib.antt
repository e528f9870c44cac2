-- What queries read of good tables, and in which order they answer.
pub mod QueryOrder
pub mod QueryRows
pub mod QueryCodes
pub mod LookupOrder
