-- What the library tells its callers.
pub mod Face
