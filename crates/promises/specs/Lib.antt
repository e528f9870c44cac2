-- What the theorems speak of, beyond the rules themselves.
pub mod Calls
pub mod Reach
pub mod Roles
pub mod Histories
pub mod Claims
pub mod Shares
pub mod OnWords
