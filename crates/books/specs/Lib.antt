-- The lent words and the books that they hold: how words are read and written, when they are good, and what a call is on them.
-- A reader believes `Layout`, `Tables`, `Words`, `Fresh` and `Runs`; what functions on rows ask and say is in `inner`.
pub mod Layout
pub mod Tables
pub mod Words
pub mod Fresh
pub mod Runs
pub mod inner
