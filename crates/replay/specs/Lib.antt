-- The input's buffer, the program's loop, and what it prints of a log.
pub mod Buffers
pub mod Turns
pub mod Printed
pub mod Telling
