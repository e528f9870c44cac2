pub mod Order
pub mod Halves
pub mod Table
pub mod Zeros
pub mod RowsRead
