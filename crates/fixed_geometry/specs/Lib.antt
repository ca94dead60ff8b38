pub mod Ascii
pub mod Decimal
pub mod Spelling
pub mod Quotient
pub mod Root
pub mod Points
pub mod Maps
pub mod Sixteen
