pub mod Decimals
pub mod RootFacts
pub mod Quotients
mod Shifts
pub mod Sizes
pub mod Spellings
pub mod SpellingLaw
pub mod IdentityLaw
