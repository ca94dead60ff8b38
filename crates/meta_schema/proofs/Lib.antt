mod Chains
mod Effective
mod Finds
mod Kept
mod Seen
mod Types
