mod EachRow
mod Chains
mod Texts
mod Owned
mod Found
mod Whole
