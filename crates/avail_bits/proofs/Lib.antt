mod Counted
mod Digits
mod Linear
mod Listed
