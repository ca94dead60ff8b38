mod AddressPaths
mod LastFile
mod Prefixes
