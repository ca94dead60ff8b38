mod Openings
mod Roots
mod Rooms
mod Spares
mod Steps
mod Walks
