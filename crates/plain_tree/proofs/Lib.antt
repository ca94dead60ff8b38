mod Roots
mod Sizes
mod Stacks
mod Tops
mod WholeTrees
mod WindowPlaces
