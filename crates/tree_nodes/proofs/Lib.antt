pub mod Elements
pub mod Extending
mod ExternalChildren
mod Known
mod FoundTiles
pub mod Fronts
pub mod Growing
mod MadeEntries
mod Maps
pub mod NodeTrees
mod OwnContents
mod PlaceChildren
mod PlaceContents
mod PlaceExternals
mod PlaceEnds
mod PlaceFacts
mod PlaceNames
mod PlaceNodes
mod Places
mod PlacesRead
mod PushedPlaces
pub mod Refusals
pub mod RootTree
mod Rows
pub mod Spares
mod Staying
mod TileChildren
mod Tilesets
mod TopsAdded
pub mod Waits
mod WrittenChildren
mod TablePlaced
