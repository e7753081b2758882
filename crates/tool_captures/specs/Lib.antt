pub mod PlaceLine
