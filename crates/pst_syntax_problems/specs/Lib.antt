-- what is wrong with a model, and where
pub mod Placed
pub mod PlacedModel
-- what the contracts within the crate cite: the shapes of the trees before another, and the first of many
pub mod SeenShapes
pub mod Kept
