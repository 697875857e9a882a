-- what is wrong with the form of an item, and where
pub mod ItemForm
pub mod Places
pub mod ItemReplies
pub mod ValuePlaces
pub mod ResultTypes
