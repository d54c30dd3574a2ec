pub mod Sizes
pub mod Texts
pub mod Steps
pub mod Output
pub mod Stands
pub mod Feeds
