pub mod Truths
pub mod Judging
pub mod Reading
pub mod Standing
pub mod Sound
pub mod Whole
pub mod ReadBack
