pub mod Answer
pub mod Bitmaps
