pub mod Headings
pub mod HeadingBytes
