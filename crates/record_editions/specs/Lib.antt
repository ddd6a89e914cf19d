pub mod Editions
pub mod EditionBytes
pub mod Contents
pub mod Inside
