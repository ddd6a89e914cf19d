pub mod Reversal
pub mod CutWords
pub mod Walks
pub mod Claims
