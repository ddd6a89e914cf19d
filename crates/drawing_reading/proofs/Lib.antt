mod Numerals
mod Keywords
mod Positions
mod Shown
mod LineReads
mod SetLines
mod Texts
mod Records
