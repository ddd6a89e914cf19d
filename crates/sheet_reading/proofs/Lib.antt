pub mod Walk
pub mod Reading
pub mod ReadSheet
pub mod SheetForm
pub mod RoundTrip
pub mod Lengths
