mod Rows
mod Digits
mod AllRead
mod Places
mod Days
mod Civil
mod Unquoted
pub mod Plain
pub mod Numbers
pub mod ReadBack
pub mod Dates
pub mod RecordCount
pub mod FirstFault
pub mod FirstStep
pub mod FieldWalk
pub mod NamePlaces
pub mod NamesApart
pub mod OneByOne
