pub mod beginnings
pub mod cursors
pub mod one_reading
pub mod printed
pub mod whole_texts
pub mod values
pub mod words
