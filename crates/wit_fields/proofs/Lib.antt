pub mod Digits
pub mod FewDigits
pub mod FrequentFields
pub mod Leading
pub mod ListReading
pub mod OneDigit
pub mod Places
pub mod Texts
