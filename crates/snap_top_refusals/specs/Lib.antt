pub mod Exercised
pub mod Refused
pub mod Silent
pub mod Unheard
