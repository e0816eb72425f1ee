mod Rules
pub mod Ranges
mod Options
mod Numerals
mod Commands
