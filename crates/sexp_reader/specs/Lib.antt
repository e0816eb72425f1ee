pub mod Text
pub mod Lex
pub mod Stream
pub mod Tokenization
