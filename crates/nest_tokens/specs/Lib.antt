pub mod Tokens
pub mod Lexing
pub mod Ahead
pub mod Placed
pub mod Division
pub mod Examples
pub mod Spellings
