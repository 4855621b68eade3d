pub mod Choices
pub mod Dependences
pub mod Judgements
pub mod Laws
