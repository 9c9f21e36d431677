pub mod Choice
pub mod Drawing
