pub mod Made
pub mod Numbers
pub mod Run
pub mod Text
