-- Laws of equal texts.
pub mod Equal
