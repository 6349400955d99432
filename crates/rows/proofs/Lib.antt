-- Laws of rows and of words of tests.
pub mod Making
pub mod Marks
pub mod Rows
