-- Laws of refusals, for those who tell a refusal from none by its number.
pub mod Numbers
