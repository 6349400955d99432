-- What contracts cite of the definitions, in the code's types.
pub mod Found
