pub mod Explanations
pub mod Firsts
