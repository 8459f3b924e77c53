pub mod DateForms
