pub mod NameForms
