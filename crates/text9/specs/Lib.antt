pub mod Form
pub mod Growing
pub mod Markup
