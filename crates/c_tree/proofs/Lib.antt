pub mod Views
pub mod Deepest
pub mod DeclarationViews
pub mod StatementViews
