pub mod Making
pub mod ExpressionObjects
pub mod StatementObjects
pub mod FileObjects
