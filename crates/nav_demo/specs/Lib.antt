pub mod MadeTree
pub mod Summary
pub mod Inside
pub mod Laws
