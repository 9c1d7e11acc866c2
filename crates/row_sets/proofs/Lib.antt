-- `in_order` rests on InOrder. Its order of rows, and Rising, are also for `lsp_answers`, and Rising is for `nav_serve`.
pub mod InOrder
pub mod Rising
