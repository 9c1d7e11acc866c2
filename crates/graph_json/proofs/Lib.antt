-- Which clause rests on which file. `read_graph`: ok and err on Parsing, on Collecting (the nodes and edges, one by
-- one), Numbers (the index of names), Places (the first fault of names) and Lengths (the arrays of spans and
-- edges). Sizes serves Parsing: no array has more items than its text has bytes.
-- `print_graph`, `print_named`: text on Tokens; reads_back on GraphBack in format 1, and on NamedBack in format 2.
-- Both of these stand on NodesBack, Collecting and Parsing, and NamedBack also on GraphBack, Naming and Right.
pub mod Lengths
pub mod Collecting
pub mod Sizes
pub mod Parsing
pub mod Numbers
pub mod Places
pub mod Tokens
pub mod NodesBack
pub mod GraphBack
pub mod Naming
pub mod Right
pub mod NamedBack
