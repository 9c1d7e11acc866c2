-- Which clause rests on which file. `uri_of_path` and the law `uris_name_their_paths` on Escapes. `print_reply`,
-- where it tells locations, on Joining. `read_body`, where its value can't be read, on Valued.
pub mod Escapes
pub mod Joining
pub mod Valued
