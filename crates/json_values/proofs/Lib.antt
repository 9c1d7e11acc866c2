-- Which clause rests on which file. `parse`: ok and bad on Parsed. `shape_of` and `shape_of_text` on Checks, that on Fitting.
-- `made`, which `parse_object` calls, on Others. `items` and `into_items` on Arrays. `has_only` and `other_member` on Members.
mod Parsed
mod Fitting
mod Checks
mod Others
mod Arrays
mod Members
