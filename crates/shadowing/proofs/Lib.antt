-- Which clause rests on which file. `unshadowed` on Front, which Passing and Order serve: that one pass leaves
-- exactly the paths that none shadows, and that a binary search finds whether a path is among these.
mod Front
mod Order
mod Passing
