-- Marks: numbers that stand for the texts of symbols, by which paths are kept and found with no look at a text.
use Rattle.std.specs.Prelude.{ℕ, ◌+◌, ◌*◌, ◌/◌, ◌%◌, ◌^◌, List, [], ◌∷◌, length, map, take, drop}
use Rattle.stacks_vars.specs.Head.{head}
use Rattle.stacks_vars.specs.declared.patterns.SymOut.{SymOut}
use Rattle.partial_path.specs.Keys.{key_size}

-- a number with one number more behind it, and with several
abbrev pub with_one : ℕ → ℕ → ℕ
with_one mark more = (mark * 6364136223846793005 % 2 ^ 64 + more) % 2 ^ 64

abbrev pub with_all : ℕ → List ℕ → ℕ
with_all mark [] = mark
with_all mark (more ∷ rest) = with_all (with_one mark more) rest

-- the mark of a text: its head, with the bytes from the eighth to the 64th where it has so many. Texts of up to seven
-- bytes that differ have marks that differ
unfoldable pub mark : List ℕ → ℕ
mark text = with_all (head text) (take 57 (drop 7 text))

-- the mark of texts and of one more behind them, and of several more
abbrev pub with_text : ℕ → List ℕ → ℕ
with_text before text = with_one before (mark text)

abbrev pub with_texts : ℕ → List (List ℕ) → ℕ
with_texts before [] = before
with_texts before (text ∷ texts) = with_texts (with_text before text) texts

-- the key of so many texts, at most seven, of that mark: 29 bits to which all bits of the mark are spread, and behind
-- them the number of the texts, so that keys of more texts and of fewer differ
abbrev pub end_key : ℕ → ℕ → ℕ
end_key mark count = mark * 11400714819323198485 % 2 ^ 64 / 2 ^ 35 * 8 + count

abbrev pub key_of : List (List ℕ) → ℕ
key_of texts = end_key (with_texts 0 texts) (length texts)

-- the texts of symbols that a path makes, and the key of the first of them
abbrev pub made_texts : List SymOut → List (List ℕ)
made_texts made = map (λ (out : SymOut). out.symbol) made

abbrev pub made_key : List SymOut → ℕ
made_key made = key_of (made_texts (take key_size made))
