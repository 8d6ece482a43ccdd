-- The words of a call.
use Rattle.std.specs.Prelude.{ℕ, List, map, string_bytes, String, Bool, not, ◌==◌, length}
use Rattle.std.specs.declared.alloc.Global.{Global}

-- the bytes of each word
abbrev pub words_of : List (String Global) → List (List ℕ)
words_of words = map string_bytes words

-- the name of a file is a word that is not empty
abbrev pub is_name : List ℕ → Bool
is_name word = not (length word == 0)
