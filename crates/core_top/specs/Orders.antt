-- The rule that a call names: which of the rows that may leave does, in a turn of the run.
use Rattle.std.specs.Prelude.{ℕ, Bool, ◌&&◌, ◌==◌, List, length, codes, if◌then◌else◌, Option, Some, None}
use Rattle.std.specs.List.{list_all, list_any}
use Rattle.std.specs.Str.{bytes_eq}
use Rattle.core_margin.specs.declared.orders.Order.{Order}
use Rattle.core_margin.specs.declared.orders.Order.TheVariants.{LeastVariable, LeastValue, LastRow, Kinds}

-- whether a word has each of the six letters once
abbrev pub is_order : List ℕ → Bool
is_order word =
    (length word == 6)
    && list_all (λ letter. list_any (λ x. x == letter) word) (codes "CFBLPS")

-- the rule of a word: that of the least variable, that of the least value, the last row, or by an order of the kinds of
-- columns and rows
abbrev pub rule_of : List ℕ → Option Order
rule_of word =
    if bytes_eq word (codes "0") then Some LeastVariable
    else if bytes_eq word (codes "1") then Some LeastValue
    else if bytes_eq word (codes "2") then Some LastRow
    else if is_order word then Some (Kinds word)
    else None
