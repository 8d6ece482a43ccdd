-- The texts of a certificate's parts, joined.
use Rattle.std.proofs.Common.{◌≡◌, ◌∷◌, ◌++◌, [], ℕ, List, append_assoc}
use Rattle.std.proofs.lemmas.List.{append-nil}
use Rattle.core_rows.specs.Fields.{row_text}
use Rattle.core_rows.specs.Names.{Record}
use Rattle.core_rows.specs.Written.{rows_text}
use Rattle.core_cert.proofs.Printed.{rows_text-append, rows_text-cons, rows_text-none}

-- the weights of limits, pools and lines
pub constraints_joined : (start : List ℕ) (limits pools fulls : List Record)
    → ((start ++ rows_text limits) ++ rows_text pools) ++ rows_text fulls ≡ start ++ rows_text (limits ++ pools ++ fulls)
constraints_joined start limits pools fulls = simp (rows_text-append, append_assoc)

-- the records of weights that refuse
pub refusing_joined : (start : List ℕ) (cannot weights : Record) (constraints : List Record)
    → ((start ++ row_text cannot) ++ row_text weights) ++ rows_text constraints ≡ start ++ rows_text (cannot ∷ weights ∷ constraints)
refusing_joined start cannot weights constraints = simp (rows_text-cons, append_assoc)

-- the records of a calendar and its weights
pub closing_joined : (start : List ℕ) (closes loss margin weights : Record) (amounts scenarios constraints : List Record)
    → (((((start ++ row_text closes) ++ rows_text amounts) ++ row_text loss) ++ row_text margin) ++ row_text weights) ++ rows_text scenarios ++ rows_text constraints
    ≡ start ++ rows_text (closes ∷ (amounts ++ (loss ∷ margin ∷ weights ∷ []) ++ scenarios ++ constraints))
closing_joined start closes loss margin weights amounts scenarios constraints = simp (rows_text-cons, rows_text-append, append_assoc)

-- the first record, those between, and the last
pub cert_joined : (version last : Record) (inner : List Record)
    → (([] ++ row_text version) ++ rows_text inner) ++ row_text last ≡ rows_text (version ∷ (inner ++ (last ∷ [])))
cert_joined version last inner = simp (rows_text-cons, rows_text-append, rows_text-none, append-nil, append_assoc)
