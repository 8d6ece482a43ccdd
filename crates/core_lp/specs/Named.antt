-- A programme with the names of its columns and rows.
use Rattle.std.specs.Prelude.{◌≡◌, ℕ, List, length, get_or, set}
use Rattle.core_book.specs.View.{CaseView}
use Rattle.core_dict.specs.Programme.{ProgrammeView, Row, height}
use Rattle.core_lp.specs.declared.names.Col.{Col}
use Rattle.core_lp.specs.declared.names.Col.TheVariants as col
use Rattle.core_lp.specs.declared.names.RowName.{RowName}
use Rattle.core_lp.specs.declared.names.RowName.TheVariants as row
use Rattle.core_lp.specs.CaseProgramme.{columns, row_names, programme_of}

-- the names are in the order of the programme's columns and rows
pub record NamedProgramme : Type 0 where
  pub programme : ProgrammeView
  pub cols : List Col
  pub rows : List RowName

-- each column and each row has a name
pub record HasNames (p : NamedProgramme) : Type 0 where
  pub cols : length p.cols ≡ p.programme.cols
  pub rows : length p.rows ≡ height p.programme

-- the name of a column, and of a row
abbrev pub col_at : NamedProgramme → ℕ → Col
col_at p j = get_or p.cols j col.Loss

abbrev pub row_at : NamedProgramme → ℕ → RowName
row_at p i = get_or p.rows i (row.Full 0)

-- the programme of a case by name
abbrev pub named_of : CaseView → NamedProgramme
named_of c = record { programme = programme_of c; cols = columns c; rows = row_names c }

-- one row is another, and nothing else changes
abbrev pub with_row : ProgrammeView → ℕ → Row → ProgrammeView
with_row p i r = record p { rows = set p.rows i r }
