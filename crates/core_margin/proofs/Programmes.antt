-- The programme of every case is one, and its start is a dictionary.
use Rattle.std.proofs.Common.{◌≡◌, [], ◌∷◌, length, arith, length-append}
use Rattle.std.proofs.lemmas.List.{length-map}
use Rattle.std.proofs.lemmas.List.Elements.{All-map}
use Rattle.core_sums.specs.Places.{below, each}
use Rattle.core_book.specs.View.{CaseView}
use Rattle.core_model.specs.Closing.{line_count}
use Rattle.core_dict.specs.Programme.{Row, IsProgramme}
use Rattle.core_dict.specs.Dictionary.{IsDictionary}
use Rattle.core_dict.specs.Laws.{StartIsDictionary}
use Rattle.core_lp.specs.declared.names.Col.TheVariants as col
use Rattle.core_lp.specs.CaseProgramme.{columns, line_columns, row_names, row_of, entry_at}
use Rattle.core_lp.specs.CaseProgramme.{programme_of}
use Rattle.core_margin.specs.Last.{start_of}

case_programme : (c : CaseView) → IsProgramme (programme_of c)
case_programme c = record {
  last_column = omega (
    arith,
    length-append (each (below (line_count c)) (line_columns c))
        (col.Loss ∷ []),
  );
  widths =
      All-map (λ (r : Row). length r.entries ≡ length (columns c)) (row_of c) (row_names c)
      (λ k d l. length-map (columns c) (entry_at c _));
}

pub case_start : StartIsDictionary → (c : CaseView) → IsDictionary (start_of c)
case_start law c = law (programme_of c) (case_programme c)
