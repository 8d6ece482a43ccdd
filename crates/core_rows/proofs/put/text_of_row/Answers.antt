-- What the writer holds is the text of the row, which its clauses say in `csv`'s words.
use Rattle.std.proofs.Common.{◌≡◌, ◌≢◌, ◌∙◌, Result, Ok, Err, true, sym, ap, subst}
use Rattle.std.proofs.lemmas.Result.{IfOk-weaker}
use Rattle.std.specs.Result.{IfOk, OnOk, IsErrAnd, MatchResult, is_ok}
use Rattle.csv.specs.declared.writer.QuoteStyle.TheVariants as style
use Rattle.csv.specs.Writing as Csv
use Rattle.csv.specs.Writing.{default_writer}
use Rattle.core_rows.specs.Fields.{row_text}
use Rattle.core_rows.specs.Names.{Record}
use Rattle.core_rows.proofs.Unquoted.{row-written}
use Rattle.core_rows.proofs.put.text_of_row.Goals as goal

-- a fact of a result that is `Ok`
ok-fact : {T E P : Type 0} (r : Result T E) → is_ok r ≡ true → OnOk r P → P
ok-fact (Ok x) ok p = p
ok-fact (Err e) ok p = absurd (cc ok)

-- a fact of an `Ok` stays where the error is changed
mapped : {T E D : Type 0} (r : Result T E) (s : Result T D) (P : T → Type 0) (Q : E → D → Type 0)
    → MatchResult r (λ x. s ≡ Ok x) (λ e. IsErrAnd s (Q e)) → IfOk r P → IfOk s P
mapped (Ok x) s P Q same p = rw same p
mapped (Err e) (Err d) P Q same p = tt
mapped (Err e) (Ok x) P Q same p = absurd same

pub returns : goal.returns
returns c =
    let from = c.from_writer-writer.ensures in
    let plain : c.from_writer-writer.result.cfg.style ≢ style.NonNumeric = rw (from.cfg, c.new.ensures) (λ e. cc e) in
    let wrote : is_ok c.write_byte_record.result ≡ true = sym c.map_err.ensures.variant ∙ ap is_ok c.in_ok-map_err.was in
    let h = ok-fact c.write_byte_record.result wrote c.write_byte_record.ensures.bytes from.fields from.wrote plain in
    let text = rw (from.cfg, c.new.ensures, from.wtr, c.new-2.ensures.items, from.empty) at h in
    let row = subst (λ (r : Record). Csv.row_text default_writer r ≡ row_text c.args.row.now) (sym c.row.view_is) (row-written c.args.row.now c.requires) in
    mapped c.into_inner.result c.map_err-2.result _ _ c.map_err-2.ensures.cases
    (IfOk-weaker c.into_inner.result _ _ (λ w kept. kept ∙ text ∙ row) c.into_inner.ensures.ok)
