use Rattle.std.proofs.Common.{◌≡◌, ℕ, List, replicate, sym, subst, ap, ◌∙◌, arith, pos}
use Rattle.core_dict.specs.Programme.{ProgrammeView, Row, IsProgramme, IsSmall}
use Rattle.core_dict.proofs.Zeros.{IsProgramme_zeros, IsSmall_zeros}
use Rattle.core_dict.proofs.programme.Programme.make.Goals as goal

pub invariant_of-result : goal.invariant_of-result
invariant_of-result c =
    let all : c.loop-row._row ≡ c.args.rows = omega arith in
    let is : c.loop-row.lines.items ≡ replicate c.args.rows (record { entries = replicate c.args.cols (pos 0); bound = pos 0 }) =
    c.loop-row.invariant ∙ ap (λ (n : ℕ). replicate n (record { entries = replicate c.args.cols (pos 0); bound = pos 0 })) all in
    let P : List Row → Type 0 = λ rows. let p : ProgrammeView = record { cols = c.args.cols; rows = rows } in IsProgramme p × IsSmall p in
    subst P (sym is) (
      IsProgramme_zeros c.args.rows c.args.cols c.requires.last_column,
      IsSmall_zeros c.args.rows c.args.cols c.requires.rows_in c.requires.cols_in,
    )
