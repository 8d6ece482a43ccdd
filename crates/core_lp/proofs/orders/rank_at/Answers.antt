use Rattle.std.proofs.Common.{◌≡◌, ◌∙◌, sym, ap, ◌-◌, ◌<◌, ◌≤◌, length, get_or, arith}
use Rattle.core_lp.specs.declared.names.RowName.TheVariants as row
use Rattle.core_lp.specs.Ranks.{place_in, letter_of}
use Rattle.core_lp.proofs.Letters.{rank-of-column, rank-of-row}
use Rattle.core_lp.proofs.orders.rank_at.Goals as goal
use Rattle.core_lp.proofs.orders.rank_at.Goals.{then-place-cols, else-place-cols}

pub returns : goal.returns
returns c =
    let built = c.args.built.now in
    let order = c.args.order in
    let named = c.programme.ensures.named in
    let count : c.cols-cols.result ≡ length built.cols =
    c.cols-cols.ensures ∙ ap (λ p. p.cols) c.programme.ensures.value ∙ sym named.cols in
    elim c.if-place-cols.branch [
      | then-place-cols w ↦
          c.place_in.ensures ∙ ap (place_in order) w.letter-is
          ∙ sym (rank-of-column built.cols built.rows order c.args.place (omega (arith, count, w.if-place-cols.true)))
      | else-place-cols w ↦
          let past : length built.cols ≤ c.args.place = omega (arith, count, w.if-place-cols.false) in
          let under : c.args.place - length built.cols < length built.rows = omega (arith, past, c.requires) in
          c.place_in.ensures ∙ ap (place_in order) (w.letter-is ∙ w.letter_of-letter.ensures ∙ ap letter_of w.row.ensures)
          ∙ ap (λ n. place_in order (letter_of (get_or built.rows (c.args.place - n) (row.Full 0)))) count
          ∙ sym (rank-of-row built.cols built.rows order c.args.place past under)
    ]
