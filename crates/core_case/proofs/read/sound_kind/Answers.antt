use Rattle.std.proofs.Common.{◌≡◌, sym, subst, Some, None}
use Rattle.core_case.specs.Kinds.{HeadingView, heading_view}
use Rattle.core_case.specs.Faults.{fault_of, shape_fault}
use Rattle.core_case.specs.declared.kinds.RecordKind.TheVariants.{Path}
use Rattle.core_rows.proofs.OneByOne.{error-same}
use Rattle.core_case.proofs.ReadingFaults.{ended-fault, kind-fault, known-kind, own-found, book-found, kind-is}
use Rattle.core_case.proofs.read.sound_kind.Goals as goal

pub returns-then-has_ended-clause-fault : goal.returns-then-has_ended-clause-fault
returns-then-has_ended-clause-fault c = ended-fault c.args.register.now c.args.row.now c.if-has_ended.ensures

pub own_fault-requires : goal.own_fault-requires
own_fault-requires c = λ priced. subst (λ (h : HeadingView). shape_fault h c.args.row.now Path ≡ None) (sym c.heading-heading.ensures) (c.requires priced)

pub returns-in_err-kind-clause-fault : goal.returns-in_err-kind-clause-fault
returns-in_err-kind-clause-fault c =
    error-same (λ fault. fault_of c.args.register.now c.args.row.now ≡ Some fault) c.from_residual.result c.in_err-kind.field-0.0 c.from_residual.ensures.1
    (kind-fault c.args.register.now c.args.row.now c.len-place.result (heading_view c.heading-heading.result) c.in_err-kind.field-0.0
    c.if-has_ended.ensures c.len-place.ensures c.heading-heading.ensures c.in_err-kind.ensures.fault)

pub returns-in-Some-clause-fault : goal.returns-in-Some-clause-fault
returns-in-Some-clause-fault c =
    own-found c.args.register.now c.args.row.now c.len-place.result (heading_view c.heading-heading.result) c.in_ok-kind.kind c.in-Some.fault
    (known-kind c.args.register.now c.args.row.now c.len-place.result (heading_view c.heading-heading.result) c.in_ok-kind.kind
    c.if-has_ended.ensures c.len-place.ensures c.heading-heading.ensures c.in_ok-kind.ensures.known)
    c.in-Some.ensures

pub returns-in-Some-book_fault-clause-fault : goal.returns-in-Some-book_fault-clause-fault
returns-in-Some-book_fault-clause-fault c =
    book-found c.args.register.now c.args.row.now c.len-place.result (heading_view c.heading-heading.result) c.in_ok-kind.kind (Some c.in-Some-book_fault.fault)
    (known-kind c.args.register.now c.args.row.now c.len-place.result (heading_view c.heading-heading.result) c.in_ok-kind.kind
    c.if-has_ended.ensures c.len-place.ensures c.heading-heading.ensures c.in_ok-kind.ensures.known)
    c.in_default.ensures c.in-Some-book_fault.ensures

pub returns-in-None-clause-sound : goal.returns-in-None-clause-sound
returns-in-None-clause-sound c = (
  book-found c.args.register.now c.args.row.now c.len-place.result (heading_view c.heading-heading.result) c.in_ok-kind.kind None
      (known-kind c.args.register.now c.args.row.now c.len-place.result (heading_view c.heading-heading.result) c.in_ok-kind.kind
      c.if-has_ended.ensures c.len-place.ensures c.heading-heading.ensures c.in_ok-kind.ensures.known)
      c.in_default.ensures c.in-None.ensures,
  kind-is c.heading-heading.result.version c.args.row.now c.in_ok-kind.kind c.in_ok-kind.ensures.known.1,
)
