use Rattle.std.proofs.Common.{◌∙◌, sym, ap}
use Rattle.core_rows.specs.FirstFault.{missing_end}
use Rattle.core_case.specs.Faults.{first_fault, judge}
use Rattle.core_book.specs.Inside.{book_view}
use Rattle.core_case.specs.Refusals.{RefusesBytes}
use Rattle.core_case.specs.declared.read.CaseFault.TheVariants.{NoMemory}
use Rattle.core_rows.proofs.OneByOne.{error-same}
use Rattle.core_case.proofs.ReadingCase.{few-registered, fault-at_end, no-fault, register-whole, case-read, case-kept, refused-is}
use Rattle.core_rows.proofs.RecordCount.{few-records}
use Rattle.core_case.proofs.read.read_case.Goals as goal

pub returns-in_err-rows-clause-refused : goal.returns-in_err-rows-clause-refused
returns-in_err-rows-clause-refused c = error-same (λ fault. RefusesBytes fault c.args.bytes.now) c.from_residual.result NoMemory c.from_residual.ensures.1 tt

pub read_rows-requires : goal.read_rows-requires
read_rows-requires c = few-records c.args.bytes.now c.deref.result.now c.requires (c.deref.ensures.value ∙ c.in_ok-rows.ensures)

pub returns-in_err-register-clause-refused : goal.returns-in_err-register-clause-refused
returns-in_err-register-clause-refused c =
    error-same (λ fault. RefusesBytes fault c.args.bytes.now) c.from_residual-in_err-register.result c.in_err-register.field-0.0 c.from_residual-in_err-register.ensures.1
    (refused-is c.in_err-register.field-0.0 c.args.bytes.now (first_fault c.deref.result.now) c.in_err-register.ensures.fault (ap first_fault (sym (c.deref.ensures.value ∙ c.in_ok-rows.ensures))))

pub ended-requires : goal.ended-requires
ended-requires c = few-registered c.args.bytes.now c.deref.result.now c.in_ok-register.register c.requires (c.deref.ensures.value ∙ c.in_ok-rows.ensures) c.in_ok-register.ensures.sound.0

pub returns-in_err-ended-clause-refused : goal.returns-in_err-ended-clause-refused
returns-in_err-ended-clause-refused c =
    error-same (λ fault. RefusesBytes fault c.args.bytes.now) c.from_residual-in_err-ended.result c.in_err-ended.field-0.0 c.from_residual-in_err-ended.ensures.1
    (refused-is c.in_err-ended.field-0.0 c.args.bytes.now (missing_end judge c.in_ok-register.register) c.in_err-ended.ensures.fault
    (fault-at_end c.args.bytes.now c.deref.result.now c.in_ok-register.register (c.deref.ensures.value ∙ c.in_ok-rows.ensures) c.in_ok-register.ensures.sound.0 c.in_ok-register.ensures.sound.1))

pub state_book-requires : goal.state_book-requires
state_book-requires c =
    register-whole c.args.bytes.now c.deref.result.now c.in_ok-register.register (c.deref.ensures.value ∙ c.in_ok-rows.ensures) c.in_ok-register.ensures.sound.0
    (no-fault c.args.bytes.now c.deref.result.now c.in_ok-register.register (c.deref.ensures.value ∙ c.in_ok-rows.ensures) c.in_ok-register.ensures.sound.0 c.in_ok-register.ensures.sound.1 c.in_ok-ended.ensures.ended)

pub returns-in_err-book-clause-refused : goal.returns-in_err-book-clause-refused
returns-in_err-book-clause-refused c = error-same (λ fault. RefusesBytes fault c.args.bytes.now) c.from_residual-in_err-book.result NoMemory c.from_residual-in_err-book.ensures.1 tt

pub of_book-requires : goal.of_book-requires
of_book-requires c =
    case-kept c.args.bytes.now c.deref.result.now c.in_ok-register.register (book_view c.in_ok-book.book) (c.deref.ensures.value ∙ c.in_ok-rows.ensures) c.in_ok-register.ensures.sound.0
    (no-fault c.args.bytes.now c.deref.result.now c.in_ok-register.register (c.deref.ensures.value ∙ c.in_ok-rows.ensures) c.in_ok-register.ensures.sound.0 c.in_ok-register.ensures.sound.1 c.in_ok-ended.ensures.ended)
    c.in_ok-book.ensures

pub returns-in_err-of_book-clause-refused : goal.returns-in_err-of_book-clause-refused
returns-in_err-of_book-clause-refused c = error-same (λ fault. RefusesBytes fault c.args.bytes.now) c.from_residual-in_err-of_book.result NoMemory c.from_residual-in_err-of_book.ensures.1 tt

pub returns-clause-accepted : goal.returns-clause-accepted
returns-clause-accepted c =
    case-read c.args.bytes.now c.deref.result.now c.in_ok-register.register c.in_ok-of_book.field-0 (c.deref.ensures.value ∙ c.in_ok-rows.ensures) c.in_ok-register.ensures.sound.0
    (no-fault c.args.bytes.now c.deref.result.now c.in_ok-register.register (c.deref.ensures.value ∙ c.in_ok-rows.ensures) c.in_ok-register.ensures.sound.0 c.in_ok-register.ensures.sound.1 c.in_ok-ended.ensures.ended)
    (c.in_ok-of_book.ensures ∙ c.in_ok-book.ensures)

pub returns-clause-kept : goal.returns-clause-kept
returns-clause-kept c =
    case-kept c.args.bytes.now c.deref.result.now c.in_ok-register.register c.in_ok-of_book.field-0 (c.deref.ensures.value ∙ c.in_ok-rows.ensures) c.in_ok-register.ensures.sound.0
    (no-fault c.args.bytes.now c.deref.result.now c.in_ok-register.register (c.deref.ensures.value ∙ c.in_ok-rows.ensures) c.in_ok-register.ensures.sound.0 c.in_ok-register.ensures.sound.1 c.in_ok-ended.ensures.ended)
    (c.in_ok-of_book.ensures ∙ c.in_ok-book.ensures)
