-- The certificate that sound records state for a case. A number without a record is 0.
use Rattle.std.specs.Prelude.{ℕ, ◌-◌, List, [], length, map, ℤ, ◌&&◌, ◌==◌, if◌then◌else◌, Result}
use Rattle.std.specs.Option.{unwrap_or}
use Rattle.std.specs.List.{find}
use Rattle.core_sums.specs.Places.{below}
use Rattle.core_rows.specs.Names.{Record, field}
use Rattle.core_rows.specs.Fields.{records}
use Rattle.core_rows.specs.FirstFault.{unless_faulty}
use Rattle.core_book.specs.View.{CaseView}
use Rattle.core_model.specs.declared.cert.Calendar.{Calendar}
use Rattle.core_model.specs.declared.cert.Weights as weights
use Rattle.core_model.specs.declared.cert.Cert as certs
use Rattle.core_model.specs.declared.cert.Cert.TheVariants as certs_of
use Rattle.core_model.specs.Closing.{line_count}
use Rattle.core_model.specs.Layout.{amount_count, scenario_count, limit_count, pool_count}
use Rattle.core_cert.specs.declared.kinds.RecordKind.{RecordKind}
use Rattle.core_cert.specs.declared.kinds.RecordKind.TheVariants.{Closes, Amount, Loss, Weights, Scenario, Limit, Pool, Full}
use Rattle.core_cert.specs.Codes.{code_of}
use Rattle.core_cert.specs.Kinds.{is_kind}
use Rattle.core_cert.specs.Faults.{number_in, first_fault, is_refusing, place_in}

-- the number that ends the first record of a kind at a place, 0 where there is none
abbrev pub last_number : Record → ℤ
last_number r = number_in (field r (length r - 1))

abbrev pub number_at : CaseView → List Record → RecordKind → ℕ → ℤ
number_at c rs kind n = last_number (unwrap_or (find (λ r. is_kind kind r && (place_in c kind r == n)) rs) [])

-- how many places the list of a kind's numbers has
abbrev pub places_of : CaseView → RecordKind → ℕ
places_of c Amount = amount_count c
places_of c Scenario = scenario_count c
places_of c Limit = limit_count c
places_of c Pool = pool_count c
places_of c Full = line_count c
places_of c _ = 0

-- the numbers of a kind by place
abbrev pub numbers_of : CaseView → List Record → RecordKind → List ℤ
numbers_of c rs kind = map (number_at c rs kind) (below (places_of c kind))

abbrev pub calendar_stated : CaseView → List Record → Calendar
calendar_stated c rs = record { den = number_at c rs Closes 0; amounts = numbers_of c rs Amount }

abbrev pub weights_stated : CaseView → List Record → weights.Weights
weights_stated c rs = record {
  den = number_at c rs Weights 0;
  scenario = numbers_of c rs Scenario;
  limit = numbers_of c rs Limit;
  pool = numbers_of c rs Pool;
  full = numbers_of c rs Full;
}

abbrev pub cert_of : CaseView → List Record → certs.Cert
cert_of c rs =
    if is_refusing rs then certs_of.Cannot (weights_stated c rs)
    else certs_of.Closes (calendar_stated c rs) (number_at c rs Loss 0) (weights_stated c rs)

-- The certificate of the records for a case, or the number of the first faulty one and the code of its fault.
abbrev pub cert_of_records : CaseView → List Record → Result certs.Cert (ℕ × ℕ)
cert_of_records c rs = unless_faulty code_of (first_fault c rs) (cert_of c rs)

-- the certificate of the bytes
unfoldable pub cert_of_bytes : CaseView → List ℕ → Result certs.Cert (ℕ × ℕ)
cert_of_bytes c bytes = cert_of_records c (records bytes)
