-- What the crate's laws say.
use Rattle.std.specs.Prelude.{◌≡◌, ◌↔◌, ℕ, ◌-◌, ◌<◌, ◌≤◌, ℤ, ◌+ℤ◌, ◌*ℤ◌, ◌≤ℤ◌, length}
use Rattle.core_book.specs.View.{CaseView}
use Rattle.core_book.specs.WellFormed.{IsCase}
use Rattle.fractions.specs.Fraction.{zero_q, ◌≤ℚ◌, ◌<ℚ◌}
use Rattle.core_model.specs.Closing.{Plan, ClosesAsAllowed, IsAdmissible, worst_loss, fixed}
use Rattle.core_model.specs.Shows.{Shows}
use Rattle.core_model.specs.Check.{IsValid}
use Rattle.core_dict.specs.Programme.{IsFeasible}
use Rattle.core_dict.specs.Dictionary.{Dictionary, CostsNotNegative}
use Rattle.core_dict.specs.Laws.{IsOf}
use Rattle.core_rules.specs.Candidates.{Candidate, before, lower_variable}
use Rattle.core_lp.specs.CaseProgramme.{columns, programme_of, numbers_of}
use Rattle.core_lp.specs.ByName.{plan_by}
use Rattle.core_lp.specs.Placing.{closes_cert, cannot_cert}
use Rattle.core_lp.specs.Ranks.{variable_count, ranked, as_numbered}

-- what is enough for a calendar in the loss column: its worst loss plus the fixed cash of day 0
abbrev pub enough : CaseView → Plan → ℤ
enough c a = worst_loss c a +ℤ (a.den *ℤ fixed c 0)

-- A calendar keeps the rows, with z in the loss column, exactly where it is admissible and z is enough for
-- it.
abbrev pub CalendarsAreProgramme : Type 0
CalendarsAreProgramme =
    (c : CaseView) (a : Plan) (z : ℤ) → IsCase c → ClosesAsAllowed c a
    → (IsFeasible (programme_of c) a.den (numbers_of c a z)
    ↔ (IsAdmissible c a × (enough c a ≤ℤ z)))

-- numerators are those of their calendar, which closes as allowed
pub record IsByPlan (c : CaseView) (d : ℤ) (x : ℕ → ℤ) : Type 0 where
  pub allowed : ClosesAsAllowed c (plan_by c d x)
  pub same : (i : ℕ) → i < length (columns c) → numbers_of c (plan_by c d x) (x (length (columns c) - 1)) i
      ≡ x i

-- So it is for every list of numerators.
abbrev pub NumeratorsAreCalendars : Type 0
NumeratorsAreCalendars = (c : CaseView) (d : ℤ) (x : ℕ → ℤ) → IsByPlan c d x

-- a candidate's variable is one of a case's programme
abbrev pub IsVariable : CaseView → Candidate → Type 0
IsVariable c x = (1 ≤ x.var) × (x.var ≤ variable_count c)

-- Under the order in which the variables are numbered the ranks choose as the least variable does.
abbrev pub AsNumberedIsLeast : Type 0
AsNumberedIsLeast =
    (c : CaseView) (x y : Candidate) → IsVariable c x → IsVariable c y
    → before (ranked c as_numbered) x y ≡ lower_variable x y

-- ---- the certificate of a last dictionary
-- no value is negative
abbrev pub ValuesNotNegative : Dictionary → Type 0
ValuesNotNegative e = (i : ℕ) → i < e.rows → zero_q ≤ℚ e.value i

-- a row has a negative value and no negative entry
pub record CannotHold (e : Dictionary) (r : ℕ) : Type 0 where
  pub within : r < e.rows
  pub value : e.value r <ℚ zero_q
  pub entries : (j : ℕ) → j < e.cols → zero_q ≤ℚ e.entry r j

-- A dictionary of a case's programme without a negative cost or value gives a certificate that shows what it states
-- and holds at every place of the check.
abbrev pub BestIsValid : Type 0
BestIsValid =
    (c : CaseView) (e : Dictionary) → IsCase c → IsOf (programme_of c) e → CostsNotNegative e
    → ValuesNotNegative e
    → Shows c (closes_cert c e) × IsValid c (closes_cert c e)

-- And so does one with a row that cannot hold.
abbrev pub NoSolutionIsValid : Type 0
NoSolutionIsValid =
    (c : CaseView) (e : Dictionary) (r : ℕ) → IsCase c → IsOf (programme_of c) e → CannotHold e r
    → Shows c (cannot_cert c e r) × IsValid c (cannot_cert c e r)
