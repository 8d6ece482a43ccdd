-- Texts of edits, each with what it states or its first fault.
use Rattle.std.proofs.Common.{◌≡◌, refl, ℕ, pos, negsuc, List, [], ◌∷◌, map, codes, Result, Ok, Err}
use Rattle.csv.specs.Machine.{next_record}
use Rattle.csv.specs.Reading.{records_from, strip_bom}
use Rattle.core_rows.specs.FirstFault.{first_fault_after}
use Rattle.core_rows.specs.Steps.{first_of, by_form}
use Rattle.core_book.specs.View.{CaseView}
use Rattle.core_book.specs.declared.parts.Kind.TheVariants.{Future, Security}
use Rattle.core_book.specs.declared.parts.Side.TheVariants.{Position, Collateral}
use Rattle.core_book.specs.declared.edit.Edit.{Edit}
use Rattle.core_book.specs.declared.edit.Edit.TheVariants.{Limit, Cap, Line, Cash}
use Rattle.core_edits.specs.Refusals.{edits_of_bytes}

-- two instruments, a short position and collateral, a pool and two tiers
abbrev case : CaseView
case = record {
  start = pos 19723;
  horizon = 2;
  last = 3;
  holidays = ([] ∷ [] ∷ []);
  instruments = (record { name = (codes "IND"); kind = Future; mult = pos 1; delay = 1; lag = 1; expiry = 0 } ∷ record { name = (codes "SHR"); kind = Security; mult = pos 1; delay = 1; lag = 0; expiry = 0 } ∷ []);
  markets = (1 ∷ 1 ∷ []);
  depth = ((record { cost = pos 0; limits = (pos 10 ∷ pos 10 ∷ []) } ∷ []) ∷ (record { cost = pos 0; limits = (pos 4 ∷ pos 4 ∷ []) } ∷ record { cost = pos 2; limits = (pos 3 ∷ pos 3 ∷ []) } ∷ []) ∷ []);
  pools = (record { name = (codes "EQ"); cap = pos 9 } ∷ []);
  members = (record { pool = 0; instrument = 1; weight = pos 1 } ∷ []);
  scenarios = ((codes "DOWN") ∷ []);
  prices = (((pos 100 ∷ pos 95 ∷ pos 90 ∷ pos 90 ∷ []) ∷ (pos 7 ∷ pos 6 ∷ pos 5 ∷ pos 5 ∷ []) ∷ []) ∷ []);
  lines = (record { instrument = 0; side = Position; sign = negsuc 0; amount = pos 20 } ∷ record { instrument = 1; side = Collateral; sign = pos 1; amount = pos 5 } ∷ []);
  cash = (pos 0 ∷ pos 0 ∷ pos 0 ∷ pos 0 ∷ []);
}

abbrev Texts : Type 0
Texts = List (List ℕ × Result (List Edit) (ℕ × ℕ))

-- texts that state edits
abbrev sound : Texts
sound =
    (codes "edits,1\nlimit,SHR,2,2,7\ncap,EQ,3\nposition,IND,-7\ncollateral,SHR,9\ncash,3,-4\nend\n", Ok (Limit 1 2 2 (pos 7) ∷ Cap 0 (pos 3) ∷ Line 0 (pos 7) ∷ Line 1 (pos 9) ∷ Cash 3 (negsuc 3) ∷ []))
    ∷ (codes "edits,1\nend\n", Ok [])
    ∷ (codes "edits,1\nlimit,SHR,2,2,7\nend\n", Ok (Limit 1 2 2 (pos 7) ∷ []))
    ∷ (codes "edits,1\nposition,IND,-7\nend\n", Ok (Line 0 (pos 7) ∷ []))
    ∷ []

-- and texts with a fault
abbrev faulty : Texts
faulty =
    ([], Err (1, 1))
    ∷ (codes "edits\n", Err (1, 5))
    ∷ (codes "edits,2\n", Err (1, 2))
    ∷ (codes "edits,1\n", Err (2, 17))
    ∷ (codes "edit,1\nend\n", Err (1, 1))
    ∷ (codes "edits,1\nedits,1\nend\n", Err (2, 4))
    ∷ (codes "edits,1\nend\nend\n", Err (3, 16))
    ∷ (codes "edits,1\nend\ncash,0,1\n", Err (3, 16))
    ∷ (codes "edits,1\nend,1\n", Err (2, 5))
    ∷ (codes "edits,1\nlimits,IND,1,1,1\n", Err (2, 3))
    ∷ (codes "edits,1\nlimit,IND,1,1\n", Err (2, 5))
    ∷ (codes "edits,1\nlimit,ind,x,1,1\n", Err (2, 6))
    ∷ (codes "edits,1\nlimit,IND,x,9,1\n", Err (2, 7))
    ∷ (codes "edits,1\nlimit,IND,0,1,1\n", Err (2, 10))
    ∷ (codes "edits,1\nlimit,NONE,3,1,1\n", Err (2, 10))
    ∷ (codes "edits,1\nlimit,NONE,2,4,1\n", Err (2, 11))
    ∷ (codes "edits,1\nlimit,IND,2,2,1\n", Err (2, 14))
    ∷ (codes "edits,1\nlimit,SHR,2,3,7\nend\n", Err (2, 14))
    ∷ (codes "edits,1\nlimit,IND,2,5,1\n", Err (2, 10))
    ∷ (codes "edits,1\nlimit,IND,2,1,1000000001\n", Err (2, 10))
    ∷ (codes "edits,1\ncap,EQ,3\ncap,IND,3\n", Err (3, 11))
    ∷ (codes "edits,1\ncap,EQ,-1\n", Err (2, 10))
    ∷ (codes "edits,1\nposition,IND,20\n", Err (2, 18))
    ∷ (codes "edits,1\nposition,IND,0\n", Err (2, 10))
    ∷ (codes "edits,1\nposition,SHR,7\n", Err (2, 14))
    ∷ (codes "edits,1\nposition,IND,-1000000000\nposition,IND,-1000000001\n", Err (3, 10))
    ∷ (codes "edits,1\ncollateral,SHR,5\ncollateral,IND,5\n", Err (3, 14))
    ∷ (codes "edits,1\ncollateral,SHR,0\n", Err (2, 10))
    ∷ (codes "edits,1\ncash,3,-1000000000000000\ncash,4,0\n", Err (3, 10))
    ∷ (codes "edits,1\ncash,0,1000000000000001\n", Err (2, 10))
    ∷ (codes "edits,1\ncash,x\n", Err (2, 5))
    ∷ (codes "edits,1\ncollateral,shr,x\n", Err (2, 6))
    ∷ (codes "edits,2\nedits,3\n", Err (1, 2))
    ∷ (codes "edits,x,1\n", Err (1, 5))
    ∷ (codes "core,1\n", Err (1, 1))
    ∷ (codes "edits,1\nlimit,,1,1,1\n", Err (2, 6))
    ∷ []

sound-texts : map (λ x. edits_of_bytes case x.0) sound ≡ map (λ x. x.1) sound
unfolding next_record records_from strip_bom first_of by_form first_fault_after edits_of_bytes
sound-texts = refl

faulty-texts : map (λ x. edits_of_bytes case x.0) faulty ≡ map (λ x. x.1) faulty
unfolding next_record records_from strip_bom first_of by_form first_fault_after edits_of_bytes
faulty-texts = refl
