-- Every sentence of the top call follows from the answer that is due and from what the shelf and the sink keep.
use Rattle.std.proofs.Common.{◌≡◌, ◌≢◌, refl, sym, subst, ℕ, ◌⊎◌, inl, inr, List, [], Option, None}
use Rattle.core_io.specs.States.{KeepsBytes, KeepsCounts, KeepsCount}
use Rattle.core_margin.specs.Laws.{MarginIsValid}
use Rattle.core_top.specs.Around.{Around, told, ShelfRose, Answered, written, cut, unanswered}
use Rattle.core_top.specs.Margin.{MarginShows, IsNeverSpent}
use Rattle.core_top.specs.Judged.{JudgedShows}
use Rattle.core_top.specs.Check.{Accepts}
use Rattle.core_top.specs.Report.{Reports}
use Rattle.core_top.specs.Demo.{DemoDue, DemoWords, DemoGuarantees}
use Rattle.core_top.specs.Commands.{Command, command_of, names_read, IsDue}
use Rattle.core_top.specs.Headline.{IsExact, IsComplete, HasCauses, Guarantees}
use Rattle.core_top.proofs.Statuses.{OwnStatus, never-2, never-7, never-8, read-6}
use Rattle.core_top.proofs.MarginDue.{margin-shows, margin-serves}
use Rattle.core_top.proofs.CheckDue.{check-shows}
use Rattle.core_top.proofs.ReportDue.{report-shows}
use Rattle.core_top.proofs.DemoDue.{demo-shows, demo-never}
use Rattle.core_top.proofs.Commands.{calm-due, due-own}

-- what may be answered may be seen as more
answered : (a : Around) (May May' : ℕ → List ℕ → Type 0) (status : ℕ) → ((s : ℕ) (t : List ℕ) → May s t → May' s t) → Answered a May status → Answered a May' status
answered a May May' status f (written s t may writes) = written s t (f s t may) writes
answered a May May' status f (cut s t may risen part) = cut s t (f s t may) risen part
answered a May May' status f (unanswered same) = unanswered same

complete : (a : Around) (command : Option Command) (status : ℕ) → IsExact a command status → IsComplete a command status
complete a command status (written s t due writes) calm steady = inr (record { text = t; due = calm-due command (told a) (ShelfRose a) calm s t due; writes = writes })
complete a command status (cut s t due risen part) calm steady = absurd (steady risen)
complete a command status (unanswered same) calm steady = inl refl

causes : (a : Around) (command : Option Command) (status : ℕ) → IsExact a command status → HasCauses a command status
causes a command status (written s t due writes) = by_own (due-own command (told a) (ShelfRose a) s t due)
  where
    by_own : ((command ≡ None) × (s ≡ 2)) ⊎ OwnStatus (ShelfRose a) (names_read command) s → HasCauses a command s
    by_own (inl here) = record {
      usage = λ e. here.0;
      read_fault = λ e. absurd (cc);
      sink_fault = λ e. absurd (cc);
      memory = λ e. absurd (cc);
    }
    by_own (inr own) = record {
      usage = λ e. absurd (never-2 (ShelfRose a) (names_read command) s own e);
      read_fault = λ e. read-6 (ShelfRose a) (names_read command) s own e;
      sink_fault = λ e. absurd (never-7 (ShelfRose a) (names_read command) s own e);
      memory = λ e. absurd (never-8 (ShelfRose a) (names_read command) s own e);
    }
causes a command status (cut s t due risen part) = record { usage = λ e. absurd (cc); read_fault = λ e. absurd (cc); sink_fault = λ e. risen; memory = λ e. absurd (cc) }
causes a command status (unanswered same) = record { usage = λ e. absurd (cc); read_fault = λ e. absurd (cc); sink_fault = λ e. absurd (cc); memory = λ e. same }

-- a status that no answer has, and that neither the sink nor memory has
never : (a : Around) (May : ℕ → List ℕ → Type 0) (n status : ℕ) → n ≢ 7 → n ≢ 8 → ((s : ℕ) (t : List ℕ) → May s t → s ≢ n) → Answered a May status → status ≢ n
never a May n status seven eight f (written s t may writes) = f s t may
never a May n status seven eight f (cut s t may risen part) = λ e. seven (sym e)
never a May n status seven eight f (unanswered same) = λ e. eight (sym e)

demo-guarantees : (a : Around) (asked : DemoWords) (status : ℕ) → Answered a (DemoDue asked) status → DemoGuarantees a asked status
demo-guarantees a asked status exact = record {
  shows = answered a (DemoDue asked) _ status (demo-shows asked) exact;
  closes = never a (DemoDue asked) 1 status (λ e. absurd (cc)) (λ e. absurd (cc)) (λ s t due. (demo-never asked s t due).0) exact;
  stated = never a (DemoDue asked) 3 status (λ e. absurd (cc)) (λ e. absurd (cc)) (λ s t due. (demo-never asked s t due).1) exact;
}

pub guaranteed : MarginIsValid → IsNeverSpent → (a : Around) (words : List (List ℕ)) (status : ℕ) → IsExact a (command_of words) status → KeepsBytes a.shelf_before a.shelf_after → KeepsCounts a.shelf_before a.shelf_after
    → KeepsCount a.sink_before a.sink_after → (names_read (command_of words) ≡ [] → a.shelf_after ≡ a.shelf_before) → Guarantees a words status
guaranteed valid served a words status exact kept shelf sink untouched = record {
  margin = λ asked e c has. answered a (IsDue (command_of words) (told a) (ShelfRose a)) (MarginShows (ShelfRose a) asked c) status
      (λ s t due. margin-shows valid (told a) (ShelfRose a) asked c has s t (subst (λ (x : Option Command). IsDue x (told a) (ShelfRose a) s t) e due)) exact;
  serves = λ asked e c has goes enough. never a (IsDue (command_of words) (told a) (ShelfRose a)) 5 status (λ e. absurd (cc)) (λ e. absurd (cc))
      (λ s t due. margin-serves served (told a) (ShelfRose a) asked c has goes enough s t (subst (λ (x : Option Command). IsDue x (told a) (ShelfRose a) s t) e due)) exact;
  check = λ asked e c has some. answered a (IsDue (command_of words) (told a) (ShelfRose a)) (JudgedShows (told a) (ShelfRose a) asked.case asked.cert c (Accepts c)) status
      (λ s t due. check-shows (told a) (ShelfRose a) asked c has some s t (subst (λ (x : Option Command). IsDue x (told a) (ShelfRose a) s t) e due)) exact;
  report = λ asked e c has some. answered a (IsDue (command_of words) (told a) (ShelfRose a)) (JudgedShows (told a) (ShelfRose a) asked.case asked.cert c (Reports c)) status
      (λ s t due. report-shows (told a) (ShelfRose a) asked c has some s t (subst (λ (x : Option Command). IsDue x (told a) (ShelfRose a) s t) e due)) exact;
  demo = λ asked e. demo-guarantees a asked status (subst (λ (x : Option Command). IsExact a x status) e exact);
  exact = exact;
  complete = complete a (command_of words) status exact;
  causes = causes a (command_of words) status exact;
  untouched = untouched;
  kept = kept;
  shelf_counts = shelf;
  sink_count = sink;
}
