-- A calendar and weights, each with the case that it is of.
use Rattle.core_book.specs.View.{CaseView}
use Rattle.core_model.specs.declared.cert.Calendar.{Calendar}
use Rattle.core_model.specs.declared.cert.Weights.{Weights}
use Rattle.core_model.specs.Closing.{Plan}
use Rattle.core_model.specs.Layout.{plan_of}

pub record CalendarOfCase : Type 0 where
  pub case : CaseView
  pub calendar : Calendar

-- what it closes by line, day and tier
abbrev pub planned : CalendarOfCase → Plan
planned x = plan_of x.case x.calendar

pub record WeightsOfCase : Type 0 where
  pub case : CaseView
  pub weights : Weights
