-- The numbers of the conditions of the check.
use Rattle.std.specs.Prelude.{ℕ}
use Rattle.core_model.specs.declared.condition.Condition.{Condition}
use Rattle.core_model.specs.declared.condition.Condition.TheVariants.{Denominators, AmountSigns, AllowedClosings, FullClosings, Limits, Caps, Losses, WorstLoss, WeightSigns, WeightSum, Charges, Bound}

abbrev pub number_of : Condition → ℕ
number_of Denominators = 1
number_of AmountSigns = 2
number_of AllowedClosings = 3
number_of FullClosings = 4
number_of Limits = 5
number_of Caps = 6
number_of Losses = 7
number_of WorstLoss = 8
number_of WeightSigns = 9
number_of WeightSum = 10
number_of Charges = 11
number_of Bound = 12
