-- That the text of a demo case states it.
use Rattle.std.specs.Prelude.{◌≡◌, ℕ, ◌≤◌, Ok}
use Rattle.core_case.specs.Stated.{case_of_bytes}
use Rattle.core_gen.specs.Demo.{demo_text}
use Rattle.core_gen.specs.Closed.{demo_view}

-- The text of the demo case of n futures states it, for n up to 32.
abbrev pub DemoTextsState : Type 0
DemoTextsState = (n : ℕ) → n ≤ 32 → case_of_bytes (demo_text n) ≡ Ok (demo_view n)
