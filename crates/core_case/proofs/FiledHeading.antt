-- What the register says of its first records and of its end, once there is one more record.
use Rattle.std.proofs.Common.{◌≡◌, ◌∙◌, refl, ap, ◌≤◌, List, [], ◌∷◌, ◌++◌, length, Bool, true, false, cond, ◌||◌, Option, Some, None, is_some, arith}
use Rattle.std.specs.Option.{option_or}
use Rattle.std.specs.List.{find}
use Rattle.std.proofs.lemmas.List.Folds.{find-append}
use Rattle.core_rows.specs.Names.{Record}
use Rattle.core_case.specs.Kinds.{is_kind}
use Rattle.core_case.specs.Faults.{has_ended, heading_of, is_filed}
use Rattle.core_case.specs.declared.kinds.RecordKind.TheVariants.{End}

-- a record after the second leaves the heading
pub heading-kept : (rs : List Record) (r : Record) → 2 ≤ length rs → heading_of (rs ++ (r ∷ [])) ≡ heading_of rs
heading-kept [] r some = absurd (omega (arith, some))
heading-kept (a ∷ []) r some = absurd (omega (arith, some))
heading-kept (a ∷ b ∷ rs) r some = refl

-- something of two is there where one of them is
either-some : (o : Option Record) (b : Bool) (r : Record) → is_some (option_or o (cond b (Some r) None)) ≡ (is_some o || b)
either-some (Some x) b r = refl
either-some None true r = refl
either-some None false r = refl

-- `end` has an empty key
end-filed : (r : Record) → is_filed End [] [] r ≡ is_kind End r
end-filed r = split (is_kind End r) refl
  where
    split : (b : Bool) → is_kind End r ≡ b → is_filed End [] [] r ≡ is_kind End r
    split true e = rw e refl
    split false e = rw e refl

-- `end` is among the records where it was or where the last is it
pub ended-more : (rs : List Record) (r : Record) → has_ended (rs ++ (r ∷ [])) ≡ (has_ended rs || is_kind End r)
ended-more rs r =
    ap is_some (find-append (is_filed End [] []) rs (r ∷ [])) ∙ either-some (find (is_filed End [] []) rs) (is_filed End [] [] r) r
    ∙ ap (λ b. has_ended rs || b) (end-filed r)
