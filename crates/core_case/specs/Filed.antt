-- What the register keeps of the records.
use Rattle.std.specs.Prelude.{◌≡◌, Bool, true, List, map, Some, option_map, is_some, if◌then◌else◌}
use Rattle.std.specs.Option.{unwrap_or}
use Rattle.indexmap.specs.IndexMap.{IndexMap, get}
use Rattle.core_rows.specs.Names.{Record}
use Rattle.core_case.specs.Kinds.{heading_view, most_records}
use Rattle.core_case.specs.Faults.{filed, count_in, has_ended, heading_of, of_kind}
use Rattle.core_case.specs.declared.kinds.RecordKind.TheVariants.{Instrument}
use Rattle.core_case.specs.declared.register.Key.{Key}
use Rattle.core_case.specs.declared.register.Group.{Group}
use Rattle.core_case.specs.declared.register.Filed.{Filed}
use Rattle.core_case.specs.declared.register.Register.TheInside.{Inside}

abbrev pub records_in : Inside → List Record
records_in a = map (λ r. r.fields.now) a.rows.items

pub record Holds (same_key : Key → Key → Bool) (same_group : Group → Group → Bool) (a : Inside) (rs : List Record) : Type 0 where
  pub filed_as : (k : Key) → option_map (λ f. f.fields.now) (get same_key a.filed k) ≡ filed k.kind k.first.now k.second.now rs
  pub counted : (g : Group) → is_some (most_records g.kind) ≡ true → unwrap_or (get same_group a.counts g) 0 ≡ count_in g.kind g.name.now rs
  pub instruments_are : map (λ r. r.now) a.instruments.items ≡ of_kind Instrument rs
  pub heading_is : heading_view a.heading ≡ heading_of rs
  pub ended_is : a.ended ≡ has_ended rs

-- new is old with one more record under its key, unless one is filed there
abbrev pub FilesOnce : {S : Type 0} → (Key → Key → Bool) → IndexMap Key Filed S → Key → Filed → IndexMap Key Filed S → Type 0
FilesOnce same old key f new = (k : Key) → get same new k ≡ (if same key k then Some (unwrap_or (get same old key) f) else get same old k)
