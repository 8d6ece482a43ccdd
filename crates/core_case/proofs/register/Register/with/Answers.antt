-- The register of one more record files and counts it.
use Rattle.std.proofs.Common.{true, false, is_some, ◌||◌, ◌+◌, length-append, ◌≡◌, ◌∙◌, sym, ap, subst, ◌≤◌, List, [], ◌∷◌, ◌++◌, length, map, arith}
use Rattle.std.proofs.lemmas.List.{map-append, length-map}
use Rattle.std.proofs.lemmas.List.Elements.{filter-append}
use Rattle.std.specs.Option.{unwrap_or}
use Rattle.indexmap.specs.IndexMap.{get}
use Rattle.core_rows.specs.Names.{Record}
use Rattle.core_case.specs.Kinds.{heading_view, is_kind, most_records}
use Rattle.core_case.specs.Faults.{heading_of, of_kind}
use Rattle.core_case.specs.Filed.{records_in, Holds}
use Rattle.core_case.specs.declared.kinds.RecordKind.TheVariants.{End, Instrument}
use Rattle.core_case.proofs.FiledHeading.{heading-kept, ended-more}
use Rattle.core_case.specs.declared.register.Key.{Key}
use Rattle.core_case.proofs.FiledKeys.{same_key, same_group, IsKeyOf, IsGroupOf}
use Rattle.core_case.proofs.FiledMore.{filed_at, counted_in, filed-once, IsCounted, counted-raised, counted-kept, counted-most, value_at}
use Rattle.core_case.proofs.register.Register.with.Goals as goal
use Rattle.core_case.proofs.register.Register.with.Goals.{then-len-le2, else-len-le2, then-is_some+in_ok-insert, else-is_some}

-- a group has no more records than there are rows
pub overflow_add-count : goal.overflow_add-count
overflow_add-count c =
    let rs = records_in c.self.inside in
    let limited : is_some (most_records c.group_of-group.result.kind) ≡ true = ap (λ k. is_some (most_records k)) c.group_of-group.ensures.kind ∙ ap is_some (sym c.most_records.ensures) ∙ sym c.if-is_some.ensures in
    let is : c.unwrap_or-count.result ≡ unwrap_or (get same_group c.self.inside.counts c.group_of-group.result) 0 =
    c.unwrap_or-count.ensures ∙ ap (λ o. unwrap_or o 0) (c.copied.ensures ∙ c.get.ensures.value) in
    let counted : c.unwrap_or-count.result ≡ counted_in c.group_of-group.result rs = is ∙ c.self.invariant.counted c.group_of-group.result limited in
    let most : counted_in c.group_of-group.result rs ≤ length rs = counted-most c.group_of-group.result rs in
    let long : length rs ≡ length c.self.inside.rows.items = length-map c.self.inside.rows.items (λ r. r.fields.now) in
    omega arith

-- the rows with one more are filed under its key, and counted in its group
pub invariant_of-result : goal.invariant_of-result
invariant_of-result c =
    let rs : List Record = records_in c.self.inside in
    let pushed : map (λ r. r.fields.now) c.push.new.self.items ≡ rs ++ (c.args.row.now ∷ []) =
    ap (map (λ r. r.fields.now)) c.in_ok-push.ensures.items ∙ map-append (λ r. r.fields.now) c.self.inside.rows.items _ in
    let keyed : IsKeyOf c.args.kind c.args.row.now c.key_of-key.result =
    record { kind_is = c.key_of-key.ensures.kind; first_is = c.key_of-key.ensures.first; second_is = c.key_of-key.ensures.second } in
    let filed : (k : Key) → value_at (get same_key c.in_ok-filed.filed k) ≡ filed_at k (rs ++ (c.args.row.now ∷ [])) =
    filed-once c.args.kind _ c.key_of-key.result rs c.requires.of_kind keyed (get same_key c.self.inside.filed) (get same_key c.in_ok-filed.filed)
    c.self.invariant.filed_as c.in_ok-filed.ensures in
    let grown : length c.push.new.self.items ≡ length c.self.inside.rows.items + 1 = ap length c.in_ok-push.ensures.items ∙ length-append c.self.inside.rows.items _ in
    let same : length rs ≡ length c.self.inside.rows.items = length-map c.self.inside.rows.items (λ r. r.fields.now) in
    let heading : heading_view c.if-len-le2.heading ≡ heading_of (rs ++ (c.args.row.now ∷ [])) =
    elim c.if-len-le2.branch [
      | then-len-le2 w ↦
          ap heading_view w.heading-is ∙ w.heading_of-heading.ensures
          ∙ ap (λ rows. heading_of (map (λ r. r.fields.now) rows)) w.deref.ensures.value ∙ ap heading_of pushed
      | else-len-le2 w ↦
          let long : 2 ≤ length rs = omega (arith, grown, same) in
          ap heading_view w.heading-is ∙ c.self.invariant.heading_is ∙ sym (heading-kept rs c.args.row.now long)
    ] in
    let counts : IsCounted (get same_group c.if-is_some.counts) (rs ++ (c.args.row.now ∷ [])) =
    elim c.if-is_some.branch [
      | then-is_some+in_ok-insert w ↦
          let grouped : IsGroupOf c.args.kind c.args.row.now w.group_of-group.result =
          record { kind_is = w.group_of-group.ensures.kind; name_is = w.group_of-group.ensures.name } in
          let limited : is_some (most_records w.group_of-group.result.kind) ≡ true =
          ap (λ k. is_some (most_records k)) w.group_of-group.ensures.kind ∙ ap is_some (sym c.most_records.ensures) ∙ sym w.if-is_some.ensures in
          let count : w.unwrap_or-count.result ≡ unwrap_or (get same_group c.self.inside.counts w.group_of-group.result) 0 =
          w.unwrap_or-count.ensures ∙ ap (λ o. unwrap_or o 0) (w.copied.ensures ∙ w.get.ensures.value) in
          λ g asked. ap (λ m. unwrap_or (get same_group m g) 0) w.counts-is
          ∙ counted-raised c.args.kind c.args.row.now w.group_of-group.result rs c.requires.of_kind grouped (get same_group c.self.inside.counts)
          (get same_group w.insert.new.self) w.unwrap_or-count.result limited c.self.invariant.counted count w.in_ok-insert.ensures.updates.0 g asked
      | else-is_some w ↦
          let free : is_some (most_records c.args.kind) ≡ false = ap is_some (sym c.most_records.ensures) ∙ sym w.if-is_some.ensures in
          λ g asked. ap (λ m. unwrap_or (get same_group m g) 0) w.counts-is
          ∙ counted-kept c.args.kind c.args.row.now rs c.requires.of_kind free (get same_group c.self.inside.counts) c.self.invariant.counted g asked
    ] in
    let instruments : map (λ r. r.now) c.in_ok-instruments.instruments.items ≡ of_kind Instrument (rs ++ (c.args.row.now ∷ [])) =
    c.in_ok-instruments.ensures ∙ ap (λ xs. xs ++ of_kind Instrument (c.args.row.now ∷ [])) c.self.invariant.instruments_are
    ∙ sym (filter-append (is_kind Instrument) rs (c.args.row.now ∷ [])) in
    subst
    (Holds same_key same_group record { rows = c.push.new.self; filed = c.in_ok-filed.filed; counts = c.if-is_some.counts; instruments = c.in_ok-instruments.instruments; heading = c.if-len-le2.heading; ended = c.ends.result })
    (sym pushed)
    (record { filed_as = filed; counted = counts; instruments_are = instruments; heading_is = heading; ended_is = c.ends.ensures ∙ ap (λ b. b || is_kind End c.args.row.now) c.self.invariant.ended_is ∙ sym (ended-more rs c.args.row.now) })
